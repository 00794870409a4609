-- What a descriptor spells is kept with its form.
use Rattle.std.proofs.Common.{◌≡◌, inl, inr, ℕ, Bool, true, false, List, [], ◌∷◌, ◌++◌, refl, ap, sym, ◌∙◌, append_assoc, append-nil, Option, arith}
use Rattle.std.specs.List.{All, list_all}
use Rattle.std.proofs.lemmas.List.Elements.{All-nil, All-cons}
use Rattle.std.proofs.lemmas.List.Folds.{list_all-append}
use Rattle.std.proofs.lemmas.Bool.{and_parts}
use Rattle.gw_text.specs.Lexical.{backslash, right_brace, is_blank}
use Rattle.gw_text.specs.Runs.{IsRun}
use Rattle.gw_text.specs.Octets.{is_octet, EndsIn, EndsKept, IsOctets, IsOctetsOf}
use Rattle.gw_text.specs.Forms.{Separated, Braced}
use Rattle.gw_text.specs.Group.{IsGroup}
use Rattle.gw_desc.specs.Grammar.{request_depth, SpellsProperty, SpellsTail, SpellsEquals, SpellsOptionalGroup, IsThere, SpellsStreamPart, SpellsMediaPart, SpellsDescriptor}
use Rattle.gw_desc.specs.declared.descriptor.Descriptor.{Descriptor}
use Rattle.gw_desc.specs.declared.descriptor.Descriptor.TheVariants as descriptor
use Rattle.gw_desc.specs.declared.descriptor.MediaPart.{MediaPart}
use Rattle.gw_desc.specs.declared.descriptor.MediaPart.TheVariants as media
use Rattle.gw_desc.specs.declared.descriptor.StreamPart.{StreamPart}
use Rattle.gw_desc.specs.declared.descriptor.StreamPart.TheVariants as part
use Rattle.gw_desc.specs.declared.descriptor.Property.{Property}
use Rattle.gw_desc.specs.declared.descriptor.Tail.{Tail}
use Rattle.gw_desc.specs.KeptTexts.{IsOptional, IsKeptProperty, IsKeptWord, IsKeptTail, IsKeptOctets, HasKeptParts, HasKeptMedia, HasKeptTexts}

-- ---- properties and tails

pub property_kept : (p : Property (List ℕ)) (text : List ℕ) → SpellsProperty p text → IsKeptProperty p
property_kept p text h = grind arith

equals_kept : (equals : Bool) (w : Option (List ℕ)) (text : List ℕ) → SpellsEquals equals w text → (IsThere w → equals ≡ true) → IsOptional (IsKeptWord equals) w
equals_kept equals w text h behind = grind arith

group_kept : (g : Option (List ℕ)) (text : List ℕ) → SpellsOptionalGroup g text → IsOptional (IsGroup request_depth) g
group_kept g text h = grind arith

pub tail_kept : (t : Tail (List ℕ)) (text : List ℕ) → SpellsTail t text → IsKeptTail t
tail_kept t text h = record { word = equals_kept t.equals t.word h.words.front h.words.first h.behind; group = group_kept t.group h.words.back h.words.second; some = h.some }

-- ---- octets

-- a text that ends in a `\` behind a text of blanks does so without it
ends_without : (lead before : List ℕ) → IsRun is_blank lead → EndsIn backslash (lead ++ before) → EndsIn backslash before
ends_without [] before h e = e
ends_without (b ∷ bs) before h e =
    let a = and_parts (is_blank b) (list_all is_blank bs) h in
    ends_without bs before a.1 (tail_ends b (bs ++ before) a.0 e.0 e.1)
  where
    tail_ends : (b : ℕ) (more : List ℕ) → is_blank b ≡ true → (front : List ℕ) → b ∷ more ≡ front ++ backslash ∷ [] → EndsIn backslash more
    tail_ends b more white [] e = let same : b ≡ backslash = cc in let clash : true ≡ false = sym white ∙ ap is_blank same in absurd cc
    tail_ends b more white (c ∷ cs) e = let same : more ≡ cs ++ backslash ∷ [] = cc in (cs, same)

-- the octets that are kept
kept_octets : (span body : List ℕ) → IsOctetsOf span body → IsOctets span
kept_octets span body h = record {
  octets = run_middle (ap (list_all is_octet) (sym h.trimmed.split) ∙ h.octets.octets);
  escaped = λ before after e.
      ends_without h.trimmed.lead before h.trimmed.lead_blank
      (h.octets.escaped (h.trimmed.lead ++ before) (after ++ h.trimmed.trail)
      (h.trimmed.split ∙ ap (λ (x : List ℕ). h.trimmed.lead ++ (x ++ h.trimmed.trail)) e ∙ ap (λ (x : List ℕ). h.trimmed.lead ++ x) (append_assoc before (right_brace ∷ after) h.trimmed.trail) ∙ sym (append_assoc h.trimmed.lead before (right_brace ∷ (after ++ h.trimmed.trail)))));
  closed = λ e. closed_by e h.trimmed.ends;
}
  where
    run_middle : list_all is_octet (h.trimmed.lead ++ (span ++ h.trimmed.trail)) ≡ true → list_all is_octet span ≡ true
    run_middle r =
        let a = and_parts (list_all is_octet h.trimmed.lead) (list_all is_octet (span ++ h.trimmed.trail)) (sym (list_all-append is_octet h.trimmed.lead (span ++ h.trimmed.trail)) ∙ r) in
        (and_parts (list_all is_octet span) (list_all is_octet h.trimmed.trail) (sym (list_all-append is_octet span h.trimmed.trail) ∙ a.1)).0

    last_of : (front other : List ℕ) (a b : ℕ) → front ++ a ∷ [] ≡ other ++ b ∷ [] → a ≡ b
    last_of [] [] a b e = cc
    last_of [] (c ∷ []) a b e = absurd cc
    last_of [] (c ∷ (d ∷ cs)) a b e = absurd cc
    last_of (c ∷ []) [] a b e = absurd cc
    last_of (c ∷ (d ∷ cs)) [] a b e = absurd cc
    last_of (c ∷ cs) (d ∷ ds) a b e = let more : cs ++ a ∷ [] ≡ ds ++ b ∷ [] = cc in last_of cs ds a b more

    closed_by : EndsIn backslash span → EndsKept span h.trimmed.trail → ⊥
    closed_by e (inl k) =
        let last : k.1 ≡ backslash = last_of k.0 e.0 k.1 backslash (sym k.2 ∙ e.1) in
        let none : h.trimmed.trail ≡ [] = k.4 last in
        h.octets.closed (h.trimmed.lead ++ e.0, h.trimmed.split ∙ ap (λ (x : List ℕ). h.trimmed.lead ++ (span ++ x)) none ∙ ap (λ (x : List ℕ). h.trimmed.lead ++ x) (append-nil span ∙ e.1) ∙ sym (append_assoc h.trimmed.lead e.0 (backslash ∷ [])))
    closed_by e (inr (inl k)) =
        let last : k.1 ≡ backslash = last_of (k.0 ++ backslash ∷ []) e.0 k.1 backslash (append_assoc k.0 (backslash ∷ []) (k.1 ∷ []) ∙ sym k.2 ∙ e.1) in
        let clash : true ≡ false = sym k.3 ∙ ap is_blank last in
        absurd cc
    closed_by e (inr (inr k)) = none_ends e.0 (sym k ∙ e.1)
      where
        none_ends : (front : List ℕ) → [] ≡ front ++ backslash ∷ [] → ⊥
        none_ends [] e = absurd cc
        none_ends (c ∷ cs) e = absurd cc

ends_kept : (span trail : List ℕ) → EndsKept span trail → EndsKept span []
ends_kept span trail h = grind arith

-- and all of them is kept again
pub octets_kept : (span body : List ℕ) → IsOctetsOf span body → IsKeptOctets span
octets_kept span body h = record {
  octets = kept_octets span body h;
  trimmed = record { lead = []; trail = []; split = sym (append-nil span); lead_blank = refl; trail_blank = refl; begins_solid = h.trimmed.begins_solid; ends = ends_kept span h.trimmed.trail h.trimmed.ends };
}

-- ---- lists

separated_kept : {V : Type 0} (Form : V → List ℕ → Type 0) (P : V → Type 0) → ((v : V) (text : List ℕ) → Form v text → P v) → (vs : List V) (text : List ℕ) → Separated Form vs text → All P vs
separated_kept Form P each [] text h = absurd h
separated_kept Form P each (x ∷ []) text h = All-cons P x [] (each x text h) (All-nil P)
separated_kept Form P each (x ∷ (y ∷ ys)) text h = All-cons P x (y ∷ ys) (each x h.front h.first) (separated_kept Form P each (y ∷ ys) h.second.back h.second.second)

braced_kept : {V : Type 0} (Form : V → List ℕ → Type 0) (P : V → Type 0) → ((v : V) (text : List ℕ) → Form v text → P v) → (vs : List V) (text : List ℕ) → Braced Form vs text → All P vs
braced_kept Form P each vs text h = separated_kept Form P each vs h.second.front h.second.first

-- ---- descriptors

part_kept : (p : StreamPart) (text : List ℕ) → SpellsStreamPart p text → HasKeptParts p
part_kept (part.Local span) text h = let o = h.second.second.second in octets_kept span o.front o.first
part_kept (part.Remote span) text h = let o = h.second.second.second in octets_kept span o.front o.first
part_kept (part.LocalControl properties) text h = braced_kept SpellsProperty IsKeptProperty property_kept properties h.back h.second

media_kept : (p : MediaPart) (text : List ℕ) → SpellsMediaPart p text → HasKeptMedia p
media_kept (media.Outside p) text h = part_kept p text h
media_kept (media.Stream id parts) text h = let list = h.second.second in braced_kept SpellsStreamPart HasKeptParts part_kept parts list.back list.second
media_kept (media.TerminationState properties) text h = braced_kept SpellsProperty IsKeptProperty property_kept properties h.back h.second

pub descriptor_kept : (d : Descriptor) (text : List ℕ) → SpellsDescriptor d text → HasKeptTexts d
descriptor_kept (descriptor.Media parts) text h = braced_kept SpellsMediaPart HasKeptMedia media_kept parts h.back h.second
descriptor_kept (descriptor.Keep kind tail) text h = tail_kept tail h.back h.second
descriptor_kept (descriptor.Audit words) text h = tt
descriptor_kept (descriptor.Services parms) text h = tt
descriptor_kept (descriptor.Other word) text h = tt
