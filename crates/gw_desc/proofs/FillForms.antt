-- Where plain text is put in the place of a `$`, octets of which all is kept stay so.
use Rattle.std.proofs.Common.{zero, suc, ◌≤◌, ◌/◌, ◌%◌, cond, length, decimal, ◌≡◌, ◌⊎◌, inl, inr, ℕ, ◌==◌, ◌<◌, Bool, true, false, not, ◌||◌, ◌&&◌, List, [], ◌∷◌, ◌++◌, refl, ap, sym, ◌∙◌, subst, append-nil, append_assoc, arith}
use Rattle.std.specs.List.{list_all}
use Rattle.std.specs.Fmt.{digit_glyph, digits_onto, digits}
use Rattle.std.proofs.lemmas.Bool.{and_parts, and_from, eqb-true}
use Rattle.std.proofs.lemmas.Bool.Decides.{nat_tests}
use Rattle.std.proofs.Math.Bool.{or-true}
use Rattle.gw_base.specs.Bytes.{is_digit}
use Rattle.gw_base.specs.Addresses.{is_address_byte, IsAddress}
use Rattle.gw_text.specs.Lexical.{nul, backslash, right_brace, is_blank}
use Rattle.gw_text.specs.Runs.{IsRun, begins}
use Rattle.gw_text.specs.Octets.{EndsKept}
use Rattle.gw_text.proofs.FormLaws.{are_octets, octets_are, are_are}
use Rattle.gw_desc.specs.Fill.{is_connection, is_media_line}
use Rattle.gw_desc.specs.KeptTexts.{IsKeptOctets}
use Rattle.gw_desc.specs.FillSteps.{is_plain_byte, IsPlain, IsPut, IsFilledOnce, IsChain, IsReached}

-- a plain byte, by its parts
pub record IsPlainByte (b : ℕ) : Type 0 where
  nul : b == nul ≡ false
  brace : b == right_brace ≡ false
  slash : b == backslash ≡ false
  solid : is_blank b ≡ false

plain_byte : (b : ℕ) → is_plain_byte b ≡ true → IsPlainByte b
plain_byte b h = grind arith

dollar : IsPlainByte 36
dollar = record { nul = refl; brace = refl; slash = refl; solid = refl }

-- ---- octets

octets_plain : (e : Bool) (b : ℕ) (bs : List ℕ) → IsPlainByte b → are_octets e (b ∷ bs) ≡ are_octets false bs
octets_plain e b bs h = rw (h.nul, h.brace, h.slash, or-true e) refl

octets_run : (new rest : List ℕ) → IsRun is_plain_byte new → are_octets false (new ++ rest) ≡ are_octets false rest
octets_run [] rest h = refl
octets_run (b ∷ bs) rest h =
    let a = and_parts (is_plain_byte b) (list_all is_plain_byte bs) h in
    octets_plain false b (bs ++ rest) (plain_byte b a.0) ∙ octets_run bs rest a.1

octets_new : (e : Bool) (new rest : List ℕ) → IsPlain new → are_octets e (new ++ rest) ≡ are_octets false rest
octets_new e [] rest h = absurd (let some : 0 < 0 = h.some in omega arith)
octets_new e (b ∷ bs) rest h = grind (arith, and_parts, octets_plain, plain_byte, octets_run)

octets_filled : (e : Bool) (before new behind : List ℕ) → IsPlain new → are_octets e (before ++ (new ++ behind)) ≡ are_octets e (before ++ 36 ∷ behind)
octets_filled e [] new behind h = octets_new e new behind h ∙ sym (octets_plain e 36 behind dollar)
octets_filled e (b ∷ bs) new behind h = ap (λ (t : Bool). not (b == nul) && ((e || not (b == right_brace)) && t)) (octets_filled (b == backslash) bs new behind h)

-- ---- how they end

-- whether it ends as what is kept may; kept: what is in front of it does, e: it stands behind a `\`
abbrev ends_kept : (kept e : Bool) → List ℕ → Bool
ends_kept kept e [] = kept
ends_kept kept e (b ∷ bs) = ends_kept (e || not (is_blank b)) (b == backslash) bs

ends_solid : (kept e : Bool) (front : List ℕ) (last : ℕ) → is_blank last ≡ false → ends_kept kept e (front ++ last ∷ []) ≡ true
ends_solid kept e [] last h = rw h (or-true e)
ends_solid kept e (b ∷ bs) last h = ends_solid (e || not (is_blank b)) (b == backslash) bs last h

ends_slash : (kept e : Bool) (front : List ℕ) (last : ℕ) → ends_kept kept e (front ++ backslash ∷ (last ∷ [])) ≡ true
ends_slash kept e [] last = refl
ends_slash kept e (b ∷ bs) last = ends_slash (e || not (is_blank b)) (b == backslash) bs last

ends_are : (span trail : List ℕ) → EndsKept span trail → ends_kept true false span ≡ true
ends_are span trail h = grind (arith, ends_solid, ends_slash)

-- and back
abbrev Ends : (kept e : Bool) → List ℕ → Type 0
Ends kept e span =
    ((front : List ℕ) × (last : ℕ) × (span ≡ front ++ last ∷ []) × (is_blank last ≡ false))
    ⊎ (((front : List ℕ) × (last : ℕ) × (span ≡ front ++ backslash ∷ (last ∷ [])) × (is_blank last ≡ true))
    ⊎ (((last : ℕ) × (span ≡ last ∷ []) × (e ≡ true) × (is_blank last ≡ true)) ⊎ ((span ≡ []) × (kept ≡ true))))

ends_one : (e : Bool) (b : ℕ) (t : Bool) → is_blank b ≡ t → e || not t ≡ true → (kept : Bool) → Ends kept e (b ∷ [])
ends_one e b false is h kept = inl ([], b, refl, is)
ends_one true b true is h kept = inr (inr (inl (b, refl, refl, is)))
ends_one false b true is h kept = absurd cc

ends_more : (kept e k : Bool) (b : ℕ) (span : List ℕ) → (span ≡ [] → Ends kept e (b ∷ [])) → Ends k (b == backslash) span → Ends kept e (b ∷ span)
ends_more kept e k b span one (inl h) = inl (b ∷ h.0, h.1, ap (λ (t : List ℕ). b ∷ t) h.2, h.3)
ends_more kept e k b span one (inr (inl h)) = inr (inl (b ∷ h.0, h.1, ap (λ (t : List ℕ). b ∷ t) h.2, h.3))
ends_more kept e k b span one (inr (inr (inl h))) =
    let slash : b ≡ backslash = eqb-true b backslash h.2 in
    inr (inl ([], h.0, ap (λ (t : List ℕ). b ∷ t) h.1 ∙ ap (λ (c : ℕ). c ∷ (h.0 ∷ [])) slash, h.3))
ends_more kept e k b span one (inr (inr (inr h))) = subst (λ (s : List ℕ). Ends kept e (b ∷ s)) (sym h.0) (one h.0)

ends_back : (kept e : Bool) (span : List ℕ) → ends_kept kept e span ≡ true → Ends kept e span
ends_back kept e [] h = inr (inr (inr (refl, h)))
ends_back kept e (b ∷ bs) h =
    ends_more kept e (e || not (is_blank b)) b bs
    (λ none. ends_one e b (is_blank b) refl (sym (ap (ends_kept (e || not (is_blank b)) (b == backslash)) none) ∙ h) kept)
    (ends_back (e || not (is_blank b)) (b == backslash) bs h)

as_kept : (span : List ℕ) → Ends true false span → EndsKept span []
as_kept span h = grind arith

ends_plain : (kept e : Bool) (b : ℕ) (bs : List ℕ) → IsPlainByte b → ends_kept kept e (b ∷ bs) ≡ ends_kept true false bs
ends_plain kept e b bs h = rw (h.solid, h.slash, or-true e) refl

ends_run : (new rest : List ℕ) → IsRun is_plain_byte new → ends_kept true false (new ++ rest) ≡ ends_kept true false rest
ends_run [] rest h = refl
ends_run (b ∷ bs) rest h =
    let a = and_parts (is_plain_byte b) (list_all is_plain_byte bs) h in
    ends_plain true false b (bs ++ rest) (plain_byte b a.0) ∙ ends_run bs rest a.1

ends_new : (kept e : Bool) (new rest : List ℕ) → IsPlain new → ends_kept kept e (new ++ rest) ≡ ends_kept true false rest
ends_new kept e [] rest h = absurd (let some : 0 < 0 = h.some in omega arith)
ends_new kept e (b ∷ bs) rest h = grind (arith, and_parts, ends_plain, plain_byte, ends_run)

ends_filled : (kept e : Bool) (before new behind : List ℕ) → IsPlain new → ends_kept kept e (before ++ (new ++ behind)) ≡ ends_kept kept e (before ++ 36 ∷ behind)
ends_filled kept e [] new behind h = ends_new kept e new behind h ∙ sym (ends_plain kept e 36 behind dollar)
ends_filled kept e (b ∷ bs) new behind h = ends_filled (e || not (is_blank b)) (b == backslash) bs new behind h

-- ---- how they begin

begins_filled : (before new behind : List ℕ) → IsPlain new → begins is_blank (before ++ 36 ∷ behind) ≡ false → begins is_blank (before ++ (new ++ behind)) ≡ false
begins_filled [] [] behind h k = absurd (let some : 0 < 0 = h.some in omega arith)
begins_filled [] (b ∷ bs) behind h k = let a = and_parts (is_plain_byte b) (list_all is_plain_byte bs) h.run in (plain_byte b a.0).solid
begins_filled (b ∷ bs) new behind h k = k

kept_filled : (before new behind : List ℕ) → IsPlain new → IsKeptOctets (before ++ 36 ∷ behind) → IsKeptOctets (before ++ (new ++ behind))
kept_filled before new behind h k =
    let old : List ℕ = before ++ 36 ∷ behind in
    let text : List ℕ = before ++ (new ++ behind) in
    record {
      octets = are_are text (octets_filled false before new behind h ∙ octets_are old k.octets);
      trimmed = record {
        lead = [];
        trail = [];
        split = sym (append-nil text);
        lead_blank = refl;
        trail_blank = refl;
        begins_solid = begins_filled before new behind h k.trimmed.begins_solid;
        ends = as_kept text (ends_back true false text (ends_filled true false before new behind h ∙ ends_are old k.trimmed.trail k.trimmed.ends));
      };
    }

-- ---- step by step

pub put_kept : (is_kind : List ℕ → Bool) (place : ℕ) (new old text : List ℕ) → IsPlain new → IsPut is_kind place new old text → IsKeptOctets old → IsKeptOctets text
put_kept is_kind place new old text plain s k =
    subst IsKeptOctets (append_assoc s.lines s.fields (new ++ s.behind) ∙ sym s.is)
    (kept_filled (s.lines ++ s.fields) new s.behind plain (subst IsKeptOctets (s.was ∙ sym (append_assoc s.lines s.fields (36 ∷ s.behind))) k))

pub step_kept : (address port old text : List ℕ) → IsPlain address → IsPlain port → IsFilledOnce address port old text → IsKeptOctets old → IsKeptOctets text
step_kept address port old text a p (inl s) k = put_kept is_connection 2 address old text a s k
step_kept address port old text a p (inr s) k = put_kept is_media_line 1 port old text p s k

chain_kept : (address port old : List ℕ) (texts : List (List ℕ)) (new : List ℕ) → IsPlain address → IsPlain port → IsChain (IsFilledOnce address port) old texts new → IsKeptOctets old → IsKeptOctets new
chain_kept address port old [] new a p s k = subst IsKeptOctets s k
chain_kept address port old (text ∷ texts) new a p s k = chain_kept address port text texts new a p s.1 (step_kept address port old text a p s.0 k)

pub reached_kept : (address port old new : List ℕ) → IsPlain address → IsPlain port → IsReached (IsFilledOnce address port) old new → IsKeptOctets old → IsKeptOctets new
reached_kept address port old new a p r k = chain_kept address port old r.0 new a p r.1 k

-- ---- what is put in is plain

plain_from : (p : ℕ → Bool) → p 0 ≡ false → p 125 ≡ false → p 92 ≡ false → p 32 ≡ false → p 9 ≡ false → p 13 ≡ false → p 10 ≡ false → (b : ℕ) → p b ≡ true → is_plain_byte b ≡ true
plain_from p zero_not brace slash space tab cr lf b h = grind arith

address_byte : (b : ℕ) → is_address_byte b ≡ true → is_plain_byte b ≡ true
address_byte = plain_from is_address_byte refl refl refl refl refl refl refl

plain_digit : (b : ℕ) → is_digit b ≡ true → is_plain_byte b ≡ true
plain_digit = plain_from is_digit refl refl refl refl refl refl refl

wider : (p q : ℕ → Bool) → ((c : ℕ) → p c ≡ true → q c ≡ true) → (text : List ℕ) → list_all p text ≡ true → list_all q text ≡ true
wider p q h [] all = refl
wider p q h (c ∷ cs) all =
    let a = and_parts (p c) (list_all p cs) all in
    and_from (q c) (list_all q cs) (h c a.0) (wider p q h cs a.1)

pub address_plain : (address : List ℕ) → IsAddress address → IsPlain address
address_plain address h = record { run = wider is_address_byte is_plain_byte address_byte address h.each; some = h.some }

-- a digit is written as one
glyph_digit : (d : ℕ) → d < 10 → is_digit (digit_glyph false d) ≡ true
glyph_digit d h = grind (arith, nat_tests)

-- any number is written in digits, and in one at least
onto_run : (places n : ℕ) (behind : List ℕ) → IsRun is_digit behind → IsRun is_digit (digits_onto places 10 false n behind)
onto_run zero n behind h = h
onto_run (suc places) n behind h =
    let here : IsRun is_digit (digit_glyph false (n % 10) ∷ behind) = and_from (is_digit (digit_glyph false (n % 10))) (list_all is_digit behind) (glyph_digit (n % 10) (omega arith)) h in
    by_last (n / 10 == 0) here (onto_run places (n / 10) (digit_glyph false (n % 10) ∷ behind) here)
  where
    by_last : (last : Bool) → IsRun is_digit (digit_glyph false (n % 10) ∷ behind) → IsRun is_digit (digits_onto places 10 false (n / 10) (digit_glyph false (n % 10) ∷ behind))
        → IsRun is_digit (cond last (digit_glyph false (n % 10) ∷ behind) (digits_onto places 10 false (n / 10) (digit_glyph false (n % 10) ∷ behind)))
    by_last true x y = x
    by_last false x y = y

onto_some : (places n : ℕ) (behind : List ℕ) → length behind ≤ length (digits_onto places 10 false n behind)
onto_some zero n behind = omega arith
onto_some (suc places) n behind = grind (arith, onto_some places (n / 10) (digit_glyph false (n % 10) ∷ behind))

some_digit : (n : ℕ) → 0 < length (digits_onto 64 10 false n [])
some_digit n = by_last (n / 10 == 0) (onto_some 63 (n / 10) (digit_glyph false (n % 10) ∷ []))
  where
    by_last : (last : Bool) → 1 ≤ length (digits_onto 63 10 false (n / 10) (digit_glyph false (n % 10) ∷ []))
        → 0 < length (cond last (digit_glyph false (n % 10) ∷ []) (digits_onto 63 10 false (n / 10) (digit_glyph false (n % 10) ∷ [])))
    by_last true y = omega arith
    by_last false y = omega arith

pub decimal_run : (n : ℕ) → IsRun is_digit (decimal n)
unfolding digits
decimal_run n = onto_run 64 n [] refl

pub decimal_plain : (n : ℕ) → IsPlain (decimal n)
unfolding digits
decimal_plain n = record { run = wider is_digit is_plain_byte plain_digit (decimal n) (decimal_run n); some = some_digit n }
