-- A Local is filled one `$` after the other.
use Rattle.std.proofs.lemmas.Grind.{common_steps}
use Rattle.std.proofs.Common.{◌≡◌, ◌⊎◌, inl, inr, ℕ, zero, suc, ◌==◌, Bool, true, false, List, [], ◌∷◌, ◌++◌, length, map, codes, decimal, refl, ap, sym, ◌∙◌, subst, append_assoc, append-nil, arith}
use Rattle.std.specs.List.{AllByRecursion, list_any, filter, slice_split, starts_with}
use Rattle.std.specs.Prelude.{slice_index_or, slice_set}
use Rattle.std.proofs.lemmas.Bool.{or_parts}
use Rattle.std.proofs.lemmas.List.Splits.{length-slice_split}
use Rattle.std.proofs.lemmas.List.Sums.{length-filter}
use Rattle.std.proofs.lemmas.Slice.Eq.{bytes_eq-Decides}
use Rattle.gw_base.specs.Bytes.{is_one_of}
use Rattle.gw_text.specs.Runs.{begins}
use Rattle.gw_desc.specs.Fill.{line_ends, field_ends, ends_of, lines_of, fields_of, interleaved, has_choose, with_field, put, is_connection, is_media_line, filled_line, is_fillable_line, filled_text, filled, is_fillable, port_of}
use Rattle.gw_desc.specs.FillSteps.{IsWhole, is_field_end, IsPut, IsFilledOnce, IsChain, IsReached}
use Rattle.gw_desc.proofs.Fills.{ends_next, laid_again}

-- ---- parts and their ends

abbrev pub IsClean : (ℕ → Bool) → List ℕ → Type 0
IsClean p part = list_any p part ≡ false

abbrev pub AreEnds : (ℕ → Bool) → List ℕ → Type 0
AreEnds p ends = AllByRecursion (λ e. p e ≡ true) ends

clean_by : (p : ℕ → Bool) (b : ℕ) (bs : List ℕ) (t : Bool) → p b ≡ t → AllByRecursion (IsClean p) (slice_split p bs) → AllByRecursion (IsClean p) (slice_split p (b ∷ bs))
clean_by p b bs t e h = grind arith

pub parts_clean : (p : ℕ → Bool) (text : List ℕ) → AllByRecursion (IsClean p) (slice_split p text)
parts_clean p [] = (refl, tt)
parts_clean p (b ∷ bs) = clean_by p b bs (p b) refl (parts_clean p bs)

ends_by : (p : ℕ → Bool) (b : ℕ) (bs : List ℕ) (t : Bool) → p b ≡ t → AreEnds p (filter p bs) → AreEnds p (filter p (b ∷ bs))
ends_by p b bs t e h = grind arith

pub ends_are : (p : ℕ → Bool) (text : List ℕ) → AreEnds p (filter p text)
ends_are p [] = tt
ends_are p (b ∷ bs) = ends_by p b bs (p b) refl (ends_are p bs)

pub one_more : (p : ℕ → Bool) (text : List ℕ) → length (slice_split p text) ≡ suc (length (filter p text))
one_more p text = omega (arith, length-slice_split p text, length-filter p text)

-- ---- a `$` that is a field of a line

-- what stands in front of it and behind it, where fields end as p says
record IsAt (p : ℕ → Bool) (place : ℕ) (new : List ℕ) (parts : List (List ℕ)) (ends : List ℕ) : Type 0 where
  before : List ℕ
  behind : List ℕ
  was : interleaved parts ends ≡ before ++ (codes "$" ++ behind)
  is : interleaved (slice_set parts place new) ends ≡ before ++ (new ++ behind)
  whole : (before ≡ []) ⊎ ((front : List ℕ) × (end : ℕ) × (before ≡ front ++ end ∷ []) × (p end ≡ true))
  counted : length (filter p before) ≡ place
  ended : (behind ≡ []) ⊎ (begins p behind ≡ true)

-- a part and its end in front
onto_whole : (p : ℕ → Bool) (part before : List ℕ) (e : ℕ) → p e ≡ true
    → ((before ≡ []) ⊎ ((front : List ℕ) × (end : ℕ) × (before ≡ front ++ end ∷ []) × (p end ≡ true)))
    → (front : List ℕ) × (end : ℕ) × (part ++ e ∷ before ≡ front ++ end ∷ []) × (p end ≡ true)
onto_whole p part before e is (inl none) = (part, e, ap (λ (x : List ℕ). part ++ e ∷ x) none, is)
onto_whole p part before e is (inr w) = (part ++ e ∷ w.0, w.1, ap (λ (x : List ℕ). part ++ e ∷ x) w.2 ∙ sym (append_assoc part (e ∷ w.0) (w.1 ∷ [])), w.3)

field_at : (p : ℕ → Bool) (place : ℕ) (new : List ℕ) (parts : List (List ℕ)) (ends : List ℕ) → AllByRecursion (IsClean p) parts → AreEnds p ends → length parts ≡ suc (length ends) → slice_index_or parts place [] ≡ codes "$" → IsAt p place new parts ends
field_at p place new [] ends clean are same found = absurd (omega (arith, same))
field_at p zero new (part ∷ parts) [] clean are same found = record { before = []; behind = []; was = found; is = sym (append-nil new); whole = inl refl; counted = refl; ended = inl refl }
field_at p zero new (part ∷ parts) (e ∷ es) clean are same found = record {
  before = [];
  behind = e ∷ interleaved parts es;
  was = ap (λ (x : List ℕ). x ++ e ∷ interleaved parts es) found;
  is = refl;
  whole = inl refl;
  counted = refl;
  ended = inr are.0;
}
field_at p (suc n) new (part ∷ []) [] clean are same found = absurd cc
field_at p (suc n) new (part ∷ (other ∷ parts)) [] clean are same found = absurd (omega (arith, same))
field_at p (suc n) new (part ∷ parts) (e ∷ es) clean are same found =
    let r = field_at p n new parts es clean.1 are.1 (omega (arith, same)) found in
    record {
      before = part ++ e ∷ r.before;
      behind = r.behind;
      was = ap (λ (x : List ℕ). part ++ e ∷ x) r.was ∙ sym (append_assoc part (e ∷ r.before) (codes "$" ++ r.behind));
      is = ap (λ (x : List ℕ). part ++ e ∷ x) r.is ∙ sym (append_assoc part (e ∷ r.before) (new ++ r.behind));
      whole = inr (onto_whole p part r.before e are.0 r.whole);
      counted = ap length (ends_next p part r.before e clean.0 are.0) ∙ ap suc r.counted;
      ended = r.ended;
    }

clean_front : (p : ℕ → Bool) (front back : List ℕ) → list_any p (front ++ back) ≡ false → list_any p front ≡ false
clean_front p front back h = grind (arith, common_steps)

ends_field : (behind : List ℕ) → (behind ≡ []) ⊎ (begins (is_one_of field_ends) behind ≡ true) → (behind ≡ []) ⊎ (begins is_field_end behind ≡ true)
ends_field behind h = grind arith

-- a line in which it stands
pub line_put : (is_kind : List ℕ → Bool) (place : ℕ) (new line : List ℕ) → list_any (is_one_of line_ends) line ≡ false → is_kind line ≡ true → has_choose place line ≡ true → IsPut is_kind place new line (with_field place new line)
unfolding has_choose
line_put is_kind place new line one kind choose =
    let p : ℕ → Bool = is_one_of field_ends in
    let at = field_at p place new (fields_of line) (ends_of field_ends line) (parts_clean p line) (ends_are p line) (one_more p line) ((bytes_eq-Decides (slice_index_or (fields_of line) place []) (codes "$")).0 choose) in
    let was : line ≡ at.before ++ (codes "$" ++ at.behind) = sym (laid_again p line) ∙ at.was in
    record {
      lines = [];
      fields = at.before;
      behind = at.behind;
      was = was;
      is = at.is;
      whole_lines = inl refl;
      one_line = clean_front (is_one_of line_ends) at.before (codes "$" ++ at.behind) (ap (list_any (is_one_of line_ends)) (sym was) ∙ one);
      kind = ap is_kind (sym was) ∙ kind;
      whole_fields = at.whole;
      counted = at.counted;
      whole = ends_field at.behind at.ended;
    }

-- ---- among other lines

whole_both : (ends front back : List ℕ) → IsWhole ends front → IsWhole ends back → IsWhole ends (front ++ back)
whole_both ends front back h (inl none) = subst (IsWhole ends) (sym (ap (λ (x : List ℕ). front ++ x) none ∙ append-nil front)) h
whole_both ends front back h (inr w) = inr (front ++ w.0, w.1, ap (λ (x : List ℕ). front ++ x) w.2 ∙ sym (append_assoc front w.0 (w.1 ∷ [])), w.3)

put_behind : (is_kind : List ℕ → Bool) (place : ℕ) (new front old text : List ℕ) → IsWhole line_ends front → IsPut is_kind place new old text → IsPut is_kind place new (front ++ old) (front ++ text)
put_behind is_kind place new front old text w s = record {
  lines = front ++ s.lines;
  fields = s.fields;
  behind = s.behind;
  was = ap (λ (x : List ℕ). front ++ x) s.was ∙ sym (append_assoc front s.lines (s.fields ++ (codes "$" ++ s.behind)));
  is = ap (λ (x : List ℕ). front ++ x) s.is ∙ sym (append_assoc front s.lines (s.fields ++ (new ++ s.behind)));
  whole_lines = whole_both line_ends front s.lines w s.whole_lines;
  one_line = s.one_line;
  kind = s.kind;
  whole_fields = s.whole_fields;
  counted = s.counted;
  whole = s.whole;
}

-- a line is of this kind by its first bytes
abbrev IsByFront : (List ℕ → Bool) → Type 0
IsByFront is_kind = (text more : List ℕ) → is_kind text ≡ true → is_kind (text ++ more) ≡ true

put_before : (is_kind : List ℕ → Bool) (place : ℕ) (new old text rest : List ℕ) → IsByFront is_kind → begins (is_one_of line_ends) rest ≡ true → IsPut is_kind place new old text → IsPut is_kind place new (old ++ rest) (text ++ rest)
put_before is_kind place new old text rest by_front ends s = grind (arith, append_assoc)

two_bytes : (a b : ℕ) (text more : List ℕ) → starts_with (λ x y. x == y) text (a ∷ (b ∷ [])) ≡ true → starts_with (λ x y. x == y) (text ++ more) (a ∷ (b ∷ [])) ≡ true
two_bytes a b text more h = grind arith

connection_by_front : IsByFront is_connection
connection_by_front text more h = two_bytes 99 61 text more h

media_by_front : IsByFront is_media_line
media_by_front text more h = two_bytes 109 61 text more h

-- ---- steps

chain_then : (IsStep : List ℕ → List ℕ → Type 0) (a : List ℕ) (xs : List (List ℕ)) (b : List ℕ) (ys : List (List ℕ)) (c : List ℕ) → IsChain IsStep a xs b → IsChain IsStep b ys c → IsChain IsStep a (xs ++ ys) c
chain_then IsStep a [] b ys c s t = subst (λ (x : List ℕ). IsChain IsStep x ys c) (sym s) t
chain_then IsStep a (x ∷ xs) b ys c s t = (s.0, chain_then IsStep x xs b ys c s.1 t)

reached_then : (IsStep : List ℕ → List ℕ → Type 0) (a b c : List ℕ) → IsReached IsStep a b → IsReached IsStep b c → IsReached IsStep a c
reached_then IsStep a b c s t = (s.0 ++ t.0, chain_then IsStep a s.0 b t.0 c s.1 t.1)

chain_map : (IsStep : List ℕ → List ℕ → Type 0) (f : List ℕ → List ℕ) → ((a b : List ℕ) → IsStep a b → IsStep (f a) (f b)) → (a : List ℕ) (xs : List (List ℕ)) (b : List ℕ) → IsChain IsStep a xs b → IsChain IsStep (f a) (map f xs) (f b)
chain_map IsStep f each a [] b s = ap f s
chain_map IsStep f each a (x ∷ xs) b s = (each a x s.0, chain_map IsStep f each x xs b s.1)

reached_map : (IsStep : List ℕ → List ℕ → Type 0) (f : List ℕ → List ℕ) → ((a b : List ℕ) → IsStep a b → IsStep (f a) (f b)) → (a b : List ℕ) → IsReached IsStep a b → IsReached IsStep (f a) (f b)
reached_map IsStep f each a b s = (map f s.0, chain_map IsStep f each a s.0 b s.1)

put_reached : (IsStep : List ℕ → List ℕ → Type 0) (is_kind : List ℕ → Bool) (place : ℕ) (new line : List ℕ) → ((old text : List ℕ) → IsPut is_kind place new old text → IsStep old text) → list_any (is_one_of line_ends) line ≡ false → is_kind line ≡ true → (t : Bool) → has_choose place line ≡ t → IsReached IsStep line (put place new line)
unfolding put
put_reached IsStep is_kind place new line step one kind true choose = rw choose ((with_field place new line) ∷ [], (step line (with_field place new line) (line_put is_kind place new line one kind choose), refl))
put_reached IsStep is_kind place new line step one kind false choose = rw choose ([], refl)

line_by : (address port line : List ℕ) → list_any (is_one_of line_ends) line ≡ false → (c m : Bool) → is_connection line ≡ c → is_media_line line ≡ m → IsReached (IsFilledOnce address port) line (filled_line address port line)
unfolding filled_line
line_by address port line one true m is other = rw is (put_reached (IsFilledOnce address port) is_connection 2 address line (λ old text s. inl s) one is (has_choose 2 line) refl)
line_by address port line one false true is other = rw (is, other) (put_reached (IsFilledOnce address port) is_media_line 1 port line (λ old text s. inr s) one other (has_choose 1 line) refl)
line_by address port line one false false is other = rw (is, other) ([], refl)

line_reached : (address port line : List ℕ) → list_any (is_one_of line_ends) line ≡ false → IsReached (IsFilledOnce address port) line (filled_line address port line)
line_reached address port line one = line_by address port line one (is_connection line) (is_media_line line) refl refl

step_before : (address port rest old text : List ℕ) → begins (is_one_of line_ends) rest ≡ true → IsFilledOnce address port old text → IsFilledOnce address port (old ++ rest) (text ++ rest)
step_before address port rest old text ends h = grind (arith, put_before, connection_by_front, media_by_front)

step_behind : (address port front old text : List ℕ) → IsWhole line_ends front → IsFilledOnce address port old text → IsFilledOnce address port (front ++ old) (front ++ text)
step_behind address port front old text w h = grind (arith, put_behind)

-- ---- lines

lines_reached : (address port : List ℕ) (lines : List (List ℕ)) (ends : List ℕ) → AllByRecursion (IsClean (is_one_of line_ends)) lines → AreEnds (is_one_of line_ends) ends → length lines ≡ suc (length ends)
    → IsReached (IsFilledOnce address port) (interleaved lines ends) (interleaved (map (filled_line address port) lines) ends)
lines_reached address port [] ends clean are same = absurd (omega (arith, same))
lines_reached address port (line ∷ lines) [] clean are same = line_reached address port line clean.0
lines_reached address port (line ∷ lines) (e ∷ es) clean are same =
    let IsStep : List ℕ → List ℕ → Type 0 = IsFilledOnce address port in
    let new : List ℕ = filled_line address port line in
    let rest : List ℕ = interleaved lines es in
    let filled : List ℕ = interleaved (map (filled_line address port) lines) es in
    let front : List ℕ = new ++ e ∷ [] in
    let this = reached_map IsStep (λ x. x ++ e ∷ rest) (λ a b s. step_before address port (e ∷ rest) a b are.0 s) line new (line_reached address port line clean.0) in
    let later = reached_map IsStep (λ x. front ++ x) (λ a b s. step_behind address port front a b (inr (new, e, refl, are.0)) s) rest filled (lines_reached address port lines es clean.1 are.1 (omega (arith, same))) in
    let there : IsReached IsStep (new ++ e ∷ rest) (front ++ filled) = subst (λ (x : List ℕ). IsReached IsStep x (front ++ filled)) (append_assoc new (e ∷ []) rest) later in
    let whole : IsReached IsStep (new ++ e ∷ rest) (new ++ e ∷ filled) = subst (λ (x : List ℕ). IsReached IsStep (new ++ e ∷ rest) x) (append_assoc new (e ∷ []) filled) there in
    reached_then IsStep (line ++ e ∷ rest) (new ++ e ∷ rest) (new ++ e ∷ filled) this whole

pub filled_reached : (address port text : List ℕ) → IsReached (IsFilledOnce address port) text (filled_text address port text)
unfolding filled_text
filled_reached address port text =
    let p : ℕ → Bool = is_one_of line_ends in
    subst (λ (x : List ℕ). IsReached (IsFilledOnce address port) x (filled_text address port text)) (laid_again p text)
    (lines_reached address port (lines_of text) (ends_of line_ends text) (parts_clean p text) (ends_are p text) (one_more p text))

-- ---- where there is none

line_same : (address port line : List ℕ) → (c m : Bool) → is_connection line ≡ c → is_media_line line ≡ m → (t u : Bool) → has_choose 2 line ≡ t → has_choose 1 line ≡ u → is_fillable_line line ≡ false → filled_line address port line ≡ line
unfolding filled_line is_fillable_line put
line_same address port line c m is other t u x y none = grind arith

lines_same : (address port : List ℕ) (lines : List (List ℕ)) → list_any is_fillable_line lines ≡ false → map (filled_line address port) lines ≡ lines
lines_same address port [] h = refl
lines_same address port (line ∷ lines) h =
    let n = or_parts (is_fillable_line line) (list_any is_fillable_line lines) h in
    let same = line_same address port line (is_connection line) (is_media_line line) refl refl (has_choose 2 line) (has_choose 1 line) refl refl n.0 in
    let rest = lines_same address port lines n.1 in
    rw (same, rest) refl

pub nothing_filled : (address port text : List ℕ) → is_fillable text ≡ false → filled_text address port text ≡ text
unfolding filled_text is_fillable
nothing_filled address port text h = ap (λ (l : List (List ℕ)). interleaved l (ends_of line_ends text)) (lines_same address port (lines_of text) h) ∙ laid_again (is_one_of line_ends) text

-- ---- with the port of a stream

pub all_reached : (address : List ℕ) (slot stream : ℕ) (text : List ℕ) → IsReached (IsFilledOnce address (decimal (port_of slot stream))) text (filled address slot stream text)
unfolding filled
all_reached address slot stream text = filled_reached address (decimal (port_of slot stream)) text

pub all_same : (address : List ℕ) (slot stream : ℕ) (text : List ℕ) → is_fillable text ≡ false → filled address slot stream text ≡ text
unfolding filled
all_same address slot stream text h = nothing_filled address (decimal (port_of slot stream)) text h
