-- Octets as they are scanned are octets as they are defined, and what is kept of them is what is to be kept.
use Rattle.std.proofs.Common.{◌≡◌, ◌⊎◌, inl, inr, ℕ, suc, ◌+◌, Bool, true, false, cond, not, ◌==◌, ◌||◌, ◌&&◌, List, [], ◌∷◌, ◌++◌, length, Option, Some, None, refl, ap, sym, ◌∙◌, arith}
use Rattle.std.specs.List.{list_all}
use Rattle.std.proofs.lemmas.Bool.{eqb-true, not-true, ne_eqb, and_parts}
use Rattle.std.proofs.Math.Bool.{or-true}
use Rattle.gw_text.specs.Lexical.{nul, backslash, right_brace, is_blank}
use Rattle.gw_text.specs.Runs.{IsRun}
use Rattle.gw_text.specs.Octets.{is_octet, EndsIn, IsOctets}
use Rattle.gw_text.specs.OctetsScan.{octets_from}
use Rattle.gw_text.proofs.Signs.{some_is}

-- ---- octets, with a flag: whether a `\` stands in front of them

abbrev pub are_octets : (escaped : Bool) → List ℕ → Bool
are_octets escaped [] = not escaped
are_octets escaped (b ∷ bs) = not (b == nul) && ((escaped || not (b == right_brace)) && are_octets (b == backslash) bs)

-- where what is kept ends
abbrev pub keep_end : (escaped : Bool) (passed keep : ℕ) → List ℕ → ℕ
keep_end escaped passed keep [] = keep
keep_end escaped passed keep (b ∷ bs) = keep_end (b == backslash) (passed + 1) (cond (escaped || not (is_blank b)) (passed + 1) keep) bs

-- ---- the scan

-- what the scan found
pub record IsFound (escaped : Bool) (passed keep : ℕ) (text : List ℕ) (ends kept : ℕ) : Type 0 where
  pub body : List ℕ
  pub rest : List ℕ
  pub split : text ≡ body ++ right_brace ∷ rest
  pub octets : are_octets escaped body ≡ true
  pub ends_is : ends ≡ passed + length body
  pub kept_is : kept ≡ keep_end escaped passed keep body

found_step : (z c : Bool) (here there : Option (ℕ × ℕ)) (x : ℕ × ℕ) (P : Type 0) → cond z None (cond c here there) ≡ Some x → (z ≡ false → c ≡ true → here ≡ Some x → P) → (z ≡ false → c ≡ false → there ≡ Some x → P) → P
found_step z c here there x P e f g = grind arith

escaped_or : (e r : Bool) → not e && r ≡ false → e || not r ≡ true
escaped_or e r h = grind arith

pub octets_sound : (escaped : Bool) (passed keep : ℕ) (text : List ℕ) (ends kept : ℕ) → octets_from escaped passed keep text ≡ Some (ends, kept) → IsFound escaped passed keep text ends kept
octets_sound escaped passed keep [] ends kept e = absurd cc
octets_sound escaped passed keep (b ∷ bs) ends kept e =
    let here : ℕ × ℕ = (passed, keep) in
    let x : ℕ × ℕ = (ends, kept) in
    found_step (b == nul) (not escaped && b == right_brace) (Some here) (octets_from (b == backslash) (passed + 1) (cond (escaped || not (is_blank b)) (passed + 1) keep) bs) x (IsFound escaped passed keep (b ∷ bs) ends kept) e
    (λ z c s.
    let h = and_parts (not escaped) (b == right_brace) c in
    let same = some_is here x s in
    let ends-is : passed ≡ ends = ap (λ (p : ℕ × ℕ). p.0) same in
    let kept-is : keep ≡ kept = ap (λ (p : ℕ × ℕ). p.1) same in
    record { body = []; rest = bs; split = ap (λ (c : ℕ). c ∷ bs) (eqb-true b right_brace h.1); octets = h.0; ends_is = omega (arith, ends-is); kept_is = sym kept-is })
    (λ z c s.
    let f = octets_sound (b == backslash) (passed + 1) (cond (escaped || not (is_blank b)) (passed + 1) keep) bs ends kept s in
    let ok = escaped_or escaped (b == right_brace) c in
    let o = f.octets in
    record { body = b ∷ f.body; rest = f.rest; split = ap (λ (x : List ℕ). b ∷ x) f.split; octets = rw (z, ok, o) refl; ends_is = omega (arith, f.ends_is); kept_is = f.kept_is })

not_close : (e r : Bool) → e || not r ≡ true → not e && r ≡ false
not_close e r h = grind arith

pub octets_again : (escaped : Bool) (passed keep : ℕ) (body rest : List ℕ) → are_octets escaped body ≡ true → octets_from escaped passed keep (body ++ right_brace ∷ rest) ≡ Some (passed + length body, keep_end escaped passed keep body)
octets_again escaped passed keep [] rest h = grind (arith, not-true)
octets_again escaped passed keep (b ∷ bs) rest h =
    let a = and_parts (not (b == nul)) ((escaped || not (b == right_brace)) && are_octets (b == backslash) bs) h in
    let c = and_parts (escaped || not (b == right_brace)) (are_octets (b == backslash) bs) a.1 in
    let z : b == nul ≡ false = not-true (b == nul) a.0 in
    let r : not escaped && b == right_brace ≡ false = not_close escaped (b == right_brace) c.0 in
    let e : passed + suc (length bs) ≡ passed + 1 + length bs = omega arith in
    rw (z, r, e) (octets_again (b == backslash) (passed + 1) (cond (escaped || not (is_blank b)) (passed + 1) keep) bs rest c.1)

-- ---- octets are what the definition says

-- the same with a `\` in front, where escaped
pub record AreOctets (escaped : Bool) (body : List ℕ) : Type 0 where
  octets : IsRun is_octet body
  braces : (before after : List ℕ) → body ≡ before ++ right_brace ∷ after → ((before ≡ []) × (escaped ≡ true)) ⊎ EndsIn backslash before
  open_end : body ≡ [] → escaped ≡ false
  closed : ¬ EndsIn backslash body

nil_not_cons : (front : List ℕ) (b : ℕ) (after : List ℕ) → [] ≡ front ++ b ∷ after → ⊥
nil_not_cons [] b after e = absurd cc
nil_not_cons (c ∷ cs) b after e = absurd cc

ends_more : (b : ℕ) (front : List ℕ) → EndsIn backslash front → EndsIn backslash (b ∷ front)
ends_more b front h = (b ∷ h.0, ap (λ (x : List ℕ). b ∷ x) h.1)

braces_more : (escaped : Bool) (b : ℕ) (bs : List ℕ) → escaped || not (b == right_brace) ≡ true → AreOctets (b == backslash) bs
    → (before after : List ℕ) → b ∷ bs ≡ before ++ right_brace ∷ after → ((before ≡ []) × (escaped ≡ true)) ⊎ EndsIn backslash before
braces_more escaped b bs ok h [] after e = grind (arith, not-true)
braces_more escaped b bs ok h (c ∷ cs) after e = grind (arith, eqb-true, ends_more)

closed_by : (b : ℕ) (bs : List ℕ) → AreOctets (b == backslash) bs → (front : List ℕ) → b ∷ bs ≡ front ++ backslash ∷ [] → ⊥
closed_by b bs h [] e = grind arith
closed_by b bs h (c ∷ cs) e = grind arith

closed_more : (b : ℕ) (bs : List ℕ) → AreOctets (b == backslash) bs → ¬ EndsIn backslash (b ∷ bs)
closed_more b bs h x = closed_by b bs h x.0 x.1

are_sound : (escaped : Bool) (body : List ℕ) → are_octets escaped body ≡ true → AreOctets escaped body
are_sound escaped [] h = grind (arith, nil_not_cons, not-true)
are_sound escaped (b ∷ bs) h =
    let a = and_parts (not (b == nul)) ((escaped || not (b == right_brace)) && are_octets (b == backslash) bs) h in
    let c = and_parts (escaped || not (b == right_brace)) (are_octets (b == backslash) bs) a.1 in
    let k = are_sound (b == backslash) bs c.1 in
    let some = a.0 in let run = k.octets in
    record {
      octets = rw (some, run) refl;
      braces = braces_more escaped b bs c.0 k;
      open_end = λ e. absurd cc;
      closed = closed_more b bs k;
    }

brace_ok : (escaped : Bool) (b : ℕ) (bs : List ℕ) → AreOctets escaped (b ∷ bs) → (t : Bool) → b == right_brace ≡ t → escaped || not t ≡ true
brace_ok escaped b bs h false is = or-true escaped
brace_ok escaped b bs h true is =
    let first : b ∷ bs ≡ [] ++ right_brace ∷ bs = ap (λ (c : ℕ). c ∷ bs) (eqb-true b right_brace is) in
    elim (h.braces [] bs first) [ inl i ↦ ap (λ (e : Bool). e || false) i.1 | inr i ↦ absurd (nil_not_cons i.0 backslash [] i.1) ]

last_of : (b : ℕ) (before front : List ℕ) → b ∷ before ≡ front ++ backslash ∷ [] → ((before ≡ []) × (b == backslash ≡ true)) ⊎ EndsIn backslash before
last_of b before [] e = grind arith
last_of b before (c ∷ cs) e = inr (cs, cc)

after_byte : (escaped : Bool) (b : ℕ) (bs : List ℕ) → AreOctets escaped (b ∷ bs) → (before after : List ℕ) → bs ≡ before ++ right_brace ∷ after → ((before ≡ []) × (b == backslash ≡ true)) ⊎ EndsIn backslash before
after_byte escaped b bs h before after e =
    elim (h.braces (b ∷ before) after (ap (λ (x : List ℕ). b ∷ x) e)) [
      | inl i ↦ absurd cc
      | inr i ↦ last_of b before i.0 i.1
    ]

are_complete : (escaped : Bool) (body : List ℕ) → AreOctets escaped body → are_octets escaped body ≡ true
are_complete escaped [] h = let e = h.open_end refl in rw e refl
are_complete escaped (b ∷ bs) h =
    let run = and_parts (is_octet b) (list_all is_octet bs) h.octets in
    let more : AreOctets (b == backslash) bs = record {
      octets = run.1;
      braces = λ before after e. after_byte escaped b bs h before after e;
      open_end = λ e. ne_eqb b backslash (λ same. h.closed ([], ap (λ (c : ℕ). c ∷ bs) same ∙ ap (λ (x : List ℕ). backslash ∷ x) e));
      closed = λ x. h.closed (ends_more b bs x);
    } in
    let ok : escaped || not (b == right_brace) ≡ true = brace_ok escaped b bs h (b == right_brace) refl in
    let some = run.0 in
    let rest = are_complete (b == backslash) bs more in
    rw (some, ok, rest) refl

pub octets_are : (body : List ℕ) → IsOctets body → are_octets false body ≡ true
octets_are body h = are_complete false body (record { octets = h.octets; braces = λ before after e. inr (h.escaped before after e); open_end = λ _. refl; closed = h.closed })

pub are_are : (body : List ℕ) → are_octets false body ≡ true → IsOctets body
are_are body h = grind (arith, are_sound)
