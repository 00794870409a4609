-- Octets in which nothing is escaped end at the first `}`, and are kept without the white space at their end.
use Rattle.std.proofs.Common.{◌≡◌, ℕ, zero, suc, ◌+◌, ◌-◌, ◌<◌, ◌≤◌, Bool, true, false, cond, not, ◌==◌, ◌||◌, List, [], ◌∷◌, ◌++◌, length, get_or, take, drop, Some, refl, ap, sym, ◌∙◌, add-one, arith}
use Rattle.std.specs.List.{list_all}
use Rattle.std.proofs.lemmas.List.{take-append-drop, length-take}
use Rattle.std.proofs.lemmas.List.Folds.{list_all_more}
use Rattle.std.proofs.lemmas.Bool.{and_parts}
use Rattle.gw_text.specs.Lexical.{nul, backslash, right_brace, is_blank}
use Rattle.gw_text.specs.Runs.{IsRun}
use Rattle.gw_text.specs.OctetsScan.{is_plain, end_behind, solid_end, octets_ends}
use Rattle.gw_text.proofs.RunLemmas.{at_byte}
use Rattle.gw_text.proofs.OctetsLemmas.{are_octets, keep_end, octets_again}

-- ---- from the last byte to the one before

one_on : (b : ℕ) (bs : List ℕ) (n : ℕ) → 0 < n → get_or (b ∷ bs) (suc n - 1) 0 ≡ get_or bs (n - 1) 0
one_on b bs n some = grind arith

one_less : (b : ℕ) (bs : List ℕ) (n : ℕ) → 0 < n → take (suc n - 1) (b ∷ bs) ≡ b ∷ take (n - 1) bs
one_less b bs n some = grind arith

pub end_solid : (front : List ℕ) → 0 < length front → is_blank (get_or front (length front - 1) 0) ≡ false → solid_end front ≡ length front
end_solid [] some h = absurd (omega arith)
end_solid (b ∷ []) some h = rw h refl
end_solid (b ∷ (c ∷ cs)) some h =
    let last : get_or (b ∷ (c ∷ cs)) (suc (suc (length cs)) - 1) 0 ≡ get_or (c ∷ cs) (suc (length cs) - 1) 0 = one_on b (c ∷ cs) (suc (length cs)) (omega arith) in
    let more = end_solid (c ∷ cs) (omega arith) (sym (ap is_blank last) ∙ h) in
    rw more refl

pub end_blank : (front : List ℕ) → 0 < length front → is_blank (get_or front (length front - 1) 0) ≡ true → solid_end (take (length front - 1) front) ≡ solid_end front
end_blank [] some h = absurd (omega arith)
end_blank (b ∷ []) some h = rw h refl
end_blank (b ∷ (c ∷ cs)) some h =
    let last : get_or (b ∷ (c ∷ cs)) (suc (suc (length cs)) - 1) 0 ≡ get_or (c ∷ cs) (suc (length cs) - 1) 0 = one_on b (c ∷ cs) (suc (length cs)) (omega arith) in
    let more = end_blank (c ∷ cs) (omega arith) (sym (ap is_blank last) ∙ h) in
    let taken : take (suc (suc (length cs)) - 1) (b ∷ (c ∷ cs)) ≡ b ∷ take (suc (length cs) - 1) (c ∷ cs) = one_less b (c ∷ cs) (suc (length cs)) (omega arith) in
    ap solid_end taken ∙ ap (end_behind b) more

-- ---- the ends of octets

plain_is : (a b c : Bool) → not (a || b || c) ≡ true → (a ≡ false) × (b ≡ false) × (c ≡ false)
plain_is a b c h = grind arith

plain_octets : (body : List ℕ) → IsRun is_plain body → are_octets false body ≡ true
plain_octets [] h = refl
plain_octets (b ∷ bs) h =
    let a = and_parts (is_plain b) (list_all is_plain bs) h in
    let p = plain_is (b == right_brace) (b == backslash) (b == nul) a.0 in
    rw (p.2, p.0, p.1) (plain_octets bs a.1)

-- where what is kept ends, if anything is
abbrev end_or : ℕ → ℕ → ℕ → ℕ
end_or keep passed zero = keep
end_or keep passed (suc end) = passed + suc end

end_step : (b : ℕ) (blank : Bool) → is_blank b ≡ blank → (end passed keep : ℕ) → end_or (cond (not blank) (passed + 1) keep) (passed + 1) end ≡ end_or keep passed (end_behind b end)
end_step b blank is end passed keep = grind arith

plain_keeps : (passed keep : ℕ) (body : List ℕ) → IsRun is_plain body → keep_end false passed keep body ≡ end_or keep passed (solid_end body)
plain_keeps passed keep [] h = refl
plain_keeps passed keep (b ∷ bs) h =
    let a = and_parts (is_plain b) (list_all is_plain bs) h in
    let p = plain_is (b == right_brace) (b == backslash) (b == nul) a.0 in
    let next = plain_keeps (passed + 1) (cond (not (is_blank b)) (passed + 1) keep) bs a.1 in
    rw p.1 (next ∙ end_step b (is_blank b) refl (solid_end bs) passed keep)

zero_or : (n : ℕ) → end_or 0 0 n ≡ n
zero_or n = grind arith

pub plain_ends : (text : List ℕ) (len : ℕ) → len < length text → IsRun is_plain (take len text) → get_or text len 0 ≡ right_brace → octets_ends text ≡ Some (len, solid_end (take len text))
unfolding octets_ends
plain_ends text len within plain closed =
    let body : List ℕ = take len text in
    let size : 0 + length body ≡ len = omega (arith, length-take len text) in
    let split : text ≡ body ++ right_brace ∷ drop (len + 1) text = sym (take-append-drop len text) ∙ ap (λ (x : List ℕ). body ++ x) (at_byte text len within ∙ ap (λ (b : ℕ). b ∷ drop (len + 1) text) closed) in
    let ends = octets_again false 0 0 body (drop (len + 1) text) (plain_octets body plain) in
    let keep : keep_end false 0 0 body ≡ solid_end body = plain_keeps 0 0 body plain ∙ zero_or (solid_end body) in
    ap octets_ends split ∙ ends ∙ ap (λ (n : ℕ). Some (n, keep_end false 0 0 body)) size ∙ ap (λ (n : ℕ). Some (len, n)) keep

-- ---- bytes before the first that is not plain

not_true : (t : Bool) → (t ≡ true → ⊥) → not t ≡ true
not_true t h = grind arith

pub no_other : (text : List ℕ) (k : ℕ) → (get_or text k 0 == right_brace || get_or text k 0 == backslash || get_or text k 0 == nul ≡ true → ⊥) → is_plain (get_or text k 0) ≡ true
no_other text k h = not_true (get_or text k 0 == right_brace || get_or text k 0 == backslash || get_or text k 0 == nul) h

pub plain_below : (text : List ℕ) (n : ℕ) → n ≤ length text → ((k : ℕ) → k < n → is_plain (get_or text k 0) ≡ true) → IsRun is_plain (take n text)
plain_below text zero le h = refl
plain_below text (suc n) le h =
    let so_far = plain_below text n (omega arith) (λ k lt. h k (omega arith)) in
    let here = h n (omega arith) in
    ap (λ (m : ℕ). list_all is_plain (take m text)) (sym (add-one n)) ∙ list_all_more is_plain text n 0 (omega arith) ∙ rw (so_far, here) refl
