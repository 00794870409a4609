-- What is out and what the buffer holds, one piece after another.
use Rattle.std.proofs.Common.{◌≡◌, ℕ, ◌+◌, List, [], ◌++◌, length, min, take, Option, Result, Ok, Err, OnOk, OnErr, ap, sym, subst, ◌∙◌, arith, append_assoc}
use Rattle.std.specs.Io.KnownBytes.{Appends}
use Rattle.std.proofs.KnownBytes.{Appends-trans}
use Rattle.std.proofs.Math.Seq.{take-append-add}
use Rattle.std.proofs.lemmas.List.{append-nil, take-append-le, take_min}
use Rattle.gw_front.specs.Outputs.{Moves, IsFront}

joined : (h t u s h1 : List ℕ) → h ++ t ≡ s ++ h1 → h ++ (t ++ u) ≡ s ++ (h1 ++ u)
joined h t u s h1 e = sym (append_assoc h t u) ∙ ap (λ (l : List ℕ). l ++ u) e ∙ append_assoc s h1 u

-- one piece behind the other
pub moves_on : {a b c : Option (List ℕ)} {h h1 h2 t u : List ℕ} → Moves a h b h1 t → Moves b h1 c h2 u → Moves a h c h2 (t ++ u)
moves_on {a} {b} {c} {h} {h1} {h2} {t} {u} p q = record {
  sent = p.sent ++ q.sent;
  written = Appends-trans a b c p.sent q.sent p.written q.written;
  all = joined h t u p.sent h1 p.all ∙ ap (λ (l : List ℕ). p.sent ++ l) q.all ∙ sym (append_assoc p.sent q.sent h2);
}

-- a front of what follows is a front of both
pub front_on : {a b : Option (List ℕ)} {h h1 t : List ℕ} (c : Option (List ℕ)) (u : List ℕ) → Moves a h b h1 t → IsFront b h1 c u → IsFront a h c (t ++ u)
front_on {a} {b} {h} {h1} {t} c u p q =
    let whole : take (length p.sent + q.0) (h ++ (t ++ u)) ≡ p.sent ++ take q.0 (h1 ++ u) =
    ap (λ (l : List ℕ). take (length p.sent + q.0) l) (joined h t u p.sent h1 p.all) ∙ take-append-add p.sent (h1 ++ u) q.0 in
    (length p.sent + q.0, subst (λ (l : List ℕ). Appends a c l) (sym whole) (Appends-trans a b c p.sent (take q.0 (h1 ++ u)) p.written q.1))

-- a front of a text is one of a longer text
pub front_of_more : (a c : Option (List ℕ)) (x u : List ℕ) → ((n : ℕ) × Appends a c (take n x)) → (n : ℕ) × Appends a c (take n (x ++ u))
front_of_more a c x u q =
    let same : take (min q.0 (length x)) (x ++ u) ≡ take q.0 x = take-append-le (min q.0 (length x)) x u (omega arith) ∙ take_min q.0 x in
    (min q.0 (length x), subst (λ (l : List ℕ). Appends a c l) (sym same) q.1)

-- a front with more to come
pub front_before : (a c : Option (List ℕ)) (h t u : List ℕ) → IsFront a h c t → IsFront a h c (t ++ u)
front_before a c h t u q =
    let r = front_of_more a c (h ++ t) u q in
    (r.0, subst (λ (l : List ℕ). Appends a c (take r.0 l)) (append_assoc h t u) r.1)

-- what the buffer held was written, and then the piece
pub written_through : (a b c : Option (List ℕ)) (h h1 h2 t : List ℕ) → h1 ≡ h → Appends a b h1 → h2 ≡ [] → Appends b c t → Moves a h c h2 t
written_through a b c h h1 h2 t is p e q = record {
  sent = h1 ++ t;
  written = Appends-trans a b c h1 t p q;
  all = ap (λ (l : List ℕ). l ++ t) (sym is) ∙ sym (append-nil (h1 ++ t)) ∙ ap (λ (l : List ℕ). (h1 ++ t) ++ l) (sym e);
}

-- what the buffer held was written, and then a front of the piece
pub front_through : (a b c : Option (List ℕ)) (h h1 t : List ℕ) → h1 ≡ h → Appends a b h1 → ((n : ℕ) × Appends b c (take n t)) → IsFront a h c t
front_through a b c h h1 t is p q =
    let whole : take (length h1 + q.0) (h ++ t) ≡ h1 ++ take q.0 t = ap (λ (l : List ℕ). take (length h1 + q.0) (l ++ t)) (sym is) ∙ take-append-add h1 t q.0 in
    (length h1 + q.0, subst (λ (l : List ℕ). Appends a c l) (sym whole) (Appends-trans a b c h1 (take q.0 t) p q.1))

-- ---- results

pub ok_mapped : {T E : Type 0} (r : Result T E) {P Q : Type 0} → (P → Q) → OnOk r P → OnOk r Q
ok_mapped (Ok x) f p = f p
ok_mapped (Err e) f p = tt

pub err_mapped : {T E : Type 0} (r : Result T E) {P Q : Type 0} → (P → Q) → OnErr r P → OnErr r Q
err_mapped (Ok x) f p = tt
err_mapped (Err e) f p = f p

pub on_err : {T E : Type 0} (r : Result T E) {P : Type 0} → P → OnErr r P
on_err (Ok x) p = tt
on_err (Err e) p = p
