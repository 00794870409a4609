-- The text of answers, answer after answer, whatever text each has.
use Rattle.std.proofs.Common.{◌≡◌, ℕ, ◌+◌, ◌<◌, ◌≤◌, List, [], ◌∷◌, ◌++◌, length, take, drop, flat_map, get_or, Option, ap, sym, subst, ◌∙◌}
use Rattle.std.specs.Io.KnownBytes.{Appends}
use Rattle.std.proofs.KnownBytes.{Appends-trans}
use Rattle.std.proofs.Math.Seq.{take-append-add}
use Rattle.std.proofs.lemmas.Grind.{flat_map-append}
use Rattle.std.proofs.lemmas.List.{append-nil, take_more, take_all, take-append-drop}
use Rattle.gw_engine.specs.declared.datagram.Datagram.{Datagram}
use Rattle.gw_front.specs.Outputs.{Moves, IsFront}
use Rattle.gw_front.proofs.Moving.{moves_on, front_on, front_before}

module _ (form : Datagram → List ℕ) where
  abbrev pub text_of : List Datagram → List ℕ
  text_of ds = flat_map form ds

  -- one answer more
  text_more : (ds : List Datagram) (i : ℕ) (d : Datagram) → i < length ds → d ≡ get_or ds i d → text_of (take (i + 1) ds) ≡ text_of (take i ds) ++ form d
  text_more ds i d within is =
      ap text_of (take_more ds i d within) ∙ flat_map-append form (take i ds) (get_or ds i d ∷ [])
      ∙ ap (λ (l : List ℕ). text_of (take i ds) ++ l) (append-nil (form (get_or ds i d)) ∙ ap form (sym is))

  -- the answers that are left
  text_rest : (ds : List Datagram) (i : ℕ) → text_of ds ≡ text_of (take i ds) ++ text_of (drop i ds)
  text_rest ds i = ap text_of (sym (take-append-drop i ds)) ∙ flat_map-append form (take i ds) (drop i ds)

  -- the answer was put
  pub put_more : {a b c : Option (List ℕ)} {h h1 : List ℕ} {d : Datagram} (ds : List Datagram) (i : ℕ) → i < length ds → d ≡ get_or ds i d
      → Moves a [] b h (text_of (take i ds)) → Moves b h c h1 (form d) → Moves a [] c h1 (text_of (take (i + 1) ds))
  put_more {a} {c = c} {h1 = h1} {d = d} ds i within is p q =
      subst (λ (l : List ℕ). Moves a [] c h1 l) (sym (text_more ds i d within is)) (moves_on p q)

  -- a front of it is out
  pub stopped_at : {a b : Option (List ℕ)} {h : List ℕ} {d : Datagram} (c : Option (List ℕ)) (ds : List Datagram) (i : ℕ) → i < length ds → d ≡ get_or ds i d
      → Moves a [] b h (text_of (take i ds)) → IsFront b h c (form d) → IsFront a [] c (text_of ds)
  stopped_at {a} {d = d} c ds i within is p q =
      let front : IsFront a [] c (text_of (take (i + 1) ds)) =
      subst (λ (l : List ℕ). IsFront a [] c l) (sym (text_more ds i d within is)) (front_on c (form d) p q) in
      subst (λ (l : List ℕ). IsFront a [] c l) (sym (text_rest ds (i + 1))) (front_before a c [] (text_of (take (i + 1) ds)) (text_of (drop (i + 1) ds)) front)

  -- all answers were put
  pub all_put : {a b : Option (List ℕ)} {h : List ℕ} (ds : List Datagram) (i : ℕ) → length ds ≤ i → Moves a [] b h (text_of (take i ds)) → Moves a [] b h (text_of ds)
  all_put {a} {b} {h} ds i past p = subst (λ (l : List Datagram). Moves a [] b h (text_of l)) (take_all i ds past) p

-- a front of what the buffer held was written
pub front_finished : {a b : Option (List ℕ)} {h t : List ℕ} (c : Option (List ℕ)) → Moves a [] b h t → ((n : ℕ) × Appends b c (take n h)) → (n : ℕ) × Appends a c (take n t)
front_finished {a} {b} {h} {t} c p q =
    let whole : take (length p.sent + q.0) t ≡ p.sent ++ take q.0 h = ap (λ (l : List ℕ). take (length p.sent + q.0) l) p.all ∙ take-append-add p.sent h q.0 in
    (length p.sent + q.0, subst (λ (l : List ℕ). Appends a c l) (sym whole) (Appends-trans a b c p.sent (take q.0 h) p.written q.1))
