-- The answers of workers, each in its job's place, as a list beside the jobs.
use Rattle.std.proofs.Common.{ℕ, suc, ◌<◌, List, [], ◌∷◌, ◌≡◌, length, slice_index_or, Bor, sym, subst, arith}
use Rattle.std.specs.List.{AllZip}
use denote.Param.Members.{Shared}
use Rattle.gw_draw.specs.Answers.{GivesAt, GivesEach}

-- what holds in each place holds side by side
zip_from : {A B : Type 0} (R : A → B → Type 0) (xs : List A) (ys : List B) → length ys ≡ length xs → ((i : ℕ) (d : A) (e : B) → i < length xs → R (slice_index_or xs i d) (slice_index_or ys i e)) → AllZip R xs ys
zip_from R [] [] len each = tt
zip_from R [] (y ∷ ys) len each = absurd (omega (arith, len))
zip_from R (x ∷ xs) [] len each = absurd (omega (arith, len))
zip_from R (x ∷ xs) (y ∷ ys) len each = (each 0 x y (omega arith), zip_from R xs ys (omega (arith, len)) (λ i d e h. each (suc i) d e (omega (arith, h))))

-- where each answer of the function is one on its job
module _ {F J X : Type 0} (g : Shared F (Bor J × Unit {0}) X) (f : F) (R : J → X → Type 0) (call : (p : Bor J) (r : X) → g.post f (p, tt) r → R p.now r) where
  at_place : (jobs : List J) (i : ℕ) (d : J) (r : X) → GivesAt g f jobs i r → R (slice_index_or jobs i d) r
  at_place jobs i d r a = subst (λ (j : J). R j r) (sym (a.shows d)) (call a.seen r a.call)

  pub side_by_side : (jobs : List J) (rs : List X) → GivesEach g f jobs rs → AllZip R jobs rs
  side_by_side jobs rs e = zip_from R jobs rs e.as_many (λ i d r h. at_place jobs i d (slice_index_or rs i r) (e.each i r h))
