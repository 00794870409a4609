-- The table of a burst, once its columns are filled.
use Rattle.std.proofs.Common.{◌≡◌, ℕ, suc, List, [], ◌∷◌, ◌++◌, length, take, drop, refl, sym, ap, ◌∙◌}
use Rattle.gw_kept.specs.Classes.{Standing, behind, classes_behind, classes_of}
use Rattle.gw_kept.specs.Pairs.{KeptList}
use Rattle.gw_kept.specs.declared.class.Class.{Class}
use Rattle.gw_kept.specs.declared.point.Point.{Point}
use Rattle.gw_table.proofs.Celled.{written_back}
use Rattle.gw_engine.specs.declared.items.BurstItem.{BurstItem}
use Rattle.gw_engine.specs.declared.reading.ReadDatagram.{ReadDatagram}
use Rattle.gw_engine.specs.Phases.{items_of, count_behind, classified, points_of}

-- each item has a class
pub as_many : (most old : ℕ) (s : Standing) (points : List Point) → length (classes_behind most old s points) ≡ length points
as_many most old s [] = refl
as_many most old s (p ∷ rest) = ap (λ (n : ℕ). suc n) (as_many most old (behind most old p s) rest)

pub points_length : (items : List BurstItem) → length (points_of items) ≡ length items
points_length [] = refl
points_length (i ∷ rest) = ap (λ (n : ℕ). suc n) (points_length rest)

classified_length : (n : ℕ) (items : List BurstItem) (classes : List Class) → length (classified n items classes) ≡ length items
classified_length n [] classes = refl
classified_length n (i ∷ rest) [] = refl
classified_length n (i ∷ rest) (c ∷ classes) = ap (λ (m : ℕ). suc m) (classified_length (count_behind i c n) rest classes)

-- what a slice of the table wrote back is the whole table
pub table_is : (k : KeptList) (messages : List ReadDatagram) (vec slice filled : List BurstItem) (len : ℕ) → vec ≡ items_of messages → slice ≡ vec → length slice ≡ len → filled ≡ classified 0 slice (classes_of k (points_of slice))
    → take len (filled ++ drop (length filled) vec) ≡ classified 0 (items_of messages) (classes_of k (points_of (items_of messages)))
table_is k messages vec slice filled len read lent is done =
    let all : slice ≡ items_of messages = lent ∙ read in
    written_back filled vec len (ap (λ (l : List BurstItem). length l) done ∙ classified_length 0 slice (classes_of k (points_of slice)) ∙ is) (ap (λ (l : List BurstItem). length l) (sym lent) ∙ is)
    ∙ done ∙ (λ i. classified 0 (all i) (classes_of k (points_of (all i))))
