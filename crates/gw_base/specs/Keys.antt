-- The keys of the tables' entries, and lists of them (own).
use Rattle.std.specs.Prelude.{◌≡◌, nat_eq, Bool, true, false, bytes_eq, List}
use Rattle.std.specs.List.{list_any}
use Rattle.gw_base.specs.declared.key.Key.{Key}
use Rattle.gw_base.specs.declared.key.Key.TheVariants.{Term, Ctx, Whole}

abbrev pub same_key : Key → Key → Bool
same_key (Term a) (Term b) = bytes_eq a b
same_key (Ctx a) (Ctx b) = nat_eq a.0 b.0
same_key Whole Whole = true
same_key (Term a) (Ctx b) = false
same_key (Term a) Whole = false
same_key (Ctx a) (Term b) = false
same_key (Ctx a) Whole = false
same_key Whole (Term b) = false
same_key Whole (Ctx b) = false

-- the key is one of these
abbrev pub has : List Key → Key → Bool
has keys k = list_any (same_key k) keys

-- each of these keys is one of those
abbrev pub Among : List Key → List Key → Type 0
Among a b = (k : Key) → has a k ≡ true → has b k ≡ true

-- no key is in both, and neither is whole-table
pub record AreApart (a b : List Key) : Type 0 where
  pub keys : (k : Key) → has a k ≡ true → has b k ≡ false
  pub whole_a : has a Whole ≡ false
  pub whole_b : has b Whole ≡ false
