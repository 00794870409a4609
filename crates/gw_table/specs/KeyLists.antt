-- Keys in order, and lists of keys without doubles (own).
use Rattle.std.specs.Prelude.{◌≡◌, List}
use Rattle.std.specs.List.Sorted.{IsStrictlySortedBy}
use Rattle.std.specs.Ordering.{nat_cmp}
use Rattle.std.specs.declared.cmp.Ordering.{Ordering}
use Rattle.std.specs.declared.cmp.Ordering.TheVariants.{Less, Equal, Greater}
use Rattle.gw_base.specs.declared.key.Key.{Key}
use Rattle.gw_base.specs.declared.key.Key.TheVariants.{Term, Ctx, Whole}
use Rattle.gw_base.specs.Keys.{has}
use Rattle.gw_base.specs.NameLists.{name_cmp}

-- terminations by the bytes of their names, then contexts by number, then the whole
abbrev pub key_cmp : Key → Key → Ordering
key_cmp (Term a) (Term b) = name_cmp a b
key_cmp (Term a) (Ctx b) = Less
key_cmp (Term a) Whole = Less
key_cmp (Ctx a) (Term b) = Greater
key_cmp (Ctx a) (Ctx b) = nat_cmp a.0 b.0
key_cmp (Ctx a) Whole = Less
key_cmp Whole (Term b) = Greater
key_cmp Whole (Ctx b) = Greater
key_cmp Whole Whole = Equal

-- each key comes before those after it, so that none stands twice
abbrev pub IsInOrder : List Key → Type 0
IsInOrder keys = IsStrictlySortedBy key_cmp keys

-- a list in order of the given keys and no other
pub record IsListOf (keys given : List Key) : Type 0 where
  pub order : IsInOrder keys
  pub same : (k : Key) → has keys k ≡ has given k
