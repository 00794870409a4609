-- What rows end as once a borrow of one of them ends (own).
use Rattle.std.specs.Prelude.{◌≡◌, Bool, Option, Some, IsSome}
use Rattle.std.specs.Borrow.{Fml, RattleType, MutBor, Lends, LendsSo}
use Rattle.std.specs.declared.cmp.Ordering.{Ordering}
use Rattle.gw_table.specs.Rows.{Rowed, found, Puts}
use Rattle.gw_table.specs.declared.place.Place.{Place}
use Rattle.gw_table.specs.declared.rows.KeyedRow.{KeyedRow}
use Rattle.gw_table.specs.contracts.row.Row.{the_row as type_of_row}
use Rattle.gw_table.specs.contracts.rows.KeyedRow.{the_row as type_of_keyed}
use Rattle.gw_table.specs.contracts.rows.Rows.{the_row as type_of_rows}

-- what a clause has as K.Ord
abbrev pub OrdMembers : Type 0 → Type 0
OrdMembers K = record { partial_cmp : K → K → Option Ordering; eq : K → K → Bool; cmp : K → K → Ordering }

-- the row of the same key, with this in it
abbrev pub with_place : {K T : Type 0} → KeyedRow K T → Place T → KeyedRow K T
with_place l p = record l { row = p }

-- the row of a key ends with the last value behind r
abbrev pub LendsRow : (K T : RattleType) → MutBor (KeyedRow K.Denot T.Denot) → MutBor (Place T.Denot) → Fml
LendsRow K T l r = Lends (type_of_keyed K T) (type_of_row T) l r (with_place l.now)

-- the rows have at the key the last value behind r, and at `None` they are as they were
abbrev pub LendsFound : (K T : RattleType) (g : OrdMembers K.Denot) → MutBor (Rowed K.Denot (Place T.Denot)) → K.Denot → Option (MutBor (Place T.Denot)) → Fml
LendsFound K T g m k r =
    LendsSo (type_of_rows K T (record { cmp = g.cmp }) (record { eq = g.eq }) (record { partial_cmp = g.partial_cmp })) (type_of_row T) m r
    (λ n w. IsSome (found g.cmp m.now k) → Puts g.cmp m.now k (Some w) n) (λ n. n ≡ m.now)
