-- Rows with an index of their keys (own): at a key stands what is in the row with the number that the index has for it.
use Rattle.std.specs.Prelude.{◌≡◌, ℕ, Bool, true, false, cond, List, [], ◌∷◌, Option, None, Some, is_some, ⊤, slice_index_or}
use Rattle.std.specs.List.Sorted.{IsStrictlySortedBy}
use Rattle.std.specs.Map.{lookup, keys_of}
use Rattle.std.specs.BTreeMap.{is_at}
use Rattle.std.specs.Ordering.{eq_by_cmp}
use Rattle.std.specs.declared.cmp.Ordering.{Ordering}
use Rattle.gw_table.specs.declared.place.Place.{Place}
use Rattle.gw_table.specs.declared.rows.KeyedRow.{KeyedRow}

-- what stands at keys, in their order
pub record Rowed (K X : Type 0) : Type 0 where
  pub entries : List (K × X)

module _ {K T : Type 0} where
  -- the row with a number, if there is one
  abbrev pub row_at : List (Option (KeyedRow K T)) → ℕ → Option (KeyedRow K T)
  row_at rows n = slice_index_or rows n None

  -- what stands in it, if there is one
  abbrev pub place_of_row : Option (KeyedRow K T) → Option (Place T)
  place_of_row None = None
  place_of_row (Some l) = Some l.row

  -- what stands in the row with a number, if the index has one for the key
  abbrev pub place_in : List (Option (KeyedRow K T)) → Option ℕ → Option (Place T)
  place_in rows None = None
  place_in rows (Some n) = place_of_row (row_at rows n)

  -- entries with this one before them, if there is one
  abbrev pub with_row : K → Option (Place T) → List (K × Place T) → List (K × Place T)
  with_row k None es = es
  with_row k (Some p) es = (k, p) ∷ es

  -- the keys of the index, each with what stands in its row
  abbrev pub rowed : List (K × ℕ) → List (Option (KeyedRow K T)) → List (K × Place T)
  rowed [] rows = []
  rowed (e ∷ index) rows = with_row e.0 (place_of_row (row_at rows e.1)) (rowed index rows)

  -- the rows of the index are there
  abbrev pub AreThere : List (Option (KeyedRow K T)) → List (K × ℕ) → Type 0
  AreThere rows [] = ⊤
  AreThere rows (e ∷ index) = (is_some (place_of_row (row_at rows e.1)) ≡ true) × AreThere rows index

  -- the row is one of the key
  abbrev pub is_of : (K → K → Ordering) → K → Option (KeyedRow K T) → Bool
  is_of cmp k None = false
  is_of cmp k (Some l) = eq_by_cmp cmp k l.key

  -- The index has for each of its keys the number of a row of that key, and each row is the one that the index has for
  -- its key.
  pub record IsTied (cmp : K → K → Ordering) (index : List (K × ℕ)) (rows : List (Option (KeyedRow K T))) : Type 0 where
    pub ordered : IsStrictlySortedBy cmp (keys_of index)
    pub named : (k : K) (n : ℕ) → lookup (is_at (cmp k)) index ≡ Some n → is_of cmp k (row_at rows n) ≡ true
    pub kept : (n : ℕ) (l : KeyedRow K T) → row_at rows n ≡ Some l → lookup (is_at (cmp l.key)) index ≡ Some n

module _ {K X : Type 0} (cmp : K → K → Ordering) where
  -- what stands at a key
  abbrev pub found : Rowed K X → K → Option X
  found m k = lookup (is_at (cmp k)) m.entries

  -- the keys rise
  abbrev pub IsRising : Rowed K X → Type 0
  IsRising m = IsStrictlySortedBy cmp (keys_of m.entries)

  -- the second has this at the key, or nothing, and at any other key what the first has
  abbrev pub Puts : Rowed K X → K → Option X → Rowed K X → Type 0
  Puts m k o n = (q : K) → lookup (is_at (cmp q)) n.entries ≡ cond (is_at (cmp k) q) o (lookup (is_at (cmp q)) m.entries)
