-- What a burst changes in the kept replies, in order of arrival (own): the reply to a new request is kept, and an
-- acknowledgement removes those that it names.
use Rattle.std.specs.Prelude.{◌≡◌, List, [], ◌∷◌, None}
use Rattle.gw_kept.specs.declared.entry.Entry.{Entry}
use Rattle.gw_kept.specs.declared.point.Removal.{Removal}
use Rattle.gw_kept.specs.declared.change.Turn.{Turn}
use Rattle.gw_kept.specs.declared.change.Turn.TheVariants as turn
use Rattle.gw_kept.specs.Pairs.{KeptList, key_of, bytes_for, with_pair}
use Rattle.gw_kept.specs.Forgotten.{forgotten}

pub data Change : Type 0 where
  Keep : Entry → Change
  Remove : Removal → Change

abbrev pub changed : KeptList → Change → KeptList
changed k (Keep e) = with_pair k e
changed k (Remove r) = forgotten k r.mid r.ranges

-- one change after another
abbrev pub kept_after : KeptList → List Change → KeptList
kept_after k [] = k
kept_after k (c ∷ cs) = kept_after (changed k c) cs

-- a pair that is kept has a key that no kept pair has
abbrev pub IsNew : KeptList → Change → Type 0
IsNew k (Keep e) = bytes_for (key_of e) k.pairs ≡ None
IsNew k (Remove r) = Unit {0}

-- so it is with each, at its turn
abbrev pub AreNew : KeptList → List Change → Type 0
AreNew k [] = Unit {0}
AreNew k (c ∷ cs) = IsNew k c × AreNew (changed k c) cs

-- the pairs that are kept, in order
abbrev pub entries_in : List Change → List Entry
entries_in [] = []
entries_in (Keep e ∷ cs) = e ∷ entries_in cs
entries_in (Remove r ∷ cs) = entries_in cs

-- the changes of a burst by their turns, each pair at the next turn that keeps one
abbrev pub changes_of : List Turn → List Entry → List Change
changes_of [] es = []
changes_of (turn.Keep ∷ ts) [] = changes_of ts []
changes_of (turn.Keep ∷ ts) (e ∷ es) = Keep e ∷ changes_of ts es
changes_of (turn.Forget r ∷ ts) es = Remove r ∷ changes_of ts es
