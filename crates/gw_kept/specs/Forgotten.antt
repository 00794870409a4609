-- What an acknowledgement removes from the kept replies (RFC 3525, Annex D.1; that they go at once is own).
use Rattle.std.specs.Prelude.{◌&&◌, ◌||◌, not, nat_le, ℕ, Bool, false, bytes_eq, List, [], ◌∷◌}
use Rattle.std.specs.List.{filter}
use Rattle.gw_msg.specs.declared.message.AckRange.{AckRange}
use Rattle.gw_kept.specs.declared.entry.RequestKey.{RequestKey}
use Rattle.gw_kept.specs.Pairs.{KeptList, kept_list, key_of}

-- both ends are in the range; a range whose first is above its last has no number
abbrev pub is_within : ℕ → AckRange → Bool
is_within id range = nat_le range.first id && nat_le id range.last

abbrev pub is_acknowledged : ℕ → List AckRange → Bool
is_acknowledged id [] = false
is_acknowledged id (range ∷ rest) = is_within id range || is_acknowledged id rest

-- this sender's, under a number in one of the ranges
abbrev pub is_named : (mid : List ℕ) → List AckRange → RequestKey → Bool
is_named mid ranges key = bytes_eq key.mid mid && is_acknowledged key.id ranges

-- the pairs that are named go, and the others stay in their order
abbrev pub forgotten : KeptList → (mid : List ℕ) → List AckRange → KeptList
forgotten k mid ranges = kept_list (filter (λ e. not (is_named mid ranges (key_of e))) k.pairs) k.most
