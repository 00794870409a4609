-- Names that are the gateway's own to give (own).
use Rattle.std.specs.Prelude.{ℕ, Bool, ◌||◌, bytes_eq, nat_eq, List, ◌++◌, map, codes, decimal}
use Rattle.std.specs.List.{starts_with}
use Rattle.std.specs.Char.{to_ascii_lowercase}

-- ROOT in any case, and what begins with RTP/
abbrev pub is_reserved : List ℕ → Bool
is_reserved name = bytes_eq (map to_ascii_lowercase name) (map to_ascii_lowercase (codes "ROOT")) || starts_with nat_eq name (codes "RTP/")

-- the name of the termination in a slot: RTP/ and the slot in decimal, without leading zeros
unfoldable pub slot_name : ℕ → List ℕ
slot_name slot = codes "RTP/" ++ decimal slot
