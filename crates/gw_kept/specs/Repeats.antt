-- What a burst's classes mean for the list that is kept while its requests are executed (own).
use Rattle.std.specs.Prelude.{ℕ, List, ◌++◌, map, length, Option}
use Rattle.gw_kept.specs.declared.entry.Entry.{Entry}
use Rattle.gw_kept.specs.declared.entry.RequestKey.{RequestKey}
use Rattle.gw_kept.specs.declared.point.Point.{Point}
use Rattle.gw_kept.specs.declared.point.Point.TheVariants as point
use Rattle.gw_kept.specs.declared.class.Class.{Class}
use Rattle.gw_kept.specs.declared.class.Source.{Source}
use Rattle.gw_kept.specs.declared.class.Source.TheVariants as source
use Rattle.gw_kept.specs.Pairs.{KeptList, key_of, bytes_at}
use Rattle.gw_kept.specs.Changes.{Change, kept_after, entries_in}
use Rattle.gw_kept.specs.Classes.{Standing, keys_of, class_at, classes_behind}

-- where the burst stands behind these changes, where k was kept at its start
abbrev pub standing_after : KeptList → List Change → Standing
standing_after k cs = record { pairs = map key_of (k.pairs ++ entries_in cs); kept = keys_of (kept_after k cs) }

-- the class of a request at that point
abbrev pub class_after : KeptList → List Change → RequestKey → Class
class_after k cs key = class_at (length k.pairs) (point.Request key) (standing_after k cs)

-- the classes of the items from that point on
abbrev pub classes_after : KeptList → List Change → List Point → List Class
classes_after k cs = classes_behind k.most (length k.pairs) (standing_after k cs)

-- the bytes that a source names: of a pair that was kept at the burst's start, or of the reply to a new request before
abbrev pub bytes_of : Source → KeptList → List Entry → Option (List ℕ)
bytes_of (source.Kept place) k es = bytes_at place k.pairs
bytes_of (source.Place place) k es = bytes_at place es
