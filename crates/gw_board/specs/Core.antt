-- Transactions side by side (own): how the places of a burst stand, which entries are out of the maps, and what may
-- happen.
use Rattle.std.specs.Prelude.{◌≡◌, ℕ, ◌<◌, nat_eq, Bool, false, not, List, [], ◌∷◌, ◌++◌, map, length, take, slice_get, slice_set, slice_index_or, replicate, filter, find, Option, None, Some, is_none}
use Rattle.std.specs.List.{list_any}
use Rattle.gw_board.specs.declared.profile.Profile.{Profile}
use Rattle.gw_base.specs.declared.key.Key.{Key}
use Rattle.gw_base.specs.Keys.{has}
use Rattle.gw_board.specs.Texts.{Text}
use Rattle.gw_table.specs.Maps.{Maps, Outcome}
use Rattle.gw_table.specs.Parts.{restricted, cut, overlaid}
use Rattle.gw_foot.specs.Meets.{meets}
use Rattle.gw_board.specs.Carried.{BurstRequest, keys_of, done}

-- ---- states

-- an open job: its keys, the part that their entries are in, and once it was drawn its result
pub record Job : Type 0 where
  pub keys : List Key
  pub part : Maps
  pub result : Option (Outcome Text)

pub data Standing : Type 0 where
  Pending : Standing
  Opened : Job → Standing
  Closed : Text → Standing

-- a place of a burst: its request, and how it stands
pub record Place : Type 0 where
  pub requested : BurstRequest
  pub standing : Standing

-- The maps, without the entries that are out; the places, from 0; the places of open jobs in the order of opening; and
-- for each worker the places of the jobs that it has drawn.
pub record Core : Type 0 where
  pub maps : Maps
  pub places : List Place
  pub opened : List ℕ
  pub lists : List (List ℕ)

abbrev pub pending : BurstRequest → Place
pending a = record { requested = a; standing = Pending }

abbrev pub open_with : BurstRequest → Job → Place
open_with a j = record { requested = a; standing = Opened j }

abbrev pub closed_with : BurstRequest → Text → Place
closed_with a reply = record { requested = a; standing = Closed reply }

-- nothing is out, and every place is pending
abbrev pub start : (workers : ℕ) → List BurstRequest → Maps → Core
start workers requested m = record { maps = m; places = map pending requested; opened = []; lists = replicate workers [] }

-- ---- to open a place

-- these keys meet those of a pending place, in the maps as they are, or of an open job
abbrev pub meets_at : List Key → Maps → BurstRequest → Standing → Bool
meets_at keys m a Pending = meets (keys_of a m) keys
meets_at keys m a (Opened j) = meets j.keys keys
meets_at keys m a (Closed reply) = false

abbrev pub meets_any : List Key → Maps → List Place → Bool
meets_any keys m places = list_any (λ p. meets_at keys m p.requested p.standing) places

-- these are the keys of a request in maps as they are, in whatever order
abbrev pub AreKeysOf : BurstRequest → Maps → List Key → Type 0
AreKeysOf a m keys = (k : Key) → has keys k ≡ has (keys_of a m) k

-- the place is pending, and its keys meet those of no earlier one
pub record MayOpen (s : Core) (i : ℕ) (a : BurstRequest) (keys : List Key) : Type 0 where
  pub pends : slice_get s.places i ≡ Some (pending a)
  pub listed : AreKeysOf a s.maps keys
  pub free : meets_any (keys_of a s.maps) s.maps (take i s.places) ≡ false

-- the entries of its keys move into a part
abbrev pub after_open : Core → ℕ → BurstRequest → List Key → Core
after_open s i a keys = record {
  maps = cut keys s.maps;
  places = slice_set s.places i (open_with a (record { keys = keys; part = restricted keys s.maps; result = None }));
  opened = s.opened ++ i ∷ [];
  lists = s.lists;
}

-- ---- to draw a job

abbrev pub is_undrawn : Standing → Bool
is_undrawn Pending = false
is_undrawn (Opened j) = is_none j.result
is_undrawn (Closed reply) = false

abbrev pub undrawn_at : Option Place → Bool
undrawn_at None = false
undrawn_at (Some p) = is_undrawn p.standing

-- of the open jobs that are not drawn, the first in the order of opening
abbrev pub next_job : Core → Option ℕ
next_job s = find (λ i. undrawn_at (slice_get s.places i)) s.opened

pub record MayDraw (s : Core) (worker i : ℕ) (a : BurstRequest) (j : Job) : Type 0 where
  pub works : worker < length s.lists
  pub next : next_job s ≡ Some i
  pub stands : slice_get s.places i ≡ Some (open_with a j)

-- it is executed on its part
abbrev pub drawn : Profile → BurstRequest → Job → Job
drawn profile a j = record { keys = j.keys; part = j.part; result = Some (done profile a j.part) }

abbrev pub after_draw : Profile → Core → (worker : ℕ) → ℕ → BurstRequest → Job → Core
after_draw profile s worker i a j = record {
  maps = s.maps;
  places = slice_set s.places i (open_with a (drawn profile a j));
  opened = s.opened;
  lists = slice_set s.lists worker (slice_index_or s.lists worker [] ++ i ∷ []);
}

-- ---- to close a place

abbrev pub without_place : ℕ → List ℕ → List ℕ
without_place i opened = filter (λ k. not (nat_eq i k)) opened

-- with the result: the new part is put over the maps, and the reply stands at the place
pub record MayClose (s : Core) (i : ℕ) (a : BurstRequest) (j : Job) (result : Outcome Text) : Type 0 where
  pub stands : slice_get s.places i ≡ Some (open_with a j)
  pub drawn : j.result ≡ Some result

abbrev pub after_close : Core → ℕ → BurstRequest → Job → Outcome Text → Core
after_close s i a j result = record {
  maps = overlaid j.keys result.maps s.maps;
  places = slice_set s.places i (closed_with a result.answer);
  opened = without_place i s.opened;
  lists = s.lists;
}

-- unchanged: the part goes back as it was, and the place is pending again
pub record MayReturn (s : Core) (i : ℕ) (a : BurstRequest) (j : Job) : Type 0 where
  pub stands : slice_get s.places i ≡ Some (open_with a j)

abbrev pub after_return : Core → ℕ → BurstRequest → Job → Core
after_return s i a j = record {
  maps = overlaid j.keys j.part s.maps;
  places = slice_set s.places i (pending a);
  opened = without_place i s.opened;
  lists = s.lists;
}

-- ---- events

-- a lawful event leads from one state to another
pub data Event (profile : Profile) (s t : Core) : Type 0 where
  Open : (i : ℕ) (a : BurstRequest) (keys : List Key) → MayOpen s i a keys → t ≡ after_open s i a keys → Event profile s t
  Draw : (worker i : ℕ) (a : BurstRequest) (j : Job) → MayDraw s worker i a j → t ≡ after_draw profile s worker i a j → Event profile s t
  Close : (i : ℕ) (a : BurstRequest) (j : Job) (result : Outcome Text) → MayClose s i a j result → t ≡ after_close s i a j result → Event profile s t
  Return : (i : ℕ) (a : BurstRequest) (j : Job) → MayReturn s i a j → t ≡ after_return s i a j → Event profile s t

-- lawful events, one after another
pub data Events (profile : Profile) : Core → Core → Type 0 where
  none : {s : Core} → Events profile s s
  more : {s : Core} {t : Core} {u : Core} → Event profile s t → Events profile t u → Events profile s u
