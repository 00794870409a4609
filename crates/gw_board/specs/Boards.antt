-- A board as contracts see it (own): what it was given, how the places of its burst stand, and its undo log.
use Rattle.std.specs.Prelude.{◌≡◌, ℕ, suc, ◌<◌, Bool, true, false, cond, not, List, [], ◌∷◌, ◌++◌, map, take, slice_get, Option, None, Some}
use Rattle.std.specs.List.{list_any}
use Rattle.gw_board.specs.declared.profile.Profile.{Profile}
use Rattle.gw_base.specs.declared.key.Key.{Key}
use Rattle.gw_board.specs.Texts.{Text}
use Rattle.gw_table.specs.Maps.{Maps, Outcome}
use Rattle.gw_table.specs.Parts.{restricted}
use Rattle.gw_table.specs.Stored.{Stored, maps_of}
use Rattle.gw_board.specs.Carried.{BurstRequest, keys_of, done, carried}
use Rattle.gw_board.specs.Core.{Standing, Pending, Opened, Closed, Place, Job, Core, pending, open_with, meets_at, meets_any, MayOpen, after_open, after_close, after_return}
use Rattle.gw_board.specs.UndoLog.{UndoStep, Placed}
use Rattle.gw_board.specs.Results.{result_of}
use Rattle.gw_board.specs.Waves.{is_pending}

-- The profile, and the tables that it was given; the maps as they are, without the entries that are out; the places,
-- from 0; and of each job that was closed with its result, in the order of closing, the keys and the part that their
-- entries were taken out into.
pub record Seen : Type 0 where
  pub profile : Profile
  pub start : Stored
  pub maps : Maps
  pub places : List Place
  pub undo_log : List UndoStep

-- as a state of places side by side, no job of which is drawn
abbrev pub core_of : Seen → Core
core_of b = record { maps = b.maps; places = b.places; opened = []; lists = [] }

-- what the places ask
abbrev pub requested_in : List Place → List BurstRequest
requested_in places = map (λ p. p.requested) places

-- nothing is executed
abbrev pub begun_board : Profile → List BurstRequest → Stored → Seen
begun_board profile requested s = record { profile = profile; start = s; maps = maps_of s; places = map pending requested; undo_log = [] }

-- what is open is put back, and what is not closed executed, one place after another: that gives the maps and replies
-- of executing all requests, one after another, on the maps that the board was given
abbrev pub GivesTheFold : Seen → Type 0
GivesTheFold b = result_of b.profile (core_of b) ≡ carried b.profile (requested_in b.places) (maps_of b.start)

-- the burst is the same, and so are the tables of its start
pub record IsSameBurst (b c : Seen) : Type 0 where
  pub profile : c.profile ≡ b.profile
  pub start : c.start ≡ b.start
  pub requested : requested_in c.places ≡ requested_in b.places

-- ---- jobs

-- a job as it is handed out: its place, its request, its keys, and the part that has their entries
pub record Handed : Type 0 where
  pub profile : Profile
  pub place : ℕ
  pub requested : BurstRequest
  pub keys : List Key
  pub part : Maps

abbrev pub job_of : Handed → Job
job_of h = record { keys = h.keys; part = h.part; result = None }

-- what its request does on its part
abbrev pub outcome_of : Handed → Outcome Text
outcome_of h = done h.profile h.requested h.part

-- this board has handed it out, and it is not closed
pub record HasOpen (b : Seen) (h : Handed) : Type 0 where
  pub profile : h.profile ≡ b.profile
  pub stands : slice_get b.places h.place ≡ Some (open_with h.requested (job_of h))

-- a job that is over: with its result, or unchanged
pub record Ended : Type 0 where
  pub job : Handed
  pub is_carried : Bool

-- ---- to open a place

abbrev pub with_open : Seen → ℕ → BurstRequest → List Key → Seen
with_open b i a keys = record b { maps = (after_open (core_of b) i a keys).maps; places = (after_open (core_of b) i a keys).places }

-- the place was opened, and its job handed out
pub record Opens (b : Seen) (i : ℕ) (h : Handed) (c : Seen) : Type 0 where
  pub may : MayOpen (core_of b) i h.requested h.keys
  pub job : h ≡ record { profile = b.profile; place = i; requested = h.requested; keys = h.keys; part = restricted h.keys b.maps }
  pub board : c ≡ with_open b i h.requested h.keys

abbrev pub is_pending_at : Option Place → Bool
is_pending_at None = false
is_pending_at (Some p) = is_pending p.standing

-- these keys meet what stands at a place
abbrev pub meets_here : List Key → Maps → Option Place → Bool
meets_here keys m None = false
meets_here keys m (Some p) = meets_at keys m p.requested p.standing

-- the first place before it, pending or open, that the pending one meets
pub record IsFirstMet (b : Seen) (i j : ℕ) : Type 0 where
  pub requested : BurstRequest
  pub pends : slice_get b.places i ≡ Some (pending requested)
  pub earlier : j < i
  pub met : meets_here (keys_of requested b.maps) b.maps (slice_get b.places j) ≡ true
  pub first : meets_any (keys_of requested b.maps) b.maps (take j b.places) ≡ false

-- ---- to close a place

abbrev pub undo_step_in : Handed → UndoStep
undo_step_in h = record { keys = h.keys; way = Placed h.part }

-- with its result: the reply stands at the place, and its undo step is the last of the undo log
abbrev pub with_result : Seen → Handed → Seen
with_result b h = record b {
  maps = (after_close (core_of b) h.place h.requested (job_of h) (outcome_of h)).maps;
  places = (after_close (core_of b) h.place h.requested (job_of h) (outcome_of h)).places;
  undo_log = b.undo_log ++ undo_step_in h ∷ [];
}

-- unchanged: the place is pending again
abbrev pub unchanged : Seen → Handed → Seen
unchanged b h = record b {
  maps = (after_return (core_of b) h.place h.requested (job_of h)).maps;
  places = (after_return (core_of b) h.place h.requested (job_of h)).places;
}

abbrev pub after_end : Seen → Ended → Seen
after_end b e = cond e.is_carried (with_result b e.job) (unchanged b e.job)

-- ---- at the end

abbrev pub is_closed : Standing → Bool
is_closed Pending = false
is_closed (Opened j) = false
is_closed (Closed reply) = true

-- every place is closed
abbrev pub AllClosed : List Place → Type 0
AllClosed places = list_any (λ p. not (is_closed p.standing)) places ≡ false

-- how many places are not closed
abbrev pub unclosed : List Place → ℕ
unclosed [] = 0
unclosed (p ∷ ps) = cond (is_closed p.standing) (unclosed ps) (suc (unclosed ps))

-- the text of the reply that stands there
abbrev pub reply_of : Standing → Option Text
reply_of Pending = None
reply_of (Opened j) = None
reply_of (Closed reply) = Some reply

abbrev pub reply_at : Option Place → Option Text
reply_at None = None
reply_at (Some p) = reply_of p.standing
