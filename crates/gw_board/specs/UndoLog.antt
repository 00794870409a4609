-- The undo log (own): of each job that was closed with its result, the entries as they were before it; of requests that
-- were executed one after another, their writes.
use Rattle.std.specs.Prelude.{Bool, List, [], ◌∷◌, ◌++◌}
use Rattle.std.specs.List.{list_any}
use Rattle.gw_board.specs.declared.profile.Profile.{Profile}
use Rattle.gw_base.specs.declared.key.Key.{Key}
use Rattle.gw_base.specs.Keys.{has}
use Rattle.gw_table.specs.declared.undo_log.Write.{Write}
use Rattle.gw_table.specs.Maps.{Maps}
use Rattle.gw_table.specs.UndoLog.{undone as taken}
use Rattle.gw_table.specs.Parts.{overlaid}
use Rattle.gw_board.specs.Core.{Core, Event, Open, Draw, Close, Return, Events, none, more}

-- the entries of a part, to be put over the maps; or writes, to be taken back
pub data Way : Type 0 where
  Placed : Maps → Way
  Taken : List Write → Way

-- the keys of a job, with the part that they were taken out into; or those of writes
pub record UndoStep : Type 0 where
  pub keys : List Key
  pub way : Way

abbrev pub led_by : Way → List Key → Maps → Maps
led_by (Placed part) keys m = overlaid keys part m
led_by (Taken writes) keys m = taken writes m

-- where it leads back to
abbrev pub led : UndoStep → Maps → Maps
led o m = led_by o.way o.keys m

-- it is a key of one of the undo steps
abbrev pub is_logged : List UndoStep → Key → Bool
is_logged undo_log k = list_any (λ o. has o.keys k) undo_log

abbrev pub undo_step_of : {profile : Profile} {s t : Core} → Event profile s t → List UndoStep
undo_step_of (Open i a keys may is) = []
undo_step_of (Draw worker i a j may is) = []
undo_step_of (Close i a j result may is) = record { keys = j.keys; way = Placed j.part } ∷ []
undo_step_of (Return i a j may is) = []

-- in the order of closing
abbrev pub undo_log_of : {profile : Profile} {s t : Core} → Events profile s t → List UndoStep
undo_log_of none = []
undo_log_of (more event later) = undo_step_of event ++ undo_log_of later

-- where the undo steps lead back to, the last one first
abbrev pub undone : List UndoStep → Maps → Maps
undone [] m = m
undone (o ∷ later) m = led o (undone later m)
