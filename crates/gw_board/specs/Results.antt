-- What a state comes to (own): what is open goes back as it was, and what is not closed is executed, one place after
-- another.
use Rattle.std.specs.Prelude.{◌≡◌, ℕ, Bool, true, false, List, [], ◌∷◌, map, flat_map, Option, None, Some}
use Rattle.std.specs.List.{list_any}
use Rattle.gw_board.specs.declared.profile.Profile.{Profile}
use Rattle.gw_board.specs.Texts.{Text}
use Rattle.gw_table.specs.Maps.{Maps, Outcome}
use Rattle.gw_table.specs.Parts.{overlaid}
use Rattle.gw_table.specs.Unused.{owned}
use Rattle.gw_board.specs.Carried.{BurstRequest, done}
use Rattle.gw_board.specs.Core.{Standing, Pending, Opened, Closed, Place, Core}

abbrev pub is_open : Standing → Bool
is_open Pending = false
is_open (Opened j) = true
is_open (Closed reply) = false

abbrev pub is_open_at : Option Place → Bool
is_open_at None = false
is_open_at (Some p) = is_open p.standing

abbrev pub NothingIsOpen : Core → Type 0
NothingIsOpen s = list_any (λ p. is_open p.standing) s.places ≡ false

-- the part of an open job, put back
abbrev pub part_back : Standing → Maps → Maps
part_back Pending m = m
part_back (Opened j) m = overlaid j.keys j.part m
part_back (Closed reply) m = m

abbrev pub all_back : List Place → Maps → Maps
all_back [] m = m
all_back (p ∷ ps) m = part_back p.standing (all_back ps m)

-- at a closed place its reply stands, and elsewhere the request is executed
abbrev pub carried_at : Profile → BurstRequest → Standing → Maps → Outcome Text
carried_at profile a Pending m = done profile a m
carried_at profile a (Opened j) m = done profile a m
carried_at profile a (Closed reply) m = record { maps = m; answer = reply }

abbrev pub carried_on : Profile → List Place → Maps → Outcome (List Text)
carried_on profile [] m = record { maps = m; answer = [] }
carried_on profile (p ∷ ps) m =
    let now = carried_at profile p.requested p.standing m in
    let later = carried_on profile ps now.maps in
    record { maps = later.maps; answer = now.answer ∷ later.answer }

abbrev pub result_of : Profile → Core → Outcome (List Text)
result_of profile s = carried_on profile s.places (all_back s.places s.maps)

-- every place is closed, with these replies
abbrev pub AreClosed : List Place → List Text → Type 0
AreClosed places replies = map (λ p. p.standing) places ≡ map Closed replies

-- the slots that requests own
abbrev pub slots_of : List BurstRequest → List ℕ
slots_of requested = flat_map (λ a. owned a.owned.slots) requested
