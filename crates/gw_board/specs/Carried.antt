-- Requests executed one after another (own: the order between transactions).
use Rattle.std.specs.Prelude.{List, [], ◌∷◌}
use Rattle.gw_board.specs.declared.profile.Profile.{Profile}
use Rattle.gw_base.specs.declared.key.Key.{Key}
use Rattle.gw_board.specs.Texts.{Text}
use Rattle.gw_reply.specs.Messages.{reply_text}
use Rattle.gw_table.specs.Maps.{Maps, Outcome}
use Rattle.gw_reserve.specs.Owned.{paired}
use Rattle.gw_tx.specs.Footprints.{footprint_of}
use Rattle.gw_tx.specs.Transactions.{paired_transaction}
-- the sender, a request, and what it owns: an entry for each of its actions and commands
pub use Rattle.gw_board.specs.declared.requested.BurstRequest.{BurstRequest}

-- its keys, in maps as they are
abbrev pub keys_of : BurstRequest → Maps → List Key
keys_of a m = footprint_of (paired a.request a.owned) m

-- what it does, and the text of the reply to it
abbrev pub done : Profile → BurstRequest → Maps → Outcome Text
done profile a m =
    let now = paired_transaction profile.rules a.request (paired a.request a.owned) m in
    record { maps = now.maps; answer = reply_text profile.mid now.answer }

-- each on the maps that the one before it left: the maps behind the last, and the texts of the replies in order
abbrev pub carried : Profile → List BurstRequest → Maps → Outcome (List Text)
carried profile [] m = record { maps = m; answer = [] }
carried profile (a ∷ more) m =
    let now = done profile a m in
    let later = carried profile more now.maps in
    record { maps = later.maps; answer = now.answer ∷ later.answer }
