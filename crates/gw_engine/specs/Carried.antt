-- Requests executed one after another, each paired with what it owns (own: the order between transactions).
use Rattle.std.specs.Prelude.{List, [], ◌∷◌}
use Rattle.gw_base.specs.declared.command_words.Rules.{Rules}
use Rattle.gw_msg.specs.declared.message.Request.{Request}
use Rattle.gw_reply.specs.declared.reply.TxReply.{TxReply}
use Rattle.gw_reserve.specs.Owned.{OwnedAction}
use Rattle.gw_table.specs.Maps.{Maps, Outcome}
use Rattle.gw_tx.specs.Transactions.{paired_transaction}

-- each on the maps that the one before it left: the maps behind the last, and the replies in order
unfoldable pub carried : Rules → List (Request × List OwnedAction) → Maps → Outcome (List TxReply)
carried rules [] m = record { maps = m; answer = [] }
carried rules (r ∷ rs) m =
    let now = paired_transaction rules r.0 r.1 m in
    let rest = carried rules rs now.maps in
    record { maps = rest.maps; answer = now.answer ∷ rest.answer }
