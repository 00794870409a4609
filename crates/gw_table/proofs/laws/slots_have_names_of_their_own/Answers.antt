use Rattle.gw_table.proofs.SlotNames.{slots_apart, slot_is_reserved}
use Rattle.gw_table.proofs.laws.slots_have_names_of_their_own.Goals as goal

pub returns-clause-apart : goal.returns-clause-apart
returns-clause-apart c = slots_apart

pub returns-clause-reserved : goal.returns-clause-reserved
returns-clause-reserved c = slot_is_reserved
