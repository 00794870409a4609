use Rattle.gw_table.proofs.PartLookups.{sound_restricted, part_restricted, sound_whole}
use Rattle.gw_table.proofs.laws.sound_part.Goals as goal

pub returns-clause-part : goal.returns-clause-part
returns-clause-part c = sound_restricted

pub returns-clause-whole : goal.returns-clause-whole
returns-clause-whole c = sound_whole

pub returns-clause-entries : goal.returns-clause-entries
returns-clause-entries c = part_restricted
