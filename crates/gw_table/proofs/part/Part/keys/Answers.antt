use Rattle.std.proofs.Common.{subst}
use Rattle.gw_table.specs.Cells.{celled}
use Rattle.gw_table.specs.Parts.{Parted, IsPart}
use Rattle.gw_table.proofs.Celled.{packed_part}
use Rattle.gw_table.proofs.part.Part.keys.Goals as goal

pub returns-clause-entries : goal.returns-clause-entries
returns-clause-entries c = subst (λ (p : Parted). IsPart p.keys p.maps) c.self.view_is (packed_part c.self.inside.keys.items (celled c.self.inside.keys.items c.self.inside.cells.items) c.self.invariant.2)
