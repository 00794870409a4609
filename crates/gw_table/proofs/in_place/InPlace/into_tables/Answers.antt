use Rattle.std.proofs.Common.{ap, ◌∙◌}
use Rattle.gw_table.specs.Parts.{Parted, start_of}
use Rattle.gw_table.specs.Stored.{maps_of}
use Rattle.gw_table.proofs.in_place.InPlace.into_tables.Goals as goal

pub returns-clause-back : goal.returns-clause-back
returns-clause-back c = c.self.invariant.back ∙ ap (λ (p : Parted). maps_of (start_of p.keys)) c.self.view_is
