use Rattle.std.proofs.Common.{sym, ap, subst, ◌∙◌}
use Rattle.gw_table.specs.Maps.{Maps}
use Rattle.gw_table.specs.Provided.{AreAmong}
use Rattle.gw_table.specs.Stored.{Stored, maps_of, AreSwept, NoneIsOut}
use Rattle.gw_table.proofs.Places.{maps_of_nothing, nothing_out, nothing_swept}
use Rattle.gw_table.proofs.Provisioning.{among_nothing}
use Rattle.gw_table.proofs.tables.Tables.provision.Goals as goal

pub provide_most-requires-clause-among : goal.provide_most-requires-clause-among
provide_most-requires-clause-among c = subst (λ (m : Maps). AreAmong c.as_slice-names.result.now m) (sym (ap (λ s. maps_of s) c.in_ok-tables.ensures ∙ maps_of_nothing)) (among_nothing c.as_slice-names.result.now)

pub provide_most-requires-clause-out : goal.provide_most-requires-clause-out
provide_most-requires-clause-out c = subst (λ (s : Stored). NoneIsOut s) (sym c.in_ok-tables.ensures) nothing_out

pub provide_most-requires-clause-swept : goal.provide_most-requires-clause-swept
provide_most-requires-clause-swept c = subst (λ (s : Stored). AreSwept s) (sym c.in_ok-tables.ensures) nothing_swept
