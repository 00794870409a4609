use Rattle.std.proofs.Common.{ap, ◌∙◌}
use Rattle.std.specs.FinMap as finite
use Rattle.std.specs.Ordering.{nat_cmp}
use Rattle.gw_base.specs.NameLists.{name_cmp}
use Rattle.gw_ctx.specs.Contexts.{ContextRecord}
use Rattle.gw_term.specs.declared.record.Termination.{Termination}
use Rattle.gw_table.specs.declared.place.Place.{Place}
use Rattle.gw_table.specs.Stored.{if_visible}
use Rattle.gw_table.proofs.Prepared.{AreShown, swept_maps, swept_in, swept_ready}
use Rattle.gw_table.proofs.tables.Tables.sweep.Goals as goal

both : (c : goal.After-sweep_contexts) → AreShown c.args.self.now c.sweep_contexts.new.self
both c = record {
  terms = λ t. ap (λ (f : finite.FinMap name_cmp (Place Termination)). finite.get f t) c.sweep_contexts.ensures.terms ∙ c.sweep_terms.ensures.terms t;
  contexts = λ n. c.sweep_contexts.ensures.contexts n.0 ∙ ap (λ (f : finite.FinMap nat_cmp (Place ContextRecord)). if_visible (finite.get f n.0)) c.sweep_terms.ensures.contexts;
}

pub returns-clause-maps : goal.returns-clause-maps
returns-clause-maps c = swept_maps c.args.self.now c.sweep_contexts.new.self (both c)

pub returns-clause-out : goal.returns-clause-out
returns-clause-out c = swept_in c.args.self.now c.sweep_contexts.new.self (both c)

pub returns-clause-ready : goal.returns-clause-ready
returns-clause-ready c = swept_ready c.args.self.now c.sweep_contexts.new.self (both c)
