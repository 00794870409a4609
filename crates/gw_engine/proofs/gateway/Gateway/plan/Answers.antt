use Rattle.std.proofs.Common.{◌≡◌, ◌++◌, List, length, take, drop, ap, subst, ◌∙◌}
use Rattle.gw_reserve.specs.Owners.{new_cursors}
use Rattle.gw_kept.specs.Classes.{classes_of}
use Rattle.gw_engine.specs.declared.items.BurstItem.{BurstItem}
use Rattle.gw_engine.specs.declared.items.Sent.{Sent}
use Rattle.gw_engine.specs.Bursts.{cursors_of}
use Rattle.gw_engine.specs.Counts.{counts_in, counts_of}
use Rattle.gw_engine.specs.Phases.{points_of, table_of, new_in, turns_in, ids_in, AreJobs}
use Rattle.gw_engine.specs.State.{GatewayValue}
use Rattle.gw_engine.proofs.Filling.{table_is}
use Rattle.gw_engine.proofs.gateway.Gateway.plan.Goals as goal

pub returns-clause-items : goal.returns-clause-items
returns-clause-items c =
    subst (λ (v : GatewayValue). take c.into_vec-items.result.len (c.classify.new.items ++ drop (length c.classify.new.items) c.into_vec-items.result.items) ≡ table_of v c.args.messages.now) c.self.view_is
    (table_is c.self.inside.kept c.args.messages.now c.into_vec-items.result.items c.as_mut_slice.result.now c.classify.new.items c.into_vec-items.result.len (c.into_vec-items.ensures ∙ c.in_ok-items_of.ensures) c.as_mut_slice.ensures.value c.as_mut_slice.ensures.len c.in_ok-counts.ensures.items)

pub returns-clause-jobs : goal.returns-clause-jobs
returns-clause-jobs c =
    let g : GatewayValue = c.args.self.now in
    let is : c.as_slice.result.now ≡ table_of g c.args.messages.now = c.as_slice.ensures.value ∙ subst (λ (v : GatewayValue). take c.into_vec-items.result.len (c.classify.new.items ++ drop (length c.classify.new.items) c.into_vec-items.result.items) ≡ table_of v c.args.messages.now) c.self.view_is
    (table_is c.self.inside.kept c.args.messages.now c.into_vec-items.result.items c.as_mut_slice.result.now c.classify.new.items c.into_vec-items.result.len (c.into_vec-items.ensures ∙ c.in_ok-items_of.ensures) c.as_mut_slice.ensures.value c.as_mut_slice.ensures.len c.in_ok-counts.ensures.items) in
    subst (λ (l : List Sent). AreJobs l (ids_in g l) c.in_ok-reserved.reserved.jobs) (ap new_in is) c.in_ok-reserved.ensures.jobs

pub returns-clause-cursors : goal.returns-clause-cursors
returns-clause-cursors c =
    let g : GatewayValue = c.args.self.now in
    let is : c.as_slice.result.now ≡ table_of g c.args.messages.now = c.as_slice.ensures.value ∙ subst (λ (v : GatewayValue). take c.into_vec-items.result.len (c.classify.new.items ++ drop (length c.classify.new.items) c.into_vec-items.result.items) ≡ table_of v c.args.messages.now) c.self.view_is
    (table_is c.self.inside.kept c.args.messages.now c.into_vec-items.result.items c.as_mut_slice.result.now c.classify.new.items c.into_vec-items.result.len (c.into_vec-items.ensures ∙ c.in_ok-items_of.ensures) c.as_mut_slice.ensures.value c.as_mut_slice.ensures.len c.in_ok-counts.ensures.items) in
    c.in_ok-reserved.ensures.cursors ∙ ap (λ (l : List BurstItem). new_cursors (cursors_of g.state) (ids_in g (new_in l))) is

pub returns-clause-turns : goal.returns-clause-turns
returns-clause-turns c =
    let g : GatewayValue = c.args.self.now in
    let is : c.as_slice-2.result.now ≡ table_of g c.args.messages.now = c.as_slice-2.ensures.value ∙ subst (λ (v : GatewayValue). take c.into_vec-items.result.len (c.classify.new.items ++ drop (length c.classify.new.items) c.into_vec-items.result.items) ≡ table_of v c.args.messages.now) c.self.view_is
    (table_is c.self.inside.kept c.args.messages.now c.into_vec-items.result.items c.as_mut_slice.result.now c.classify.new.items c.into_vec-items.result.len (c.into_vec-items.ensures ∙ c.in_ok-items_of.ensures) c.as_mut_slice.ensures.value c.as_mut_slice.ensures.len c.in_ok-counts.ensures.items) in
    c.in_ok-turns.ensures ∙ ap turns_in is

pub returns-clause-counts : goal.returns-clause-counts
returns-clause-counts c =
    subst (λ (g : GatewayValue). c.in_ok-counts.counts ≡ counts_of g c.args.messages.now) c.self.view_is
    (c.in_ok-counts.ensures.counts ∙ ap (λ (l : List BurstItem). counts_in l (classes_of c.self.inside.kept (points_of l))) (c.as_mut_slice.ensures.value ∙ c.into_vec-items.ensures ∙ c.in_ok-items_of.ensures))
