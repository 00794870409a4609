use Rattle.std.proofs.Common.{◌≡◌, List, ap, ◌∙◌}
use Rattle.gw_base.specs.Keys.{has}
use Rattle.gw_table.specs.Stored.{maps_of}
use Rattle.gw_table.specs.Maps.{Maps}
use Rattle.gw_tx.specs.Footprints.{footprint_of}
use Rattle.gw_reserve.specs.Owned.{OwnedAction, paired, paired_actions}
use Rattle.gw_foot.proofs.Gathering.{is_footprint}
use Rattle.gw_foot.proofs.requests.footprint_keys.Goals as goal

pub returns : goal.returns
returns c k =
    let m : Maps = maps_of c.args.tables.now in
    let pairs : paired_actions c.as_slice.result.now c.as_slice-2.result.now c.as_slice-actions.result.now ≡ paired c.args.request.now c.args.owned.now =
    ap (λ n. paired_actions n c.as_slice-2.result.now c.as_slice-actions.result.now) c.as_slice.ensures
    ∙ ap (λ s. paired_actions c.args.owned.now.contexts s c.as_slice-actions.result.now) c.as_slice-2.ensures
    ∙ ap (λ a. paired_actions c.args.owned.now.contexts c.args.owned.now.slots a) c.as_slice-actions.ensures in
    c.in_ok-add_actions.ensures k
    ∙ is_footprint m c.as_slice.result.now c.as_slice-2.result.now c.as_slice-actions.result.now c.in_ok-keys.keys.items c.in_ok-keys.ensures k
    ∙ ap (λ (l : List OwnedAction). has (footprint_of l m) k) pairs
