use Rattle.std.proofs.Common.{List, subst, sym, ◌∙◌}
use Rattle.gw_base.specs.declared.key.Key.{Key}
use Rattle.gw_table.specs.KeyLists.{IsListOf}
use Rattle.gw_table.specs.Stored.{maps_of}
use Rattle.gw_tx.specs.Footprints.{footprint_of}
use Rattle.gw_reserve.specs.Owned.{paired}
use Rattle.gw_foot.proofs.requests.footprint.Goals as goal

pub returns : goal.returns
returns c =
    let all : IsListOf c.put_in_order.new.keys.items (footprint_of (paired c.args.request.now c.args.owned.now) (maps_of c.args.tables.now)) = record {
      order = c.put_in_order.ensures.order;
      same = λ k. c.put_in_order.ensures.same k ∙ c.in_ok-keys.ensures k;
    } in
    subst (λ (l : List Key). IsListOf l (footprint_of (paired c.args.request.now c.args.owned.now) (maps_of c.args.tables.now))) (sym c.in_ok-from_list.ensures) all
