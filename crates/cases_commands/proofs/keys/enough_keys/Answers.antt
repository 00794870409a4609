use Rattle.std.proofs.Common.{◌≡◌, List, ◌++◌, ap, ◌∙◌}
use Rattle.gw_base.specs.Keys.{has}
use Rattle.gw_base.specs.declared.key.Key.{Key}
use Rattle.gw_cmd.specs.Keys.{action_keys, member_keys, slot_key}
use Rattle.gw_table.specs.Maps.{Maps}
use Rattle.gw_table.specs.Stored.{maps_of}
use Rattle.cases_commands.specs.EnoughKeys.{own_name, all_keys}
use Rattle.cases_commands.proofs.Enough.{gathered_own, gathered_every}
use Rattle.cases_commands.proofs.keys.enough_keys.Goals as goal

pub returns : goal.returns
returns c =
    let m : Maps = maps_of c.args.tables.now in
    let at = c.args.place.at in
    let slot = c.args.place.slot in
    let given = c.args.given.now in
    let listed : c.deref.result.now ≡ all_keys at slot given m =
    c.deref.ensures.value ∙ c.in_ok-add_slot.ensures
    ∙ ap (λ (l : List Key). l ++ slot_key slot) (c.in_ok-add_named.ensures
    ∙ ap (λ (l : List Key). l ++ own_name given.term m) (c.in_ok-add_context.ensures ∙ ap (λ (l : List Key). l ++ (action_keys at ++ member_keys at m)) c.in_ok-keys.ensures)) in
    record {
      every = λ k h. c.in_ok-of.ensures.same k ∙ ap (λ l. has l k) listed ∙ gathered_every at slot given m k h;
      own = λ k h. c.in_ok-of.ensures.same k ∙ ap (λ l. has l k) listed ∙ gathered_own at slot given m k h;
    }
