-- A request in which something is meant for all has the whole of the tables among its keys, and no other has.
use Rattle.std.proofs.Common.{◌≡◌, ℕ, List, [], ◌∷◌, drop, length, Option, refl, ap, ◌∙◌}
use Rattle.std.specs.Prelude.{◌||◌}
use Rattle.std.specs.List.{list_any}
use Rattle.gw_base.specs.declared.command_words.CtxRef.{CtxRef}
use Rattle.gw_base.specs.declared.ids.CtxNum.{CtxNum}
use Rattle.gw_base.specs.declared.key.Key.TheVariants.{Whole}
use Rattle.gw_base.specs.Keys.{has}
use Rattle.gw_msg.specs.declared.message.Action.{Action}
use Rattle.gw_msg.specs.declared.message.Command.{Command}
use Rattle.gw_table.specs.Maps.{Maps}
use Rattle.gw_reserve.specs.Owned.{later_owned, paired_commands, paired_actions}
use Rattle.gw_tx.specs.Footprints.{is_for_each, stands_for_all, footprint_of, is_whole_table}
use Rattle.gw_tx.proofs.RequestKeys.{whole_key}
use Rattle.gw_foot.specs.Gathered.{spans_all}

some_command : (sent : CtxRef) (slots : List (Option ℕ)) (cs : List Command) → list_any (λ p. stands_for_all sent p.1) (paired_commands slots cs) ≡ list_any (stands_for_all sent) cs
some_command sent slots [] = refl
some_command sent slots (c ∷ cs) = ap (λ b. stands_for_all sent c || b) (some_command sent (later_owned slots) cs)

some_action : (numbers : List (Option CtxNum)) (slots : List (Option ℕ)) (actions : List Action) → list_any is_whole_table (paired_actions numbers slots actions) ≡ list_any spans_all actions
some_action numbers slots [] = refl
some_action numbers slots (a ∷ more) = λ i. (is_for_each a.ctx || some_command a.ctx slots a.commands i) || some_action (later_owned numbers) (drop (length a.commands) slots) more i

pub for_all : (numbers : List (Option CtxNum)) (slots : List (Option ℕ)) (actions : List Action) (m : Maps) → has (footprint_of (paired_actions numbers slots actions) m) Whole ≡ list_any spans_all actions
for_all numbers slots actions m = whole_key m (paired_actions numbers slots actions) ∙ some_action numbers slots actions
