-- Commands on terminations one after another.
use Rattle.std.proofs.lemmas.Grind.{common_steps}
use Rattle.std.proofs.Common.{◌≡◌, ℕ, ◌<◌, true, List, [], ◌∷◌, length, get_or, Option, sym, ap, ◌∙◌, arith}
use Rattle.gw_base.specs.NameLists.{is_in}
use Rattle.gw_base.proofs.NamesInLists.{itself}
use Rattle.gw_base.specs.declared.command_words.Rules.{Rules}
use Rattle.gw_base.specs.declared.ids.CtxNum.{CtxNum}
use Rattle.gw_msg.specs.declared.message.Command.{Command}
use Rattle.gw_table.specs.Maps.{Maps}
use Rattle.gw_table.proofs.Folding.{in_order-more, in_order-none}
use Rattle.gw_refusal.specs.declared.at.At.{At}
use Rattle.gw_refusal.specs.Places.{place_at}
use Rattle.gw_refusal.specs.Targets.{targets}
use Rattle.gw_cmd.specs.Commands.{on_target, on_targets}
use Rattle.gw_cmd.specs.Tasks.{targets_in}

-- one alone
pub one_target : (rules : Rules) (at : At) (c : Command) (t : List ℕ) (m : Maps) → on_targets rules at c (t ∷ []) m ≡ on_target rules at c tt t m
one_target rules at c t m = grind (arith, in_order-more, in_order-none)

-- a name that stands in a list is in it
pub in_at : (names : List (List ℕ)) (i : ℕ) (t : List ℕ) → i < length names → t ≡ get_or names i t → is_in t names ≡ true
in_at names i t h e = grind (arith, common_steps, itself)

-- the targets of a command, by its place
pub all_in : (rules : Rules) (at : At) (c : Command) (place : Option CtxNum) (named : List (List ℕ)) (m : Maps) → place_at at ≡ place → named ≡ targets at c m → targets_in rules place c named m ≡ on_targets rules at c (targets at c m) m
all_in rules at c place named m p n = ap (λ (x : Option CtxNum). targets_in rules x c named m) (sym p) ∙ ap (λ (l : List (List ℕ)). on_targets rules at c l m) n
