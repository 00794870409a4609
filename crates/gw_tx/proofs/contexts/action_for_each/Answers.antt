use Rattle.std.proofs.Common.{◌≡◌, true, List, sym, subst, ◌∙◌}
use Rattle.std.specs.Prelude.{All}
use Rattle.gw_base.specs.declared.ids.CtxNum.{CtxNum}
use Rattle.gw_base.specs.declared.key.Key.TheVariants.{Ctx}
use Rattle.gw_table.specs.Maps.{number}
use Rattle.gw_table.specs.Parts.{Parted, holds}
use Rattle.gw_tx.proofs.HeldKeys.{numbers_held}
use Rattle.gw_tx.proofs.contexts.action_for_each.Goals as goal

pub in_all-requires-clause-key : goal.in_all-requires-clause-key
in_all-requires-clause-key c =
    let draft : Parted = c.args.draft.now in
    subst (λ (l : List CtxNum). All (λ n. holds draft.keys (Ctx n) ≡ true) l) (sym (c.deref.ensures.value ∙ c.in_ok-numbers.ensures)) (numbers_held draft.keys draft.maps (c.requires.covered (number 0)).entries)
