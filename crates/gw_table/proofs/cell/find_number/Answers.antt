use Rattle.std.proofs.Common.{rules, subst, sym}
use Rattle.std.proofs.lemmas.Fn.{always_returns_same}
use Rattle.gw_base.specs.declared.key.Key.TheVariants.{Ctx}
use Rattle.gw_table.specs.Cells.{IsFound}
use Rattle.gw_table.specs.KeyLists.{key_cmp}
use Rattle.gw_table.proofs.Searched.{searched}
use Rattle.gw_table.proofs.cell.find_number.Goals as goal

pub returns : goal.returns
returns c =
    subst (λ o. IsFound c.args.keys.now (Ctx c.args.number) o) (sym c.ok.ensures.value)
    (searched c.args.keys.now (Ctx c.args.number) c.binary_search_by.result c.requires c.binary_search_by.ensures.bound
    (c.binary_search_by.ensures.position (λ k. key_cmp k (Ctx c.args.number)) (always_returns_same _ _ _ (λ a r f k. search rules))))
