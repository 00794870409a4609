use Rattle.std.proofs.Common.{is_some, sym, ap, ◌∙◌}
use Rattle.std.specs.Prelude.{option_copied}
use Rattle.gw_table.specs.Rows.{Rowed, found}
use Rattle.gw_table.proofs.TiedRows.{found_there}
use Rattle.gw_table.proofs.rows.Rows.find.Goals as goal

pub returns-in-Some : goal.returns-in-Some
returns-in-Some g c =
    ap (λ o. is_some (option_copied o)) (sym c.in-Some.is) ∙ ap (λ o. is_some o) c.get.ensures.value
    ∙ found_there g.met.K.Ord.total c.self.inside.rows.slots c.self.inside.index.entries c.self.invariant c.args.key.now
    ∙ ap (λ (m : Rowed g.row.K.Denot _). is_some (found g.K.Ord.cmp m c.args.key.now)) c.self.view_is

pub returns-in-None : goal.returns-in-None
returns-in-None g c =
    ap (λ o. is_some (option_copied o)) (sym c.in-None.is) ∙ ap (λ o. is_some o) c.get.ensures.value
    ∙ found_there g.met.K.Ord.total c.self.inside.rows.slots c.self.inside.index.entries c.self.invariant c.args.key.now
    ∙ ap (λ (m : Rowed g.row.K.Denot _). is_some (found g.K.Ord.cmp m c.args.key.now)) c.self.view_is
