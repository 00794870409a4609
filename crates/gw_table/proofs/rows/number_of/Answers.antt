use Rattle.std.proofs.Common.{◌≡◌, true, Some, sym, ap, ◌∙◌}
use Rattle.std.specs.Ordering.{eq_by_cmp}
use Rattle.std.specs.Option.{option_copied}
use Rattle.gw_table.specs.Rows.{row_at}
use Rattle.gw_table.proofs.TiedRows.{tied_keys}
use Rattle.gw_table.proofs.rows.number_of.Goals as goal

pub returns-then-eq : goal.returns-then-eq
returns-then-eq g c =
    let hit : row_at c.args.rows.now.slots c.or-guide.result.0 ≡ Some c.in-Some.keyed.now = sym (ap (λ o. option_copied o) (sym c.in-Some.is) ∙ c.get.ensures) in
    let own : eq_by_cmp g.K.Ord.cmp c.in-Some.keyed.now.key c.args.key.now ≡ true = sym (g.met.K.Ord.matches_eq c.in-Some.keyed.now.key c.args.key.now) ∙ sym c.eq.ensures ∙ c.if-eq.true in
    sym (sym (tied_keys g.met.K.Ord.total c.args.index.now.entries c.in-Some.keyed.now.key c.args.key.now own) ∙ c.requires.kept c.or-guide.result.0 c.in-Some.keyed.now hit)
