use Rattle.std.proofs.Common.{sym, subst, ◌∙◌}
use Rattle.gw_table.specs.Maps.{Maps}
use Rattle.gw_table.specs.Stored.{maps_of}
use Rattle.gw_table.specs.WellFormed.{AreWellFormed}
use Rattle.cases_board.proofs.Holding.{held_begun}
use Rattle.cases_board.proofs.Preparing.{stay_whole, comes_to}
use Rattle.cases_board.proofs.waves.executed_text.Goals as goal

pub carry_in_waves-requires : goal.carry_in_waves-requires
carry_in_waves-requires c =
    held_begun c.args.profile c.args.requested.now c.args.tables c.in-Ok.board c.in-Ok-none_held.held.items
    c.in-Ok.ensures.board c.in-Ok-none_held.ensures.none c.in-Ok-none_held.ensures.count

pub returns-clause-whole : goal.returns-clause-whole
returns-clause-whole c =
    let came = c.finish-tables.ensures.maps ∙ comes_to c.args.profile c.args.requested.now c.args.tables c.in-Ok.board c.in-Ok.ensures.board c.carry_in_waves.new.board c.in_ok-carry_in_waves.ensures.same in
    subst (λ (m : Maps). AreWellFormed c.args.profile.rules.members m) (sym came) (stay_whole c.args.profile c.args.requested.now (maps_of c.args.tables) c.requires.whole c.requires.unused)
