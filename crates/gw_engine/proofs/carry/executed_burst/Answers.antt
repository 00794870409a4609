use Rattle.std.proofs.Common.{List, length, sym, ap, ◌∙◌}
use Rattle.gw_board.specs.Texts.{Text}
use Rattle.gw_table.specs.Maps.{Outcome}
use Rattle.gw_table.specs.Stored.{maps_of}
use Rattle.gw_engine.specs.Phases.{texts_of, answers_of}
use Rattle.gw_engine.specs.Replies.{entries_with}
use Rattle.gw_engine.proofs.Carrying.{board_maps, board_entries, texts_held, length_carried, none_yet, comes_to}
use Rattle.gw_engine.proofs.carry.executed_burst.Goals as goal

pub answered-requires : goal.answered-requires
answered-requires g c = (c.type_bounds.sync-R, (c.type_bounds.sync-G, none_yet c.args.profile c.args.jobs.now c.args.tables c.in-Ok-new.board c.in-Ok-new.ensures.board))

pub with_texts-requires-clause-each : goal.with_texts-requires-clause-each
with_texts-requires-clause-each g c =
    let came = comes_to c.args.profile c.args.jobs.now c.args.tables c.in-Ok-new.board c.in-Ok-new.ensures.board c.answered.new.board c.in-Ok-answered.ensures.same in
    ap length (c.finish-tables.ensures.replies ∙ ap (λ (o : Outcome (List Text)). o.answer) came)
    ∙ length_carried c.args.profile c.args.jobs.now (maps_of c.args.tables)

pub returns-in-Ok-answered-clause-tables : goal.returns-in-Ok-answered-clause-tables
returns-in-Ok-answered-clause-tables g c =
    let came = comes_to c.args.profile c.args.jobs.now c.args.tables c.in-Ok-new.board c.in-Ok-new.ensures.board c.answered.new.board c.in-Ok-answered.ensures.same in
    c.finish-tables.ensures.maps ∙ ap (λ (o : Outcome (List Text)). o.maps) came ∙ board_maps c.args.profile c.args.jobs.now (maps_of c.args.tables)

pub returns-in-Ok-answered-clause-entries : goal.returns-in-Ok-answered-clause-entries
returns-in-Ok-answered-clause-entries g c =
    let came = comes_to c.args.profile c.args.jobs.now c.args.tables c.in-Ok-new.board c.in-Ok-new.ensures.board c.answered.new.board c.in-Ok-answered.ensures.same in
    c.with_texts.ensures
    ∙ ap (entries_with c.args.jobs.now) (c.finish-tables.ensures.replies ∙ ap (λ (o : Outcome (List Text)). o.answer) came)
    ∙ board_entries c.args.profile c.args.jobs.now (maps_of c.args.tables)

pub returns-in-Ok-answered-clause-answers : goal.returns-in-Ok-answered-clause-answers
returns-in-Ok-answered-clause-answers g c =
    let came = comes_to c.args.profile c.args.jobs.now c.args.tables c.in-Ok-new.board c.in-Ok-new.ensures.board c.answered.new.board c.in-Ok-answered.ensures.same in
    let texts = c.finish-tables.ensures.replies ∙ ap (λ (o : Outcome (List Text)). o.answer) came in
    c.in-Ok-answered.ensures.answers
    ∙ ap (λ (l : List Text). answers_of c.args.profile.mid c.args.kept.now l c.args.items.now)
    (ap (λ (o : Outcome (List Text)). o.answer) came
    ∙ sym (ap texts_of (c.with_texts.ensures ∙ ap (entries_with c.args.jobs.now) texts) ∙ texts_held c.args.profile c.args.jobs.now (maps_of c.args.tables)))
