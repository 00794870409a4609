use Rattle.std.proofs.Common.{◌≡◌, ◌∙◌, List, [], ap, map, subst, sym}
use Rattle.std.specs.Prelude.{IfSome, Option}
use Rattle.std.proofs.lemmas.Result.{err_from_is_err_and, IfErr-weaker, IfOk-weaker}
use Rattle.clap.specs.Words.{App, HasKind, Row, Text, fault_of, is_simple, is_simple_and_free, subcommand_of}
use Rattle.gw_program.proofs.Asking.{command_named, unnamed_mistaken}
use Rattle.gw_program.specs.Words.{IsCommand, IsJobOf, mistakes}
use Rattle.gw_program.proofs.command_line.read_words.Goals as goal

pub job_in-requires : goal.job_in-requires
job_in-requires g c =
    let words = map g.S.AsStr.text c.args.words.now in
    let is = c.in_ok-command.ensures in
    let sound : mistakes words ≡ [] = subst (λ (a : App). fault_of a words ≡ []) is
    (c.in_ok-matches.ensures.kinds (ap is_simple_and_free is)) in
    let found = (c.in_ok-matches.ensures.matches (ap is_simple is)).1 ∙ ap (λ (a : App). subcommand_of a words) is in
    subst (λ (o : Option (Text × List Row)). IfSome o (λ p. IsCommand p.0)) (sym found) (command_named words sound)

pub returns-clause-requested : goal.returns-clause-requested
returns-clause-requested g c =
    let words = map g.S.AsStr.text c.args.words.now in
    let is = c.in_ok-command.ensures in
    let found = (c.in_ok-matches.ensures.matches (ap is_simple is)).1 ∙ ap (λ (a : App). subcommand_of a words) is in
    IfOk-weaker c.job_in.result _ _ (λ job h. record {
      sound = subst (λ (a : App). fault_of a words ≡ []) is (c.in_ok-matches.ensures.kinds (ap is_simple_and_free is));
      found = subst (λ (o : Option (Text × List Row)). IsJobOf o job) found h;
    }) c.job_in.ensures.requested

pub returns-clause-mistaken : goal.returns-clause-mistaken
returns-clause-mistaken g c =
    let words = map g.S.AsStr.text c.args.words.now in
    let is = c.in_ok-command.ensures in
    let sound : mistakes words ≡ [] = subst (λ (a : App). fault_of a words ≡ []) is
    (c.in_ok-matches.ensures.kinds (ap is_simple_and_free is)) in
    let found = (c.in_ok-matches.ensures.matches (ap is_simple is)).1 ∙ ap (λ (a : App). subcommand_of a words) is in
    IfErr-weaker c.job_in.result _ _ (λ made h. unnamed_mistaken words _ made sound found h) c.job_in.ensures.mistaken

pub returns-in_err-matches-clause-mistaken : goal.returns-in_err-matches-clause-mistaken
returns-in_err-matches-clause-mistaken g c =
    let words = map g.S.AsStr.text c.args.words.now in
    let is = c.in_ok-command.ensures in
    let p = err_from_is_err_and c.from_residual-in_err-matches.result c.from_residual-in_err-matches.ensures.1 in
    rw (p.1, p.2) (subst (λ (a : App). HasKind (fault_of a words) c.in_err-matches.field-0.0) is
    (c.in_err-matches.ensures.kinds (ap is_simple_and_free is)))
