use Rattle.std.proofs.Common.{◌≡◌, ◌∙◌, Bor, List, ℕ, [], ap, map, subst, sym}
use Rattle.std.specs.Prelude.{IfErr, IfOk, Option, option_map, unwrap_or}
use Rattle.std.specs.List.{AllZip}
use Rattle.clap.specs.Words.{found_of, rows_of}
use Rattle.gw_front.specs.Controllers.{IsControllerText}
use Rattle.gw_front.specs.declared.controllers.Controller.{Controller}
use Rattle.gw_program.proofs.Asking.{texts_given}
use Rattle.gw_program.specs.Words.{IsUnnamed, controller_texts}
use Rattle.gw_program.proofs.command_line.controllers_in.Goals as goal

abbrev seen : Option (Bor (List (Bor (List ℕ)))) → List (List ℕ)
seen texts = unwrap_or (option_map (λ s. map (λ v. v.now) s.now) texts) []

pub returns-in-Some-clause-named : goal.returns-in-Some-clause-named
returns-in-Some-clause-named c =
    let same : map (λ t. t.now) c.in-Some.texts.now ≡ controller_texts (rows_of (found_of c.args.matches.now)) = ap seen
    (sym c.in-Some.is) ∙ texts_given (found_of c.args.matches.now) c.get_strs.result c.get_strs.ensures in
    subst (λ (l : List (List ℕ)). IfOk c.controllers_of.result
    (λ controllers. AllZip IsControllerText l controllers.items)) same c.controllers_of.ensures.named

pub returns-in-Some-clause-mistaken : goal.returns-in-Some-clause-mistaken
returns-in-Some-clause-mistaken c =
    let same : map (λ t. t.now) c.in-Some.texts.now ≡ controller_texts (rows_of (found_of c.args.matches.now)) = ap seen
    (sym c.in-Some.is) ∙ texts_given (found_of c.args.matches.now) c.get_strs.result c.get_strs.ensures in
    subst (λ (l : List (List ℕ)). IfErr c.controllers_of.result (IsUnnamed l)) same c.controllers_of.ensures.mistaken

pub returns-in-None-clause-named : goal.returns-in-None-clause-named
returns-in-None-clause-named c =
    let same : [] ≡ controller_texts (rows_of (found_of c.args.matches.now)) = ap seen (sym c.in-None.is)
    ∙ texts_given (found_of c.args.matches.now) c.get_strs.result c.get_strs.ensures in
    subst (λ (l : List (List ℕ)). AllZip IsControllerText l c.new.result.items) same
    (subst (λ (l : List Controller). AllZip IsControllerText [] l) (sym c.new.ensures.items) tt)
