use Rattle.std.proofs.Common.{◌≡◌, ◌∷◌, ◌++◌, ◌∙◌, ◌+◌, Bool, Bor, List, ℕ, [], ap, cond, subst, sym, take, true}
use Rattle.std.specs.Prelude.{is_ok}
use Rattle.std.specs.List.{AllZip}
use Rattle.std.proofs.lemmas.List.{take_all}
use Rattle.gw_front.specs.Controllers.{IsControllerText}
use Rattle.gw_front.specs.declared.controllers.Controller.{Controller}
use Rattle.gw_program.proofs.Asking.{zip_mapped, zip_more}
use Rattle.gw_program.proofs.command_line.controllers_of.Goals as goal

pub returns-clause-named : goal.returns-clause-named
returns-clause-named c =
    zip_mapped IsControllerText (λ t. t.now) c.args.texts.now c.loop-text.controllers.items
    (subst (λ (l : List (Bor (List ℕ))). AllZip (λ t x. IsControllerText t.now x) l c.loop-text.controllers.items)
    (take_all c.loop-text.text-index c.args.texts.now c.loop-text-test.false) c.loop-text.invariant)

pub loop-text-preserved : goal.loop-text-preserved
loop-text-preserved c =
    let pushed : is_ok c.push.result ≡ true = sym c.is_ok.ensures.value ∙ c.if-is_ok.true in
    let items : c.push.new.self.items ≡ c.loop-text.controllers.items ++ c.in-Ok.controller ∷ [] =
    c.push.ensures.items ∙ ap (λ (b : Bool). cond b (c.loop-text.controllers.items ++ c.in-Ok.controller ∷ [])
    c.loop-text.controllers.items) pushed in
    subst (λ (l : List Controller). AllZip (λ (t : Bor (List ℕ)) x. IsControllerText t.now x)
    (take (c.loop-text.text-index + 1) c.args.texts.now) l) (sym items)
    (zip_more (λ (t : Bor (List ℕ)) x. IsControllerText t.now x) c.args.texts.now c.loop-text.controllers.items
    c.loop-text.text-index _ c.in-Ok.controller c.loop-text-test.true c.loop-text.invariant c.in-Ok.ensures.value)
