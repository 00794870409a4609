use Rattle.std.proofs.Common.{◌≡◌, Bool, true, false, not, inl, refl, sym, ◌∙◌}
use Rattle.gw_engine.proofs.Configured.{seen_before, seen_more}
use Rattle.gw_engine.proofs.gateway.check_names.Goals as goal

was_new : (f b : Bool) → f ≡ not b → f ≡ true → b ≡ false
was_new f true e h = let clash : false ≡ true = sym e ∙ h in absurd cc
was_new f false e h = refl

was_old : (f b : Bool) → f ≡ not b → f ≡ false → b ≡ true
was_old f true e h = refl
was_old f false e h = let clash : true ≡ false = sym e ∙ h in absurd cc

pub returns-then-not-branch-clause-fault : goal.returns-then-not-branch-clause-fault
returns-then-not-branch-clause-fault c =
    inl (refl, seen_before c.args.names.now c.loop-name.seen.keys c.loop-name.name-index c.name-item.result c.loop-name-test.true c.name-item.is c.loop-name.invariant (was_old c.in_ok-insert.field-0 _ c.in_ok-insert.ensures.added c.if-not-branch.true))

pub loop-name-preserved : goal.loop-name-preserved
loop-name-preserved c =
    seen_more c.args.names.now c.loop-name.seen.keys c.insert.new.self.keys c.loop-name.name-index c.name-item.result c.loop-name-test.true c.name-item.is c.as_bytes.ensures.form c.loop-name.invariant (was_new c.in_ok-insert.field-0 _ c.in_ok-insert.ensures.added c.if-not-branch.false) c.in_ok-insert.ensures.keys
