use Rattle.std.proofs.Common.{ℕ, List, ◌++◌, map, sym, ap, ◌∙◌, append-nil}
use Rattle.gw_base.specs.declared.ids.CtxNum.{CtxNum}
use Rattle.gw_ctx.specs.Contexts.{ContextRecord}
use Rattle.gw_table.specs.declared.place.Place.{Place}
use Rattle.gw_table.specs.Maps.{number, numbers}
use Rattle.gw_table.specs.Stored.{Stored, maps_of}
use Rattle.gw_table.proofs.Exchanged.{numbers_are}
use Rattle.gw_table.proofs.Shown.{keys_here, numbered_more, not_here}
use Rattle.gw_table.proofs.tables.Tables.numbers.Goals as goal

pub loop-number-init : goal.loop-number-init
loop-number-init c = ap (λ (l : List CtxNum). l ++ map number (keys_here c.into_iter-number-iterator.result)) c.in_ok-numbers.ensures.items

pub loop-number-preserved-in-Continue-branch-2 : goal.loop-number-preserved-in-Continue-branch-2
loop-number-preserved-in-Continue-branch-2 c =
    ap (λ (l : List CtxNum). l ++ map number (keys_here c.next.new.self)) c.in_ok-push.ensures.items
    ∙ numbered_more number c.loop-number.numbers.items c.in-Some.number.now c.in-Some.row.now c.next.new.self (sym c.is_here.ensures ∙ c.if-is_here.true)
    ∙ ap (λ (l : List (ℕ × Place ContextRecord)). c.loop-number.numbers.items ++ map number (keys_here l)) (sym c.in-Some.ensures.steps) ∙ c.loop-number.invariant

pub loop-number-preserved : goal.loop-number-preserved
loop-number-preserved c =
    ap (λ (l : List ℕ). c.loop-number.numbers.items ++ map number l) (not_here c.in-Some.number.now c.in-Some.row.now c.next.new.self (sym c.is_here.ensures ∙ c.if-is_here.false))
    ∙ ap (λ (l : List (ℕ × Place ContextRecord)). c.loop-number.numbers.items ++ map number (keys_here l)) (sym c.in-Some.ensures.steps) ∙ c.loop-number.invariant

pub returns : goal.returns
returns c =
    sym (append-nil c.loop-number.numbers.items) ∙ ap (λ (l : List (ℕ × Place ContextRecord)). c.loop-number.numbers.items ++ map number (keys_here l)) (sym c.in-None.ensures.steps.0) ∙ c.loop-number.invariant
    ∙ ap (λ (l : List (ℕ × Place ContextRecord)). map number (keys_here l)) c.into_iter-number-iterator.ensures.into_iter_gives.0
    ∙ numbers_are c.self.inside.terms.entries c.self.inside.contexts.entries c.len.ensures.ordered ∙ ap (λ (s : Stored). numbers (maps_of s)) c.self.view_is
