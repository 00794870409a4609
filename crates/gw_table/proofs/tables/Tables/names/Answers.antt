use Rattle.std.proofs.Common.{ℕ, List, ◌++◌, sym, ap, ◌∙◌, append-nil}
use Rattle.gw_term.specs.declared.record.Termination.{Termination}
use Rattle.gw_table.specs.declared.place.Place.{Place}
use Rattle.gw_table.specs.Maps.{names}
use Rattle.gw_table.specs.Stored.{Stored, maps_of}
use Rattle.gw_table.proofs.Exchanged.{names_are}
use Rattle.gw_table.proofs.Shown.{keys_here, here_more, not_here}
use Rattle.gw_table.proofs.tables.Tables.names.Goals as goal

pub loop-name-init : goal.loop-name-init
loop-name-init c = ap (λ (l : List (List ℕ)). l ++ keys_here c.into_iter-name-iterator.result) c.in_ok-names.ensures.items

pub loop-name-preserved-in-Continue-branch-2 : goal.loop-name-preserved-in-Continue-branch-2
loop-name-preserved-in-Continue-branch-2 c =
    ap (λ (l : List (List ℕ)). l ++ keys_here c.next.new.self) c.in_ok-push.ensures.items
    ∙ here_more c.loop-name.names.items c.in-Some.name.now c.in-Some.row.now c.next.new.self (sym c.is_here.ensures ∙ c.if-is_here.true)
    ∙ ap (λ (l : List (List ℕ × Place Termination)). c.loop-name.names.items ++ keys_here l) (sym c.in-Some.ensures.steps) ∙ c.loop-name.invariant

pub loop-name-preserved : goal.loop-name-preserved
loop-name-preserved c =
    ap (λ (l : List (List ℕ)). c.loop-name.names.items ++ l) (not_here c.in-Some.name.now c.in-Some.row.now c.next.new.self (sym c.is_here.ensures ∙ c.if-is_here.false))
    ∙ ap (λ (l : List (List ℕ × Place Termination)). c.loop-name.names.items ++ keys_here l) (sym c.in-Some.ensures.steps) ∙ c.loop-name.invariant

pub returns : goal.returns
returns c =
    sym (append-nil c.loop-name.names.items) ∙ ap (λ (l : List (List ℕ × Place Termination)). c.loop-name.names.items ++ keys_here l) (sym c.in-None.ensures.steps.0) ∙ c.loop-name.invariant
    ∙ ap (λ (l : List (List ℕ × Place Termination)). keys_here l) c.into_iter-name-iterator.ensures.into_iter_gives.0
    ∙ names_are c.self.inside.terms.entries c.self.inside.contexts.entries c.len.ensures.ordered ∙ ap (λ (s : Stored). names (maps_of s)) c.self.view_is
