use Rattle.std.proofs.Common.{Global, ◌≡◌, ℕ, ◌<◌, List, [], ◌∷◌, map, length, Option, None, Some, get_or, sym, ap, ◌∙◌, arith}
use Rattle.std.proofs.lemmas.List.{length-set, map-set, get_or-map, get_or-set_same, get_or-set_other}
use Rattle.std.specs.Prelude.{slice_set, MatchOption}
use Rattle.std.specs.Vec.Iter.{into_iter_items, into_iter_steps}
use Rattle.std.specs.declared.vec.IntoIter.{IntoIter}
use Rattle.gw_board.specs.Chained.{item_of, TakesNext}
use Rattle.gw_board.specs.Texts.{Text}
use Rattle.gw_board.proofs.BoardEntryFacts.{nil_of}
use Rattle.gw_board.proofs.side_by_side.next_text.Goals as goal

-- where what is left of a chain begins with its next text
takes : {X : Type 0} (items : X → List Text) (texts : List X) (g : ℕ) (old new : X) (r : Option Text) → g < length texts → old ≡ get_or texts g old → MatchOption r (items old ≡ []) (λ t. items old ≡ t ∷ items new)
    → TakesNext g (map items texts) r (map items (slice_set texts g new))
takes items texts g old new None inside is steps = get_or-map items texts g old [] inside ∙ ap items (sym is) ∙ steps
takes items texts g old new (Some t) inside is steps = record {
  first = get_or-map items texts g old [] inside ∙ ap items (sym is) ∙ steps ∙ ap (λ ts. t ∷ ts) (sym (get_or-map items (slice_set texts g new) g old [] (omega (arith, length-set texts g new)) ∙ ap items (get_or-set_same texts g new old inside)));
  others = λ h other. ap (λ ts. item_of ts h) (map-set items texts g new) ∙ get_or-set_other (map items texts) g h (items new) [] other;
}

steps : {Z : Type 0} (old new : IntoIter Text Z) (r : Option Text) → into_iter_steps old r new → MatchOption r (into_iter_items old ≡ []) (λ t. into_iter_items old ≡ t ∷ into_iter_items new)
steps old new None s = nil_of (into_iter_items old) (let o = old.rest.ok.0 in let n = s.0 in omega arith)
steps old new (Some t) s = s.0

pub returns-clause-next : goal.returns-clause-next
returns-clause-next c =
    let old : IntoIter Text Global = c.index_mut.result.now in
    takes into_iter_items c.args.texts.now.items c.args.number old c.next.new.self c.next.result (let o = c.args.texts.now.ok.0 in omega arith) c.index_mut.ensures.value
    (steps old c.next.new.self c.next.result c.next.ensures.cases)
