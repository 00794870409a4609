-- Cursors move over what one request owns, and then over what the others own.
use Rattle.std.proofs.Common.{◌≡◌, ℕ, List, [], ◌∷◌, sym, ap, ◌∙◌, append-nil}
use Rattle.gw_base.specs.declared.ids.CtxNum.{CtxNum}
use Rattle.gw_reserve.specs.Ids.{Ids}
use Rattle.gw_reserve.proofs.Choices.{numbers_move, slots_move}
use Rattle.gw_reserve.specs.declared.owners.Cursors.{Cursors}
use Rattle.gw_reserve.specs.Owners.{owned_numbers, owned_slots, last_number, behind_last, new_cursors}
use Rattle.gw_table.specs.Unused.{owned}

pub cursors-cons : (c : Cursors) (i : Ids) (ids : List Ids) → new_cursors c (i ∷ ids) ≡ new_cursors (new_cursors c (i ∷ [])) ids
cursors-cons c i ids =
    let number = numbers_move.both c.context (owned i.contexts) (owned_numbers ids) ∙ ap (λ (l : List CtxNum). last_number (last_number c.context l) (owned_numbers ids)) (sym (append-nil (owned i.contexts))) in
    let slot = slots_move.both c.slot (owned i.slots) (owned_slots ids) ∙ ap (λ (l : List ℕ). behind_last (behind_last c.slot l) (owned_slots ids)) (sym (append-nil (owned i.slots))) in
    λ j. record { context = number j; slot = slot j }
