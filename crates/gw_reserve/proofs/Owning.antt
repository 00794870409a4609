-- What a request owns, from what was taken for it.
use Rattle.std.proofs.Common.{◌≡◌, ℕ, List, [], ◌∷◌, ◌++◌, take, Option, Result, Ok, Err, sym, ap, ◌∙◌, append-nil}
use Rattle.std.specs.Prelude.{IfOk}
use Rattle.gw_base.specs.Choose.{is_choose}
use Rattle.gw_base.specs.declared.ids.CtxNum.{CtxNum}
use Rattle.gw_msg.specs.declared.message.Action.{Action}
use Rattle.gw_msg.specs.declared.message.Request.{Request}
use Rattle.gw_table.specs.Maps.{Maps}
use Rattle.gw_table.specs.Unused.{owned}
use Rattle.gw_reserve.specs.declared.owners.Cursors.{Cursors}
use Rattle.gw_reserve.specs.Owned.{is_adding, paired_actions, with_owned}
use Rattle.gw_reserve.specs.Owners.{choices, chosen, all_commands, all_adding, taken_by, ids_of, last_number, behind_last, new_cursors}
use Rattle.gw_reserve.specs.Reservations.{Reserving, numbers_left, slots_left}
use Rattle.gw_reserve.proofs.Choices.{owned_choices}
use Rattle.gw_reserve.proofs.Taken.{owned_taken, pairs_owned}

pub if_both : {T E : Type 0} (r : Result T E) (P Q R : T → Type 0) → ((x : T) → P x → Q x → R x) → IfOk r P → IfOk r Q → IfOk r R
if_both (Ok x) P Q R f p q = f x p q
if_both (Err e) P Q R f p q = tt

module _ (m : Maps) (actions given : List Action) (e : given ≡ actions) (v now : Reserving) (is : v ≡ now) where
  same_contexts : (contexts : List (Option CtxNum)) → contexts ≡ taken_by (λ a. is_choose a.ctx) given (numbers_left m v) → contexts ≡ taken_by (λ a. is_choose a.ctx) actions (numbers_left m now)
  same_contexts contexts h =
      h ∙ ap (λ (l : List Action). taken_by (λ a. is_choose a.ctx) l (numbers_left m v)) e
      ∙ ap (λ (w : Reserving). taken_by (λ a. is_choose a.ctx) actions (numbers_left m w)) is

  same_slots : (slots : List (Option ℕ)) → slots ≡ taken_by is_adding (all_commands given) (slots_left m v) → slots ≡ taken_by is_adding (all_commands actions) (slots_left m now)
  same_slots slots h =
      h ∙ ap (λ (l : List Action). taken_by is_adding (all_commands l) (slots_left m v)) e
      ∙ ap (λ (w : Reserving). taken_by is_adding (all_commands actions) (slots_left m w)) is

  pub own_paired : (contexts : List (Option CtxNum)) (slots : List (Option ℕ)) → contexts ≡ taken_by (λ a. is_choose a.ctx) given (numbers_left m v) → slots ≡ taken_by is_adding (all_commands given) (slots_left m v)
      → paired_actions contexts slots actions ≡ with_owned (choices (chosen actions) (numbers_left m now)) (choices (all_adding actions) (slots_left m now)) actions
  own_paired contexts slots p q =
      ap (λ (l : List (Option CtxNum)). paired_actions l slots actions) (same_contexts contexts p)
      ∙ ap (λ (l : List (Option ℕ)). paired_actions (taken_by (λ a. is_choose a.ctx) actions (numbers_left m now)) l actions) (same_slots slots q)
      ∙ pairs_owned actions (numbers_left m now) (slots_left m now)

  pub own_contexts : (contexts : List (Option CtxNum)) → contexts ≡ taken_by (λ a. is_choose a.ctx) given (numbers_left m v) → owned contexts ≡ take (chosen actions) (numbers_left m now)
  own_contexts contexts p = ap (λ (l : List (Option CtxNum)). owned l) (same_contexts contexts p) ∙ owned_taken (λ a. is_choose a.ctx) actions (numbers_left m now)

  pub own_slots : (slots : List (Option ℕ)) → slots ≡ taken_by is_adding (all_commands given) (slots_left m v) → owned slots ≡ take (all_adding actions) (slots_left m now)
  own_slots slots q = ap (λ (l : List (Option ℕ)). owned l) (same_slots slots q) ∙ owned_taken is_adding (all_commands actions) (slots_left m now)

  pub own_cursors : (r : Request) → r.actions ≡ actions → (context slot : ℕ) → context ≡ last_number v.cursors.context (take (chosen given) (numbers_left m v)) → slot ≡ behind_last v.cursors.slot (take (all_adding given) (slots_left m v))
      → (λ (c s : ℕ). let w : Cursors = record { context = c; slot = s } in w) context slot ≡ new_cursors now.cursors (ids_of r (numbers_left m now) (slots_left m now) ∷ [])
  own_cursors r same context slot p q =
      let both : ℕ → ℕ → Cursors = λ c s. record { context = c; slot = s } in
      let numbers : List Action → List CtxNum = λ l. owned (choices (chosen l) (numbers_left m now)) in
      let slots : List Action → List ℕ = λ l. owned (choices (all_adding l) (slots_left m now)) in
      let number : context ≡ last_number now.cursors.context (numbers r.actions ++ []) =
      p ∙ ap (λ (l : List Action). last_number v.cursors.context (take (chosen l) (numbers_left m v))) e
      ∙ ap (λ (w : Reserving). last_number w.cursors.context (take (chosen actions) (numbers_left m w))) is
      ∙ ap (λ (l : List CtxNum). last_number now.cursors.context l) (sym (owned_choices (chosen actions) (numbers_left m now)) ∙ ap numbers (sym same) ∙ sym (append-nil (numbers r.actions))) in
      let last : slot ≡ behind_last now.cursors.slot (slots r.actions ++ []) =
      q ∙ ap (λ (l : List Action). behind_last v.cursors.slot (take (all_adding l) (slots_left m v))) e
      ∙ ap (λ (w : Reserving). behind_last w.cursors.slot (take (all_adding actions) (slots_left m w))) is
      ∙ ap (λ (l : List ℕ). behind_last now.cursors.slot l) (sym (owned_choices (all_adding actions) (slots_left m now)) ∙ ap slots (sym same) ∙ sym (append-nil (slots r.actions))) in
      ap (λ (c : ℕ). both c slot) number ∙ ap (λ (s : ℕ). both (last_number now.cursors.context (numbers r.actions ++ [])) s) last
