-- What a transaction leaves as it was: tables stay well-formed, and what others own stays free.
use Rattle.std.proofs.Common.{nat_eq, ◌≡◌, ℕ, ◌+◌, ◌<◌, ◌^◌, Bool, true, false, List, [], ◌∷◌, ◌++◌, length, get_or, Option, None, Some, sym, ap, subst, ◌∙◌, arith, get_or-append-add}
use Rattle.std.specs.Prelude.{◌≢◌, if◌then◌else◌, All}
use Rattle.std.proofs.lemmas.List.{length-append, get_or_append_left, get_or_default}
use Rattle.gw_base.specs.Choose.{is_choose}
use Rattle.gw_base.specs.declared.ids.CtxNum.{CtxNum}
use Rattle.gw_reserve.specs.Ids.{Ids}
use Rattle.gw_base.specs.declared.command_words.CtxRef.{CtxRef}
use Rattle.gw_base.specs.declared.command_words.CtxRef.TheVariants as ref
use Rattle.gw_base.specs.declared.command_words.Rules.{Rules}
use Rattle.gw_base.proofs.Booleans.{refuted}
use Rattle.gw_base.proofs.NameTests.{same_number}
use Rattle.gw_msg.specs.declared.message.Action.{Action}
use Rattle.gw_msg.specs.declared.message.Command.{Command}
use Rattle.gw_msg.specs.declared.message.Request.{Request}
use Rattle.gw_table.specs.Maps.{Maps, term, ctx}
use Rattle.gw_table.specs.Reserved.{slot_name}
use Rattle.gw_table.specs.Unused.{owned, AreUnused}
use Rattle.gw_table.specs.WellFormed.{AreWellFormed}
use Rattle.gw_table.proofs.SlotNames.{slots_apart}
use Rattle.gw_refusal.specs.declared.at.At.{At}
use Rattle.gw_refusal.specs.declared.at.At.TheVariants.{Null, Live, Unmade, Each}
use Rattle.gw_reserve.specs.declared.owned.Owned.{Owned}
use Rattle.gw_reserve.specs.Owned.{OwnedAction, first_owned, later_owned, slots_behind, with_slots, with_owned, with_ids, paired_actions, paired, AreFreeSlots}
use Rattle.gw_tx.specs.Transactions.{actions, paired_transaction, transaction}
use Rattle.gw_tx.proofs.Entries.{number_entries, all_entries, all_behind, paired_all, front_of_all}
use Rattle.gw_tx.proofs.Facts.{Any, IsNamedOtherThan, MakesOther, commands_keep_whole, commands_keep_free, commands_keep_number}
use Rattle.gw_tx.proofs.FreeSlots.{IsOfKind, kind_first, kind_later}
use Rattle.gw_tx.proofs.Kept.{CommandsKeep, Oks, OksIn, AllOks, kept_actions}

-- ---- of a list of unused slots, its front and its end

module _ (m : Maps) (front later : List ℕ) (u : AreUnused m [] (front ++ later)) where
  size : length (front ++ later) ≡ length front + length later
  size = length-append front later

  at_front : (k d : ℕ) → k < length front → get_or (front ++ later) k d ≡ get_or front k d
  at_front k d h = get_or_append_left front later d k h

  at_end : (k d : ℕ) → get_or (front ++ later) (length front + k) d ≡ get_or later k d
  at_end k d = get_or-append-add front later k d

  small : (k d : ℕ) → k < length (front ++ later) → get_or (front ++ later) k d < 2 ^ 16
  small k d h = omega (arith, u.slots_small k d h)

  pub front_unused : AreUnused m [] front
  front_unused = record {
    numbers_apart = u.numbers_apart;
    no_contexts = u.no_contexts;
    slots_apart = λ i j d a b. rw (sym (at_front i d (omega (arith, a, b))), sym (at_front j d b)) (u.slots_apart i j d a (omega (arith, size, b)));
    no_terminations = λ k d h. rw (sym (at_front k d h)) (u.no_terminations k d (omega (arith, size, h)));
    slots_small = λ k d h. rw (sym (at_front k d h)) (u.slots_small k d (omega (arith, size, h)));
  }

  -- the slots of the front have other names than those of the end
  others : (k d : ℕ) → k < length later → All (IsNamedOtherThan (get_or later k d)) front
  others k d h i e l same =
      let inside : i < length (front ++ later) = omega (arith, size, l) in
      let behind : length front + k < length (front ++ later) = omega (arith, size, h) in
      let order : i < length front + k = omega (arith, l) in
      let here : get_or (front ++ later) i d ≡ get_or front i e = at_front i d l ∙ get_or_default front i d e l in
      let there : get_or (front ++ later) (length front + k) d ≡ get_or later k d = at_end k d in
      u.slots_apart i (length front + k) d order behind
      (slots_apart (get_or (front ++ later) i d) (get_or (front ++ later) (length front + k) d) (small i d inside) (small (length front + k) d behind)
      (ap (λ (s : ℕ). slot_name s) here ∙ same ∙ sym (ap (λ (s : ℕ). slot_name s) there)))

all_front : (S : ℕ → Type 0) (front later : List ℕ) → All S (front ++ later) → All S front
all_front S front later a k d h = subst S (get_or_append_left front later d k h) (a k d (omega (arith, length-append front later)))

-- ---- what its commands keep, a transaction keeps

pub kept_request : {Ok : At → Option ℕ → Command → Type 0} {S : ℕ → Type 0} {Q : Maps → Type 0} (rules : Rules) → CommandsKeep rules Ok S Q → (r : Request) (ids : Ids) (m : Maps) → AllOks Ok (with_ids r ids) → AreFreeSlots m ids.slots → All S (owned ids.slots) → Q m → Q (transaction rules r ids m).maps
unfolding transaction paired_transaction
kept_request {Ok} {S} {Q} rules k r ids m o free kind q =
    let pairs : paired_actions (number_entries ids.contexts r.actions) (all_entries ids.slots r.actions) r.actions ≡ with_ids r ids = paired_all ids.contexts ids.slots r.actions in
    let front : owned ids.slots ≡ owned (all_entries ids.slots r.actions) ++ owned (all_behind ids.slots r.actions) = front_of_all ids.slots r.actions in
    subst (λ (owners : List OwnedAction). Q (actions rules owners m).maps) pairs
    (kept_actions rules k (number_entries ids.contexts r.actions) (all_entries ids.slots r.actions) r.actions m (subst (AllOks Ok) (sym pairs) o) (record {
      kept = q;
      free = front_unused m (owned (all_entries ids.slots r.actions)) (owned (all_behind ids.slots r.actions)) (subst (AreUnused m []) front free);
      kind = all_front S (owned (all_entries ids.slots r.actions)) (owned (all_behind ids.slots r.actions)) (subst (All S) front kind);
    }))

-- the same of one that is paired by entries
kept_paired : {Ok : At → Option ℕ → Command → Type 0} {S : ℕ → Type 0} {Q : Maps → Type 0} (rules : Rules) → CommandsKeep rules Ok S Q → (r : Request) (o : Owned) (m : Maps) → AllOks Ok (paired r o) → AreFreeSlots m o.slots → All S (owned o.slots) → Q m → Q (paired_transaction rules r (paired r o) m).maps
unfolding paired_transaction
kept_paired rules k r o m ok free kind q = kept_actions rules k o.contexts o.slots r.actions m ok (record { kept = q; free = free; kind = kind })

any_in : (ps : List (Option ℕ × Command)) (at : At) → Oks Any at ps
any_in [] at = tt
any_in (p ∷ ps) at = (tt, any_in ps at)

pub any_of : (actions : List OwnedAction) → AllOks Any actions
any_of [] = tt
any_of (a ∷ more) = grind (arith, any_of more, any_in)

pub transaction_whole : (rules : Rules) (r : Request) (ids : Ids) (m : Maps) → AreFreeSlots m ids.slots → AreWellFormed rules.members m → AreWellFormed rules.members (transaction rules r ids m).maps
transaction_whole rules r ids m u w = kept_request rules (commands_keep_whole rules) r ids m (any_of (with_ids r ids)) u (λ k d h. tt) w

pub paired_whole : (rules : Rules) (r : Request) (o : Owned) (m : Maps) → AreFreeSlots m o.slots → AreWellFormed rules.members m → AreWellFormed rules.members (paired_transaction rules r (paired r o) m).maps
paired_whole rules r o m u w = kept_paired rules (commands_keep_whole rules) r o m (any_of (paired r o)) u (λ k d h. tt) w

-- ---- slots

-- a slot that has another name than each that is owned
named_free : (rules : Rules) (r : Request) (ids : Ids) (m : Maps) (s : ℕ) → AreFreeSlots m ids.slots → All (IsNamedOtherThan s) (owned ids.slots) → term m (slot_name s) ≡ None → term (transaction rules r ids m).maps (slot_name s) ≡ None
named_free rules r ids m s u other none = kept_request rules (commands_keep_free rules s) r ids m (any_of (with_ids r ids)) u other none

pub slot_free : (rules : Rules) (r : Request) (ids : Ids) (m : Maps) (s : ℕ) → AreFreeSlots m ids.slots → s < 4096 → All (λ t. t ≢ s) (owned ids.slots) → term m (slot_name s) ≡ None → term (transaction rules r ids m).maps (slot_name s) ≡ None
slot_free rules r ids m s u h other none = named_free rules r ids m s u (λ k d i e. other k d i (slots_apart (get_or (owned ids.slots) k d) s (omega (arith, u.slots_small k d i)) (omega arith) e)) none

-- the slots behind a front, of which only those of the front were used
later_unused : (m after : Maps) (front later : List ℕ) → ((s : ℕ) → All (IsNamedOtherThan s) front → term m (slot_name s) ≡ None → term after (slot_name s) ≡ None) → AreUnused m [] (front ++ later) → AreUnused after [] later
later_unused m after front later keeps u =
    let len : length (front ++ later) ≡ length front + length later = length-append front later in
    record {
      numbers_apart = u.numbers_apart;
      no_contexts = λ k d h. absurd (omega arith);
      slots_apart = λ i j d a b.
          let x : length front + i < length front + j = omega (arith, a) in
          let y : length front + j < length (front ++ later) = omega (arith, len, b) in
          rw (sym (at_end m front later u i d), sym (at_end m front later u j d)) (u.slots_apart (length front + i) (length front + j) d x y);
      no_terminations = λ k d h.
          let y : length front + k < length (front ++ later) = omega (arith, len, h) in
          let absent : term m (slot_name (get_or later k d)) ≡ None = rw (sym (at_end m front later u k d)) (u.no_terminations (length front + k) d y) in
          keeps (get_or later k d) (others m front later u k d h) absent;
      slots_small = λ k d h.
          let y : length front + k < length (front ++ later) = omega (arith, len, h) in
          rw (sym (at_end m front later u k d)) (u.slots_small (length front + k) d y);
    }

-- the slots of later requests are free when a transaction was carried out
pub later_free : (rules : Rules) (r : Request) (ids : Ids) (m : Maps) (later : List ℕ) → AreUnused m [] (owned ids.slots ++ later) → AreUnused (transaction rules r ids m).maps [] later
later_free rules r ids m later u = later_unused m (transaction rules r ids m).maps (owned ids.slots) later (λ s other none. named_free rules r ids m s (front_unused m (owned ids.slots) later u) other none) u

pub paired_later_free : (rules : Rules) (r : Request) (o : Owned) (m : Maps) (later : List ℕ) → AreUnused m [] (owned o.slots ++ later) → AreUnused (paired_transaction rules r (paired r o) m).maps [] later
paired_later_free rules r o m later u =
    later_unused m (paired_transaction rules r (paired r o) m).maps (owned o.slots) later
    (λ s other none. kept_paired rules (commands_keep_free rules s) r o m (any_of (paired r o)) (front_unused m (owned o.slots) later u) other none) u

-- ---- numbers

module _ (n : CtxNum) where
  made_none : (ps : List (Option ℕ × Command)) (at : At) → ((slot : Option ℕ) (c : Command) → MakesOther n at slot c) → Oks (MakesOther n) at ps
  made_none [] at h = tt
  made_none (p ∷ ps) at h = (h p.0 p.1, made_none ps at h)

  makes_others : (numbers : List (Option CtxNum)) (slots : List (Option ℕ)) (requested : List Action) → All (λ k. nat_eq n.0 k.0 ≡ false) (owned numbers) → AllOks (MakesOther n) (with_owned numbers slots requested)
  makes_others numbers slots [] a = tt
  makes_others numbers slots (x ∷ more) a = (by x.ctx, makes_others (if is_choose x.ctx then later_owned numbers else numbers) (slots_behind slots x.commands) more (left (is_choose x.ctx)))
    where
      left : (b : Bool) → All (λ k. nat_eq n.0 k.0 ≡ false) (owned (if b then later_owned numbers else numbers))
      left true = kind_later (λ k. nat_eq n.0 k.0 ≡ false) numbers a
      left false = a

      chosen : (o : Option CtxNum) → IsOfKind (λ k. nat_eq n.0 k.0 ≡ false) o → OksIn (MakesOther n) (with_slots slots x.commands) ref.Choose o
      chosen None k = tt
      chosen (Some c) k = made_none (with_slots slots x.commands) (Unmade c) (λ slot d. k)

      by : (sent : CtxRef) → OksIn (MakesOther n) (with_slots slots x.commands) sent (if is_choose sent then first_owned numbers else None)
      by ref.Null = made_none (with_slots slots x.commands) Null (λ slot d. tt)
      by (ref.Num k) = made_none (with_slots slots x.commands) (Live k) (λ slot d. tt)
      by ref.Choose = chosen (first_owned numbers) (kind_first (λ k. nat_eq n.0 k.0 ≡ false) numbers a)
      by ref.All = λ k. made_none (with_slots slots x.commands) (Each k) (λ slot d. tt)

  pub number_free : (rules : Rules) (r : Request) (ids : Ids) (m : Maps) → AreFreeSlots m ids.slots → All (λ k. k ≢ n) (owned ids.contexts) → ctx m n ≡ None → ctx (transaction rules r ids m).maps n ≡ None
  number_free rules r ids m u other none =
      kept_request rules (commands_keep_number rules n) r ids m
      (makes_others ids.contexts ids.slots r.actions (λ i d h. refuted (nat_eq n.0 (get_or (owned ids.contexts) i d).0) (λ e. other i d h (sym (same_number n (get_or (owned ids.contexts) i d) e)))))
      u (λ k d h. tt) none
