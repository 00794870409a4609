-- A change that is decided suits a part that has the command's keys.
use Rattle.std.proofs.Common.{nat_eq, ◌≡◌, ℕ, ◌<◌, Bool, true, false, cond, List, length, Option, Some, sym, ap, subst, ◌∙◌}
use Rattle.std.proofs.lemmas.Bool.{leb-false}
use Rattle.gw_base.specs.declared.ids.CtxNum.{CtxNum}
use Rattle.gw_base.specs.declared.command_words.Rules.{Rules}
use Rattle.gw_base.specs.declared.command_words.Verb.{Verb}
use Rattle.gw_base.specs.declared.key.Key.TheVariants.{Term, Ctx}
use Rattle.gw_base.specs.NameLists.{is_in}
use Rattle.gw_base.proofs.Booleans.{refuted}
use Rattle.gw_base.proofs.NameTests.{same_number, number_itself}
use Rattle.gw_term.specs.declared.record.Termination.{Termination}
use Rattle.gw_table.specs.Maps.{Maps, term, ctx, put_term, place_of, members_of}
use Rattle.gw_table.specs.Parts.{PartKeys, holds, HoldsPlace}
use Rattle.gw_table.specs.WellFormed.{IsSound}
use Rattle.gw_table.proofs.Lookups.{ctx-put_term}
use Rattle.gw_cmd.specs.declared.change.Change.{Change}
use Rattle.gw_cmd.specs.declared.change.Change.TheVariants.{Stays, Becomes, Joins, Crosses, Leaves}
use Rattle.gw_cmd.specs.Effects.{is_full}
use Rattle.gw_table.specs.Members.{without_member, unless_empty}
use Rattle.gw_ctx.specs.Contexts.{left}
use Rattle.gw_table.specs.Maps.{context_of}
use Rattle.gw_cmd.specs.Suits.{HoldsMoved, Suits}
use Rattle.gw_cmd.proofs.Lawful.{Lawful}
use Rattle.gw_cmd.proofs.Sound.{free_at_none, ctx-without_member}

-- two numbers are as different the other way round
pub apart_turned : (p n : CtxNum) → nat_eq p.0 n.0 ≡ false → nat_eq n.0 p.0 ≡ false
apart_turned p n h = refuted (nat_eq n.0 p.0) (λ e.
    let same : n ≡ p = same_number n p e in
    let itself : nat_eq p.0 n.0 ≡ true = number_itself p n (sym same) in
    let clash : true ≡ false = sym itself ∙ h in
    cc)

-- another context, after the record was written and the name left
pub other_context : (p n : CtxNum) (t : List ℕ) (o : Option Termination) (m put left : Maps) → nat_eq n.0 p.0 ≡ false → put ≡ put_term m t o → left ≡ without_member p t put → ctx left n ≡ ctx m n
other_context p n t o m put left apart a b =
    ap (λ x. ctx x n) b ∙ ctx-without_member p t put n
    ∙ ap (λ (d : Bool). cond d (unless_empty (Rattle.gw_ctx.specs.Contexts.left t (context_of (ctx put p)))) (ctx put n)) apart
    ∙ ap (λ x. ctx x n) a ∙ ctx-put_term m t o n

-- a context that is not full has room for one more
pub room_of : (rules : Rules) (n : CtxNum) (m : Maps) → is_full rules n m ≡ false → length (members_of (ctx m n)) < rules.members
room_of rules n m h = leb-false rules.members (length (members_of (ctx m n))) h

holds_it : (keys : PartKeys) (place : Option CtxNum) (n : CtxNum) → place ≡ Some n → HoldsPlace keys place → holds keys (Ctx n) ≡ true
holds_it keys place n e h = subst (HoldsPlace keys) e h

pub suits : (rules : Rules) (keys : PartKeys) (v : Verb) (place : Option CtxNum) (t : List ℕ) (r : Termination) (m : Maps) (change : Change)
    → IsSound keys m → holds keys (Term t) ≡ true → HoldsPlace keys place → HoldsMoved keys v r.place → place_of (term m t) ≡ r.place
    → Lawful rules v place r change m → Suits rules keys t change m
suits rules keys v place t r m Stays s k h g e l = tt
suits rules keys v place t r m (Becomes new) s k h g e l = k
suits rules keys v place t r m (Joins n new) s k h g e l =
    (k, holds_it keys place n l.0 h, record { new = free_at_none keys t m s k (e ∙ l.1) n; room = room_of rules n m l.4 })
suits rules keys v place t r m (Crosses p n new) s k h g e l =
    (k, holds_it keys r.place p l.1 (g l.6), holds_it keys place n l.0 h, record { new = apart; room = room_of rules n m l.5 }, apart_turned p n l.2)
  where
    apart : is_in t (members_of (ctx m n)) ≡ false
    apart = refuted (is_in t (members_of (ctx m n))) (λ i.
        let same : Some p ≡ Some n = sym (e ∙ l.1) ∙ s.recorded t n k i in
        let j : p ≡ n = cc in
        let itself : nat_eq p.0 n.0 ≡ true = number_itself p n j in
        let clash : true ≡ false = sym itself ∙ l.2 in
        cc)
suits rules keys v place t r m (Leaves n o) s k h g e l = (k, holds_it keys place n l.0 h)
