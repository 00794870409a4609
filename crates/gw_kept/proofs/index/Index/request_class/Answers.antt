use Rattle.std.proofs.Common.{◌≡◌, ◌<◌, ◌-◌, ℕ, Option, Some, cond, is_some, length, refl, sym, ap, subst, ◌∙◌, arith}
use Rattle.std.specs.BTreeMap.{get, is_at}
use Rattle.std.specs.Option.{option_copied_mut}
use Rattle.gw_kept.specs.declared.entry.RequestKey.{RequestKey}
use Rattle.gw_kept.specs.Order.{key_cmp}
use Rattle.gw_kept.specs.Classes.{kept_place, most_new}
use Rattle.gw_kept.specs.Index.{kept_at}
use Rattle.gw_kept.proofs.Indexes.{index_same, is_new, is_over, is_repeat, kept_known, left_by_list, left_by_place, one_more_index}
use Rattle.gw_kept.proofs.index.Index.request_class.Goals as goal

pub returns-in-Some-kept_place-clause-exact : goal.returns-in-Some-kept_place-clause-exact
returns-in-Some-kept_place-clause-exact c =
    λ requested s h known.
    let now = c.args.self.now in
    let key = c.args.key.now in
    let was : Some c.in-Some.last.now ≡ get key_cmp now.places key = ap (λ o. option_copied_mut o) (sym c.in-Some.is) ∙ c.get_mut.ensures.value ∙ ap (λ (q : RequestKey). get key_cmp now.places q) c.get.ensures in
    let there = ap (λ o. is_some o) (sym c.get_mut.ensures.value) ∙ ap (λ o. is_some (option_copied_mut o)) c.in-Some.is in
    let kept = kept_known requested now s key c.in-Some.last.now c.kept_place.result h known was (c.kept_place.ensures ∙ ap (λ (n : ℕ). kept_at c.in-Some.last.now key n now.left) c.saturating_sub-oldest.ensures) in
    let written = λ (place : Option ℕ) (q : RequestKey). subst (λ (k : RequestKey). get key_cmp (c.get_mut.follows.lender place) q ≡ cond (is_at (key_cmp k) q) (Some place) (get key_cmp now.places q)) c.get.ensures (((c.get_mut.follows.holds place).3 there).0 q) in (
      is_repeat now.before s.pairs c.in-Some-kept_place.place c.source.result c.kept_place.result (kept_place key s) c.source.ensures c.in-Some-kept_place.is kept,
      index_same requested now _ s key c.in-Some.last.now h was (written c.in-Some.last.now) refl refl refl refl,
    )

pub returns-then-saturating_sub-ge-MOST_NEW-clause-exact : goal.returns-then-saturating_sub-ge-MOST_NEW-clause-exact
returns-then-saturating_sub-ge-MOST_NEW-clause-exact c =
    λ requested s h known.
    let now = c.args.self.now in
    let key = c.args.key.now in
    let was : Some c.in-Some.last.now ≡ get key_cmp now.places key = ap (λ o. option_copied_mut o) (sym c.in-Some.is) ∙ c.get_mut.ensures.value ∙ ap (λ (q : RequestKey). get key_cmp now.places q) c.get.ensures in
    let there = ap (λ o. is_some o) (sym c.get_mut.ensures.value) ∙ ap (λ o. is_some (option_copied_mut o)) c.in-Some.is in
    let kept = kept_known requested now s key c.in-Some.last.now c.kept_place.result h known was (c.kept_place.ensures ∙ ap (λ (n : ℕ). kept_at c.in-Some.last.now key n now.left) c.saturating_sub-oldest.ensures) in
    let written = λ (place : Option ℕ) (q : RequestKey). subst (λ (k : RequestKey). get key_cmp (c.get_mut.follows.lender place) q ≡ cond (is_at (key_cmp k) q) (Some place) (get key_cmp now.places q)) c.get.ensures (((c.get_mut.follows.holds place).3 there).0 q) in (
      is_over now.before s.pairs (kept_place key s) (sym kept ∙ c.in_default-kept_place.is) (omega (arith, h.total, c.saturating_sub.ensures, c.if-saturating_sub-ge-MOST_NEW.true)),
      index_same requested now _ s key c.in-Some.last.now h was (written c.in-Some.last.now) refl refl refl refl,
    )

pub returns-in-Some-left-clause-exact : goal.returns-in-Some-left-clause-exact
returns-in-Some-left-clause-exact c =
    λ requested s h known.
    let now = c.args.self.now in
    let key = c.args.key.now in
    let was : Some c.in-Some.last.now ≡ get key_cmp now.places key = ap (λ o. option_copied_mut o) (sym c.in-Some.is) ∙ c.get_mut.ensures.value ∙ ap (λ (q : RequestKey). get key_cmp now.places q) c.get.ensures in
    let there = ap (λ o. is_some o) (sym c.get_mut.ensures.value) ∙ ap (λ o. is_some (option_copied_mut o)) c.in-Some.is in
    let kept = kept_known requested now s key c.in-Some.last.now c.kept_place.result h known was (c.kept_place.ensures ∙ ap (λ (n : ℕ). kept_at c.in-Some.last.now key n now.left) c.saturating_sub-oldest.ensures) in
    let written = λ (place : Option ℕ) (q : RequestKey). subst (λ (k : RequestKey). get key_cmp (c.get_mut.follows.lender place) q ≡ cond (is_at (key_cmp k) q) (Some place) (get key_cmp now.places q)) c.get.ensures (((c.get_mut.follows.holds place).3 there).0 q) in
    let none = sym kept ∙ c.in_default-kept_place.is in
    let less : length s.pairs - now.before < most_new = omega (arith, h.total, c.saturating_sub.ensures, c.if-saturating_sub-ge-MOST_NEW.false) in (
      is_new now.before s.pairs (kept_place key s) none less,
      one_more_index requested now _ s key h known (written (Some now.total)) refl (omega (arith, h.total, h.before, h.small, less, c.saturating_add-self.ensures)) less
          (left_by_list requested now s key c.in-Some-left.row c.push_key.new.self h c.in-Some-left.is none c.push_key.ensures.keys c.push_key.ensures.most),
    )

pub returns-in_default-left-clause-exact : goal.returns-in_default-left-clause-exact
returns-in_default-left-clause-exact c =
    λ requested s h known.
    let now = c.args.self.now in
    let key = c.args.key.now in
    let was : Some c.in-Some.last.now ≡ get key_cmp now.places key = ap (λ o. option_copied_mut o) (sym c.in-Some.is) ∙ c.get_mut.ensures.value ∙ ap (λ (q : RequestKey). get key_cmp now.places q) c.get.ensures in
    let there = ap (λ o. is_some o) (sym c.get_mut.ensures.value) ∙ ap (λ o. is_some (option_copied_mut o)) c.in-Some.is in
    let kept = kept_known requested now s key c.in-Some.last.now c.kept_place.result h known was (c.kept_place.ensures ∙ ap (λ (n : ℕ). kept_at c.in-Some.last.now key n now.left) c.saturating_sub-oldest.ensures) in
    let written = λ (place : Option ℕ) (q : RequestKey). subst (λ (k : RequestKey). get key_cmp (c.get_mut.follows.lender place) q ≡ cond (is_at (key_cmp k) q) (Some place) (get key_cmp now.places q)) c.get.ensures (((c.get_mut.follows.holds place).3 there).0 q) in
    let none = sym kept ∙ c.in_default-kept_place.is in
    let less : length s.pairs - now.before < most_new = omega (arith, h.total, c.saturating_sub.ensures, c.if-saturating_sub-ge-MOST_NEW.false) in (
      is_new now.before s.pairs (kept_place key s) none less,
      one_more_index requested now _ s key h known (written (Some now.total)) refl (omega (arith, h.total, h.before, h.small, less, c.saturating_add-self.ensures)) less
          (left_by_place requested now s key h c.in_default-left.is),
    )
