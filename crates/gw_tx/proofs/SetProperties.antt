-- What it means that properties were not refused, and what setting them keeps: terminations, members, which contexts
-- there are, and well-formed tables.
use Rattle.std.proofs.Common.{nat_eq, inl, ◌≡◌, ℕ, ◌≤◌, Bool, true, false, cond, List, [], ◌∷◌, ◌++◌, Option, None, Some, is_some, bytes_eq, refl, sym, ap, subst, ◌∙◌}
use Rattle.std.specs.Prelude.{◌≢◌, ◌&&◌, ◌||◌, not, if◌then◌else◌, length, flat_map}
use Rattle.std.specs.List.{list_any}
use Rattle.std.proofs.lemmas.Bool.{ltb-false}
use Rattle.std.proofs.lemmas.List.Folds.{list_any-append}
use Rattle.std.proofs.lemmas.Grind.{flat_map-append}
use Rattle.gw_base.specs.declared.code.Code.TheVariants.{IllegalCombination, UnknownTermination, NotInContext, PropertyTwice, NotImplemented, InsufficientResources}
use Rattle.gw_base.specs.declared.ids.CtxNum.{CtxNum}
use Rattle.gw_base.specs.declared.context_words.Link.{Link}
use Rattle.gw_base.specs.declared.term_ref.TermRef.{TermRef}
use Rattle.gw_base.specs.declared.term_ref.TermRef.TheVariants as term_ref
use Rattle.gw_base.specs.NameLists.{is_in, NoDoubles}
use Rattle.gw_base.proofs.Booleans.{neither}
use Rattle.gw_base.proofs.NameTests.{same_number}
use Rattle.gw_ctx.specs.Contexts.{ContextRecord}
use Rattle.gw_ctx.specs.Fitting.{priority_max, IsFit}
use Rattle.gw_ctx.proofs.Fits.{fit_new, fit_prioritized, fit_marked, fit_linked}
use Rattle.gw_msg.specs.declared.message.Action.{Action}
use Rattle.gw_msg.specs.declared.message.ContextItem.{ContextItem}
use Rattle.gw_msg.specs.declared.message.Triple.{Triple}
use Rattle.gw_msg.specs.declared.message.ContextProp.{ContextProp}
use Rattle.gw_msg.specs.declared.message.ContextProp.TheVariants.{Priority, Emergency, Topology, ContextAudit}
use Rattle.gw_table.specs.Maps.{Maps, term, ctx, place_of, context_of, members_of}
use Rattle.gw_table.specs.Parts.{PartKeys, IsPart}
use Rattle.gw_table.specs.WellFormed.{IsSound, AreWellFormed}
use Rattle.gw_table.proofs.Growth.{Grows, grows_on}
use Rattle.gw_table.proofs.Leaving.{put_ctx-same}
use Rattle.gw_table.proofs.Lookups.{term-put_ctx, ctx-put_ctx}
use Rattle.gw_refusal.specs.Places.{same_place}
use Rattle.gw_cmd.proofs.Parted.{StaysPart}
use Rattle.gw_tx.specs.Properties.{is_topology, triples_in, triples_of, any_triple, name_of, name_in, names_in, linked_names, is_chosen_or_each, has_no_name, is_left_out, is_with_itself, are_same, is_for_wrong_context, is_misplaced, has_twice, is_too_high, refusal_of_properties, ArePlain, is_absent, is_elsewhere, refusal_of_links, link_of, linked_if, linked_by, with_property, with_property_if, set_property, set_properties}

-- ---- what may be set

-- the two of a triple differ, and are in the context
abbrev pub IsBetween : CtxNum → Maps → Triple → Type 0
IsBetween n m t = (a b : List ℕ) → name_of t.a ≡ Some a → name_of t.b ≡ Some b → (place_of (term m a) ≡ Some n) × (place_of (term m b) ≡ Some n) × (bytes_eq a b ≡ false)

abbrev pub AreBetween : CtxNum → Maps → List Triple → Type 0
AreBetween n m [] = Unit {0}
AreBetween n m (t ∷ ts) = IsBetween n m t × AreBetween n m ts

pub record CanSet (n : CtxNum) (p : ContextProp) (m : Maps) : Type 0 where
  pub low : is_too_high p ≡ false
  pub between : AreBetween n m (triples_in p)

abbrev pub AllCanSet : CtxNum → List ContextProp → Maps → Type 0
AllCanSet n [] m = Unit {0}
AllCanSet n (p ∷ ps) m = CanSet n p m × AllCanSet n ps m

-- in whichever context and tables they are set
abbrev pub CanAlwaysSet : List ContextProp → Type 0
CanAlwaysSet ps = (n : CtxNum) (m : Maps) → AllCanSet n ps m

-- nothing may be
pub never_late : CanAlwaysSet []
never_late n m = tt

-- ---- what stays

module _ (n : CtxNum) (p : ContextProp) (m : Maps) where
  pub term-set : (q : List ℕ) → term (set_property n p m) q ≡ term m q
  term-set q = term-put_ctx m n (with_property_if p (ctx m n)) q

  pub ctx-set : (c : CtxNum) → ctx (set_property n p m) c ≡ cond (nat_eq c.0 n.0) (with_property_if p (ctx m n)) (ctx m c)
  ctx-set c = ctx-put_ctx m n (with_property_if p (ctx m n)) c

members-linked_if : (o : Option Link) (c : ContextRecord) → (linked_if o c).members ≡ c.members
members-linked_if None c = refl
members-linked_if (Some link) c = refl

members-linked_by : (ts : List Triple) (c : ContextRecord) → (linked_by ts c).members ≡ c.members
members-linked_by [] c = refl
members-linked_by (t ∷ ts) c =
    let link : Option Link = link_of (name_of t.a) (name_of t.b) t.flow in
    members-linked_by ts (linked_if link c) ∙ members-linked_if link c

members-with_property : (p : ContextProp) (c : ContextRecord) → (with_property p c).members ≡ c.members
members-with_property (Priority q) c = refl
members-with_property Emergency c = refl
members-with_property (Topology ts) c = members-linked_by ts c
members-with_property (ContextAudit items) c = refl

pub members-if : (p : ContextProp) (o : Option ContextRecord) → members_of (with_property_if p o) ≡ members_of o
members-if p None = refl
members-if p (Some c) = members-with_property p c

some-if : (p : ContextProp) (o : Option ContextRecord) → is_some (with_property_if p o) ≡ is_some o
some-if p None = refl
some-if p (Some c) = refl

module _ (n : CtxNum) (p : ContextProp) (m : Maps) where
  -- what setting does not change in a context is as it was in each
  same_of : {A : Type 0} (f : Option ContextRecord → A) → f (with_property_if p (ctx m n)) ≡ f (ctx m n) → (c : CtxNum) → f (ctx (set_property n p m) c) ≡ f (ctx m c)
  same_of f same c = ap f (ctx-set n p m c) ∙ at (nat_eq c.0 n.0) refl
    where
      at : (b : Bool) → nat_eq c.0 n.0 ≡ b → f (cond b (with_property_if p (ctx m n)) (ctx m c)) ≡ f (ctx m c)
      at true e = same ∙ ap (λ (k : CtxNum). f (ctx m k)) (sym (same_number c n e))
      at false e = refl

  pub members-set : (c : CtxNum) → members_of (ctx (set_property n p m) c) ≡ members_of (ctx m c)
  members-set c = same_of (λ o. members_of o) (members-if p (ctx m n)) c

  pub some-set : (c : CtxNum) → is_some (ctx (set_property n p m) c) ≡ is_some (ctx m c)
  some-set c = same_of (λ o. is_some o) (some-if p (ctx m n)) c

  pub sound_set : (keys : PartKeys) → IsSound keys m → IsSound keys (set_property n p m)
  sound_set keys s = record {
    recorded = λ t c k h. ap (λ o. place_of o) (term-set n p m t) ∙ s.recorded t c k (ap (is_in t) (sym (members-set c)) ∙ h);
    once = λ c. subst NoDoubles (sym (members-set c)) (s.once c);
  }

  pub part_set : (keys : PartKeys) → IsPart keys m → IsPart keys (set_property n p m)
  part_set keys s = record {
    terms = λ t h. s.terms t (ap (λ o. is_some o) (sym (term-set n p m t)) ∙ h);
    contexts = λ c h. s.contexts c (sym (some-set c) ∙ h);
  }

  pub grows_set : (keys : PartKeys) → Grows keys m (set_property n p m)
  grows_set keys = record {
    places = λ t c e. inl (ap (λ o. place_of o) (sym (term-set n p m t)) ∙ e);
    members = λ c t h. inl (ap (is_in t) (sym (members-set c)) ∙ h);
  }

  pub stays_part_set : (keys : PartKeys) (start : Maps) → StaysPart keys start m → StaysPart keys start (set_property n p m)
  stays_part_set keys start s = record {
    sound = sound_set keys s.sound;
    entries = part_set keys s.entries;
    grown = grows_on keys start m (set_property n p m) s.grown (grows_set keys);
  }

  pub absent_set : (c : CtxNum) → ctx m c ≡ None → ctx (set_property n p m) c ≡ None
  absent_set c none = by (ctx (set_property n p m) c) (some-set c ∙ ap (λ o. is_some o) none)
    where
      by : (o : Option ContextRecord) → is_some o ≡ false → o ≡ None
      by None e = refl
      by (Some x) e = absurd cc

-- ---- what is set is fit

fit_between : (n : CtxNum) (m : Maps) (ts : List Triple) (c : ContextRecord) → AreBetween n m ts → ((q : List ℕ) → place_of (term m q) ≡ Some n → is_in q c.members ≡ true) → IsFit c → IsFit (linked_by ts c)
fit_between n m [] c b listed f = f
fit_between n m (t ∷ ts) c b listed f =
    let link : Option Link = link_of (name_of t.a) (name_of t.b) t.flow in
    fit_between n m ts (linked_if link c) b.1 (λ q e. ap (is_in q) (members-linked_if link c) ∙ listed q e) (one (name_of t.a) (name_of t.b) refl refl)
  where
    one : (x y : Option (List ℕ)) → name_of t.a ≡ x → name_of t.b ≡ y → IsFit (linked_if (link_of x y t.flow) c)
    one (Some a) (Some d) e g =
        let h = b.0 a d e g in
        let link : Link = record { a = a; b = d; flow = t.flow } in
        fit_linked link c (listed a h.0) (listed d h.1) h.2 f
    one (Some a) None e g = f
    one None (Some d) e g = f
    one None None e g = f

fit_property : (n : CtxNum) (m : Maps) (p : ContextProp) (c : ContextRecord) → CanSet n p m → ((q : List ℕ) → place_of (term m q) ≡ Some n → is_in q c.members ≡ true) → IsFit c → IsFit (with_property p c)
fit_property n m (Priority q) c can listed f = fit_prioritized q c (ltb-false priority_max q can.low) f
fit_property n m Emergency c can listed f = fit_marked true c f
fit_property n m (Topology ts) c can listed f = fit_between n m ts c can.between listed f
fit_property n m (ContextAudit items) c can listed f = f

module _ (limit : ℕ) (n : CtxNum) (p : ContextProp) (m : Maps) (can : CanSet n p m) (w : AreWellFormed limit m) where
  fit_if : (o : Option ContextRecord) → ctx m n ≡ o → IsFit (context_of (with_property_if p o))
  fit_if None e = fit_new
  fit_if (Some c) e =
      fit_property n m p c can
      (λ q h. ap (λ (x : Option ContextRecord). is_in q (members_of x)) (sym e) ∙ w.listed q n h)
      (subst (λ (x : Option ContextRecord). IsFit (context_of x)) e (w.fit n))

  pub whole_set : AreWellFormed limit (set_property n p m)
  whole_set = record {
    recorded = λ t c h. ap (λ o. place_of o) (term-set n p m t) ∙ w.recorded t c (ap (is_in t) (sym (members-set n p m c)) ∙ h);
    listed = λ t c e. ap (is_in t) (members-set n p m c) ∙ w.listed t c (ap (λ o. place_of o) (sym (term-set n p m t)) ∙ e);
    once = λ c. subst NoDoubles (sym (members-set n p m c)) (w.once c);
    some = λ c x e f. some c x (ctx m c) refl e f;
    few = λ c. subst (λ l. length l ≤ limit) (sym (members-set n p m c)) (w.few c);
    fit = λ c. subst (λ o. IsFit (context_of o)) (sym (ctx-set n p m c)) (fit c (nat_eq c.0 n.0));
    named = λ t r e. w.named t r (sym (term-set n p m t) ∙ e);
    modest = λ t r e. w.modest t r (sym (term-set n p m t) ∙ e);
  }
    where
      some : (c : CtxNum) (x : ContextRecord) (o : Option ContextRecord) → ctx m c ≡ o → ctx (set_property n p m) c ≡ Some x → x.members ≢ []
      some c x None e f g = let clash : true ≡ false = ap (λ o. is_some o) (sym f) ∙ some-set n p m c ∙ ap (λ o. is_some o) e in cc
      some c x (Some y) e f g = w.some c y e (ap (λ o. members_of o) (sym e) ∙ sym (members-set n p m c) ∙ ap (λ o. members_of o) f ∙ g)

      fit : (c : CtxNum) (b : Bool) → IsFit (context_of (cond b (with_property_if p (ctx m n)) (ctx m c)))
      fit c true = fit_if (ctx m n) refl
      fit c false = w.fit c

-- ---- what may be set may still be set when something was

between_still : (n : CtxNum) (k : CtxNum) (p : ContextProp) (m : Maps) (ts : List Triple) → AreBetween n m ts → AreBetween n (set_property k p m) ts
between_still n k p m [] b = tt
between_still n k p m (t ∷ ts) b = (λ x y e f. let h = b.0 x y e f in (ap (λ o. place_of o) (term-set k p m x) ∙ h.0, ap (λ o. place_of o) (term-set k p m y) ∙ h.1, h.2), between_still n k p m ts b.1)

pub can_still : (n k : CtxNum) (p : ContextProp) (m : Maps) (ps : List ContextProp) → AllCanSet n ps m → AllCanSet n ps (set_property k p m)
can_still n k p m [] c = tt
can_still n k p m (q ∷ qs) c = (record { low = c.0.low; between = between_still n k p m (triples_in q) c.0.between }, can_still n k p m qs c.1)

-- what each property that may be set keeps, all of them keep
pub set_all : (Q : Maps → Type 0) → ((n : CtxNum) (p : ContextProp) (m : Maps) → CanSet n p m → Q m → Q (set_property n p m)) → (n : CtxNum) (ps : List ContextProp) (m : Maps) → AllCanSet n ps m → Q m → Q (set_properties n ps m)
set_all Q each n [] m c q = q
set_all Q each n (p ∷ ps) m c q = set_all Q each n ps (set_property n p m) (can_still n n p m ps c.1) (each n p m c.0 q)

pub term-all : (n : CtxNum) (ps : List ContextProp) (m : Maps) (t : List ℕ) → term (set_properties n ps m) t ≡ term m t
term-all n [] m t = refl
term-all n (p ∷ ps) m t = term-all n ps (set_property n p m) t ∙ term-set n p m t

-- ---- what was not refused may be set

-- an action that is not refused by its form
pub record IsAllowed (a : Action) : Type 0 where
  pub left : is_left_out a ≡ false
  pub placed : is_misplaced a ≡ false
  pub low : list_any is_too_high a.props ≡ false

pub allowed : (a : Action) → refusal_of_properties a ≡ None → IsAllowed a
unfolding refusal_of_properties
allowed a = by (is_left_out a) (is_misplaced a) (has_twice a.props) (list_any is_too_high a.props) refl refl refl
  where
    by : (l i t h : Bool) → is_left_out a ≡ l → is_misplaced a ≡ i → list_any is_too_high a.props ≡ h
        → (if l then Some NotImplemented else if i then Some IllegalCombination else if t then Some PropertyTwice else if h then Some InsufficientResources else None) ≡ None → IsAllowed a
    by true i t h e f g x = absurd cc
    by false true t h e f g x = absurd cc
    by false false true h e f g x = absurd cc
    by false false false true e f g x = absurd cc
    by false false false false e f g x = record { left = e; placed = f; low = g }

-- the names of links are in the context
pub linked_here : (n : CtxNum) (names : List (List ℕ)) (m : Maps) → refusal_of_links n names m ≡ None → list_any (is_elsewhere n m) names ≡ false
linked_here n names m = by (list_any (is_absent m) names) (list_any (is_elsewhere n m) names)
  where
    by : (a e : Bool) → (if a then Some UnknownTermination else if e then Some NotInContext else None) ≡ None → e ≡ false
    by true e x = absurd cc
    by false true x = absurd cc
    by false false x = refl

here : (n : CtxNum) (o : Option CtxNum) → not (same_place o (Some n)) ≡ false → o ≡ Some n
here n None e = absurd cc
here n (Some k) e = ap (λ x. Some x) (same_number k n (by (nat_eq k.0 n.0) e))
  where
    by : (b : Bool) → not b ≡ false → b ≡ true
    by true e = refl
    by false e = absurd cc

no_more : {X : Type 0} (test : X → Bool) (xs ys : List X) → list_any test (xs ++ ys) ≡ false → (list_any test xs ≡ false) × (list_any test ys ≡ false)
no_more test xs ys e = neither (list_any test xs) (list_any test ys) (sym (list_any-append test xs ys) ∙ e)

module _ (n : CtxNum) (m : Maps) where
  named_here : (r : TermRef) (a : List ℕ) → list_any (is_elsewhere n m) (name_in r) ≡ false → name_of r ≡ Some a → place_of (term m a) ≡ Some n
  named_here (term_ref.Name t) a e f =
      let same : t ≡ a = cc in
      subst (λ (x : List ℕ). place_of (term m x) ≡ Some n) same (here n (place_of (term m t)) (neither (is_elsewhere n m t) false e).0)
  named_here term_ref.Root a e f = absurd cc
  named_here term_ref.All a e f = absurd cc
  named_here term_ref.Choose a e f = absurd cc
  named_here (term_ref.Under prefix) a e f = absurd cc
  named_here (term_ref.Other text) a e f = absurd cc

  triples_between : (ts : List Triple) → list_any (is_elsewhere n m) (flat_map names_in ts) ≡ false → list_any is_with_itself ts ≡ false → AreBetween n m ts
  triples_between [] e f = tt
  triples_between (t ∷ ts) e f =
      let more = no_more (is_elsewhere n m) (names_in t) (flat_map names_in ts) e in
      let two = no_more (is_elsewhere n m) (name_in t.a) (name_in t.b) more.0 in
      let apart = neither (is_with_itself t) (list_any is_with_itself ts) f in
      ((λ a b g h. (named_here t.a a two.0 g, named_here t.b b two.1 h, (λ i. are_same (sym g i) (sym h i)) ∙ apart.0)), triples_between ts more.1 apart.1)

  props_between : (ps : List ContextProp) → list_any (is_elsewhere n m) (linked_names ps) ≡ false → any_triple is_with_itself ps ≡ false → list_any is_too_high ps ≡ false → AllCanSet n ps m
  props_between [] e f g = tt
  props_between (p ∷ ps) e f g =
      let split = names_more p ps in
      let more = no_more (is_elsewhere n m) (flat_map names_in (triples_in p)) (linked_names ps) (sym (ap (list_any (is_elsewhere n m)) split) ∙ e) in
      let apart = neither (list_any is_with_itself (triples_in p)) (any_triple is_with_itself ps) f in
      let low = neither (is_too_high p) (list_any is_too_high ps) g in
      (record { low = low.0; between = triples_between (triples_in p) more.0 apart.0 }, props_between ps more.1 apart.1 low.1)
    where
      names_more : (p : ContextProp) (ps : List ContextProp) → linked_names (p ∷ ps) ≡ flat_map names_in (triples_in p) ++ linked_names ps
      names_more p ps = flat_map-append names_in (triples_in p) (triples_of ps)

-- by number
pub can_set_in : (a : Action) (n : CtxNum) (m : Maps) → IsAllowed a → refusal_of_links n (linked_names a.props) m ≡ None → AllCanSet n a.props m
unfolding is_misplaced
can_set_in a n m h e = props_between n m a.props (linked_here n (linked_names a.props) m e) (neither (is_for_wrong_context a.ctx a) (any_triple is_with_itself a.props) h.placed).1 h.low

-- without a Topology
pub unlinked : (ps : List ContextProp) → list_any is_topology ps ≡ false → list_any is_too_high ps ≡ false → CanAlwaysSet ps
unlinked [] e g n m = tt
unlinked (p ∷ ps) e g n m =
    let none = neither (is_topology p) (list_any is_topology ps) e in
    let low = neither (is_too_high p) (list_any is_too_high ps) g in
    (record { low = low.0; between = between p none.0 }, unlinked ps none.1 low.1 n m)
  where
    between : (p : ContextProp) → is_topology p ≡ false → AreBetween n m (triples_in p)
    between (Priority q) e = tt
    between Emergency e = tt
    between (Topology ts) e = absurd cc
    between (ContextAudit items) e = tt

pub plain_can : (ps : List ContextProp) → ArePlain ps → CanAlwaysSet ps
plain_can ps h = unlinked ps h.unlinked h.low

-- for a context that is to be made, and for each
pub are_plain : (a : Action) → IsAllowed a → is_chosen_or_each a.ctx ≡ true → ArePlain a.props
unfolding is_left_out
are_plain a h e = record { low = h.low; unlinked = by (any_triple has_no_name a.props) (list_any is_topology a.props) (is_chosen_or_each a.ctx) h.left e }
  where
    by : (u t c : Bool) → (u || (t && c)) ≡ false → c ≡ true → t ≡ false
    by true t c x y = absurd cc
    by false true true x y = absurd cc
    by false true false x y = absurd cc
    by false false c x y = refl

pub can_set_always : (a : Action) → IsAllowed a → is_chosen_or_each a.ctx ≡ true → CanAlwaysSet a.props
can_set_always a h e = plain_can a.props (are_plain a h e)

-- ---- a part stays one, whatever is set

pub stays_part_all : (keys : PartKeys) (start : Maps) (n : CtxNum) (ps : List ContextProp) (m : Maps) → StaysPart keys start m → StaysPart keys start (set_properties n ps m)
stays_part_all keys start n [] m s = s
stays_part_all keys start n (p ∷ ps) m s = stays_part_all keys start n ps (set_property n p m) (stays_part_set n p m keys start s)

-- ---- what sets nothing

-- a ContextAudit sets nothing
pub set_audited : (n : CtxNum) (p : ContextProp) (items : List ContextItem) (m : Maps) → p ≡ ContextAudit items → m ≡ set_property n p m
set_audited n p items m is = sym (ap (λ (x : ContextProp). set_property n x m) is ∙ put_ctx-same m n (with_property_if (ContextAudit items) (ctx m n)) (stays (ctx m n)))
  where
    stays : (o : Option ContextRecord) → with_property_if (ContextAudit items) o ≡ o
    stays None = refl
    stays (Some c) = refl
