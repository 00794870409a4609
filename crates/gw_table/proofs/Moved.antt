-- What follows for tables between which entries were moved.
use Rattle.std.proofs.Common.{nat_eq, ◌≡◌, Bool, true, false, cond, not, List, [], ◌∷◌, ◌++◌, bytes_eq, Option, None, Some, is_some, refl, sym, ap, subst, ◌∙◌}
use Rattle.std.specs.Prelude.{◌||◌, ◌&&◌}
use Rattle.std.specs.FinMap as finite
use Rattle.std.specs.FinMap.{get-empty}
use Rattle.std.specs.Ordering.{nat_cmp}
use Rattle.gw_base.specs.declared.ids.CtxNum.{CtxNum}
use Rattle.gw_base.specs.declared.key.Key.{Key}
use Rattle.gw_base.specs.declared.key.Key.TheVariants.{Term, Ctx, Whole}
use Rattle.gw_base.specs.Keys.{same_key, has}
use Rattle.gw_base.specs.NameLists.{name_cmp}
use Rattle.gw_base.proofs.NameTests.{same_name, same_number}
use Rattle.gw_table.specs.declared.place.Place.{Place}
use Rattle.gw_table.specs.declared.place.Place.TheVariants.{Out}
use Rattle.gw_table.specs.Cells.{or_empty, cell_from, with_cell}
use Rattle.gw_table.specs.Maps.{term, ctx, no_maps}
use Rattle.gw_table.specs.Parts.{restricted, cut, overlaid}
use Rattle.gw_table.specs.Stored.{Stored, visible, has_left, maps_of, is_ready, with_out, AreMoved, AreReady, AreIn, AreAsReady, NoneIsOut, WentOut, CameBack, nothing_stored}
use Rattle.gw_table.proofs.Lookups.{same_maps}
use Rattle.gw_table.proofs.PartLookups.{term-restricted, ctx-restricted, term-cut, ctx-cut, term-overlaid, ctx-overlaid}
use Rattle.gw_table.proofs.Places.{term-maps_of, ctx-maps_of, got_term, got_ctx, maps_of_nothing, nothing_out}

or_nothing : (b : Bool) → (b || false) ≡ b
or_nothing true = refl
or_nothing false = refl

regroup : (a b c : Bool) → (a || (b || c)) ≡ ((a || b) || c)
regroup true b c = refl
regroup false b c = refl

pub has-pushed : (keys : List Key) (k x : Key) → has (keys ++ k ∷ []) x ≡ (has keys x || same_key x k)
has-pushed [] k x = or_nothing (same_key x k)
has-pushed (y ∷ ys) k x = ap (λ b. same_key x y || b) (has-pushed ys k x) ∙ regroup (same_key x y) (has ys x) (same_key x k)

-- ---- nothing was moved, or one more

pub moved_none : (from to : Stored) → AreMoved [] from to from to
moved_none from to = record { terms_left = λ t. refl; terms_full = λ t. refl; contexts_left = λ n. refl; contexts_full = λ n. refl }

-- at a key that is not the one that was moved
same_at : {A : Type 0} (h : Bool) (x y : A) → cond h x y ≡ cond (h || false) x y
same_at h x y = ap (λ b. cond b x y) (sym (or_nothing h))

left_more : {A : Type 0} (b h : Bool) (x y : A) → cond b x (cond h x y) ≡ cond (h || b) x y
left_more true true x y = refl
left_more true false x y = refl
left_more false true x y = refl
left_more false false x y = refl

filled_in : {A : Type 0} (o : Option (Place A)) → is_some o ≡ true → Some (or_empty o) ≡ o
filled_in None h = cc
filled_in (Some p) h = refl

full_more : {K A : Type 0} (from to left : K → Option (Place A)) (own : K → Bool) (b h : Bool) (q t : K) → (b ≡ true → q ≡ t) → own q ≡ h → own t ≡ false → is_some (left t) ≡ true → left t ≡ cond (own t) (Some Out) (from t)
    → cond b (Some (or_empty (left t))) (cond h (from q) (to q)) ≡ cond (h || b) (from q) (to q)
full_more from to left own true true q t is e new there was = absurd (let clash : true ≡ false = sym e ∙ ap own (is refl) ∙ new in cc)
full_more from to left own true false q t is e new there was = filled_in (left t) there ∙ was ∙ ap (λ d. cond d (Some Out) (from t)) new ∙ ap from (sym (is refl))
full_more from to left own false h q t is e new there was = same_at h (from q) (to q)

pub moved_more : (keys : List Key) (k : Key) (from to left full after behind : Stored) → has keys k ≡ false → is_ready left k ≡ true → after ≡ with_out left k → behind ≡ with_cell k (cell_from left k) full → AreMoved keys from to left full → AreMoved (keys ++ k ∷ []) from to after behind
moved_more keys k from to left full after behind new there e f m = subst (λ (a : Stored). AreMoved (keys ++ k ∷ []) from to a behind) (sym e) (subst (λ (b : Stored). AreMoved (keys ++ k ∷ []) from to (with_out left k) b) (sym f) (by k new there))
  where
    wider : {A : Type 0} (k x : Key) (y z : A) → cond (has keys x || same_key x k) y z ≡ cond (has (keys ++ k ∷ []) x) y z
    wider k x y z = ap (λ b. cond b y z) (sym (has-pushed keys k x))

    by : (k : Key) → has keys k ≡ false → is_ready left k ≡ true → AreMoved (keys ++ k ∷ []) from to (with_out left k) (with_cell k (cell_from left k) full)
    by (Term t) new there = record {
      terms_left = λ q. got_term left t Out q ∙ ap (cond (bytes_eq q t) (Some Out)) (m.terms_left q) ∙ left_more (bytes_eq q t) (has keys (Term q)) (Some Out) (finite.get from.terms q) ∙ wider (Term t) (Term q) (Some Out) (finite.get from.terms q);
      terms_full = λ q. got_term full t (or_empty (finite.get left.terms t)) q ∙ ap (cond (bytes_eq q t) (Some (or_empty (finite.get left.terms t)))) (m.terms_full q)
          ∙ full_more (λ y. finite.get from.terms y) (λ y. finite.get to.terms y) (λ y. finite.get left.terms y) (λ y. has keys (Term y)) (bytes_eq q t) (has keys (Term q)) q t (same_name q t) refl new there (m.terms_left t)
          ∙ wider (Term t) (Term q) (finite.get from.terms q) (finite.get to.terms q);
      contexts_left = λ q. m.contexts_left q ∙ same_at (has keys (Ctx q)) (Some Out) (finite.get from.contexts q.0) ∙ wider (Term t) (Ctx q) (Some Out) (finite.get from.contexts q.0);
      contexts_full = λ q. m.contexts_full q ∙ same_at (has keys (Ctx q)) (finite.get from.contexts q.0) (finite.get to.contexts q.0) ∙ wider (Term t) (Ctx q) (finite.get from.contexts q.0) (finite.get to.contexts q.0);
    }
    by (Ctx n) new there = record {
      terms_left = λ q. m.terms_left q ∙ same_at (has keys (Term q)) (Some Out) (finite.get from.terms q) ∙ wider (Ctx n) (Term q) (Some Out) (finite.get from.terms q);
      terms_full = λ q. m.terms_full q ∙ same_at (has keys (Term q)) (finite.get from.terms q) (finite.get to.terms q) ∙ wider (Ctx n) (Term q) (finite.get from.terms q) (finite.get to.terms q);
      contexts_left = λ q. got_ctx left n Out q ∙ ap (cond (nat_eq q.0 n.0) (Some Out)) (m.contexts_left q) ∙ left_more (nat_eq q.0 n.0) (has keys (Ctx q)) (Some Out) (finite.get from.contexts q.0) ∙ wider (Ctx n) (Ctx q) (Some Out) (finite.get from.contexts q.0);
      contexts_full = λ q. got_ctx full n (or_empty (finite.get left.contexts n.0)) q ∙ ap (cond (nat_eq q.0 n.0) (Some (or_empty (finite.get left.contexts n.0)))) (m.contexts_full q)
          ∙ full_more (λ (y : CtxNum). finite.get from.contexts y.0) (λ (y : CtxNum). finite.get to.contexts y.0) (λ (y : CtxNum). finite.get left.contexts y.0) (λ (y : CtxNum). has keys (Ctx y)) (nat_eq q.0 n.0) (has keys (Ctx q)) q n (same_number q n) refl new there (m.contexts_left n)
          ∙ wider (Ctx n) (Ctx q) (finite.get from.contexts q.0) (finite.get to.contexts q.0);
    }
    by Whole new there = record {
      terms_left = λ q. m.terms_left q ∙ same_at (has keys (Term q)) (Some Out) (finite.get from.terms q) ∙ wider Whole (Term q) (Some Out) (finite.get from.terms q);
      terms_full = λ q. m.terms_full q ∙ same_at (has keys (Term q)) (finite.get from.terms q) (finite.get to.terms q) ∙ wider Whole (Term q) (finite.get from.terms q) (finite.get to.terms q);
      contexts_left = λ q. m.contexts_left q ∙ same_at (has keys (Ctx q)) (Some Out) (finite.get from.contexts q.0) ∙ wider Whole (Ctx q) (Some Out) (finite.get from.contexts q.0);
      contexts_full = λ q. m.contexts_full q ∙ same_at (has keys (Ctx q)) (finite.get from.contexts q.0) (finite.get to.contexts q.0) ∙ wider Whole (Ctx q) (finite.get from.contexts q.0) (finite.get to.contexts q.0);
    }

-- ---- the places stay

stays_left : {A : Type 0} (h : Bool) (o : Option (Place A)) → (h ≡ true → is_some o ≡ true) → is_some (cond h (Some Out) o) ≡ is_some o
stays_left true o there = sym (there refl)
stays_left false o there = refl

stays_full : {A : Type 0} (h : Bool) (o p : Option (Place A)) → (h ≡ true → is_some o ≡ true) → (h ≡ true → is_some p ≡ true) → is_some (cond h o p) ≡ is_some p
stays_full true o p there place = there refl ∙ sym (place refl)
stays_full false o p there place = refl

module _ (keys : List Key) (from to left full : Stored) (m : AreMoved keys from to left full) where
  pub ready_left : AreReady keys from → AreAsReady from left
  ready_left r (Term t) = ap (λ o. is_some o) (m.terms_left t) ∙ stays_left (has keys (Term t)) (finite.get from.terms t) (r (Term t))
  ready_left r (Ctx n) = ap (λ o. is_some o) (m.contexts_left n) ∙ stays_left (has keys (Ctx n)) (finite.get from.contexts n.0) (r (Ctx n))
  ready_left r Whole = refl

  pub ready_full : AreReady keys from → AreReady keys to → AreAsReady to full
  ready_full r s (Term t) = ap (λ o. is_some o) (m.terms_full t) ∙ stays_full (has keys (Term t)) (finite.get from.terms t) (finite.get to.terms t) (r (Term t)) (s (Term t))
  ready_full r s (Ctx n) = ap (λ o. is_some o) (m.contexts_full n) ∙ stays_full (has keys (Ctx n)) (finite.get from.contexts n.0) (finite.get to.contexts n.0) (r (Ctx n)) (s (Ctx n))
  ready_full r s Whole = refl

  -- ---- what is out

  goes : {A : Type 0} (h : Bool) (o : Option (Place A)) → has_left (cond h (Some Out) o) ≡ (has_left o || (h && true))
  goes {A} true o = at (has_left o)
    where
      at : (b : Bool) → true ≡ (b || true)
      at true = refl
      at false = refl
  goes false o = sym (or_nothing (has_left o))

  nothing_more : (b h : Bool) → b ≡ (b || (h && false))
  nothing_more true h = refl
  nothing_more false true = refl
  nothing_more false false = refl

  pub went_out : WentOut keys from left
  went_out (Term t) = ap (λ o. has_left o) (m.terms_left t) ∙ goes (has keys (Term t)) (finite.get from.terms t)
  went_out (Ctx n) = ap (λ o. has_left o) (m.contexts_left n) ∙ goes (has keys (Ctx n)) (finite.get from.contexts n.0)
  went_out Whole = nothing_more false (has keys Whole)

  comes : {A : Type 0} (h : Bool) (o p : Option (Place A)) → (h ≡ true → has_left o ≡ false) → has_left (cond h o p) ≡ (has_left p && not h)
  comes true o p there = there refl ∙ at (has_left p)
    where
      at : (b : Bool) → false ≡ (b && false)
      at true = refl
      at false = refl
  comes false o p there = at (has_left p)
    where
      at : (b : Bool) → b ≡ (b && true)
      at true = refl
      at false = refl

  pub came_back : AreIn keys from → CameBack keys to full
  came_back h (Term t) = ap (λ o. has_left o) (m.terms_full t) ∙ comes (has keys (Term t)) (finite.get from.terms t) (finite.get to.terms t) (h (Term t))
  came_back h (Ctx n) = ap (λ o. has_left o) (m.contexts_full n) ∙ comes (has keys (Ctx n)) (finite.get from.contexts n.0) (finite.get to.contexts n.0) (h (Ctx n))
  came_back h Whole = refl

  -- ---- the entries

  without_entry : {A : Type 0} (h : Bool) (o : Option (Place A)) → visible (cond h (Some Out) o) ≡ cond h None (visible o)
  without_entry true o = refl
  without_entry false o = refl

  either_entry : {A : Type 0} (h : Bool) (o p : Option (Place A)) → visible (cond h o p) ≡ cond h (visible o) (visible p)
  either_entry true o p = refl
  either_entry false o p = refl

  pub maps_left : maps_of left ≡ cut keys (maps_of from)
  maps_left = same_maps (maps_of left) (cut keys (maps_of from))
      (λ t. term-maps_of left t ∙ ap (λ o. visible o) (m.terms_left t) ∙ without_entry (has keys (Term t)) (finite.get from.terms t) ∙ ap (cond (has keys (Term t)) None) (sym (term-maps_of from t)) ∙ sym (term-cut keys (maps_of from) t))
      (λ n. ctx-maps_of left n ∙ ap (λ o. visible o) (m.contexts_left n) ∙ without_entry (has keys (Ctx n)) (finite.get from.contexts n.0) ∙ ap (cond (has keys (Ctx n)) None) (sym (ctx-maps_of from n)) ∙ sym (ctx-cut keys (maps_of from) n))

  pub maps_full : maps_of full ≡ overlaid keys (maps_of from) (maps_of to)
  maps_full = same_maps (maps_of full) (overlaid keys (maps_of from) (maps_of to))
      (λ t. term-maps_of full t ∙ ap (λ o. visible o) (m.terms_full t) ∙ either_entry (has keys (Term t)) (finite.get from.terms t) (finite.get to.terms t) ∙ sym (λ i. cond (has keys (Term t)) (term-maps_of from t i) (term-maps_of to t i)) ∙ sym (term-overlaid keys (maps_of from) (maps_of to) t))
      (λ n. ctx-maps_of full n ∙ ap (λ o. visible o) (m.contexts_full n) ∙ either_entry (has keys (Ctx n)) (finite.get from.contexts n.0) (finite.get to.contexts n.0) ∙ sym (λ i. cond (has keys (Ctx n)) (ctx-maps_of from n i) (ctx-maps_of to n i)) ∙ sym (ctx-overlaid keys (maps_of from) (maps_of to) n))

-- ---- a part: what was moved to where there was nothing

module _ (keys : List Key) (from left full : Stored) (m : AreMoved keys from nothing_stored left full) where
  pub maps_part : maps_of full ≡ restricted keys (maps_of from)
  maps_part = maps_full keys from nothing_stored left full m ∙ ap (overlaid keys (maps_of from)) maps_of_nothing
      ∙ same_maps (overlaid keys (maps_of from) no_maps) (restricted keys (maps_of from))
      (λ t. term-overlaid keys (maps_of from) no_maps t ∙ ap (cond (has keys (Term t)) (term (maps_of from) t)) (get-empty name_cmp t) ∙ sym (term-restricted keys (maps_of from) t))
      (λ n. ctx-overlaid keys (maps_of from) no_maps n ∙ ap (cond (has keys (Ctx n)) (ctx (maps_of from) n)) (get-empty nat_cmp n.0) ∙ sym (ctx-restricted keys (maps_of from) n))

  pub none_out : AreIn keys from → NoneIsOut full
  none_out h k = came_back keys from nothing_stored left full m h k ∙ ap (λ x. x && not (has keys k)) (nothing_out k)

-- ---- out and back
