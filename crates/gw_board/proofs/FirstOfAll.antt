-- A request that keeps apart from all that are before it may go first.
use Rattle.std.proofs.Common.{◌≡◌, true, false, List, [], ◌∷◌, ◌++◌, refl, sym, ap, subst, ◌∙◌}
use Rattle.gw_board.specs.declared.profile.Profile.{Profile}
use Rattle.gw_base.specs.declared.key.Key.{Key}
use Rattle.gw_base.specs.declared.key.Key.TheVariants.{Whole}
use Rattle.gw_base.specs.Keys.{has, same_key, AreApart}
use Rattle.gw_base.proofs.Booleans.{refuted}
use Rattle.gw_base.proofs.KeyTests.{any-append_cases}
use Rattle.gw_base.proofs.NamesInLists.{either}
use Rattle.gw_board.specs.Texts.{Text}
use Rattle.gw_table.specs.Locality.{ChangePlaces}
use Rattle.gw_table.specs.Maps.{Maps, Outcome}
use Rattle.gw_table.specs.WellFormed.{AreWellFormed}
use Rattle.gw_reserve.specs.Owned.{AreFreeSlots}
use Rattle.gw_foot.specs.OwnsUnused.{OwnOthers}
use Rattle.gw_board.specs.Carried.{BurstRequest, keys_of, done}
use Rattle.gw_board.specs.Core.{Standing, Pending, Opened, Closed, Place, pending, closed_with}
use Rattle.gw_board.specs.Results.{carried_at, carried_on}
use Rattle.gw_board.proofs.Orders.{in_order_on}
use Rattle.gw_board.proofs.Requests.{well_after, keys_grow, keys_stay, change, stays_free}
use Rattle.gw_board.specs.Fitting.{Each, InOrder, Differ, UnlessClosed}

-- keys of another that both keep apart from
pub apart_after : (profile : Profile) (q r : BurstRequest) (keys : List Key) (m : Maps) → AreWellFormed profile.rules.members m → AreFreeSlots m q.owned.slots → AreApart (keys_of q m) keys → AreApart (keys_of r m) keys → AreApart (keys_of r (done profile q m).maps) keys
apart_after profile q r keys m w f a b = record {
  keys = λ k h. either (any-append_cases (same_key k) (keys_of q m) (keys_of r m) (keys_grow profile q m w f r k h)) (λ i. a.keys k i) (λ i. b.keys k i);
  whole_a = refuted (has (keys_of r (done profile q m).maps) Whole) (λ h. either (any-append_cases (same_key Whole) (keys_of q m) (keys_of r m) (keys_grow profile q m w f r Whole h))
      (λ i. let clash : true ≡ false = sym i ∙ a.whole_a in cc) (λ i. let clash : true ≡ false = sym i ∙ b.whole_a in cc));
  whole_b = a.whole_b;
}

-- q may wait for r
pub record MayWait (r : BurstRequest) (m : Maps) (q : BurstRequest) : Type 0 where
  pub free : AreFreeSlots m q.owned.slots
  pub others : OwnOthers q.owned.slots r.owned.slots
  pub apart : AreApart (keys_of q m) (keys_of r m)

abbrev pub Waits : BurstRequest → Maps → Place → Type 0
Waits r m p = UnlessClosed p.standing (MayWait r m p.requested)

-- so it may after another one that may
module _ (profile : Profile) (r q : BurstRequest) (m : Maps) (w : AreWellFormed profile.rules.members m) (h : MayWait r m q) (a : BurstRequest) (differ : OwnOthers q.owned.slots a.owned.slots) where
  may_still : MayWait r m a → MayWait r (done profile q m).maps a
  may_still g = record {
    free = stays_free profile q m w h.free a g.free differ;
    others = g.others;
    apart = subst (λ (k : List Key). AreApart (keys_of a (done profile q m).maps) k) (sym (keys_stay profile q m w h.free r h.apart)) (apart_after profile q a (keys_of r m) m w h.free h.apart g.apart);
  }

  waits_on : (x : Standing) → UnlessClosed x (MayWait r m a) → UnlessClosed x (MayWait r (done profile q m).maps a)
  waits_on Pending g = may_still g
  waits_on (Opened j) g = may_still g
  waits_on (Closed reply) g = tt

abbrev behind : Text → Outcome (List Text) → Outcome (List Text)
behind reply o = record { maps = o.maps; answer = reply ∷ o.answer }

module _ (profile : Profile) (r : BurstRequest) (after : List Place) where
  -- carried out in its place, and carried out before all
  abbrev in_place : List Place → Maps → Outcome (List Text)
  in_place before m = carried_on profile (before ++ pending r ∷ after) m

  abbrev at_once : List Place → Maps → Outcome (List Text)
  at_once before m = carried_on profile (before ++ closed_with r (done profile r m).answer ∷ after) (done profile r m).maps

  abbrev MayGoFirst : List Place → Type 0
  MayGoFirst before = (m : Maps) → AreWellFormed profile.rules.members m → AreFreeSlots m r.owned.slots → InOrder (Waits r m) Differ before → in_place before m ≡ at_once before m

  past : (p : Place) (ps : List Place) (m : Maps) → AreWellFormed profile.rules.members m → AreFreeSlots m r.owned.slots → MayWait r m p.requested → Each (Differ p) ps → InOrder (Waits r m) Differ ps → MayGoFirst ps
      → behind (done profile p.requested m).answer (in_place ps (done profile p.requested m).maps) ≡ behind (done profile p.requested (done profile r m).maps).answer (carried_on profile (ps ++ closed_with r (done profile r m).answer ∷ after) (done profile p.requested (done profile r m).maps).maps)
  past p ps m w f h d o ih =
      let q : BurstRequest = p.requested in
      let n : Maps = (done profile q m).maps in
      let e : ChangePlaces (done profile q) (done profile r) m = change profile q m w h.free r f h.apart in
      let on : InOrder (Waits r n) Differ ps = in_order_on (Waits r m) (Waits r n) Differ Differ (Differ p) (λ y c g. waits_on profile r q m w h y.requested c y.standing g) (λ y z c c' g. g) ps d o in
      ap (behind (done profile q m).answer) (ih n (well_after profile q m w h.free) (stays_free profile q m w h.free r f h.others) on)
      ∙ (λ i. behind (sym e.first i) (carried_on profile (ps ++ closed_with r (e.second i) ∷ after) (e.maps i)))

  step : (p : Place) (ps : List Place) (x : Standing) (m : Maps) → AreWellFormed profile.rules.members m → AreFreeSlots m r.owned.slots → UnlessClosed x (MayWait r m p.requested) → Each (Differ p) ps → InOrder (Waits r m) Differ ps → MayGoFirst ps
      → behind (carried_at profile p.requested x m).answer (in_place ps (carried_at profile p.requested x m).maps) ≡ behind (carried_at profile p.requested x (done profile r m).maps).answer (carried_on profile (ps ++ closed_with r (done profile r m).answer ∷ after) (carried_at profile p.requested x (done profile r m).maps).maps)
  step p ps Pending m w f h d o ih = past p ps m w f h d o ih
  step p ps (Opened j) m w f h d o ih = past p ps m w f h d o ih
  step p ps (Closed reply) m w f h d o ih = ap (behind reply) (ih m w f o)

  pub goes_first : (before : List Place) → MayGoFirst before
  goes_first [] m w f o = refl
  goes_first (p ∷ ps) m w f o = step p ps p.standing m w f o.0 o.1 o.2 (goes_first ps)
