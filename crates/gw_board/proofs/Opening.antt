-- A place is opened.
use Rattle.std.proofs.Common.{◌≡◌, false, List, [], ◌∷◌, ◌++◌, None, sym, ap, subst, ◌∙◌}
use Rattle.std.specs.Prelude.{◌||◌}
use Rattle.gw_board.specs.declared.profile.Profile.{Profile}
use Rattle.gw_base.specs.declared.key.Key.{Key}
use Rattle.gw_base.specs.declared.key.Key.TheVariants.{Term, Ctx}
use Rattle.gw_base.specs.Keys.{has, same_key, AreApart}
use Rattle.gw_base.proofs.Booleans.{neither}
use Rattle.gw_base.proofs.KeyTests.{apart_turned, any-append_cases, any-append_left, any-append_right}
use Rattle.gw_base.proofs.NamesInLists.{either}
use Rattle.gw_table.specs.Maps.{Maps}
use Rattle.gw_table.specs.Parts.{restricted, cut}
use Rattle.gw_table.specs.WellFormed.{AreWellFormed}
use Rattle.gw_reserve.specs.Owned.{paired, AreFreeSlots}
use Rattle.gw_foot.proofs.AfterAnother.{footprint_same}
use Rattle.gw_foot.proofs.Meetings.{apart_if}
use Rattle.gw_board.specs.Carried.{BurstRequest, keys_of}
use Rattle.gw_board.specs.Core.{Standing, Pending, Opened, Closed, Place, Job, pending, open_with, meets_at, meets_any}
use Rattle.gw_board.proofs.Orders.{each_map, each_both, each_in, each_joined, front_in, behind_in, earlier_in, replaced}
use Rattle.gw_board.proofs.Outs.{SameKeys, apart_left, apart_right, clear_same, out-append, out-place, ApartAt, ApartFromOpen, Clear, clear_out, agree_clear, agree_turned, cut_more, restricted_alike}
use Rattle.gw_board.proofs.States.{apart_as, Any, each_any}
use Rattle.gw_board.proofs.Leading.{Leads, keys_lead}
use Rattle.gw_board.proofs.Untold.{still_apart}
use Rattle.gw_board.specs.Fitting.{Each, out_at, out, IsJobOf, Fits, Stands, UnlessClosed, KeepsApart, Beside, Stand}

-- ---- a key that is out, and where it leads

module _ (profile : Profile) (m : Maps) (w : AreWellFormed profile.rules.members m) where
  leads_at : (a : BurstRequest) (x : Standing) → Fits profile a m x → Leads (out_at x) m
  leads_at a Pending f = λ t c h e. absurd cc
  leads_at a (Opened j) f = λ t c h e. f.1.keys (Ctx c) ∙ keys_lead profile.rules.members a m w f.0 t c (sym (f.1.keys (Term t)) ∙ h) e
  leads_at a (Closed reply) f = λ t c h e. absurd cc

  leads_out : (places : List Place) → Each (Stands profile m) places → Leads (out places) m
  leads_out [] f t c h e = absurd cc
  leads_out (p ∷ ps) f t c h e =
      either (any-append_cases (same_key (Term t)) (out_at p.standing) (out ps) h)
      (λ i. any-append_left (same_key (Ctx c)) (out_at p.standing) (out ps) (leads_at p.requested p.standing f.0 t c i e))
      (λ i. any-append_right (same_key (Ctx c)) (out_at p.standing) (out ps) (leads_out ps f.1 t c i e))

-- ---- keys that meet none

abbrev MeetsNot : List Key → Maps → Place → Type 0
MeetsNot keys m p = meets_at keys m p.requested p.standing ≡ false

each_meets_not : (keys : List Key) (m : Maps) (places : List Place) → meets_any keys m places ≡ false → Each (MeetsNot keys m) places
each_meets_not keys m [] h = tt
each_meets_not keys m (p ∷ ps) h = let both = neither (meets_at keys m p.requested p.standing) (meets_any keys m ps) h in (both.0, each_meets_not keys m ps both.1)

apart_at : (keys : List Key) (m : Maps) (a : BurstRequest) (x : Standing) → meets_at keys m a x ≡ false → ApartAt keys x
apart_at keys m a Pending h = tt
apart_at keys m a (Opened j) h = apart_turned j.keys keys (apart_if j.keys keys h)
apart_at keys m a (Closed reply) h = tt

module _ (profile : Profile) (m : Maps) (w : AreWellFormed profile.rules.members m) (a : BurstRequest) (before after : List Place) (h : Stand profile m (before ++ pending a ∷ after)) where
  abbrev all_out : List Key
  all_out = out (before ++ pending a ∷ after)

  -- the maps as they are
  abbrev now : Maps
  now = cut all_out m

  free_here : AreFreeSlots m a.owned.slots
  free_here = (behind_in (Stands profile m) (Beside m) before (pending a ∷ after) h).0

  later_open : (y : Standing) → KeepsApart a m Pending y → ApartAt (keys_of a m) y
  later_open Pending g = tt
  later_open (Opened j) g = g
  later_open (Closed reply) g = tt

  apart_behind : Each (ApartFromOpen (keys_of a m)) after
  apart_behind = each_map {P = Beside m (pending a)} {Q = ApartFromOpen (keys_of a m)} (λ y r. later_open y.standing r.apart) after (behind_in (Stands profile m) (Beside m) before (pending a ∷ after) h).1

  module _ (free : meets_any (keys_of a now) now before ≡ false) where
    abbrev keys : List Key
    keys = keys_of a now

    met_not : Each (MeetsNot keys now) before
    met_not = each_meets_not keys now before free

    apart_before : Each (ApartFromOpen keys) before
    apart_before = each_map {P = MeetsNot keys now} {Q = ApartFromOpen keys} (λ y g. apart_at keys now y.requested y.standing g) before met_not

    -- the maps with what is out before the place alone put back, then what is out behind it
    abbrev half : Maps
    half = cut (out after) m

    keys_half : keys_of a half ≡ keys_of a m
    keys_half = footprint_same (paired a.request a.owned) m half (agree_turned (keys_of a m) half m (agree_clear (keys_of a m) (out after) m (clear_out (keys_of a m) after apart_behind)))

    now_half : now ≡ cut (out before) half
    now_half = sym (cut_more (out before) (out after) all_out m (λ q. out-append before (pending a ∷ after) q))

    keys_now : keys_of a half ≡ keys_of a (cut (out before) half)
    keys_now = footprint_same (paired a.request a.owned) (cut (out before) half) half (agree_clear (keys_of a (cut (out before) half)) (out before) half
        (subst (λ (n : Maps). Clear (keys_of a n) (out before)) now_half (clear_out keys before apart_before)))

    -- the keys are those in the whole maps
    same : keys ≡ keys_of a m
    same = ap (keys_of a) now_half ∙ sym keys_now ∙ keys_half

    pub clear : Clear keys all_out
    clear = clear_out keys (before ++ pending a ∷ after) (each_joined (ApartFromOpen keys) before (pending a ∷ after) apart_before
        (tt, subst (λ (l : List Key). Each (ApartFromOpen l) after) (sym same) apart_behind))

    lead_here : Leads keys m
    lead_here = subst (λ (l : List Key). Leads l m) (sym same) (keys_lead profile.rules.members a m w free_here)

    lead_out : Leads all_out m
    lead_out = leads_out profile m w (before ++ pending a ∷ after) (each_in (Stands profile m) (Beside m) (before ++ pending a ∷ after) h)

    apart_told : (b : BurstRequest) (y : Standing) → Fits profile b m y → meets_at keys now b y ≡ false → UnlessClosed y (AreApart (keys_of b m) keys)
    apart_told b Pending f g = still_apart profile.rules.members b keys all_out m w lead_here lead_out clear (apart_if (keys_of b now) keys g)
    apart_told b (Opened j) f g = apart_left j.keys (keys_of b m) keys f.1.keys (apart_if j.keys keys g)
    apart_told b (Closed reply) f g = tt

    -- in whatever order the keys are listed
    module _ (listed : List Key) (is : SameKeys listed keys) where
      abbrev pub job : Job
      job = record { keys = listed; part = restricted listed now; result = None }

      is_job : IsJobOf profile a m job
      is_job = record {
        keys = λ q. is q ∙ ap (λ (l : List Key). has l q) same;
        part = restricted_alike listed now m (agree_clear listed all_out m (clear_same keys listed all_out (λ q. sym (is q)) clear));
        result = λ o e. absurd cc;
      }

      pub open_maps : cut listed now ≡ cut (out (before ++ open_with a job ∷ after)) m
      open_maps = cut_more listed all_out (out (before ++ open_with a job ∷ after)) m (λ q. out-place before after (open_with a job) q ∙ ap (λ b. has listed q || b) (sym (out-place before after (pending a) q)))

      apart_now : (b : BurstRequest) (y : Standing) → UnlessClosed y (AreApart (keys_of b m) keys) → UnlessClosed y (AreApart (keys_of b m) listed)
      apart_now b Pending g = apart_right (keys_of b m) keys listed (λ q. sym (is q)) g
      apart_now b (Opened j) g = apart_right (keys_of b m) keys listed (λ q. sym (is q)) g
      apart_now b (Closed reply) g = tt

      beside_now : Each (λ y. Beside m y (open_with a job)) before
      beside_now =
          each_both {P = λ y. KeepsApart y.requested m y.standing (Opened job)} {Q = λ y. Beside m y (pending a)} {S = λ y. Beside m y (open_with a job)} (λ y g r. record { differ = r.differ; apart = g }) before
          (each_both {P = Stands profile m} {Q = MeetsNot keys now} {S = λ y. KeepsApart y.requested m y.standing (Opened job)} (λ y f g. apart_now y.requested y.standing (apart_told y.requested y.standing f g)) before
          (each_in (Stands profile m) (Beside m) before (front_in (Stands profile m) (Beside m) before (pending a ∷ after) h)) met_not)
          (earlier_in (Stands profile m) (Beside m) before after (pending a) h)

      pub open_stand : Stand profile m (before ++ open_with a job ∷ after)
      open_stand =
          replaced (Stands profile m) (Stands profile m) (Beside m) (Beside m) Any (λ y u f. f) (λ y z u v r. r) (pending a) (open_with a job)
          (free_here, is_job)
          (λ y u r. record { differ = r.differ; apart = apart_as a m Pending (Opened job) (λ T t. t) y.standing r.apart })
          before after (each_any before) (each_any after) beside_now h
