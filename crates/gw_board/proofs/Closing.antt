-- An open job is drawn, goes back as it was, or is closed with its result.
use Rattle.std.proofs.Common.{◌≡◌, Bool, true, false, cond, List, ◌∷◌, ◌++◌, Option, None, Some, refl, sym, ap, ◌∙◌}
use Rattle.std.specs.Prelude.{◌||◌}
use Rattle.gw_board.specs.declared.profile.Profile.{Profile}
use Rattle.gw_base.specs.declared.key.Key.{Key}
use Rattle.gw_base.specs.declared.key.Key.TheVariants.{Term, Ctx}
use Rattle.gw_base.specs.Keys.{has, AreApart}
use Rattle.gw_board.specs.Texts.{Text}
use Rattle.gw_table.specs.Locality.{KeepsTo}
use Rattle.gw_table.specs.Maps.{Maps, Outcome, term, ctx}
use Rattle.gw_table.specs.Parts.{restricted, cut, overlaid}
use Rattle.gw_table.specs.WellFormed.{AreWellFormed}
use Rattle.gw_table.proofs.Frames.{Apart, agree-apart}
use Rattle.gw_table.proofs.Lookups.{same_maps}
use Rattle.gw_table.proofs.PartLookups.{term-restricted, ctx-restricted, term-overlaid, ctx-overlaid}
use Rattle.gw_reserve.specs.Owned.{AreFreeSlots}
use Rattle.gw_foot.specs.OwnsUnused.{OwnOthers}
use Rattle.gw_board.specs.Carried.{BurstRequest, keys_of, done}
use Rattle.gw_board.specs.Core.{Standing, Pending, Opened, Closed, Place, Job, pending, open_with, closed_with, drawn}
use Rattle.gw_board.proofs.FirstOfAll.{apart_after}
use Rattle.gw_board.proofs.Orders.{each_map, each_both, each_joined, behind_in, earlier_in, replaced}
use Rattle.gw_board.proofs.Outs.{apart_left, apart_right, keeps_same, out-place, ApartAt, ApartFromOpen, Clear, clear_out, laid_on, restricted_alike}
use Rattle.gw_board.proofs.Requests.{keeps, keys_stay, stays_free}
use Rattle.gw_board.proofs.States.{apart_as, Any, each_any, apart_before, apart_behind}
use Rattle.gw_board.specs.Fitting.{Each, out, IsJobOf, Fits, Stands, UnlessClosed, KeepsApart, Beside, Stand}

-- ---- a part that is put back as it was

both : {X : Type 0} (b : Bool) (x : Option X) → cond b (cond b x None) x ≡ x
both true x = refl
both false x = refl

pub laid_back : (k : List Key) (m : Maps) → overlaid k (restricted k m) m ≡ m
laid_back k m = same_maps (overlaid k (restricted k m) m) m
    (λ q. term-overlaid k (restricted k m) m q ∙ ap (λ x. cond (has k (Term q)) x (term m q)) (term-restricted k m q) ∙ both (has k (Term q)) (term m q))
    (λ q. ctx-overlaid k (restricted k m) m q ∙ ap (λ x. cond (has k (Ctx q)) x (ctx m q)) (ctx-restricted k m q) ∙ both (has k (Ctx q)) (ctx m q))

module _ (profile : Profile) (m : Maps) (a : BurstRequest) (j : Job) (before after : List Place) (h : Stand profile m (before ++ open_with a j ∷ after)) where
  pub job_here : AreFreeSlots m a.owned.slots × IsJobOf profile a m j
  job_here = (behind_in (Stands profile m) (Beside m) before (open_with a j ∷ after) h).0

  job : IsJobOf profile a m j
  job = job_here.1

  beside_before : Each (λ y. Beside m y (open_with a j)) before
  beside_before = earlier_in (Stands profile m) (Beside m) before after (open_with a j) h

  -- nothing else that is out is the job's
  pub clear_of_others : Clear j.keys (out (before ++ after))
  clear_of_others = clear_out j.keys (before ++ after) (each_joined (ApartFromOpen j.keys) before after (apart_before profile m a j job.keys before after h) (apart_behind profile m a j job.keys before after h))

  -- entries laid over the maps, while others are out
  pub laid_over : (part : Maps) (new : Place) → ((q : Key) → has (out (before ++ after)) q ≡ has (out (before ++ new ∷ after)) q)
      → overlaid j.keys part (cut (out (before ++ open_with a j ∷ after)) m) ≡ cut (out (before ++ new ∷ after)) (overlaid j.keys part m)
  laid_over part new same = laid_on j.keys (out (before ++ new ∷ after)) (out (before ++ open_with a j ∷ after)) part m
      (λ q. out-place before after (open_with a j) q ∙ ap (λ b. has j.keys q || b) (same q))
      (λ q i. sym (same q) ∙ clear_of_others.none q i)

  -- ---- it is drawn

  pub drawn_stand : Stand profile m (before ++ open_with a (drawn profile a j) ∷ after)
  drawn_stand =
      replaced (Stands profile m) (Stands profile m) (Beside m) (Beside m) Any (λ y u f. f) (λ y z u v r. r) (open_with a j) (open_with a (drawn profile a j))
      (job_here.0, record { keys = job.keys; part = job.part; result = λ o e. cc })
      (λ y u r. record { differ = r.differ; apart = apart_as a m (Opened j) (Opened (drawn profile a j)) (λ T t. t) y.standing r.apart })
      before after (each_any before) (each_any after)
      (each_map {P = λ y. Beside m y (open_with a j)} {Q = λ y. Beside m y (open_with a (drawn profile a j))} (λ y r. record { differ = r.differ; apart = r.apart }) before beside_before)
      h

  -- ---- it goes back

  pub back_stand : Stand profile m (before ++ pending a ∷ after)
  back_stand =
      replaced (Stands profile m) (Stands profile m) (Beside m) (Beside m) Any (λ y u f. f) (λ y z u v r. r) (open_with a j) (pending a)
      job_here.0
      (λ y u r. record { differ = r.differ; apart = apart_as a m (Opened j) Pending (λ T t. t) y.standing r.apart })
      before after (each_any before) (each_any after)
      (each_map {P = λ y. Beside m y (open_with a j)} {Q = λ y. Beside m y (pending a)} (λ y r. record { differ = r.differ; apart = tt }) before beside_before)
      h

  pub back_maps : overlaid j.keys j.part (cut (out (before ++ open_with a j ∷ after)) m) ≡ cut (out (before ++ pending a ∷ after)) m
  back_maps =
      laid_over j.part (pending a) (λ q. sym (out-place before after (pending a) q))
      ∙ ap (cut (out (before ++ pending a ∷ after))) (ap (λ (p : Maps). overlaid j.keys p m) job.part ∙ laid_back j.keys m)

  -- ---- it is closed with its result

  module _ (w : AreWellFormed profile.rules.members m) where
    abbrev new : Maps
    new = (done profile a m).maps

    record IsOther (y : Place) : Type 0 where
      others : OwnOthers a.owned.slots y.requested.owned.slots
      apart : ApartFromOpen j.keys y

    others_before : Each IsOther before
    others_before = each_both {P = λ y. Beside m y (open_with a j)} {Q = ApartFromOpen j.keys} {S = IsOther}
        (λ y r p. record { others = λ k d l i e n same. r.differ i e n k d l (sym same); apart = p })
        before beside_before (apart_before profile m a j job.keys before after h)

    others_behind : Each IsOther after
    others_behind = each_both {P = Beside m (open_with a j)} {Q = ApartFromOpen j.keys} {S = IsOther} (λ y r p. record { others = r.differ; apart = p })
        after (behind_in (Stands profile m) (Beside m) before (open_with a j ∷ after) h).1 (apart_behind profile m a j job.keys before after h)

    rest : Apart (keys_of a m) m new
    rest = let k : KeepsTo (keys_of a m) (done profile a) m = keeps profile a m w job_here.0 in record { terms = k.terms; contexts = k.contexts }

    apart_of : (k : Job) → AreApart j.keys k.keys → AreApart (keys_of a m) k.keys
    apart_of k p = apart_left j.keys (keys_of a m) k.keys job.keys p

    fits_still : (b : BurstRequest) (y : Standing) → OwnOthers a.owned.slots b.owned.slots → ApartAt j.keys y → Fits profile b m y → Fits profile b new y
    fits_still b Pending o p f = stays_free profile a m w job_here.0 b f o
    fits_still b (Opened k) o p f = (
      stays_free profile a m w job_here.0 b f.0 o,
      record {
        keys = λ q. f.1.keys q ∙ ap (λ (l : List Key). has l q) (sym (keys_stay profile a m w job_here.0 b (apart_right (keys_of a m) k.keys (keys_of b m) f.1.keys (apart_of k p))));
        part = f.1.part ∙ restricted_alike k.keys m new (agree-apart (keys_of a m) k.keys m new (apart_of k p) rest);
        result = f.1.result;
      },
    )
    fits_still b (Closed reply) o p f = tt

    unless_on : {T U : Type 0} (x : Standing) → (T → U) → UnlessClosed x T → UnlessClosed x U
    unless_on Pending f t = f t
    unless_on (Opened k) f t = f t
    unless_on (Closed reply) f t = tt

    apart_still : (b : BurstRequest) (x y : Standing) → ApartAt j.keys y → KeepsApart b m x y → KeepsApart b new x y
    apart_still b x Pending p g = tt
    apart_still b x (Opened k) p g = unless_on {T = AreApart (keys_of b m) k.keys} {U = AreApart (keys_of b new) k.keys} x (apart_after profile a b k.keys m w job_here.0 (apart_of k p)) g
    apart_still b x (Closed reply) p g = tt

    pub closed_stand : (reply : Text) → Stand profile new (before ++ closed_with a reply ∷ after)
    closed_stand reply =
        replaced (Stands profile m) (Stands profile new) (Beside m) (Beside new) IsOther
        (λ y o f. fits_still y.requested y.standing o.others o.apart f)
        (λ y z o p r. record { differ = r.differ; apart = apart_still y.requested y.standing z.standing p.apart r.apart })
        (open_with a j) (closed_with a reply) tt
        (λ y o r. record { differ = r.differ; apart = apart_as a new (Opened j) (Closed reply) (λ T t. tt) y.standing (apart_still a (Opened j) y.standing o.apart r.apart) })
        before after others_before others_behind
        (each_map {P = λ y. Beside m y (open_with a j)} {Q = λ y. Beside new y (closed_with a reply)} (λ y r. record { differ = r.differ; apart = tt }) before beside_before)
        h

    module _ (o : Outcome Text) (e : j.result ≡ Some o) where
      kept : KeepsTo j.keys (done profile a) m
      kept = keeps_same (keys_of a m) j.keys (done profile a) m (λ q. sym (job.keys q)) (keeps profile a m w job_here.0)

      result : o ≡ done profile a (restricted j.keys m)
      result = job.result o e ∙ ap (done profile a) job.part

      pub closed_answer : o.answer ≡ (done profile a m).answer
      closed_answer = ap (λ (x : Outcome Text). x.answer) result ∙ kept.answer

      pub closed_maps : overlaid j.keys o.maps (cut (out (before ++ open_with a j ∷ after)) m) ≡ cut (out (before ++ closed_with a o.answer ∷ after)) new
      closed_maps =
          laid_over o.maps (closed_with a o.answer) (λ q. sym (out-place before after (closed_with a o.answer) q))
          ∙ ap (cut (out (before ++ closed_with a o.answer ∷ after))) (ap (λ (x : Outcome Text). overlaid j.keys x.maps m) result ∙ kept.maps)

  -- and its original laid over that gives what was

  module _ (w : AreWellFormed profile.rules.members m) where
    again : {X : Type 0} (b : Bool) (x y : Option X) → (b ≡ false → y ≡ x) → cond b (cond b x None) y ≡ x
    again true x y f = refl
    again false x y f = f refl

    pub closed_back : overlaid j.keys j.part (done profile a m).maps ≡ m
    closed_back =
        let k : KeepsTo j.keys (done profile a) m = keeps_same (keys_of a m) j.keys (done profile a) m (λ q. sym (job.keys q)) (keeps profile a m w job_here.0) in
        let after_it : Maps = (done profile a m).maps in
        ap (λ (p : Maps). overlaid j.keys p after_it) job.part
        ∙ same_maps (overlaid j.keys (restricted j.keys m) after_it) m
        (λ q. term-overlaid j.keys (restricted j.keys m) after_it q ∙ ap (λ x. cond (has j.keys (Term q)) x (term after_it q)) (term-restricted j.keys m q) ∙ again (has j.keys (Term q)) (term m q) (term after_it q) (k.terms q))
        (λ q. ctx-overlaid j.keys (restricted j.keys m) after_it q ∙ ap (λ x. cond (has j.keys (Ctx q)) x (ctx after_it q)) (ctx-restricted j.keys m q) ∙ again (has j.keys (Ctx q)) (ctx m q) (ctx after_it q) (k.contexts q))
