-- All that is open is closed by lawful events, whatever the choice.
use Rattle.std.proofs.lemmas.Grind.{common_steps}
use Rattle.std.proofs.Common.{◌≡◌, ℕ, ◌+◌, Bool, true, false, List, [], ◌∷◌, ◌++◌, length, Option, None, Some, refl, sym, ap, subst, ◌∙◌, arith, append-nil}
use Rattle.std.specs.Prelude.{slice_get, slice_set}
use Rattle.std.specs.List.{list_any, range_with_len}
use Rattle.std.proofs.lemmas.List.{length-append}
use Rattle.gw_board.specs.declared.profile.Profile.{Profile}
use Rattle.gw_board.specs.Texts.{Text}
use Rattle.gw_table.specs.Maps.{Outcome}
use Rattle.gw_board.specs.Carried.{BurstRequest}
use Rattle.gw_board.specs.Core.{Standing, Pending, Opened, Closed, Place, Job, Core, pending, open_with, closed_with, after_close, after_return, Close, Return, Events, none, more}
use Rattle.gw_board.specs.Endings.{job_ended, standing_ended, place_ended, places_ended, all_ended}
use Rattle.gw_board.specs.Results.{is_open, NothingIsOpen}
use Rattle.gw_board.proofs.Slices.{item_at, item_set, one_more}

abbrev IsShut : List Place → Type 0
IsShut places = list_any (λ p. is_open p.standing) places ≡ false

shut_more : (front : List Place) (p : Place) → IsShut front → is_open p.standing ≡ false → IsShut (front ++ p ∷ [])
shut_more front p h e = grind (arith, common_steps)

-- some events, after which nothing is open
pub record Ends (profile : Profile) (s t : Core) : Type 0 where
  pub events : Events profile s t
  pub shut : NothingIsOpen t

module _ (profile : Profile) where
  -- a place is past: at most one event, and it is not open
  record Passes (s u : Core) (front rest : List Place) : Type 0 where
    new : Place
    shut : is_open new.standing ≡ false
    places : u.places ≡ front ++ new ∷ rest
    then : {t : Core} → Events profile u t → Events profile s t

  module _ (s : Core) (front rest : List Place) (i : ℕ) (a : BurstRequest) (j : Job) (n : length front ≡ i) (e : s.places ≡ front ++ open_with a j ∷ rest) where
    stands : slice_get s.places i ≡ Some (open_with a j)
    stands = (λ k. slice_get (e k) (sym n k)) ∙ item_at front rest (open_with a j)

    replaced : (new : Place) → slice_set s.places i new ≡ front ++ new ∷ rest
    replaced new = (λ k. slice_set (e k) (sym n k) new) ∙ item_set front rest (open_with a j) new

    returns : Passes s (after_return s i a j) front rest
    returns = record { new = pending a; shut = refl; places = replaced (pending a); then = λ later. more (Return i a j (record { stands = stands }) refl) later }

    closes : (result : Outcome Text) → j.result ≡ Some result → Passes s (after_close s i a j result) front rest
    closes result d = record { new = closed_with a result.answer; shut = refl; places = replaced (closed_with a result.answer); then = λ later. more (Close i a j result (record { stands = stands; drawn = d }) refl) later }

    job_passes : (chosen : Bool) (o : Option (Outcome Text)) → j.result ≡ o → Passes s (job_ended s i a j chosen o) front rest
    job_passes chosen None d = returns
    job_passes true (Some result) d = closes result d
    job_passes false (Some result) d = returns

  stays : (s : Core) (front rest : List Place) (p : Place) → s.places ≡ front ++ p ∷ rest → is_open p.standing ≡ false → Passes s s front rest
  stays s front rest p e h = record { new = p; shut = h; places = e; then = λ later. later }

  passes : (s : Core) (front rest : List Place) (i : ℕ) (p : Place) → length front ≡ i → s.places ≡ front ++ p ∷ rest → (chosen : Bool) (x : Standing) → p.standing ≡ x → Passes s (standing_ended s i p.requested chosen x) front rest
  passes s front rest i p n e chosen Pending f = stays s front rest p e (ap (λ (x : Standing). is_open x) f)
  passes s front rest i p n e chosen (Opened j) f =
      job_passes s front rest i p.requested j n (e ∙ (λ k. front ++ record { requested = p.requested; standing = f k } ∷ rest)) chosen j.result refl
  passes s front rest i p n e chosen (Closed reply) f = stays s front rest p e (ap (λ (x : Standing). is_open x) f)

  module _ (choice : ℕ → Bool) where
    rest_ends : (rest front : List Place) (i : ℕ) (s : Core) → length front ≡ i → s.places ≡ front ++ rest → IsShut front → Ends profile s (places_ended choice (range_with_len i (length rest)) s)
    rest_ends [] front i s n e h = record { events = none; shut = subst IsShut (sym (e ∙ append-nil front)) h }
    rest_ends (p ∷ ps) front i s n e h =
        let here : slice_get s.places i ≡ Some p = (λ k. slice_get (e k) (sym n k)) ∙ item_at front ps p in
        let u : Core = place_ended s i (choice i) (Some p) in
        let one : Passes s u front ps = passes s front ps i p n e (choice i) p.standing refl in
        let count : length (front ++ one.new ∷ []) ≡ i + 1 = omega (arith, length-append front (one.new ∷ []), n) in
        let later : Ends profile u (places_ended choice (range_with_len (i + 1) (length ps)) u) =
        rest_ends ps (front ++ one.new ∷ []) (i + 1) u count (one.places ∙ one_more front ps one.new) (shut_more front one.new h one.shut) in
        subst (λ (o : Option Place). Ends profile s (places_ended choice (range_with_len (i + 1) (length ps)) (place_ended s i (choice i) o))) (sym here)
        (record { events = one.then later.events; shut = later.shut })

    pub all_end : (s : Core) → Ends profile s (all_ended choice s)
    all_end s = rest_ends s.places [] 0 s refl refl refl

-- some events, and then others
pub joined : {profile : Profile} {s t u : Core} → Events profile s t → Events profile t u → Events profile s u
joined none later = later
joined (more event rest) later = more event (joined rest later)
