-- The places of a wave are opened on a board, unless memory is wanting.
use Rattle.std.proofs.Common.{◌≡◌, ℕ, zero, suc, ◌<◌, true, false, List, [], ◌∷◌, take, Option, Some, None, refl, sym, ap, subst, ◌∙◌, arith}
use Rattle.std.specs.Prelude.{slice_get, slice_set}
use Rattle.gw_base.specs.declared.key.Key.{Key}
use Rattle.gw_base.specs.Keys.{has}
use Rattle.gw_base.proofs.NamesInLists.{or_left, or_right}
use Rattle.gw_table.specs.Parts.{restricted, cut}
use Rattle.gw_table.specs.Maps.{Maps}
use Rattle.gw_board.specs.Boards.{Seen, Handed, core_of, with_open, Opens, is_pending_at, meets_here}
use Rattle.gw_board.specs.Carried.{BurstRequest, keys_of}
use Rattle.gw_board.specs.Core.{Core, Place, pending, open_with, meets_at, meets_any, AreKeysOf, MayOpen, after_open}
use Rattle.gw_board.specs.Met.{IsRefused}
use Rattle.gw_board.specs.Planned.{MayOpenEach}
use Rattle.gw_board.specs.Results.{NothingIsOpen}
use Rattle.gw_board.specs.Waves.{wave, MayOpenAll}
use Rattle.gw_board.specs.declared.fault.OpenFault.{OpenFault}
use Rattle.gw_board.specs.declared.fault.OpenFault.TheVariants.{NotPending, Meets, NoMemory}
use Rattle.gw_board.proofs.Together.{wave_may_open}

-- a state and a board with the same maps and places
on_board : (l : List ℕ) (s : Core) (b : Seen) → s.maps ≡ b.maps → s.places ≡ b.places → MayOpenAll s l → MayOpenEach b l
on_board [] s b m p h = tt
on_board (i ∷ later) s b m p h = (
  h.0,
  λ keys listed.
      let now = h.1 keys (λ q. listed q ∙ ap (λ (n : Maps). has (keys_of h.0 n) q) (sym m)) in (
        record {
          pends = ap (λ (l : List Place). slice_get l i) (sym p) ∙ now.0.pends;
          listed = listed;
          free = (λ j. meets_any (keys_of h.0 (sym m j)) (sym m j) (take i (sym p j))) ∙ now.0.free;
        },
        on_board later (after_open s i h.0 keys) (with_open b i h.0 keys)
            (ap (λ (n : Maps). cut keys n) m)
            (λ j. slice_set (p j) i (open_with h.0 (record { keys = keys; part = restricted keys (m j); result = None })))
            now.1,
      ),
)

pub each_of_wave : (b : Seen) → NothingIsOpen (core_of b) → MayOpenEach b (wave (core_of b))
each_of_wave b h = on_board (wave (core_of b)) (core_of b) b refl refl (wave_may_open (core_of b) h)

abbrev asked_at : BurstRequest → Option Place → BurstRequest
asked_at d None = d
asked_at d (Some p) = p.requested

same_asked : (b : Seen) (i : ℕ) (a c : BurstRequest) → slice_get b.places i ≡ Some (pending a) → slice_get b.places i ≡ Some (pending c) → a ≡ c
same_asked b i a c e f = ap (asked_at a) (sym e ∙ f)

pub each_later : (b c : Seen) (i : ℕ) (later : List ℕ) (h : Handed) → MayOpenEach b (i ∷ later) → Opens b i h c → MayOpenEach c later
each_later b c i later h each o =
    let mine : BurstRequest = each.0 in
    let first : MayOpen (core_of b) i mine (keys_of mine b.maps) = (each.1 (keys_of mine b.maps) (λ q. refl)).0 in
    let same : h.requested ≡ mine = same_asked b i h.requested mine o.may.pends first.pends in
    let listed : AreKeysOf mine b.maps h.keys = subst (λ (a : BurstRequest). AreKeysOf a b.maps h.keys) same o.may.listed in
    subst (λ (x : Seen). MayOpenEach x later) (ap (λ (a : BurstRequest). with_open b i a h.keys) (sym same) ∙ sym o.board) (each.1 h.keys listed).1

-- what is met at an earlier place is met
met_before : (keys : List Key) (m : Maps) (places : List Place) (i j : ℕ) → j < i → meets_here keys m (slice_get places j) ≡ true → meets_any keys m (take i places) ≡ true
met_before keys m places zero j l h = absurd (omega arith)
met_before keys m [] (suc i) j l h = absurd cc
met_before keys m (p ∷ ps) (suc i) zero l h = or_left (meets_at keys m p.requested p.standing) (meets_any keys m (take i ps)) h
met_before keys m (p ∷ ps) (suc i) (suc j) l h = or_right (meets_at keys m p.requested p.standing) (meets_any keys m (take i ps)) (met_before keys m ps i j (omega arith) h)

pub not_refused : (b : Seen) (i : ℕ) (later : List ℕ) (fault : OpenFault) → MayOpenEach b (i ∷ later) → IsRefused b i fault → fault ≡ NoMemory
not_refused b i later NotPending each r =
    let first : MayOpen (core_of b) i each.0 (keys_of each.0 b.maps) = (each.1 (keys_of each.0 b.maps) (λ q. refl)).0 in
    absurd (let clash : true ≡ false = ap is_pending_at (sym first.pends) ∙ r in cc)
not_refused b i later (Meets j) each r =
    let first : MayOpen (core_of b) i each.0 (keys_of each.0 b.maps) = (each.1 (keys_of each.0 b.maps) (λ q. refl)).0 in
    let same : r.requested ≡ each.0 = same_asked b i r.requested each.0 r.pends first.pends in
    let met : meets_any (keys_of r.requested b.maps) b.maps (take i b.places) ≡ true = met_before (keys_of r.requested b.maps) b.maps b.places i j r.earlier r.met in
    absurd (let clash : true ≡ false = sym met ∙ ap (λ (a : BurstRequest). meets_any (keys_of a b.maps) b.maps (take i b.places)) same ∙ first.free in cc)
not_refused b i later NoMemory each r = refl
