-- At the start every place is pending, and nothing is out.
use Rattle.std.proofs.Common.{◌≡◌, ℕ, ◌+◌, ◌<◌, false, List, [], ◌∷◌, ◌++◌, map, None, length, refl, sym, ap, subst, ◌∙◌, arith, get_or-append-add}
use Rattle.std.specs.Prelude.{◌≢◌, All, AllPairs}
use Rattle.std.proofs.lemmas.List.{length-append, get_or_append_left, get_or_default}
use Rattle.gw_board.specs.declared.profile.Profile.{Profile}
use Rattle.gw_base.specs.declared.key.Key.{Key}
use Rattle.gw_base.specs.Keys.{has}
use Rattle.gw_board.specs.Texts.{Text}
use Rattle.gw_table.specs.Maps.{Maps, term, Outcome}
use Rattle.gw_table.specs.Parts.{cut}
use Rattle.gw_table.specs.Reserved.{slot_name}
use Rattle.gw_table.specs.Unused.{owned, AreUnused}
use Rattle.gw_tx.proofs.Unowned.{front_unused}
use Rattle.gw_foot.specs.OwnsUnused.{OwnOthers}
use Rattle.gw_board.specs.Carried.{BurstRequest, done, carried}
use Rattle.gw_board.specs.Core.{pending}
use Rattle.gw_board.specs.Results.{carried_on, slots_of}
use Rattle.gw_board.proofs.Outs.{cut_none}
use Rattle.gw_board.specs.Fitting.{Each, out, Beside, Stand}

-- ---- slots that are distinct and unused

-- those of the front are others than those behind it
others_behind : (front later : List ℕ) → AllPairs (λ a b. a ≢ b) (front ++ later) → All (λ t. All (λ s. s ≢ t) front) later
others_behind front later apart k d h i e l same =
    apart i (length front + k) d (omega (arith, l)) (omega (arith, length-append front later, h))
    (get_or_append_left front later d i l ∙ get_or_default front i d e l ∙ same ∙ sym (get_or-append-add front later k d))

pairs_behind : (front later : List ℕ) → AllPairs (λ a b. a ≢ b) (front ++ later) → AllPairs (λ a b. a ≢ b) later
pairs_behind front later apart i j d a b same = grind (arith, length-append, get_or-append-add)

all_behind : (P : ℕ → Type 0) (front later : List ℕ) → All P (front ++ later) → All P later
all_behind P front later a k d h = subst P (get_or-append-add front later k d) (a (length front + k) d (omega (arith, length-append front later, h)))

all_front : (P : ℕ → Type 0) (front later : List ℕ) → All P (front ++ later) → All P front
all_front P front later a k d h = subst P (get_or_append_left front later d k h) (a k d (omega (arith, length-append front later)))

pub behind_unused : (m : Maps) (front later : List ℕ) → AreUnused m [] (front ++ later) → AreUnused m [] later
behind_unused m front later u = record {
  numbers_apart = u.numbers_apart;
  no_contexts = u.no_contexts;
  slots_apart = pairs_behind front later u.slots_apart;
  no_terminations = all_behind (λ s. term m (slot_name s) ≡ None) front later u.no_terminations;
  slots_small = all_behind (λ s. s < 4096) front later u.slots_small;
}

each_other : (mine : List ℕ) (more : List BurstRequest) → All (λ t. All (λ s. s ≢ t) mine) (slots_of more) → Each (λ b. All (λ t. All (λ s. s ≢ t) mine) (owned b.owned.slots)) more
each_other mine [] h = tt
each_other mine (b ∷ more) h =
    (all_front (λ t. All (λ s. s ≢ t) mine) (owned b.owned.slots) (slots_of more) h, each_other mine more (all_behind (λ t. All (λ s. s ≢ t) mine) (owned b.owned.slots) (slots_of more) h))

each_pending : (m : Maps) (a : BurstRequest) (more : List BurstRequest) → Each (λ b. OwnOthers a.owned.slots b.owned.slots) more → Each (Beside m (pending a)) (map pending more)
each_pending m a [] h = tt
each_pending m a (b ∷ more) h = (record { differ = h.0; apart = tt }, each_pending m a more h.1)

-- ---- the start

pub stand_start : (profile : Profile) (m : Maps) (requested : List BurstRequest) → AreUnused m [] (slots_of requested) → Stand profile m (map pending requested)
stand_start profile m [] u = tt
stand_start profile m (a ∷ more) u =
    let mine : List ℕ = owned a.owned.slots in
    let theirs : List ℕ = slots_of more in
    (front_unused m mine theirs u, each_pending m a more (each_other mine more (others_behind mine theirs u.slots_apart)), stand_start profile m more (behind_unused m mine theirs u))

pub nothing_out : (requested : List BurstRequest) (q : Key) → has (out (map pending requested)) q ≡ false
nothing_out [] q = refl
nothing_out (a ∷ more) q = nothing_out more q

pub start_maps : (requested : List BurstRequest) (m : Maps) → m ≡ cut (out (map pending requested)) m
start_maps requested m = sym (cut_none (out (map pending requested)) m (nothing_out requested))

pub carried_start : (profile : Profile) (requested : List BurstRequest) (m : Maps) → carried_on profile (map pending requested) m ≡ carried profile requested m
carried_start profile [] m = refl
carried_start profile (a ∷ more) m = ap (λ (o : Outcome (List Text)). record { maps = o.maps; answer = (done profile a m).answer ∷ o.answer }) (carried_start profile more (done profile a m).maps)
