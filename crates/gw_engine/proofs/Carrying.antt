-- What a board comes to is what the phases say: the transactions one after another, and the texts of their replies.
use Rattle.std.proofs.Common.{◌≡◌, ℕ, ◌+◌, ◌<◌, false, List, [], ◌∷◌, ◌++◌, map, length, drop, get_or, Result, Ok, Err, IfOk, refl, sym, ap, ◌∙◌, append_assoc, arith}
use Rattle.std.specs.Prelude.{OnOk}
use Rattle.std.specs.List.{list_any}
use Rattle.gw_base.specs.declared.command_words.Rules.{Rules}
use Rattle.gw_board.specs.Boards.{Seen, core_of, requested_in, begun_board, IsSameBurst}
use Rattle.gw_board.specs.Carried as board
use Rattle.gw_board.specs.Core.{Place, pending}
use Rattle.gw_board.specs.Results.{is_open, NothingIsOpen, slots_of}
use Rattle.gw_board.specs.Texts.{Text}
use Rattle.gw_board.specs.declared.requested.BurstRequest.{BurstRequest}
use Rattle.gw_board.specs.declared.profile.Profile.{Profile}
use Rattle.gw_kept.specs.declared.entry.Entry.{Entry}
use Rattle.gw_reserve.specs.Owned.{paired}
use Rattle.gw_table.proofs.Folding.{rest_of}
use Rattle.gw_table.specs.Maps.{Maps}
use Rattle.gw_table.specs.Stored.{Stored, maps_of}
use Rattle.gw_table.specs.Unused.{owned, AreUnused}
use Rattle.gw_table.specs.WellFormed.{AreWellFormed}
use Rattle.gw_tx.specs.Transactions.{paired_transaction}
use Rattle.gw_tx.proofs.Unowned.{front_unused, paired_later_free, paired_whole}
use Rattle.gw_engine.specs.Carried.{carried}
use Rattle.gw_engine.specs.Phases.{sent_of, done_by, entry_of, entries_of}
use Rattle.gw_engine.specs.Replies.{entries_with}

-- the maps are those of the transactions
pub board_maps : (profile : Profile) (jobs : List BurstRequest) (m : Maps) → (board.carried profile jobs m).maps ≡ (done_by profile.rules jobs m).maps
unfolding carried
board_maps profile [] m = refl
board_maps profile (j ∷ more) m = board_maps profile more (paired_transaction profile.rules j.request (paired j.request j.owned) m).maps

-- with the texts of their replies, each request has the pair that is kept of it
pub board_entries : (profile : Profile) (jobs : List BurstRequest) (m : Maps) → entries_with jobs (board.carried profile jobs m).answer ≡ entries_of profile.mid (map sent_of jobs) (done_by profile.rules jobs m).answer
unfolding carried
board_entries profile [] m = refl
board_entries profile (j ∷ more) m =
    let now = paired_transaction profile.rules j.request (paired j.request j.owned) m in
    ap (λ (l : List Entry). entry_of profile.mid (sent_of j, now.answer) ∷ l) (board_entries profile more now.maps)

-- the pairs hold these texts
pub texts_held : (profile : Profile) (jobs : List BurstRequest) (m : Maps) → map (λ (e : Entry). e.bytes) (entries_with jobs (board.carried profile jobs m).answer) ≡ (board.carried profile jobs m).answer
texts_held profile [] m = refl
texts_held profile (j ∷ more) m =
    let now = board.done profile j m in
    ap (λ (l : List Text). now.answer ∷ l) (texts_held profile more now.maps)

-- well-formed tables stay so
pub stay_whole : (rules : Rules) (jobs : List BurstRequest) (m : Maps) → AreWellFormed rules.members m → AreUnused m [] (slots_of jobs) → AreWellFormed rules.members (done_by rules jobs m).maps
unfolding carried
stay_whole rules [] m w u = w
stay_whole rules (j ∷ more) m w u =
    stay_whole rules more (paired_transaction rules j.request (paired j.request j.owned) m).maps
    (paired_whole rules j.request j.owned m (front_unused m (owned j.owned.slots) (slots_of more) u) w)
    (paired_later_free rules j.request j.owned m (slots_of more) u)

-- ---- pairs, one after another

pub none_left : (jobs : List BurstRequest) → entries_with jobs [] ≡ []
none_left [] = refl
none_left (j ∷ more) = refl

pub one_text : (jobs : List BurstRequest) (n : ℕ) (j : BurstRequest) (t : Text) (texts rest : List Text) (e : Entry) (entries more : List Entry) → n < length jobs → j ≡ get_or jobs n j → texts ≡ t ∷ rest → e ≡ record { mid = j.mid; id = j.request.id; bytes = t } → more ≡ entries ++ e ∷ []
    → more ++ entries_with (drop (n + 1) jobs) rest ≡ entries ++ entries_with (drop n jobs) texts
one_text jobs n j t texts rest e entries more h is split pair pushed =
    ap (λ (l : List Entry). l ++ entries_with (drop (n + 1) jobs) rest) pushed
    ∙ append_assoc entries (e ∷ []) (entries_with (drop (n + 1) jobs) rest)
    ∙ ap (λ (x : Entry). entries ++ x ∷ entries_with (drop (n + 1) jobs) rest) pair
    ∙ (λ i. entries ++ entries_with (sym (rest_of jobs n j j h is) i) (sym split i))

-- ---- a board from its start to its end

pending_shut : (jobs : List BurstRequest) → list_any (λ (p : Place). is_open p.standing) (map pending jobs) ≡ false
pending_shut [] = refl
pending_shut (j ∷ more) = pending_shut more

asked_pending : (jobs : List BurstRequest) → requested_in (map pending jobs) ≡ jobs
asked_pending [] = refl
asked_pending (j ∷ more) = ap (λ (l : List BurstRequest). j ∷ l) (asked_pending more)

pub length_carried : (profile : Profile) (jobs : List BurstRequest) (m : Maps) → length (board.carried profile jobs m).answer ≡ length jobs
length_carried profile [] m = refl
length_carried profile (j ∷ more) m = let rest : length (board.carried profile more (board.done profile j m).maps).answer ≡ length more = length_carried profile more (board.done profile j m).maps in omega (arith, rest)

module _ (profile : Profile) (jobs : List BurstRequest) (s : Stored) (b : Seen) (begun : b ≡ begun_board profile jobs s) where
  pub none_yet : NothingIsOpen (core_of b)
  none_yet = ap (λ (x : Seen). list_any (λ (p : Place). is_open p.standing) x.places) begun ∙ pending_shut jobs

  -- whatever was opened and closed since
  pub comes_to : (d : Seen) → IsSameBurst b d → board.carried d.profile (requested_in d.places) (maps_of d.start) ≡ board.carried profile jobs (maps_of s)
  comes_to d same =
      let manners : d.profile ≡ profile = same.profile ∙ ap (λ (x : Seen). x.profile) begun in
      let requested : requested_in d.places ≡ jobs = same.requested ∙ ap (λ (x : Seen). requested_in x.places) begun ∙ asked_pending jobs in
      let start : d.start ≡ s = same.start ∙ ap (λ (x : Seen). x.start) begun in
      λ i. board.carried (manners i) (requested i) (maps_of (start i))

pub ok_with : {T E Q : Type 0} {P R : T → Type 0} (r : Result T E) → IfOk r P → OnOk r Q → ((x : T) → P x → Q → R x) → IfOk r R
ok_with (Ok x) p q f = f x p q
ok_with (Err e) p q f = tt
