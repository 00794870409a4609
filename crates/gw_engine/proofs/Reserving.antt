-- What new requests own, one after another.
use Rattle.std.proofs.Common.{◌≡◌, ℕ, List, [], ◌∷◌, ◌++◌, map, drop, Option, None, Some, refl, sym, ap, subst, ◌∙◌, append_assoc, append-nil}
use Rattle.std.specs.Option.{option_to_list}
use Rattle.gw_reserve.specs.Ids.{Ids}
use Rattle.gw_msg.specs.declared.message.Request.{Request}
use Rattle.gw_reserve.specs.declared.owned.Owned.{Owned}
use Rattle.gw_reserve.specs.declared.owners.Cursors.{Cursors}
use Rattle.gw_reserve.specs.Owned.{OwnedAction, with_ids}
use Rattle.gw_reserve.specs.Owners.{ids_of, number_choices, slot_choices, owners_of, owners, owned_slots, new_cursors}
use Rattle.gw_reserve.specs.Reservations.{Reserving, begun, numbers_left, slots_left}
use Rattle.gw_reserve.proofs.Choices.{owned_choices}
use Rattle.gw_table.specs.Maps.{Maps}
use Rattle.gw_table.specs.Unused.{owned}
use Rattle.gw_engine.specs.declared.items.Sent.{Sent}
use Rattle.gw_board.specs.Results.{slots_of}
use Rattle.gw_board.specs.declared.requested.BurstRequest.{BurstRequest}
use Rattle.gw_engine.specs.Bursts.{cursors_of}
use Rattle.gw_engine.specs.Owning.{IsOwned, IsReserved}
use Rattle.gw_engine.specs.Phases.{requests_of, ids_in, paired_job, paired_requests, sent_of, AreJobs}
use Rattle.gw_engine.specs.State.{GatewayValue}
use Rattle.gw_engine.proofs.Cursors.{cursors-cons}

-- what these requests own of what is left
abbrev pub left_for : Maps → Reserving → List Sent → List Ids
left_for m v new = owners_of (requests_of new) (numbers_left m v) (slots_left m v)

-- with those of the requests that are left, the jobs and the cursors are those of all
pub record IsReserving (g : GatewayValue) (all left : List Sent) (v : Reserving) (jobs : List BurstRequest) : Type 0 where
  pub sent_are : map sent_of jobs ++ left ≡ all
  pub jobs_are : map paired_job jobs ++ paired_requests left (left_for g.state.maps v left) ≡ paired_requests all (ids_in g all)
  pub slots_are : slots_of jobs ++ owned_slots (left_for g.state.maps v left) ≡ owned_slots (ids_in g all)
  pub cursors_are : new_cursors v.cursors (left_for g.state.maps v left) ≡ new_cursors (cursors_of g.state) (ids_in g all)

-- before the first
pub begins : (g : GatewayValue) (v : Reserving) (all : List Sent) (jobs : List BurstRequest) → v ≡ begun g.settings.contexts g.settings.slots (cursors_of g.state) → jobs ≡ [] → IsReserving g all all v jobs
unfolding owners
begins g v all jobs is none = record {
  sent_are = ap (λ (l : List BurstRequest). map sent_of l ++ all) none;
  jobs_are = λ i. map paired_job (none i) ++ paired_requests all (left_for g.state.maps (is i) all);
  slots_are = λ i. slots_of (none i) ++ owned_slots (left_for g.state.maps (is i) all);
  cursors_are = λ i. new_cursors (is i).cursors (left_for g.state.maps (is i) all);
}

map-push : {A B : Type 0} (f : A → B) (xs : List A) (x : A) (rest : List B) → map f (xs ++ x ∷ []) ++ rest ≡ map f xs ++ f x ∷ rest
map-push f [] x rest = refl
map-push f (y ∷ ys) x rest = ap (λ l. f y ∷ l) (map-push f ys x rest)

slots-push : (jobs : List BurstRequest) (j : BurstRequest) (rest : List ℕ) → slots_of (jobs ++ j ∷ []) ++ rest ≡ slots_of jobs ++ (owned j.owned.slots ++ rest)
slots-push [] j rest = ap (λ (l : List ℕ). l ++ rest) (append-nil (owned j.owned.slots))
slots-push (i ∷ jobs) j rest =
    append_assoc (owned i.owned.slots) (slots_of (jobs ++ j ∷ [])) rest
    ∙ ap (λ (l : List ℕ). owned i.owned.slots ++ l) (slots-push jobs j rest)
    ∙ sym (append_assoc (owned i.owned.slots) (slots_of jobs) (owned j.owned.slots ++ rest))

pub goes_on : (g : GatewayValue) (all left rest : List Sent) (x : Sent) (v w : Reserving) (o : Owned) (jobs more : List BurstRequest) (j : BurstRequest) → left ≡ x ∷ rest → IsReserving g all left v jobs → IsOwned g.state.maps x.request v w o → j ≡ record { mid = x.mid; request = x.request; owned = o } → more ≡ jobs ++ j ∷ [] → IsReserving g all rest w more
goes_on g all left rest x v w o jobs more j split c own is pushed =
    let m = g.state.maps in
    let ids : Ids = ids_of x.request (numbers_left m v) (slots_left m v) in
    let behind : left_for m w rest ≡ owners_of (requests_of rest) (drop (number_choices x.request) (numbers_left m v)) (drop (slot_choices x.request) (slots_left m v)) = λ i. owners_of (requests_of rest) (own.numbers i) (own.slots i) in
    let first : ids ∷ left_for m w rest ≡ left_for m v (x ∷ rest) = ap (λ (l : List Ids). ids ∷ l) behind in
    let job : BurstRequest = record { mid = x.mid; request = x.request; owned = o } in
    let all_jobs : more ≡ jobs ++ job ∷ [] = pushed ∙ ap (λ (y : BurstRequest). jobs ++ y ∷ []) is in
    let theirs : List OwnedAction → List (Request × List OwnedAction) → List (Request × List OwnedAction) = λ p l. map paired_job jobs ++ (x.request, p) ∷ l in
    record {
      sent_are = ap (λ (l : List BurstRequest). map sent_of l ++ rest) all_jobs ∙ map-push sent_of jobs job rest ∙ ap (λ (l : List Sent). map sent_of jobs ++ l) (sym split) ∙ c.sent_are;
      jobs_are = ap (λ (l : List BurstRequest). map paired_job l ++ paired_requests rest (left_for m w rest)) all_jobs
          ∙ map-push paired_job jobs job (paired_requests rest (left_for m w rest))
          ∙ ap (λ (p : List OwnedAction). theirs p (paired_requests rest (left_for m w rest))) own.pairs
          ∙ ap (λ (l : List Ids). theirs (with_ids x.request ids) (paired_requests rest l)) behind
          ∙ ap (λ (l : List Sent). map paired_job jobs ++ paired_requests l (left_for m v l)) (sym split) ∙ c.jobs_are;
      slots_are = ap (λ (l : List BurstRequest). slots_of l ++ owned_slots (left_for m w rest)) all_jobs
          ∙ slots-push jobs job (owned_slots (left_for m w rest))
          ∙ ap (λ (s : List ℕ). slots_of jobs ++ (s ++ owned_slots (left_for m w rest))) (own.slots_are ∙ sym (owned_choices (slot_choices x.request) (slots_left m v)))
          ∙ ap (λ (l : List Ids). slots_of jobs ++ owned_slots l) first
          ∙ ap (λ (l : List Sent). slots_of jobs ++ owned_slots (left_for m v l)) (sym split) ∙ c.slots_are;
      cursors_are = ap (λ (k : Cursors). new_cursors k (left_for m w rest)) own.cursors
          ∙ sym (cursors-cons v.cursors ids (left_for m w rest))
          ∙ ap (λ (l : List Ids). new_cursors v.cursors l) first
          ∙ ap (λ (l : List Sent). new_cursors v.cursors (left_for m v l)) (sym split) ∙ c.cursors_are;
    }

-- one item on
pub item_on : (g : GatewayValue) (all left rest : List Sent) (o : Option Sent) (v w : Reserving) (jobs more : List BurstRequest) → left ≡ option_to_list o ++ rest → IsReserving g all left v jobs → IsReserved g.state.maps o v w jobs more → IsReserving g all rest w more
item_on g all left rest None v w jobs more split c r = subst (λ (k : Reserving). IsReserving g all rest k more) (sym r.0) (subst (λ (l : List BurstRequest). IsReserving g all rest v l) (sym r.1) (subst (λ (l : List Sent). IsReserving g all l v jobs) split c))
item_on g all left rest (Some x) v w jobs more split c r =
    let job : BurstRequest = r.0 in
    let is : sent_of job ≡ x = r.1 in
    goes_on g all left rest x v w job.owned jobs more job split c r.2 (λ i. record { mid = (is i).mid; request = (is i).request; owned = job.owned }) r.3

-- none is left
module _ (g : GatewayValue) (all left : List Sent) (v : Reserving) (jobs : List BurstRequest) (none : left ≡ []) (c : IsReserving g all left v jobs) where
  pub are_jobs : AreJobs all (ids_in g all) jobs
  are_jobs = record {
    sent = sym (append-nil (map sent_of jobs)) ∙ ap (λ (l : List Sent). map sent_of jobs ++ l) (sym none) ∙ c.sent_are;
    pairs = sym (append-nil (map paired_job jobs)) ∙ ap (λ (l : List Sent). map paired_job jobs ++ paired_requests l (left_for g.state.maps v l)) (sym none) ∙ c.jobs_are;
    slots = sym (append-nil (slots_of jobs)) ∙ ap (λ (l : List Sent). slots_of jobs ++ owned_slots (left_for g.state.maps v l)) (sym none) ∙ c.slots_are;
  }

  pub cursors_end : v.cursors ≡ new_cursors (cursors_of g.state) (ids_in g all)
  cursors_end = ap (λ (l : List Sent). new_cursors v.cursors (left_for g.state.maps v l)) (sym none) ∙ c.cursors_are
