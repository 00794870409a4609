-- What comes of the phases of a burst, one behind the other.
use Rattle.std.proofs.Common.{◌≡◌, ℕ, ◌≤◌, List, [], map, length, refl, sym, ap, subst, ◌∙◌, arith}
use Rattle.std.specs.List.{All, AllZip}
use Rattle.gw_cmd.specs.KeptForms.{AreKept}
use Rattle.gw_kept.proofs.Changed.{few_after, most_after, distinct_after}
use Rattle.gw_kept.specs.Changes.{Change, changes_of, kept_after, AreNew}
use Rattle.gw_kept.specs.declared.change.Turn.{Turn}
use Rattle.gw_kept.specs.declared.entry.Entry.{Entry}
use Rattle.gw_msg.specs.declared.message.Request.{Request}
use Rattle.gw_reply.specs.declared.reply.TxReply.{TxReply}
use Rattle.gw_reserve.proofs.Fresh.{are_fresh, free_unused}
use Rattle.gw_reserve.specs.Owned.{OwnedAction}
use Rattle.gw_reserve.specs.Owners.{owners, AreWithin}
use Rattle.gw_reserve.specs.declared.owners.Cursors.{Cursors}
use Rattle.gw_table.specs.Maps.{Maps, Outcome}
use Rattle.gw_table.specs.Unused.{AreUnused}
use Rattle.gw_table.specs.WellFormed.{AreWellFormed}
use Rattle.gw_engine.specs.declared.items.Sent.{Sent}
use Rattle.gw_engine.specs.declared.items.BurstItem.{BurstItem}
use Rattle.gw_engine.specs.declared.datagram.Datagram.{Datagram}
use Rattle.gw_engine.specs.declared.reading.ReadDatagram.{ReadDatagram}
use Rattle.gw_board.specs.Results.{slots_of}
use Rattle.gw_board.specs.declared.requested.BurstRequest.{BurstRequest}
use Rattle.gw_engine.specs.Bursts.{cursors_of, burst_outcome}
use Rattle.gw_engine.specs.Carried.{carried}
use Rattle.gw_engine.specs.Forms.{AreInForm}
use Rattle.gw_engine.specs.Phases.{table_of, new_of, turns_of, requests_of, ids_in, paired_job, paired_requests, AreJobs, cursors_behind, done_by, kept_of, entries_of, texts_of, answers_of, adopted, phased, IsOutcome}
use Rattle.gw_engine.specs.Readable.{IsAnswerTo, questions}
use Rattle.gw_engine.specs.State.{State, GatewayValue, IsKeptReply, IsWellFormed}
use Rattle.gw_engine.proofs.Answered.{all_answered}
use Rattle.gw_engine.proofs.Carrying.{stay_whole}
use Rattle.gw_engine.proofs.Phases.{phased_answers, phased_state, phased_new}

-- ---- what jobs own is unused at the burst's start

pub jobs_unused : (g : GatewayValue) (new : List Sent) (jobs : List BurstRequest) → AreJobs new (ids_in g new) jobs → IsWellFormed g.settings g.state → g.settings.slots ≤ 4096 → AreUnused g.state.maps [] (slots_of jobs)
unfolding owners
jobs_unused g new jobs are w small =
    let m = g.state.maps in
    let fresh = (are_fresh m (cursors_of g.state) g.settings.contexts g.settings.slots (requests_of new) (record { context = w.context_cursor; slot = w.slot_cursor }) small).unused in
    let free = free_unused m g.state.slot_cursor g.settings.slots w.slot_cursor small in
    subst (λ (l : List ℕ). AreUnused m [] l) (sym are.slots)
    (record { numbers_apart = free.numbers_apart; no_contexts = free.no_contexts; slots_apart = fresh.slots_apart; no_terminations = fresh.no_terminations; slots_small = fresh.slots_small })

-- ---- what the phases gave

pub record ComesOf (g : GatewayValue) (messages : List ReadDatagram) (items : List BurstItem) (jobs : List BurstRequest) (cursors : Cursors) (m : Maps) (turns : List Turn) (entries : List Entry) (answers : List Datagram) : Type 0 where
  pub items_are : items ≡ table_of g messages
  pub jobs_are : AreJobs (new_of g messages) (ids_in g (new_of g messages)) jobs
  pub cursors_are : cursors ≡ cursors_behind g messages
  pub maps_are : m ≡ (done_by g.settings.rules jobs g.state.maps).maps
  pub entries_are : entries ≡ kept_of g jobs
  pub turns_are : turns ≡ turns_of g messages
  pub answers_are : answers ≡ answers_of g.settings.mid g.state.kept (texts_of entries) items
  pub whole : AreWellFormed g.settings.rules.members m
  pub within : AreWithin g.settings.contexts g.settings.slots cursors

-- the pairs of the new requests
abbrev new_entries : GatewayValue → List ReadDatagram → List Entry
new_entries g messages = entries_of g.settings.mid (new_of g messages) (carried g.settings.rules (paired_requests (new_of g messages) (ids_in g (new_of g messages))) g.state.maps).answer

pub outcome : (g : GatewayValue) (messages : List ReadDatagram) (items : List BurstItem) (jobs : List BurstRequest) (cursors : Cursors) (m : Maps) (turns : List Turn) (entries : List Entry) (answers : List Datagram) → IsWellFormed g.settings g.state → g.settings.slots ≤ 4096 → AreInForm messages → ComesOf g messages items jobs cursors m turns entries answers
    → IsOutcome g messages answers m cursors (changes_of turns entries)
unfolding phased
outcome g messages items jobs cursors m turns entries answers w small forms c =
    let bounded : length g.state.kept.pairs ≤ g.state.kept.most = omega (arith, w.kept, w.most) in
    let done : carried g.settings.rules (map paired_job jobs) g.state.maps ≡ carried g.settings.rules (paired_requests (new_of g messages) (ids_in g (new_of g messages))) g.state.maps = ap (λ (l : List (Request × List OwnedAction)). carried g.settings.rules l g.state.maps) c.jobs_are.pairs in
    let kept : entries ≡ new_entries g messages = c.entries_are ∙ (λ i. entries_of g.settings.mid (c.jobs_are.sent i) (done i).answer) in
    let changes : List Change = changes_of turns entries in
    let changed : changes ≡ (phased g messages).changes = λ i. changes_of (c.turns_are i) (kept i) in
    let are : answers ≡ (burst_outcome g messages).answers = c.answers_are ∙ (λ i. answers_of g.settings.mid g.state.kept (texts_of (kept i)) (c.items_are i)) ∙ phased_answers g messages w.distinct in
    let state : adopted g.state m cursors changes ≡ (burst_outcome g messages).after.state = (λ i. adopted g.state ((c.maps_are ∙ ap (λ (o : Outcome (List TxReply)). o.maps) done) i) (c.cursors_are i) (changed i)) ∙ phased_state g messages w.distinct in
    let new : AreNew g.state.kept changes = subst (λ (l : List Change). AreNew g.state.kept l) (sym changed) (phased_new g messages w.distinct) in
    let answered = all_answered g messages w small forms in
    let few : length (kept_after g.state.kept changes).pairs ≤ g.state.kept.most = few_after g.state.kept changes bounded in
    record {
      answers_are = are;
      readable = subst (λ (l : List Datagram). AllZip (IsAnswerTo g.settings.mid) (questions messages) l) (sym are) answered.answers;
      state = state;
      new = new;
      fits = record {
        mid = w.mid;
        address = w.address;
        maps = c.whole;
        forms = subst (λ (s : State). AreKept s.maps) (sym state) answered.after.maps;
        context_cursor = c.within.context;
        slot_cursor = c.within.slot;
        most = most_after g.state.kept changes ∙ w.most;
        kept = omega (arith, few, w.most);
        distinct = distinct_after g.state.kept changes w.distinct new;
        replies = subst (λ (s : State). All (IsKeptReply g.settings.mid) s.kept.pairs) (sym state) answered.after.replies;
      };
    }

-- the same of what is kept and answered of jobs
pub outcome_of_jobs : (g : GatewayValue) (messages : List ReadDatagram) (items : List BurstItem) (jobs : List BurstRequest) (cursors : Cursors) (turns : List Turn) → IsWellFormed g.settings g.state → g.settings.slots ≤ 4096 → AreInForm messages
    → items ≡ table_of g messages → AreJobs (new_of g messages) (ids_in g (new_of g messages)) jobs → cursors ≡ cursors_behind g messages → AreWithin g.settings.contexts g.settings.slots cursors → turns ≡ turns_of g messages
    → IsOutcome g messages (answers_of g.settings.mid g.state.kept (texts_of (kept_of g jobs)) items) (done_by g.settings.rules jobs g.state.maps).maps cursors (changes_of turns (kept_of g jobs))
outcome_of_jobs g messages items jobs cursors turns w small forms items_are jobs_are cursors_are within turns_are =
    outcome g messages items jobs cursors (done_by g.settings.rules jobs g.state.maps).maps turns (kept_of g jobs) (answers_of g.settings.mid g.state.kept (texts_of (kept_of g jobs)) items) w small forms
    (record {
      items_are = items_are;
      jobs_are = jobs_are;
      cursors_are = cursors_are;
      maps_are = refl;
      entries_are = refl;
      turns_are = turns_are;
      answers_are = refl;
      whole = stay_whole g.settings.rules jobs g.state.maps w.maps (jobs_unused g (new_of g messages) jobs jobs_are w small);
      within = within;
    })
