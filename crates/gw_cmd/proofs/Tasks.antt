-- What a task decides is what its command decides.
use Rattle.std.proofs.Common.{◌≡◌, ℕ, Bool, true, false, List, [], ◌∷◌, Option, None, Some, Result, Ok, Err, refl, sym, ap, subst, ◌∙◌}
use Rattle.std.specs.Option.{unwrap_or}
use Rattle.gw_base.specs.declared.code.Code.{Code}
use Rattle.gw_base.specs.declared.command_words.Rules.{Rules}
use Rattle.gw_base.specs.declared.command_words.Service.{Service}
use Rattle.gw_base.specs.declared.command_words.Verb.{Verb}
use Rattle.gw_base.specs.declared.command_words.Verb.TheVariants as word
use Rattle.gw_base.specs.declared.ids.CtxNum.{CtxNum}
use Rattle.gw_base.specs.declared.term_ref.TermRef.{TermRef}
use Rattle.gw_base.specs.declared.term_ref.TermRef.TheVariants.{Name}
use Rattle.gw_reply.specs.declared.writer.ReplyWriter.{ReplyWriter}
use Rattle.gw_reply.specs.declared.writer.ReplyWriter.TheVariants.{TooLong}
use Rattle.gw_desc.specs.declared.descriptor.Descriptor.{Descriptor}
use Rattle.gw_msg.specs.declared.message.Command.{Command}
use Rattle.gw_reply.specs.declared.parts.ReplyPart.{ReplyPart}
use Rattle.gw_reply.specs.declared.reply.CommandReply.{CommandReply}
use Rattle.gw_term.specs.declared.record.Termination.{Termination}
use Rattle.gw_table.specs.Maps.{Maps, Outcome, term}
use Rattle.gw_table.specs.Members.{put_service}
use Rattle.gw_table.specs.Reserved.{slot_name}
use Rattle.gw_refusal.specs.declared.at.At.{At}
use Rattle.gw_refusal.specs.Requested.{requested_service}
use Rattle.gw_refusal.specs.Places.{place_at}
use Rattle.gw_cmd.specs.declared.change.Change.{Change}
use Rattle.gw_cmd.specs.declared.change.Decided.{Decided}
use Rattle.gw_cmd.specs.declared.refusal.Refusal.{Refusal}
use Rattle.gw_cmd.specs.declared.refusal.Refusal.TheVariants as refusal
use Rattle.gw_cmd.specs.declared.task.Act.{Act}
use Rattle.gw_cmd.specs.declared.task.Act.TheVariants.{Add, Move, Modify, Subtract, Audit}
use Rattle.gw_cmd.specs.declared.task.Task.{Task}
use Rattle.gw_cmd.specs.declared.task.Task.TheVariants as task
use Rattle.gw_cmd.specs.Changes.{changed}
use Rattle.gw_cmd.specs.Commands.{reply, new_reply}
use Rattle.gw_cmd.specs.Effects.{refusal_elsewhere, after_service, is_full, decided_in, decided_in_null, decided, done, on_record, on_found, on_name}
use Rattle.gw_cmd.specs.Plans.{parts_if, decided_if, answer_if, answered}
use Rattle.gw_cmd.specs.Refused.{Answers, Gives}
use Rattle.gw_cmd.specs.Tasks.{act_place, act_verb, task_place, task_verb, task_of, decided_by, IsServedBy, Does, IsAllowed}
use Rattle.gw_cmd.specs.Written.{new_term, seen}
use Rattle.gw_cmd.proofs.AsItIs.{service_done}
use Rattle.gw_cmd.proofs.Lawful.{Lawful, decided_lawful}

-- what a command does is in its place, and goes by its word
pub record IsTask (at : At) (c : Command) (t : Task) : Type 0 where
  pub place : place_at at ≡ task_place t
  pub does : Does t c

abbrev Fits : Verb → Option CtxNum → Option Service → Task → Type 0
Fits v p s t = (v ≡ task_verb t) × (p ≡ task_place t) × ((ds : List Descriptor) → s ≡ requested_service ds → IsServedBy ds t)

fits : (v : Verb) (p : Option CtxNum) (s : Option Service) (t : Task) → task_of v p s ≡ Some t → Fits v p s t
fits word.Add (Some n) s t e = subst (Fits word.Add (Some n) s) (let same : task.Act (Add n) ≡ t = cc in same) (refl, refl, λ ds h. tt)
fits word.Add None s t e = absurd cc
fits word.Move (Some n) s t e = subst (Fits word.Move (Some n) s) (let same : task.Act (Move n) ≡ t = cc in same) (refl, refl, λ ds h. tt)
fits word.Move None s t e = absurd cc
fits word.Subtract (Some n) s t e = subst (Fits word.Subtract (Some n) s) (let same : task.Act (Subtract n) ≡ t = cc in same) (refl, refl, λ ds h. tt)
fits word.Subtract None s t e = absurd cc
fits word.Modify p s t e = subst (Fits word.Modify p s) (let same : task.Act (Modify p) ≡ t = cc in same) (refl, refl, λ ds h. tt)
fits word.AuditValue p s t e = subst (Fits word.AuditValue p s) (let same : task.Act (Audit p) ≡ t = cc in same) (refl, refl, λ ds h. tt)
fits word.ServiceChange p s t e = subst (Fits word.ServiceChange p s) (let same : task.Serve p s ≡ t = cc in same) (refl, refl, λ ds h. h)
fits word.AuditCapability p s t e = absurd cc
fits word.Notify p s t e = absurd cc

pub is_task : (at : At) (c : Command) (t : Task) → IsAllowed at c t → IsTask at c t
is_task at c t h = let f = fits c.verb (place_at at) (requested_service c.descriptors) t h.1 in record { place = f.1; does = record { verb = f.0; served = f.2 c.descriptors refl } }

pub decided_is : (rules : Rules) (a : Act) (c : Command) (m : Maps) (r : Termination) → Does (task.Act a) c → decided rules (act_place a) c m r ≡ decided_by rules c.descriptors a m r
decided_is rules (Add n) c m r d = ap (λ (v : Verb). decided_in rules v c.descriptors (is_full rules n m) n r) d.verb
decided_is rules (Move n) c m r d = ap (λ (v : Verb). decided_in rules v c.descriptors (is_full rules n m) n r) d.verb
decided_is rules (Subtract n) c m r d = ap (λ (v : Verb). decided_in rules v c.descriptors (is_full rules n m) n r) d.verb
decided_is rules (Modify None) c m r d = ap (λ (v : Verb). decided_in_null rules v c.descriptors r) d.verb
decided_is rules (Modify (Some n)) c m r d = ap (λ (v : Verb). decided_in rules v c.descriptors (is_full rules n m) n r) d.verb
decided_is rules (Audit None) c m r d = ap (λ (v : Verb). decided_in_null rules v c.descriptors r) d.verb
decided_is rules (Audit (Some n)) c m r d = ap (λ (v : Verb). decided_in rules v c.descriptors (is_full rules n m) n r) d.verb

-- the change is the same
pub made_if : (wanted : Bool) (x : Result Decided Code) (d : Decided) → Ok d ≡ decided_if wanted x → (whole : Decided) × (x ≡ Ok whole) × (d ≡ record { change = whole.change; parts = parts_if wanted whole.parts })
made_if wanted (Err code) d e = absurd cc
made_if wanted (Ok whole) d e = (whole, refl, let is : d ≡ record { change = whole.change; parts = parts_if wanted whole.parts } = cc in is)

module _ (rules own : Rules) (ds : List Descriptor) (a : Act) (c : Command) (t : List ℕ) (r : Termination) (m : Maps) (does : Does (task.Act a) c) (ruled : own ≡ rules) (merged : ds ≡ c.descriptors) where
  decided_so : decided rules (act_place a) c m r ≡ decided_by own ds a m r
  decided_so =
      decided_is rules a c m r does ∙ ap (λ (x : Rules). decided_by x c.descriptors a m r) (sym ruled)
      ∙ ap (λ (l : List Descriptor). decided_by own l a m r) (sym merged)

  pub record_done : on_record rules (act_place a) c t r m ≡ done t m (decided_by own ds a m r)
  unfolding on_record
  record_done = ap (λ (x : Result Decided Code). done t m x) decided_so

  pub name_done : term m t ≡ Some r → on_name rules (act_place a) c t m ≡ done t m (decided_by own ds a m r)
  name_done found = ap (λ (o : Option Termination). on_found rules (act_place a) c t o m) found ∙ record_done

  pub lawful : (wanted : Bool) (d : Decided) → Ok d ≡ decided_if wanted (decided_by own ds a m r) → Lawful rules (act_verb a) (act_place a) r d.change m
  lawful wanted d e =
      let w = made_if wanted (decided_by own ds a m r) d e in
      let law : Lawful rules c.verb (act_place a) r w.0.change m = decided_lawful rules (act_place a) c m r w.0 (decided_so ∙ w.1) in
      subst (λ (v : Verb). Lawful rules v (act_place a) r d.change m) does.verb
      (subst (λ (x : Change). Lawful rules c.verb (act_place a) r x m) (sym (ap (λ (y : Decided). y.change) w.2)) law)

-- ---- what is decided, without what its reply has

pub gives_done : (wanted : Bool) (x : Result Decided Code) (d : Decided) (t : List ℕ) (m new : Maps) → Ok d ≡ decided_if wanted x → new ≡ changed t d.change m → Gives (Ok d.parts) new (answered wanted (done t m x))
gives_done wanted (Err code) d t m new e is = absurd cc
gives_done wanted (Ok whole) d t m new e is =
    let same = (made_if wanted (Ok whole) d e).2 in
    let one : whole ≡ (made_if wanted (Ok whole) d e).0 = let two = (made_if wanted (Ok whole) d e).1 in cc in (
      is ∙ ap (λ (y : Decided). changed t y.change m) same ∙ ap (λ (y : Decided). changed t y.change m) (sym one),
      ap (λ (y : Decided). let z : Result (List ReplyPart) Code = Ok y.parts in z) same ∙ ap (λ (y : Decided). let z : Result (List ReplyPart) Code = Ok (parts_if wanted y.parts) in z) (sym one),
    )

gives_refused : (wanted : Bool) (x : Result Decided Code) (code : Code) (t : List ℕ) (m : Maps) → Err code ≡ decided_if wanted x → Gives (Err (refusal.Code code)) m (answered wanted (done t m x))
gives_refused wanted (Err other) code t m e = (refl, let same : code ≡ other = cc in ap (λ (y : Code). let z : Result (List ReplyPart) Code = Err y in z) same)
gives_refused wanted (Ok whole) code t m e = absurd cc

pub gives_err : (wanted : Bool) (x : Result Decided Code) (e : Refusal) (t : List ℕ) (m : Maps) → Answers {A = Decided} (Err e) (decided_if wanted x) → Gives {A = List ReplyPart} (Err e) m (answered wanted (done t m x))
gives_err wanted x (refusal.Code code) t m h = gives_refused wanted x code t m h
gives_err wanted x refusal.NoMemory t m h = tt

none_if : (wanted : Bool) → parts_if wanted [] ≡ []
none_if true = refl
none_if false = refl

-- a termination that is given a service state
module _ (rules : Rules) (place : Option CtxNum) (service : Option Service) (c : Command) (t : List ℕ) (r : Termination) (m : Maps) (wanted : Bool) (does : Does (task.Serve place service) c) (found : term m t ≡ Some r) where
  served : on_name rules place c t m ≡ after_service (refusal_elsewhere place r.place) (unwrap_or service r.service) t m
  served =
      ap (λ (o : Option Termination). on_found rules place c t o m) found ∙ service_done rules place c t r m does.verb found
      ∙ ap (λ (s : Option Service). after_service (refusal_elsewhere place r.place) (unwrap_or s r.service) t m) (sym does.served)

  pub serves_not : (code : Code) → refusal_elsewhere place r.place ≡ Some code → Gives {A = List ReplyPart} (Err (refusal.Code code)) m (answered wanted (on_name rules place c t m))
  serves_not code e =
      let whole = served ∙ ap (λ (o : Option Code). after_service o (unwrap_or service r.service) t m) e in
      (sym (ap (λ (o : Outcome (Result (List ReplyPart) Code)). o.maps) whole), sym (ap (λ (o : Outcome (Result (List ReplyPart) Code)). answer_if wanted o.answer) whole))

  pub serves : (new : Maps) (given : Service) (parts : List ReplyPart) → refusal_elsewhere place r.place ≡ None → given ≡ unwrap_or service r.service → new ≡ put_service given t m (term m t) → parts ≡ [] → Gives {A = List ReplyPart} (Ok parts) new (answered wanted (on_name rules place c t m))
  serves new given parts e is put none =
      let whole = served ∙ ap (λ (o : Option Code). after_service o (unwrap_or service r.service) t m) e in (
        put ∙ ap (λ (s : Service). put_service s t m (term m t)) is ∙ sym (ap (λ (o : Outcome (Result (List ReplyPart) Code)). o.maps) whole),
        ap (λ (l : List ReplyPart). let x : Result (List ReplyPart) Code = Ok l in x) (none ∙ sym (none_if wanted)) ∙ sym (ap (λ (o : Outcome (Result (List ReplyPart) Code)). answer_if wanted o.answer) whole),
      )

-- ---- where nothing more is written, what a reply has does not matter

pub seen_if : (writer : ReplyWriter CommandReply) (wanted : Bool) (c : Command) (r : TermRef) (x : Result (List ReplyPart) Code) → (wanted ≡ false → writer ≡ TooLong) → seen writer (reply c r (answer_if wanted x) ∷ []) ≡ seen writer (reply c r x ∷ [])
seen_if writer true c r (Ok parts) full = refl
seen_if writer wanted c r (Err code) full = refl
seen_if writer false c r (Ok parts) full =
    ap (λ (w : ReplyWriter CommandReply). seen w (reply c r (Ok []) ∷ [])) (full refl) ∙ sym (ap (λ (w : ReplyWriter CommandReply). seen w (reply c r (Ok parts) ∷ [])) (full refl))

-- the same of a termination that is made
pub seen_new : (writer : ReplyWriter CommandReply) (wanted : Bool) (c : Command) (slot : ℕ) (x : Result (List ReplyPart) Code) → (wanted ≡ false → writer ≡ TooLong)
    → seen writer (reply c (new_term (slot_name slot) (answer_if wanted x)) (answer_if wanted x) ∷ []) ≡ seen writer (new_reply c slot x ∷ [])
seen_new writer wanted c slot (Err code) full = refl
seen_new writer wanted c slot (Ok parts) full = seen_if writer wanted c (Name (slot_name slot)) (Ok parts) full
