-- Commands that need no new record: a merge of nothing, and another service state.
use Rattle.std.proofs.Common.{◌≡◌, ℕ, List, [], Option, None, Some, Result, Ok, Err, refl, sym, ap, ◌∙◌}
use Rattle.std.specs.Option.{unwrap_or}
use Rattle.gw_base.specs.declared.code.Code.{Code}
use Rattle.gw_base.specs.declared.command_words.Rules.{Rules}
use Rattle.gw_base.specs.declared.command_words.Verb.{Verb}
use Rattle.gw_base.specs.declared.command_words.Verb.TheVariants.{Modify, ServiceChange}
use Rattle.gw_base.specs.declared.ids.CtxNum.{CtxNum}
use Rattle.gw_desc.specs.declared.descriptor.Descriptor.{Descriptor}
use Rattle.gw_msg.specs.declared.message.Command.{Command}
use Rattle.gw_reply.specs.declared.parts.FilledStream.{FilledStream}
use Rattle.gw_reply.specs.declared.parts.ReplyPart.{ReplyPart}
use Rattle.gw_table.specs.Maps.{Maps, Outcome, term}
use Rattle.gw_table.specs.Members.{put_service}
use Rattle.gw_table.proofs.Leaving.{put_term-same}
use Rattle.gw_term.specs.Audit.{audit_parts}
use Rattle.gw_term.specs.Merge.{unnamed, stream_in, filled_in, filled_by, merged, merged_media, merged_properties, merged_service, merged_stream}
use Rattle.gw_term.specs.Places.{numbered, at_number, rising}
use Rattle.gw_term.specs.Record.{placed}
use Rattle.gw_term.specs.declared.record.Stream.{Stream}
use Rattle.gw_term.specs.declared.record.Termination.{Termination}
use Rattle.gw_refusal.specs.Requested.{requested_service}
use Rattle.gw_cmd.specs.declared.change.Change.TheVariants.{Becomes}
use Rattle.gw_cmd.specs.Effects.{becomes, decided_in_null, decided_in, is_full, unless, after_change, refusal_elsewhere, merging, merging_to, merged_in, modified, done, on_record, empty_unless, after_service}
use Rattle.gw_cmd.proofs.Lawful.{elsewhere_none}

same_stream : (o : Option Stream) → stream_in (unnamed o) ≡ o
same_stream None = refl
same_stream (Some s) = refl

not_filled : (number : ℕ) (o : Option Stream) → filled_in number (unnamed o) ≡ []
not_filled number None = refl
not_filled number (Some s) = refl

-- no descriptor changes nothing
merged_nothing : (rules : Rules) (r : Termination) → merged rules [] r ≡ Some r
unfolding merged merged_media merged_properties merged_service merged_stream
merged_nothing rules r = λ i. Some (record r { settings = record r.settings { streams = numbered (λ number. same_stream (at_number number r.settings.streams) i) } })

-- and fills none
filled_nothing : (rules : Rules) (r : Termination) → filled_by rules [] r ≡ []
unfolding filled_by merged_media merged_properties merged_stream
filled_nothing rules r = λ i. rising (λ number stream. not_filled number stream i) r.settings.streams

pub merging_nothing : (rules : Rules) (descriptors : List Descriptor) (r : Termination) (place : Option CtxNum) (refused : Option Code) → descriptors ≡ []
    → merging rules descriptors r place refused ≡ merged_in [] [] refused (placed r place)
unfolding merging
merging_nothing rules descriptors r place refused none =
    ap (λ (l : List Descriptor). merging_to rules l r place refused (merged rules l r)) none
    ∙ ap (λ (o : Option Termination). merging_to rules [] r place refused o) (merged_nothing rules r)
    ∙ ap (λ (l : List FilledStream). merged_in [] l refused (placed r place)) (filled_nothing rules r)

-- why it is refused comes first where there is nothing to merge
pub refused_at_once : (rules : Rules) (descriptors : List Descriptor) (r : Termination) (place : Option CtxNum) (refused : Option Code) (code : Code) → descriptors ≡ [] → refused ≡ Some code → Err code ≡ merging rules descriptors r place refused
refused_at_once rules descriptors r place refused code none is =
    ap (λ (o : Option Code). merged_in [] [] o (placed r place)) (sym is) ∙ sym (merging_nothing rules descriptors r place refused none)

-- ---- a Modify without descriptors

-- what comes of it
abbrev pub left_alone : Option Code → Maps → Outcome (Result (List ReplyPart) Code)
left_alone refused m = record { maps = m; answer = empty_unless refused }

by_refusal : (t : List ℕ) (m : Maps) (place : Option CtxNum) (r : Termination) (refused : Option Code) → (refused ≡ None → r.place ≡ place) → term m t ≡ Some r
    → done t m (becomes (merged_in [] [] refused (placed r place))) ≡ left_alone refused m
unfolding audit_parts
by_refusal t m place r (Some code) there found = refl
by_refusal t m place r None there found = ap (λ (x : Maps). left_alone None x) (put_term-same m t (Some (placed r place)) (ap (λ (p : Option CtxNum). Some (placed r p)) (sym (there refl)) ∙ sym found))

modified_nothing : (rules : Rules) (place : Option CtxNum) (t : List ℕ) (r : Termination) (m : Maps) (descriptors : List Descriptor) → descriptors ≡ [] → term m t ≡ Some r
    → done t m (modified rules descriptors place r) ≡ left_alone (refusal_elsewhere place r.place) m
modified_nothing rules place t r m descriptors none found =
    ap (λ x. done t m (becomes x)) (merging_nothing rules descriptors r place (refusal_elsewhere place r.place) none)
    ∙ by_refusal t m place r (refusal_elsewhere place r.place) (elsewhere_none place r.place) found

pub modify_alone : (rules : Rules) (place : Option CtxNum) (c : Command) (t : List ℕ) (r : Termination) (m : Maps) → c.verb ≡ Modify → c.descriptors ≡ [] → term m t ≡ Some r
    → on_record rules place c t r m ≡ left_alone (refusal_elsewhere place r.place) m
unfolding on_record
modify_alone rules None c t r m verb none found =
    ap (λ (v : Verb). done t m (decided_in_null rules v c.descriptors r)) verb ∙ modified_nothing rules None t r m c.descriptors none found
modify_alone rules (Some n) c t r m verb none found =
    ap (λ (v : Verb). done t m (decided_in rules v c.descriptors (is_full rules n m) n r)) verb ∙ modified_nothing rules (Some n) t r m c.descriptors none found

-- ---- a ServiceChange

service_by : (t : List ℕ) (m : Maps) (r : Termination) (descriptors : List Descriptor) (refused : Option Code) → term m t ≡ Some r
    → done t m (unless refused (record { change = Becomes (after_change descriptors r); parts = [] })) ≡ after_service refused (unwrap_or (requested_service descriptors) r.service) t m
service_by t m r descriptors (Some code) found = refl
service_by t m r descriptors None found =
    ap (λ (o : Option Termination). let x : Outcome (Result (List ReplyPart) Code) = record { maps = put_service (unwrap_or (requested_service descriptors) r.service) t m o; answer = Ok [] } in x) (sym found)

pub service_done : (rules : Rules) (place : Option CtxNum) (c : Command) (t : List ℕ) (r : Termination) (m : Maps) → c.verb ≡ ServiceChange → term m t ≡ Some r
    → on_record rules place c t r m ≡ after_service (refusal_elsewhere place r.place) (unwrap_or (requested_service c.descriptors) r.service) t m
unfolding on_record
service_done rules None c t r m verb found =
    ap (λ (v : Verb). done t m (decided_in_null rules v c.descriptors r)) verb ∙ service_by t m r c.descriptors (refusal_elsewhere None r.place) found
service_done rules (Some n) c t r m verb found =
    ap (λ (v : Verb). done t m (decided_in rules v c.descriptors (is_full rules n m) n r)) verb ∙ service_by t m r c.descriptors (refusal_elsewhere (Some n) r.place) found
