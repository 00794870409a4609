-- What an Audit tells has its form, where the record's texts have theirs.
use Rattle.std.proofs.Common.{ℕ, List, [], ◌∷◌, Option, Some, None}
use Rattle.std.specs.List.{All}
use Rattle.std.proofs.lemmas.List.Elements.{All-nil, All-cons, All-append}
use Rattle.gw_desc.specs.KeptTexts.{IsOptional, IsKeptTail}
use Rattle.gw_desc.specs.Values.{item_of}
use Rattle.gw_desc.specs.declared.descriptor.KeptKind.{KeptKind}
use Rattle.gw_desc.specs.declared.descriptor.Tail.{Tail}
use Rattle.gw_desc.specs.declared.values.AuditItem.{AuditItem}
use Rattle.gw_desc.specs.declared.values.AuditItem.TheVariants as item
use Rattle.gw_reply.specs.KeptParts.{IsKeptStreamReply, HasKeptReply}
use Rattle.gw_term.specs.declared.record.Stream.{Stream}
use Rattle.gw_term.specs.declared.record.Termination.{Termination}
use Rattle.gw_term.specs.Record.{tail_of}
use Rattle.gw_term.specs.Audit.{written_stream, written_streams, written_tail, written_item, written_if, written_word, audit_parts}
use Rattle.gw_term.specs.KeptRecords.{IsKeptStream, IsKeptRecord}
use Rattle.gw_term.proofs.Made.{all_rising}

stream_kept : (number : ℕ) (s : Option Stream) → IsOptional IsKeptStream s → All IsKeptStreamReply (written_stream number s)
stream_kept number None h = All-nil IsKeptStreamReply
stream_kept number (Some s) h =
    All-cons IsKeptStreamReply (record { number = number; mode = s.mode; properties = s.properties; local = s.local; remote = s.remote }) []
    (record { properties = h.properties; local = h.local; remote = h.remote }) (All-nil IsKeptStreamReply)

streams_kept : (r : Termination) → IsKeptRecord r → All IsKeptStreamReply (written_streams r)
streams_kept r h = all_rising written_stream (λ _. IsOptional IsKeptStream) IsKeptStreamReply stream_kept r.settings.streams h.streams

tail_kept : (kind : KeptKind) (t : Option (Tail (List ℕ))) → IsOptional IsKeptTail t → HasKeptReply (written_tail kind t)
tail_kept kind None h = tt
tail_kept kind (Some t) h = h

item_kept : (r : Termination) (i : AuditItem) → IsKeptRecord r → HasKeptReply (written_item r i)
item_kept r item.Media h = record { properties = h.properties; streams = streams_kept r h }
item_kept r (item.Kept kind) h = tail_kept kind (tail_of kind r) (h.tails kind)
item_kept r item.Statistics h = tt
item_kept r item.ObservedEvents h = tt
item_kept r item.Packages h = tt

told_kept : (r : Termination) (i : Option AuditItem) → IsKeptRecord r → All HasKeptReply (written_if r i)
told_kept r None h = All-nil HasKeptReply
told_kept r (Some i) h = All-cons HasKeptReply (written_item r i) [] (item_kept r i h) (All-nil HasKeptReply)

pub audits_kept : (words : List (List ℕ)) (r : Termination) → IsKeptRecord r → All HasKeptReply (audit_parts words r)
unfolding audit_parts
audits_kept [] r h = All-nil HasKeptReply
audits_kept (w ∷ ws) r h = All-append HasKeptReply (written_word r w) (audit_parts ws r) (told_kept r (item_of w) h) (audits_kept ws r h)
