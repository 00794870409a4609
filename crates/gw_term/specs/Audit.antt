-- What a termination answers to an Audit (RFC 3525, section 7.2.5): the items requested, in the order requested.
use Rattle.std.specs.Prelude.{ℕ, List, [], ◌∷◌, Option, Some, None}
use Rattle.std.specs.List.{flat_map}
use Rattle.gw_desc.specs.Values.{item_of}
use Rattle.gw_desc.specs.declared.descriptor.KeptKind.{KeptKind}
use Rattle.gw_desc.specs.declared.descriptor.Tail.{Tail}
use Rattle.gw_desc.specs.declared.values.AuditItem.{AuditItem}
use Rattle.gw_desc.specs.declared.values.AuditItem.TheVariants as item
use Rattle.gw_reply.specs.declared.parts.ReplyPart.{ReplyPart}
use Rattle.gw_reply.specs.declared.parts.ReplyPart.TheVariants as part
use Rattle.gw_reply.specs.declared.parts.StreamReply.{StreamReply}
use Rattle.gw_reply.specs.declared.parts.MediaReply.{MediaReply}
use Rattle.gw_term.specs.declared.record.Stream.{Stream}
use Rattle.gw_term.specs.declared.record.Termination.{Termination}
use Rattle.gw_term.specs.Places.{rising}
use Rattle.gw_term.specs.Record.{tail_of}

-- a stream that is there, as it is written
abbrev pub written_stream : ℕ → Option Stream → List StreamReply
written_stream number None = []
written_stream number (Some s) = (record { number = number; mode = s.mode; properties = s.properties; local = s.local; remote = s.remote }) ∷ []

abbrev pub written_streams : Termination → List StreamReply
written_streams r = rising written_stream r.settings.streams

-- the service state, the properties and the streams, rising
abbrev pub written_media : Termination → MediaReply
written_media r = record { service = r.service; properties = r.settings.properties; streams = written_streams r }

-- a tail that is kept, or the bare word
abbrev pub written_tail : KeptKind → Option (Tail (List ℕ)) → ReplyPart
written_tail kind None = part.Bare (item.Kept kind)
written_tail kind (Some tail) = part.Kept kind tail

abbrev pub written_item : Termination → AuditItem → ReplyPart
written_item r item.Media = part.Media (written_media r)
written_item r (item.Kept kind) = written_tail kind (tail_of kind r)
written_item r item.Statistics = part.Bare item.Statistics
written_item r item.ObservedEvents = part.Bare item.ObservedEvents
written_item r item.Packages = part.Bare item.Packages

-- what a word requests; a word that requests nothing is not answered
abbrev pub written_if : Termination → Option AuditItem → List ReplyPart
written_if r None = []
written_if r (Some i) = written_item r i ∷ []

abbrev pub written_word : Termination → List ℕ → List ReplyPart
written_word r word = written_if r (item_of word)

-- the parts that answer the words of an Audit
unfoldable pub audit_parts : List (List ℕ) → Termination → List ReplyPart
audit_parts words r = flat_map (written_word r) words
