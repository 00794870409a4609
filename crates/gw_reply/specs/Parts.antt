-- The text of the parts of command replies (RFC 3525, Annex B.2, auditReturnParameter, mediaDescriptor and what is in
-- it; long tokens, and no white space but what was kept as sent: own).
use Rattle.std.specs.Prelude.{ℕ, Bool, true, false, List, [], ◌∷◌, ◌++◌, map, codes, decimal, Option, Some, None}
use Rattle.gw_base.specs.declared.command_words.Service.{Service}
use Rattle.gw_base.specs.declared.command_words.Service.TheVariants as service
use Rattle.gw_desc.specs.Grammar.{sign_byte}
use Rattle.gw_desc.specs.declared.descriptor.KeptKind.{KeptKind}
use Rattle.gw_desc.specs.declared.descriptor.KeptKind.TheVariants as kept
use Rattle.gw_desc.specs.declared.descriptor.Property.{Property}
use Rattle.gw_desc.specs.declared.descriptor.Tail.{Tail}
use Rattle.gw_desc.specs.declared.values.Mode.{Mode}
use Rattle.gw_desc.specs.declared.values.Mode.TheVariants as mode
use Rattle.gw_desc.specs.declared.values.AuditItem.{AuditItem}
use Rattle.gw_desc.specs.declared.values.AuditItem.TheVariants as item
use Rattle.gw_reply.specs.declared.parts.ReplyPart.{ReplyPart}
use Rattle.gw_reply.specs.declared.parts.ReplyPart.TheVariants as part
use Rattle.gw_reply.specs.declared.parts.FilledStream.{FilledStream}
use Rattle.gw_reply.specs.declared.parts.MediaReply.{MediaReply}
use Rattle.gw_reply.specs.declared.parts.StreamReply.{StreamReply}
use Rattle.gw_reply.specs.Lists.{in_braces, comma_separated, later}

-- ---- words

abbrev pub mode_word : Mode → List ℕ
mode_word mode.SendOnly = codes "SendOnly"
mode_word mode.ReceiveOnly = codes "ReceiveOnly"
mode_word mode.SendReceive = codes "SendReceive"
mode_word mode.Inactive = codes "Inactive"
mode_word mode.Loopback = codes "Loopback"

abbrev pub service_word : Service → List ℕ
service_word service.Test = codes "Test"
service_word service.OutOfService = codes "OutOfService"
service_word service.InService = codes "InService"

abbrev pub kind_word : KeptKind → List ℕ
kind_word kept.Events = codes "Events"
kind_word kept.Signals = codes "Signals"
kind_word kept.DigitMap = codes "DigitMap"
kind_word kept.EventBuffer = codes "EventBuffer"

abbrev pub item_word : AuditItem → List ℕ
item_word item.Media = codes "Media"
item_word (item.Kept kind) = kind_word kind
item_word item.Statistics = codes "Statistics"
item_word item.ObservedEvents = codes "ObservedEvents"
item_word item.Packages = codes "Packages"

-- ---- what is kept as sent

-- its name, its sign and its value
abbrev pub property_text : Property (List ℕ) → List ℕ
property_text p = p.name ++ sign_byte p.sign ∷ p.value

-- what is there, or nothing
abbrev pub text_if : Option (List ℕ) → List ℕ
text_if None = []
text_if (Some text) = text

abbrev pub equals_text : Bool → List ℕ
equals_text true = codes "="
equals_text false = []

-- what stands behind the token: `=` and the word, and the group
abbrev pub tail_text : Tail (List ℕ) → List ℕ
tail_text t = equals_text t.equals ++ text_if t.word ++ text_if t.group

-- ---- streams

-- ,Local{..} and ,Remote{..}, if it is there
abbrev pub later_octets : List ℕ → Option (List ℕ) → List ℕ
later_octets word None = []
later_octets word (Some text) = codes "," ++ word ++ in_braces text

-- LocalControl{Mode=<mode>[,properties]}
abbrev pub control_text : Mode → List (Property (List ℕ)) → List ℕ
control_text mode properties = codes "LocalControl" ++ in_braces (codes "Mode=" ++ mode_word mode ++ later property_text properties)

-- Stream=<number>{..}
abbrev pub numbered : ℕ → List ℕ → List ℕ
numbered number text = codes "Stream=" ++ decimal number ++ in_braces text

unfoldable pub stream_parts : StreamReply → List ℕ
stream_parts s = control_text s.mode s.properties ++ later_octets (codes "Local") s.local ++ later_octets (codes "Remote") s.remote

-- Stream=<number>{LocalControl{..}[,Local{..}][,Remote{..}]}
abbrev pub stream_text : StreamReply → List ℕ
stream_text s = numbered s.number (stream_parts s)

abbrev pub filled_stream_text : FilledStream → List ℕ
filled_stream_text s = numbered s.number (codes "Local" ++ in_braces s.local)

-- ---- parts

-- TerminationState{ServiceStates=<state>[,properties]}
abbrev pub state_text : Service → List (Property (List ℕ)) → List ℕ
state_text service properties = codes "TerminationState" ++ in_braces (codes "ServiceStates=" ++ service_word service ++ later property_text properties)

-- Media{TerminationState{..}[,Stream=k{..}]..}
abbrev pub media_text : MediaReply → List ℕ
media_text m = codes "Media" ++ in_braces (state_text m.service m.properties ++ later stream_text m.streams)

abbrev pub part_text : ReplyPart → List ℕ
part_text (part.Filled streams) = codes "Media" ++ in_braces (comma_separated (map filled_stream_text streams))
part_text (part.Media media) = media_text media
part_text (part.Kept kind tail) = kind_word kind ++ tail_text tail
part_text (part.Bare item) = item_word item
