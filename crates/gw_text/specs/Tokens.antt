-- The words of the grammar, in their long and their short form, in any case (RFC 3525, Annex B.2).
use Rattle.std.specs.Prelude.{◌≡◌, ℕ, Bool, true, ◌||◌, bytes_eq, if◌then◌else◌, List, [], ◌∷◌, map, Option, Some, None, codes}
use Rattle.std.specs.Char.{to_ascii_lowercase}
use Rattle.gw_text.specs.declared.token.Token.{Token}
use Rattle.gw_text.specs.declared.token.Token.TheVariants.{Add, Audit, AuditCapability, AuditValue, Bothway, Context, ContextAudit, Delay, DigitMap, Emergency, Error, EventBuffer, Events, Forced, Inactive, InService, Isolate, Local, LocalControl, Loopback, Media, Method, Mode, Modem, Modify, Move, Mux, Notify, ObservedEvents, Oneway, OutOfService, Packages, Pending, Priority, Reason, ReceiveOnly, Remote, Reply, Restart, SendOnly, SendReceive, ServiceChange, ServiceStates, Services, Signals, Statistics, Stream, Subtract, TerminationState, Test, Topology, Transaction, TransactionResponseAck}

-- a token, and its two forms
pub record Spelling : Type 0 where
  pub long : List ℕ
  pub short : List ℕ
  pub token : Token

abbrev row : List ℕ → List ℕ → Token → Spelling
row long short token = record { long = long; short = short; token = token }

-- those of a letter in the order of use
abbrev pub table : List Spelling
table =
    row (codes "Add") (codes "A") Add
    ∷ row (codes "AuditValue") (codes "AV") AuditValue
    ∷ row (codes "Audit") (codes "AT") Audit
    ∷ row (codes "AuditCapability") (codes "AC") AuditCapability
    ∷ row (codes "Bothway") (codes "BW") Bothway
    ∷ row (codes "Context") (codes "C") Context
    ∷ row (codes "ContextAudit") (codes "CA") ContextAudit
    ∷ row (codes "DigitMap") (codes "DM") DigitMap
    ∷ row (codes "Delay") (codes "DL") Delay
    ∷ row (codes "Events") (codes "E") Events
    ∷ row (codes "EventBuffer") (codes "EB") EventBuffer
    ∷ row (codes "Error") (codes "ER") Error
    ∷ row (codes "Emergency") (codes "EG") Emergency
    ∷ row (codes "Forced") (codes "FO") Forced
    ∷ row (codes "Inactive") (codes "IN") Inactive
    ∷ row (codes "InService") (codes "IV") InService
    ∷ row (codes "Isolate") (codes "IS") Isolate
    ∷ row (codes "Local") (codes "L") Local
    ∷ row (codes "LocalControl") (codes "O") LocalControl
    ∷ row (codes "Loopback") (codes "LB") Loopback
    ∷ row (codes "Media") (codes "M") Media
    ∷ row (codes "Mode") (codes "MO") Mode
    ∷ row (codes "Modify") (codes "MF") Modify
    ∷ row (codes "Move") (codes "MV") Move
    ∷ row (codes "Method") (codes "MT") Method
    ∷ row (codes "Modem") (codes "MD") Modem
    ∷ row (codes "Mux") (codes "MX") Mux
    ∷ row (codes "Notify") (codes "N") Notify
    ∷ row (codes "ObservedEvents") (codes "OE") ObservedEvents
    ∷ row (codes "OutOfService") (codes "OS") OutOfService
    ∷ row (codes "Oneway") (codes "OW") Oneway
    ∷ row (codes "Remote") (codes "R") Remote
    ∷ row (codes "ReceiveOnly") (codes "RC") ReceiveOnly
    ∷ row (codes "Reply") (codes "P") Reply
    ∷ row (codes "Reason") (codes "RE") Reason
    ∷ row (codes "Restart") (codes "RS") Restart
    ∷ row (codes "Pending") (codes "PN") Pending
    ∷ row (codes "Priority") (codes "PR") Priority
    ∷ row (codes "Packages") (codes "PG") Packages
    ∷ row (codes "Subtract") (codes "S") Subtract
    ∷ row (codes "Stream") (codes "ST") Stream
    ∷ row (codes "Signals") (codes "SG") Signals
    ∷ row (codes "SendReceive") (codes "SR") SendReceive
    ∷ row (codes "SendOnly") (codes "SO") SendOnly
    ∷ row (codes "ServiceChange") (codes "SC") ServiceChange
    ∷ row (codes "Services") (codes "SV") Services
    ∷ row (codes "ServiceStates") (codes "SI") ServiceStates
    ∷ row (codes "Statistics") (codes "SA") Statistics
    ∷ row (codes "Transaction") (codes "T") Transaction
    ∷ row (codes "TerminationState") (codes "TS") TerminationState
    ∷ row (codes "Topology") (codes "TP") Topology
    ∷ row (codes "Test") (codes "TE") Test
    ∷ row (codes "TransactionResponseAck") (codes "K") TransactionResponseAck
    ∷ []

-- the same in any case
abbrev pub is_same_word : List ℕ → List ℕ → Bool
is_same_word a b = bytes_eq (map to_ascii_lowercase a) (map to_ascii_lowercase b)

-- the word is one of the two forms
unfoldable pub is_spelling : List ℕ → List ℕ → List ℕ → Bool
is_spelling long short word = is_same_word word long || is_same_word word short

-- the first token of which the word is a form
abbrev pub find_token : List ℕ → List Spelling → Option Token
find_token word [] = None
find_token word (s ∷ rest) = if is_spelling s.long s.short word then Some s.token else find_token word rest

-- the token that a word is
unfoldable pub token_of : List ℕ → Option Token
token_of word = find_token word table

-- both forms of an entry, in any case, are its token
abbrev pub ReadsBack : Spelling → Type 0
ReadsBack s = (word : List ℕ) → is_spelling s.long s.short word ≡ true → token_of word ≡ Some s.token

-- each entry reads back: no two have a spelling in common
abbrev pub AllReadBack : List Spelling → Type 0
AllReadBack [] = Unit {0}
AllReadBack (s ∷ rest) = ReadsBack s × AllReadBack rest
