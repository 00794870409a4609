-- Which texts spell a descriptor and its parts (RFC 3525, Annex B.2). EQUAL, LBRKT, RBRKT and COMMA are signs, with
-- LWSP on both sides. What is kept as sent is not looked into (own).
use Rattle.std.specs.Prelude.{◌≡◌, ◌⊎◌, ℕ, Bool, true, false, List, [], ◌∷◌, Option, Some, None, codes}
use Rattle.gw_base.specs.Bytes.{byte}
use Rattle.gw_base.specs.Lang.{◌▹◌, Optional, OptionalOf, IsText}
use Rattle.gw_text.specs.Lexical.{equals_sign, left_brace, right_brace}
use Rattle.gw_text.specs.Space.{IsSpace}
use Rattle.gw_text.specs.Forms.{IsWord, IsSign, OptionalIf, IsSomeRun, IsNumber, IsToken, Braced, BracedOrEmpty}
use Rattle.gw_text.specs.Quoted.{IsQuoted}
use Rattle.gw_text.specs.Octets.{IsOctetsOf}
use Rattle.gw_text.specs.Bracket.{IsBracket, is_run_byte}
use Rattle.gw_text.specs.Group.{IsGroup}
use Rattle.gw_text.specs.Tokens.{token_of}
use Rattle.gw_text.specs.declared.token.Token.{Token}
use Rattle.gw_text.specs.declared.token.Token.TheVariants as token
use Rattle.gw_desc.specs.declared.descriptor.Descriptor.{Descriptor}
use Rattle.gw_desc.specs.declared.descriptor.Descriptor.TheVariants as descriptor
use Rattle.gw_desc.specs.declared.descriptor.KeptKind.{KeptKind}
use Rattle.gw_desc.specs.declared.descriptor.KeptKind.TheVariants as kept
use Rattle.gw_desc.specs.declared.descriptor.MediaPart.{MediaPart}
use Rattle.gw_desc.specs.declared.descriptor.MediaPart.TheVariants as media
use Rattle.gw_desc.specs.declared.descriptor.StreamPart.{StreamPart}
use Rattle.gw_desc.specs.declared.descriptor.StreamPart.TheVariants as part
use Rattle.gw_desc.specs.declared.descriptor.ServiceParm.{ServiceParm}
use Rattle.gw_desc.specs.declared.descriptor.ServiceValue.{ServiceValue}
use Rattle.gw_desc.specs.declared.descriptor.ServiceValue.TheVariants as value
use Rattle.gw_desc.specs.declared.descriptor.Property.{Property}
use Rattle.gw_desc.specs.declared.descriptor.Sign.{Sign}
use Rattle.gw_desc.specs.declared.descriptor.Sign.TheVariants.{Equal, NotEqual, Less, Greater}
use Rattle.gw_desc.specs.declared.descriptor.Tail.{Tail}

-- a text that is kept as sent
abbrev pub Kept : (List ℕ → Type 0) → List ℕ → List ℕ → Type 0
Kept Form span text = (span ≡ text) × Form text

-- how deep braces may lie in a request (own)
abbrev pub request_depth : ℕ
request_depth = 8

-- a group as it may stand in a request, braces and all
abbrev pub SpellsGroup : List ℕ → List ℕ → Type 0
SpellsGroup = Kept (IsGroup request_depth)

-- ---- tails

-- [word]
abbrev pub SpellsOptionalWord : Option (List ℕ) → List ℕ → Type 0
SpellsOptionalWord = OptionalOf (Kept IsWord)

-- [EQUAL [word]], and whether EQUAL is there
abbrev pub SpellsEquals : Bool → Option (List ℕ) → List ℕ → Type 0
SpellsEquals equals word = OptionalIf (IsSign equals_sign ▹ SpellsOptionalWord word) equals

-- [LWSP group]
abbrev pub SpellsOptionalGroup : Option (List ℕ) → List ℕ → Type 0
SpellsOptionalGroup = OptionalOf (λ group. IsSpace ▹ SpellsGroup group)

-- there is one
abbrev pub IsThere : Option (List ℕ) → Type 0
IsThere None = ⊥
IsThere (Some span) = Unit {0}

-- what follows the word of a descriptor that is kept (own): [EQUAL [word]] [LWSP group]
pub record SpellsTail (t : Tail (List ℕ)) (text : List ℕ) : Type 0 where
  pub words : (SpellsEquals t.equals t.word ▹ SpellsOptionalGroup t.group) text
  -- no word without `=`
  pub behind : IsThere t.word → t.equals ≡ true
  -- not `=` alone
  pub some : t.equals ≡ true → IsThere t.word ⊎ IsThere t.group

-- ---- properties

-- the value of a property, as sent: a quoted text, a word, a bracket or a group
abbrev pub IsValue : List ℕ → Type 0
IsValue text = IsQuoted text ⊎ IsBracket text ⊎ IsGroup request_depth text ⊎ IsWord text

-- EQUAL, or `#`, `<` or `>` in its place
abbrev pub sign_byte : Sign → ℕ
sign_byte Equal = byte (codes "=")
sign_byte NotEqual = byte (codes "#")
sign_byte Less = byte (codes "<")
sign_byte Greater = byte (codes ">")

-- propertyParm: a name, LWSP, a sign, LWSP, and a value
abbrev pub SpellsProperty : Property (List ℕ) → List ℕ → Type 0
SpellsProperty p = Kept IsWord p.name ▹ IsSign (sign_byte p.sign) ▹ Kept IsValue p.value

-- ---- media

-- LBRKT octetString RBRKT, of which span is kept
abbrev pub SpellsOctets : List ℕ → List ℕ → Type 0
SpellsOctets span = IsSpace ▹ IsText (left_brace ∷ []) ▹ IsOctetsOf span ▹ IsText (right_brace ∷ []) ▹ IsSpace

-- localDescriptor, remoteDescriptor, localControlDescriptor
abbrev pub SpellsStreamPart : StreamPart → List ℕ → Type 0
SpellsStreamPart (part.Local span) = IsToken token.Local ▹ SpellsOctets span
SpellsStreamPart (part.Remote span) = IsToken token.Remote ▹ SpellsOctets span
SpellsStreamPart (part.LocalControl properties) = IsToken token.LocalControl ▹ Braced SpellsProperty properties

-- the most digits of a StreamID
abbrev pub stream_digits : ℕ
stream_digits = 5

-- the greatest StreamID
abbrev pub stream_max : ℕ
stream_max = 65535

-- StreamID: UINT16
abbrev pub IsStreamId : ℕ → List ℕ → Type 0
IsStreamId = IsNumber stream_digits stream_max

-- mediaParm: a streamParm, streamDescriptor, terminationStateDescriptor
abbrev pub SpellsMediaPart : MediaPart → List ℕ → Type 0
SpellsMediaPart (media.Outside p) = SpellsStreamPart p
SpellsMediaPart (media.Stream id parts) = IsToken token.Stream ▹ IsSign equals_sign ▹ IsStreamId id ▹ Braced SpellsStreamPart parts
SpellsMediaPart (media.TerminationState properties) = IsToken token.TerminationState ▹ Braced SpellsProperty properties

-- ---- Services

-- the value of a Services parameter, as sent
abbrev pub SpellsServiceValue : ServiceValue → List ℕ → Type 0
SpellsServiceValue (value.Quoted span) = Kept IsQuoted span
SpellsServiceValue (value.Run span) = Kept (IsSomeRun is_run_byte) span

-- [EQUAL value]
abbrev pub SpellsOptionalValue : Option ServiceValue → List ℕ → Type 0
SpellsOptionalValue = OptionalOf (λ v. IsSign equals_sign ▹ SpellsServiceValue v)

-- serviceChangeParm (own: any word is a name, and any quoted text or run a value)
abbrev pub SpellsServiceParm : ServiceParm → List ℕ → Type 0
SpellsServiceParm p = Kept IsWord p.name ▹ SpellsOptionalValue p.value

-- ---- descriptors

-- the token of each descriptor that is kept as sent
abbrev pub kept_token : KeptKind → Token
kept_token kept.Events = token.Events
kept_token kept.Signals = token.Signals
kept_token kept.DigitMap = token.DigitMap
kept_token kept.EventBuffer = token.EventBuffer

-- a token with which a descriptor begins that has a form of its own
abbrev pub is_descriptor : Option Token → Bool
is_descriptor (Some token.Media) = true
is_descriptor (Some token.Events) = true
is_descriptor (Some token.Signals) = true
is_descriptor (Some token.DigitMap) = true
is_descriptor (Some token.EventBuffer) = true
is_descriptor (Some token.Audit) = true
is_descriptor (Some token.Services) = true
is_descriptor _ = false

-- any other word
abbrev pub IsOtherWord : List ℕ → Type 0
IsOtherWord text = IsWord text × (is_descriptor (token_of text) ≡ false)

-- a tail, whichever it is
abbrev pub IsTail : List ℕ → Type 0
IsTail text = (t : Tail (List ℕ)) × SpellsTail t text

-- what follows it, which is dropped (own): [LWSP bracket] tail
abbrev pub IsDropped : List ℕ → Type 0
IsDropped = Optional (IsSpace ▹ IsBracket) ▹ IsTail

-- ammParameter, auditDescriptor, serviceChangeDescriptor; any other word is own
abbrev pub SpellsDescriptor : Descriptor → List ℕ → Type 0
SpellsDescriptor (descriptor.Media parts) = IsToken token.Media ▹ Braced SpellsMediaPart parts
SpellsDescriptor (descriptor.Keep kind tail) = IsToken (kept_token kind) ▹ SpellsTail tail
SpellsDescriptor (descriptor.Audit words) = IsToken token.Audit ▹ BracedOrEmpty (Kept IsWord) words
SpellsDescriptor (descriptor.Services parms) = IsToken token.Services ▹ Braced SpellsServiceParm parms
SpellsDescriptor (descriptor.Other word) = Kept IsOtherWord word ▹ IsDropped
