-- Descriptors as they are read, from left to right (own). That this is the grammar (RFC 3525, Annex B.2) is proved.
use Rattle.std.specs.Prelude.{◌≡◌, ℕ, true, false, List, Option, Some, None}
use Rattle.gw_text.specs.Lexical.{is_safe, equals_sign, left_brace, right_brace, left_bracket, quote_mark}
use Rattle.gw_text.specs.SpaceScan.{skip}
use Rattle.gw_text.specs.Runs.{is_byte, NoMore}
use Rattle.gw_text.specs.Sign.{byte_at, sign_at}
use Rattle.gw_text.specs.Reader.{Reader, ◌>>=◌, word_as, word_read, run_read, bracket_read, number_up_to, octets_read, quoted_read, group_read, if_sign, if_begins, if_ahead, braced_at, braced_or_empty_at}
use Rattle.gw_text.specs.Tokens.{token_of}
use Rattle.gw_text.specs.declared.token.Token.{Token}
use Rattle.gw_text.specs.declared.token.Token.TheVariants as token
use Rattle.gw_desc.specs.declared.descriptor.Descriptor.{Descriptor}
use Rattle.gw_desc.specs.declared.descriptor.Descriptor.TheVariants as descriptor
use Rattle.gw_desc.specs.declared.descriptor.KeptKind.{KeptKind}
use Rattle.gw_desc.specs.declared.descriptor.KeptKind.TheVariants as kept
use Rattle.gw_desc.specs.declared.descriptor.MediaPart.{MediaPart}
use Rattle.gw_desc.specs.declared.descriptor.MediaPart.TheVariants as media
use Rattle.gw_desc.specs.declared.descriptor.StreamPart.{StreamPart}
use Rattle.gw_desc.specs.declared.descriptor.StreamPart.TheVariants as part
use Rattle.gw_desc.specs.declared.descriptor.ServiceParm.{ServiceParm}
use Rattle.gw_desc.specs.declared.descriptor.ServiceValue.{ServiceValue}
use Rattle.gw_desc.specs.declared.descriptor.ServiceValue.TheVariants as value
use Rattle.gw_desc.specs.declared.descriptor.Property.{Property}
use Rattle.gw_desc.specs.declared.descriptor.Sign.{Sign}
use Rattle.gw_desc.specs.declared.descriptor.Sign.TheVariants.{Equal, NotEqual, Less, Greater}
use Rattle.gw_desc.specs.declared.descriptor.Tail.{Tail}
use Rattle.gw_desc.specs.Grammar.{request_depth, sign_byte, stream_digits, stream_max}

-- ---- tails

-- a group behind white space, if a brace comes next there; else nothing is taken
unfoldable pub optional_group_at : Reader (Option (List ℕ))
optional_group_at =
    if_ahead left_brace (λ text. do
      group ← group_read request_depth text
      Some (Some group.0, group.1)) (λ text. Some (None, text))

-- behind `=`, a group
abbrev pub group_tail_at : Reader (Tail (List ℕ))
group_tail_at text = do
  group ← group_read request_depth text
  Some (record { equals = true; word = None; group = Some group.0 }, group.1)

-- behind `=`, a word, and perhaps a group
abbrev pub word_tail_at : Reader (Tail (List ℕ))
word_tail_at text = do
  word ← word_read text
  group ← optional_group_at word.1
  Some (record { equals = true; word = Some word.0; group = group.0 }, group.1)

-- without `=`
abbrev pub bare_tail_at : Reader (Tail (List ℕ))
bare_tail_at text = do
  group ← optional_group_at text
  Some (record { equals = false; word = None; group = group.0 }, group.1)

-- what follows the word of a descriptor that is kept as sent
unfoldable pub tail_at : Reader (Tail (List ℕ))
tail_at = if_sign equals_sign (if_begins (is_byte left_brace) group_tail_at word_tail_at) bare_tail_at

-- what may follow a tail: no more of its word, no `=` and no group
pub record AfterTail (rest : List ℕ) : Type 0 where
  pub word : NoMore is_safe rest
  pub equals : sign_at equals_sign rest ≡ None
  pub group : sign_at left_brace rest ≡ None

-- ---- properties

-- which value it is, its first byte shows
unfoldable pub value_at : Reader (List ℕ)
value_at =
    if_begins (is_byte quote_mark) quoted_read
    (if_begins (is_byte left_bracket) bracket_read
    (if_begins (is_byte left_brace) (group_read request_depth) word_read))

-- the sign between name and value
unfoldable pub relation_at : Reader Sign
relation_at =
    if_sign (sign_byte Equal) (λ rest. Some (Equal, rest))
    (if_sign (sign_byte NotEqual) (λ rest. Some (NotEqual, rest))
    (if_sign (sign_byte Less) (λ rest. Some (Less, rest))
    (λ text. do
      rest ← sign_at (sign_byte Greater) text
      Some (Greater, rest))))

-- a name, a sign and a value
unfoldable pub property_at : Reader (Property (List ℕ))
property_at text = do
  name ← word_read text
  sign ← relation_at name.1
  value ← value_at sign.1
  Some (record { name = name.0; sign = sign.0; value = value.0 }, value.1)

-- ---- media

-- octets in braces, with what stands round them
unfoldable pub octets_text_at : Reader (List ℕ)
octets_text_at text = do
  inside ← byte_at left_brace (skip text)
  span ← octets_read inside
  close ← byte_at right_brace span.1
  Some (span.0, skip close)

-- behind the word of a part of a stream
abbrev pub stream_rest : Token → Reader StreamPart
stream_rest token.Local text = octets_text_at text >>= λ span. Some (part.Local span.0, span.1)
stream_rest token.Remote text = octets_text_at text >>= λ span. Some (part.Remote span.0, span.1)
stream_rest token.LocalControl text = braced_at property_at text >>= λ list. Some (part.LocalControl list.0, list.1)
stream_rest _ text = None

-- the word, and what is behind it
unfoldable pub stream_part_at : Reader StreamPart
stream_part_at text = do
  word ← word_as token_of text
  stream_rest word.0 word.1

-- behind the word Stream
unfoldable pub stream_at : Reader MediaPart
stream_at text = do
  equals ← sign_at equals_sign text
  id ← number_up_to stream_digits stream_max equals
  parts ← braced_at stream_part_at id.1
  Some (media.Stream id.0 parts.0, parts.1)

-- behind the word of a part of a Media
abbrev pub media_rest : Token → Reader MediaPart
media_rest token.Stream text = stream_at text
media_rest token.TerminationState text = braced_at property_at text >>= λ list. Some (media.TerminationState list.0, list.1)
media_rest word text = stream_rest word text >>= λ p. Some (media.Outside p.0, p.1)

-- the word, and what is behind it
unfoldable pub media_part_at : Reader MediaPart
media_part_at text = do
  word ← word_as token_of text
  media_rest word.0 word.1

-- ---- Services

-- a quoted text where a quotation mark comes next, else a run
unfoldable pub service_value_at : Reader ServiceValue
service_value_at =
    if_begins (is_byte quote_mark) (λ text. do
      span ← quoted_read text
      Some (value.Quoted span.0, span.1)) (λ text. do
        span ← run_read text
        Some (value.Run span.0, span.1))

-- behind the name of a parameter
abbrev pub service_rest : List ℕ → Reader ServiceParm
service_rest name =
    if_sign equals_sign (λ text. do
      value ← service_value_at text
      Some (record { name = name; value = Some value.0 }, value.1)) (λ text. Some (record { name = name; value = None }, text))

-- a name, and perhaps a value
unfoldable pub service_parm_at : Reader ServiceParm
service_parm_at text = do
  name ← word_read text
  service_rest name.0 name.1

-- ---- descriptors

-- what follows another word, which is dropped
unfoldable pub dropped_at : Reader (Tail (List ℕ))
dropped_at =
    if_ahead left_bracket (λ text. do
      bracket ← bracket_read text
      tail_at bracket.1) tail_at

-- behind the word of a descriptor that is kept
abbrev pub keep_at : KeptKind → Reader Descriptor
keep_at kind text = tail_at text >>= λ tail. Some (descriptor.Keep kind tail.0, tail.1)

-- behind the word of a descriptor
abbrev pub descriptor_rest : List ℕ → Option Token → Reader Descriptor
descriptor_rest word (Some token.Media) text = braced_at media_part_at text >>= λ list. Some (descriptor.Media list.0, list.1)
descriptor_rest word (Some token.Events) text = keep_at kept.Events text
descriptor_rest word (Some token.Signals) text = keep_at kept.Signals text
descriptor_rest word (Some token.DigitMap) text = keep_at kept.DigitMap text
descriptor_rest word (Some token.EventBuffer) text = keep_at kept.EventBuffer text
descriptor_rest word (Some token.Audit) text = braced_or_empty_at word_read text >>= λ list. Some (descriptor.Audit list.0, list.1)
descriptor_rest word (Some token.Services) text = braced_at service_parm_at text >>= λ list. Some (descriptor.Services list.0, list.1)
descriptor_rest word _ text = dropped_at text >>= λ rest. Some (descriptor.Other word, rest.1)

-- the word, and what is behind it
unfoldable pub descriptor_at : Reader Descriptor
descriptor_at text = do
  word ← word_read text
  descriptor_rest word.0 (token_of word.0) word.1

-- what may follow a descriptor: nothing that goes on with its tail, and no bracket
pub record AfterDescriptor (rest : List ℕ) : Type 0 where
  pub tail : AfterTail rest
  pub bracket : sign_at left_bracket rest ≡ None
