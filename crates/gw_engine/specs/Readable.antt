-- That what this gateway sends can be read: which message of the grammar each answer is (RFC 3525, section 8 and Annex
-- B.2).
use Rattle.std.specs.Prelude.{◌≡◌, ℕ, List, [], ◌∷◌, flat_map, Result, Ok, Err}
use Rattle.std.specs.List.{AllZip}
use Rattle.gw_base.specs.Codes.{number_of}
use Rattle.gw_base.specs.Lang.{◌▹◌}
use Rattle.gw_base.specs.declared.code.Code.{Code}
use Rattle.gw_text.specs.Lexical.{equals_sign, left_brace, right_brace}
use Rattle.gw_text.specs.Space.{IsSpace, IsSep}
use Rattle.gw_text.specs.Forms.{IsSign, IsToken, IsNumber}
use Rattle.gw_text.specs.declared.token.Token.TheVariants as token
use Rattle.gw_msg.specs.Grammar.{IsHeader, SpellsMid, IsOptionalQuoted, code_digits, code_max, spoken_version}
use Rattle.gw_msg.specs.declared.message.Item.{Item}
use Rattle.gw_msg.specs.declared.message.Item.TheVariants as item
use Rattle.gw_msg.specs.declared.message.Message.{Message}
use Rattle.gw_reply_law.specs.Spellings.{IsReplyMessage}
use Rattle.gw_engine.specs.declared.datagram.Datagram.{Datagram}
use Rattle.gw_engine.specs.declared.reading.ReadDatagram.{ReadDatagram}
use Rattle.gw_engine.specs.Bursts.{IsReadAs}

-- errorDescriptor of this number
abbrev pub SpellsErrorOf : ℕ → List ℕ → Type 0
SpellsErrorOf number = IsToken token.Error ▹ IsSign equals_sign ▹ IsNumber code_digits code_max number ▹ IsSign left_brace ▹ IsOptionalQuoted ▹ IsSign right_brace

-- a message whose body is the error of this number, from the sender of this mId
abbrev pub IsErrorMessage : List ℕ → ℕ → List ℕ → Type 0
IsErrorMessage mid number = IsHeader spoken_version ▹ SpellsMid mid ▹ IsSep ▹ SpellsErrorOf number ▹ IsSpace

-- what such a message is read as: no item
abbrev pub error_message : List ℕ → Message
error_message mid = record { mid = mid; items = [] }

-- what is to be answered, and to whom: the request of this number, or a text that has this error
pub record Question : Type 0 where
  pub peer : ℕ
  pub subject : Result ℕ Code

-- each request is to be answered, and no other item
abbrev pub question_in : ℕ → Item → List Question
question_in peer (item.Request r) = record { peer = peer; subject = Ok r.id.0 } ∷ []
question_in peer (item.Ack ranges) = []
question_in peer item.Ignored = []

abbrev pub questions_in : ℕ → Result Message Code → List Question
questions_in peer (Ok m) = flat_map (question_in peer) m.items
questions_in peer (Err code) = record { peer = peer; subject = Err code } ∷ []

-- in order of arrival
abbrev pub questions : List ReadDatagram → List Question
questions messages = flat_map (λ h. questions_in h.peer h.message) messages

-- a message with the reply of the request's number, or with the error
abbrev pub IsAnswerText : List ℕ → Result ℕ Code → List ℕ → Type 0
IsAnswerText mid (Ok id) bytes = IsReplyMessage mid id bytes
IsAnswerText mid (Err code) bytes = IsErrorMessage mid (number_of code) bytes

-- it goes to the peer that sent what it answers
pub record IsAnswerTo (mid : List ℕ) (q : Question) (d : Datagram) : Type 0 where
  pub peer : d.peer ≡ q.peer
  pub text : IsAnswerText mid q.subject d.bytes

-- Each request of the burst has one answer, a message from this mId with the reply of its number; each text that is no
-- message has one, a message with the error; in order of arrival; and there are no others.
pub record CanBeRead (mid : List ℕ) (burst : List Datagram) (answers : List Datagram) : Type 0 where
  pub messages : List ReadDatagram
  pub read : AllZip IsReadAs burst messages
  pub answers_are : AllZip (IsAnswerTo mid) (questions messages) answers
