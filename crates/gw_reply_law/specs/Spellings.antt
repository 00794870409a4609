-- A reply as a message of the grammar (RFC 3525, section 8.2.2 and Annex B.2, transactionReply), with its number, which
-- reading drops.
use Rattle.std.specs.Prelude.{ℕ, List, [], ◌∷◌}
use Rattle.gw_base.specs.Lang.{◌▹◌}
use Rattle.gw_text.specs.Lexical.{equals_sign}
use Rattle.gw_text.specs.Space.{IsSpace, IsSep}
use Rattle.gw_text.specs.Forms.{IsSign, IsToken, IsUint32}
use Rattle.gw_text.specs.Group.{IsGroup}
use Rattle.gw_text.specs.declared.token.Token.TheVariants as token
use Rattle.gw_msg.specs.Grammar.{IsHeader, SpellsMid, reply_depth, spoken_version}
use Rattle.gw_msg.specs.declared.message.Item.TheVariants as item
use Rattle.gw_msg.specs.declared.message.Message.{Message}

-- transactionReply of this number
abbrev pub SpellsReplyOf : ℕ → List ℕ → Type 0
SpellsReplyOf id = IsToken token.Reply ▹ IsSign equals_sign ▹ IsUint32 id ▹ IsSpace ▹ IsGroup reply_depth

-- a message whose one item is the reply of this number, from the sender of this mId
abbrev pub IsReplyMessage : List ℕ → ℕ → List ℕ → Type 0
IsReplyMessage mid id = IsHeader spoken_version ▹ SpellsMid mid ▹ IsSep ▹ SpellsReplyOf id ▹ IsSpace

-- what such a message is read as: one item, of no effect
abbrev pub reply_message : List ℕ → Message
reply_message mid = record { mid = mid; items = item.Ignored ∷ [] }
