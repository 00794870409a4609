-- The forms of the texts in a tree of replies (own): of its TerminationIDs, and of what is kept as sent.
use Rattle.std.specs.Prelude.{◌<◌, ℕ}
use Rattle.std.specs.List.{All}
use Rattle.gw_base.specs.Names.{IsName}
use Rattle.gw_base.specs.Wildcards.{IsTermText}
use Rattle.gw_base.specs.declared.term_ref.TermRef.{TermRef}
use Rattle.gw_base.specs.declared.term_ref.TermRef.TheVariants.{Under, Name, Other}
use Rattle.gw_base.specs.declared.context_words.Link.{Link}
use Rattle.gw_reply.specs.declared.context_parts.ContextPart.{ContextPart}
use Rattle.gw_reply.specs.declared.context_parts.ContextPart.TheVariants.{Topology}
use Rattle.gw_reply.specs.KeptParts.{HasKeptReply, AllOk}
use Rattle.gw_reply.specs.declared.reply.TxReply.{TxReply}
use Rattle.gw_reply.specs.declared.reply.ActionReply.{ActionReply}
use Rattle.gw_reply.specs.declared.reply.CommandReply.{CommandReply}

-- a reference whose texts have the forms that a request spells
abbrev pub HasForm : TermRef → Type 0
HasForm (Under prefix) = IsName prefix
HasForm (Name name) = IsTermText name
HasForm (Other pattern) = IsTermText pattern
HasForm _ = Unit {0}

-- a number of 32 bits
abbrev pub IsWide : ℕ → Type 0
IsWide n = n < 4294967296

-- what a command reply names, and its parts
abbrev pub IsKeptCommand : CommandReply → Type 0
IsKeptCommand c = HasForm c.term × AllOk HasKeptReply c.result

-- a link of which each name is a TerminationID
abbrev pub HasNames : Link → Type 0
HasNames l = IsTermText l.a × IsTermText l.b

-- a property of a context names TerminationIDs alone
abbrev pub IsKeptPart : ContextPart → Type 0
IsKeptPart (Topology links) = All HasNames links
IsKeptPart _ = Unit {0}

-- the properties of the context in an action reply, and its command replies
pub record IsKeptAction (a : ActionReply) : Type 0 where
  pub parts : All IsKeptPart a.parts
  pub commands : AllOk IsKeptCommand a.result

-- a tree whose texts have their forms
abbrev pub IsKeptTree : TxReply → Type 0
IsKeptTree t = IsWide t.id.0 × AllOk IsKeptAction t.result
