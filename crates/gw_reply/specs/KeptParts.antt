-- The forms of what a reply has as it is kept (own): of properties, tails, Locals and Remotes.
use Rattle.std.specs.Prelude.{List, Result, Ok, Err}
use Rattle.std.specs.List.{All}
use Rattle.gw_base.specs.declared.code.Code.{Code}
use Rattle.gw_desc.specs.KeptTexts.{IsOptional, IsKeptProperty, IsKeptTail, IsKeptOctets}
use Rattle.gw_reply.specs.declared.parts.ReplyPart.{ReplyPart}
use Rattle.gw_reply.specs.declared.parts.ReplyPart.TheVariants as part
use Rattle.gw_reply.specs.declared.parts.FilledStream.{FilledStream}
use Rattle.gw_reply.specs.declared.parts.StreamReply.{StreamReply}
use Rattle.gw_reply.specs.declared.parts.MediaReply.{MediaReply}

-- a Local as it was filled
abbrev pub IsKeptFilled : FilledStream → Type 0
IsKeptFilled f = IsKeptOctets f.local

-- a stream that was audited
pub record IsKeptStreamReply (s : StreamReply) : Type 0 where
  pub properties : All IsKeptProperty s.properties
  pub local : IsOptional IsKeptOctets s.local
  pub remote : IsOptional IsKeptOctets s.remote

-- a Media that was audited
pub record IsKeptMediaReply (m : MediaReply) : Type 0 where
  pub properties : All IsKeptProperty m.properties
  pub streams : All IsKeptStreamReply m.streams

-- what the part has as it is kept has its form
abbrev pub HasKeptReply : ReplyPart → Type 0
HasKeptReply (part.Filled streams) = All IsKeptFilled streams
HasKeptReply (part.Media m) = IsKeptMediaReply m
HasKeptReply (part.Kept kind tail) = IsKeptTail tail
HasKeptReply (part.Bare item) = Unit {0}

-- each has the form, where there is no error in their place
abbrev pub AllOk : {T : Type 0} → (T → Type 0) → Result (List T) Code → Type 0
AllOk IsForm (Ok replies) = All IsForm replies
AllOk IsForm (Err code) = Unit {0}
