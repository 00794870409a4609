-- What a ContextID is written as (RFC 3525, Annex B.2, ContextID).
use Rattle.std.specs.Prelude.{ℕ, List, codes, decimal}
use Rattle.gw_base.specs.declared.command_words.CtxRef.{CtxRef}
use Rattle.gw_base.specs.declared.command_words.CtxRef.TheVariants.{Null, All, Choose, Num}

-- a number is written in decimal, without leading zeros
abbrev pub context_text : CtxRef → List ℕ
context_text Null = codes "-"
context_text All = codes "*"
context_text Choose = codes "$"
context_text (Num number) = decimal number.0
