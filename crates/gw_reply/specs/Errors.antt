-- The error descriptor (RFC 3525, section 7.1.19 and Annex B.2, errorDescriptor).
use Rattle.std.specs.Prelude.{ℕ, List, ◌++◌, codes, decimal}
use Rattle.gw_base.specs.Codes.{number_of, code_text}
use Rattle.gw_base.specs.declared.code.Code.{Code}
use Rattle.gw_reply.specs.Lists.{in_braces}

-- a text in quotation marks
abbrev pub quoted : List ℕ → List ℕ
quoted text = codes "\"" ++ text ++ codes "\""

-- Error=<number>{"<text>"}
abbrev pub error_text : Code → List ℕ
error_text code = codes "Error=" ++ decimal (number_of code) ++ in_braces (quoted (code_text code))
