-- What a TerminationID is written as (RFC 3525, Annex B.2, TerminationID).
use Rattle.std.specs.Prelude.{ℕ, List, ◌++◌, codes}
use Rattle.gw_base.specs.declared.term_ref.TermRef.{TermRef}
use Rattle.gw_base.specs.declared.term_ref.TermRef.TheVariants.{Root, All, Choose, Under, Name, Other}

-- ROOT in capitals and Choose as $, whatever was sent (own); names and patterns as they are
abbrev pub term_text : TermRef → List ℕ
term_text Root = codes "ROOT"
term_text All = codes "*"
term_text (Under prefix) = prefix ++ codes "*"
term_text Choose = codes "$"
term_text (Name name) = name
term_text (Other pattern) = pattern
