-- The table is held against the definition at each of the 256 bytes, by computing.
use Rattle.std.proofs.Common.{not, nat_eq, get_or, refl, arith}
use Rattle.std.proofs.lemmas.Bool.{agree_below_at}
use Rattle.gw_text.specs.declared.class.TheConstants.{SPACE_STARTS}
use Rattle.gw_text.specs.Lexical.{is_solid}
use Rattle.gw_text.proofs.class.is_solid_in_scan.Goals as goal

pub returns : goal.returns
returns c = agree_below_at (λ k. not (nat_eq (get_or SPACE_STARTS k 0) 44)) is_solid 256 c.args.b refl (omega arith)
