use Rattle.std.proofs.Common.{◌∙◌, ap, sym}
use Rattle.std.specs.Prelude.{unwrap_or, option_map, [], Option, List, ℕ}
use Rattle.std.specs.Borrow.{Bor}
use Rattle.clap.specs.Words.{found_of}
use Rattle.gw_program.proofs.Asking.{text_given}
use Rattle.gw_program.proofs.command_line.text_of.Goals as goal

pub returns-in-Some : goal.returns-in-Some
returns-in-Some c = ap (λ (o : Option (Bor (List ℕ))). unwrap_or (option_map (λ s. s.now) o) []) (sym c.in-Some.is) ∙ text_given (found_of c.args.matches.now) c.args.id.now c.get_str.result c.get_str.ensures

pub returns-in-None : goal.returns-in-None
returns-in-None c = ap (λ (o : Option (Bor (List ℕ))). unwrap_or (option_map (λ s. s.now) o) []) (sym c.in-None.is) ∙ text_given (found_of c.args.matches.now) c.args.id.now c.get_str.result c.get_str.ensures
