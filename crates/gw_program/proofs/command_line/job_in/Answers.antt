use Rattle.std.proofs.Common.{ap, subst, sym, ◌∙◌, List}
use Rattle.std.specs.Prelude.{IfSome, Option, option_map}
use Rattle.std.specs.Borrow.{Bor}
use Rattle.clap.specs.Words.{Row, Text, found_of, rows_of}
use Rattle.clap.specs.declared.parser.matches.ArgMatches.{ArgMatches}
use Rattle.gw_program.proofs.Asking.{command_found}
use Rattle.gw_program.specs.Words.{IsCommand}
use Rattle.gw_program.proofs.command_line.job_in.Goals as goal

abbrev seen : Option (Bor Text × Bor ArgMatches) → Option (Text × List Row)
seen = option_map (λ p. (p.0.now, rows_of (found_of p.1.now)))

pub job_of-requires : goal.job_of-requires
job_of-requires c =
    let same = ap seen (sym c.in-Some.is) ∙ command_found c.args.matches.now c.subcommand.result c.subcommand.ensures.name c.subcommand.ensures.rows in
    subst (λ (o : Option (Text × List Row)). IfSome o (λ found. IsCommand found.0)) (sym same) c.requires
