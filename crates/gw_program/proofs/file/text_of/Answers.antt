use Rattle.std.proofs.Common.{rules}
use Rattle.gw_program.proofs.Files.{whole_text}
use Rattle.gw_program.proofs.file.text_of.Goals as goal

pub returns-in-Ok-clause-held : goal.returns-in-Ok-clause-held
returns-in-Ok-clause-held g c = whole_text g.R.File.Read.remaining 16777217 c.in-Ok.text.items c.in-Ok.ensures (search rules)
