use Rattle.gw_config.proofs.Values.{number_line}
use Rattle.gw_config.proofs.forms.number_behind.Goals as goal

pub returns : goal.returns
returns c = number_line c.args.keyword.now c.in_ok-behind.field-0.now c.args.line.now c.number_of.result c.in_ok-behind.ensures c.number_of.ensures
