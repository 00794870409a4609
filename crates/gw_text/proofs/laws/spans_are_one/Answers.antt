use Rattle.std.proofs.Common.{[]}
use Rattle.gw_text.proofs.Spans.{one_group, one_octets}
use Rattle.gw_text.proofs.laws.spans_are_one.Goals as goal

pub returns-clause-group : goal.returns-clause-group
returns-clause-group c = one_group

pub returns-clause-octets : goal.returns-clause-octets
returns-clause-octets c = λ body span other. one_octets body [] span other
