use Rattle.gw_term.proofs.ByField.{by_field, keeps_unnamed}
use Rattle.gw_term.proofs.laws.merges_go_by_field.Goals as goal

pub returns-clause-fields : goal.returns-clause-fields
returns-clause-fields c = by_field

pub returns-clause-stays : goal.returns-clause-stays
returns-clause-stays c = keeps_unnamed
