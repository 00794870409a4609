use Rattle.gw_term.proofs.KeptAudits.{audits_kept}
use Rattle.gw_term.proofs.KeptMerges.{merge_keeps, fills_keep}
use Rattle.gw_term.proofs.laws.merges_keep_forms.Goals as goal

pub returns-clause-keeps : goal.returns-clause-keeps
returns-clause-keeps c = merge_keeps

pub returns-clause-filled : goal.returns-clause-filled
returns-clause-filled c = fills_keep

pub returns-clause-read_back : goal.returns-clause-read_back
returns-clause-read_back c = audits_kept
