use Rattle.std.proofs.Common.{sym}
use Rattle.gw_table.specs.Maps.{is_free, names}
use Rattle.gw_refusal.proofs.Matching.{matches_none}
use Rattle.gw_refusal.proofs.named.has_free.Goals as goal

pub returns-in_default : goal.returns-in_default
returns-in_default c = sym (matches_none (is_free c.args.draft.now.maps) c.args.term (names c.args.draft.now.maps) c.in_default.not-All c.in_default.not-Under)
