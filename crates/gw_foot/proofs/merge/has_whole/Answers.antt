use Rattle.std.proofs.Common.{◌∙◌}
use Rattle.gw_foot.proofs.Merging.{last_whole}
use Rattle.gw_foot.proofs.merge.has_whole.Goals as goal

pub returns-in-Some : goal.returns-in-Some
returns-in-Some c = c.is_whole.ensures ∙ last_whole c.args.keys.now _ c.requires c.in-Some.ensures.value
