use Rattle.std.proofs.Common.{◌≡◌, ◌++◌}
use Rattle.std.specs.List.{flat_map}
use Rattle.gw_table.specs.TableTexts.{topology_line}
use Rattle.gw_table.proofs.text.write_links.Given as goal

-- what is written and what is to come
abbrev pub invariant-loop-link : goal.invariant-loop-link
invariant-loop-link l = l.out.items ++ flat_map (topology_line l.number) l.link-iterator ≡ l.fn.out.items ++ flat_map (topology_line l.number) l.context.links
