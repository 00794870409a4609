use Rattle.std.proofs.Common.{◌≡◌, ◌++◌, take}
use Rattle.std.specs.List.{flat_map}
use Rattle.gw_table.specs.TableTexts.{member_text}
use Rattle.gw_table.proofs.text.write_members.Given as goal

-- the members so far are written
abbrev pub invariant-loop-name : goal.invariant-loop-name
invariant-loop-name l = l.out.items ≡ l.fn.out.items ++ flat_map member_text (take l.name-index l.members)
