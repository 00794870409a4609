use Rattle.std.proofs.Common.{◌≡◌, drop}
use Rattle.gw_term.specs.NameTags.{tag_of}
use Rattle.gw_term.proofs.names.name_tag.Given as goal

-- what is left does the rest
abbrev pub invariant-loop-byte : goal.invariant-loop-byte
invariant-loop-byte l = tag_of 0 l.name ≡ tag_of l.tag (drop l.byte-index l.name)
