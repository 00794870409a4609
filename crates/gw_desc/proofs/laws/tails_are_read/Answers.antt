use Rattle.std.proofs.Common.{refl, ap}
use Rattle.gw_text.specs.SpaceScan.{skip}
use Rattle.gw_desc.proofs.TailLaws.{tail_reads}
use Rattle.gw_desc.proofs.DescriptorLaws.{one_tail}
use Rattle.gw_desc.proofs.laws.tails_are_read.Goals as goal

pub returns-clause-only : goal.returns-clause-only
returns-clause-only c = tail_reads.sound

pub returns-clause-each : goal.returns-clause-each
returns-clause-each c = λ v front rest q n. let r = tail_reads.complete v front rest _ q n refl in (r.0, r.1, ap skip r.2)

pub returns-clause-one : goal.returns-clause-one
returns-clause-one c = one_tail
