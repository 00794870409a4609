use Rattle.std.proofs.Common.{refl}
use Rattle.gw_desc.proofs.DescriptorLaws.{descriptor_reads, one_descriptor}
use Rattle.gw_desc.proofs.laws.descriptors_are_read.Goals as goal

pub returns-clause-only : goal.returns-clause-only
returns-clause-only c = descriptor_reads.sound

pub returns-clause-each : goal.returns-clause-each
returns-clause-each c = λ v front rest q n. descriptor_reads.complete v front rest _ q n refl

pub returns-clause-one : goal.returns-clause-one
returns-clause-one c = one_descriptor
