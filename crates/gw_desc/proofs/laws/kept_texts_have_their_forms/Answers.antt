use Rattle.gw_desc.proofs.KeptForms.{octets_kept, descriptor_kept}
use Rattle.gw_desc.proofs.laws.kept_texts_have_their_forms.Goals as goal

pub returns-clause-octets : goal.returns-clause-octets
returns-clause-octets c = octets_kept

pub returns-clause-descriptor : goal.returns-clause-descriptor
returns-clause-descriptor c = descriptor_kept
