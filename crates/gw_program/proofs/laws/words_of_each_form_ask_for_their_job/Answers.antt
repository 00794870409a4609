use Rattle.gw_program.proofs.Plain.{form_requests}
use Rattle.gw_program.proofs.laws.words_of_each_form_ask_for_their_job.Goals as goal

pub returns : goal.returns
returns c = λ words request form. form_requests words request form
