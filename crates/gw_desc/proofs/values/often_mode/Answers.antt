use Rattle.std.proofs.Common.{rules, refl, arith, codes, Some}
use Rattle.gw_text.specs.Tokens.{token_of, is_spelling}
use Rattle.gw_desc.specs.Values.{mode_of}
use Rattle.gw_desc.specs.declared.values.Mode.TheVariants.{SendReceive, SendOnly, ReceiveOnly, Inactive}
use Rattle.gw_desc.proofs.Modes.{sent_as}
use Rattle.gw_desc.proofs.values.often_mode.Goals as goal

pub returns-in-SendReceive : goal.returns-in-SendReceive
unfolding mode_of token_of is_spelling
returns-in-SendReceive c = sent_as c.args.value.now (codes "SendReceive") (Some SendReceive) (search (rules, arith)) (search rules) refl

pub returns-in-SendOnly : goal.returns-in-SendOnly
unfolding mode_of token_of is_spelling
returns-in-SendOnly c = sent_as c.args.value.now (codes "SendOnly") (Some SendOnly) (search (rules, arith)) (search rules) refl

pub returns-in-ReceiveOnly : goal.returns-in-ReceiveOnly
unfolding mode_of token_of is_spelling
returns-in-ReceiveOnly c = sent_as c.args.value.now (codes "ReceiveOnly") (Some ReceiveOnly) (search (rules, arith)) (search rules) refl

pub returns-in-Inactive : goal.returns-in-Inactive
unfolding mode_of token_of is_spelling
returns-in-Inactive c = sent_as c.args.value.now (codes "Inactive") (Some Inactive) (search (rules, arith)) (search rules) refl

pub returns-in-SR : goal.returns-in-SR
unfolding mode_of token_of is_spelling
returns-in-SR c = sent_as c.args.value.now (codes "SR") (Some SendReceive) (search (rules, arith)) (search rules) refl

pub returns-in-SO : goal.returns-in-SO
unfolding mode_of token_of is_spelling
returns-in-SO c = sent_as c.args.value.now (codes "SO") (Some SendOnly) (search (rules, arith)) (search rules) refl

pub returns-in-RC : goal.returns-in-RC
unfolding mode_of token_of is_spelling
returns-in-RC c = sent_as c.args.value.now (codes "RC") (Some ReceiveOnly) (search (rules, arith)) (search rules) refl

pub returns-in-IN : goal.returns-in-IN
unfolding mode_of token_of is_spelling
returns-in-IN c = sent_as c.args.value.now (codes "IN") (Some Inactive) (search (rules, arith)) (search rules) refl
