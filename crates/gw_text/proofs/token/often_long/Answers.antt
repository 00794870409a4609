use Rattle.std.proofs.Common.{rules, refl, arith, codes, Some}
use Rattle.gw_text.proofs.TokenLemmas.{sent_as}
use Rattle.gw_text.specs.Tokens.{token_of, is_spelling}
use Rattle.gw_text.specs.declared.token.Token.TheVariants.{Add, AuditValue, Context, Events, Local, LocalControl, Media, Mode, Modify, Remote, Signals, Stream, Subtract, Transaction}
use Rattle.gw_text.proofs.token.often_long.Goals as goal

pub returns-in-Add : goal.returns-in-Add
unfolding token_of is_spelling
returns-in-Add c = sent_as c.args.word.now (codes "Add") (Some Add) (search (rules, arith)) (search rules) refl

pub returns-in-AuditValue : goal.returns-in-AuditValue
unfolding token_of is_spelling
returns-in-AuditValue c = sent_as c.args.word.now (codes "AuditValue") (Some AuditValue) (search (rules, arith)) (search rules) refl

pub returns-in-Context : goal.returns-in-Context
unfolding token_of is_spelling
returns-in-Context c = sent_as c.args.word.now (codes "Context") (Some Context) (search (rules, arith)) (search rules) refl

pub returns-in-Events : goal.returns-in-Events
unfolding token_of is_spelling
returns-in-Events c = sent_as c.args.word.now (codes "Events") (Some Events) (search (rules, arith)) (search rules) refl

pub returns-in-Local : goal.returns-in-Local
unfolding token_of is_spelling
returns-in-Local c = sent_as c.args.word.now (codes "Local") (Some Local) (search (rules, arith)) (search rules) refl

pub returns-in-LocalControl : goal.returns-in-LocalControl
unfolding token_of is_spelling
returns-in-LocalControl c = sent_as c.args.word.now (codes "LocalControl") (Some LocalControl) (search (rules, arith)) (search rules) refl

pub returns-in-Media : goal.returns-in-Media
unfolding token_of is_spelling
returns-in-Media c = sent_as c.args.word.now (codes "Media") (Some Media) (search (rules, arith)) (search rules) refl

pub returns-in-Mode : goal.returns-in-Mode
unfolding token_of is_spelling
returns-in-Mode c = sent_as c.args.word.now (codes "Mode") (Some Mode) (search (rules, arith)) (search rules) refl

pub returns-in-Modify : goal.returns-in-Modify
unfolding token_of is_spelling
returns-in-Modify c = sent_as c.args.word.now (codes "Modify") (Some Modify) (search (rules, arith)) (search rules) refl

pub returns-in-Remote : goal.returns-in-Remote
unfolding token_of is_spelling
returns-in-Remote c = sent_as c.args.word.now (codes "Remote") (Some Remote) (search (rules, arith)) (search rules) refl

pub returns-in-Signals : goal.returns-in-Signals
unfolding token_of is_spelling
returns-in-Signals c = sent_as c.args.word.now (codes "Signals") (Some Signals) (search (rules, arith)) (search rules) refl

pub returns-in-Stream : goal.returns-in-Stream
unfolding token_of is_spelling
returns-in-Stream c = sent_as c.args.word.now (codes "Stream") (Some Stream) (search (rules, arith)) (search rules) refl

pub returns-in-Subtract : goal.returns-in-Subtract
unfolding token_of is_spelling
returns-in-Subtract c = sent_as c.args.word.now (codes "Subtract") (Some Subtract) (search (rules, arith)) (search rules) refl

pub returns-in-Transaction : goal.returns-in-Transaction
unfolding token_of is_spelling
returns-in-Transaction c = sent_as c.args.word.now (codes "Transaction") (Some Transaction) (search (rules, arith)) (search rules) refl
