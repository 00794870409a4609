use Rattle.std.proofs.Common.{refl, sym, ap, ◌∙◌}
use Rattle.std.specs.Prelude.{◌||◌}
use Rattle.gw_base.specs.declared.key.Key.{Key}
use Rattle.gw_base.specs.Keys.{same_key}
use Rattle.gw_board.specs.Waiting.{is_waiting}
use Rattle.gw_board.specs.declared.waiting.Waiting.{Waiting}
use Rattle.gw_board.proofs.Waits.{name_more}
use Rattle.gw_board.proofs.waiting.Waiting.add_key.Goals as goal

pub returns-in_ok-insert-in-Term-clause-keys : goal.returns-in_ok-insert-in-Term-clause-keys
returns-in_ok-insert-in-Term-clause-keys c = λ k.
    let old : Waiting = c.args.self.now in
    name_more old (record { terms = c.insert.new.self; contexts = old.contexts; is_any = old.is_any; is_whole = old.is_whole }) refl c.in-Term.name refl c.in_ok-insert-in-Term.ensures.updates.0 k
    ∙ ap (λ (x : Key). same_key k x || is_waiting old k) (sym c.in-Term.is)
