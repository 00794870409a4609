-- Commands that were prepared, one after another.
use Rattle.std.proofs.Common.{◌≡◌, ℕ, ◌+◌, ◌<◌, ◌≤◌, List, [], ◌∷◌, length, map, drop, get_or, set, refl, sym, ap, ◌∙◌}
use Rattle.std.proofs.Math.ListN.{drop_of_length-le}
use Rattle.std.proofs.lemmas.List.{drop-map}
use Rattle.std.proofs.lemmas.List.Elements.{All-set}
use Rattle.std.proofs.Math.Seq.{map-set_same}
use Rattle.gw_base.specs.declared.command_words.Rules.{Rules}
use Rattle.gw_msg.specs.declared.message.Command.{Command}
use Rattle.gw_cmd.specs.declared.prepared.Prepared.{Prepared}
use Rattle.gw_cmd.specs.Prepared.{ArePrepared, IsSameCommand}
use Rattle.gw_table.proofs.Folding.{rest_of}

module _ (rules : Rules) (list : List Prepared) (cs : List Command) (i : ℕ) (h : ArePrepared rules list cs) where
  -- none is left
  pub none_prepared : length list ≤ i → drop i cs ≡ []
  none_prepared le =
      let f : Prepared → Command = λ p. p.command.now in
      ap (λ (l : List Command). drop i l) (sym h.commands) ∙ drop-map f i list ∙ ap (λ (l : List Prepared). map f l) (drop_of_length-le list le)

  module _ (d : Prepared) (within : i < length list) where
    -- the next, and those behind it
    pub next_prepared : drop i cs ≡ (get_or list i d).command.now ∷ drop (i + 1) cs
    next_prepared =
        let f : Prepared → Command = λ p. p.command.now in
        ap (λ (l : List Command). drop i l) (sym h.commands) ∙ drop-map f i list ∙ ap (λ (l : List Prepared). map f l) (rest_of list i d (get_or list i d) within refl)
        ∙ ap (λ (l : List Command). f (get_or list i d) ∷ l) (sym (drop-map f (i + 1) list) ∙ ap (λ (l : List Command). drop (i + 1) l) h.commands)

    pub next_under : (get_or list i d).rules.now ≡ rules
    next_under = h.rules i d within

    -- the same command in its place
    pub still_prepared : (p : Prepared) → IsSameCommand (get_or list i d) p → ArePrepared rules (set list i p) cs
    still_prepared p same = record {
      rules = All-set (λ x. x.rules.now ≡ rules) list i p (same.rules ∙ next_under) h.rules;
      commands = map-set_same (λ x. x.command.now) list i p d same.command ∙ h.commands;
    }
