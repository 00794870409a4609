-- A chain whose requests are executed one after another: what is left of them, and what the first of those leaves.
use Rattle.std.proofs.Common.{◌≡◌, ℕ, ◌+◌, ◌<◌, List, [], ◌∷◌, ◌++◌, length, drop, refl, sym, ap, subst, ◌∙◌}
use Rattle.std.specs.Prelude.{slice_index_or}
use Rattle.std.proofs.lemmas.List.{append_assoc, drop_more}
use Rattle.gw_base.specs.declared.key.Key.{Key}
use Rattle.gw_table.specs.Maps.{Maps}
use Rattle.gw_board.specs.declared.profile.Profile.{Profile}
use Rattle.gw_board.specs.Carried.{BurstRequest, done, carried}
use Rattle.gw_board.specs.Chains.{RunsOn}
use Rattle.gw_board.specs.Texts.{Text}

module _ (profile : Profile) (keys : List Key) (all : List BurstRequest) (part : Maps) where
  -- with these requests left, on these maps and with these texts written
  pub record IsLeft (rest : List BurstRequest) (maps : Maps) (texts : List Text) : Type 0 where
    pub runs : RunsOn profile keys maps rest
    pub end : (carried profile rest maps).maps ≡ (carried profile all part).maps
    pub answer : texts ++ (carried profile rest maps).answer ≡ (carried profile all part).answer

  pub begins_left : RunsOn profile keys part all → IsLeft all part []
  begins_left r = record { runs = r; end = refl; answer = refl }

  one_less : (a : BurstRequest) (rest : List BurstRequest) (maps : Maps) (texts : List Text) → IsLeft (a ∷ rest) maps texts → IsLeft rest (done profile a maps).maps (texts ++ (done profile a maps).answer ∷ [])
  one_less a rest maps texts l = record {
    runs = l.runs.2;
    end = l.end;
    answer = append_assoc texts ((done profile a maps).answer ∷ []) (carried profile rest (done profile a maps).maps).answer ∙ l.answer;
  }

  module _ (i : ℕ) (a : BurstRequest) (maps : Maps) (texts : List Text) (inside : i < length all) (here : a ≡ slice_index_or all i a) (l : IsLeft (drop i all) maps texts) where
    left_here : IsLeft (a ∷ drop (i + 1) all) maps texts
    left_here = subst (λ (r : List BurstRequest). IsLeft r maps texts) (drop_more all i a inside ∙ ap (λ (x : BurstRequest). x ∷ drop (i + 1) all) (sym here)) l

    pub runs_here : RunsOn profile keys maps (a ∷ drop (i + 1) all)
    runs_here = left_here.runs

    pub one_less_at : IsLeft (drop (i + 1) all) (done profile a maps).maps (texts ++ (done profile a maps).answer ∷ [])
    one_less_at = one_less a (drop (i + 1) all) maps texts left_here
