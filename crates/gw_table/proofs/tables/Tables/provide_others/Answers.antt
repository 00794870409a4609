use Rattle.std.proofs.Common.{◌≡◌, ℕ, ◌+◌, true, List, [], ◌∷◌, ◌++◌, take, sym, ap, subst, ◌∙◌}
use Rattle.std.proofs.lemmas.List.{take_more, take_all}
use Rattle.gw_base.specs.NameLists.{is_in}
use Rattle.gw_table.specs.Maps.{Maps, term}
use Rattle.gw_table.specs.Provided.{put_missing, AreAmong}
use Rattle.gw_table.specs.Stored.{maps_of}
use Rattle.gw_table.proofs.Provisioning.{AreThere, none_there, among_missing, there_missing, there_all}
use Rattle.gw_table.proofs.Provisioning.{in_at}
use Rattle.gw_table.proofs.tables.Tables.provide_others.Goals as goal

pub loop-name-init : goal.loop-name-init
loop-name-init c = record { among = c.requires.among; there = none_there (maps_of c.args.self.now); out = c.requires.out; swept = c.requires.swept }

pub loop-name-preserved : goal.loop-name-preserved
loop-name-preserved c =
    let names : List (List ℕ) = c.args.names.now in
    let i : ℕ = c.loop-name.name-index in
    let t : List ℕ = c.name-item.result in
    let m : Maps = maps_of c.loop-name.self in
    let inside : is_in t names ≡ true = in_at names i t c.loop-name-test.true c.name-item.is in
    let more : take (i + 1) names ≡ take i names ++ t ∷ [] = take_more names i t c.loop-name-test.true ∙ ap (λ (x : List ℕ). take i names ++ x ∷ []) (sym c.name-item.is) in
    let after : put_missing t m (term m t) ≡ maps_of c.provide_missing.new.self = sym c.in_ok-provide_missing.ensures.maps in
    record {
      among = subst (λ (x : Maps). AreAmong names x) after (among_missing names t m (term m t) inside c.loop-name.invariant.among);
      there = subst (λ (x : Maps). AreThere (take (i + 1) names) x) after (subst (λ (l : List (List ℕ)). AreThere l (put_missing t m (term m t))) (sym more) (there_missing names (take i names) t m c.loop-name.invariant.among c.loop-name.invariant.there));
      out = c.in_ok-provide_missing.ensures.out c.loop-name.invariant.out;
      swept = c.in_ok-provide_missing.ensures.swept c.loop-name.invariant.swept;
    }

pub returns-clause-maps : goal.returns-clause-maps
returns-clause-maps c =
    let names : List (List ℕ) = c.args.names.now in
    there_all names (maps_of c.loop-name.self) c.loop-name.invariant.among
    (subst (λ (l : List (List ℕ)). AreThere l (maps_of c.loop-name.self)) (take_all c.loop-name.name-index names c.loop-name-test.false) c.loop-name.invariant.there)
