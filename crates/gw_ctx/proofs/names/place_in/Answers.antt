use Rattle.std.proofs.Common.{rules, ◌≡◌, ◌∙◌, [], ◌∷◌, ◌++◌, ℕ, List, bytes_eq, Some, None, sym, ap}
use Rattle.std.specs.List.{position}
use Rattle.gw_ctx.proofs.Places.{found_there, name_known, name_new}
use Rattle.gw_ctx.proofs.names.place_in.Goals as goal

pub returns-in-Some-clause-there : goal.returns-in-Some-clause-there
returns-in-Some-clause-there c =
    let at : position (bytes_eq c.args.name) c.args.names.now.items ≡ Some c.in-Some.place = ap (λ (l : List (List ℕ)). position (bytes_eq c.args.name) l) (sym c.deref.ensures.value) ∙ sym c.place_of.ensures ∙ c.in-Some.is in
    found_there c.args.names.now.items c.args.name c.in-Some.place at

pub returns-in-Some-clause-names : goal.returns-in-Some-clause-names
returns-in-Some-clause-names c =
    let at : position (bytes_eq c.args.name) c.args.names.now.items ≡ Some c.in-Some.place = ap (λ (l : List (List ℕ)). position (bytes_eq c.args.name) l) (sym c.deref.ensures.value) ∙ sym c.place_of.ensures ∙ c.in-Some.is in
    sym (name_known c.args.names.now.items c.args.name c.in-Some.place at)

pub returns-clause-names : goal.returns-clause-names
returns-clause-names c =
    let names : List (List ℕ) = c.args.names.now.items in
    let at : position (bytes_eq c.args.name) names ≡ None = ap (λ (l : List (List ℕ)). position (bytes_eq c.args.name) l) (sym c.deref.ensures.value) ∙ sym c.place_of.ensures ∙ c.in_default.is in
    let pushed : c.push.new.self.items ≡ names ++ c.args.name ∷ [] = search rules in
    pushed ∙ sym (name_new names c.args.name at)
