use Rattle.std.proofs.Common.{◌≡◌, ◌∙◌, ℕ, Bool, false, List, [], ◌∷◌, ◌++◌, ap}
use Rattle.std.specs.Prelude.{if◌then◌else◌}
use Rattle.gw_base.specs.NameLists.{is_in}
use Rattle.gw_ctx.specs.Contexts.{ContextRecord, joined}
use Rattle.gw_ctx.proofs.context.Context.join.Goals as goal

pub returns-clause-ok : goal.returns-clause-ok
returns-clause-ok c =
    let name : List ℕ = c.args.name in let inside = c.self.inside in
    let members : List (List ℕ) = inside.members.keys in
    let new : is_in name members ≡ false = ap (λ (r : ContextRecord). is_in name r.members) c.self.view_is ∙ c.requires in
    let last : c.insert.new.self.keys ≡ members ++ name ∷ [] = c.in_ok-insert.ensures.keys ∙ ap (λ (b : Bool). if b then members else members ++ name ∷ []) new in
    ap (λ (m : List (List ℕ)). let r : ContextRecord = record { members = m; priority = inside.priority; emergency = inside.emergency; links = inside.links } in r) last
    ∙ ap (λ (r : ContextRecord). joined name r) c.self.view_is
