use Rattle.std.proofs.Common.{◌≡◌, ◌∙◌, ℕ, List, length, bytes_eq, get_or, map, filter, Some, arith, sym, ap}
use Rattle.std.specs.List.{position}
use Rattle.gw_base.specs.declared.context_words.Link.{Link}
use Rattle.gw_ctx.specs.declared.pairs.Pair.{Pair}
use Rattle.gw_ctx.specs.Contexts.{links_without}
use Rattle.gw_ctx.specs.Places.{AreKept, is_off, links_at, renumbered}
use Rattle.gw_ctx.proofs.Places.{gone_there, without_none}
use Rattle.gw_ctx.proofs.links.Links.drop_of.Goals as goal

-- what is left of the links: the last name has taken the place
left : (c : goal.After-drop_at) → AreKept c.swap_remove.new.self.items c.drop_at.new.pairs.items × (links_at c.swap_remove.new.self.items c.drop_at.new.pairs.items ≡ links_without c.args.name.now (links_at c.self.inside.names.items c.self.inside.pairs.items))
left c =
    let names : List (List ℕ) = c.self.inside.names.items in let pairs : List Pair = c.self.inside.pairs.items in
    let others : List Pair = filter (is_off c.in-Some.place) pairs in
    let new : c.swap_remove.new.self.len ≡ length c.swap_remove.new.self.items = c.swap_remove.new.self.ok.0 in
    let old : c.self.inside.names.len ≡ length names = c.self.inside.names.ok.0 in
    let at : position (bytes_eq c.args.name.now) names ≡ Some c.in-Some.place = ap (λ (l : List (List ℕ)). position (bytes_eq c.args.name.now) l) (sym c.deref.ensures.value) ∙ sym c.place_of.ensures ∙ c.in-Some.is in
    gone_there names pairs c.self.invariant c.args.name.now c.in-Some.place at c.swap_remove.new.self.items
    (record {
      fewer = omega (arith, c.swap_remove.ensures.len, new, old);
      taken = λ d h. c.swap_remove.ensures.by_index.0 d (omega (arith, h, old)) ∙ ap (λ (k : ℕ). get_or names k d) (omega (arith, old));
      others = λ k d n h. c.swap_remove.ensures.by_index.1 k d n (omega (arith, h, old));
    })
    c.drop_at.new.pairs.items (c.drop_at.ensures ∙ ap (λ (k : ℕ). map (renumbered k c.in-Some.place) others) (c.len.ensures ∙ new))

pub invariant_of-self : goal.invariant_of-self
invariant_of-self c = (left c).0

pub returns-in-Some : goal.returns-in-Some
returns-in-Some c = (left c).1 ∙ ap (λ (l : List Link). links_without c.args.name.now l) c.self.view_is

pub returns-in_default : goal.returns-in_default
returns-in_default c = grind (arith, without_none)
