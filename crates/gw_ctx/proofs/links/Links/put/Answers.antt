use Rattle.std.proofs.Common.{◌≡◌, ◌∙◌, ℕ, List, ◌++◌, filter, sym, ap, subst}
use Rattle.gw_base.specs.declared.context_words.Link.{Link}
use Rattle.gw_ctx.specs.declared.pairs.Pair.{Pair}
use Rattle.gw_ctx.specs.Contexts.{links_beside, kept_link}
use Rattle.gw_ctx.specs.Places.{AreKept, joins_others, kept_pair, links_at, with_name}
use Rattle.gw_ctx.proofs.Places.{put_kept, put_same}
use Rattle.gw_ctx.proofs.links.Links.put.Goals as goal

pub invariant_of-self-2 : goal.invariant_of-self-2
invariant_of-self-2 c =
    let names : List (List ℕ) = c.self.inside.names.items in let pairs : List Pair = c.self.inside.pairs.items in
    let link : Link = c.args.link in let a : ℕ = c.place_in-a.result in let b : ℕ = c.place_in-b.result in
    let first : List (List ℕ) = c.place_in-a.new.names.items in let second : List (List ℕ) = c.place_in-b.new.names.items in
    let new : Pair = record { a = a; b = b; flow = link.flow } in
    let is_first : first ≡ with_name link.a names = c.place_in-a.ensures.names ∙ ap (λ (l : List (List ℕ)). with_name link.a l) c.reserve.ensures.items in
    let put : c.put_pair.new.pairs.items ≡ filter (joins_others a b) pairs ++ kept_pair new link.flow = c.put_pair.ensures ∙ ap (λ (l : List Pair). filter (joins_others a b) l ++ kept_pair new link.flow) c.reserve-2.ensures.items in
    subst (λ (l : List Pair). AreKept second l) (sym put) (put_kept names pairs c.self.invariant link first second is_first c.place_in-b.ensures.names a b c.place_in-a.ensures.below c.place_in-a.ensures.there c.place_in-b.ensures.below c.place_in-b.ensures.there)

pub returns-clause-ok : goal.returns-clause-ok
returns-clause-ok c =
    let names : List (List ℕ) = c.self.inside.names.items in let pairs : List Pair = c.self.inside.pairs.items in
    let link : Link = c.args.link in let a : ℕ = c.place_in-a.result in let b : ℕ = c.place_in-b.result in
    let first : List (List ℕ) = c.place_in-a.new.names.items in let second : List (List ℕ) = c.place_in-b.new.names.items in
    let new : Pair = record { a = a; b = b; flow = link.flow } in
    let is_first : first ≡ with_name link.a names = c.place_in-a.ensures.names ∙ ap (λ (l : List (List ℕ)). with_name link.a l) c.reserve.ensures.items in
    let put : c.put_pair.new.pairs.items ≡ filter (joins_others a b) pairs ++ kept_pair new link.flow = c.put_pair.ensures ∙ ap (λ (l : List Pair). filter (joins_others a b) l ++ kept_pair new link.flow) c.reserve-2.ensures.items in
    ap (λ (l : List Pair). links_at second l) put
    ∙ put_same names pairs c.self.invariant link first second is_first c.place_in-b.ensures.names a b c.place_in-a.ensures.below c.place_in-a.ensures.there c.place_in-b.ensures.below c.place_in-b.ensures.there
    ∙ ap (λ (l : List Link). links_beside link l ++ kept_link link link.flow) c.self.view_is
