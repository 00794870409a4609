-- Each side yields its bytes in lower case.
use Rattle.std.proofs.Common.{◌≡◌, refl, rules}
use Rattle.std.specs.Char.{to_ascii_lowercase}
use Rattle.std.specs.Ordering.{nat_cmp}
use Rattle.std.proofs.lemmas.Iterator.{YieldsList-from_map, YieldsList-from_slice}
use Rattle.std.proofs.lemmas.Iterator.Consumers.{YieldsList-at}
use Rattle.std.proofs.lemmas.Iterator.Search.{cmp_from_yields_List}
use Rattle.gw_desc.proofs.checks.names.folded_order.Goals as goal

pub returns : goal.returns
returns c =
    cmp_from_yields_List (λ x y. y ≡ x) _ nat_cmp _ c.cmp.ensures.ran
    (YieldsList-from_map _ to_ascii_lowercase (YieldsList-at c.map-lower_a.ensures.source (YieldsList-from_slice c.args.a.now cc)) c.map-lower_a.ensures.closure (λ x r q k. search rules))
    (λ it e. YieldsList-at e (YieldsList-from_map _ to_ascii_lowercase (YieldsList-at c.map-lower_b.ensures.source (YieldsList-from_slice c.args.b.now cc)) c.map-lower_b.ensures.closure (λ x r q k. search rules)))
    (λ x y. refl)
