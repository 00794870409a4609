-- Rows of contexts that are freed in one pass, or all at once.
use Rattle.std.proofs.Common.{◌≡◌, ℕ, List, [], Option, None, Some, refl, sym, ap, ◌∙◌}
use Rattle.std.specs.BTreeMap.{is_at}
use Rattle.std.specs.Cmp.{nat_cmp_total}
use Rattle.std.specs.FinMap as finite
use Rattle.std.specs.Map.{lookup}
use Rattle.std.specs.Ordering.{nat_cmp}
use Rattle.gw_base.proofs.Views.{seen}
use Rattle.gw_base.specs.NameLists.{name_cmp}
use Rattle.gw_ctx.specs.Contexts.{ContextRecord}
use Rattle.gw_term.specs.declared.record.Termination.{Termination}
use Rattle.gw_table.specs.declared.place.Place.{Place}
use Rattle.gw_table.specs.declared.place.Place.TheVariants.{Empty, Here, Out}
use Rattle.gw_table.specs.Stored.{Stored, stored, visible, if_visible, maps_of}
use Rattle.gw_table.proofs.Places.{shown_alike}
use Rattle.gw_table.proofs.Prepared.{shown_same}

abbrev Terms : Type 0
Terms = finite.FinMap name_cmp (Place Termination)

pub contexts_alike : (a b : Stored) → b.terms ≡ a.terms → ((n : ℕ) → finite.get b.contexts n ≡ if_visible (finite.get a.contexts n)) → maps_of b ≡ maps_of a
contexts_alike a b terms contexts = shown_alike b a (λ t. ap (λ (f : Terms). visible (finite.get f t)) terms) (λ n. ap (λ o. visible o) (contexts n.0) ∙ shown_same (finite.get a.contexts n.0))

-- ---- all places go where nothing stands in one

nothing : {A : Type 0} (o : Option (Place A)) → visible o ≡ None → if_visible o ≡ None
nothing None h = refl
nothing (Some Empty) h = refl
nothing (Some (Here a)) h = cc
nothing (Some Out) h = refl

pub cleared : (ts : List (List ℕ × Place Termination)) (es fs : List (ℕ × Place ContextRecord)) → fs ≡ [] → ((n : ℕ) → visible (lookup (is_at (nat_cmp n)) es) ≡ None)
    → (n : ℕ) → finite.get (stored ts fs).contexts n ≡ if_visible (finite.get (stored ts es).contexts n)
cleared ts es fs none stands n =
    ap (λ (l : List (ℕ × Place ContextRecord)). finite.get (stored ts l).contexts n) none ∙ seen nat_cmp_total [] n
    ∙ sym (nothing (finite.get (stored ts es).contexts n) (ap (λ o. visible o) (seen nat_cmp_total es n) ∙ stands n))
