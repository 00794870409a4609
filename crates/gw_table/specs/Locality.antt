-- Functions from maps to new maps and an answer that keep to some of the entries (own): what executes them side by side
-- may rely on.
use Rattle.std.specs.Prelude.{◌≡◌, ℕ, false, List}
use Rattle.gw_base.specs.declared.ids.CtxNum.{CtxNum}
use Rattle.gw_base.specs.declared.key.Key.{Key}
use Rattle.gw_base.specs.declared.key.Key.TheVariants.{Term, Ctx}
use Rattle.gw_base.specs.Keys.{has}
use Rattle.gw_table.specs.Maps.{Maps, Outcome, term, ctx}
use Rattle.gw_table.specs.Parts.{restricted, overlaid}

-- On these maps the function keeps to these keys: on their entries alone it gives the same answer, and the new entries
-- put over the maps are the new maps; each entry at another key stays.
pub record KeepsTo {A : Type 0} (keys : List Key) (f : Maps → Outcome A) (m : Maps) : Type 0 where
  pub answer : (f (restricted keys m)).answer ≡ (f m).answer
  pub maps : overlaid keys (f (restricted keys m)).maps m ≡ (f m).maps
  pub terms : (t : List ℕ) → has keys (Term t) ≡ false → term (f m).maps t ≡ term m t
  pub contexts : (n : CtxNum) → has keys (Ctx n) ≡ false → ctx (f m).maps n ≡ ctx m n

-- On these maps two functions, one after the other, give the same maps in either order, and each the answer that it
-- gives first.
pub record ChangePlaces {A B : Type 0} (f : Maps → Outcome A) (g : Maps → Outcome B) (m : Maps) : Type 0 where
  pub first : (f (g m).maps).answer ≡ (f m).answer
  pub second : (g (f m).maps).answer ≡ (g m).answer
  pub maps : (g (f m).maps).maps ≡ (f (g m).maps).maps
