-- Parts of tables: their keys, and the entries that they show (own).
use Rattle.std.specs.Prelude.{◌≡◌, ℕ, Bool, true, not, List, [], ◌∷◌, Option, None, Some, ◌⊎◌, refl}
use Rattle.std.specs.Option.{is_some}
use Rattle.std.proofs.Common.{inl, inr}
use Rattle.std.specs.FinMap as finite
use Rattle.std.specs.Coded.{Coded, code_by, coded×, coded⊎, coded_list, coded_option, coded_ℕ}
use Rattle.gw_base.specs.declared.ids.CtxNum.{CtxNum}
use Rattle.gw_base.specs.declared.key.Key.{Key}
use Rattle.gw_base.specs.declared.key.Key.TheVariants.{Term, Ctx, Whole}
use Rattle.gw_base.specs.Keys.{has}
use Rattle.gw_table.specs.Maps.{Maps, term, ctx, put_term, put_ctx, coded_maps}
use Rattle.gw_table.specs.Stored.{Stored, nothing_stored, coded_stored}

-- the keys of a part: each key that there is, or these alone; or each key, of tables that were these at the start
pub data PartKeys : Type 0 where
  Every : PartKeys
  Only : List Key → PartKeys
  Over : Stored → PartKeys

-- the keys, where they are listed
abbrev pub list_of : PartKeys → List Key
list_of Every = []
list_of (Only keys) = keys
list_of (Over s) = []

-- the tables at the start, where there are such
abbrev pub start_of : PartKeys → Stored
start_of Every = nothing_stored
start_of (Only keys) = nothing_stored
start_of (Over s) = s

-- the key is the part's
abbrev pub holds : PartKeys → Key → Bool
holds Every k = true
holds (Only keys) k = has keys k
holds (Over s) k = true

-- the part has the key of a context, if there is one
abbrev pub HoldsPlace : PartKeys → Option CtxNum → Type 0
HoldsPlace keys None = Unit {0}
HoldsPlace keys (Some n) = holds keys (Ctx n) ≡ true

-- each of these keys is the part's
abbrev pub Holds : PartKeys → List Key → Type 0
Holds part keys = (k : Key) → has keys k ≡ true → holds part k ≡ true

-- a part: its keys, and maps with no entry at any other key
pub record Parted : Type 0 where
  pub keys : PartKeys
  pub maps : Maps

-- there is no entry at any other key
pub record IsPart (keys : PartKeys) (m : Maps) : Type 0 where
  pub terms : (t : List ℕ) → is_some (term m t) ≡ true → holds keys (Term t) ≡ true
  pub contexts : (n : CtxNum) → is_some (ctx m n) ≡ true → holds keys (Ctx n) ≡ true

-- the entries at these keys
abbrev pub restricted : List Key → Maps → Maps
restricted keys m = record { terms = finite.retain_keys m.terms (λ t. has keys (Term t)); contexts = finite.retain_keys m.contexts (λ n. has keys (Ctx (record { 0 = n }))) }

-- the entries at all other keys
abbrev pub cut : List Key → Maps → Maps
cut keys m = record { terms = finite.retain_keys m.terms (λ t. not (has keys (Term t))); contexts = finite.retain_keys m.contexts (λ n. not (has keys (Ctx (record { 0 = n })))) }

-- a part put over the maps: each of the keys has the part's entry, and none where the part has none
abbrev pub overlaid : List Key → Maps → Maps → Maps
overlaid [] part m = m
overlaid (Term t ∷ keys) part m = put_term (overlaid keys part m) t (term part t)
overlaid (Ctx n ∷ keys) part m = put_ctx (overlaid keys part m) n (ctx part n)
overlaid (Whole ∷ keys) part m = overlaid keys part m

-- ---- codes, by which values of models are distinguished

abbrev keyed : Key → List ℕ ⊎ (ℕ ⊎ ℕ)
keyed (Term t) = inl t
keyed (Ctx n) = inr (inl n.0)
keyed Whole = inr (inr 0)

abbrev key_of : List ℕ ⊎ (ℕ ⊎ ℕ) → Key
key_of (inl t) = Term t
key_of (inr (inl n)) = Ctx (record { 0 = n })
key_of (inr (inr k)) = Whole

abbrev same_keyed : (k : Key) → key_of (keyed k) ≡ k
same_keyed (Term t) = refl
same_keyed (Ctx n) = refl
same_keyed Whole = refl

abbrev pub coded_key : Coded Key
coded_key = code_by (List ℕ ⊎ (ℕ ⊎ ℕ)) (coded⊎ (coded_list coded_ℕ) (coded⊎ coded_ℕ coded_ℕ)) keyed key_of same_keyed

abbrev listed : PartKeys → Option (List Key) ⊎ Stored
listed Every = inl None
listed (Only keys) = inl (Some keys)
listed (Over s) = inr s

abbrev keys_of : Option (List Key) ⊎ Stored → PartKeys
keys_of (inl None) = Every
keys_of (inl (Some keys)) = Only keys
keys_of (inr s) = Over s

abbrev same_listed : (p : PartKeys) → keys_of (listed p) ≡ p
same_listed Every = refl
same_listed (Only keys) = refl
same_listed (Over s) = refl

abbrev coded_part_keys : Coded PartKeys
coded_part_keys = code_by (Option (List Key) ⊎ Stored) (coded⊎ (coded_option (coded_list coded_key)) coded_stored) listed keys_of same_listed

abbrev pub coded_part : Coded Parted
coded_part = code_by (PartKeys × Maps) (coded× coded_part_keys coded_maps) (λ p. (p.keys, p.maps)) (λ t. record { keys = t.0; maps = t.1 }) (λ _. refl)
