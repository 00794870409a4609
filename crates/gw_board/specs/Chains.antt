-- Requests in chains, each chain on keys of its own (own): what executing them one after another comes to, chain by
-- chain.
use Rattle.std.specs.Prelude.{◌≡◌, ◌≢◌, ℕ, nat_eq, false, cond, List, [], ◌∷◌, map, filter}
use Rattle.gw_board.specs.declared.profile.Profile.{Profile}
use Rattle.gw_base.specs.declared.ids.CtxNum.{CtxNum}
use Rattle.gw_base.specs.declared.key.Key.{Key}
use Rattle.gw_base.specs.declared.key.Key.TheVariants.{Term, Ctx, Whole}
use Rattle.gw_base.specs.Keys.{has, Among, AreApart}
use Rattle.gw_board.specs.Texts.{Text}
use Rattle.gw_table.specs.Maps.{Maps, term, ctx}
use Rattle.gw_table.specs.Parts.{Only, restricted}
use Rattle.gw_reserve.specs.Owned.{AreFreeSlots}
use Rattle.gw_tx.specs.Footprints.{Covers}
use Rattle.gw_board.specs.Carried.{BurstRequest, keys_of, done, carried}
use Rattle.gw_board.specs.Fitting.{Each}

-- a request, and the number of its chain
pub record Chained : Type 0 where
  pub chain : ℕ
  pub requested : BurstRequest

-- all of them, in order
abbrev pub requests_of : List Chained → List BurstRequest
requests_of xs = map (λ x. x.requested) xs

-- those of one chain, in order
abbrev pub chain_of : ℕ → List Chained → List BurstRequest
chain_of g xs = requests_of (filter (λ x. nat_eq g x.chain) xs)

-- of answers that run beside them, those at the chain's places
abbrev pub answers_in : ℕ → List Chained → List Text → List Text
answers_in g [] answers = []
answers_in g (x ∷ xs) [] = []
answers_in g (x ∷ xs) (t ∷ ts) = cond (nat_eq g x.chain) (t ∷ answers_in g xs ts) (answers_in g xs ts)

-- ---- which requests are in chains

-- its keys, in these maps, are among its chain's
abbrev pub IsInChain : (ℕ → List Key) → Maps → Chained → Type 0
IsInChain keys m x = Among (keys_of x.requested m) (keys x.chain)

-- each one's keys are among its chain's, no two chains share a key, and none is whole-table
pub record AreChains (keys : ℕ → List Key) (m : Maps) (xs : List Chained) : Type 0 where
  pub within : Each (IsInChain keys m) xs
  pub apart : (g h : ℕ) → g ≢ h → AreApart (keys g) (keys h)
  pub none_whole : (g : ℕ) → has (keys g) Whole ≡ false

-- ---- what follows

-- a part with these keys and maps covers each request, once those before it are executed there, and what the request
-- owns is unused there
abbrev pub RunsOn : Profile → List Key → Maps → List BurstRequest → Type 0
RunsOn profile keys m [] = Unit {0}
RunsOn profile keys m (a ∷ more) = Covers (record { keys = Only keys; maps = m }) (keys_of a m) × AreFreeSlots m a.owned.slots × RunsOn profile keys (done profile a m).maps more

-- Each chain runs by itself on the part that has its keys, and leaves that part, and gives the answers at its places,
-- as executing all requests one after another does; an entry at no chain's keys stays.
pub record GoesByChains (profile : Profile) (keys : ℕ → List Key) (m : Maps) (xs : List Chained) : Type 0 where
  pub runs : (g : ℕ) → RunsOn profile (keys g) (restricted (keys g) m) (chain_of g xs)
  pub parts : (g : ℕ) → restricted (keys g) (carried profile (requests_of xs) m).maps ≡ (carried profile (chain_of g xs) (restricted (keys g) m)).maps
  pub answers : (g : ℕ) → answers_in g xs (carried profile (requests_of xs) m).answer ≡ (carried profile (chain_of g xs) (restricted (keys g) m)).answer
  pub terms : (t : List ℕ) → ((g : ℕ) → has (keys g) (Term t) ≡ false) → term (carried profile (requests_of xs) m).maps t ≡ term m t
  pub contexts : (n : CtxNum) → ((g : ℕ) → has (keys g) (Ctx n) ≡ false) → ctx (carried profile (requests_of xs) m).maps n ≡ ctx m n
