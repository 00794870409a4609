-- What the chains of a stretch of places come to (own): the requests of each, and what each comes to by itself.
use Rattle.std.specs.Prelude.{◌≡◌, ◌≢◌, ℕ, suc, ◌<◌, List, [], ◌∷◌, length, slice_index_or, Option, None, Some, Result, Ok, Err, IfOk}
use Rattle.gw_base.specs.declared.fault.NoMemory.{NoMemory}
use Rattle.gw_base.specs.declared.key.Key.{Key}
use Rattle.gw_table.specs.Maps.{Maps}
use Rattle.gw_table.specs.Parts.{Parted, Only, list_of, overlaid, restricted}
use Rattle.gw_board.specs.declared.profile.Profile.{Profile}
use Rattle.gw_board.specs.Carried.{BurstRequest, carried}
use Rattle.gw_board.specs.Chains.{Chained, requests_of, chain_of, answers_in}
use Rattle.gw_board.specs.Texts.{Text}

-- a chain: its keys, the maps from which it begins, and its requests in their order
pub record ChainOf : Type 0 where
  pub profile : Profile
  pub keys : List Key
  pub maps : Maps
  pub requested : List BurstRequest

-- the chains from the number n on, whose keys are these
abbrev pub chains_in : Profile → Maps → List Chained → ℕ → List (List Key) → List ChainOf
chains_in profile m xs n [] = []
chains_in profile m xs n (keys ∷ more) = record { profile = profile; keys = keys; maps = m; requested = chain_of n xs } ∷ chains_in profile m xs (suc n) more

-- the item of a chain, by its number
abbrev pub item_of : {X : Type 0} → List (List X) → ℕ → List X
item_of lists g = slice_index_or lists g []

-- a list for each of so many chains: its requests
pub record AreTasks (count : ℕ) (xs : List Chained) (lists : List (List BurstRequest)) : Type 0 where
  pub as_many : length lists ≡ count
  pub each : (g : ℕ) → g < count → item_of lists g ≡ chain_of g xs

-- ---- what a chain comes to

-- the part that it leaves of the part that has its keys, and the texts of the replies
pub record IsChainResult (c : ChainOf) (new : Parted) (replies : List Text) : Type 0 where
  pub part : new ≡ record { keys = Only c.keys; maps = (carried c.profile c.requested (restricted c.keys c.maps)).maps }
  pub texts : replies ≡ (carried c.profile c.requested (restricted c.keys c.maps)).answer

-- what a worker answers, unless memory was refused
abbrev pub ChainAnswer : Type 0
ChainAnswer = Result (Parted × List Text) NoMemory

abbrev pub IsChainAnswer : ChainOf → ChainAnswer → Type 0
IsChainAnswer c r = IfOk r (λ new. IsChainResult c new.0 new.1)

-- the parts put over the maps, one after another
abbrev pub all_overlaid : List ChainAnswer → Maps → Maps
all_overlaid [] m = m
all_overlaid (Ok new ∷ more) m = all_overlaid more (overlaid (list_of new.0.keys) new.0.maps m)
all_overlaid (Err e ∷ more) m = m

-- the texts in an answer
abbrev pub texts_in : ChainAnswer → List Text
texts_in (Ok new) = new.1
texts_in (Err e) = []

-- ---- to close the places

-- of each chain these are the texts that executing all requests one after another gives at its places
abbrev pub AreTexts : Profile → List Chained → Maps → List (List Text) → Type 0
AreTexts profile xs m texts = (g : ℕ) → item_of texts g ≡ answers_in g xs (carried profile (requests_of xs) m).answer

-- a text is the next one of a chain: it is taken from its texts, and the other chains keep theirs
pub record IsNext (g : ℕ) (old : List (List Text)) (text : Text) (new : List (List Text)) : Type 0 where
  pub first : item_of old g ≡ text ∷ item_of new g
  pub others : (h : ℕ) → h ≢ g → item_of new h ≡ item_of old h

-- the next one, or None where the chain has none left
abbrev pub TakesNext : ℕ → List (List Text) → Option Text → List (List Text) → Type 0
TakesNext g old None new = item_of old g ≡ []
TakesNext g old (Some text) new = IsNext g old text new
