-- States that fit together (own): there are whole maps, from which what is out is missing, and no open job is in the
-- way of an earlier place that is not closed.
use Rattle.std.specs.Prelude.{◌≡◌, List, [], ◌∷◌, flat_map, Some}
use Rattle.gw_board.specs.declared.profile.Profile.{Profile}
use Rattle.gw_base.specs.declared.key.Key.{Key}
use Rattle.gw_base.specs.Keys.{AreApart}
use Rattle.gw_board.specs.Texts.{Text}
use Rattle.gw_table.specs.Maps.{Maps, Outcome}
use Rattle.gw_table.specs.Parts.{restricted, cut}
use Rattle.gw_table.specs.WellFormed.{AreWellFormed}
use Rattle.gw_reserve.specs.Owned.{AreFreeSlots}
use Rattle.gw_foot.specs.OwnsUnused.{OwnOthers}
use Rattle.gw_board.specs.Carried.{BurstRequest, keys_of, done}
use Rattle.gw_board.specs.Core.{Standing, Pending, Opened, Closed, Job, Place, Core, AreKeysOf}

-- ---- lists

-- each item has the property
abbrev pub Each : {X : Type 0} → (X → Type 0) → List X → Type 0
Each P [] = Unit {0}
Each P (x ∷ xs) = P x × Each P xs

-- so has each item, and each stands in the relation to each later one
abbrev pub InOrder : {X : Type 0} → (X → Type 0) → (X → X → Type 0) → List X → Type 0
InOrder P R [] = Unit {0}
InOrder P R (x ∷ xs) = P x × Each (R x) xs × InOrder P R xs

-- ---- what is out

abbrev pub out_at : Standing → List Key
out_at Pending = []
out_at (Opened j) = j.keys
out_at (Closed reply) = []

abbrev pub out : List Place → List Key
out places = flat_map (λ p. out_at p.standing) places

-- ---- a place

-- the job of a request, as it is in the whole maps
pub record IsJobOf (profile : Profile) (a : BurstRequest) (m : Maps) (j : Job) : Type 0 where
  pub keys : AreKeysOf a m j.keys
  pub part : j.part ≡ restricted j.keys m
  pub result : (o : Outcome Text) → j.result ≡ Some o → o ≡ done profile a j.part

-- what a request owns is unused until its place is closed
abbrev pub Fits : Profile → BurstRequest → Maps → Standing → Type 0
Fits profile a m Pending = AreFreeSlots m a.owned.slots
Fits profile a m (Opened j) = AreFreeSlots m a.owned.slots × IsJobOf profile a m j
Fits profile a m (Closed reply) = Unit {0}

abbrev pub Stands : Profile → Maps → Place → Type 0
Stands profile m p = Fits profile p.requested m p.standing

-- ---- and a later one

-- the two own other slots
abbrev pub Differ : Place → Place → Type 0
Differ p q = OwnOthers p.requested.owned.slots q.requested.owned.slots

-- what holds of a place that is not closed
abbrev pub UnlessClosed : Standing → Type 0 → Type 0
UnlessClosed Pending T = T
UnlessClosed (Opened j) T = T
UnlessClosed (Closed reply) T = Unit {0}

-- a place that is not closed keeps apart from a later open job
abbrev pub KeepsApart : BurstRequest → Maps → Standing → Standing → Type 0
KeepsApart a m x Pending = Unit {0}
KeepsApart a m x (Opened j) = UnlessClosed x (AreApart (keys_of a m) j.keys)
KeepsApart a m x (Closed reply) = Unit {0}

pub record Beside (m : Maps) (p q : Place) : Type 0 where
  pub differ : Differ p q
  pub apart : KeepsApart p.requested m p.standing q.standing

abbrev pub Stand : Profile → Maps → List Place → Type 0
Stand profile m places = InOrder (Stands profile m) (Beside m) places

-- ---- a state

pub record FitsTogether (profile : Profile) (s : Core) : Type 0 where
  pub whole : Maps
  pub well : AreWellFormed profile.rules.members whole
  pub maps : s.maps ≡ cut (out s.places) whole
  pub stand : Stand profile whole s.places
