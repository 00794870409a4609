-- What lawful events keep: there are whole maps, of which the maps are without what is out.
use Rattle.std.proofs.Common.{List, [], ◌∷◌, ◌++◌, sym}
use Rattle.gw_board.specs.declared.profile.Profile.{Profile}
use Rattle.gw_base.specs.Keys.{AreApart}
use Rattle.gw_base.proofs.KeyTests.{apart_turned}
use Rattle.gw_table.specs.Maps.{Maps}
use Rattle.gw_board.specs.Carried.{BurstRequest, keys_of}
use Rattle.gw_board.specs.Core.{Standing, Pending, Opened, Closed, Place, Job, open_with}
use Rattle.gw_board.proofs.Orders.{each_map, each_both, each_in, front_in, behind_in, earlier_in}
use Rattle.gw_board.proofs.Outs.{SameKeys, apart_left, ApartAt, ApartFromOpen}
use Rattle.gw_board.specs.Fitting.{Each, Fits, Stands, UnlessClosed, KeepsApart, Beside, Stand}

-- ---- pairs of places

pub apart_as : (a : BurstRequest) (m : Maps) (x new : Standing) → ((T : Type 0) → UnlessClosed x T → UnlessClosed new T) → (y : Standing) → KeepsApart a m x y → KeepsApart a m new y
apart_as a m x new f Pending h = tt
apart_as a m x new f (Opened j) h = f (AreApart (keys_of a m) j.keys) h
apart_as a m x new f (Closed reply) h = tt

abbrev pub Any : Place → Type 0
Any p = Unit {0}

pub each_any : (places : List Place) → Each Any places
each_any [] = tt
each_any (p ∷ ps) = (tt, each_any ps)

-- ---- an open job is apart from all others that are open

module _ (profile : Profile) (m : Maps) (a : BurstRequest) (j : Job) (same : SameKeys j.keys (keys_of a m)) where
  apart_later : (y : Standing) → KeepsApart a m (Opened j) y → ApartAt j.keys y
  apart_later Pending h = tt
  apart_later (Opened k) h = apart_left (keys_of a m) j.keys k.keys (λ q. sym (same q)) h
  apart_later (Closed reply) h = tt

  apart_earlier : (b : BurstRequest) (y : Standing) → Fits profile b m y → KeepsApart b m y (Opened j) → ApartAt j.keys y
  apart_earlier b Pending f h = tt
  apart_earlier b (Opened k) f h = apart_turned k.keys j.keys (apart_left (keys_of b m) k.keys j.keys (λ q. sym (f.1.keys q)) h)
  apart_earlier b (Closed reply) f h = tt

  module _ (before after : List Place) (h : Stand profile m (before ++ open_with a j ∷ after)) where
    pub apart_before : Each (ApartFromOpen j.keys) before
    apart_before =
        each_both {P = Stands profile m} {Q = λ y. Beside m y (open_with a j)} {S = ApartFromOpen j.keys} (λ y f r. apart_earlier y.requested y.standing f r.apart) before
        (each_in (Stands profile m) (Beside m) before (front_in (Stands profile m) (Beside m) before (open_with a j ∷ after) h))
        (earlier_in (Stands profile m) (Beside m) before after (open_with a j) h)

    pub apart_behind : Each (ApartFromOpen j.keys) after
    apart_behind = each_map {P = Beside m (open_with a j)} {Q = ApartFromOpen j.keys} (λ y r. apart_later y.standing r.apart) after (behind_in (Stands profile m) (Beside m) before (open_with a j ∷ after) h).1
