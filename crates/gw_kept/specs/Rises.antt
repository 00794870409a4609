-- Requests whose numbers rise (own, for private functions): none of them comes twice in the burst.
use Rattle.std.specs.Prelude.{nat_lt, ◌≡◌, ◌≤◌, ◌+◌, ◌&&◌, ℕ, Bool, true, List, [], ◌∷◌, length, Option, Some, None}
use Rattle.circular_buffer.specs.Buffer.{keep_last}
use Rattle.gw_kept.specs.declared.entry.RequestKey.{RequestKey}
use Rattle.gw_kept.specs.declared.point.Point.{Point}
use Rattle.gw_kept.specs.declared.point.Point.TheVariants as point
use Rattle.gw_kept.specs.Classes.{Standing, keys_of, last_place, most_new}
use Rattle.gw_kept.specs.Index.{is_requested}
use Rattle.gw_kept.specs.Pairs.{KeptList, IsBounded}

-- a number is above the last one, if there was one
abbrev pub is_above : (last : Option ℕ) → ℕ → Bool
is_above None number = true
is_above (Some last) number = nat_lt last number

-- the number of each request is above that of the one before it
abbrev pub do_numbers_rise : (last : Option ℕ) → List Point → Bool
do_numbers_rise last [] = true
do_numbers_rise last (point.Request key ∷ rest) = is_above last key.id && do_numbers_rise (Some key.id) rest
do_numbers_rise last (point.Ack r ∷ rest) = do_numbers_rise last rest
do_numbers_rise last (point.Nothing ∷ rest) = do_numbers_rise last rest

-- the last so many pairs are kept, and none of a new request has the key
pub record IsApart (k : KeptList) (key : RequestKey) (s : Standing) : Type 0 where
  pub kept : s.kept ≡ keep_last k.most s.pairs
  pub last : last_place key s.pairs ≡ last_place key (keys_of k)

-- Where a burst stands of which these items are left: the last so many pairs are kept, and no key of these items has
-- one of a new request.
pub record IsTurn (k : KeptList) (s : Standing) (rest : List Point) (total : ℕ) : Type 0 where
  pub kept : s.kept ≡ keep_last k.most s.pairs
  pub size : total ≡ length s.pairs
  pub before : length k.pairs ≤ length s.pairs
  pub few : length s.pairs ≤ length k.pairs + most_new
  pub bounded : IsBounded k
  pub apart : (q : RequestKey) → is_requested q rest ≡ true → last_place q s.pairs ≡ last_place q (keys_of k)
  pub number : Option ℕ
  pub rise : do_numbers_rise number rest ≡ true
