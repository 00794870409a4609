-- The chains of a range of places: they go side by side from maps on which the places may be executed.
use Rattle.std.proofs.Common.{◌≡◌, ◌≤◌, ℕ, zero, suc, ◌+◌, ◌-◌, true, cond, List, [], ◌∷◌, take, drop, map, length, refl, sym, ap, subst, ◌∙◌, arith}
use Rattle.std.specs.Prelude.{is_ok}
use Rattle.std.specs.List.{AllZip, list_all}
use Rattle.std.proofs.lemmas.List.{drop-map, length-drop, length-map, length-take-le, take-map}
use Rattle.gw_base.specs.declared.key.Key.{Key}
use Rattle.gw_table.specs.Maps.{Maps}
use Rattle.gw_table.specs.Stored.{Stored}
use Rattle.gw_table.specs.Unused.{AreUnused}
use Rattle.gw_table.specs.WellFormed.{AreWellFormed}
use Rattle.gw_board.specs.declared.board_entry.BoardEntry.{BoardEntry}
use Rattle.gw_board.specs.declared.profile.Profile.{Profile}
use Rattle.gw_board.specs.BoardEntries.{place_of}
use Rattle.gw_board.specs.Boards.{Seen}
use Rattle.gw_board.specs.Carried.{carried}
use Rattle.gw_board.specs.Chained.{ChainOf, ChainAnswer, IsChainAnswer, chains_in, all_overlaid, texts_in, AreTexts}
use Rattle.gw_board.specs.Chains.{Chained, GoesByChains, requests_of}
use Rattle.gw_board.specs.Core.{Place}
use Rattle.gw_board.specs.GoingOn.{MayGoOn}
use Rattle.gw_board.specs.Results.{slots_of}
use Rattle.gw_board.specs.Stretches.{chained, keys_at, AreChained}
use Rattle.gw_board.specs.Waves.{is_pending}
use Rattle.gw_board.proofs.ByChains.{go_by_chains}
use Rattle.gw_board.proofs.CarriedAlone.{whole_there}
use Rattle.gw_board.proofs.ChainsHere.{unused_range}
use Rattle.gw_board.proofs.ChainsLaid.{all_overlaid_is, texts_are}

-- places behind those that have a number do not count
chained_front : (numbers : List ℕ) (n : ℕ) (places : List Place) → length numbers ≤ n → chained numbers (take n places) ≡ chained numbers places
chained_front [] n places h = refl
chained_front (g ∷ numbers) zero places h = absurd (omega (arith, h))
chained_front (g ∷ numbers) (suc n) [] h = refl
chained_front (g ∷ numbers) (suc n) (p ∷ places) h = ap (λ (l : List Chained). cond (is_pending p.standing) (record { chain = g; requested = p.requested } ∷ l) l) (chained_front numbers n places (omega (arith, h)))

zip_len : {A B : Type 0} (R : A → B → Type 0) (xs : List A) (ys : List B) → AllZip R xs ys → length xs ≡ length ys
zip_len R [] [] z = refl
zip_len R [] (y ∷ ys) z = absurd z
zip_len R (x ∷ xs) [] z = absurd z
zip_len R (x ∷ xs) (y ∷ ys) z = ap suc (zip_len R xs ys z.1)

chains_len : (profile : Profile) (m : Maps) (xs : List Chained) (n : ℕ) (keys : List (List Key)) → length (chains_in profile m xs n keys) ≡ length keys
chains_len profile m xs n [] = refl
chains_len profile m xs n (k ∷ keys) = ap suc (chains_len profile m xs (suc n) keys)

module _ (profile : Profile) (start : Stored) (m : Maps) (entries : List BoardEntry) (first end : ℕ) (numbers : List ℕ) (keys : List (List Key)) (low : first ≤ end) (inside : end ≤ length entries) (on : MayGoOn profile start m (map place_of entries)) (c : AreChained numbers keys m (map place_of (take (end - first) (drop first entries)))) where
  abbrev places : List Place
  places = map place_of entries

  abbrev xs : List Chained
  xs = chained numbers (map place_of (take (end - first) (drop first entries)))

  -- those of the places from the first on
  abbrev those : List Chained
  those = chained numbers (drop first places)

  count : length numbers ≡ end - first
  count =
      c.as_many ∙ length-map (take (end - first) (drop first entries)) place_of
      ∙ length-take-le (end - first) (drop first entries) (let behind = length-drop first entries in omega (arith, behind, inside))

  pub ends : first + length numbers ≡ end
  ends = ap (λ n. first + n) count ∙ omega (arith, low)

  same : xs ≡ those
  same =
      ap (chained numbers) (sym (take-map place_of (end - first) (drop first entries)) ∙ ap (take (end - first)) (sym (drop-map place_of first entries)))
      ∙ chained_front numbers (end - first) (drop first places) (let n = count in omega (arith, n))

  well : AreWellFormed profile.rules.members m
  well =
      let b : Seen = record { profile = profile; start = start; maps = m; places = places; undo_log = on.undo_log } in
      subst (AreWellFormed profile.rules.members) (sym (whole_there b on.way on.none)) on.way.fits.well

  pub goes : GoesByChains profile (keys_at keys) m xs
  goes = go_by_chains profile (keys_at keys) m xs well (subst (λ (l : List Chained). AreUnused m [] (slots_of (requests_of l))) (sym same) (unused_range profile start m places on numbers first)) c.chains

  module _ (jobs : List ChainOf) (answers : List ChainAnswer) (made : jobs ≡ chains_in profile m xs 0 keys) (zip : AllZip IsChainAnswer jobs answers) where
    zipped : AllZip IsChainAnswer (chains_in profile m xs 0 keys) answers
    zipped = subst (λ (l : List ChainOf). AllZip IsChainAnswer l answers) made zip

    pub answers_len : length answers ≡ length keys
    answers_len = sym (zip_len IsChainAnswer (chains_in profile m xs 0 keys) answers zipped) ∙ chains_len profile m xs 0 keys

    module _ (ok : list_all is_ok answers ≡ true) where
      pub texts : AreTexts profile those m (map texts_in answers)
      texts = subst (λ (l : List Chained). AreTexts profile l m (map texts_in answers)) same (texts_are profile keys m numbers (map place_of (take (end - first) (drop first entries))) c.numbered goes answers zipped ok)

      pub laid : all_overlaid answers m ≡ (carried profile (requests_of those) m).maps
      laid = all_overlaid_is profile keys m xs goes answers zipped ok ∙ ap (λ (l : List Chained). (carried profile (requests_of l) m).maps) same
