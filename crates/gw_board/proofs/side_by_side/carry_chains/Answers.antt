use Rattle.std.proofs.Common.{◌≡◌, ◌<◌, ◌≤◌, ◌+◌, ◌-◌, ℕ, List, length, map, take, drop, sym, ap, subst, ◌∙◌, arith}
use Rattle.std.specs.Prelude.{vec_len}
use Rattle.std.specs.List.{All}
use Rattle.std.specs.Vec.Iter.{into_iter_items}
use Rattle.std.proofs.lemmas.List.{length-map}
use Rattle.gw_base.specs.declared.key.Key.{Key}
use Rattle.gw_table.specs.Maps.{Maps}
use Rattle.gw_table.specs.Stored.{Stored, maps_of}
use Rattle.gw_board.specs.BoardEntries.{place_of}
use Rattle.gw_board.specs.Carried.{carried}
use Rattle.gw_board.specs.Chained.{ChainOf, AreTexts, chains_in, texts_in}
use Rattle.gw_board.specs.Chains.{Chained, GoesByChains, requests_of}
use Rattle.gw_board.specs.GoingOn.{MayGoOn}
use Rattle.gw_board.specs.Stretches.{chained, keys_at}
use Rattle.gw_board.specs.Texts.{Text}
use Rattle.gw_board.specs.declared.board_entry.BoardEntry.{BoardEntry}
use Rattle.gw_board.specs.declared.profile.Profile.{Profile}
use Rattle.gw_board.proofs.CarriedChains.{answers_len, ends, goes, laid, texts}
use Rattle.gw_board.proofs.side_by_side.carry_chains.Goals as goal
use Rattle.gw_board.proofs.side_by_side.carry_chains.Given.{Over}
use Rattle.gw_board.proofs.side_by_side.carry_chains.Goals.{After-texts-2-1}

-- the stretch and its numbers as they are lent
lent : (profile : Profile) (m : Maps) (entries e : List BoardEntry) (first end : ℕ) (numbers l : List ℕ) (keys : List (List Key)) → e ≡ entries → l ≡ numbers → chained numbers (map place_of (take (end - first) (drop first entries))) ≡ chained l (map place_of (take (end - first) (drop first e)))
lent profile m entries e first end numbers l keys f h = λ j. chained (sym h j) (map place_of (take (end - first) (drop first (sym f j))))

made_by : (profile : Profile) (m : Maps) (e entries : List BoardEntry) (first end : ℕ) (numbers l : List ℕ) (keys : List (List Key)) (jobs : List ChainOf) (n : Maps)
    → jobs ≡ chains_in profile n (chained l (map place_of (take (end - first) (drop first e)))) 0 keys → n ≡ m → e ≡ entries → l ≡ numbers
    → jobs ≡ chains_in profile m (chained numbers (map place_of (take (end - first) (drop first entries)))) 0 keys
made_by profile m e entries first end numbers l keys jobs n made same f h =
    made
    ∙ ap (λ (x : Maps). chains_in profile x (chained l (map place_of (take (end - first) (drop first e)))) 0 keys) same
    ∙ ap (λ (xs : List Chained). chains_in profile m xs 0 keys) (sym (lent profile m entries e first end numbers l keys f h))

pub chains_with_tasks-requires-clause-goes : goal.chains_with_tasks-requires-clause-goes
chains_with_tasks-requires-clause-goes g c =
    let profile : Profile = c.args.profile.now in
    let m : Maps = c.args.draft.now.maps in
    let entries : List BoardEntry = c.args.board_entries.now.items in
    let len = c.args.board_entries.now.ok.0 in
    let inside = c.requires.inside in
    let first : ℕ = c.args.places.start in
    let end : ℕ = c.args.places.end in
    let numbers : List ℕ = c.args.chains.numbers.items in
    let keys : List (List Key) = c.args.chains.keys.items in
    let all : GoesByChains profile (keys_at keys) m (chained numbers (map place_of (take (end - first) (drop first entries)))) = goes profile c.requires.goes_on.0 m entries first end numbers keys c.requires.range (omega (arith, inside, len)) c.requires.goes_on.1 c.requires.chained in
    subst (λ (n : Maps). GoesByChains profile (keys_at keys) n (chained c.deref-2.result.now (map place_of (take (end - first) (drop first c.deref.result.now))))) (sym c.tables.ensures.maps)
    (subst (λ (xs : List Chained). GoesByChains profile (keys_at keys) m xs) (lent profile m entries c.deref.result.now first end numbers c.deref-2.result.now keys c.deref.ensures.value c.deref-2.ensures.value) all)

module _ (g : Over) (c : After-texts-2-1 g) where
  abbrev profile : Profile
  profile = c.args.profile.now

  abbrev m : Maps
  m = c.args.draft.now.maps

  abbrev entries : List BoardEntry
  entries = c.args.board_entries.now.items

  abbrev first : ℕ
  first = c.args.places.start

  abbrev end : ℕ
  end = c.args.places.end

  abbrev numbers : List ℕ
  numbers = c.args.chains.numbers.items

  abbrev keys : List (List Key)
  keys = c.args.chains.keys.items

  within : end ≤ length entries
  within = let len = c.args.board_entries.now.ok.0 in let inside = c.requires.inside in omega (arith, inside, len)

  made : c.in_ok-jobs.jobs.items ≡ chains_in profile m (chained numbers (map place_of (take (end - first) (drop first entries)))) 0 keys
  made = made_by profile m c.deref.result.now entries first end numbers c.deref-2.result.now keys c.in_ok-jobs.jobs.items (maps_of c.tables.result.now) c.in_ok-jobs.ensures c.tables.ensures.maps c.deref.ensures.value c.deref-2.ensures.value

  texts_here : (start : Stored) → MayGoOn profile start m (map place_of entries) → AreTexts profile (chained c.deref-3.result.now (drop first (map place_of entries))) m (map into_iter_items c.in_ok-texts.texts.items)
  texts_here start on =
      subst (λ (l : List ℕ). AreTexts profile (chained l (drop first (map place_of entries))) m (map into_iter_items c.in_ok-texts.texts.items)) (sym c.deref-3.ensures.value)
      (subst (λ (l : List (List Text)). AreTexts profile (chained numbers (drop first (map place_of entries))) m l) (sym c.in_ok-texts.ensures.texts)
      (texts profile start m entries first end numbers keys c.requires.range within on c.requires.chained c.in_ok-jobs.jobs.items c.in_ok-answers.answers.items made c.in_ok-answers.ensures c.in_ok-texts.ensures.ok))

  texts_len : length keys ≡ vec_len c.in_ok-texts.texts
  texts_len =
      let as_many = answers_len profile c.requires.goes_on.0 m entries first end numbers keys c.requires.range within c.requires.goes_on.1 c.requires.chained c.in_ok-jobs.jobs.items c.in_ok-answers.answers.items made c.in_ok-answers.ensures in
      let all = sym (length-map c.in_ok-texts.texts.items into_iter_items) ∙ ap length c.in_ok-texts.ensures.texts ∙ length-map c.in_ok-answers.answers.items texts_in in
      let len = c.in_ok-texts.texts.ok.0 in
      omega (arith, as_many, all, len)

pub close_chained-requires-clause-goes_on : goal.close_chained-requires-clause-goes_on
close_chained-requires-clause-goes_on g c = (profile g c, c.requires.goes_on.0, m g c, c.requires.goes_on.1, texts_here g c c.requires.goes_on.0 c.requires.goes_on.1)

pub close_chained-requires-clause-range : goal.close_chained-requires-clause-range
close_chained-requires-clause-range g c = ap (λ (l : List ℕ). c.args.places.start + length l) c.deref-3.ensures.value ∙ ends (profile g c) c.requires.goes_on.0 (m g c) (entries g c) (first g c) (end g c) (numbers g c) (keys g c) c.requires.range (within g c) c.requires.goes_on.1 c.requires.chained

pub close_chained-requires-clause-numbered : goal.close_chained-requires-clause-numbered
close_chained-requires-clause-numbered g c =
    subst (λ (l : List ℕ). All (λ k. k < vec_len c.in_ok-texts.texts) l) (sym c.deref-3.ensures.value)
    (subst (λ n. All (λ k. k < n) (numbers g c)) (texts_len g c) c.requires.chained.numbered)

pub returns-clause-goes_on : goal.returns-clause-goes_on
returns-clause-goes_on g c start on =
    let profile : Profile = c.args.profile.now in
    let m : Maps = c.args.draft.now.maps in
    let entries : List BoardEntry = c.args.board_entries.now.items in
    let first : ℕ = c.args.places.start in
    let end : ℕ = c.args.places.end in
    let numbers : List ℕ = c.args.chains.numbers.items in
    let keys : List (List Key) = c.args.chains.keys.items in
    let len = c.args.board_entries.now.ok.0 in
    let inside = c.requires.inside in
    let within : end ≤ length entries = omega (arith, inside, len) in
    let jobs : List ChainOf = c.in_ok-jobs.jobs.items in
    let made : jobs ≡ chains_in profile m (chained numbers (map place_of (take (end - first) (drop first entries)))) 0 keys =
    made_by profile m c.deref.result.now entries first end numbers c.deref-2.result.now keys jobs (maps_of c.tables.result.now) c.in_ok-jobs.ensures c.tables.ensures.maps c.deref.ensures.value c.deref-2.ensures.value in
    let maps : c.lay_all.new.draft.maps ≡ (carried profile (requests_of (chained numbers (drop first (map place_of entries)))) m).maps =
    c.in_ok-texts.ensures.maps ∙ laid profile start m entries first end numbers keys c.requires.range within on c.requires.chained jobs c.in_ok-answers.answers.items made c.in_ok-answers.ensures c.in_ok-texts.ensures.ok in
    let given : AreTexts profile (chained c.deref-3.result.now (drop first (map place_of entries))) m (map into_iter_items c.in_ok-texts.texts.items) =
    subst (λ (l : List ℕ). AreTexts profile (chained l (drop first (map place_of entries))) m (map into_iter_items c.in_ok-texts.texts.items)) (sym c.deref-3.ensures.value)
    (subst (λ (l : List (List Text)). AreTexts profile (chained numbers (drop first (map place_of entries))) m l) (sym c.in_ok-texts.ensures.texts)
    (texts profile start m entries first end numbers keys c.requires.range within on c.requires.chained jobs c.in_ok-answers.answers.items made c.in_ok-answers.ensures c.in_ok-texts.ensures.ok)) in
    subst (λ (n : Maps). MayGoOn profile start n (map place_of c.close_chained.new.board_entries.items)) (sym maps)
    (subst (λ (l : List ℕ). MayGoOn profile start (carried profile (requests_of (chained l (drop first (map place_of entries)))) m).maps (map place_of c.close_chained.new.board_entries.items)) c.deref-3.ensures.value
    (c.close_chained.ensures.goes_on profile start m on given))
