-- A request on the part of its chain, and beside the other chains; and requests in chains one after another.
use Rattle.std.proofs.Common.{◌≡◌, ◌⊎◌, inl, inr, ℕ, eqb, nat_eq, Bool, true, false, cond, List, [], ◌∷◌, None, refl, sym, ap, subst, ◌∙◌}
use Rattle.std.specs.Prelude.{◌≢◌, filter}
use Rattle.std.proofs.lemmas.Bool.Decides.{eqb_tells}
use Rattle.gw_board.specs.declared.profile.Profile.{Profile}
use Rattle.gw_base.specs.declared.key.Key.{Key}
use Rattle.gw_base.specs.declared.key.Key.TheVariants.{Whole}
use Rattle.gw_base.specs.Keys.{has, same_key, Among}
use Rattle.gw_base.proofs.KeyTests.{any-append_cases}
use Rattle.gw_base.proofs.NamesInLists.{either}
use Rattle.gw_reply.specs.Messages.{reply_text}
use Rattle.gw_reply.specs.declared.reply.TxReply.{TxReply}
use Rattle.gw_board.specs.Texts.{Text}
use Rattle.gw_table.specs.Accesses.{Accesses, effect, Within}
use Rattle.gw_table.specs.Locality.{KeepsTo}
use Rattle.gw_table.specs.Maps.{Maps, Outcome, term, ctx}
use Rattle.gw_table.specs.Parts.{restricted}
use Rattle.gw_table.specs.Unused.{owned, AreUnused}
use Rattle.gw_table.specs.WellFormed.{AreWellFormed}
use Rattle.gw_table.proofs.Frames.{Agree, agree_less, within_alike, Alike, effect_alike, Apart, agree-apart}
use Rattle.gw_table.proofs.Localities.{part_after, part_is_all}
use Rattle.gw_table.proofs.PartLookups.{term-restricted, ctx-restricted, part_restricted, sound_whole}
use Rattle.gw_reserve.specs.Owned.{OwnedAction, AreFreeSlots, paired}
use Rattle.gw_tx.specs.Transactions.{paired_transaction}
use Rattle.gw_tx.proofs.Unowned.{front_unused, paired_later_free}
use Rattle.gw_foot.proofs.AfterAnother.{footprint_same}
use Rattle.gw_foot.proofs.OutAndBack.{part_unused}
use Rattle.gw_foot.proofs.RequestAccesses.{of_request, effect-of_request}
use Rattle.gw_foot.proofs.WithinKeys.{within_request}
use Rattle.gw_foot.proofs.WithOthers.{entries_unused, holding_keeps, part_covers}
use Rattle.gw_board.specs.Carried.{BurstRequest, keys_of, done, carried}
use Rattle.gw_board.specs.Chains.{Chained, requests_of, answers_in, IsInChain, AreChains, RunsOn, GoesByChains}
use Rattle.gw_board.specs.Results.{slots_of}
use Rattle.gw_board.proofs.Orders.{each_map}
use Rattle.gw_board.proofs.Outs.{restricted_alike}
use Rattle.gw_board.proofs.Requests.{well_after, keys_grow}

-- what a chain does by itself on its part, against the maps and answers in the end
record GoesAlone (profile : Profile) (keys : List Key) (part : Maps) (requested : List BurstRequest) (end : Maps) (answers : List Text) : Type 0 where
  runs : RunsOn profile keys part requested
  maps : restricted keys end ≡ (carried profile requested part).maps
  answer : answers ≡ (carried profile requested part).answer

-- ---- a request, and keys that have its own

module _ (profile : Profile) (a : BurstRequest) (keys : List Key) (m : Maps) (w : AreWellFormed profile.rules.members m) (f : AreFreeSlots m a.owned.slots) (among : Among (keys_of a m) keys) (none : has keys Whole ≡ false) where
  abbrev owners : List OwnedAction
  owners = paired a.request a.owned

  abbrev part : Maps
  part = restricted keys m

  no_whole : has keys Whole ≡ true → ⊥
  no_whole h = let clash : true ≡ false = sym h ∙ none in cc

  kept : KeepsTo keys (paired_transaction profile.rules a.request owners) m
  kept = holding_keeps profile.rules a.request owners m w (entries_unused a.request a.owned m f) keys among (λ h. absurd (no_whole h))

  -- each entry at another key stays
  stays : Apart keys m (done profile a m).maps
  stays = record { terms = kept.terms; contexts = kept.contexts }

  agree : Agree keys m part
  agree = record {
    terms = λ q h. sym (term-restricted keys m q ∙ ap (λ b. cond b (term m q) None) h);
    contexts = λ q h. sym (ctx-restricted keys m q ∙ ap (λ b. cond b (ctx m q) None) h);
    whole = λ h. absurd (no_whole h);
  }

  -- on the part it leaves the part of what it leaves
  part_after_it : (done profile a part).maps ≡ restricted keys (done profile a m).maps
  part_after_it =
      let p : Accesses TxReply = of_request profile.rules a.request owners in
      let is : (n : Maps) → effect p n ≡ paired_transaction profile.rules a.request owners n = effect-of_request profile.rules a.request owners in
      let here : Within keys p m = within_request profile.rules keys m a.request a.owned.contexts a.owned.slots w f (λ h. absurd (no_whole h)) among in
      let there : Within keys p part = within_alike keys p m part here agree in
      let alike : Alike keys (effect p m) (effect p part) = effect_alike keys p m part here agree in
      ap (λ (o : Outcome TxReply). o.maps) (sym (is part))
      ∙ part_is_all keys (effect p part).maps (part_after keys p part there (part_restricted keys m))
      ∙ sym (restricted_alike keys (effect p m).maps (effect p part).maps alike.agree)
      ∙ ap (λ (o : Outcome TxReply). restricted keys o.maps) (is m)

  -- before others that do so after it
  alone_first : (more : List BurstRequest) (end : Maps) (answers : List Text) → GoesAlone profile keys (restricted keys (done profile a m).maps) more end answers
      → GoesAlone profile keys part (a ∷ more) end ((done profile a m).answer ∷ answers)
  alone_first more end answers g =
      let later : GoesAlone profile keys (done profile a part).maps more end answers = subst (λ (p : Maps). GoesAlone profile keys p more end answers) (sym part_after_it) g in
      record {
        runs = (part_covers keys owners m (sound_whole profile.rules.members m w) among, part_unused keys a.owned.slots m f, later.runs);
        maps = later.maps;
        answer = λ i. reply_text profile.mid (sym kept.answer i) ∷ later.answer i;
      }

-- ---- the first of requests in chains

module _ (profile : Profile) (keys : ℕ → List Key) (m : Maps) (x : Chained) (xs : List Chained) (w : AreWellFormed profile.rules.members m) (u : AreUnused m [] (slots_of (requests_of (x ∷ xs)))) (chains : AreChains keys m (x ∷ xs)) where
  abbrev a : BurstRequest
  a = x.requested

  abbrev new : Maps
  new = (done profile a m).maps

  unused : AreFreeSlots m a.owned.slots
  unused = front_unused m (owned a.owned.slots) (slots_of (requests_of xs)) u

  rest : Apart (keys x.chain) m new
  rest = stays profile a (keys x.chain) m w unused chains.within.0 (chains.none_whole x.chain)

  -- another chain's entries stay
  others_agree : (g : ℕ) → g ≢ x.chain → Agree (keys g) m new
  others_agree g other = agree-apart (keys x.chain) (keys g) m new (chains.apart x.chain g (λ e. other (sym e))) rest

  -- the keys of a later one are among its chain's still
  in_chain : (y : Chained) → IsInChain keys m y → IsInChain keys new y
  in_chain y h = by (eqb_tells y.chain x.chain)
    where
      by : ((eqb y.chain x.chain ≡ true) × (y.chain ≡ x.chain)) ⊎ ((eqb y.chain x.chain ≡ false) × (y.chain ≢ x.chain)) → IsInChain keys new y
      by (inl s) = λ k i.
          either (any-append_cases (same_key k) (keys_of a m) (keys_of y.requested m) (keys_grow profile a m w unused y.requested k i))
          (λ j. ap (λ g. has (keys g) k) s.1 ∙ chains.within.0 k j)
          (λ j. h k j)
      by (inr s) =
          subst (λ (l : List Key). Among l (keys y.chain))
          (sym (footprint_same (paired y.requested.request y.requested.owned) m new (agree_less (keys_of y.requested m) (keys y.chain) m new h (others_agree y.chain s.1))))
          h

  chains_after : AreChains keys new xs
  chains_after = record {
    within = each_map {P = IsInChain keys m} {Q = IsInChain keys new} in_chain xs chains.within.1;
    apart = chains.apart;
    none_whole = chains.none_whole;
  }

  module _ (later : GoesByChains profile keys new xs) where
    abbrev end : Outcome (List Text)
    end = carried profile (requests_of (x ∷ xs)) m

    module _ (g : ℕ) where
      abbrev those : List Chained
      those = filter (λ y. nat_eq g y.chain) xs

      abbrev answers : List Text
      answers = answers_in g xs (carried profile (requests_of xs) new).answer

      -- by whether the first one is of this chain
      abbrev AloneIf : Bool → Type 0
      AloneIf b = GoesAlone profile (keys g) (restricted (keys g) m) (requests_of (cond b (x ∷ those) those)) end.maps (cond b ((done profile a m).answer ∷ answers) answers)

      behind : GoesAlone profile (keys g) (restricted (keys g) new) (requests_of those) end.maps answers
      behind = record { runs = later.runs g; maps = later.parts g; answer = later.answers g }

      alone : AloneIf (nat_eq g x.chain)
      alone = by (eqb_tells g x.chain)
        where
          by : ((eqb g x.chain ≡ true) × (g ≡ x.chain)) ⊎ ((eqb g x.chain ≡ false) × (g ≢ x.chain)) → AloneIf (nat_eq g x.chain)
          by (inl s) =
              subst AloneIf (sym s.0)
              (alone_first profile a (keys g) m w unused (subst (λ h. Among (keys_of a m) (keys h)) (sym s.1) chains.within.0) (chains.none_whole g) (requests_of those) end.maps answers behind)
          by (inr s) =
              subst AloneIf (sym s.0)
              (subst (λ (p : Maps). GoesAlone profile (keys g) p (requests_of those) end.maps answers) (sym (restricted_alike (keys g) m new (others_agree g s.1))) behind)

    goes_first : GoesByChains profile keys m (x ∷ xs)
    goes_first = record {
      runs = λ g. (alone g).runs;
      parts = λ g. (alone g).maps;
      answers = λ g. (alone g).answer;
      terms = λ t no. later.terms t no ∙ rest.terms t (no x.chain);
      contexts = λ n no. later.contexts n no ∙ rest.contexts n (no x.chain);
    }

-- ---- all of them

pub go_by_chains : (profile : Profile) (keys : ℕ → List Key) (m : Maps) (xs : List Chained) → AreWellFormed profile.rules.members m → AreUnused m [] (slots_of (requests_of xs)) → AreChains keys m xs → GoesByChains profile keys m xs
go_by_chains profile keys m [] w u chains = record { runs = λ g. tt; parts = λ g. refl; answers = λ g. refl; terms = λ t no. refl; contexts = λ n no. refl }
go_by_chains profile keys m (x ∷ xs) w u chains =
    let a : BurstRequest = x.requested in
    goes_first profile keys m x xs w u chains
    (go_by_chains profile keys (done profile a m).maps xs
    (well_after profile a m w (unused profile keys m x xs w u chains))
    (paired_later_free profile.rules a.request a.owned m (slots_of (requests_of xs)) u)
    (chains_after profile keys m x xs w u chains))
