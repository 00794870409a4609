-- What contexts do keeps their properties fit.
use Rattle.std.proofs.lemmas.Grind.{common_steps}
use Rattle.std.proofs.Common.{◌≡◌, ℕ, ◌≤◌, Bool, true, false, List, [], ◌∷◌, ◌++◌, get_or, filter, All, bytes_eq, sym, subst, arith}
use Rattle.std.proofs.lemmas.List.{append-nil}
use Rattle.std.specs.Prelude.{◌≢◌, ◌||◌, not, AllPairs}
use Rattle.std.proofs.lemmas.List.Elements.{All-filter, All-push, filter_passes}
use Rattle.std.proofs.lemmas.List.Kept.{AllPairs-filter}
use Rattle.std.proofs.lemmas.List.Quantifiers.{all_pairs_push}
use Rattle.gw_base.specs.NameLists.{is_in}
use Rattle.gw_base.specs.declared.context_words.Flow.{Flow}
use Rattle.gw_base.specs.declared.context_words.Flow.TheVariants.{Bothway, Isolate, Oneway}
use Rattle.gw_base.specs.declared.context_words.Link.{Link}
use Rattle.gw_base.proofs.NamesInLists.{other_way, stays_without}
use Rattle.gw_ctx.specs.Contexts.{ContextRecord, new_context, joined, left, prioritized, with_emergency, linked, is_apart_from, is_other_pair, links_beside, kept_link}
use Rattle.gw_ctx.specs.Fitting.{priority_max, Joins, IsFit}

pub fit_new : IsFit new_context
fit_new = record { priority = omega arith; joins = λ k d h. absurd (omega arith); pairs = λ i j d h l. absurd (omega arith) }

pub fit_joined : (t : List ℕ) (c : ContextRecord) → IsFit c → IsFit (joined t c)
fit_joined t c f = grind (arith, common_steps)

-- the name is neither of the two
neither_of : (a b : Bool) → not (a || b) ≡ true → (a ≡ false) × (b ≡ false)
neither_of a b h = grind arith

pub fit_left : (t : List ℕ) (c : ContextRecord) → IsFit c → IsFit (left t c)
fit_left t c f = record {
  priority = f.priority;
  joins = λ k d h.
      let l : Link = get_or (filter (is_apart_from t) c.links) k d in
      let j : Joins c.members l = All-filter (is_apart_from t) (Joins c.members) c.links f.joins k d h in
      let n = neither_of (bytes_eq t l.a) (bytes_eq t l.b) (filter_passes (is_apart_from t) c.links k d h) in
      record { first = stays_without t l.a c.members (other_way t l.a n.0) j.first; second = stays_without t l.b c.members (other_way t l.b n.1) j.second; apart = j.apart; not_bothway = j.not_bothway };
  pairs = AllPairs-filter (λ k l. is_other_pair l k ≡ true) (is_apart_from t) c.links f.pairs;
}

pub fit_prioritized : (p : ℕ) (c : ContextRecord) → p ≤ priority_max → IsFit c → IsFit (prioritized p c)
fit_prioritized p c h f = record { priority = h; joins = f.joins; pairs = f.pairs }

pub fit_marked : (b : Bool) (c : ContextRecord) → IsFit c → IsFit (with_emergency b c)
fit_marked b c f = record { priority = f.priority; joins = f.joins; pairs = f.pairs }

pub fit_linked : (l : Link) (c : ContextRecord) → is_in l.a c.members ≡ true → is_in l.b c.members ≡ true → bytes_eq l.a l.b ≡ false → IsFit c → IsFit (linked l c)
fit_linked l c a b two f = record { priority = f.priority; joins = joins l.flow (λ e. e); pairs = pairs l.flow }
  where
    beside : List Link
    beside = links_beside l c.links

    old : All (Joins c.members) beside
    old = All-filter (is_other_pair l) (Joins c.members) c.links f.joins

    apart : AllPairs (λ k n. is_other_pair n k ≡ true) beside
    apart = AllPairs-filter (λ k n. is_other_pair n k ≡ true) (is_other_pair l) c.links f.pairs

    new : l.flow ≢ Bothway → Joins c.members l
    new h = record { first = a; second = b; apart = two; not_bothway = h }

    one_more : l.flow ≢ Bothway → All (Joins c.members) (beside ++ l ∷ [])
    one_more h = All-push (Joins c.members) beside l old (new h)

    joins : (w : Flow) → (l.flow ≡ Bothway → w ≡ Bothway) → All (Joins c.members) (beside ++ kept_link l w)
    joins Bothway h = subst (All (Joins c.members)) (sym (append-nil beside)) old
    joins Isolate h = one_more (λ e. let clash : Isolate ≡ Bothway = h e in cc)
    joins Oneway h = one_more (λ e. let clash : Oneway ≡ Bothway = h e in cc)

    pairs : (w : Flow) → AllPairs (λ k n. is_other_pair n k ≡ true) (beside ++ kept_link l w)
    pairs Bothway = subst (AllPairs (λ k n. is_other_pair n k ≡ true)) (sym (append-nil beside)) apart
    pairs Isolate = all_pairs_push (λ k n. is_other_pair n k ≡ true) beside l apart (filter_passes (is_other_pair l) c.links)
    pairs Oneway = all_pairs_push (λ k n. is_other_pair n k ≡ true) beside l apart (filter_passes (is_other_pair l) c.links)
