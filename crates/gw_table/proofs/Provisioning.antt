-- Tables into which configured names are put one by one.
use Rattle.std.proofs.lemmas.Grind.{common_steps}
use Rattle.std.proofs.Common.{◌≡◌, ℕ, ◌<◌, ◌≤◌, Bool, true, false, cond, List, [], ◌∷◌, ◌++◌, length, get_or, Option, None, Some, inl, inr, bytes_eq, refl, sym, ap, subst, ◌∙◌, arith}
use Rattle.std.specs.Prelude.{◌||◌, ◌⊎◌}
use Rattle.std.specs.Cmp.Lexicographic.{nat_list_cmp_total}
use Rattle.std.specs.Ordering.{nat_cmp}
use Rattle.std.specs.List.{list_any}
use Rattle.std.specs.FinMap as finite
use Rattle.std.specs.FinMap.{get-insert, get-empty}
use Rattle.gw_base.specs.declared.ids.CtxNum.{CtxNum}
use Rattle.gw_base.specs.NameLists.{name_cmp, is_in, NoDoubles}
use Rattle.gw_base.proofs.NameTests.{name_test, same_name}
use Rattle.gw_term.specs.declared.record.Termination.{Termination}
use Rattle.gw_term.specs.Record.{provisioned}
use Rattle.gw_term.specs.Limits.{HasFew}
use Rattle.gw_base.proofs.Booleans.{refuted}
use Rattle.gw_ctx.specs.Contexts.{ContextRecord}
use Rattle.gw_ctx.specs.Fitting.{IsFit}
use Rattle.gw_ctx.proofs.Fits.{fit_new}
use Rattle.gw_base.proofs.NamesInLists.{in_pushed, itself}
use Rattle.gw_table.specs.Maps.{Maps, term, ctx, put_term, context_of, members_of, place_of, no_maps, new_maps}
use Rattle.gw_table.specs.Provided.{put_missing, AreAmong}
use Rattle.gw_table.specs.Reserved.{is_reserved}
use Rattle.gw_table.specs.WellFormed.{AreWellFormed, Fits}
use Rattle.gw_table.proofs.Lookups.{term-put_term, same_maps}

-- the termination where the test holds
abbrev pub if_in : Bool → Option Termination
if_in b = cond b (Some provisioned) None

either_in : (a b : Bool) → cond a (Some provisioned) (if_in b) ≡ if_in (a || b)
either_in a b = grind arith

term-new_maps : (names : List (List ℕ)) (q : List ℕ) → term (new_maps names) q ≡ if_in (is_in q names)
term-new_maps [] q = get-empty name_cmp q
term-new_maps (t ∷ ts) q =
    get-insert nat_list_cmp_total (new_maps ts).terms t provisioned q
    ∙ ap (λ b. cond b (Some provisioned) (term (new_maps ts) q)) (name_test q t)
    ∙ ap (cond (bytes_eq q t) (Some provisioned)) (term-new_maps ts q)
    ∙ either_in (bytes_eq q t) (is_in q ts)

same_contexts : (m : Maps) (t : List ℕ) (o : Option Termination) → (put_term m t o).contexts ≡ m.contexts
same_contexts m t o = grind arith

pub among_nothing : (names : List (List ℕ)) → AreAmong names no_maps
among_nothing names = record { terms = λ q r e. let none : None ≡ Some r = sym (get-empty name_cmp q) ∙ e in absurd cc; contexts = refl }

-- one more of the names
pub among_put : (names : List (List ℕ)) (t : List ℕ) (m : Maps) → is_in t names ≡ true → AreAmong names m → AreAmong names (put_term m t (Some provisioned))
among_put names t m inside among = record {
  terms = λ q r e. by q r (bytes_eq q t) refl (sym (term-put_term m t (Some provisioned) q) ∙ e);
  contexts = same_contexts m t (Some provisioned) ∙ among.contexts;
}
  where
    by : (q : List ℕ) (r : Termination) (b : Bool) → bytes_eq q t ≡ b → cond b (Some provisioned) (term m q) ≡ Some r → (r ≡ provisioned) × (is_in q names ≡ true)
    by q r true same e = (let is : provisioned ≡ r = cc in sym is, ap (λ (x : List ℕ). is_in x names) (same_name q t same) ∙ inside)
    by q r false other e = among.terms q r e

pub among_missing : (names : List (List ℕ)) (t : List ℕ) (m : Maps) (o : Option Termination) → is_in t names ≡ true → AreAmong names m → AreAmong names (put_missing t m o)
among_missing names t m None inside among = among_put names t m inside among
among_missing names t m (Some r) inside among = among

-- the first of the names have their terminations
abbrev pub AreThere : List (List ℕ) → Maps → Type 0
AreThere front m = (q : List ℕ) → is_in q front ≡ true → term m q ≡ Some provisioned

pub none_there : (m : Maps) → AreThere [] m
none_there m q h = absurd cc

-- one more of them
pub there_missing : (names front : List (List ℕ)) (t : List ℕ) (m : Maps) → AreAmong names m → AreThere front m → AreThere (front ++ t ∷ []) (put_missing t m (term m t))
there_missing names front t m among there q h = by (term m t) refl (in_pushed q t front h)
  where
    stands : (r : Termination) → term m t ≡ Some r → term m t ≡ Some provisioned
    stands r e = e ∙ ap (λ (x : Termination). Some x) (among.terms t r e).0

    by : (o : Option Termination) → term m t ≡ o → (is_in q front ≡ true) ⊎ (bytes_eq q t ≡ true) → term (put_missing t m o) q ≡ Some provisioned
    by None e (inl before) = term-put_term m t (Some provisioned) q ∙ ap (λ x. cond (bytes_eq q t) (Some provisioned) x) (there q before) ∙ alike (bytes_eq q t)
      where
        alike : (b : Bool) → cond b (Some provisioned) (Some provisioned) ≡ Some provisioned
        alike true = refl
        alike false = refl
    by None e (inr same) = term-put_term m t (Some provisioned) q ∙ ap (λ b. cond b (Some provisioned) (term m q)) same
    by (Some r) e (inl before) = there q before
    by (Some r) e (inr same) = ap (λ (x : List ℕ). term m x) (same_name q t same) ∙ stands r e

-- all of them make the new tables
pub there_all : (names : List (List ℕ)) (m : Maps) → AreAmong names m → AreThere names m → m ≡ new_maps names
there_all names m among there =
    same_maps m (new_maps names) (λ q. by q (term m q) refl (is_in q names) refl ∙ sym (term-new_maps names q)) (λ q. ap (λ (c : finite.FinMap nat_cmp ContextRecord). finite.get c q.0) among.contexts)
  where
    by : (q : List ℕ) (o : Option Termination) → term m q ≡ o → (b : Bool) → is_in q names ≡ b → term m q ≡ if_in (is_in q names)
    by q o e true h = there q h ∙ sym (ap (λ b. if_in b) h)
    by q None e false h = e ∙ sym (ap (λ b. if_in b) h)
    by q (Some r) e false h = let clash : true ≡ false = sym (among.terms q r e).1 ∙ h in absurd cc

-- a reserved name is not among names that are not
not_listed : (names : List (List ℕ)) (t : List ℕ) → list_any is_reserved names ≡ false → is_reserved t ≡ true → is_in t names ≡ false
not_listed [] t free h = refl
not_listed (x ∷ xs) t free h = by_first (bytes_eq t x) refl (is_reserved x) refl (λ more. not_listed xs t more h)
  where
    by_first : (b : Bool) → bytes_eq t x ≡ b → (d : Bool) → is_reserved x ≡ d → (list_any is_reserved xs ≡ false → is_in t xs ≡ false) → b || is_in t xs ≡ false
    by_first true a d e others = let same : is_reserved x ≡ true = ap (λ (y : List ℕ). is_reserved y) (sym (same_name t x a)) ∙ h in absurd (let clash : true ≡ false = sym (ap (λ b. b || list_any is_reserved xs) same) ∙ free in cc)
    by_first false a true e others = absurd (let clash : true ≡ false = sym (ap (λ b. b || list_any is_reserved xs) e) ∙ free in cc)
    by_first false a false e others = others (sym (ap (λ b. b || list_any is_reserved xs) e) ∙ free)

-- and these are well-formed
pub new_maps_fit : (limit : ℕ) (names : List (List ℕ)) → list_any is_reserved names ≡ false → AreWellFormed limit (new_maps names)
new_maps_fit limit names free = record {
  recorded = λ t n h. let off : is_in t (members_of (ctx (new_maps names) n)) ≡ false = ap (λ o. is_in t (members_of o)) (no_context n) in absurd (let clash : true ≡ false = sym h ∙ off in cc);
  once = λ n. subst (λ o. NoDoubles (members_of o)) (sym (no_context n)) tt;
  listed = λ t n e. absurd (nowhere (is_in t names) n (ap (λ o. place_of o) (sym (term-new_maps names t)) ∙ e));
  some = λ n c e. let clash : None ≡ Some c = sym (no_context n) ∙ e in absurd cc;
  few = λ n. subst (λ o. length (members_of o) ≤ limit) (sym (no_context n)) (omega arith);
  fit = λ n. subst (λ o. IsFit (context_of o)) (sym (no_context n)) fit_new;
  named = λ t r e. named t r (is_in t names) refl (sym (term-new_maps names t) ∙ e);
  modest = λ t r e. modest r (is_in t names) (sym (term-new_maps names t) ∙ e);
}
  where
    named : (t : List ℕ) (r : Termination) (b : Bool) → is_in t names ≡ b → if_in b ≡ Some r → Fits t r.slot
    named t r false i e = absurd cc
    named t r true i e =
        let same : provisioned ≡ r = cc in
        subst (λ (x : Termination). Fits t x.slot) same (refuted (is_reserved t) (λ h. let clash : true ≡ false = sym i ∙ not_listed names t free h in cc))

    modest : (r : Termination) (b : Bool) → if_in b ≡ Some r → HasFew r
    modest r false e = absurd cc
    modest r true e = let same : provisioned ≡ r = cc in subst HasFew same (record { properties = omega arith; streams = record { first = tt; second = tt; third = tt; fourth = tt } })

    no_context : (n : CtxNum) → ctx (new_maps names) n ≡ None
    no_context n = get-empty nat_cmp n.0

    nowhere : (b : Bool) (n : CtxNum) → place_of (if_in b) ≡ Some n → ⊥
    nowhere true n e = cc
    nowhere false n e = cc

-- ---- one of a list

pub in_at : (names : List (List ℕ)) (i : ℕ) (t : List ℕ) → i < length names → t ≡ get_or names i t → is_in t names ≡ true
in_at names i t h e = grind (arith, common_steps, itself)
