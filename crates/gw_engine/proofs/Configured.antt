-- Configurations: limits that are kept, and names that are given once.
use Rattle.std.proofs.Common.{◌≡◌, ℕ, zero, suc, ◌+◌, ◌<◌, Bool, true, false, cond, List, [], ◌∷◌, ◌++◌, length, get_or, take, Option, None, Some, bytes_eq, refl, sym, ap, subst, ◌∙◌, arith}
use Rattle.std.specs.Prelude.{◌||◌, if◌then◌else◌}
use Rattle.std.specs.List.{All}
use Rattle.std.proofs.lemmas.List.{take_more}
use Rattle.std.proofs.lemmas.List.Elements.{All-push}
use Rattle.gw_base.specs.declared.config.Config.{Config}
use Rattle.gw_base.specs.NameLists.{is_in, NoDoubles}
use Rattle.gw_base.specs.Names.{IsName}
use Rattle.gw_base.proofs.NameTests.{same_name}
use Rattle.gw_base.proofs.NamesInLists.{or_left, or_right, itself, pushed}
use Rattle.gw_engine.specs.declared.fault.LimitName.{LimitName}
use Rattle.gw_engine.specs.declared.fault.LimitName.TheVariants.{Contexts, Slots, Members, Keep, Terms}
use Rattle.gw_engine.specs.Configuration.{is_within, most_contexts, most_slots, most_members, most_terms, first_limit}
use Rattle.gw_kept.specs.Pairs.{most_kept}

-- ---- limits

pub record AreLimitsKept (c : Config) : Type 0 where
  pub contexts : is_within 1 most_contexts c.contexts ≡ true
  pub slots : is_within 0 most_slots c.slots ≡ true
  pub members : is_within 1 most_members c.members ≡ true
  pub keep : is_within 1 most_kept c.keep ≡ true

abbrev first_of : Bool → Bool → Bool → Bool → Bool → Option LimitName
first_of a b c d e =
    if a then (if b then (if c then (if d then (if e then None else Some Terms) else Some Keep) else Some Members) else Some Slots) else Some Contexts

pub limits_kept : (c : Config) → first_limit c ≡ None → AreLimitsKept c
limits_kept c h = kept (is_within 1 most_contexts c.contexts) (is_within 0 most_slots c.slots) (is_within 1 most_members c.members) (is_within 1 most_kept c.keep) (is_within 0 most_terms (length c.terms)) refl refl refl refl h
  where
    kept : (s t u v w : Bool) → is_within 1 most_contexts c.contexts ≡ s → is_within 0 most_slots c.slots ≡ t → is_within 1 most_members c.members ≡ u → is_within 1 most_kept c.keep ≡ v → first_of s t u v w ≡ None → AreLimitsKept c
    kept true true true true w a b m k e = record { contexts = a; slots = b; members = m; keep = k }
    kept true true true false w a b m k e = absurd cc
    kept true true false v w a b m k e = absurd cc
    kept true false u v w a b m k e = absurd cc
    kept false t u v w a b m k e = absurd cc

-- ---- names that are given once

get_is_in : (names : List (List ℕ)) (i : ℕ) (d : List ℕ) → i < length names → is_in (get_or names i d) names ≡ true
get_is_in [] i d h = absurd (omega arith)
get_is_in (x ∷ xs) zero d h = or_left (bytes_eq x x) (is_in x xs) (itself x)
get_is_in (x ∷ xs) (suc i) d h = or_right (bytes_eq (get_or xs i d) x) (is_in (get_or xs i d) xs) (get_is_in xs i d (omega arith))

-- a name that stands before itself stands twice
doubled : (names : List (List ℕ)) (i : ℕ) (d : List ℕ) → i < length names → is_in (get_or names i d) (take i names) ≡ true → NoDoubles names → ⊥
doubled [] i d h e n = absurd (omega arith)
doubled (x ∷ xs) zero d h e n = cc
doubled (x ∷ xs) (suc i) d h e n = by_first (bytes_eq (get_or xs i d) x) refl (λ f. doubled xs i d (omega arith) f n.1)
  where
    by_first : (b : Bool) → bytes_eq (get_or xs i d) x ≡ b → (is_in (get_or xs i d) (take i xs) ≡ true → ⊥) → ⊥
    by_first true a again =
        let inside : is_in x xs ≡ true = ap (λ (y : List ℕ). is_in y xs) (sym (same_name (get_or xs i d) x a)) ∙ get_is_in xs i d (omega arith) in
        let clash : true ≡ false = sym inside ∙ n.0 in
        cc
    by_first false a again = again (ap (λ b. b || is_in (get_or xs i d) (take i xs)) (sym a) ∙ e)

-- the names so far, each of its form and none of them twice
pub record AreSeen (names seen : List (List ℕ)) : Type 0 where
  pub all : seen ≡ names
  pub once : NoDoubles names
  pub forms : All IsName names

pub seen_more : (names seen after : List (List ℕ)) (i : ℕ) (t : List ℕ) → i < length names → t ≡ get_or names i t → IsName t → AreSeen (take i names) seen → is_in t seen ≡ false → after ≡ cond (is_in t seen) seen (seen ++ t ∷ []) → AreSeen (take (i + 1) names) after
seen_more names seen after i t h e named so_far new put =
    let front : List (List ℕ) = take i names in
    let more : take (i + 1) names ≡ front ++ t ∷ [] = take_more names i t h ∙ ap (λ (x : List ℕ). front ++ x ∷ []) (sym e) in
    record {
      all = put ∙ ap (λ b. cond b seen (seen ++ t ∷ [])) new ∙ ap (λ (l : List (List ℕ)). l ++ t ∷ []) so_far.all ∙ sym more;
      once = subst (λ (l : List (List ℕ)). NoDoubles l) (sym more) (pushed t front so_far.once (ap (is_in t) (sym so_far.all) ∙ new));
      forms = subst (λ (l : List (List ℕ)). All IsName l) (sym more) (All-push IsName front t so_far.forms named);
    }

pub seen_before : (names seen : List (List ℕ)) (i : ℕ) (t : List ℕ) → i < length names → t ≡ get_or names i t → AreSeen (take i names) seen → is_in t seen ≡ true → ¬ NoDoubles names
seen_before names seen i t h e so_far old n = doubled names i t h (ap (λ (y : List ℕ). is_in y (take i names)) (sym e) ∙ ap (is_in t) (sym so_far.all) ∙ old) n
