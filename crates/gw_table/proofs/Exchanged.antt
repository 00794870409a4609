-- One place of stored tables by the entries of the ordered maps.
use Rattle.std.proofs.Common.{◌≡◌, ℕ, List, true, false, cond, map, Option, None, Some, is_some, refl, sym, ap, ◌∙◌, nat_cmp}
use Rattle.std.specs.BTreeMap.{is_at}
use Rattle.std.specs.Cmp.{nat_cmp_total}
use Rattle.std.specs.Cmp.Lexicographic.{nat_list_cmp_total}
use Rattle.std.specs.FinMap as finite
use Rattle.std.specs.FinMap.{FinMap, from_entries, nat_cmp-IsAntisymmetric}
use Rattle.std.specs.List.Sorted.{IsStrictlySortedBy}
use Rattle.std.specs.Map.{keys_of, lookup}
use Rattle.gw_base.proofs.NameTests.{names_same}
use Rattle.gw_base.proofs.Views.{seen, seen_insert, seen_remove, entries_seen}
use Rattle.gw_base.specs.NameLists.{name_cmp}
use Rattle.gw_base.specs.declared.ids.CtxNum.{CtxNum}
use Rattle.gw_ctx.specs.Contexts.{ContextRecord}
use Rattle.gw_term.specs.declared.record.Termination.{Termination}
use Rattle.gw_table.specs.declared.place.Place.{Place}
use Rattle.gw_table.specs.Maps.{number, names, numbers}
use Rattle.gw_table.specs.Stored.{Stored, stored, filled, maps_of, put_term_place, put_ctx_place, drop_term_place, drop_ctx_place}
use Rattle.gw_table.proofs.Shown.{here_is, keys_here}

pub term_written : (es fs : List (List ℕ × Place Termination)) (cs : List (ℕ × Place ContextRecord)) (t : List ℕ) (p : Place Termination)
    → ((q : List ℕ) → lookup (is_at (name_cmp q)) fs ≡ cond (is_at (name_cmp t) q) (Some p) (lookup (is_at (name_cmp q)) es))
    → stored fs cs ≡ put_term_place (stored es cs) t p
term_written es fs cs t p h = ap (λ (f : FinMap name_cmp (Place Termination)). record { terms = f; contexts = from_entries cs }) (seen_insert nat_list_cmp_total names_same es fs t p h)

pub ctx_written : (ts : List (List ℕ × Place Termination)) (es fs : List (ℕ × Place ContextRecord)) (n : CtxNum) (p : Place ContextRecord)
    → ((q : ℕ) → lookup (is_at (nat_cmp q)) fs ≡ cond (is_at (nat_cmp n.0) q) (Some p) (lookup (is_at (nat_cmp q)) es))
    → stored ts fs ≡ put_ctx_place (stored ts es) n p
ctx_written ts es fs n p h = ap (λ (f : FinMap nat_cmp (Place ContextRecord)). record { terms = from_entries ts; contexts = f }) (seen_insert nat_cmp_total nat_cmp-IsAntisymmetric es fs n.0 p h)

pub term_dropped : (es fs : List (List ℕ × Place Termination)) (cs : List (ℕ × Place ContextRecord)) (t : List ℕ)
    → ((q : List ℕ) → lookup (is_at (name_cmp q)) fs ≡ cond (is_at (name_cmp t) q) None (lookup (is_at (name_cmp q)) es))
    → stored fs cs ≡ drop_term_place (stored es cs) t
term_dropped es fs cs t h = ap (λ (f : FinMap name_cmp (Place Termination)). record { terms = f; contexts = from_entries cs }) (seen_remove nat_list_cmp_total names_same es fs t h)

pub ctx_dropped : (ts : List (List ℕ × Place Termination)) (es fs : List (ℕ × Place ContextRecord)) (n : CtxNum)
    → ((q : ℕ) → lookup (is_at (nat_cmp q)) fs ≡ cond (is_at (nat_cmp n.0) q) None (lookup (is_at (nat_cmp q)) es))
    → stored ts fs ≡ drop_ctx_place (stored ts es) n
ctx_dropped ts es fs n h = ap (λ (f : FinMap nat_cmp (Place ContextRecord)). record { terms = from_entries ts; contexts = f }) (seen_remove nat_cmp_total nat_cmp-IsAntisymmetric es fs n.0 h)

pub term_seen : (es : List (List ℕ × Place Termination)) (cs : List (ℕ × Place ContextRecord)) (s : Stored) (t : List ℕ) → stored es cs ≡ s → lookup (is_at (name_cmp t)) es ≡ finite.get s.terms t
term_seen es cs s t is = sym (seen nat_list_cmp_total es t) ∙ ap (λ (x : Stored). finite.get x.terms t) is

pub ctx_seen : (es : List (List ℕ × Place Termination)) (cs : List (ℕ × Place ContextRecord)) (s : Stored) (n : CtxNum) → stored es cs ≡ s → lookup (is_at (nat_cmp n.0)) cs ≡ finite.get s.contexts n.0
ctx_seen es cs s n is = sym (seen nat_cmp_total cs n.0) ∙ ap (λ (x : Stored). finite.get x.contexts n.0) is

-- a place that is there is found
pub not_found : {A : Type 0} (o : Option A) → is_some o ≡ true → o ≡ None → ⊥
not_found None h e = cc
not_found (Some x) h e = cc

pub nothing_found : {A : Type 0} (o : Option A) → is_some o ≡ false → o ≡ None
nothing_found None h = refl
nothing_found (Some x) h = cc

-- ---- names and numbers

pub names_are : (es : List (List ℕ × Place Termination)) (cs : List (ℕ × Place ContextRecord)) → IsStrictlySortedBy name_cmp (keys_of es) → keys_here es ≡ names (maps_of (stored es cs))
unfolding maps_of
names_are es cs s =
    let entries : List (List ℕ × Place Termination) → List (List ℕ × Termination) = λ l. finite.entries (filled {R = name_cmp} l) in
    ap (λ (l : List (List ℕ × Termination)). map (λ e. e.0) l) (sym (here_is nat_list_cmp_total names_same es s) ∙ ap entries (sym (entries_seen nat_list_cmp_total names_same es s)))

pub numbers_are : (es : List (List ℕ × Place Termination)) (cs : List (ℕ × Place ContextRecord)) → IsStrictlySortedBy nat_cmp (keys_of cs) → map number (keys_here cs) ≡ numbers (maps_of (stored es cs))
unfolding maps_of
numbers_are es cs s =
    let entries : List (ℕ × Place ContextRecord) → List (ℕ × ContextRecord) = λ l. finite.entries (filled {R = nat_cmp} l) in
    ap (λ (l : List (ℕ × ContextRecord)). map number (map (λ e. e.0) l)) (sym (here_is nat_cmp_total nat_cmp-IsAntisymmetric cs s) ∙ ap entries (sym (entries_seen nat_cmp_total nat_cmp-IsAntisymmetric cs s)))
