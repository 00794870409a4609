-- The pair of a key in a list where each has a key of its own.
use Rattle.std.proofs.Common.{◌≡◌, ℕ, zero, suc, ◌+◌, Bool, true, false, cond, List, [], ◌∷◌, map, Option, Some, None, refl, ap, sym, ◌∙◌, add-one}
use Rattle.std.proofs.lemmas.Option.{none-some}
use Rattle.std.specs.List.{slice_get}
use Rattle.std.specs.Option.{option_map}
use Rattle.gw_kept.specs.declared.entry.Entry.{Entry}
use Rattle.gw_kept.specs.declared.entry.RequestKey.{RequestKey}
use Rattle.gw_kept.specs.Pairs.{key_of, is_same, bytes_for, bytes_at, AreDistinct}
use Rattle.gw_kept.specs.Classes.{or_here, last_place}
use Rattle.gw_kept.proofs.Places.{absent_head, none_behind, other_key, same_key, same_back, same_itself}

-- ---- the last pair of a key, and the first

pub not_kept : (key : RequestKey) (es : List Entry) → last_place key (map key_of es) ≡ None → bytes_for key es ≡ None
not_kept key [] e = refl
not_kept key (x ∷ xs) e =
    let h = none_behind key (key_of x) (map key_of xs) e in
    rw (same_back key (key_of x), h.0) (not_kept key xs h.1)

-- a pair of the key at a place
pub record IsAt (key : RequestKey) (es : List Entry) (place : ℕ) : Type 0 where
  pub entry : Entry
  pub there : slice_get es place ≡ Some entry
  pub same : key_of entry ≡ key

pub found_at : (key : RequestKey) (es : List Entry) (place : ℕ) → last_place key (map key_of es) ≡ Some place → IsAt key es place
found_at key [] place e = absurd cc
found_at key (x ∷ xs) place e = step (last_place key (map key_of xs)) (is_same (key_of x) key) refl (found_at key xs) e
  where
    step : (o : Option ℕ) (t : Bool) → is_same (key_of x) key ≡ t → ((q : ℕ) → o ≡ Some q → IsAt key xs q) → or_here 1 o (cond t (Some 0) None) ≡ Some place → IsAt key (x ∷ xs) place
    step (Some q) t is f e =
        let at = f q refl in
        let next : q + 1 ≡ place = cc in
        record { entry = at.entry; there = ap (slice_get (x ∷ xs)) (sym next ∙ add-one q) ∙ at.there; same = at.same }
    step None true is f e = let first : place ≡ 0 = cc in record { entry = x; there = ap (slice_get (x ∷ xs)) first; same = same_key (key_of x) key is }
    step None false is f e = absurd cc

-- the bytes of a pair are those of its key
bytes_there : (es : List Entry) (place : ℕ) (e : Entry) → AreDistinct es → slice_get es place ≡ Some e → bytes_for (key_of e) es ≡ Some e.bytes
bytes_there [] place e d at = absurd cc
bytes_there (x ∷ xs) zero e d at = let is : e ≡ x = cc in rw (is, same_itself (key_of x)) refl
bytes_there (x ∷ xs) (suc place) e d at =
    let there = bytes_there xs place e d.1 at in
    rw (other_key (key_of e) (key_of x) (λ same. none-some e.bytes (sym d.0 ∙ ap (λ (k : RequestKey). bytes_for k xs) (sym same) ∙ there))) there

pub bytes_found : (key : RequestKey) (es : List Entry) (place : ℕ) (at : IsAt key es place) → AreDistinct es → bytes_for key es ≡ Some at.entry.bytes
bytes_found key es place at d = ap (λ (k : RequestKey). bytes_for k es) (sym at.same) ∙ bytes_there es place at.entry d at.there

-- a key that no pair has
pub no_place : (key : RequestKey) (es : List Entry) → bytes_for key es ≡ None → last_place key (map key_of es) ≡ None
no_place key [] e = refl
no_place key (x ∷ xs) e =
    let h = absent_head (is_same key (key_of x)) x.bytes (bytes_for key xs) e in
    rw (no_place key xs h.1, same_back (key_of x) key, h.0) refl

-- the bytes of the key, by its place
pub found_bytes : (es : List Entry) (key : RequestKey) (place : ℕ) → AreDistinct es → Some place ≡ last_place key (map key_of es) → bytes_at place es ≡ bytes_for key es
found_bytes es key place distinct e =
    let found = found_at key es place (sym e) in
    ap (option_map (λ (x : Entry). x.bytes)) found.there ∙ sym (bytes_found key es place found distinct)

-- the key at a place, where each pair has a key of its own
pub place_is : (key : RequestKey) (es : List Entry) (place : ℕ) → AreDistinct es → slice_get (map key_of es) place ≡ Some key → last_place key (map key_of es) ≡ Some place
place_is key [] place d e = absurd cc
place_is key (x ∷ xs) zero d e =
    let same : key_of x ≡ key = cc in
    let none : last_place key (map key_of xs) ≡ None = no_place key xs (ap (λ (k : RequestKey). bytes_for k xs) (sym same) ∙ d.0) in
    let here : is_same (key_of x) key ≡ true = ap (λ (k : RequestKey). is_same k key) same ∙ same_itself key in
    rw (none, here) refl
place_is key (x ∷ xs) (suc place) d e =
    ap (λ (o : Option ℕ). or_here 1 o (cond (is_same (key_of x) key) (Some 0) None)) (place_is key xs place d.1 e) ∙ ap (λ (n : ℕ). Some n) (add-one place)
