-- What reads and writes do to the bytes that a reader has left and a writer holds.
use Rattle.std.proofs.Common.{◌≡◌, ◌==◌, ℕ, ◌+◌, ◌-◌, ◌≤◌, Bool, true, false, if◌then◌else◌, List, ◌++◌, length, take, drop, take-append-drop, Option, None, Some, ap, sym, subst, ◌∙◌, arith, append_assoc}
use Rattle.std.specs.Io.KnownBytes.{Appends, Consumes, prepend_known}
use Rattle.std.proofs.KnownBytes.{Appends-trans}
use Rattle.std.proofs.Math.Seq.{take-add}
use Rattle.std.proofs.lemmas.List.{length-drop, take_rest}

at_front : (none : Bool) (inner : Option (List ℕ)) (held : List ℕ) (n : ℕ)
    → Consumes (if none then None else prepend_known held inner) (if none then None else prepend_known (drop n held) inner) (take n held)
at_front true inner held n = tt
at_front false None held n = tt
at_front false (Some rest) held n =
    ap (λ (l : List ℕ). l ++ rest) (sym (take-append-drop n held)) ∙ append_assoc (take n held) (drop n held) rest

-- bytes that were read ahead are taken
pub passed : (capacity same : ℕ) (inner kept : Option (List ℕ)) (held left : List ℕ) (n : ℕ) → same ≡ capacity → kept ≡ inner → left ≡ drop n held
    → Consumes (if capacity == 0 then None else prepend_known held inner) (if same == 0 then None else prepend_known left kept) (take n held)
passed capacity same inner kept held left n c k l = rw (c, k, l) (at_front (capacity == 0) inner held n)

-- ---- writing

-- a front, and then a front of the rest
front_grown : (old mid new : Option (List ℕ)) (n count : ℕ) (text : List ℕ) → Appends old mid (take n text) → Appends mid new (take count (drop n text)) → Appends old new (take (n + count) text)
front_grown old mid new n count text a b =
    subst (λ (l : List ℕ). Appends old new l) (sym (take-add n count text)) (Appends-trans old mid new (take n text) (take count (drop n text)) a b)

-- one write more
pub turn_done : (old mid new : Option (List ℕ)) (n count : ℕ) (text : List ℕ) → Appends old mid (take n text) × (n ≤ length text) → count ≤ length (take (length text - n) (drop n text))
    → Appends mid new (take count (take (length text - n) (drop n text))) → Appends old new (take (n + count) text) × (n + count ≤ length text)
turn_done old mid new n count text before bound after =
    let rest : take (length text - n) (drop n text) ≡ drop n text = take_rest text n in
    (front_grown old mid new n count text before.0 (subst (λ (l : List ℕ). Appends mid new (take count l)) rest after), omega (arith, before.1, bound, ap length rest, length-drop n text))
