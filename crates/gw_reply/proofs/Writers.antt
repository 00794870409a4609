-- Replies that come one after another: written in two parts or in one.
use Rattle.std.proofs.Common.{◌≡◌, ℕ, ◌+◌, ◌-◌, ◌≤◌, ◌<◌, nat_le, Bool, true, false, List, [], ◌∷◌, ◌++◌, length, arith, length-append, append-nil, append_assoc, refl, ap, sym, ◌∙◌}
use Rattle.std.specs.Prelude.{if◌then◌else◌}
use Rattle.std.proofs.lemmas.Bool.{leb-true, leb-false, le-leb}
use Rattle.std.proofs.lemmas.Grind.{flat_map-append}
use Rattle.gw_base.proofs.Booleans.{refuted}
use Rattle.gw_reply.specs.Lists.{comma, later}
use Rattle.gw_reply.specs.declared.writer.ReplyWriter.{ReplyWriter}
use Rattle.gw_reply.specs.declared.writer.ReplyWriter.TheVariants.{All, Within, TooLong}
use Rattle.gw_reply.specs.Writers.{written_within, written_behind}

pub not_le : (a b : ℕ) → b < a → nat_le a b ≡ false
not_le a b h = refuted (nat_le a b) (λ e. let le = leb-true a b e in omega (arith, h, le))

later-append : {T : Type 0} (text : T → List ℕ) (xs ys : List T) → later text (xs ++ ys) ≡ later text xs ++ later text ys
later-append text xs ys = flat_map-append (λ x. comma ∷ text x) xs ys

-- whether there is room decides what is written
pub if_room : {T : Type 0} (front more : List ℕ) (room : ℕ) → length more ≤ room → written_within {T = T} front more room ≡ Within (front ++ more) (room - length more)
if_room {T} front more room h =
    ap (λ (b : Bool). let t : ReplyWriter T = if b then Within (front ++ more) (room - length more) else TooLong in t) (le-leb (length more) room h)

pub if_none : {T : Type 0} (front more : List ℕ) (room : ℕ) → room < length more → written_within {T = T} front more room ≡ TooLong
if_none {T} front more room h =
    ap (λ (b : Bool). let t : ReplyWriter T = if b then Within (front ++ more) (room - length more) else TooLong in t) (not_le (length more) room h)

-- nothing more is written
pub written_none : {T : Type 0} (text : T → List ℕ) (t : ReplyWriter T) → written_behind text t [] ≡ t
written_none text (All front) = ap (λ l. All l) (append-nil front)
written_none {T} text (Within front room) =
    if_room front [] room (omega arith)
    ∙ ap (λ (l : List ℕ). let t : ReplyWriter T = Within l (room - 0) in t) (append-nil front)
    ∙ ap (λ (n : ℕ). let t : ReplyWriter T = Within front n in t) (omega arith)
written_none text TooLong = refl

-- in two parts, by whether there was room for the first
within_more : {T : Type 0} (text : T → List ℕ) (front more : List ℕ) (ys : List T) (room : ℕ) (fits : Bool) → nat_le (length more) room ≡ fits
    → written_behind text (if fits then Within (front ++ more) (room - length more) else TooLong) ys ≡ written_within front (more ++ later text ys) room
within_more {T} text front more ys room true e =
    let rest : List ℕ = later text ys in
    let first : length more ≤ room = leb-true (length more) room e in
    let all : length (more ++ rest) ≡ length more + length rest = length-append more rest in
    let same : nat_le (length rest) (room - length more) ≡ nat_le (length (more ++ rest)) room = same_test (nat_le (length (more ++ rest)) room) refl all first in
    let whole : List ℕ → ℕ → Bool → ReplyWriter T = λ l n t. if t then Within l n else TooLong in
    ap (λ (t : Bool). whole ((front ++ more) ++ rest) (room - length more - length rest) t) same
    ∙ ap (λ (l : List ℕ). whole l (room - length more - length rest) (nat_le (length (more ++ rest)) room)) (append_assoc front more rest)
    ∙ ap (λ (n : ℕ). whole (front ++ (more ++ rest)) n (nat_le (length (more ++ rest)) room)) (omega (arith, all))
  where
    same_test : (t : Bool) → nat_le (length (more ++ later text ys)) room ≡ t → length (more ++ later text ys) ≡ length more + length (later text ys) → length more ≤ room
        → nat_le (length (later text ys)) (room - length more) ≡ t
    same_test true f all first = let le = leb-true (length (more ++ later text ys)) room f in le-leb (length (later text ys)) (room - length more) (omega (arith, le, all))
    same_test false f all first = let less = leb-false (length (more ++ later text ys)) room f in not_le (length (later text ys)) (room - length more) (omega (arith, less, all, first))
within_more {T} text front more ys room false e =
    let less = leb-false (length more) room e in
    let all = length-append more (later text ys) in
    sym (if_none front (more ++ later text ys) room (omega (arith, less, all)))

-- what is written in two parts is written in one
pub written_more : {T : Type 0} (text : T → List ℕ) (t : ReplyWriter T) (xs ys : List T) → written_behind text (written_behind text t xs) ys ≡ written_behind text t (xs ++ ys)
written_more text (All front) xs ys = ap (λ l. All l) (append_assoc front xs ys)
written_more text (Within front room) xs ys =
    within_more text front (later text xs) ys room (nat_le (length (later text xs)) room) refl
    ∙ ap (λ (l : List ℕ). written_within front l room) (sym (later-append text xs ys))
written_more text TooLong xs ys = refl
