-- Texts joined by commas are the first one, and then each other one behind a comma.
use Rattle.std.proofs.Common.{◌≡◌, ℕ, zero, suc, ◌+◌, ◌<◌, ◌==◌, Bool, true, false, not, List, [], ◌∷◌, ◌++◌, map, take, length, get_or, sym, ap, ◌∙◌, append-nil, append_assoc, ne_eqb, arith}
use Rattle.std.proofs.Common.{Result, Ok, Err, refl}
use Rattle.gw_base.specs.declared.code.Code.{Code}
use Rattle.gw_reply.specs.declared.context_parts.ContextPart.{ContextPart}
use Rattle.gw_reply.specs.declared.reply.CommandReply.{CommandReply}
use Rattle.gw_reply.specs.ContextParts.{context_part_text}
use Rattle.gw_reply.specs.Lists.{comma, comma_separated, later, parts_text}
use Rattle.gw_reply.specs.Replies.{replies_text, replies_texts, later_replies, replies_behind, command_reply_text, inner_text}

from_first : {T : Type 0} (text : T → List ℕ) (first : T) (rest : List T) → text first ++ later text rest ≡ comma_separated (map text (first ∷ rest))
from_first text first [] = append-nil (text first)
from_first text first (next ∷ rest) = ap (λ t. text first ++ comma ∷ t) (from_first text next rest)

-- texts of the first parts, and of one more
later_more : {T : Type 0} (text : T → List ℕ) (parts : List T) (i : ℕ) (part : T) → i < length parts → part ≡ get_or parts i part → later text (take (suc i) parts) ≡ later text (take i parts) ++ comma ∷ text part
later_more text [] i part l is = absurd (omega arith)
later_more text (first ∷ rest) zero part l is = append-nil (comma ∷ text first) ∙ ap (λ t. comma ∷ text t) (sym is)
later_more text (first ∷ rest) (suc i) part l is =
    ap (λ t. comma ∷ (text first ++ t)) (later_more text rest i part (omega arith) is) ∙ ap (λ t. comma ∷ t) (sym (append_assoc (text first) (later text (take i rest)) (comma ∷ text part)))

pub first_part : {T : Type 0} (text : T → List ℕ) (front : Bool) (parts : List T) (i : ℕ) (part : T) → front ≡ false → i ≡ 0 → i < length parts → part ≡ get_or parts i part
    → parts_text text front (take (suc i) parts) ≡ parts_text text front (take i parts) ++ text part
first_part text true parts i part alone zeroth l is = absurd cc
first_part text false [] i part alone zeroth l is = absurd (omega arith)
first_part text false (p ∷ rest) zero part alone zeroth l is = ap text (sym is)
first_part text false (p ∷ rest) (suc i) part alone zeroth l is = absurd (omega arith)

pub part_behind : {T : Type 0} (text : T → List ℕ) (front : Bool) (parts : List T) (i : ℕ) (part : T) → front ≡ true → i < length parts → part ≡ get_or parts i part
    → parts_text text front (take (suc i) parts) ≡ parts_text text front (take i parts) ++ comma ∷ text part
part_behind text true parts i part some l is = later_more text parts i part l is
part_behind text false parts i part some l is = absurd cc

pub later_part : {T : Type 0} (text : T → List ℕ) (front : Bool) (parts : List T) (i : ℕ) (part : T) → 0 < i → i < length parts → part ≡ get_or parts i part
    → parts_text text front (take (suc i) parts) ≡ parts_text text front (take i parts) ++ comma ∷ text part
later_part text true parts i part some l is = later_more text parts i part l is
later_part text false [] i part some l is = absurd (omega arith)
later_part text false (first ∷ rest) zero part some l is = absurd (omega arith)
later_part text false (first ∷ rest) (suc i) part some l is =
    sym (from_first text first (take (suc i) rest))
    ∙ ap (λ t. text first ++ t) (later_more text rest i part (omega arith) is)
    ∙ sym (append_assoc (text first) (later text (take i rest)) (comma ∷ text part))
    ∙ ap (λ t. t ++ comma ∷ text part) (from_first text first (take i rest))

-- what was written, once one part more is
pub one_written : {T : Type 0} (text : T → List ℕ) (front : Bool) (parts : List T) (i : ℕ) (part : T) (before here out more : List ℕ)
    → here ≡ before ++ parts_text text front (take i parts) → parts_text text front (take (suc i) parts) ≡ parts_text text front (take i parts) ++ more → out ≡ here ++ more → out ≡ before ++ parts_text text front (take (i + 1) parts)
one_written text front parts i part before here out more begun one e =
    let next : suc i ≡ i + 1 = omega arith in
    e ∙ ap (λ (t : List ℕ). t ++ more) begun ∙ append_assoc before (parts_text text front (take i parts)) more ∙ ap (λ (t : List ℕ). before ++ t) (sym one)
    ∙ ap (λ (n : ℕ). before ++ parts_text text front (take n parts)) next

-- ---- what stands between the braces of an action reply

-- texts behind a comma each
abbrev pub behind : List (List ℕ) → List ℕ
behind texts = later (λ (t : List ℕ). t) texts

pub first_then : (first : List ℕ) (texts : List (List ℕ)) → comma_separated (first ∷ texts) ≡ first ++ behind texts
first_then first [] = sym (append-nil first)
first_then first (next ∷ rest) = ap (λ t. first ++ comma ∷ t) (first_then next rest)

pub behind_map : {T : Type 0} (text : T → List ℕ) (parts : List T) (texts : List (List ℕ)) → behind (map text parts ++ texts) ≡ later text parts ++ behind texts
behind_map text [] texts = refl
behind_map text (part ∷ parts) texts =
    ap (λ t. comma ∷ (text part ++ t)) (behind_map text parts texts)
    ∙ ap (λ t. comma ∷ t) (sym (append_assoc (text part) (later text parts) (behind texts)))

pub behind_all : {T : Type 0} (text : T → List ℕ) (parts : List T) → behind (map text parts) ≡ later text parts
behind_all text [] = refl
behind_all text (part ∷ parts) = ap (λ t. comma ∷ (text part ++ t)) (behind_all text parts)

behind_replies : {T : Type 0} (text : T → List ℕ) (r : Result (List T) Code) → behind (replies_texts text r) ≡ later_replies text r
behind_replies text (Ok replies) = behind_all text replies
behind_replies text (Err code) = ap (λ t. comma ∷ t) (append-nil _)

-- with properties of the context
pub inner_first : (first : ContextPart) (rest : List ContextPart) (r : Result (List CommandReply) Code)
    → inner_text (first ∷ rest) r ≡ context_part_text first ++ (later context_part_text rest ++ later_replies command_reply_text r)
inner_first first rest r =
    first_then (context_part_text first) (map context_part_text rest ++ replies_texts command_reply_text r)
    ∙ ap (λ t. context_part_text first ++ t) (behind_map context_part_text rest (replies_texts command_reply_text r) ∙ ap (λ t. later context_part_text rest ++ t) (behind_replies command_reply_text r))

-- with none
pub inner_none : (r : Result (List CommandReply) Code) → inner_text [] r ≡ replies_text command_reply_text r
inner_none (Ok replies) = refl
inner_none (Err code) = refl

some_parts : (n : ℕ) → not (suc n == 0) ≡ true
some_parts n = ap not (ne_eqb (suc n) 0 (λ e. omega (arith, e)))

-- what was written, once the parts and the replies are
pub inner_written : (parts : List ContextPart) (r : Result (List CommandReply) Code) (before one out : List ℕ) (front : Bool)
    → one ≡ before ++ comma_separated (map context_part_text parts) → front ≡ not (length parts == 0) → out ≡ one ++ replies_behind command_reply_text front r → out ≡ before ++ inner_text parts r
inner_written [] r before one out front begun is e =
    e ∙ ap (λ (b : Bool). one ++ replies_behind command_reply_text b r) is ∙ ap (λ (t : List ℕ). t ++ replies_text command_reply_text r) (begun ∙ append-nil before)
    ∙ ap (λ (t : List ℕ). before ++ t) (sym (inner_none r))
inner_written (first ∷ rest) r before one out front begun is e =
    let now = later context_part_text rest in let end = later_replies command_reply_text r in
    e ∙ ap (λ (b : Bool). one ++ replies_behind command_reply_text b r) (is ∙ some_parts (length rest))
    ∙ ap (λ (t : List ℕ). t ++ end) (begun ∙ ap (λ (t : List ℕ). before ++ t) (sym (from_first context_part_text first rest)))
    ∙ append_assoc before (context_part_text first ++ now) end ∙ ap (λ (t : List ℕ). before ++ t) (append_assoc (context_part_text first) now end ∙ sym (inner_first first rest r))
