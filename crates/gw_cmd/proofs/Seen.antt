-- The errors among replies.
use Rattle.std.proofs.Common.{◌≡◌, Bool, true, false, List, [], ◌∷◌, ◌++◌, Option, None, Some, is_some, Result, Ok, Err, refl}
use Rattle.std.specs.Prelude.{◌||◌, is_err, if◌then◌else◌}
use Rattle.std.specs.List.{list_any, find}
use Rattle.std.specs.Option.{option_or}
use Rattle.gw_base.specs.declared.code.Code.{Code}
use Rattle.gw_reply.specs.declared.parts.ReplyPart.{ReplyPart}
use Rattle.gw_reply.specs.declared.reply.CommandReply.{CommandReply}
use Rattle.gw_cmd.specs.Commands.{has_error, is_done, error_of, error_in, first_error}
use Rattle.gw_cmd.specs.Written.{code_of}

no_code : (x : Result (List ReplyPart) Code) → is_err x ≡ false → None ≡ code_of x
no_code (Ok parts) e = refl
no_code (Err code) e = absurd cc

same_code : (x : Result (List ReplyPart) Code) → code_of (error_of x) ≡ code_of x
same_code (Ok parts) = refl
same_code (Err code) = refl

a_code : (x : Result (List ReplyPart) Code) → is_err x ≡ true → is_some (code_of (error_of x)) ≡ true
a_code (Ok parts) e = absurd cc
a_code (Err code) e = refl

alone_by : (r : CommandReply) (b : Bool) → has_error r ≡ b → code_of (error_in (if b then Some r else None)) ≡ code_of r.result
alone_by r true e = same_code r.result
alone_by r false e = no_code r.result e

with_code : (o more : Option Code) → is_some o ≡ true → o ≡ option_or o more
with_code (Some a) more e = refl
with_code None more e = absurd cc

more_by : (x r : CommandReply) (xs : List CommandReply) (b : Bool) → has_error x ≡ b → code_of (first_error (xs ++ r ∷ [])) ≡ option_or (code_of (first_error xs)) (code_of r.result)
    → code_of (error_in (if b then Some x else find has_error (xs ++ r ∷ []))) ≡ option_or (code_of (error_in (if b then Some x else find has_error xs))) (code_of r.result)
more_by x r xs true e h = with_code (code_of (error_of x.result)) (code_of r.result) (a_code x.result e)
more_by x r xs false e h = h

-- the first error with one reply more
pub first_more : (front : List CommandReply) (r : CommandReply) → code_of (first_error (front ++ r ∷ [])) ≡ option_or (code_of (first_error front)) (code_of r.result)
first_more [] r = alone_by r (has_error r) refl
first_more (x ∷ xs) r = more_by x r xs (has_error x) refl (first_more xs r)

failed_by : (x : CommandReply) (xs : List CommandReply) (b : Bool) → has_error x ≡ b → is_some (code_of (first_error xs)) ≡ list_any has_error xs → is_some (code_of (error_in (if b then Some x else find has_error xs))) ≡ (b || list_any has_error xs)
failed_by x xs true e h = a_code x.result e
failed_by x xs false e h = h

-- the reply of all, by the first error
abbrev pub result_of : Option Code → Result (List ReplyPart) Code
result_of None = Ok []
result_of (Some code) = Err code

pub first_result : (replies : List CommandReply) → result_of (code_of (first_error replies)) ≡ first_error replies
first_result replies = by (find has_error replies)
  where
    by_error : (x : Result (List ReplyPart) Code) → result_of (code_of (error_of x)) ≡ error_of x
    by_error (Ok parts) = refl
    by_error (Err code) = refl

    by : (o : Option CommandReply) → result_of (code_of (error_in o)) ≡ error_in o
    by None = refl
    by (Some r) = by_error r.result

-- one failed where there is a first error
pub failed_first : (replies : List CommandReply) → is_some (code_of (first_error replies)) ≡ list_any has_error replies
failed_first [] = refl
failed_first (x ∷ xs) = failed_by x xs (has_error x) refl (failed_first xs)

pub done_more : (front : List CommandReply) (r : CommandReply) → list_any is_done (front ++ r ∷ []) ≡ (list_any is_done front || is_done r)
done_more [] r = by (is_done r)
  where
    by : (b : Bool) → (b || false) ≡ b
    by true = refl
    by false = refl
done_more (x ∷ xs) r = by (is_done x) (done_more xs r)
  where
    by : (b : Bool) → list_any is_done (xs ++ r ∷ []) ≡ (list_any is_done xs || is_done r) → (b || list_any is_done (xs ++ r ∷ [])) ≡ ((b || list_any is_done xs) || is_done r)
    by true e = refl
    by false e = e
