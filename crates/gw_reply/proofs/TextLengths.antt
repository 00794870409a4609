-- How long errors are, and the reply with error 533.
use Rattle.std.proofs.Common.{◌≡◌, ℕ, zero, suc, Bool, true, false, if◌then◌else◌, ◌==◌, ◌/◌, ◌%◌, List, [], ◌∷◌, ◌+◌, ◌≤◌, ◌++◌, length, codes, decimal, arith, length-append}
use Rattle.std.specs.Fmt.{digit_glyph, digits_onto, digits}
use Rattle.gw_base.specs.Codes.{number_of, code_text}
use Rattle.gw_base.specs.declared.code.Code.{Code}
use Rattle.gw_base.specs.declared.code.Code.TheVariants.{SyntaxError, ReplyTooLong}
use Rattle.gw_reply.specs.Lists.{in_braces}
use Rattle.gw_reply.specs.Errors.{quoted, error_text}
use Rattle.gw_reply.specs.Messages.{too_long}
use Rattle.gw_reply.specs.Replies.{transaction_reply_text}
use Rattle.gw_base.specs.declared.ids.TxId.{TxId}

short_text : (code : Code) → length (code_text code) ≤ 43
short_text SyntaxError = omega arith
short_text _ = omega arith

pub length-in_braces : (text : List ℕ) → length (in_braces text) ≡ length text + 2
length-in_braces text = omega (arith, length-append text (codes "}"))

length-quoted : (text : List ℕ) → length (quoted text) ≡ length text + 2
length-quoted text = omega (arith, length-append text (codes "\""))

digits_are_few : (places base : ℕ) (upper : Bool) (n : ℕ) (behind : List ℕ) → length (digits_onto places base upper n behind) ≤ places + length behind
digits_are_few zero base upper n behind = omega arith
digits_are_few (suc places) base upper n behind =
    by_last (n / base == 0) (digit_glyph upper (n % base)) (digits_are_few places base upper (n / base) (digit_glyph upper (n % base) ∷ behind))
  where
    by_last : (last : Bool) (digit : ℕ) → length (digits_onto places base upper (n / base) (digit ∷ behind)) ≤ places + length (digit ∷ behind)
        → length (if last then digit ∷ behind else digits_onto places base upper (n / base) (digit ∷ behind)) ≤ suc places + length behind
    by_last true digit h = omega arith
    by_last false digit h = omega arith

number_is_short : (number : ℕ) → length (decimal number) ≤ 64
unfolding digits
number_is_short number = omega (arith, digits_are_few 64 10 false number [])

pub error_is_short : (code : Code) → length (error_text code) ≤ 117
error_is_short code =
    let group = length-in_braces (quoted (code_text code)) in
    let inner = length-quoted (code_text code) in
    omega (arith, number_is_short (number_of code), short_text code, length-append (decimal (number_of code)) (in_braces (quoted (code_text code))))

refused_is_short : (number : ℕ) (code : Code) → length (codes "Reply=" ++ decimal number ++ in_braces (error_text code)) ≤ 189
refused_is_short number code =
    let group = length-in_braces (error_text code) in
    omega (arith, number_is_short number, error_is_short code, length-append (decimal number) (in_braces (error_text code)))

pub too_long_is_short : (id : TxId) → length (transaction_reply_text (too_long id)) ≤ 189
too_long_is_short id = refused_is_short id.0 ReplyTooLong
