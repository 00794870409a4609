-- The message with an error is one of the grammar.
use Rattle.std.proofs.Common.{◌≡◌, inl, inr, ℕ, ◌<◌, List, [], ◌∷◌, ◌++◌, true, decimal, Ok, refl, sym, append_assoc, append-nil, arith}
use Rattle.std.specs.Prelude.{codes}
use Rattle.std.proofs.lemmas.Fmt.{length-decimal-le}
use Rattle.gw_base.specs.Codes.{number_of, code_text}
use Rattle.gw_base.specs.Mids.{IsMid}
use Rattle.gw_base.specs.declared.code.Code.{Code}
use Rattle.gw_base.specs.declared.code.Code.TheVariants.{SyntaxError}
use Rattle.gw_text.specs.Lexical.{equals_sign, left_brace, right_brace, is_blank}
use Rattle.gw_text.specs.Space.{IsSpace, IsSep}
use Rattle.gw_text.specs.Forms.{IsSign, IsToken, IsNumber}
use Rattle.gw_text.specs.Quoted.{is_quotable}
use Rattle.gw_text.specs.Runs.{IsRun}
use Rattle.gw_text.specs.Tokens.{token_of, is_spelling}
use Rattle.gw_text.specs.declared.token.Token.TheVariants as token
use Rattle.gw_msg.specs.Grammar.{IsHeader, Spells, spoken_version, code_digits, code_max}
use Rattle.gw_msg.specs.Reading.{message_of}
use Rattle.gw_msg.proofs.Whole.{only}
use Rattle.gw_reply.specs.Errors.{quoted, error_text}
use Rattle.gw_reply.specs.Lists.{in_braces}
use Rattle.gw_reply.specs.Messages.{fault_text}
use Rattle.gw_reply_law.proofs.ReplyFits.{is_quoted}
use Rattle.gw_reply_law.proofs.Words.{decimal_uint32}
use Rattle.gw_engine.specs.Readable.{SpellsErrorOf, IsErrorMessage, error_message}

no_space : IsSpace []
no_space = record { pieces = []; whole = refl; each = tt }

plain_sign : (b : ℕ) → IsSign b (b ∷ [])
plain_sign b = record { front = []; back = b ∷ []; split = refl; first = no_space; second = record { front = b ∷ []; back = []; split = refl; first = refl; second = no_space } }

sep_of : (b : ℕ) → is_blank b ≡ true → IsSep (b ∷ [])
sep_of b h = record { space = record { pieces = (b ∷ []) ∷ []; whole = refl; each = (inl (b, refl, h), tt) }; some = omega arith }

header : IsHeader spoken_version (codes "MEGACO/1 ")
header = record {
  front = [];
  back = codes "MEGACO/1 ";
  split = refl;
  first = no_space;
  second = record {
    front = codes "MEGACO";
    back = codes "/1 ";
    split = refl;
    first = inl refl;
    second = record {
      front = codes "/";
      back = codes "1 ";
      split = refl;
      first = refl;
      second = record { front = codes "1"; back = codes " "; split = refl; first = record { digits = refl; some = omega arith; short = omega arith; value = refl; small = omega arith }; second = sep_of 32 refl };
    };
  };
}

error_word : IsToken token.Error (codes "Error")
unfolding token_of is_spelling
error_word = record { word = record { run = refl; some = omega arith }; stands = refl }

small_number : (code : Code) → number_of code < 10000
small_number SyntaxError = omega arith
small_number _ = omega arith

text_is_quotable : (code : Code) → IsRun is_quotable (code_text code)
text_is_quotable SyntaxError = refl
text_is_quotable _ = refl

number_spelled : (n : ℕ) → n < 10000 → IsNumber code_digits code_max n (decimal n)
number_spelled n small =
    let wide = decimal_uint32 n (omega (arith, small)) in
    record { digits = wide.digits; some = wide.some; short = length-decimal-le 4 n (omega arith) (omega (arith, small)) (omega (arith, small)); value = wide.value; small = omega (arith, small) }

-- Error=<number>{"<text>"}
error_spelled : (code : Code) → SpellsErrorOf (number_of code) (error_text code)
error_spelled code = record {
  front = codes "Error";
  back = codes "=" ++ (decimal (number_of code) ++ in_braces (quoted (code_text code)));
  split = refl;
  first = error_word;
  second = record {
    front = codes "=";
    back = decimal (number_of code) ++ in_braces (quoted (code_text code));
    split = refl;
    first = plain_sign equals_sign;
    second = record {
      front = decimal (number_of code);
      back = in_braces (quoted (code_text code));
      split = refl;
      first = number_spelled (number_of code) (small_number code);
      second = record {
        front = codes "{";
        back = quoted (code_text code) ++ codes "}";
        split = refl;
        first = plain_sign left_brace;
        second = record { front = quoted (code_text code); back = codes "}"; split = refl; first = inr (is_quoted (code_text code) (text_is_quotable code)); second = plain_sign right_brace };
      };
    };
  };
}

pub fault_is_error : (mid : List ℕ) (code : Code) → IsMid mid → IsErrorMessage mid (number_of code) (fault_text mid code)
unfolding fault_text
fault_is_error mid code m = record {
  front = codes "MEGACO/1 ";
  back = mid ++ codes "\n" ++ error_text code;
  split = refl;
  first = header;
  second = record {
    front = mid;
    back = codes "\n" ++ error_text code;
    split = append_assoc mid (codes "\n") (error_text code);
    first = (refl, m);
    second = record { front = codes "\n"; back = error_text code; split = refl; first = sep_of 10 refl; second = record { front = error_text code; back = []; split = sym (append-nil (error_text code)); first = error_spelled code; second = no_space } };
  };
}

-- so it spells the message without items
error_is_spelled : (mid : List ℕ) (number : ℕ) (text : List ℕ) → IsErrorMessage mid number text → Spells (error_message mid) text
error_is_spelled mid number text h =
    let content = h.second in
    let body = content.second in
    let last = body.second in
    let error = last.first in
    let words = error.second in
    let code = words.second in
    record {
      front = h.front;
      back = h.back;
      split = h.split;
      first = h.first;
      second = record {
        front = content.front;
        back = content.back;
        split = content.split;
        first = content.first;
        second = record {
          front = body.front;
          back = body.back;
          split = body.split;
          first = body.first;
          second = record {
            front = last.front;
            back = last.back;
            split = last.split;
            first = record {
              front = error.front;
              back = error.back;
              split = error.split;
              first = error.first;
              second = record { front = words.front; back = words.back; split = words.split; first = words.first; second = record { front = code.front; back = code.back; split = code.split; first = (number, code.first); second = code.second } };
            };
            second = last.second;
          };
        };
      };
    }

-- and that is what reading it answers
pub error_is_read : (mid : List ℕ) (number : ℕ) (text : List ℕ) → IsErrorMessage mid number text → message_of text ≡ Ok (error_message mid)
error_is_read mid number text h =
    elim (only text (Ok (error_message mid)) (error_is_spelled mid number text h)) [
      | inl e ↦ sym e
      | inr e ↦ absurd cc
    ]
