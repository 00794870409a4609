-- The text of a reply is a group, and the message with it spells one item.
use Rattle.std.proofs.Common.{◌≡◌, inl, inr, ℕ, ◌-◌, ◌<◌, true, false, List, [], ◌∷◌, ◌++◌, map, decimal, refl, sym, append_assoc, append-nil, arith, Result, Ok, Err}
use Rattle.std.specs.Prelude.{codes}
use Rattle.std.specs.List.{All}
use Rattle.std.proofs.lemmas.List.Elements.{All-head, All-tail}
use Rattle.std.proofs.Common.{length-append}
use Rattle.std.proofs.lemmas.List.Folds.{list_all-append}
use Rattle.std.proofs.lemmas.Bool.{and_from}
use Rattle.gw_base.specs.Mids.{IsMid}
use Rattle.gw_base.specs.Codes.{number_of, code_text}
use Rattle.gw_base.specs.declared.code.Code.{Code}
use Rattle.gw_base.specs.declared.term_ref.TermRef.{TermRef}
use Rattle.gw_base.specs.declared.term_ref.TermRef.TheVariants.{Root, All as Every, Choose, Under, Name, Other as Pattern}
use Rattle.gw_base.specs.declared.command_words.CtxRef.{CtxRef}
use Rattle.gw_base.specs.declared.command_words.CtxRef.TheVariants as ctx
use Rattle.gw_base.specs.declared.command_words.Verb.{Verb}
use Rattle.gw_text.specs.Lexical.{equals_sign, is_blank}
use Rattle.gw_text.specs.Space.{IsSpace, IsSep}
use Rattle.gw_text.specs.Forms.{IsSign, IsToken, IsWord}
use Rattle.gw_text.specs.Quoted.{IsQuoted, is_quotable}
use Rattle.gw_text.specs.Runs.{IsRun}
use Rattle.gw_text.specs.Group.{IsGroup, after_word}
use Rattle.gw_text.specs.Tokens.{token_of, is_spelling}
use Rattle.gw_text.specs.declared.token.Token.TheVariants as token
use Rattle.gw_reply.specs.Commands.{command_word}
use Rattle.gw_reply.specs.Contexts.{context_text}
use Rattle.gw_reply.specs.Terminations.{term_text}
use Rattle.gw_reply.specs.Errors.{quoted, error_text}
use Rattle.gw_reply.specs.Lists.{comma_separated}
use Rattle.gw_reply.specs.Replies.{replies_text}
use Rattle.gw_reply.specs.Messages.{message_text}
use Rattle.gw_msg.specs.Grammar.{IsHeader, Spells, reply_depth, spoken_version}
use Rattle.gw_msg.specs.Reading.{message_of}
use Rattle.gw_msg.proofs.Whole.{only}
use Rattle.gw_reply_law.proofs.Spots.{Equals, Other}
use Rattle.gw_reply_law.specs.Spellings.{SpellsReplyOf, IsReplyMessage, reply_message}
use Rattle.gw_reply.specs.KeptReplies.{HasForm, IsWide}
use Rattle.gw_reply.specs.KeptParts.{AllOk}
use Rattle.gw_reply_law.proofs.Fits.{Fits, Runs, then, as_runs, then_runs, runs_then_runs, fits_nothing, fits_word, fits_quoted, fits_braces, fits_comma, fits_key}
use Rattle.gw_reply_law.proofs.Words.{decimal_word, decimal_uint32, term_word, name_word}

-- ---- errors

text_is_quotable : (code : Code) → IsRun is_quotable (code_text code)
text_is_quotable code = grind arith

pub is_quoted : (text : List ℕ) → IsRun is_quotable text → IsQuoted (quoted text)
is_quoted text h = record { front = codes "\""; back = text ++ codes "\""; split = refl; first = refl; second = record { front = text; back = codes "\""; split = refl; first = h; second = refl } }

-- Error=<number>{"<text>"}
pub error_fits : (levels : ℕ) (code : Code) → 0 < levels → Fits levels Other false (error_text code) Other false
error_fits levels code room =
    then (then (fits_key levels Other (codes "Error") equals_sign (record { run = refl; some = omega arith }) refl)
    (fits_word levels Equals (decimal (number_of code)) (decimal_word (number_of code))))
    (fits_braces levels (after_word Equals (decimal (number_of code))) true (quoted (code_text code)) refl room
    (as_runs (fits_quoted (levels - 1) Other false (quoted (code_text code)) (is_quoted (code_text code) (text_is_quotable code)))))

-- ---- words

pub command_is_word : (v : Verb) → IsWord (command_word v)
command_is_word v = grind arith

pub context_is_word : (c : CtxRef) → IsWord (context_text c)
context_is_word ctx.Null = record { run = refl; some = omega arith }
context_is_word ctx.All = record { run = refl; some = omega arith }
context_is_word ctx.Choose = record { run = refl; some = omega arith }
context_is_word (ctx.Num n) = decimal_word n.0

longer : (w v : List ℕ) → IsWord w → IsWord v → IsWord (w ++ v)
longer w v h k = record { run = rw list_all-append (and_from _ _ h.run k.run); some = omega (arith, h.some, length-append w v) }

pub term_is_word : (t : TermRef) → HasForm t → IsWord (term_text t)
term_is_word Root h = record { run = refl; some = omega arith }
term_is_word Every h = record { run = refl; some = omega arith }
term_is_word Choose h = record { run = refl; some = omega arith }
term_is_word (Under prefix) h = longer prefix (codes "*") (name_word prefix h) (record { run = refl; some = omega arith })
term_is_word (Name name) h = term_word name h
term_is_word (Pattern pattern) h = term_word pattern h

-- ---- lists of replies

-- a list of replies, or the error in their place
pub replies_run : {T : Type 0} (levels : ℕ) (text : T → List ℕ) (P : T → Type 0) → 0 < levels → ((t : T) → P t → Runs levels Other false (text t)) → (r : Result (List T) Code) → AllOk P r → Runs levels Other false (replies_text text r)
replies_run {T} levels text P room each (Err code) h = as_runs (error_fits levels code room)
replies_run {T} levels text P room each (Ok replies) h = all replies h
  where
    all : (replies : List T) → All P replies → Runs levels Other false (comma_separated (map text replies))
    all [] h = as_runs (fits_nothing levels Other false)
    all (x ∷ []) h = each x (All-head P x [] h)
    all (x ∷ (y ∷ ys)) h = runs_then_runs (each x (All-head P x (y ∷ ys) h)) (λ b v. then_runs (fits_comma levels b v) (all (y ∷ ys) (All-tail P x (y ∷ ys) h)))

-- ---- the message

no_space : IsSpace []
no_space = record { pieces = []; whole = refl; each = tt }

plain_sign : (b : ℕ) → IsSign b (b ∷ [])
plain_sign b = record { front = []; back = b ∷ []; split = refl; first = no_space; second = record { front = b ∷ []; back = []; split = refl; first = refl; second = no_space } }

reply_word : IsToken token.Reply (codes "Reply")
unfolding token_of is_spelling
reply_word = record { word = record { run = refl; some = omega arith }; stands = refl }

-- Reply=<TransactionID>{..}
pub reply_spelled : (id : ℕ) (group : List ℕ) → IsWide id → IsGroup reply_depth group → SpellsReplyOf id ((codes "Reply=" ++ decimal id) ++ group)
reply_spelled id group wide h = record {
  front = codes "Reply";
  back = codes "=" ++ decimal id ++ group;
  split = refl;
  first = reply_word;
  second = record {
    front = codes "=";
    back = decimal id ++ group;
    split = refl;
    first = plain_sign equals_sign;
    second = record {
      front = decimal id;
      back = group;
      split = refl;
      first = decimal_uint32 id wide;
      second = record { front = []; back = group; split = refl; first = no_space; second = h };
    };
  };
}

sep_of : (b : ℕ) → is_blank b ≡ true → IsSep (b ∷ [])
sep_of b h = record { space = record { pieces = (b ∷ []) ∷ []; whole = refl; each = (inl (b, refl, h), tt) }; some = omega arith }

header : IsHeader spoken_version (codes "MEGACO/1 ")
header = record {
  front = [];
  back = codes "MEGACO/1 ";
  split = refl;
  first = no_space;
  second = record {
    front = codes "MEGACO";
    back = codes "/1 ";
    split = refl;
    first = inl refl;
    second = record {
      front = codes "/";
      back = codes "1 ";
      split = refl;
      first = refl;
      second = record { front = codes "1"; back = codes " "; split = refl; first = record { digits = refl; some = omega arith; short = omega arith; value = refl; small = omega arith }; second = sep_of 32 refl };
    };
  };
}

pub message_spelled : (mid body : List ℕ) (id : ℕ) → IsMid mid → SpellsReplyOf id body → IsReplyMessage mid id (message_text mid body)
message_spelled mid body id m h = record {
  front = codes "MEGACO/1 ";
  back = mid ++ codes "\n" ++ body;
  split = refl;
  first = header;
  second = record {
    front = mid;
    back = codes "\n" ++ body;
    split = append_assoc mid (codes "\n") body;
    first = (refl, m);
    second = record { front = codes "\n"; back = body; split = refl; first = sep_of 10 refl; second = record { front = body; back = []; split = sym (append-nil body); first = h; second = no_space } };
  };
}

-- so it spells the message with one item
pub is_spelled : (mid : List ℕ) (id : ℕ) (text : List ℕ) → IsReplyMessage mid id text → Spells (reply_message mid) text
is_spelled mid id text h = grind arith

-- and that is what reading it answers
pub is_read : (mid : List ℕ) (id : ℕ) (text : List ℕ) → IsReplyMessage mid id text → message_of text ≡ Ok (reply_message mid)
is_read mid id text h =
    elim (only text (Ok (reply_message mid)) (is_spelled mid id text h)) [
      | inl e ↦ sym e
      | inr e ↦ absurd cc
    ]
