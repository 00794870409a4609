-- Texts of two forms and more.
use Rattle.std.proofs.lemmas.Grind.{common_steps}
use Rattle.std.proofs.Common.{◌≡◌, ℕ, true, false, List, ◌++◌, Some, None, refl, ap, sym, ◌∙◌, append_assoc, arith}
use Rattle.std.proofs.lemmas.List.Folds.{concat-append}
use Rattle.gw_base.specs.Lang.{Both, ◌▹◌}
use Rattle.gw_text.specs.Lexical.{is_safe, is_solid}
use Rattle.gw_text.specs.Space.{Each, IsSpace}
use Rattle.gw_text.specs.Runs.{begins, is_byte, NoMore}
use Rattle.gw_text.specs.Sign.{sign_at}
use Rattle.gw_text.specs.Forms.{IsWord, IsSign}
use Rattle.gw_text.proofs.FormLaws.{some_is, sign_space, BeginsWith, both_split, begins_append, byte_is_solid, is_another, begins_no_sign, word_solid, word_begins}
use Rattle.gw_text.proofs.ReaderLaws.{ReadsUp, Same, up_as, up_shrinks, up_word}
use Rattle.gw_text.specs.Parts.{Shrinks}
use Rattle.gw_text.specs.Reader.{word_read}
use Rattle.gw_desc.specs.Grammar.{Kept}

-- ---- three parts

pub first_two : {P Q R : List ℕ → Type 0} {text : List ℕ} → Both P (Both Q R) text → Both (Both P Q) R text
first_two b = let c = b.second in record {
  front = b.front ++ c.front;
  back = c.back;
  split = b.split ∙ ap (λ (x : List ℕ). b.front ++ x) c.split ∙ sym (append_assoc b.front c.front c.back);
  first = record { front = b.front; back = c.front; split = refl; first = b.first; second = c.first };
  second = c.second;
}

pub last_two : {P Q R : List ℕ → Type 0} {text : List ℕ} → Both (Both P Q) R text → Both P (Both Q R) text
last_two b = grind (arith, append_assoc)

-- the same text, where its first part has another form too
abbrev pub with_first_part : {P Q R : List ℕ → Type 0} {text : List ℕ} (b : Both P Q text) → R b.front → Both R Q text
with_first_part b x = record { front = b.front; back = b.back; split = b.split; first = x; second = b.second }

-- ---- white space

each_both : (P : List ℕ → Type 0) (xs ys : List (List ℕ)) → Each P xs → Each P ys → Each P (xs ++ ys)
each_both P xs ys h g = grind (arith, common_steps)

pub space_both : (front back : List ℕ) → IsSpace front → IsSpace back → IsSpace (front ++ back)
space_both front back h g = grind (arith, each_both, concat-append)

-- a sign takes the white space behind it
pub sign_both : (b : ℕ) (front back : List ℕ) → IsSign b front → IsSpace back → IsSign b (front ++ back)
sign_both b front back h g = grind (arith, space_both, append_assoc)

-- behind a sign no white space is left over
pub sign_takes_space : {Q : List ℕ → Type 0} {text : List ℕ} (b : ℕ) → Both (IsSign b) (IsSpace ▹ Q) text → Both (IsSign b) Q text
sign_takes_space b h = let c = h.second in record {
  front = h.front ++ c.front;
  back = c.back;
  split = h.split ∙ ap (λ (x : List ℕ). h.front ++ x) c.split ∙ sym (append_assoc h.front c.front c.back);
  first = sign_both b h.front c.front h.first c.first;
  second = c.second;
}

-- ---- the byte behind white space

-- where the bytes of the form begin with a byte, white space aside, another sign does not come next
pub ahead_other : (a b : ℕ) (Q : List ℕ → Type 0) → is_solid a ≡ true → is_byte a b ≡ false → ((text : List ℕ) → Q text → begins (is_byte a) text ≡ true) → (front rest : List ℕ) → Both IsSpace Q front → sign_at b (front ++ rest) ≡ None
ahead_other a b Q solid other first front rest h =
    ap (sign_at b) (both_split IsSpace Q front rest h)
    ∙ sign_space b h.front (h.back ++ rest) h.first
    ∙ begins_no_sign (is_byte a) b (byte_is_solid a solid) other (h.back ++ rest) (begins_append (is_byte a) h.back rest (first h.back h.second))

-- ---- words

-- a safe byte is none that is not safe
pub safe_is_not : (b : ℕ) → is_safe b ≡ false → (c : ℕ) → is_safe c ≡ true → is_byte b c ≡ false
safe_is_not b other c h = is_another c b is_safe other h

-- a word, as sent
pub word_reads : ReadsUp word_read (Kept IsWord) (NoMore is_safe) Same Same
word_reads = up_as (up_word (λ w. Some w)) (λ w text h. (sym (some_is text w h.stands), h.word)) (λ w text h. record { word = h.1; stands = ap (λ (x : List ℕ). Some x) (sym h.0) })

pub kept_solid : BeginsWith is_solid (Kept IsWord)
kept_solid w text h = word_solid text h.1

pub kept_begins : BeginsWith is_safe (Kept IsWord)
kept_begins w text h = word_begins text h.1

pub word_shrinks : Shrinks word_read
word_shrinks = up_shrinks word_reads
