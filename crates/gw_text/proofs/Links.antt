-- What forms begin with, and so what may stand behind what.
use Rattle.std.proofs.lemmas.Grind.{common_steps}
use Rattle.std.proofs.Common.{◌≡◌, ℕ, ◌<◌, Bool, true, false, not, ◌==◌, ◌||◌, List, [], ◌∷◌, ◌++◌, length, None, refl, ap, sym, ◌∙◌, arith}
use Rattle.std.proofs.lemmas.Bool.{eqb-true, not-true, false_from_ne_true}
use Rattle.gw_base.specs.Bytes.{is_digit, is_letter}
use Rattle.gw_base.specs.Lang.{Both}
use Rattle.gw_text.specs.Lexical.{tab, space, line_feed, carriage_return, semicolon, is_space_start, is_solid, is_safe, is_safe_mark}
use Rattle.gw_text.specs.Space.{IsSpace, IsSep}
use Rattle.gw_text.specs.Runs.{begins, IsRun, is_byte, NoMore}
use Rattle.gw_text.specs.Sign.{byte_at, sign_at}
use Rattle.gw_text.specs.Forms.{IsWord, IsNumber, IsSign}
use Rattle.gw_text.proofs.Skips.{space_first}
use Rattle.gw_text.proofs.Signs.{sign_ends, sign_other, no_sign}
use Rattle.gw_text.proofs.ReadsUp.{both_split, begins_append, begins_apart}

-- ---- classes

-- what holds of the five bytes with which white space begins
pub space_bytes : (P : ℕ → Type 0) → P space → P tab → P carriage_return → P line_feed → P semicolon → (c : ℕ) → is_space_start c ≡ true → P c
space_bytes P a b d e f c h = grind arith

-- no safe byte begins white space
pub safe_apart : (c : ℕ) → is_space_start c ≡ true → is_safe c ≡ false
safe_apart = space_bytes (λ c. is_safe c ≡ false) refl refl refl refl refl

-- no digit does
pub digit_apart : (c : ℕ) → is_space_start c ≡ true → is_digit c ≡ false
digit_apart = space_bytes (λ c. is_digit c ≡ false) refl refl refl refl refl

-- no solid byte does
pub solid_apart : (c : ℕ) → is_space_start c ≡ true → is_solid c ≡ false
solid_apart c h = ap not h

-- what begins no white space, of a class of which white space begins with none
pub is_solid_by : (p : ℕ → Bool) → ((c : ℕ) → is_space_start c ≡ true → p c ≡ false) → (c : ℕ) → p c ≡ true → is_solid c ≡ true
is_solid_by p h c is = ap not (false_from_ne_true (is_space_start c) (λ s. let e : true ≡ false = sym is ∙ h c s in absurd cc))

pub safe_is_solid : (c : ℕ) → is_safe c ≡ true → is_solid c ≡ true
safe_is_solid = is_solid_by is_safe safe_apart

pub digit_is_solid : (c : ℕ) → is_digit c ≡ true → is_solid c ≡ true
digit_is_solid = is_solid_by is_digit digit_apart

left_or : (a b c : Bool) → b ≡ true → a || b || c ≡ true
left_or a b c h = grind arith

pub digit_is_safe : (c : ℕ) → is_digit c ≡ true → is_safe c ≡ true
digit_is_safe c h = left_or (is_letter c) (is_digit c) (is_safe_mark c) h

-- ---- what forms begin with

pub run_begins : (p q : ℕ → Bool) → ((c : ℕ) → p c ≡ true → q c ≡ true) → (text : List ℕ) → IsRun p text → 0 < length text → begins q text ≡ true
run_begins p q h text run some = grind arith

pub word_begins : (text : List ℕ) → IsWord text → begins is_safe text ≡ true
word_begins text h = run_begins is_safe is_safe (λ c e. e) text h.run h.some

pub word_solid : (text : List ℕ) → IsWord text → begins is_solid text ≡ true
word_solid text h = run_begins is_safe is_solid safe_is_solid text h.run h.some

pub number_begins : (most max n : ℕ) (text : List ℕ) → IsNumber most max n text → begins is_digit text ≡ true
number_begins most max n text h = run_begins is_digit is_digit (λ c e. e) text h.digits h.some

pub number_solid : (most max n : ℕ) (text : List ℕ) → IsNumber most max n text → begins is_solid text ≡ true
number_solid most max n text h = run_begins is_digit is_solid digit_is_solid text h.digits h.some

-- a text of two forms begins as its first part
pub both_begins : (p : ℕ → Bool) (P Q : List ℕ → Type 0) → ((text : List ℕ) → P text → begins p text ≡ true) → (text : List ℕ) → Both P Q text → begins p text ≡ true
both_begins p P Q h text b = ap (begins p) b.split ∙ begins_append p b.front b.back (h b.front b.first)

-- ---- signs and white space behind words

-- a sign ends what white space and the sign's byte do not go on with
pub both_ends : (p : ℕ → Bool) (b : ℕ) (Q : List ℕ → Type 0) (front rest : List ℕ) → ((c : ℕ) → is_space_start c ≡ true → p c ≡ false) → p b ≡ false → Both (IsSign b) Q front → NoMore p (front ++ rest)
both_ends p b Q front rest apart solid h = ap (begins p) (both_split (IsSign b) Q front rest h) ∙ sign_ends p b h.front (h.back ++ rest) apart solid h.first

-- a text of two forms does not go on with what its first part does not
pub both_no_more : (p : ℕ → Bool) (P Q : List ℕ → Type 0) (front rest : List ℕ) → ((front rest : List ℕ) → P front → NoMore p (front ++ rest)) → Both P Q front → NoMore p (front ++ rest)
both_no_more p P Q front rest h b = ap (begins p) (both_split P Q front rest b) ∙ h b.front (b.back ++ rest) b.first

-- another sign stands there
pub both_other : (a b : ℕ) (Q : List ℕ → Type 0) (front rest : List ℕ) → is_space_start a ≡ false → a == b ≡ false → Both (IsSign a) Q front → sign_at b (front ++ rest) ≡ None
both_other a b Q front rest solid other h = ap (sign_at b) (both_split (IsSign a) Q front rest h) ∙ sign_other a b h.front (h.back ++ rest) solid other h.first

-- white space ends what it does not go on with, where what is behind it does not either
pub space_ends : (p : ℕ → Bool) → ((c : ℕ) → is_space_start c ≡ true → p c ≡ false) → (front rest : List ℕ) → IsSpace front → NoMore p rest → NoMore p (front ++ rest)
space_ends p apart [] rest h n = n
space_ends p apart (c ∷ cs) rest h n = apart c (space_first c cs h)

-- white space that is there ends what it does not go on with
pub sep_ends : (p : ℕ → Bool) → ((c : ℕ) → is_space_start c ≡ true → p c ≡ false) → (front rest : List ℕ) → IsSep front → NoMore p (front ++ rest)
sep_ends p apart [] rest h = absurd (let some = h.some in omega arith)
sep_ends p apart (c ∷ cs) rest h = apart c (space_first c cs h.space)

-- what begins with bytes of one class does not go on with another
pub begins_ends : (p q : ℕ → Bool) → ((c : ℕ) → p c ≡ true → q c ≡ false) → (front rest : List ℕ) → begins p front ≡ true → NoMore q (front ++ rest)
begins_ends p q apart front rest b = begins_apart p q apart (front ++ rest) (begins_append p front rest b)

-- another byte is there, or none
byte_apart : (b : ℕ) (text : List ℕ) → begins (is_byte b) text ≡ false → byte_at b text ≡ None
unfolding byte_at
byte_apart b text h = grind arith

pub no_byte : (b : ℕ) (text : List ℕ) → NoMore (is_byte b) text → byte_at b text ≡ None
no_byte b text h = byte_apart b text h

-- a byte of a class is another than one that is not
pub is_another : (c b : ℕ) (p : ℕ → Bool) → p b ≡ false → p c ≡ true → c == b ≡ false
is_another c b p other is = false_from_ne_true (c == b) (λ e. let same : true ≡ false = sym is ∙ ap p (eqb-true c b e) ∙ other in absurd cc)

-- a text that begins with solid bytes of a class to which the sign's byte does not belong
pub begins_no_sign : (p : ℕ → Bool) (b : ℕ) → ((c : ℕ) → p c ≡ true → is_solid c ≡ true) → p b ≡ false → (text : List ℕ) → begins p text ≡ true → sign_at b text ≡ None
begins_no_sign p b solid other text h = grind (arith, is_another, no_sign, not-true)

-- bytes that begin with a byte end, white space aside, what neither goes on with
pub ahead_ends : (p : ℕ → Bool) (b : ℕ) (Q : List ℕ → Type 0) → ((c : ℕ) → is_space_start c ≡ true → p c ≡ false) → p b ≡ false → ((text : List ℕ) → Q text → begins (is_byte b) text ≡ true) → (front rest : List ℕ) → Both IsSpace Q front → NoMore p (front ++ rest)
ahead_ends p b Q apart other first front rest h = grind (arith, common_steps, space_ends, begins_ends)

-- ---- with other second parts

-- the same text, where its second part has another form too
pub with_second : {P Q R : List ℕ → Type 0} {text : List ℕ} (b : Both P Q text) → R b.back → Both P R text
with_second b y = record { front = b.front; back = b.back; split = b.split; first = b.first; second = y }

-- ---- one byte, and white space
