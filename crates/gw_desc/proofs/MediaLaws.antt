-- The readers of the parts of a Media descriptor read their forms.
use Rattle.std.proofs.lemmas.Grind.{common_steps}
use Rattle.std.proofs.Common.{◌≡◌, ℕ, Bool, true, false, List, [], ◌∷◌, ◌++◌, Some, None, refl, ap, sym, subst, ◌∙◌, arith}
use Rattle.std.proofs.lemmas.List.{append-nil}
use Rattle.gw_base.specs.Bytes.{is_digit}
use Rattle.gw_base.specs.Lang.{Both, ◌▹◌, IsText}
use Rattle.gw_text.specs.Lexical.{is_safe, is_solid, left_brace, right_brace, equals_sign, is_space_start}
use Rattle.gw_text.specs.Space.{IsSpace}
use Rattle.gw_text.specs.SpaceScan.{skip}
use Rattle.gw_text.specs.Runs.{begins, is_byte, NoMore}
use Rattle.gw_text.specs.Sign.{byte_at}
use Rattle.gw_text.specs.Forms.{IsToken, IsSign, Braced}
use Rattle.gw_text.specs.Octets.{IsOctetsOf}
use Rattle.gw_text.specs.Tokens.{token_of}
use Rattle.gw_text.specs.Reader.{Reader, ◌>>=◌, word_as, number_up_to, octets_read, braced_at}
use Rattle.gw_text.specs.declared.token.Token.{Token}
use Rattle.gw_text.specs.declared.token.Token.TheVariants as token
use Rattle.gw_text.proofs.FormLaws.{BeginsWith, safe_apart, digit_apart, both_begins, both_ends, with_second, word_solid, number_solid, ahead_ends}
use Rattle.gw_text.proofs.ReaderLaws.{ReadsUp, Same, Skipped, UpTo, Any, up_as, up_from, up_to, up_skipped, up_then, up_last, up_done, up_sign, up_byte, up_space, same_up, skipped_up, up_shrinks, up_word, up_number_up_to, BracesUp, up_braced, up_octets}
use Rattle.gw_desc.specs.declared.descriptor.Property.{Property}
use Rattle.gw_desc.specs.declared.descriptor.MediaPart.{MediaPart}
use Rattle.gw_desc.specs.declared.descriptor.MediaPart.TheVariants as media
use Rattle.gw_desc.specs.declared.descriptor.StreamPart.{StreamPart}
use Rattle.gw_desc.specs.declared.descriptor.StreamPart.TheVariants as part
use Rattle.gw_text.specs.Parts.{Shrinks}
use Rattle.gw_desc.specs.Grammar.{SpellsProperty, SpellsOctets, SpellsStreamPart, stream_digits, stream_max, IsStreamId, SpellsMediaPart}
use Rattle.gw_desc.specs.Reading.{property_at, octets_text_at, stream_rest, stream_part_at, stream_at, media_rest, media_part_at}
use Rattle.gw_desc.proofs.PropertyLaws.{property_reads, property_braces}

-- ---- tokens

pub token_reads : ReadsUp (word_as token_of) IsToken (NoMore is_safe) Same Same
token_reads = up_word token_of

pub token_solid : (t : Token) (text : List ℕ) → IsToken t text → begins is_solid text ≡ true
token_solid t text h = word_solid text h.word

-- a list in braces does not go on with a word
pub braced_ends : {V : Type 0} (p : ℕ → Bool) (Form : V → List ℕ → Type 0) → ((c : ℕ) → is_space_start c ≡ true → p c ≡ false) → p left_brace ≡ false → (vs : List V) (front rest : List ℕ) → Braced Form vs front → NoMore p (front ++ rest)
braced_ends p Form apart other vs front rest b = both_ends p left_brace _ front rest apart other b

-- ---- octets

abbrev closed_at : List ℕ → Reader (List ℕ)
closed_at span text = byte_at right_brace text >>= λ close. Some (span, skip close)

abbrev Nothing : List ℕ → List ℕ → List ℕ → Type 0
Nothing span other text = (span ≡ other) × (text ≡ [])

abbrev Closed : List ℕ → List ℕ → List ℕ → Type 0
Closed span other = IsText (right_brace ∷ []) ▹ IsSpace ▹ Nothing span other

closed_reads : (span : List ℕ) → ReadsUp (closed_at span) (Closed span) Any Same Skipped
closed_reads span =
    up_byte right_brace (λ text. Some (span, skip text)) (λ other. IsSpace ▹ Nothing span other) Any Skipped
    (up_from (up_space (λ text. Some (span, text)) (Nothing span) Any Skipped (up_done span Any Skipped)) same_up)

abbrev inside_at : Reader (List ℕ)
inside_at text = octets_read text >>= λ s. closed_at s.0 s.1

abbrev Inside : List ℕ → List ℕ → Type 0
Inside other text = (span : List ℕ) × Both (IsOctetsOf span) (Closed span other) text

inside_reads : ReadsUp inside_at Inside Any Same Skipped
inside_reads =
    up_then octets_read closed_at IsOctetsOf Closed (λ rest. begins (is_byte right_brace) rest ≡ true) Any Same Same Skipped
    up_octets closed_reads
    (λ span other front rest q n. ap (λ (x : List ℕ). begins (is_byte right_brace) (x ++ rest)) (q.split ∙ ap (λ (x : List ℕ). x ++ q.back) q.first))

abbrev brace_at : Reader (List ℕ)
brace_at text = byte_at left_brace text >>= inside_at

brace_reads : ReadsUp brace_at (λ other. IsText (left_brace ∷ []) ▹ Inside other) Any Skipped Skipped
brace_reads =
    up_skipped (λ other text b. ap (begins is_solid) (b.split ∙ ap (λ (x : List ℕ). x ++ b.back) b.first))
    (up_byte left_brace inside_at Inside Any Skipped inside_reads)

-- white space with nothing behind it
space_alone : (span other text : List ℕ) → Both IsSpace (Nothing span other) text → IsSpace text × (span ≡ other)
space_alone span other text b = grind (arith, append-nil)

alone_space : (span text : List ℕ) → IsSpace text → Both IsSpace (Nothing span span) text
alone_space span text h = record { front = text; back = []; split = sym (append-nil text); first = h; second = (refl, refl) }

pub octets_text_reads : ReadsUp octets_text_at SpellsOctets Any UpTo Skipped
unfolding octets_text_at
octets_text_reads =
    up_as (up_space brace_at (λ other. IsText (left_brace ∷ []) ▹ Inside other) Any Skipped brace_reads)
    (λ other text b.
    let c = b.second in let i = c.second in let o = i.1 in let d = o.second in
    let s = space_alone i.0 other d.back d.second in
    subst (λ (x : List ℕ). SpellsOctets x text) s.1 (with_second b (with_second c (with_second o (with_second d s.0)))))
    (λ other text b.
    let c = b.second in let o = c.second in let d = o.second in
    with_second b (with_second c (other, with_second o (with_second d (alone_space other d.back d.second)))))

octets_end : (span front rest : List ℕ) → SpellsOctets span front → NoMore is_safe (front ++ rest)
octets_end span front rest h =
    ahead_ends is_safe left_brace (IsText (left_brace ∷ []) ▹ IsOctetsOf span ▹ IsText (right_brace ∷ []) ▹ IsSpace) safe_apart refl
    (λ text b. ap (begins (is_byte left_brace)) (b.split ∙ ap (λ (x : List ℕ). x ++ b.back) b.first)) front rest h

-- ---- lists of properties

pub properties_read : ReadsUp (braced_at property_at) (Braced SpellsProperty) Any UpTo Skipped
properties_read = up_braced property_at SpellsProperty (NoMore is_safe) (up_to property_reads same_up) property_braces

-- a value, of which the whole is made, read from just there
pub made_of : {V W : Type 0} (r : Reader V) (f : V → W) (P : V → List ℕ → Type 0) → ReadsUp r P Any UpTo Skipped → ReadsUp (λ text. r text >>= λ x. Some (f x.0, x.1)) (λ w text. (v : V) × (f v ≡ w) × P v text) Any Same Skipped
made_of r f P h = up_from (up_last r f P Any UpTo Skipped h) same_up

-- nothing is read
pub up_none : {W : Type 0} (To : List ℕ → List ℕ → Type 0) (Next : List ℕ → Type 0) → ReadsUp {V = W} (λ text. None) (λ w text. ⊥) Next Same To
up_none To Next = grind arith

-- ---- parts of a stream

abbrev StreamRest : Token → StreamPart → List ℕ → Type 0
StreamRest token.Local p text = (span : List ℕ) × (part.Local span ≡ p) × SpellsOctets span text
StreamRest token.Remote p text = (span : List ℕ) × (part.Remote span ≡ p) × SpellsOctets span text
StreamRest token.LocalControl p text = (list : List (Property (List ℕ))) × (part.LocalControl list ≡ p) × Braced SpellsProperty list text
StreamRest _ p text = ⊥

stream_rest_reads : (t : Token) → ReadsUp (stream_rest t) (StreamRest t) Any Same Skipped
stream_rest_reads token.Local = made_of octets_text_at (λ span. part.Local span) SpellsOctets octets_text_reads
stream_rest_reads token.Remote = made_of octets_text_at (λ span. part.Remote span) SpellsOctets octets_text_reads
stream_rest_reads token.LocalControl = made_of (braced_at property_at) (λ list. part.LocalControl list) (Braced SpellsProperty) properties_read
stream_rest_reads _ = up_none Skipped Any

stream_rest_ends : (t : Token) (p : StreamPart) (front rest : List ℕ) → StreamRest t p front → NoMore is_safe (front ++ rest)
stream_rest_ends token.Local p front rest q = octets_end q.0 front rest q.2
stream_rest_ends token.Remote p front rest q = octets_end q.0 front rest q.2
stream_rest_ends token.LocalControl p front rest q = braced_ends is_safe SpellsProperty safe_apart refl q.0 front rest q.2
stream_rest_ends _ p front rest q = absurd q

stream_part_to : (t : Token) (p : StreamPart) (text : List ℕ) → Both (IsToken t) (StreamRest t p) text → SpellsStreamPart p text
stream_part_to token.Local p text b = subst (λ (x : StreamPart). SpellsStreamPart x text) b.second.1 (with_second b b.second.2)
stream_part_to token.Remote p text b = subst (λ (x : StreamPart). SpellsStreamPart x text) b.second.1 (with_second b b.second.2)
stream_part_to token.LocalControl p text b = subst (λ (x : StreamPart). SpellsStreamPart x text) b.second.1 (with_second b b.second.2)
stream_part_to _ p text b = absurd (b.second)

stream_part_from : (p : StreamPart) (text : List ℕ) → SpellsStreamPart p text → (t : Token) × Both (IsToken t) (StreamRest t p) text
stream_part_from p text b = grind arith

pub stream_part_reads : ReadsUp stream_part_at SpellsStreamPart Any Same Skipped
unfolding stream_part_at
stream_part_reads =
    up_as (up_then (word_as token_of) stream_rest IsToken StreamRest (NoMore is_safe) Any Same Same Skipped
    token_reads stream_rest_reads (λ t p front rest q n. stream_rest_ends t p front rest q))
    (λ p text h. stream_part_to h.0 p text h.1) stream_part_from

pub stream_part_shrinks : Shrinks stream_part_at
stream_part_shrinks = up_shrinks stream_part_reads

stream_part_solid : BeginsWith is_solid SpellsStreamPart
stream_part_solid p text h = let s = stream_part_from p text h in both_begins is_solid (IsToken s.0) (StreamRest s.0 p) (token_solid s.0) text s.1

stream_part_braces : BracesUp SpellsStreamPart Any
stream_part_braces = grind (arith, stream_part_solid)

-- ---- streams

abbrev stream_parts_at : ℕ → Reader MediaPart
stream_parts_at id text = braced_at stream_part_at text >>= λ x. Some (media.Stream id x.0, x.1)

abbrev StreamParts : ℕ → MediaPart → List ℕ → Type 0
StreamParts id m text = (parts : List StreamPart) × (media.Stream id parts ≡ m) × Braced SpellsStreamPart parts text

abbrev stream_id_at : Reader MediaPart
stream_id_at text = number_up_to stream_digits stream_max text >>= λ id. stream_parts_at id.0 id.1

abbrev StreamId : MediaPart → List ℕ → Type 0
StreamId m text = (id : ℕ) × Both (IsStreamId id) (StreamParts id m) text

stream_id_reads : ReadsUp stream_id_at StreamId Any Same Skipped
stream_id_reads =
    up_then (number_up_to stream_digits stream_max) stream_parts_at IsStreamId StreamParts (NoMore is_digit) Any Same Same Skipped
    (up_number_up_to stream_digits stream_max)
    (λ id. made_of (braced_at stream_part_at) (λ parts. media.Stream id parts) (Braced SpellsStreamPart) (up_braced stream_part_at SpellsStreamPart Any (up_to stream_part_reads skipped_up) stream_part_braces))
    (λ id m front rest q n. braced_ends is_digit SpellsStreamPart digit_apart refl q.0 front rest q.2)

stream_id_solid : BeginsWith is_solid StreamId
stream_id_solid m text h = both_begins is_solid (IsStreamId h.0) (StreamParts h.0 m) (number_solid _ _ h.0) text h.1

abbrev AStream : MediaPart → List ℕ → Type 0
AStream m = IsSign equals_sign ▹ StreamId m

stream_reads : ReadsUp stream_at AStream Any Same Skipped
unfolding stream_at
stream_reads = up_from (up_sign equals_sign stream_id_at StreamId Any Skipped refl (up_skipped stream_id_solid stream_id_reads)) same_up

-- ---- parts of a Media descriptor

abbrev MediaRest : Token → MediaPart → List ℕ → Type 0
MediaRest token.Stream m text = AStream m text
MediaRest token.TerminationState m text = (list : List (Property (List ℕ))) × (media.TerminationState list ≡ m) × Braced SpellsProperty list text
MediaRest t m text = (p : StreamPart) × (media.Outside p ≡ m) × StreamRest t p text

media_rest_reads : (t : Token) → ReadsUp (media_rest t) (MediaRest t) Any Same Skipped
media_rest_reads token.Stream = stream_reads
media_rest_reads token.TerminationState = made_of (braced_at property_at) (λ list. media.TerminationState list) (Braced SpellsProperty) properties_read
media_rest_reads t = up_last (stream_rest t) (λ p. media.Outside p) (StreamRest t) Any Same Skipped (stream_rest_reads t)

media_rest_ends : (t : Token) (m : MediaPart) (front rest : List ℕ) → MediaRest t m front → NoMore is_safe (front ++ rest)
media_rest_ends token.Stream m front rest q = both_ends is_safe equals_sign (StreamId m) front rest safe_apart refl q
media_rest_ends token.TerminationState m front rest q = braced_ends is_safe SpellsProperty safe_apart refl q.0 front rest q.2
media_rest_ends t m front rest q = stream_rest_ends t q.0 front rest q.2

media_part_to : (t : Token) (m : MediaPart) (text : List ℕ) → Both (IsToken t) (MediaRest t m) text → SpellsMediaPart m text
media_part_to t m text b = grind (arith, common_steps)

media_part_from : (m : MediaPart) (text : List ℕ) → SpellsMediaPart m text → (t : Token) × Both (IsToken t) (MediaRest t m) text
media_part_from m text b = grind arith

pub media_part_reads : ReadsUp media_part_at SpellsMediaPart Any Same Skipped
unfolding media_part_at
media_part_reads =
    up_as (up_then (word_as token_of) media_rest IsToken MediaRest (NoMore is_safe) Any Same Same Skipped
    token_reads media_rest_reads (λ t m front rest q n. media_rest_ends t m front rest q))
    (λ m text h. media_part_to h.0 m text h.1) media_part_from

pub media_part_shrinks : Shrinks media_part_at
media_part_shrinks = up_shrinks media_part_reads

media_part_solid : BeginsWith is_solid SpellsMediaPart
media_part_solid m text h = let s = media_part_from m text h in both_begins is_solid (IsToken s.0) (MediaRest s.0 m) (token_solid s.0) text s.1

pub media_part_braces : BracesUp SpellsMediaPart Any
media_part_braces = grind (arith, media_part_solid)
