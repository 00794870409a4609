-- The readers of items, of errors and of the whole body read their forms.
use Rattle.std.proofs.lemmas.Grind.{common_steps}
use Rattle.std.proofs.Common.{◌≡◌, ◌⊎◌, inl, inr, ℕ, Bool, true, false, List, [], ◌∷◌, ◌++◌, Option, Some, None, refl, ap, sym, subst, ◌∙◌, length-append, append_assoc, arith, rules}
use Rattle.std.proofs.lemmas.List.{append-nil}
use Rattle.std.proofs.lemmas.Bool.{not-true, eqb-true}
use Rattle.std.specs.Prelude.{codes}
use Rattle.gw_base.specs.Bytes.{is_digit}
use Rattle.gw_base.specs.Lang.{Both, ◌▹◌, IsText}
use Rattle.gw_text.specs.Lexical.{is_safe, is_solid, dash, equals_sign, left_brace, right_brace, quote_mark}
use Rattle.gw_text.specs.Space.{IsSpace, IsSep}
use Rattle.gw_text.specs.SpaceScan.{skip}
use Rattle.gw_text.specs.Runs.{begins, is_byte, NoMore}
use Rattle.gw_text.specs.Sign.{sign_at}
use Rattle.gw_text.specs.Scans.{sep_at}
use Rattle.gw_text.specs.Forms.{IsToken, IsSign, IsUint32, IsNumber, Spaced, Braced}
use Rattle.gw_text.specs.Quoted.{IsQuoted}
use Rattle.gw_text.specs.Group.{IsGroup}
use Rattle.gw_text.specs.Tokens.{token_of}
use Rattle.gw_text.specs.Reader.{Reader, ◌>>=◌, found, word_as, solid_as, number_at, number_up_to, group_read, quoted_read, if_end, braced_at, items_at}
use Rattle.gw_text.specs.declared.token.Token.{Token}
use Rattle.gw_text.specs.declared.token.Token.TheVariants as token
use Rattle.gw_text.proofs.FormLaws.{skip_is, skip_stays, some_is, sign_ends, sign_other, sign_none, BeginsWith, bind_some, begins_append, begins_wider, begins_some, byte_is_solid, skip_solid, safe_apart, digit_apart, solid_apart, number_solid, begins_ends, no_byte, both_begins, both_ends, both_no_more, sep_ends, with_second, at_end, spaced_begins, group_begins, quoted_begins, ahead_ends}
use Rattle.gw_text.proofs.ReaderLaws.{ReadsUp, Same, Skipped, UpTo, Any, up_as, up_from, up_next, up_to, up_skipped, up_then, up_last, up_done, up_sign, up_close, up_space, up_if_byte, up_if_begins, up_if_begins_from, up_shrinks, same_up, skipped_up, up_number, up_number_up_to, up_sep, BracesUp, up_braced, ItemsUp, ToEnd, Ended, up_items, up_quoted, up_group}
use Rattle.gw_text.specs.Parts.{Shrinks, ShrinksMore}
use Rattle.gw_desc.proofs.MediaLaws.{up_none}
use Rattle.gw_msg.specs.declared.message.Action.{Action}
use Rattle.gw_msg.specs.declared.message.AckRange.{AckRange}
use Rattle.gw_msg.specs.declared.message.Item.{Item}
use Rattle.gw_msg.specs.declared.message.Item.TheVariants as item
use Rattle.gw_msg.specs.declared.message.Message.{Message}
use Rattle.gw_msg.specs.Grammar.{SpellsAction, SpellsRange, SpellsItem, IsSomeUint32, IsOptionalQuoted, SpellsError, SpellsBody, SpellsMid, SpellsContent, reply_depth, code_digits, code_max}
use Rattle.gw_msg.specs.Words.{is_error, is_error_start}
use Rattle.gw_msg.specs.NameWords.{mid_of}
use Rattle.gw_msg.specs.Reading.{token_in, nothing_at, action_at, request_at, reply_at, pending_at, last_at, range_at, ack_at, item_behind, item_at, quoted_or_nothing, error_at, error_body_at, body_at, content_at}
use Rattle.gw_msg.proofs.Starts.{error_starts, no_error_start, small_e, token_fits}
use Rattle.gw_msg.proofs.Steps.{Done, Dropped, behind_sign, no_more_within, no_digit}
use Rattle.gw_msg.proofs.WordLaws.{any_token_reads, error_word_reads, token_solid, mid_reads, mid_begins}
use Rattle.gw_msg.proofs.Laws.{action_reads, action_braces}

-- ---- a number behind `=`

-- EQUAL UINT32, and what is behind them
abbrev pub Numbered : {W : Type 0} → (ℕ → W → List ℕ → Type 0) → W → List ℕ → Type 0
Numbered Q w = IsSign equals_sign ▹ (λ text. (n : ℕ) × Both (IsUint32 n) (Q n w) text)

up_numbered : {W : Type 0} (k : ℕ → Reader W) (Q : ℕ → W → List ℕ → Type 0) (To : List ℕ → List ℕ → Type 0) → ((n : ℕ) → ReadsUp (k n) (Q n) Any Same To) → ((n : ℕ) (w : W) (front rest : List ℕ) → Q n w front → NoMore is_digit (front ++ rest))
    → ReadsUp (λ text. sign_at equals_sign text >>= λ t. number_at t >>= λ n. k n.0 n.1) (Numbered Q) Any Same To
up_numbered k Q To h ends =
    behind_sign equals_sign (λ t. number_at t >>= λ n. k n.0 n.1) (λ w text. (n : ℕ) × Both (IsUint32 n) (Q n w) text) Any To refl
    (λ w text q. both_begins is_solid (IsUint32 q.0) (Q q.0 w) (number_solid _ _ q.0) text q.1)
    (up_then number_at k IsUint32 Q (NoMore is_digit) Any Same Same To up_number h (λ n w front rest q a. ends n w front rest q))

-- ---- transactions

abbrev request_of : ℕ → List Action → Item
request_of id actions = item.Request (record { id = record { 0 = id }; actions = actions })

abbrev pub RequestActions : ℕ → Item → List ℕ → Type 0
RequestActions id i text = (actions : List Action) × (request_of id actions ≡ i) × Braced SpellsAction actions text

pub request_reads : ReadsUp request_at (Numbered RequestActions) Any Same Skipped
unfolding request_at
request_reads =
    up_numbered (λ id text. braced_at action_at text >>= λ x. Some (request_of id x.0, x.1)) RequestActions Skipped
    (λ id. up_from (up_last (braced_at action_at) (request_of id) (Braced SpellsAction) Any UpTo Skipped (up_braced action_at SpellsAction Any (up_to action_reads skipped_up) action_braces)) same_up)
    (λ id i front rest q. both_ends is_digit left_brace _ front rest digit_apart refl q.2)

-- ---- replies

abbrev ReplyGroup : ℕ → Item → List ℕ → Type 0
ReplyGroup id i = IsSpace ▹ (λ text. (g : List ℕ) × (item.Ignored ≡ i) × ((g ≡ text) × IsGroup reply_depth text))

digit_no_more : (front rest : List ℕ) → Both IsSpace (IsGroup reply_depth) front → NoMore is_digit (front ++ rest)
digit_no_more front rest b = ahead_ends is_digit left_brace (IsGroup reply_depth) digit_apart refl (group_begins reply_depth) front rest b

reply_reads : ReadsUp reply_at (Numbered ReplyGroup) Any Same Same
unfolding reply_at
reply_reads =
    up_numbered (λ id text. group_read reply_depth (skip text) >>= λ g. Some (item.Ignored, g.1)) ReplyGroup Same
    (λ id. up_from (up_space (λ text. group_read reply_depth text >>= λ g. Some (item.Ignored, g.1)) (λ i text. (g : List ℕ) × (item.Ignored ≡ i) × ((g ≡ text) × IsGroup reply_depth text)) Any Same
    (up_skipped (λ i text q. begins_wider (is_byte left_brace) is_solid (byte_is_solid left_brace refl) text (group_begins reply_depth text q.2.1))
    (up_last (group_read reply_depth) (λ g. item.Ignored) (λ g text. (g ≡ text) × IsGroup reply_depth text) Any Same Same (up_group reply_depth)))) same_up)
    (λ id i front rest q. digit_no_more front rest (with_second q q.second.2.1))

-- ---- pending transactions

abbrev PendingBraces : ℕ → Item → List ℕ → Type 0
PendingBraces id i = IsSign left_brace ▹ (λ text. (item.Ignored ≡ i) × IsSign right_brace text)

-- a sign may follow a sign, without white space between them
close_reads : ReadsUp (λ text. sign_at right_brace text >>= λ r. Some (item.Ignored, r)) (λ i text. (item.Ignored ≡ i) × IsSign right_brace text) Any Skipped Skipped
close_reads = up_from (up_close right_brace item.Ignored refl) skipped_up

pending_reads : ReadsUp pending_at (Numbered PendingBraces) Any Same Skipped
unfolding pending_at
pending_reads =
    up_numbered (λ id text. sign_at left_brace text >>= λ l. sign_at right_brace l >>= λ r. Some (item.Ignored, r)) PendingBraces Skipped
    (λ id. up_from (up_sign left_brace (λ l. sign_at right_brace l >>= λ r. Some (item.Ignored, r)) (λ i text. (item.Ignored ≡ i) × IsSign right_brace text) Any Skipped refl close_reads) same_up)
    (λ id i front rest q. both_ends is_digit left_brace _ front rest digit_apart refl q)

-- ---- ranges

abbrev range_of : ℕ → ℕ → AckRange
range_of first last = record { first = first; last = last }

abbrev LastNumber : ℕ → AckRange → List ℕ → Type 0
LastNumber first r text = (last : ℕ) × (range_of first last ≡ r) × IsUint32 last text

abbrev RangeEnd : ℕ → AckRange → List ℕ → Type 0
RangeEnd first r text = Both (IsText (dash ∷ [])) (LastNumber first r) text ⊎ Done (range_of first first) r text

range_end_reads : (first : ℕ) → ReadsUp (last_at first) (RangeEnd first) (NoMore is_safe) Same Same
range_end_reads first =
    up_if_byte dash (λ text. number_at text >>= λ n. Some (range_of first n.0, n.1)) (λ text. Some (range_of first first, text)) (LastNumber first) (Done (range_of first first)) (NoMore is_safe) Same
    (up_next (up_last number_at (range_of first) IsUint32 (NoMore is_digit) Same Same up_number) no_digit)
    (up_done (range_of first first) (NoMore is_safe) Same)
    (λ r front rest q n. no_byte dash (front ++ rest) (ap (λ (x : List ℕ). begins (is_byte dash) (x ++ rest)) q.1 ∙ no_more_within (is_byte dash) is_safe (λ c is. dash_safe c is) rest n))
  where
    dash_safe : (c : ℕ) → is_byte dash c ≡ true → is_safe c ≡ true
    dash_safe c is = ap is_safe (eqb-true c dash is)

-- what ends a range's first number
range_end_no_more : (first : ℕ) (r : AckRange) (front rest : List ℕ) → RangeEnd first r front → NoMore is_safe rest → NoMore is_digit (front ++ rest)
range_end_no_more first r front rest h n = grind (arith, common_steps)

range_to : (r : AckRange) (text : List ℕ) → ((first : ℕ) × Both (IsUint32 first) (RangeEnd first r) text) → SpellsRange r text
range_to r text h = grind (arith, common_steps)

range_from : (r : AckRange) (text : List ℕ) → SpellsRange r text → (first : ℕ) × Both (IsUint32 first) (RangeEnd first r) text
range_from r text h = grind (arith, common_steps)

pub range_reads : ReadsUp range_at SpellsRange (NoMore is_safe) Same Same
unfolding range_at
range_reads =
    up_as (up_then number_at last_at IsUint32 RangeEnd (NoMore is_digit) (NoMore is_safe) Same Same Same up_number range_end_reads range_end_no_more)
    range_to range_from

pub range_shrinks : Shrinks range_at
range_shrinks = up_shrinks range_reads

range_solid : BeginsWith is_solid SpellsRange
range_solid r text h =
    elim h [
      | inl s ↦ number_solid _ _ r.first text s.0
      | inr b ↦ both_begins is_solid (IsUint32 r.first) (IsText (codes "-") ▹ IsUint32 r.last) (number_solid _ _ r.first) text b
    ]

range_braces : BracesUp SpellsRange (NoMore is_safe)
range_braces = search (rules, sign_ends, safe_apart, range_solid)

abbrev AckRanges : Item → List ℕ → Type 0
AckRanges i text = (ranges : List AckRange) × (item.Ack ranges ≡ i) × Braced SpellsRange ranges text

ack_reads : ReadsUp ack_at AckRanges Any Same Skipped
unfolding ack_at
ack_reads = up_from (up_last (braced_at range_at) (λ ranges. item.Ack ranges) (Braced SpellsRange) Any UpTo Skipped (up_braced range_at SpellsRange (NoMore is_safe) (up_to range_reads same_up) range_braces)) same_up

-- ---- items

abbrev Parse : Token → Item → List ℕ → Type 0
Parse token.Transaction i text = Numbered RequestActions i text
Parse token.Reply i text = Numbered ReplyGroup i text
Parse token.Pending i text = Numbered PendingBraces i text
Parse token.TransactionResponseAck i text = AckRanges i text
Parse _ i text = ⊥

part_reads : (t : Token) → ReadsUp (item_behind t) (Parse t) Any Same UpTo
part_reads token.Transaction = up_to request_reads skipped_up
part_reads token.Reply = up_to reply_reads same_up
part_reads token.Pending = up_to pending_reads skipped_up
part_reads token.TransactionResponseAck = up_to ack_reads skipped_up
part_reads _ = up_none UpTo Any

numbered_ends : {W : Type 0} (Q : ℕ → W → List ℕ → Type 0) (w : W) (front rest : List ℕ) → Numbered Q w front → NoMore is_safe (front ++ rest)
numbered_ends Q w front rest b = search (rules, both_ends, safe_apart)

part_ends : (t : Token) (i : Item) (front rest : List ℕ) → Parse t i front → NoMore is_safe (front ++ rest)
part_ends token.Transaction i front rest b = numbered_ends RequestActions i front rest b
part_ends token.Reply i front rest b = numbered_ends ReplyGroup i front rest b
part_ends token.Pending i front rest b = numbered_ends PendingBraces i front rest b
part_ends token.TransactionResponseAck i front rest b = both_ends is_safe left_brace _ front rest safe_apart refl b.2
part_ends _ i front rest b = absurd b

number_first : {P Q : List ℕ → Type 0} {t : List ℕ} (n : ℕ) (c : Both (IsUint32 n) P t) → Q c.back → Both IsSomeUint32 Q t
number_first n c y = record { front = c.front; back = c.back; split = c.split; first = (n, c.first); second = y }

item_to : (i : Item) (text : List ℕ) (t : Token) → Both (IsToken t) (Parse t i) text → SpellsItem i text
item_to i text token.Transaction b = grind (arith, with_second)
item_to i text token.Reply b =
    let n = b.second.second in let q = n.1.second.second in
    subst (λ (j : Item). SpellsItem j text) q.1 (inl (with_second b (with_second b.second (number_first n.0 n.1 (with_second n.1.second q.2.1)))))
item_to i text token.Pending b = grind (arith, with_second, number_first)
item_to i text token.TransactionResponseAck b = subst (λ (j : Item). SpellsItem j text) b.second.1 (with_second b b.second.2)
item_to i text _ b = absurd (b.second)

item_from : (i : Item) (text : List ℕ) → SpellsItem i text → (t : Token) × Both (IsToken t) (Parse t i) text
item_from i text b = grind arith

pub item_reads : ReadsUp item_at SpellsItem Any Same UpTo
unfolding item_at
item_reads =
    up_as (up_then (word_as token_of) item_behind (λ t. IsToken t) Parse (NoMore is_safe) Any Same Same UpTo any_token_reads part_reads (λ t i front rest q n. part_ends t i front rest q))
    (λ i text h. item_to i text h.0 h.1) item_from

-- an item begins as its token
item_begins : (p : ℕ → Bool) → ((word : List ℕ) → IsToken token.Transaction word → begins p word ≡ true) → ((word : List ℕ) → IsToken token.Reply word → begins p word ≡ true)
    → ((word : List ℕ) → IsToken token.Pending word → begins p word ≡ true) → ((word : List ℕ) → IsToken token.TransactionResponseAck word → begins p word ≡ true) → BeginsWith p SpellsItem
item_begins p a b c d h text e = grind arith

pub item_solid : BeginsWith is_solid SpellsItem
item_solid = search (rules, item_begins, token_solid)

item_no_error : BeginsWith no_error_start SpellsItem
item_no_error =
    item_begins no_error_start (λ w h. small_e w (token_fits w token.Transaction h.stands)) (λ w h. small_e w (token_fits w token.Reply h.stands)) (λ w h. small_e w (token_fits w token.Pending h.stands))
    (λ w h. small_e w (token_fits w token.TransactionResponseAck h.stands))

pub item_shrinks : ShrinksMore item_at
item_shrinks text i rest e = grind (arith, item_reads, length-append, begins_some, item_solid)

items_up : ItemsUp SpellsItem Any
items_up = record { next = λ w between front rest space form. tt; last = λ rest e. tt; begins = item_solid }

items_read : ReadsUp (items_at item_at) (λ is. ToEnd (Spaced SpellsItem is)) Ended Same Same
items_read = up_items item_at SpellsItem Any item_reads items_up

-- ---- errors

abbrev QuotedText : Unit {0} → List ℕ → Type 0
QuotedText u text = (q : List ℕ) × (tt ≡ u) × ((q ≡ text) × IsQuoted text)

-- the sign that follows a text that may be missing
abbrev Closes : List ℕ → Type 0
Closes rest = sign_at quote_mark rest ≡ None

quoted_solid : BeginsWith is_solid QuotedText
quoted_solid u text h = grind (arith, common_steps)

quoted_or_reads : ReadsUp quoted_or_nothing (Dropped IsOptionalQuoted) Closes Skipped UpTo
unfolding quoted_or_nothing
quoted_or_reads =
    up_as (up_if_begins_from (is_byte quote_mark) (λ text. quoted_read text >>= λ q. Some (tt, q.1)) nothing_at QuotedText (Done tt) Closes Skipped UpTo
    (up_to (up_next (up_skipped quoted_solid (up_last quoted_read (λ q. tt) (λ q text. (q ≡ text) × IsQuoted text) Any Same Same up_quoted)) (λ rest n. tt)) same_up)
    (up_to (up_done tt Closes Skipped) skipped_up)
    (λ u front rest start q n e. ap (begins (is_byte quote_mark)) (e ∙ skip_solid (front ++ rest) (begins_append is_solid front rest (quoted_solid u front q))) ∙ begins_append (is_byte quote_mark) front rest (quoted_begins front q.2.1))
    (λ u front rest start q n e. ap (begins (is_byte quote_mark)) (e ∙ ap (λ (x : List ℕ). skip (x ++ rest)) q.1) ∙ sign_none quote_mark rest n))
    (λ u text h. elim h [
      | inl q ↦ inr q.2.1
      | inr n ↦ inl n.1
    ])
    (λ u text h. elim h [
      | inl n ↦ inr (refl, n)
      | inr q ↦ inl (text, refl, (refl, q))
    ])

-- behind the code
abbrev ErrorText : Unit {0} → List ℕ → Type 0
ErrorText u = IsSign left_brace ▹ (λ text. (q : Unit {0}) × Both (IsOptionalQuoted) (λ t. (tt ≡ u) × IsSign right_brace t) text)

abbrev error_text_at : Reader (Unit {0})
error_text_at text = sign_at left_brace text >>= λ l. quoted_or_nothing l >>= λ q. sign_at right_brace q.1 >>= λ r. Some (tt, r)

error_text_reads : ReadsUp error_text_at ErrorText Any UpTo Skipped
error_text_reads =
    up_sign left_brace (λ l. quoted_or_nothing l >>= λ q. sign_at right_brace q.1 >>= λ r. Some (tt, r)) (λ u text. (q : Unit {0}) × Both (IsOptionalQuoted) (λ t. (tt ≡ u) × IsSign right_brace t) text) Any Skipped refl
    (up_then quoted_or_nothing (λ q text. sign_at right_brace text >>= λ r. Some (tt, r)) (Dropped IsOptionalQuoted) (λ q u t. (tt ≡ u) × IsSign right_brace t) Closes Any Skipped UpTo Skipped
    quoted_or_reads (λ q. up_close right_brace tt refl)
    (λ q u front rest h n. sign_other right_brace quote_mark front rest refl refl h.1))

abbrev CodePart : Unit {0} → List ℕ → Type 0
CodePart u text = (n : ℕ) × Both (IsNumber code_digits code_max n) (ErrorText u) text

abbrev code_at : Reader (Unit {0})
code_at text = number_up_to code_digits code_max text >>= λ n. error_text_at n.1

code_reads : ReadsUp code_at CodePart Any Same Skipped
code_reads =
    up_then (number_up_to code_digits code_max) (λ n text. error_text_at text) (IsNumber code_digits code_max) (λ n. ErrorText) (NoMore is_digit) Any Same Same Skipped
    (up_number_up_to code_digits code_max) (λ n. up_from error_text_reads same_up)
    (λ n u front rest q a. both_ends is_digit left_brace _ front rest digit_apart refl q)

error_reads : ReadsUp error_at (Dropped SpellsError) Any Same Skipped
unfolding error_at
error_reads =
    up_as (up_then (token_in is_error) (λ u text. sign_at equals_sign text >>= code_at) (λ u. IsToken token.Error) (λ u v. IsSign equals_sign ▹ CodePart v) (NoMore is_safe) Any Same Same Skipped
    error_word_reads
    (λ u. behind_sign equals_sign code_at CodePart Any Skipped refl (λ v text h. both_begins is_solid (IsNumber code_digits code_max h.0) (ErrorText v) (number_solid _ _ h.0) text h.1) code_reads)
    (λ u v front rest q n. both_ends is_safe equals_sign (CodePart v) front rest safe_apart refl q))
    (λ u text h.
    let b = h.1 in let n = b.second.second in let t = n.1.second in
    with_second b (with_second b.second (record { front = n.1.front; back = n.1.back; split = n.1.split; first = (n.0, n.1.first); second = with_second t (with_second t.second.1 t.second.1.second.1) })))
    (λ u text b.
    let n = b.second.second in let t = n.second in
    (tt, with_second b (with_second b.second (n.first.0, record { front = n.front; back = n.back; split = n.split; first = n.first.1; second = with_second t (tt, with_second t.second (refl, t.second.second)) }))))

-- ---- the body, to the end of the text

abbrev ErrorBody : List Item → List ℕ → Type 0
ErrorBody is text = ([] ≡ is) × ToEnd SpellsError text

ended_at : (text rest : List ℕ) → if_end text text ≡ Some rest → (text ≡ []) × (rest ≡ [])
ended_at text rest e = grind arith

all_space : (text : List ℕ) → skip text ≡ [] → IsSpace text
all_space text e =
    let k = skip_is text in
    subst IsSpace (sym (append-nil k.front) ∙ ap (λ (x : List ℕ). k.front ++ x) (sym (k.second ∙ e)) ∙ sym k.split) k.first

error_body_reads : ReadsUp error_body_at ErrorBody Ended Same Same
unfolding error_body_at
error_body_reads = record {
  sound = λ text is rest e.
      let a = bind_some (error_at text) (λ x. if_end (skip x.1) (skip x.1) >>= λ r. Some ([], r)) (is, rest) e in
      let b = bind_some (if_end (skip a.0.1) (skip a.0.1)) (λ r. Some ([], r)) (is, rest) a.2 in
      let made : List Item × List ℕ = ([], b.0) in
      let same = some_is made (is, rest) b.2 in
      let s = error_reads.sound text a.0.0 a.0.1 a.1 in
      let n = ended_at (skip a.0.1) b.0 b.1 in
      let none : rest ≡ [] = sym (ap (λ (p : List Item × List ℕ). p.1) same) ∙ n.1 in
      (text, sym (append-nil text) ∙ ap (λ (x : List ℕ). text ++ x) (sym none), (ap (λ (p : List Item × List ℕ). p.0) same, record { front = s.0; back = a.0.1; split = s.1; first = s.2; second = all_space a.0.1 n.0 }));
  complete = λ is front rest start q n e.
      let t = q.1 in
      let whole : start ≡ t.front ++ (t.back ++ rest) = e ∙ ap (λ (x : List ℕ). x ++ rest) t.split ∙ append_assoc t.front t.back rest in
      let one = error_reads.complete tt t.front (t.back ++ rest) start t.first tt whole in
      let none : skip (t.back ++ rest) ≡ [] = ap (λ (x : List ℕ). skip (t.back ++ x)) n ∙ ap skip (append-nil t.back) ∙ at_end t.back t.second in
      let left : skip one.0 ≡ [] = ap skip (one.2 ∙ none) ∙ skip_stays [] refl in (
        [],
        ap (λ (o : Option (Unit {0} × List ℕ)). o >>= λ x. if_end (skip x.1) (skip x.1) >>= λ r. Some ([], r)) one.1
            ∙ ap (λ (x : List ℕ). if_end x x >>= λ r. Some ([], r)) left
            ∙ ap (λ (x : List Item). Some (x, [])) q.0,
        sym n,
      );
}

abbrev BodyOn : List Item → List ℕ → Type 0
BodyOn is text = ErrorBody is text ⊎ ToEnd (Spaced SpellsItem is) text

body_to : (is : List Item) (text : List ℕ) → BodyOn is text → ToEnd (SpellsBody is) text
body_to is text h = grind arith

body_from : (is : List Item) (text : List ℕ) → ToEnd (SpellsBody is) text → BodyOn is text
body_from is text b = grind arith

error_body_begins : BeginsWith is_error_start ErrorBody
error_body_begins is text b = both_begins is_error_start SpellsError IsSpace (λ t h. both_begins is_error_start (IsToken token.Error) _ (λ w k. error_starts w k.stands) t h) text b.1

items_no_error : (is : List Item) (front rest : List ℕ) → ToEnd (Spaced SpellsItem is) front → begins is_error_start (front ++ rest) ≡ false
items_no_error is front rest b = begins_ends no_error_start is_error_start (λ c h. not-true _ h) front rest (both_begins no_error_start (Spaced SpellsItem is) IsSpace (spaced_begins no_error_start SpellsItem item_no_error is) front b)

pub body_reads : ReadsUp body_at (λ is. ToEnd (SpellsBody is)) Ended Same Same
unfolding body_at
body_reads =
    up_as (up_if_begins is_error_start error_body_at (items_at item_at) ErrorBody (λ is. ToEnd (Spaced SpellsItem is)) Ended Same
    error_body_reads items_read error_body_begins (λ is front rest q n. items_no_error is front rest q))
    body_to body_from

error_solid : (text : List ℕ) → SpellsError text → begins is_solid text ≡ true
error_solid text h = both_begins is_solid (IsToken token.Error) _ (token_solid token.Error) text h

body_solid : (is : List Item) (text : List ℕ) → ToEnd (SpellsBody is) text → begins is_solid text ≡ true
body_solid [] text b = both_begins is_solid SpellsError IsSpace error_solid text b
body_solid (i ∷ others) text b = both_begins is_solid (Spaced SpellsItem (i ∷ others)) IsSpace (spaced_begins is_solid SpellsItem item_solid (i ∷ others)) text b

-- ---- what stands behind the header

abbrev content_of : List ℕ → List Item → Message
content_of mid is = record { mid = mid; items = is }

abbrev content_items : List ℕ → Reader Message
content_items mid text = body_at text >>= λ x. Some (content_of mid x.0, x.1)

abbrev ContentItems : List ℕ → Message → List ℕ → Type 0
ContentItems mid m text = (is : List Item) × (content_of mid is ≡ m) × ToEnd (SpellsBody is) text

content_items_reads : (mid : List ℕ) → ReadsUp (content_items mid) (ContentItems mid) Ended Skipped Same
content_items_reads mid = up_skipped (λ m text h. body_solid h.0 text h.2) (up_last body_at (content_of mid) (λ is. ToEnd (SpellsBody is)) Ended Same Same body_reads)

pub content_reads : ReadsUp content_at SpellsContent Ended Same Same
unfolding content_at
content_reads =
    up_as (up_then (solid_as mid_of) (λ mid text. found (sep_at text) >>= λ x. content_items mid x.1) SpellsMid (λ mid m. IsSep ▹ ContentItems mid m) (NoMore is_solid) Ended Same Same Same
    mid_reads
    (λ mid. up_sep (content_items mid) (ContentItems mid) Ended Same (content_items_reads mid))
    (λ mid m front rest q n. both_no_more is_solid IsSep (ContentItems mid m) front rest (λ f r s. sep_ends is_solid solid_apart f r s) q))
    (λ m text h.
    let b = h.1 in let is = b.second.second in
    subst (λ (d : Message). SpellsContent d text) is.1 (with_second b (with_second b.second is.2)))
    (λ m text b. (m.mid, with_second b (with_second b.second (m.items, refl, b.second.second))))

pub content_solid : BeginsWith is_solid SpellsContent
content_solid m text h = both_begins is_solid (SpellsMid m.mid) _ (mid_begins m.mid) text h
