-- The text of a reply tree is a group, where what it tells as it is kept has its forms.
use Rattle.std.proofs.Common.{◌≡◌, inl, inr, ℕ, ◌-◌, ◌+◌, ◌<◌, ◌≤◌, Bool, true, false, cond, List, [], ◌∷◌, ◌++◌, length, map, decimal, refl, sym, subst, append_assoc, arith, Option, Some, None, Result, Ok, Err}
use Rattle.std.specs.Prelude.{codes, nat_le}
use Rattle.std.specs.List.{All}
use Rattle.std.proofs.lemmas.List.Elements.{All-head, All-tail}
use Rattle.gw_base.specs.Mids.{IsMid}
use Rattle.gw_base.specs.declared.code.Code.{Code}
use Rattle.gw_base.specs.declared.command_words.Service.{Service}
use Rattle.gw_base.specs.declared.command_words.Service.TheVariants as service
use Rattle.gw_text.specs.Lexical.{equals_sign}
use Rattle.gw_text.specs.Forms.{IsWord}
use Rattle.gw_text.specs.Group.{IsGroup, after_word, after_mark, begins_octets, is_mark}
use Rattle.gw_text.specs.Tokens.{token_of, is_spelling}
use Rattle.gw_desc.specs.Grammar.{IsValue, sign_byte, request_depth}
use Rattle.gw_desc.specs.KeptTexts.{IsOptional, IsKeptProperty, IsKeptWord, IsKeptOctets}
use Rattle.gw_desc.specs.declared.descriptor.KeptKind.{KeptKind}
use Rattle.gw_desc.specs.declared.descriptor.KeptKind.TheVariants as kept
use Rattle.gw_desc.specs.declared.descriptor.Property.{Property}
use Rattle.gw_desc.specs.declared.descriptor.Sign.{Sign}
use Rattle.gw_desc.specs.declared.values.AuditItem.{AuditItem}
use Rattle.gw_desc.specs.declared.values.Mode.{Mode}
use Rattle.gw_desc.specs.declared.values.Mode.TheVariants as mode
use Rattle.gw_reply.specs.Commands.{command_word}
use Rattle.gw_base.specs.declared.context_words.Flow.{Flow}
use Rattle.gw_base.specs.declared.context_words.Flow.TheVariants as flow
use Rattle.gw_base.specs.declared.context_words.Link.{Link}
use Rattle.gw_reply.specs.declared.context_parts.ContextPart.{ContextPart}
use Rattle.gw_reply.specs.declared.context_parts.ContextPart.TheVariants as told
use Rattle.gw_reply.specs.ContextParts.{flow_word, link_text, context_part_text}
use Rattle.gw_reply.proofs.Joins.{inner_first, inner_none}
use Rattle.gw_reply.specs.Contexts.{context_text}
use Rattle.gw_reply.specs.Terminations.{term_text}
use Rattle.gw_reply.specs.Errors.{error_text}
use Rattle.gw_reply.specs.KeptParts.{IsKeptFilled, IsKeptStreamReply, HasKeptReply, AllOk}
use Rattle.gw_reply.specs.Lists.{in_braces, comma_separated, later}
use Rattle.gw_reply.specs.Messages.{message_text, longest_message, too_long, reply_text}
use Rattle.gw_reply.specs.Parts.{mode_word, service_word, kind_word, item_word, property_text, text_if, equals_text, later_octets, control_text, numbered, stream_parts, stream_text, filled_stream_text, state_text, part_text}
use Rattle.gw_reply.specs.Replies.{replies_text, later_replies, inner_text, body_text, command_reply_text, action_reply_text, transaction_reply_text}
use Rattle.gw_reply.specs.declared.parts.ReplyPart.{ReplyPart}
use Rattle.gw_reply.specs.declared.parts.ReplyPart.TheVariants as part
use Rattle.gw_reply.specs.declared.parts.FilledStream.{FilledStream}
use Rattle.gw_reply.specs.declared.parts.StreamReply.{StreamReply}
use Rattle.gw_reply.specs.declared.reply.TxReply.{TxReply}
use Rattle.gw_reply.specs.declared.reply.ActionReply.{ActionReply}
use Rattle.gw_reply.specs.declared.reply.CommandReply.{CommandReply}
use Rattle.gw_msg.specs.Grammar.{reply_depth}
use Rattle.gw_reply_law.specs.Spellings.{SpellsReplyOf, IsReplyMessage}
use Rattle.gw_reply.specs.KeptReplies.{HasNames, IsKeptPart, IsKeptCommand, IsKeptAction, IsKeptTree}
use Rattle.gw_reply_law.proofs.Spots.{Before, Equals, Other}
use Rattle.gw_reply_law.proofs.Fits.{Fits, Runs, then, as_runs, then_runs, runs_then_runs, fits_nothing, fits_word, fits_mark, fits_quoted, fits_octets, fits_braces, fits_group, is_group, fits_comma, fits_key}
use Rattle.gw_reply_law.proofs.Words.{decimal_word, term_word}
use Rattle.gw_reply_law.proofs.BracketFits.{runs_bracket}
use Rattle.gw_reply_law.proofs.ReplyFits.{error_fits, command_is_word, context_is_word, term_is_word, replies_run, reply_spelled, message_spelled}

abbrev P : Type 0
P = Property (List ℕ)

-- ---- lists

-- texts with commas between them, each of which may stand behind a comma
joined_runs : {T : Type 0} (levels : ℕ) (text : T → List ℕ) (IsForm : T → Type 0) → ((t : T) → IsForm t → Runs levels Other false (text t)) → (ts : List T) → All IsForm ts → Runs levels Other false (comma_separated (map text ts))
joined_runs levels text IsForm each [] h = as_runs (fits_nothing levels Other false)
joined_runs levels text IsForm each (x ∷ []) h = each x (All-head IsForm x [] h)
joined_runs levels text IsForm each (x ∷ (y ∷ ys)) h =
    runs_then_runs (each x (All-head IsForm x (y ∷ ys) h)) (λ b v. then_runs (fits_comma levels b v) (joined_runs levels text IsForm each (y ∷ ys) (All-tail IsForm x (y ∷ ys) h)))

-- texts behind a comma each
later_runs : {T : Type 0} (levels : ℕ) (text : T → List ℕ) (IsForm : T → Type 0) → ((t : T) → IsForm t → Runs levels Other false (text t)) → (ts : List T) → All IsForm ts → (b : Before) (v : Bool) → Runs levels b v (later text ts)
later_runs levels text IsForm each [] h b v = as_runs (fits_nothing levels b v)
later_runs levels text IsForm each (x ∷ xs) h b v =
    then_runs (fits_comma levels b v) (runs_then_runs (each x (All-head IsForm x xs h)) (λ c u. later_runs levels text IsForm each xs (All-tail IsForm x xs h) c u))

-- <token>{..}, where braces behind the token begin no octets
block : (levels : ℕ) (word text : List ℕ) → 0 < levels → IsWord word → begins_octets (after_word Other word) ≡ false → Runs (levels - 1) Other false text → Fits levels Other false (word ++ in_braces text) Other false
block levels word text room w kind h = then (fits_word levels Other word w) (fits_braces levels (after_word Other word) true text kind room h)

-- ---- properties

value_runs : (levels : ℕ) (b : Before) (v : List ℕ) → request_depth ≤ levels → begins_octets b ≡ false → IsValue v → Runs levels b false v
value_runs levels b v room kind (inl h) = as_runs (fits_quoted levels b false v h)
value_runs levels b v room kind (inr (inl h)) = runs_bracket levels b v h
value_runs levels b v room kind (inr (inr (inl h))) = as_runs (fits_group levels request_depth b false v kind room h)
value_runs levels b v room kind (inr (inr (inr h))) = as_runs (fits_word levels b v h)

sign_is_mark : (s : Sign) → is_mark (sign_byte s) ≡ true
sign_is_mark s = grind arith

-- behind none of them braces begin octets
sign_kind : (s : Sign) → begins_octets (after_mark (sign_byte s)) ≡ false
sign_kind s = grind arith

property_runs : (levels : ℕ) (p : P) → request_depth ≤ levels → IsKeptProperty p → Runs levels Other false (property_text p)
property_runs levels p room h =
    subst (Runs levels Other false) (append_assoc p.name (sign_byte p.sign ∷ []) p.value)
    (then_runs (fits_key levels Other p.name (sign_byte p.sign) h.name (sign_is_mark p.sign)) (value_runs levels (after_mark (sign_byte p.sign)) p.value room (sign_kind p.sign) h.value))

-- <key>=<word>, and properties
listed_runs : (levels : ℕ) (key value : List ℕ) (ps : List P) → request_depth ≤ levels → IsWord key → IsWord value → All IsKeptProperty ps → Runs levels Other false ((key ++ codes "=") ++ value ++ later property_text ps)
listed_runs levels key value ps room h k all =
    then_runs (then (fits_key levels Other key equals_sign h refl) (fits_word levels Equals value k))
    (later_runs levels property_text IsKeptProperty (λ p kept. property_runs levels p room kept) ps all (after_word Equals value) true)

mode_is_word : (m : Mode) → IsWord (mode_word m)
mode_is_word m = grind arith

service_is_word : (s : Service) → IsWord (service_word s)
service_is_word s = grind arith

-- ---- media

control_fits : (levels : ℕ) (m : Mode) (ps : List P) → request_depth < levels → All IsKeptProperty ps → Fits levels Other false (control_text m ps) Other false
unfolding token_of is_spelling
control_fits levels m ps room h =
    block levels (codes "LocalControl") ((codes "Mode" ++ codes "=") ++ mode_word m ++ later property_text ps) (omega arith) (record { run = refl; some = omega arith }) refl
    (listed_runs (levels - 1) (codes "Mode") (mode_word m) ps (omega arith) (record { run = refl; some = omega arith }) (mode_is_word m) h)

state_fits : (levels : ℕ) (s : Service) (ps : List P) → request_depth < levels → All IsKeptProperty ps → Fits levels Other false (state_text s ps) Other false
unfolding token_of is_spelling
state_fits levels s ps room h =
    block levels (codes "TerminationState") ((codes "ServiceStates" ++ codes "=") ++ service_word s ++ later property_text ps) (omega arith) (record { run = refl; some = omega arith }) refl
    (listed_runs (levels - 1) (codes "ServiceStates") (service_word s) ps (omega arith) (record { run = refl; some = omega arith }) (service_is_word s) h)

-- Local{..}, Remote{..}: octets, since the word does not follow `=`
octets_fits : (levels : ℕ) (word text : List ℕ) → 0 < levels → IsWord word → begins_octets (after_word Other word) ≡ true → IsKeptOctets text → Fits levels Other false (word ++ in_braces text) Other false
octets_fits levels word text room w kind h = then (fits_word levels Other word w) (fits_octets levels (after_word Other word) true text kind room h.octets)

-- behind a comma, if they are there
later_octets_runs : (levels : ℕ) (word : List ℕ) (o : Option (List ℕ)) → 0 < levels → IsWord word → begins_octets (after_word Other word) ≡ true → IsOptional IsKeptOctets o → (b : Before) (v : Bool) → Runs levels b v (later_octets word o)
later_octets_runs levels word None room w kind h b v = as_runs (fits_nothing levels b v)
later_octets_runs levels word (Some text) room w kind h b v =
    subst (Runs levels b v) (sym (append_assoc (codes ",") word (in_braces text)))
    (as_runs (then (fits_comma levels b v) (octets_fits levels word text room w kind h)))

numbered_runs : (levels number : ℕ) (text : List ℕ) → 0 < levels → Runs (levels - 1) Other false text → Runs levels Other false (numbered number text)
numbered_runs levels number text room h =
    as_runs (then (then (fits_key levels Other (codes "Stream") equals_sign (record { run = refl; some = omega arith }) refl) (fits_word levels Equals (decimal number) (decimal_word number)))
    (fits_braces levels (after_word Equals (decimal number)) true text refl room h))

stream_runs : (levels : ℕ) (s : StreamReply) → request_depth + 1 < levels → IsKeptStreamReply s → Runs levels Other false (stream_text s)
unfolding stream_parts token_of is_spelling
stream_runs levels s room h =
    numbered_runs levels s.number (control_text s.mode s.properties ++ later_octets (codes "Local") s.local ++ later_octets (codes "Remote") s.remote) (omega arith)
    (runs_then_runs (then_runs (control_fits (levels - 1) s.mode s.properties (omega arith) h.properties)
    (later_octets_runs (levels - 1) (codes "Local") s.local (omega arith) (record { run = refl; some = omega arith }) refl h.local Other false))
    (λ b v. later_octets_runs (levels - 1) (codes "Remote") s.remote (omega arith) (record { run = refl; some = omega arith }) refl h.remote b v))

filled_runs : (levels : ℕ) (f : FilledStream) → 1 < levels → IsKeptFilled f → Runs levels Other false (filled_stream_text f)
unfolding token_of is_spelling
filled_runs levels f room h =
    numbered_runs levels f.number (codes "Local" ++ in_braces f.local) (omega arith)
    (as_runs (octets_fits (levels - 1) (codes "Local") f.local (omega arith) (record { run = refl; some = omega arith }) refl h))

-- ---- tails

kind_is_word : (k : KeptKind) → IsWord (kind_word k)
kind_is_word k = grind arith

kind_begins : (k : KeptKind) → begins_octets (after_word Other (kind_word k)) ≡ false
unfolding token_of is_spelling
kind_begins kept.Events = refl
kind_begins _ = refl

group_runs : (levels : ℕ) (b : Before) (v : Bool) (g : Option (List ℕ)) → request_depth ≤ levels → begins_octets b ≡ false → IsOptional (IsGroup request_depth) g → Runs levels b v (text_if g)
group_runs levels b v None room kind h = as_runs (fits_nothing levels b v)
group_runs levels b v (Some g) room kind h = as_runs (fits_group levels request_depth b v g kind room h)

-- behind `=` a word is none before octets, whichever it is
word_runs : (levels : ℕ) (w g : Option (List ℕ)) → request_depth ≤ levels → IsOptional (IsKeptWord true) w → IsOptional (IsGroup request_depth) g → Runs levels Equals false (text_if w ++ text_if g)
word_runs levels None g room h k = group_runs levels Equals false g room refl k
word_runs levels (Some w) g room h k = then_runs (fits_word levels Equals w h.1) (group_runs levels (after_word Equals w) true g room refl k)

tail_runs : (levels : ℕ) (word : List ℕ) (equals : Bool) (w g : Option (List ℕ)) → request_depth ≤ levels → IsWord word → begins_octets (after_word Other word) ≡ false → IsOptional (IsKeptWord equals) w → IsOptional (IsGroup request_depth) g
    → Runs levels Other false (word ++ ((equals_text equals ++ text_if w) ++ text_if g))
tail_runs levels word false None g room is kind h k = then_runs (fits_word levels Other word is) (group_runs levels (after_word Other word) true g room kind k)
tail_runs levels word false (Some w) g room is kind h k = absurd (let clash : false ≡ true = h.0 in cc)
tail_runs levels word true w g room is kind h k = then_runs (fits_word levels Other word is) (then_runs (fits_mark levels (after_word Other word) true equals_sign refl) (word_runs levels w g room h k))

-- ---- parts

item_is_word : (i : AuditItem) → IsWord (item_word i)
item_is_word i = grind arith

part_runs : (levels : ℕ) (p : ReplyPart) → request_depth + 2 < levels → HasKeptReply p → Runs levels Other false (part_text p)
unfolding token_of is_spelling
part_runs levels (part.Filled streams) room h =
    as_runs (block levels (codes "Media") (comma_separated (map filled_stream_text streams)) (omega arith) (record { run = refl; some = omega arith }) refl
    (joined_runs (levels - 1) filled_stream_text IsKeptFilled (λ f k. filled_runs (levels - 1) f (omega arith) k) streams h))
part_runs levels (part.Media m) room h =
    as_runs (block levels (codes "Media") (state_text m.service m.properties ++ later stream_text m.streams) (omega arith) (record { run = refl; some = omega arith }) refl
    (then_runs (state_fits (levels - 1) m.service m.properties (omega arith) h.properties)
    (later_runs (levels - 1) stream_text IsKeptStreamReply (λ s k. stream_runs (levels - 1) s (omega arith) k) m.streams h.streams Other false)))
part_runs levels (part.Kept kind tail) room h = tail_runs levels (kind_word kind) tail.equals tail.word tail.group (omega arith) (kind_is_word kind) (kind_begins kind) h.word h.group
part_runs levels (part.Bare i) room h = as_runs (fits_word levels Other (item_word i) (item_is_word i))

body_runs : (levels : ℕ) (w : List ℕ) (r : Result (List ReplyPart) Code) → request_depth + 3 < levels → AllOk HasKeptReply r → Runs levels (after_word Equals w) true (body_text r)
body_runs levels w (Ok []) room h = as_runs (fits_nothing levels (after_word Equals w) true)
body_runs levels w (Ok (p ∷ ps)) room h =
    as_runs (fits_braces levels (after_word Equals w) true (comma_separated (map part_text (p ∷ ps))) refl (omega arith)
    (joined_runs (levels - 1) part_text HasKeptReply (λ q k. part_runs (levels - 1) q (omega arith) k) (p ∷ ps) h))
body_runs levels w (Err code) room h = as_runs (fits_braces levels (after_word Equals w) true (error_text code) refl (omega arith) (as_runs (error_fits (levels - 1) code (omega arith))))

-- ---- the tree

command_runs : (levels : ℕ) (c : CommandReply) → request_depth + 3 < levels → IsKeptCommand c → Runs levels Other false (command_reply_text c)
command_runs levels c room h =
    then_runs (then (fits_key levels Other (command_word c.verb) equals_sign (command_is_word c.verb) refl) (fits_word levels Equals (term_text c.term) (term_is_word c.term h.0)))
    (body_runs levels (term_text c.term) c.result room h.1)

-- ---- contexts

flow_is_word : (f : Flow) → IsWord (flow_word f)
flow_is_word f = grind arith

link_runs : (levels : ℕ) (l : Link) → HasNames l → Runs levels Other false (link_text l)
link_runs levels l h =
    as_runs (then (then (then (then (fits_word levels Other l.a (term_word l.a h.0)) (fits_comma levels (after_word Other l.a) true))
    (fits_word levels Other l.b (term_word l.b h.1))) (fits_comma levels (after_word Other l.b) true))
    (fits_word levels Other (flow_word l.flow) (flow_is_word l.flow)))

context_part_runs : (levels : ℕ) (p : ContextPart) → 0 < levels → IsKeptPart p → Runs levels Other false (context_part_text p)
unfolding token_of is_spelling
context_part_runs levels (told.Priority n) room h = as_runs (then (fits_key levels Other (codes "Priority") equals_sign (record { run = refl; some = omega arith }) refl) (fits_word levels Equals (decimal n) (decimal_word n)))
context_part_runs levels told.Emergency room h = as_runs (fits_word levels Other (codes "Emergency") (record { run = refl; some = omega arith }))
context_part_runs levels (told.Topology links) room h =
    as_runs (block levels (codes "Topology") (comma_separated (map link_text links)) room (record { run = refl; some = omega arith }) refl (joined_runs (levels - 1) link_text HasNames (link_runs (levels - 1)) links h))

-- what is told of the context itself, and behind that of the commands
told_runs : (levels : ℕ) (parts : List ContextPart) (r : Result (List CommandReply) Code) → request_depth + 3 < levels → All IsKeptPart parts → AllOk IsKeptCommand r → Runs levels Other false (inner_text parts r)
told_runs levels [] r room h k = grind (arith, inner_none, replies_run, command_runs)
told_runs levels (p ∷ ps) r room h k =
    subst (Runs levels Other false) (sym (inner_first p ps r))
    (runs_then_runs (context_part_runs levels p (omega (arith, room)) (All-head IsKeptPart p ps h))
    (λ b v. runs_then_runs (later_runs levels context_part_text IsKeptPart (λ q kept. context_part_runs levels q (omega (arith, room)) kept) ps (All-tail IsKeptPart p ps h) b v) (λ c u. later_replies_run r k c u)))
  where
    later_replies_run : (r : Result (List CommandReply) Code) → AllOk IsKeptCommand r → (b : Before) (v : Bool) → Runs levels b v (later_replies command_reply_text r)
    later_replies_run (Ok replies) k b v = later_runs levels command_reply_text IsKeptCommand (λ c kept. command_runs levels c room kept) replies k b v
    later_replies_run (Err code) k b v = as_runs (then (fits_comma levels b v) (error_fits levels code (omega (arith, room))))

action_runs : (levels : ℕ) (a : ActionReply) → request_depth + 4 < levels → IsKeptAction a → Runs levels Other false (action_reply_text a)
action_runs levels a room h =
    as_runs (then (then (fits_key levels Other (codes "Context") equals_sign (record { run = refl; some = omega arith }) refl) (fits_word levels Equals (context_text a.ctx) (context_is_word a.ctx)))
    (fits_braces levels (after_word Equals (context_text a.ctx)) true (inner_text a.parts a.result) refl (omega arith)
    (told_runs (levels - 1) a.parts a.result (omega arith) h.parts h.commands)))

tree_group : (t : TxReply) → IsKeptTree t → IsGroup reply_depth (in_braces (replies_text action_reply_text t.result))
tree_group t h = is_group 16 (replies_text action_reply_text t.result) (omega arith) (replies_run 15 action_reply_text IsKeptAction (omega arith) (λ a k. action_runs 15 a (omega arith) k) t.result h.1)

tree_spelled : (t : TxReply) → IsKeptTree t → SpellsReplyOf t.id.0 (transaction_reply_text t)
tree_spelled t h = reply_spelled t.id.0 (in_braces (replies_text action_reply_text t.result)) h.0 (tree_group t h)

-- the text of each tree, too long or not
pub reply_is : (mid : List ℕ) (t : TxReply) → IsMid mid → IsKeptTree t → IsReplyMessage mid t.id.0 (reply_text mid t)
unfolding reply_text
reply_is mid t m h = choice (nat_le (length (message_text mid (transaction_reply_text t))) longest_message)
  where
    choice : (b : Bool) → IsReplyMessage mid t.id.0 (cond b (message_text mid (transaction_reply_text t)) (message_text mid (transaction_reply_text (too_long t.id))))
    choice true = message_spelled mid (transaction_reply_text t) t.id.0 m (tree_spelled t h)
    choice false = message_spelled mid (transaction_reply_text (too_long t.id)) t.id.0 m (tree_spelled (too_long t.id) (h.0, tt))
