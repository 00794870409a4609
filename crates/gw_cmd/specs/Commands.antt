-- A command: what it does to the maps, and its replies (RFC 3525, section 7.2).
use Rattle.std.specs.Prelude.{ℕ, ◌&&◌, not, if◌then◌else◌, Bool, false, List, [], ◌∷◌, Option, None, Some, Result, Ok, Err, is_err}
use Rattle.std.specs.List.{list_any, find, flat_map}
use Rattle.gw_base.specs.declared.code.Code.{Code}
use Rattle.gw_base.specs.declared.code.Code.TheVariants.{NoTerminationLeft}
use Rattle.gw_base.specs.declared.command_words.Rules.{Rules}
use Rattle.gw_base.specs.declared.command_words.Service.{Service}
use Rattle.gw_base.specs.declared.command_words.Verb.{Verb}
use Rattle.gw_base.specs.declared.command_words.Verb.TheVariants.{ServiceChange}
use Rattle.gw_base.specs.declared.term_ref.TermRef.{TermRef}
use Rattle.gw_base.specs.declared.term_ref.TermRef.TheVariants.{Root, All, Under, Choose, Name, Other}
use Rattle.gw_desc.specs.declared.descriptor.Descriptor.{Descriptor}
use Rattle.gw_desc.specs.declared.values.AuditItem.{AuditItem}
use Rattle.gw_desc.specs.Values.{item_of}
use Rattle.gw_msg.specs.declared.message.Command.{Command}
use Rattle.gw_reply.specs.declared.parts.ReplyPart.{ReplyPart}
use Rattle.gw_reply.specs.declared.parts.ReplyPart.TheVariants as part
use Rattle.gw_reply.specs.declared.reply.CommandReply.{CommandReply}
use Rattle.gw_term.specs.Record.{ephemeral}
use Rattle.gw_table.specs.declared.attempts.Attempts.{Attempts}
use Rattle.gw_table.specs.Folds.{in_order}
use Rattle.gw_table.specs.Maps.{Maps, Outcome, term, names}
use Rattle.gw_table.specs.Reserved.{slot_name}
use Rattle.gw_table.specs.Members.{put_service}
use Rattle.gw_refusal.specs.declared.at.At.{At}
use Rattle.gw_cmd.specs.declared.outcome.CmdOutcome.{CmdOutcome}
use Rattle.gw_refusal.specs.Requested.{is_wildcard, audited, requested_service}
use Rattle.gw_cmd.specs.Effects.{on_record, on_name}
use Rattle.gw_refusal.specs.Places.{place_at, is_unmade}
use Rattle.gw_cmd.specs.Refusals.{refusal, refusal_by_tables}
use Rattle.gw_refusal.specs.Targets.{targets}

-- ---- replies

abbrev pub reply : Command → TermRef → Result (List ReplyPart) Code → CommandReply
reply c sent result = record { verb = c.verb; term = sent; result = result }

abbrev pub has_error : CommandReply → Bool
has_error r = is_err r.result

abbrev pub is_done : CommandReply → Bool
is_done r = not (has_error r)

-- it failed if a reply is an error; a success in a context that is not made yet makes it
abbrev pub outcome_of : At → List CommandReply → CmdOutcome
outcome_of at replies = record {
  replies = replies;
  failed = list_any has_error replies;
  made = is_unmade at && list_any is_done replies;
}

abbrev pub with_replies : At → Maps → List CommandReply → Outcome CmdOutcome
with_replies at m replies = record { maps = m; answer = outcome_of at replies }

-- one reply to the TerminationID as sent
abbrev pub refused : At → Command → Code → Maps → Outcome CmdOutcome
refused at c code m = with_replies at m (reply c c.term (Err code) ∷ [])

-- ---- on terminations by their names

abbrev pub one_reply : CommandReply → Attempts Unit CommandReply
one_reply r = record { next = tt; answers = r ∷ []; stopped = false }

-- one of the targets; none of them stops the others
abbrev pub on_target : Rules → At → Command → Unit {0} → List ℕ → Maps → Outcome (Attempts Unit CommandReply)
on_target rules at c u t m =
    let o = on_name rules (place_at at) c t m in
    record { maps = o.maps; answer = one_reply (reply c (Name t) o.answer) }

abbrev pub on_targets : Rules → At → Command → List (List ℕ) → Maps → Outcome (Attempts Unit CommandReply)
on_targets rules at c ts m = in_order (on_target rules at c) tt ts m

abbrev pub error_of : Result (List ReplyPart) Code → Result (List ReplyPart) Code
error_of (Ok parts) = Ok []
error_of (Err code) = Err code

abbrev pub error_in : Option CommandReply → Result (List ReplyPart) Code
error_in None = Ok []
error_in (Some r) = error_of r.result

-- the first error, if there is one
abbrev pub first_error : List CommandReply → Result (List ReplyPart) Code
first_error replies = error_in (find has_error replies)

-- W- with a wildcard has one reply to it as sent
abbrev pub written : Command → List CommandReply → List CommandReply
written c replies = if c.wild && is_wildcard c.term then reply c c.term (first_error replies) ∷ [] else replies

-- what its targets gave: it failed if one of them did, and made its context if it was done to one of them
abbrev pub outcome_written : At → Command → List CommandReply → CmdOutcome
outcome_written at c replies = record (outcome_of at replies) { replies = written c replies }

abbrev pub on_names : Rules → At → Command → Maps → Outcome CmdOutcome
on_names rules at c m =
    let o = on_targets rules at c (targets at c m) m in
    record { maps = o.maps; answer = outcome_written at c o.answer.answers }

-- ---- on a termination that is made

-- by its name where it came into being, else as $
abbrev pub new_reply : Command → ℕ → Result (List ReplyPart) Code → CommandReply
new_reply c slot (Ok parts) = reply c (Name (slot_name slot)) (Ok parts)
new_reply c slot (Err code) = reply c Choose (Err code)

abbrev pub on_new : Rules → At → Command → Option ℕ → Maps → Outcome CmdOutcome
on_new rules at c None m = refused at c NoTerminationLeft m
on_new rules at c (Some slot) m =
    let o = on_record rules (place_at at) c (slot_name slot) (ephemeral slot) m in
    with_replies at o.maps (new_reply c slot o.answer ∷ [])

-- ---- on ROOT, the gateway itself

-- these terminations have this service state, one after another
abbrev pub all_serviced : Service → List (List ℕ) → Maps → Maps
all_serviced s [] m = m
all_serviced s (t ∷ ts) m = all_serviced s ts (put_service s t m (term m t))

-- a service state for every termination, if the Method has one
abbrev pub serviced_if : Option Service → Maps → Maps
serviced_if None m = m
serviced_if (Some s) m = all_serviced s (names m) m

abbrev pub bare_if : Option AuditItem → List ReplyPart
bare_if None = []
bare_if (Some item) = part.Bare item ∷ []

abbrev pub bare_answer : List ℕ → List ReplyPart
bare_answer word = bare_if (item_of word)

-- every item is answered bare
abbrev pub root_parts : Command → List ReplyPart
root_parts c = flat_map bare_answer (audited c.descriptors)

-- a ServiceChange is for every termination
abbrev pub root_maps : Verb → List Descriptor → Maps → Maps
root_maps ServiceChange descriptors m = serviced_if (requested_service descriptors) m
root_maps _ descriptors m = m

abbrev pub on_root : At → Command → Maps → Outcome CmdOutcome
on_root at c m = with_replies at (root_maps c.verb c.descriptors m) (reply c Root (Ok (root_parts c)) ∷ [])

-- ---- the command

abbrev pub executed : Rules → At → Option ℕ → Command → Maps → TermRef → Outcome CmdOutcome
executed rules at slot c m Root = on_root at c m
executed rules at slot c m Choose = on_new rules at c slot m
executed rules at slot c m (Name t) = on_names rules at c m
executed rules at slot c m All = on_names rules at c m
executed rules at slot c m (Under prefix) = on_names rules at c m
executed rules at slot c m (Other text) = on_names rules at c m

abbrev pub unless_refused : Option Code → At → Command → Maps → Outcome CmdOutcome → Outcome CmdOutcome
unless_refused (Some code) at c m o = refused at c code m
unless_refused None at c m o = o

-- one that its form allows
abbrev pub allowed : Rules → At → Option ℕ → Command → Maps → Outcome CmdOutcome
allowed rules at slot c m = unless_refused (refusal_by_tables at slot c m) at c m (executed rules at slot c m c.term)

unfoldable pub command : Rules → At → Option ℕ → Command → Maps → Outcome CmdOutcome
command rules at slot c m = unless_refused (refusal at slot c m) at c m (executed rules at slot c m c.term)
