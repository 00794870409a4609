-- Commands by name: what comes of one.
use Rattle.std.proofs.Common.{◌≡◌, ℕ, Bool, true, false, List, [], ◌∷◌, refl, ap, ◌∙◌}
use Rattle.std.specs.Prelude.{◌&&◌, if◌then◌else◌}
use Rattle.gw_base.specs.declared.command_words.Rules.{Rules}
use Rattle.gw_base.specs.declared.term_ref.TermRef.{TermRef}
use Rattle.gw_base.specs.declared.term_ref.TermRef.TheVariants.{Name}
use Rattle.gw_msg.specs.declared.message.Command.{Command}
use Rattle.gw_reply.specs.declared.reply.CommandReply.{CommandReply}
use Rattle.gw_table.specs.declared.attempts.Attempts.{Attempts}
use Rattle.gw_table.specs.Maps.{Maps, Outcome}
use Rattle.gw_refusal.specs.declared.at.At.{At}
use Rattle.gw_refusal.specs.Requested.{is_wildcard}
use Rattle.gw_refusal.specs.Places.{place_at}
use Rattle.gw_refusal.specs.Targets.{targets_of}
use Rattle.gw_cmd.specs.declared.outcome.CmdOutcome.{CmdOutcome}
use Rattle.gw_cmd.specs.Commands.{reply, outcome_of, outcome_written, with_replies, on_targets, on_names, first_error}
use Rattle.gw_cmd.specs.Effects.{on_name}
use Rattle.gw_cmd.proofs.OneByOne.{one_target}

module _ (rules : Rules) (at : At) (c : Command) (m : Maps) (t : List ℕ) (named : c.term ≡ Name t) where
  written_alone : (replies : List CommandReply) → outcome_written at c replies ≡ outcome_of at replies
  written_alone replies = ap (λ (b : Bool). outcome_if b) (never c.wild (is_wildcard c.term) (ap (λ (r : TermRef). is_wildcard r) named))
    where
      outcome_if : Bool → CmdOutcome
      outcome_if b = record (outcome_of at replies) { replies = if b then reply c c.term (first_error replies) ∷ [] else replies }

      never : (a b : Bool) → b ≡ false → (a && b) ≡ false
      never true b e = e
      never false b e = refl

  pub by_name : on_names rules at c m ≡ with_replies at (on_name rules (place_at at) c t m).maps (reply c (Name t) (on_name rules (place_at at) c t m).answer ∷ [])
  by_name =
      ap (λ (r : TermRef). from (on_targets rules at c (targets_of r at c m) m)) named
      ∙ ap from (one_target rules at c t m)
      ∙ ap (λ (o : CmdOutcome). let x : Outcome CmdOutcome = record { maps = (on_name rules (place_at at) c t m).maps; answer = o } in x) (written_alone (reply c (Name t) (on_name rules (place_at at) c t m).answer ∷ []))
    where
      from : Outcome (Attempts Unit CommandReply) → Outcome CmdOutcome
      from o = record { maps = o.maps; answer = outcome_written at c o.answer.answers }
