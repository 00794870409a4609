use Rattle.std.proofs.Common.{◌≡◌, ℕ, List, None, drop}
use Rattle.std.specs.List.{list_any}
use Rattle.gw_reply.specs.Writers.{written_behind}
use Rattle.gw_reply.specs.Replies.{command_reply_text}
use Rattle.gw_reply.specs.declared.reply.CommandReply.{CommandReply}
use Rattle.gw_table.specs.Maps.{term}
use Rattle.gw_table.specs.Folds.{attempts_behind}
use Rattle.gw_table.specs.WellFormed.{IsSound}
use Rattle.gw_cmd.specs.Commands.{is_done, first_error}
use Rattle.gw_cmd.specs.Prepared.{IsSameCommand}
use Rattle.gw_cmd.specs.Tasks.{task_place, targets_in}
use Rattle.gw_cmd.specs.Written.{code_of}
use Rattle.gw_cmd.proofs.targets.on_targets.Given as goal

-- what is written is some replies, which, and then those of the rest, are those of all
abbrev pub invariant-loop-target : goal.invariant-loop-target
invariant-loop-target l = record {
  replies : (front : List CommandReply) × (l.written ≡ written_behind command_reply_text l.fn.writer front) × (l.first_error ≡ code_of (first_error front)) × (l.any_done ≡ list_any is_done front) × (attempts_behind front (targets_in l.fn.prepared.rules.now (task_place l.task) l.fn.prepared.command.now (drop l.target-index l.named) l.draft.maps) ≡ targets_in l.fn.prepared.rules.now (task_place l.task) l.fn.prepared.command.now l.named l.fn.draft.maps);
  sound : IsSound l.fn.draft.keys l.draft.maps;
  absent : (q : List ℕ) → term l.fn.draft.maps q ≡ None → term l.draft.maps q ≡ None;
  keys : l.draft.keys ≡ l.fn.draft.keys;
  same : IsSameCommand l.fn.prepared l.prepared;
}
