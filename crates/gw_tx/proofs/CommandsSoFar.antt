-- The commands of an action one after another: before each, after each, and in the end.
use Rattle.std.proofs.Common.{◌≡◌, ℕ, true, false, List, [], ◌∷◌, Option, refl, sym, ap, subst, ◌∙◌}
use Rattle.gw_base.specs.declared.command_words.Rules.{Rules}
use Rattle.gw_msg.specs.declared.message.Command.{Command}
use Rattle.gw_msg.specs.declared.message.ContextProp.{ContextProp}
use Rattle.gw_reply.specs.declared.reply.CommandReply.{CommandReply}
use Rattle.gw_reply.specs.declared.writer.ReplyWriter.{ReplyWriter}
use Rattle.gw_reply.specs.Replies.{command_reply_text}
use Rattle.gw_table.specs.declared.attempts.Attempts.{Attempts}
use Rattle.gw_table.specs.Maps.{Maps, Outcome}
use Rattle.gw_table.specs.Parts.{Parted}
use Rattle.gw_refusal.specs.declared.at.At.{At}
use Rattle.gw_cmd.specs.Commands.{command}
use Rattle.gw_cmd.specs.Keys.{command_keys}
use Rattle.gw_cmd.specs.Suits.{IsUnused}
use Rattle.gw_cmd.proofs.Parted.{StaysPart}
use Rattle.gw_reserve.specs.Owned.{AreFreeSlots, first_owned, later_owned, paired_commands}
use Rattle.gw_tx.specs.declared.limited_text.Progress.{Progress}
use Rattle.gw_tx.specs.Footprints.{list_keys, Covers}
use Rattle.gw_tx.specs.Properties.{ArePlain}
use Rattle.gw_tx.specs.LimitedText.{progress}
use Rattle.gw_tx.specs.Transactions.{attempt, commands}
use Rattle.gw_tx.proofs.Facts.{IsHeld, commands_keep_part}
use Rattle.gw_tx.proofs.FreeSlots.{AnySlot, free_slot}
use Rattle.gw_tx.proofs.Kept.{With, Oks, kept_attempt, all_live}
use Rattle.gw_tx.proofs.Parts.{starts, listed, covers_command}
use Rattle.gw_tx.proofs.SetProperties.{plain_can}
use Rattle.gw_tx.proofs.Steps.{IsSoFar, IsAll, none_yet, none_left, one_more, the_last}

-- these are left, and their keys are those of the start; the slots that are left are free
pub record AreSoFar (rules : Rules) (late : List ContextProp) (start : Parted) (first : ReplyWriter CommandReply) (all : Outcome (Attempts At CommandReply)) (w : ReplyWriter CommandReply) (at : At) (slots : List (Option ℕ)) (left : List Command) (now : Parted) : Type 0 where
  pub replies : IsSoFar (attempt rules late) command_reply_text first all w at (paired_commands slots left) now.maps
  pub held : Oks (IsHeld start.keys start.maps) at (paired_commands slots left)
  pub kept : With AnySlot (StaysPart start.keys start.maps) slots now.maps
  pub keys : now.keys ≡ start.keys

module _ (rules : Rules) (late : List ContextProp) (start : Parted) (first : ReplyWriter CommandReply) where
  pub no_command_yet : (at : At) (slots : List (Option ℕ)) (cs : List Command) → Covers start (list_keys at (paired_commands slots cs) start.maps) → AreFreeSlots start.maps slots → AreSoFar rules late start first (commands rules late at (paired_commands slots cs) start.maps) first at slots cs start
  no_command_yet at slots cs covered unused = record {
    replies = none_yet (attempt rules late) command_reply_text first at (paired_commands slots cs) start.maps;
    held = listed start.keys start.maps at (paired_commands slots cs) covered.held;
    kept = starts start slots (list_keys at (paired_commands slots cs) start.maps) covered unused;
    keys = refl;
  }

module _ {rules : Rules} {late : List ContextProp} {start : Parted} {first : ReplyWriter CommandReply} {all : Outcome (Attempts At CommandReply)} {w : ReplyWriter CommandReply} {at : At} {slots : List (Option ℕ)} {left : List Command} {now : Parted} (so_far : AreSoFar rules late start first all w at slots left now) where
  pub no_command_left : left ≡ [] → IsAll command_reply_text first all now.maps (record { next = at; writer = w; stopped = false })
  no_command_left none = none_left so_far.replies (ap (λ (l : List Command). paired_commands slots l) none)

  -- the next command, with its slot
  module _ (slot : Option ℕ) (c k : Command) (rest : List Command) (own : slot ≡ first_owned slots) (same : k ≡ c) (split : left ≡ c ∷ rest) where
    next_held : Oks (IsHeld start.keys start.maps) at (paired_commands slots (c ∷ rest))
    next_held = subst (λ (l : List Command). Oks (IsHeld start.keys start.maps) at (paired_commands slots l)) split so_far.held

    pub next_unused : IsUnused slot now.maps
    next_unused = subst (λ (o : Option ℕ). IsUnused o now.maps) (sym own) (free_slot now.maps slots so_far.kept.free)

    pub next_covered : Covers now (command_keys at slot k now.maps)
    next_covered =
        subst (λ (d : Command). Covers now (command_keys at slot d now.maps)) (sym same)
        (subst (λ (o : Option ℕ). Covers now (command_keys at o c now.maps)) (sym own) (covers_command start now slots so_far.kept so_far.keys at (first_owned slots) c next_held.0))

    -- once it was attempted
    module _ (r : Rules) (later : List (Option ℕ)) (after : Parted) (done : Progress At CommandReply) (ruled : r ≡ rules) (behind : later ≡ later_owned slots) (maps : after.maps ≡ (attempt r late at (slot, k) now.maps).maps) (answer : done ≡ progress command_reply_text w (attempt r late at (slot, k) now.maps).answer) where
      attempted : attempt r late at (slot, k) now.maps ≡ attempt rules late at (first_owned slots, c) now.maps
      attempted =
          ap (λ (x : Rules). attempt x late at (slot, k) now.maps) ruled ∙ ap (λ (o : Option ℕ). attempt rules late at (o, k) now.maps) own
          ∙ ap (λ (d : Command). attempt rules late at (first_owned slots, d) now.maps) same

      maps_are : after.maps ≡ (attempt rules late at (first_owned slots, c) now.maps).maps
      maps_are = maps ∙ ap (λ (o : Outcome (Attempts At CommandReply)). o.maps) attempted

      answer_is : done ≡ progress command_reply_text w (attempt rules late at (first_owned slots, c) now.maps).answer
      answer_is = answer ∙ ap (λ (o : Outcome (Attempts At CommandReply)). progress command_reply_text w o.answer) attempted

      pairs : paired_commands slots left ≡ (first_owned slots, c) ∷ paired_commands (later_owned slots) rest
      pairs = ap (λ (l : List Command). paired_commands slots l) split

      pub last_command : done.stopped ≡ true → IsAll command_reply_text first all after.maps (record { next = done.next; writer = done.writer; stopped = true })
      last_command stop = the_last so_far.replies (first_owned slots, c) (paired_commands (later_owned slots) rest) after.maps done pairs maps_are answer_is stop

      pub one_command_more : ArePlain late → after.keys ≡ now.keys → done.stopped ≡ false → AreSoFar rules late start first all done.writer done.next later rest after
      one_command_more plain keys goes =
          let next : done.next ≡ (attempt rules late at (first_owned slots, c) now.maps).answer.next = ap (λ (d : Progress At CommandReply). d.next) answer_is in
          subst (λ (l : List (Option ℕ)). AreSoFar rules late start first all done.writer done.next l rest after) (sym behind)
          (record {
            replies = one_more so_far.replies (first_owned slots, c) (paired_commands (later_owned slots) rest) after.maps done pairs maps_are answer_is goes;
            held = subst (λ (x : At). Oks (IsHeld start.keys start.maps) x (paired_commands (later_owned slots) rest)) (sym next)
                (all_live rules (commands_keep_part rules start.keys start.maps) at (command rules at (first_owned slots) c now.maps).answer.made (paired_commands (later_owned slots) rest) next_held.1);
            kept = subst (λ (m : Maps). With AnySlot (StaysPart start.keys start.maps) (later_owned slots) m) (sym maps_are)
                (kept_attempt rules (commands_keep_part rules start.keys start.maps) late at slots c now.maps (plain_can late plain) next_held.0 so_far.kept);
            keys = keys ∙ so_far.keys;
          })
