use Rattle.std.proofs.Common.{◌&&◌, true, not, List, refl, sym, ap, ◌≡◌, ◌∙◌}
use Rattle.std.specs.Prelude.{◌||◌}
use Rattle.gw_base.specs.declared.key.Key.{Key}
use Rattle.gw_table.specs.Stored.{maps_of}
use Rattle.gw_foot.specs.Meets.{meets}
use Rattle.gw_board.specs.Carried.{keys_of}
use Rattle.gw_board.specs.BoardEntries.{standing_of}
use Rattle.gw_board.specs.Waiting.{meet_waiting}
use Rattle.gw_board.specs.Waves.{is_pending}
use Rattle.gw_board.proofs.Alike.{meets_alike}
use Rattle.gw_board.proofs.Outs.{SameKeys}
use Rattle.gw_board.proofs.Waits.{waiting_alike}
use Rattle.gw_board.proofs.plan.join_waiting.Goals as goal

pub returns-clause-free : goal.returns-clause-free
returns-clause-free c =
    let mine : List Key = keys_of c.args.board_entry.now.task (maps_of c.args.tables.now) in
    let same : SameKeys c.in_ok-keys.keys mine = c.in_ok-keys.ensures.same in
    let pends : is_pending (standing_of c.args.board_entry.now.stage) ≡ true = sym c.is_pending.ensures ∙ c.if-not-is_pending.false in
    let is_met : c.in_ok-is_met.is_met ≡ meet_waiting c.args.waiting.now mine =
    c.in_ok-is_met.ensures.met ∙ ap (meet_waiting c.args.waiting.now) c.list.ensures.list ∙ waiting_alike c.args.waiting.now c.in_ok-keys.keys mine same in
    ap (λ b. not b) is_met ∙ ap (λ b. b && not (meet_waiting c.args.waiting.now mine)) (sym pends)

pub returns-clause-waiting : goal.returns-clause-waiting
returns-clause-waiting c = λ k.
    let mine : List Key = keys_of c.args.board_entry.now.task (maps_of c.args.tables.now) in
    let same : SameKeys c.in_ok-keys.keys mine = c.in_ok-keys.ensures.same in
    let pends : is_pending (standing_of c.args.board_entry.now.stage) ≡ true = sym c.is_pending.ensures ∙ c.if-not-is_pending.false in
    c.in_ok-is_met.ensures.more k
    ∙ ap (λ b. meet_waiting c.args.waiting.now k || b) (ap (λ (l : List Key). meets l k) c.list.ensures.list ∙ meets_alike c.in_ok-keys.keys k mine k same (λ q. refl))
    ∙ ap (λ b. meet_waiting c.args.waiting.now k || (b && meets mine k)) (sym pends)
