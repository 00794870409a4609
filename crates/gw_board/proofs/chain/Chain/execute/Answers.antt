use Rattle.std.proofs.Common.{◌≡◌, ◌<◌, ◌+◌, ℕ, List, [], ◌∷◌, ◌++◌, drop, length, sym, ap, subst, ◌∙◌}
use Rattle.std.specs.Prelude.{slice_index_or}
use Rattle.gw_reserve.specs.Owned.{AreFreeSlots}
use Rattle.gw_table.specs.Maps.{Maps}
use Rattle.gw_table.specs.Parts.{Only, Parted, PartKeys, restricted}
use Rattle.gw_table.specs.Stored.{maps_of}
use Rattle.gw_tx.specs.Footprints.{Covers}
use Rattle.gw_board.specs.declared.profile.Profile.{Profile}
use Rattle.gw_board.specs.Carried.{BurstRequest, done, keys_of}
use Rattle.gw_board.specs.Chained.{ChainOf}
use Rattle.gw_board.specs.Chains.{RunsOn}
use Rattle.gw_board.specs.Texts.{Text}
use Rattle.gw_board.proofs.ChainRuns.{IsLeft, begins_left, runs_here, one_less_at}
use Rattle.gw_board.proofs.chain.Chain.execute.Goals as goal

-- the request of a turn is that of the chain
here_in : (v : ChainOf) (items : List BurstRequest) (i : ℕ) (a : BurstRequest) → items ≡ v.requested → a ≡ slice_index_or items i a → a ≡ slice_index_or v.requested i a
here_in v items i a e h = h ∙ ap (λ (l : List BurstRequest). slice_index_or l i a) e

inside_in : (v : ChainOf) (items : List BurstRequest) (i : ℕ) → items ≡ v.requested → i < length items → i < length v.requested
inside_in v items i e h = subst (λ (l : List BurstRequest). i < length l) e h

covers_as : (keys : PartKeys) (v : ChainOf) (m : Maps) (a b : BurstRequest) → keys ≡ Only v.keys → b ≡ a → Covers (record { keys = Only v.keys; maps = m }) (keys_of a m) → Covers (record { keys = keys; maps = m }) (keys_of b m)
covers_as keys v m a b e f h = subst (λ (k : PartKeys). Covers (record { keys = k; maps = m }) (keys_of b m)) (sym e) (subst (λ (x : BurstRequest). Covers (record { keys = Only v.keys; maps = m }) (keys_of x m)) (sym f) h)

pub loop-task-init : goal.loop-task-init
loop-task-init c =
    let v : ChainOf = c.args.self.now in
    let runs : RunsOn v.profile v.keys (restricted v.keys v.maps) v.requested = subst (λ (x : ChainOf). RunsOn x.profile x.keys (restricted x.keys x.maps) x.requested) c.self.view_is c.self.invariant.1 in
    let keys : c.in_ok-copied.field-0.keys ≡ Only v.keys = c.in_ok-copied.ensures.keys ∙ ap (λ l. Only l) (c.in_ok-keys.ensures.items ∙ c.as_slice.ensures ∙ ap (λ (x : ChainOf). x.keys) c.self.view_is) in
    let maps : c.in_ok-copied.field-0.maps ≡ restricted v.keys v.maps =
    c.in_ok-copied.ensures.maps
    ∙ ap (λ l. restricted l (maps_of c.self.inside.tables.now)) (c.in_ok-keys.ensures.items ∙ c.as_slice.ensures)
    ∙ ap (λ (x : ChainOf). restricted x.keys x.maps) c.self.view_is in
    record {
      keys = ap (λ (p : Parted). p.keys) c.of_part-draft.ensures ∙ keys;
      left = subst (λ (m : Maps). IsLeft v.profile v.keys v.requested (restricted v.keys v.maps) v.requested m c.in_ok-texts.texts.items) (sym (ap (λ (p : Parted). p.maps) c.of_part-draft.ensures ∙ maps))
          (subst (λ (l : List Text). IsLeft v.profile v.keys v.requested (restricted v.keys v.maps) v.requested (restricted v.keys v.maps) l) (sym c.in_ok-texts.ensures.items) (begins_left v.profile v.keys v.requested (restricted v.keys v.maps) runs));
    }

pub carry_on-requires-clause-covered : goal.carry_on-requires-clause-covered
carry_on-requires-clause-covered c =
    let v : ChainOf = c.args.self.now in
    let i : ℕ = c.loop-task.task-index in
    let a : BurstRequest = c.task-item.result in
    let items : c.as_slice-task-items.result.now ≡ v.requested = c.as_slice-task-items.ensures ∙ ap (λ (x : ChainOf). x.requested) c.self.view_is in
    covers_as c.loop-task.draft.keys v c.loop-task.draft.maps a c.get.result.now c.loop-task.invariant.keys c.get.ensures
    (runs_here v.profile v.keys v.requested (restricted v.keys v.maps) i a c.loop-task.draft.maps c.loop-task.texts.items (inside_in v c.as_slice-task-items.result.now i items c.loop-task-test.true) (here_in v c.as_slice-task-items.result.now i a items c.task-item.is) c.loop-task.invariant.left).0

pub carry_on-requires-clause-unused : goal.carry_on-requires-clause-unused
carry_on-requires-clause-unused c =
    let v : ChainOf = c.args.self.now in
    let i : ℕ = c.loop-task.task-index in
    let a : BurstRequest = c.task-item.result in
    let items : c.as_slice-task-items.result.now ≡ v.requested = c.as_slice-task-items.ensures ∙ ap (λ (x : ChainOf). x.requested) c.self.view_is in
    subst (λ (x : BurstRequest). AreFreeSlots c.loop-task.draft.maps x.owned.slots) (sym c.get.ensures)
    (runs_here v.profile v.keys v.requested (restricted v.keys v.maps) i a c.loop-task.draft.maps c.loop-task.texts.items (inside_in v c.as_slice-task-items.result.now i items c.loop-task-test.true) (here_in v c.as_slice-task-items.result.now i a items c.task-item.is) c.loop-task.invariant.left).1

pub loop-task-preserved : goal.loop-task-preserved
loop-task-preserved c =
    let v : ChainOf = c.args.self.now in
    let i : ℕ = c.loop-task.task-index in
    let a : BurstRequest = c.task-item.result in
    let m : Maps = c.loop-task.draft.maps in
    let items : c.as_slice-task-items.result.now ≡ v.requested = c.as_slice-task-items.ensures ∙ ap (λ (x : ChainOf). x.requested) c.self.view_is in
    let profile : c.self.inside.profile ≡ v.profile = ap (λ (x : ChainOf). x.profile) c.self.view_is in
    let maps : c.carry_on.new.draft.maps ≡ (done v.profile a m).maps = c.in_ok-carry_on.ensures.maps ∙ ap (λ (x : BurstRequest). (done c.self.inside.profile x m).maps) c.get.ensures ∙ ap (λ (p : Profile). (done p a m).maps) profile in
    let texts : c.push.new.self.items ≡ c.loop-task.texts.items ++ (done v.profile a m).answer ∷ [] =
    c.in_ok-push.ensures.items
    ∙ ap (λ (t : Text). c.loop-task.texts.items ++ t ∷ []) (c.in_ok-carry_on.ensures.reply ∙ ap (λ (x : BurstRequest). (done c.self.inside.profile x m).answer) c.get.ensures ∙ ap (λ (p : Profile). (done p a m).answer) profile) in
    record {
      keys = c.carry_on.ensures.keys ∙ c.loop-task.invariant.keys;
      left = subst (λ (n : Maps). IsLeft v.profile v.keys v.requested (restricted v.keys v.maps) (drop (i + 1) v.requested) n c.push.new.self.items) (sym maps)
          (subst (λ (l : List Text). IsLeft v.profile v.keys v.requested (restricted v.keys v.maps) (drop (i + 1) v.requested) (done v.profile a m).maps l) (sym texts)
          (one_less_at v.profile v.keys v.requested (restricted v.keys v.maps) i a m c.loop-task.texts.items (inside_in v c.as_slice-task-items.result.now i items c.loop-task-test.true) (here_in v c.as_slice-task-items.result.now i a items c.task-item.is) c.loop-task.invariant.left));
    }
