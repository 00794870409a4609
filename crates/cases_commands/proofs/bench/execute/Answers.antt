use Rattle.std.proofs.Common.{◌≡◌, List, subst, sym, ap, ◌∙◌}
use Rattle.gw_base.specs.Keys.{has}
use Rattle.gw_base.specs.declared.key.Key.{Key}
use Rattle.gw_cmd.specs.Commands.{command}
use Rattle.gw_cmd.specs.Keys.{command_keys}
use Rattle.gw_cmd.specs.Suits.{IsUnused}
use Rattle.gw_table.specs.Maps.{Maps}
use Rattle.gw_table.specs.Parts.{Parted, PartKeys, Only, restricted, cut, overlaid, list_of, holds}
use Rattle.gw_table.specs.Stored.{maps_of}
use Rattle.gw_table.specs.WellFormed.{IsSound}
use Rattle.gw_table.proofs.PartLookups.{sound_restricted, sound_whole}
use Rattle.cases_commands.proofs.Enough.{part_whole, laid_back}
use Rattle.cases_commands.proofs.bench.execute.Goals as goal

-- the draft shows what was taken out
shows_part : (c : goal.After-draft-1) → c.of_part-draft.result.maps ≡ restricted c.in_ok-keys.keys (maps_of c.args.tables.now)
shows_part c =
    ap (λ (p : Parted). p.maps) c.of_part-draft.ensures ∙ c.take_out-part.ensures.part
    ∙ ap (λ x. restricted c.in_ok-keys.keys x) c.in_ok-reserve_slots.ensures.maps

-- and that is all of the tables
shows_all : (c : goal.After-draft-1) → c.of_part-draft.result.maps ≡ maps_of c.args.tables.now
shows_all c = shows_part c ∙ part_whole c.in_ok-keys.keys c.args.place.at c.args.place.slot c.args.given.now (maps_of c.args.tables.now) c.in_ok-keys.ensures

has_keys : (c : goal.After-draft-1) → c.of_part-draft.result.keys ≡ Only c.in_ok-keys.keys
has_keys c = ap (λ (p : Parted). p.keys) c.of_part-draft.ensures ∙ c.take_out-part.ensures.keys

pub command-requires-clause-sound : goal.command-requires-clause-sound
command-requires-clause-sound c =
    subst (λ (k : PartKeys). IsSound k c.of_part-draft.result.maps) (sym (has_keys c))
    (subst (λ (m : Maps). IsSound (Only c.in_ok-keys.keys) m) (sym (shows_part c)) (sound_restricted c.in_ok-keys.keys (maps_of c.args.tables.now) (sound_whole c.args.rules.now.members (maps_of c.args.tables.now) c.requires.whole)))

pub command-requires-clause-covered : goal.command-requires-clause-covered
command-requires-clause-covered c k h =
    ap (λ (p : PartKeys). holds p k) (has_keys c)
    ∙ c.in_ok-keys.ensures.own k (ap (λ (m : Maps). has (command_keys c.args.place.at c.args.place.slot c.args.given.now m) k) (sym (shows_all c)) ∙ h)

pub command-requires-clause-unused : goal.command-requires-clause-unused
command-requires-clause-unused c = subst (λ (m : Maps). IsUnused c.args.place.slot m) (sym (shows_all c)) c.requires.unused

pub returns-clause-maps : goal.returns-clause-maps
returns-clause-maps c =
    let m : Maps = maps_of c.args.tables.now in
    let keys : List Key = c.in_ok-keys.keys in
    let held : c.command.new.draft.keys ≡ Only keys = c.in_ok-outcome.ensures.keys ∙ ap (λ (p : Parted). p.keys) c.of_part-draft.ensures ∙ c.take_out-part.ensures.keys in
    let part : c.of_part-draft.result.maps ≡ restricted keys m = ap (λ (p : Parted). p.maps) c.of_part-draft.ensures ∙ c.take_out-part.ensures.part ∙ ap (λ x. restricted keys x) c.in_ok-reserve_slots.ensures.maps in
    let display : c.of_part-draft.result.maps ≡ m = part ∙ part_whole keys c.args.place.at c.args.place.slot c.args.given.now m c.in_ok-keys.ensures in
    let after : c.command.new.draft.maps ≡ (command c.args.rules.now c.args.place.at c.args.place.slot c.args.given.now m).maps =
    c.in_ok-outcome.ensures.maps ∙ ap (λ (x : Maps). (command c.args.rules.now c.args.place.at c.args.place.slot c.args.given.now x).maps) display in
    let beside : maps_of c.take_out-part.new.self ≡ cut keys m = c.take_out-part.ensures.maps ∙ ap (λ x. cut keys x) c.in_ok-reserve_slots.ensures.maps in
    c.sweep.ensures.maps ∙ c.put_back.ensures.maps
    ∙ ap (λ (p : Parted). overlaid (list_of p.keys) p.maps (maps_of c.take_out-part.new.self)) c.into_part-after.ensures
    ∙ ap (λ (k : PartKeys). overlaid (list_of k) c.command.new.draft.maps (maps_of c.take_out-part.new.self)) held
    ∙ (λ i. overlaid keys (after i) (beside i))
    ∙ laid_back keys c.args.place.at c.args.place.slot c.args.given.now m c.in_ok-keys.ensures c.args.rules.now c.requires.whole
