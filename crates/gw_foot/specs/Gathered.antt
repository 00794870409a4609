-- The keys of a request as they are gathered (own): every key at most once for all that is whole-table, and the members
-- of an action's context at most once, however many wildcards may match them.
use Rattle.std.specs.Prelude.{ℕ, Bool, ◌||◌, List, ◌++◌, flat_map, Option, None}
use Rattle.std.specs.List.{list_any}
use Rattle.gw_base.specs.declared.key.Key.{Key}
use Rattle.gw_msg.specs.declared.message.Action.{Action}
use Rattle.gw_msg.specs.declared.message.Command.{Command}
use Rattle.gw_table.specs.Maps.{Maps}
use Rattle.gw_refusal.specs.Requested.{is_wildcard}
use Rattle.gw_cmd.specs.Keys.{keys_if, place_key}
use Rattle.gw_tx.specs.Footprints.{is_for_each, one_context, stands_for_all, keys_of_members, named_keys, keys_of_links}
use Rattle.gw_reserve.specs.Owned.{OwnedAction}

-- an action for each context, or one with a command that stands for all
abbrev pub spans_all : Action → Bool
spans_all a = is_for_each a.ctx || list_any (stands_for_all a.ctx) a.commands

abbrev pub has_wildcard : List Command → Bool
has_wildcard cs = list_any (λ c. is_wildcard c.term) cs

-- what a command names by itself, in no context: a termination by its name, or one that is to be made
abbrev pub own_keys : Maps → Option ℕ × Command → List Key
own_keys m p = named_keys None p.0 p.1 m p.1.term

-- the one context of an action, its members if a wildcard may match them, what the commands name by themselves, and
-- what is linked
abbrev pub gathered : Maps → OwnedAction → List Key
gathered m a =
    let one = one_context a.sent.ctx a.number in
    place_key one ++ keys_if (has_wildcard a.sent.commands) (keys_of_members one m) ++ flat_map (own_keys m) a.commands ++ keys_of_links a m

abbrev pub all_gathered : Maps → List OwnedAction → List Key
all_gathered m actions = flat_map (gathered m) actions
