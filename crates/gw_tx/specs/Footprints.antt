-- The entries of the maps that a request may read or write: its keys, in the maps as they are, over all its actions
-- and commands, reached or not (own).
use Rattle.std.specs.Prelude.{ℕ, Bool, true, false, ◌&&◌, ◌||◌, List, [], ◌∷◌, ◌++◌, map, flat_map, Option, None, Some}
use Rattle.std.specs.List.{list_any}
use Rattle.gw_base.specs.declared.ids.CtxNum.{CtxNum}
use Rattle.gw_base.specs.declared.command_words.CtxRef.{CtxRef}
use Rattle.gw_base.specs.declared.command_words.CtxRef.TheVariants as ref
use Rattle.gw_base.specs.declared.key.Key.{Key}
use Rattle.gw_base.specs.declared.key.Key.TheVariants.{Term}
use Rattle.gw_base.specs.declared.term_ref.TermRef.{TermRef}
use Rattle.gw_base.specs.declared.term_ref.TermRef.TheVariants as term
use Rattle.gw_msg.specs.declared.message.Command.{Command}
use Rattle.gw_table.specs.Maps.{Maps, ctx, members_of}
use Rattle.gw_table.specs.Parts.{Parted, IsPart, Holds}
use Rattle.gw_table.specs.WellFormed.{IsSound}
use Rattle.gw_refusal.specs.declared.at.At.{At}
use Rattle.gw_refusal.specs.declared.at.At.TheVariants.{Null, Live, Unmade, Each}
use Rattle.gw_refusal.specs.Requested.{is_add, is_root, is_service_change, is_wildcard}
use Rattle.gw_cmd.specs.Keys.{every_key, keys_if, place_key, name_keys, slot_key, command_keys}
use Rattle.gw_reserve.specs.Owned.{OwnedAction}
use Rattle.gw_tx.specs.Properties.{linked_names}

-- ---- the context of an action

-- the null context
abbrev pub is_for_null : CtxRef → Bool
is_for_null ref.Null = true
is_for_null ref.All = false
is_for_null ref.Choose = false
is_for_null (ref.Num n) = false

-- each context that there is
abbrev pub is_for_each : CtxRef → Bool
is_for_each ref.All = true
is_for_each ref.Null = false
is_for_each ref.Choose = false
is_for_each (ref.Num n) = false

-- the number of the one context that it is for, by its ContextID and by the number that it owns
abbrev pub one_context : CtxRef → Option CtxNum → Option CtxNum
one_context (ref.Num n) owned = Some n
one_context ref.Choose owned = owned
one_context ref.Null owned = None
one_context ref.All owned = None

-- ---- the keys of a command in it

-- a wildcard stands for terminations of the null context, or ROOT for all
abbrev pub stands_for_all : CtxRef → Command → Bool
stands_for_all sent c = (is_wildcard c.term && (is_for_null sent || is_add c.verb)) || (is_root c.term && is_service_change c.verb)

-- the members of the one context
abbrev pub keys_of_members : Option CtxNum → Maps → List Key
keys_of_members None m = []
keys_of_members (Some n) m = map Term (members_of (ctx m n))

-- the termination of a name, and the context that it is in; the one that is to be made; the members that a wildcard
-- may match
abbrev pub named_keys : Option CtxNum → Option ℕ → Command → Maps → TermRef → List Key
named_keys one slot c m (term.Name t) = name_keys t m
named_keys one slot c m term.Choose = keys_if (is_add c.verb) (slot_key slot)
named_keys one slot c m term.All = keys_of_members one m
named_keys one slot c m (term.Under prefix) = keys_of_members one m
named_keys one slot c m term.Root = []
named_keys one slot c m (term.Other text) = []

abbrev pub keys_in_action : CtxRef → Option CtxNum → Maps → Option ℕ × Command → List Key
keys_in_action sent owned m p = keys_if (stands_for_all sent p.1) (every_key m) ++ named_keys (one_context sent owned) p.0 p.1 m p.1.term

-- ---- the keys of an action and of a request

-- each name in a Topology, and the context that it is in
abbrev pub keys_of_links : OwnedAction → Maps → List Key
keys_of_links a m = flat_map (λ t. name_keys t m) (linked_names a.sent.props)

-- every key for an action with *; the one context; the keys of each command; and those of links
abbrev pub action_footprint : OwnedAction → Maps → List Key
action_footprint a m =
    keys_if (is_for_each a.sent.ctx) (every_key m) ++ place_key (one_context a.sent.ctx a.number) ++ flat_map (keys_in_action a.sent.ctx a.number m) a.commands
    ++ keys_of_links a m

abbrev pub footprint_of : List OwnedAction → Maps → List Key
footprint_of actions m = flat_map (λ a. action_footprint a m) actions

-- an action for each context, or one with a command that stands for all
abbrev pub is_whole_table : OwnedAction → Bool
is_whole_table a = is_for_each a.sent.ctx || list_any (λ p. stands_for_all a.sent.ctx p.1) a.commands

-- the keys of commands that are executed in one context
abbrev pub list_keys : At → List (Option ℕ × Command) → Maps → List Key
list_keys at ps m = flat_map (λ p. command_keys at p.0 p.1 m) ps

-- A part covers what has these keys: it is sound, it has no entry but at its own keys, and these are among them.
pub record Covers (part : Parted) (needed : List Key) : Type 0 where
  pub sound : IsSound part.keys part.maps
  pub entries : IsPart part.keys part.maps
  pub held : Holds part.keys needed

-- ---- a command as a request of its own

abbrev pub sent_for : At → CtxRef
sent_for Null = ref.Null
sent_for (Live n) = ref.Num n
sent_for (Unmade n) = ref.Choose
sent_for (Each n) = ref.All

abbrev pub owned_for : At → Option CtxNum
owned_for Null = None
owned_for (Live n) = None
owned_for (Unmade n) = Some n
owned_for (Each n) = None

-- the action with this context and this command alone
abbrev pub alone : At → Option ℕ → Command → OwnedAction
alone at slot c = record { sent = record { ctx = sent_for at; props = []; commands = c ∷ [] }; number = owned_for at; commands = (slot, c) ∷ [] }
