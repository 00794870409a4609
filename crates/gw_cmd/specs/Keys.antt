-- The entries of the maps that a command may read or write: its keys, in the maps as they are before it (own).
use Rattle.std.specs.Prelude.{ℕ, Bool, ◌&&◌, ◌||◌, if◌then◌else◌, List, [], ◌∷◌, ◌++◌, map, Option, None, Some}
use Rattle.gw_base.specs.declared.ids.CtxNum.{CtxNum}
use Rattle.gw_base.specs.declared.key.Key.{Key}
use Rattle.gw_base.specs.declared.key.Key.TheVariants.{Term, Ctx, Whole}
use Rattle.gw_base.specs.declared.term_ref.TermRef.{TermRef}
use Rattle.gw_base.specs.declared.term_ref.TermRef.TheVariants as ref
use Rattle.gw_msg.specs.declared.message.Command.{Command}
use Rattle.gw_table.specs.Maps.{Maps, term, ctx, names, numbers, members_of, place_of}
use Rattle.gw_table.specs.Reserved.{slot_name}
use Rattle.gw_refusal.specs.declared.at.At.{At}
use Rattle.gw_refusal.specs.declared.at.At.TheVariants.{Null, Live, Unmade, Each}
use Rattle.gw_refusal.specs.Requested.{is_add, is_service_change, is_root, is_wildcard}
use Rattle.gw_refusal.specs.Places.{is_null, is_each}

-- every key of the maps, and all that may still come
abbrev pub every_key : Maps → List Key
every_key m = Whole ∷ map Term (names m) ++ map Ctx (numbers m)

-- in an action for each context, and where a wildcard or ROOT stands for terminations of the null context or for all
abbrev pub is_for_all : At → Command → Bool
is_for_all at c =
    is_each at
    || (is_wildcard c.term && (is_null at || is_add c.verb))
    || (is_root c.term && is_service_change c.verb)

abbrev pub keys_if : Bool → List Key → List Key
keys_if b keys = if b then keys else []

-- the context of the action
abbrev pub action_keys : At → List Key
action_keys Null = []
action_keys (Live n) = Ctx n ∷ []
action_keys (Unmade n) = Ctx n ∷ []
action_keys (Each n) = []

abbrev pub place_key : Option CtxNum → List Key
place_key None = []
place_key (Some p) = Ctx p ∷ []

-- a termination, and the context that it is in, whether or not that has an entry
abbrev pub name_keys : List ℕ → Maps → List Key
name_keys t m = Term t ∷ place_key (place_of (term m t))

abbrev pub slot_key : Option ℕ → List Key
slot_key None = []
slot_key (Some slot) = Term (slot_name slot) ∷ []

abbrev pub new_keys : At → Option ℕ → Command → List Key
new_keys at slot c = keys_if (is_add c.verb) (slot_key slot)

-- the members of an action's context
abbrev pub member_keys : At → Maps → List Key
member_keys Null m = []
member_keys (Live n) m = map Term (members_of (ctx m n))
member_keys (Unmade n) m = map Term (members_of (ctx m n))
member_keys (Each n) m = []

-- what the command names
abbrev pub term_keys : At → Option ℕ → Command → Maps → TermRef → List Key
term_keys at slot c m (ref.Name t) = name_keys t m
term_keys at slot c m ref.Choose = new_keys at slot c
term_keys at slot c m ref.All = member_keys at m
term_keys at slot c m (ref.Under prefix) = member_keys at m
term_keys at slot c m ref.Root = []
term_keys at slot c m (ref.Other text) = []

unfoldable pub command_keys : At → Option ℕ → Command → Maps → List Key
command_keys at slot c m = keys_if (is_for_all at c) (every_key m) ++ action_keys at ++ term_keys at slot c m c.term
