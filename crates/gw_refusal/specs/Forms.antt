-- Why a command is refused by its form alone: the first that applies (codes of H.248.8; which case gets which, and in
-- which order: own).
use Rattle.std.specs.Prelude.{Bool, not, ◌||◌, ◌&&◌, if◌then◌else◌, Option, None, Some}
use Rattle.gw_base.specs.declared.code.Code.{Code}
use Rattle.gw_base.specs.declared.code.Code.TheVariants.{UnknownCommand, NotImplemented, IllegalCombination}
use Rattle.gw_msg.specs.declared.message.Command.{Command}
use Rattle.gw_refusal.specs.declared.at.At.{At}
use Rattle.gw_refusal.specs.Places.{is_null, is_unmade, is_each}
use Rattle.gw_refusal.specs.Requested.{is_move, is_modify, is_subtract, is_service_change, brings, is_unsupported, is_root, is_choose, is_other_term, is_wildcard, audited, is_some_list, method, delay, is_other_method, is_other_delay}

-- 501: what this profile leaves out
abbrev pub is_left_out : At → Command → Bool
is_left_out at c =
    is_other_term c.term
    || (is_move c.verb && (is_wildcard c.term || is_choose c.term))
    || (is_modify c.verb && is_root c.term)
    || (c.wild && is_wildcard c.term && is_some_list (audited c.descriptors))
    || (is_service_change c.verb && (is_other_method (method c.descriptors) || is_other_delay (delay c.descriptors)))
    || (is_each at && not (is_wildcard c.term))

-- 421: what does not go with the action's context, or with the TerminationID
abbrev pub is_misplaced : At → Command → Bool
is_misplaced at c =
    (is_null at && (brings c.verb || is_subtract c.verb))
    || (is_each at && brings c.verb)
    || (is_unmade at && not (brings c.verb))
    || (is_root c.term && (brings c.verb || is_subtract c.verb))
    || (is_choose c.term && not (brings c.verb))
    || (is_root c.term && not (is_null at))

-- what is refused by its form alone
unfoldable pub refusal_by_form : At → Command → Option Code
refusal_by_form at c =
    if is_unsupported c.verb then Some UnknownCommand
    else if is_left_out at c then Some NotImplemented
    else if is_misplaced at c then Some IllegalCombination
    else None
