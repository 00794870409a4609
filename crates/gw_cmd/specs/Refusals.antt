-- Why a command is refused as a whole: the first that applies (codes of H.248.8; which case gets which, and in which
-- order: own).
use Rattle.std.specs.Prelude.{ℕ, Bool, true, false, not, Option, None, Some}
use Rattle.std.specs.Option.{is_none}
use Rattle.gw_base.specs.declared.code.Code.{Code}
use Rattle.gw_base.specs.declared.code.Code.TheVariants.{UnknownContext, UnknownTermination, NoWildcardMatch, NoTerminationLeft}
use Rattle.gw_base.specs.declared.term_ref.TermRef.{TermRef}
use Rattle.gw_base.specs.declared.term_ref.TermRef.TheVariants.{Root, All, Under, Choose, Name, Other}
use Rattle.gw_msg.specs.declared.message.Command.{Command}
use Rattle.gw_desc.specs.Checks.{check_code}
use Rattle.gw_table.specs.Maps.{Maps, term, ctx}
use Rattle.gw_refusal.specs.declared.at.At.{At}
use Rattle.gw_refusal.specs.declared.at.At.TheVariants.{Null, Live, Unmade, Each}
use Rattle.gw_refusal.specs.Requested.{is_some_list}
use Rattle.gw_refusal.specs.Forms.{refusal_by_form}
use Rattle.gw_refusal.specs.Targets.{targets}

-- 411: the action's context has ended
abbrev pub has_ended : At → Maps → Bool
has_ended Null m = false
has_ended (Live n) m = is_none (ctx m n)
has_ended (Unmade n) m = false
has_ended (Each n) m = is_none (ctx m n)

abbrev pub code_if : Code → Bool → Option Code
code_if code true = Some code
code_if code false = None

-- 430: a name that no termination has. 431: a wildcard without a match. 432: no slot is owned.
abbrev pub missing : At → Option ℕ → Command → Maps → TermRef → Option Code
missing at slot c m (Name t) = code_if UnknownTermination (is_none (term m t))
missing at slot c m All = code_if NoWildcardMatch (not (is_some_list (targets at c m)))
missing at slot c m (Under prefix) = code_if NoWildcardMatch (not (is_some_list (targets at c m)))
missing at slot c m Choose = code_if NoTerminationLeft (is_none slot)
missing at slot c m Root = None
missing at slot c m (Other text) = None

abbrev pub first_code : Option Code → Option Code → Option Code
first_code (Some code) later = Some code
first_code None later = later

-- what is refused by the tables as they are when it begins, and by what is wrong with its descriptors
unfoldable pub refusal_by_tables : At → Option ℕ → Command → Maps → Option Code
refusal_by_tables at slot c m =
    first_code (code_if UnknownContext (has_ended at m)) (first_code (missing at slot c m c.term) (check_code c.verb c.descriptors))

abbrev pub refusal : At → Option ℕ → Command → Maps → Option Code
refusal at slot c m = first_code (refusal_by_form at c) (refusal_by_tables at slot c m)
