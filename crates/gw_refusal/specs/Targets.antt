-- The terminations that a command is for: those that match when it begins (RFC 3525, section 6.2.2; their order is
-- own).
use Rattle.std.specs.Prelude.{ℕ, if◌then◌else◌, List, [], ◌∷◌, Option, None, Some}
use Rattle.std.specs.List.{filter}
use Rattle.gw_base.specs.declared.ids.CtxNum.{CtxNum}
use Rattle.gw_base.specs.declared.term_ref.TermRef.{TermRef}
use Rattle.gw_base.specs.declared.term_ref.TermRef.TheVariants.{Root, All, Under, Choose, Name, Other}
use Rattle.gw_msg.specs.declared.message.Command.{Command}
pub use Rattle.gw_table.specs.Maps.{is_free}
use Rattle.gw_table.specs.Maps.{Maps, ctx, names, members_of}
use Rattle.gw_refusal.specs.declared.at.At.{At}
use Rattle.gw_refusal.specs.Places.{place_at}
use Rattle.gw_refusal.specs.Requested.{is_add, matches}

-- the members of the context in joining order; of the null context, all that are in none, in the order of their bytes
abbrev pub those_in : Option CtxNum → Maps → List (List ℕ)
those_in None m = filter (is_free m) (names m)
those_in (Some n) m = members_of (ctx m n)

-- whom a wildcard is for: an Add those in the null context, another command those in the action's context
abbrev pub source : At → Command → Option CtxNum
source at c = if is_add c.verb then None else place_at at

unfoldable pub matched : At → Command → Maps → List (List ℕ)
matched at c m = filter (matches c.term) (those_in (source at c) m)

abbrev pub targets_of : TermRef → At → Command → Maps → List (List ℕ)
targets_of (Name t) at c m = t ∷ []
targets_of All at c m = matched at c m
targets_of (Under prefix) at c m = matched at c m
targets_of Root at c m = []
targets_of Choose at c m = []
targets_of (Other text) at c m = []

-- the names of the terminations, in order; one that is to be made has none yet
abbrev pub targets : At → Command → Maps → List (List ℕ)
targets at c m = targets_of c.term at c m
