-- The tables as text, for an operator (own).
use Rattle.std.specs.Prelude.{ℕ, ◌==◌, Bool, true, false, if◌then◌else◌, List, [], ◌++◌, codes, decimal, Option, None, Some}
use Rattle.std.specs.List.{flat_map}
use Rattle.gw_base.specs.declared.ids.CtxNum.{CtxNum}
use Rattle.gw_base.specs.declared.command_words.Service.{Service}
use Rattle.gw_base.specs.declared.command_words.Service.TheVariants.{Test, OutOfService, InService}
use Rattle.gw_base.specs.declared.context_words.Link.{Link}
use Rattle.gw_reply.specs.ContextParts.{flow_word}
use Rattle.gw_term.specs.declared.record.Termination.{Termination}
use Rattle.gw_ctx.specs.Contexts.{ContextRecord}
use Rattle.gw_table.specs.Maps.{Maps, term, ctx, names, numbers}

-- the context that a termination is in; - for the null context
abbrev pub place_text : Option CtxNum → List ℕ
place_text None = codes "-"
place_text (Some n) = decimal n.0

abbrev pub service_text : Service → List ℕ
service_text Test = codes "Test"
service_text OutOfService = codes "OutOfService"
service_text InService = codes "InService"

-- a name behind a space
abbrev pub member_text : List ℕ → List ℕ
member_text name = codes " " ++ name

-- context <number> <members in joining order>
abbrev pub context_line : CtxNum → List (List ℕ) → List ℕ
context_line n members = codes "context " ++ decimal n.0 ++ flat_map member_text members ++ codes "\n"

-- priority <number> <priority>, where it is not 0
abbrev pub priority_line : CtxNum → ℕ → List ℕ
priority_line n priority = if priority == 0 then [] else codes "priority " ++ decimal n.0 ++ codes " " ++ decimal priority ++ codes "\n"

-- emergency <number>, where it is one
abbrev pub emergency_line : CtxNum → Bool → List ℕ
emergency_line n false = []
emergency_line n true = codes "emergency " ++ decimal n.0 ++ codes "\n"

-- topology <number> <name> <name> <how media flow>
abbrev pub topology_line : CtxNum → Link → List ℕ
topology_line n link = codes "topology " ++ decimal n.0 ++ codes " " ++ link.a ++ codes " " ++ link.b ++ codes " " ++ flow_word link.flow ++ codes "\n"

-- the line of a context, and behind it those of its properties
abbrev pub context_text : CtxNum → Option ContextRecord → List ℕ
context_text n None = []
context_text n (Some c) = context_line n c.members ++ priority_line n c.priority ++ emergency_line n c.emergency ++ flat_map (topology_line n) c.links

-- term <name> <place> <service state>
abbrev pub term_line : List ℕ → Option Termination → List ℕ
term_line t None = []
term_line t (Some r) = codes "term " ++ t ++ codes " " ++ place_text r.place ++ codes " " ++ service_text r.service ++ codes "\n"

-- the lines of each of these contexts, and the line of each of these terminations
abbrev pub context_lines : Maps → List CtxNum → List ℕ
context_lines m = flat_map (λ n. context_text n (ctx m n))

abbrev pub term_lines : Maps → List (List ℕ) → List ℕ
term_lines m = flat_map (λ t. term_line t (term m t))

-- the contexts, their numbers rising; the terminations in the order of the bytes of their names
abbrev pub tables_text : Maps → List ℕ
tables_text m = context_lines m (numbers m) ++ term_lines m (names m)
