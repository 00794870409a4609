-- The properties of its context in an action: what is refused, what becomes of the context, and what the reply has of
-- it (RFC 3525, sections 6.1.1, 7.1.18 and 8.1.2; the order of errors, and what the reply has where nothing is
-- audited, are own).
use Rattle.std.specs.Prelude.{◌≡◌, ℕ, nat_lt, Bool, true, false, ◌&&◌, ◌||◌, ◌==◌, not, if◌then◌else◌, List, [], ◌∷◌, ◌++◌, length, bytes_eq, count_by, flat_map, Option, None, Some, is_none}
use Rattle.std.specs.List.{list_any}
use Rattle.gw_base.specs.declared.code.Code.{Code}
use Rattle.gw_base.specs.declared.code.Code.TheVariants.{IllegalCombination, UnknownTermination, NotInContext, PropertyTwice, NotImplemented, InsufficientResources}
use Rattle.gw_base.specs.declared.ids.CtxNum.{CtxNum}
use Rattle.gw_base.specs.declared.command_words.CtxRef.{CtxRef}
use Rattle.gw_base.specs.declared.command_words.CtxRef.TheVariants as ref
use Rattle.gw_base.specs.declared.context_words.Flow.{Flow}
use Rattle.gw_base.specs.declared.context_words.Link.{Link}
use Rattle.gw_base.specs.declared.term_ref.TermRef.{TermRef}
use Rattle.gw_base.specs.declared.term_ref.TermRef.TheVariants as term_ref
use Rattle.gw_ctx.specs.Contexts.{ContextRecord, prioritized, with_emergency, linked}
use Rattle.gw_ctx.specs.Fitting.{priority_max}
use Rattle.gw_msg.specs.declared.message.Action.{Action}
use Rattle.gw_msg.specs.declared.message.Triple.{Triple}
use Rattle.gw_msg.specs.declared.message.ContextProp.{ContextProp}
use Rattle.gw_msg.specs.declared.message.ContextProp.TheVariants.{Priority, Emergency, Topology, ContextAudit}
use Rattle.gw_msg.specs.declared.message.ContextItem.{ContextItem}
use Rattle.gw_msg.specs.declared.message.ContextItem.TheVariants as item
use Rattle.gw_reply.specs.declared.context_parts.ContextPart.{ContextPart}
use Rattle.gw_reply.specs.declared.context_parts.ContextPart.TheVariants as part
use Rattle.gw_table.specs.Maps.{Maps, term, ctx, put_ctx, place_of}
use Rattle.gw_refusal.specs.Places.{same_place}

-- ---- the kinds of properties

abbrev pub is_priority : ContextProp → Bool
is_priority (Priority p) = true
is_priority Emergency = false
is_priority (Topology triples) = false
is_priority (ContextAudit items) = false

abbrev pub is_emergency : ContextProp → Bool
is_emergency Emergency = true
is_emergency (Priority p) = false
is_emergency (Topology triples) = false
is_emergency (ContextAudit items) = false

abbrev pub is_topology : ContextProp → Bool
is_topology (Topology triples) = true
is_topology (Priority p) = false
is_topology Emergency = false
is_topology (ContextAudit items) = false

abbrev pub is_audit : ContextProp → Bool
is_audit (ContextAudit items) = true
is_audit (Priority p) = false
is_audit Emergency = false
is_audit (Topology triples) = false

-- the triples of a Topology
abbrev pub triples_in : ContextProp → List Triple
triples_in (Topology triples) = triples
triples_in (Priority p) = []
triples_in Emergency = []
triples_in (ContextAudit items) = []

abbrev pub triples_of : List ContextProp → List Triple
triples_of props = flat_map triples_in props

-- one of the triples passes the test
abbrev pub any_triple : (Triple → Bool) → List ContextProp → Bool
any_triple test props = list_any (λ p. list_any test (triples_in p)) props

-- the items of a ContextAudit
abbrev pub items_in : ContextProp → List ContextItem
items_in (ContextAudit items) = items
items_in (Priority p) = []
items_in Emergency = []
items_in (Topology triples) = []

abbrev pub items_of : List ContextProp → List ContextItem
items_of props = flat_map items_in props

-- the property that is set, as an item
abbrev pub kind_in : ContextProp → List ContextItem
kind_in (Priority p) = item.Priority ∷ []
kind_in Emergency = item.Emergency ∷ []
kind_in (Topology triples) = item.Topology ∷ []
kind_in (ContextAudit items) = []

abbrev pub is_topology_item : ContextItem → Bool
is_topology_item item.Topology = true
is_topology_item item.Priority = false
is_topology_item item.Emergency = false

abbrev pub is_priority_item : ContextItem → Bool
is_priority_item item.Priority = true
is_priority_item item.Topology = false
is_priority_item item.Emergency = false

abbrev pub is_emergency_item : ContextItem → Bool
is_emergency_item item.Emergency = true
is_emergency_item item.Topology = false
is_emergency_item item.Priority = false

-- the name that a TerminationID is
abbrev pub name_of : TermRef → Option (List ℕ)
name_of (term_ref.Name t) = Some t
name_of term_ref.Root = None
name_of term_ref.All = None
name_of term_ref.Choose = None
name_of (term_ref.Under prefix) = None
name_of (term_ref.Other text) = None

abbrev pub name_in : TermRef → List (List ℕ)
name_in (term_ref.Name t) = t ∷ []
name_in term_ref.Root = []
name_in term_ref.All = []
name_in term_ref.Choose = []
name_in (term_ref.Under prefix) = []
name_in (term_ref.Other text) = []

abbrev pub names_in : Triple → List (List ℕ)
names_in t = name_in t.a ++ name_in t.b

-- the names in a Topology
abbrev pub linked_names : List ContextProp → List (List ℕ)
linked_names props = flat_map names_in (triples_of props)

-- ---- what is refused by its form

-- the action is for a context that is to be made, or for each that there is
abbrev pub is_chosen_or_each : CtxRef → Bool
is_chosen_or_each ref.Choose = true
is_chosen_or_each ref.All = true
is_chosen_or_each ref.Null = false
is_chosen_or_each (ref.Num n) = false

abbrev pub has_no_name : Triple → Bool
has_no_name t = is_none (name_of t.a) || is_none (name_of t.b)

-- a Topology of what is no name, or for a context that is to be made, or for each
unfoldable pub is_left_out : Action → Bool
is_left_out a = any_triple has_no_name a.props || (list_any is_topology a.props && is_chosen_or_each a.ctx)

abbrev pub are_same : Option (List ℕ) → Option (List ℕ) → Bool
are_same (Some a) (Some b) = bytes_eq a b
are_same (Some a) None = false
are_same None (Some b) = false
are_same None None = false

-- one name twice
abbrev pub is_with_itself : Triple → Bool
is_with_itself t = are_same (name_of t.a) (name_of t.b)

abbrev pub is_nothing : {X : Type 0} → List X → Bool
is_nothing xs = length xs == 0

-- the null context has no properties; one that is to be made has none to be audited, and is made by a command
abbrev pub is_for_wrong_context : CtxRef → Action → Bool
is_for_wrong_context ref.Null a = not (is_nothing a.props)
is_for_wrong_context ref.Choose a = list_any is_audit a.props || (not (is_nothing a.props) && is_nothing a.commands)
is_for_wrong_context ref.All a = false
is_for_wrong_context (ref.Num n) a = false

unfoldable pub is_misplaced : Action → Bool
is_misplaced a = is_for_wrong_context a.ctx a || any_triple is_with_itself a.props

abbrev pub is_twice : {X : Type 0} → (X → Bool) → List X → Bool
is_twice test xs = nat_lt 1 (count_by test xs)

abbrev pub has_item_twice : List ContextItem → Bool
has_item_twice items = is_twice is_topology_item items || is_twice is_priority_item items || is_twice is_emergency_item items

abbrev pub has_kind_twice : List ContextProp → Bool
has_kind_twice props = is_twice is_priority props || is_twice is_emergency props || is_twice is_topology props || is_twice is_audit props

-- a kind, or an item of a ContextAudit
unfoldable pub has_twice : List ContextProp → Bool
has_twice props = has_kind_twice props || list_any (λ p. has_item_twice (items_in p)) props

-- a priority that there is not
abbrev pub is_too_high : ContextProp → Bool
is_too_high (Priority p) = nat_lt priority_max p
is_too_high Emergency = false
is_too_high (Topology triples) = false
is_too_high (ContextAudit items) = false

-- the first code that applies, whatever the tables hold
unfoldable pub refusal_of_properties : Action → Option Code
refusal_of_properties a =
    if is_left_out a then Some NotImplemented
    else if is_misplaced a then Some IllegalCombination
    else if has_twice a.props then Some PropertyTwice
    else if list_any is_too_high a.props then Some InsufficientResources
    else None

-- what may be set in whichever context: no Topology, and no priority that there is not
pub record ArePlain (props : List ContextProp) : Type 0 where
  pub low : list_any is_too_high props ≡ false
  pub unlinked : list_any is_topology props ≡ false

-- ---- what is refused by the tables

abbrev pub is_absent : Maps → List ℕ → Bool
is_absent m t = is_none (term m t)

abbrev pub is_elsewhere : CtxNum → Maps → List ℕ → Bool
is_elsewhere n m t = not (same_place (place_of (term m t)) (Some n))

-- a name that no termination has; and one that is not in this context
abbrev pub refusal_of_links : CtxNum → List (List ℕ) → Maps → Option Code
refusal_of_links n names m =
    if list_any (is_absent m) names then Some UnknownTermination
    else if list_any (is_elsewhere n m) names then Some NotInContext
    else None

-- ---- what becomes of the context

abbrev pub link_of : Option (List ℕ) → Option (List ℕ) → Flow → Option Link
link_of (Some a) (Some b) flow = Some (record { a = a; b = b; flow = flow })
link_of (Some a) None flow = None
link_of None (Some b) flow = None
link_of None None flow = None

abbrev pub linked_if : Option Link → ContextRecord → ContextRecord
linked_if None c = c
linked_if (Some link) c = linked link c

-- each triple in order
abbrev pub linked_by : List Triple → ContextRecord → ContextRecord
linked_by [] c = c
linked_by (t ∷ ts) c = linked_by ts (linked_if (link_of (name_of t.a) (name_of t.b) t.flow) c)

abbrev pub with_property : ContextProp → ContextRecord → ContextRecord
with_property (Priority p) c = prioritized p c
with_property Emergency c = with_emergency true c
with_property (Topology triples) c = linked_by triples c
with_property (ContextAudit items) c = c

abbrev pub with_property_if : ContextProp → Option ContextRecord → Option ContextRecord
with_property_if p None = None
with_property_if p (Some c) = Some (with_property p c)

-- of a context that is not there nothing is set
abbrev pub set_property : CtxNum → ContextProp → Maps → Maps
set_property n p m = put_ctx m n (with_property_if p (ctx m n))

-- in the order written
abbrev pub set_properties : CtxNum → List ContextProp → Maps → Maps
set_properties n [] m = m
set_properties n (p ∷ ps) m = set_properties n ps (set_property n p m)

-- ---- the context in the reply

-- the items of the ContextAudit in the order sent; where there is neither that nor a command, the kinds that were set
unfoldable pub reply_items : Action → List ContextItem
reply_items a =
    if list_any is_audit a.props then items_of a.props
    else if is_nothing a.commands then flat_map kind_in a.props
    else []

abbrev pub link_parts : List Link → List ContextPart
link_parts [] = []
link_parts (link ∷ links) = part.Topology (link ∷ links) ∷ []

abbrev pub emergency_parts : Bool → List ContextPart
emergency_parts true = part.Emergency ∷ []
emergency_parts false = []

-- no emergency and no link stands as nothing
abbrev pub item_parts : ContextRecord → ContextItem → List ContextPart
item_parts c item.Priority = part.Priority c.priority ∷ []
item_parts c item.Emergency = emergency_parts c.emergency
item_parts c item.Topology = link_parts c.links

-- in the reply to an action without commands something stands: the priority
abbrev pub minimum_priority : ContextRecord → Bool → List ContextPart → List ContextPart
minimum_priority c true [] = part.Priority c.priority ∷ []
minimum_priority c true (p ∷ ps) = p ∷ ps
minimum_priority c false parts = parts

abbrev pub context_parts : Action → ContextRecord → List ContextPart
context_parts a c = minimum_priority c (is_nothing a.commands) (flat_map (item_parts c) (reply_items a))

abbrev pub context_parts_if : Action → Option ContextRecord → List ContextPart
context_parts_if a None = []
context_parts_if a (Some c) = context_parts a c
