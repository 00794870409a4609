-- A context (RFC 3525, section 6.1): who joins and leaves it (the order of its members is own), and its properties
-- (sections 6.1.1 and 7.1.18; how links are kept is own).
use Rattle.std.specs.Prelude.{◌≡◌, ℕ, zero, suc, Bool, false, not, ◌&&◌, ◌||◌, List, [], ◌∷◌, ◌++◌, filter, bytes_eq, refl}
use Rattle.std.specs.Coded.{Coded, code_by, coded×, coded_list, coded_ℕ, coded_bool}
use Rattle.gw_base.specs.NameLists.{without}
use Rattle.gw_base.specs.declared.context_words.Flow.{Flow}
use Rattle.gw_base.specs.declared.context_words.Flow.TheVariants.{Bothway, Isolate, Oneway}
use Rattle.gw_base.specs.declared.context_words.Link.{Link}

-- what is known of a context: the names of its members in joining order, its priority, whether it is an emergency, and
-- the links between members in the order in which they were made
pub record ContextRecord : Type 0 where
  pub members : List (List ℕ)
  pub priority : ℕ
  pub emergency : Bool
  pub links : List Link

-- a context that has just come into being
abbrev pub new_context : ContextRecord
new_context = record { members = []; priority = 0; emergency = false; links = [] }

-- ---- links

-- the name is none of the two that are linked
abbrev pub is_apart_from : List ℕ → Link → Bool
is_apart_from name link = not (bytes_eq name link.a || bytes_eq name link.b)

-- both are about the same two names, in either order
abbrev pub is_same_pair : Link → Link → Bool
is_same_pair k l = (bytes_eq k.a l.a && bytes_eq k.b l.b) || (bytes_eq k.a l.b && bytes_eq k.b l.a)

abbrev pub is_other_pair : Link → Link → Bool
is_other_pair k l = not (is_same_pair k l)

-- the links that are not of the name
abbrev pub links_without : List ℕ → List Link → List Link
links_without name links = filter (is_apart_from name) links

-- the links of other pairs
abbrev pub links_beside : Link → List Link → List Link
links_beside link links = filter (is_other_pair link) links

-- both ways is how media flow where nothing is said: of it no link is kept
abbrev pub kept_link : Link → Flow → List Link
kept_link link Bothway = []
kept_link link Isolate = link ∷ []
kept_link link Oneway = link ∷ []

-- ---- what happens to a context

-- the name joins as the last member
abbrev pub joined : List ℕ → ContextRecord → ContextRecord
joined name c = record { members = c.members ++ name ∷ []; priority = c.priority; emergency = c.emergency; links = c.links }

-- the name leaves with its links, and the others keep their order
abbrev pub left : List ℕ → ContextRecord → ContextRecord
left name c = record { members = without name c.members; priority = c.priority; emergency = c.emergency; links = links_without name c.links }

-- the context has this priority
abbrev pub prioritized : ℕ → ContextRecord → ContextRecord
prioritized priority c = record { members = c.members; priority = priority; emergency = c.emergency; links = c.links }

-- the context is an emergency, or is not
abbrev pub with_emergency : Bool → ContextRecord → ContextRecord
with_emergency emergency c = record { members = c.members; priority = c.priority; emergency = emergency; links = c.links }

-- media flow so between the two: the link of this pair goes, and the new one, unless it is both ways, goes last
abbrev pub linked : Link → ContextRecord → ContextRecord
linked link c = record { members = c.members; priority = c.priority; emergency = c.emergency; links = links_beside link c.links ++ kept_link link link.flow }

-- ---- codes, by which two contexts are distinguished

abbrev flow_number : Flow → ℕ
flow_number Bothway = 0
flow_number Isolate = 1
flow_number Oneway = 2

abbrev flow_at : ℕ → Flow
flow_at zero = Bothway
flow_at (suc zero) = Isolate
flow_at (suc (suc k)) = Oneway

abbrev same_flow : (f : Flow) → flow_at (flow_number f) ≡ f
same_flow Bothway = refl
same_flow Isolate = refl
same_flow Oneway = refl

abbrev pub coded_flow : Coded Flow
coded_flow = code_by ℕ coded_ℕ flow_number flow_at same_flow

abbrev pub coded_link : Coded Link
coded_link =
    code_by (List ℕ × (List ℕ × Flow)) (coded× (coded_list coded_ℕ) (coded× (coded_list coded_ℕ) coded_flow))
    (λ l. (l.a, (l.b, l.flow))) (λ t. record { a = t.0; b = t.1.0; flow = t.1.1 }) (λ _. refl)

abbrev pub coded_context : Coded ContextRecord
coded_context =
    code_by ((List (List ℕ) × ℕ) × (Bool × List Link)) (coded× (coded× (coded_list (coded_list coded_ℕ)) coded_ℕ) (coded× coded_bool (coded_list coded_link)))
    (λ c. ((c.members, c.priority), (c.emergency, c.links))) (λ t. record { members = t.0.0; priority = t.0.1; emergency = t.1.0; links = t.1.1 }) (λ _. refl)
