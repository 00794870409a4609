-- The tables of a gateway as two finite maps (RFC 3525, section 6): names to terminations, and numbers to contexts.
use Rattle.std.specs.Prelude.{ℕ, Bool, List, map, Option, None, Some, refl}
use Rattle.std.specs.Option.{is_none}
use Rattle.std.specs.Ordering.{nat_cmp}
use Rattle.std.specs.FinMap as finite
use Rattle.std.specs.Coded.{Coded, code_by, coded×, coded_list, coded_ℕ}
use Rattle.gw_base.specs.declared.ids.CtxNum.{CtxNum}
use Rattle.gw_base.specs.NameLists.{name_cmp}
use Rattle.gw_term.specs.declared.record.Termination.{Termination}
use Rattle.gw_term.specs.Record.{provisioned}
use Rattle.gw_term.specs.RecordCodes.{coded_termination}
use Rattle.gw_ctx.specs.Contexts.{ContextRecord, new_context, coded_context}

pub record Maps : Type 0 where
  pub terms : finite.FinMap name_cmp Termination
  pub contexts : finite.FinMap nat_cmp ContextRecord

-- the maps, and what is answered
pub record Outcome (A : Type 0) : Type 0 where
  pub maps : Maps
  pub answer : A

-- the termination of a name
abbrev pub term : Maps → List ℕ → Option Termination
term m t = finite.get m.terms t

-- the context with a number
abbrev pub ctx : Maps → CtxNum → Option ContextRecord
ctx m n = finite.get m.contexts n.0

-- the maps with this entry, or with none
abbrev pub put_term : Maps → List ℕ → Option Termination → Maps
put_term m t None = record { terms = finite.remove m.terms t; contexts = m.contexts }
put_term m t (Some r) = record { terms = finite.insert m.terms t r; contexts = m.contexts }

abbrev pub put_ctx : Maps → CtxNum → Option ContextRecord → Maps
put_ctx m n None = record { terms = m.terms; contexts = finite.remove m.contexts n.0 }
put_ctx m n (Some c) = record { terms = m.terms; contexts = finite.insert m.contexts n.0 c }

-- the names of all terminations, in the order of their bytes
abbrev pub names : Maps → List (List ℕ)
names m = finite.keys m.terms

-- the number as one of a context
abbrev pub number : ℕ → CtxNum
number k = record { 0 = k }

-- the numbers of all contexts, rising
abbrev pub numbers : Maps → List CtxNum
numbers m = map number (finite.keys m.contexts)

-- the context that a termination is in; one that is not there is in none
abbrev pub place_of : Option Termination → Option CtxNum
place_of None = None
place_of (Some r) = r.place

-- the termination is in the null context
abbrev pub is_free : Maps → List ℕ → Bool
is_free m name = is_none (place_of (term m name))

-- a context that is not there is as one that has just come into being
abbrev pub context_of : Option ContextRecord → ContextRecord
context_of None = new_context
context_of (Some c) = c

-- its members
abbrev pub members_of : Option ContextRecord → List (List ℕ)
members_of o = (context_of o).members

-- no terminations and no contexts
abbrev pub no_maps : Maps
no_maps = record { terms = finite.empty; contexts = finite.empty }

-- configured terminations, all in the null context, and no contexts
abbrev pub new_maps : List (List ℕ) → Maps
new_maps configured = record { terms = finite.from_entries (map (λ name. (name, provisioned)) configured); contexts = finite.empty }

-- by which maps are distinguished
abbrev pub coded_maps : Coded Maps
coded_maps =
    code_by (finite.FinMap name_cmp Termination × finite.FinMap nat_cmp ContextRecord)
    (coded× (finite.code (coded_list coded_ℕ) coded_termination) (finite.code coded_ℕ coded_context))
    (λ m. (m.terms, m.contexts)) (λ p. record { terms = p.0; contexts = p.1 }) (λ _. refl)
