-- Tables as they are stored (own): a place for each prepared key, with its entry, or empty, or with what stood there
-- out.
use Rattle.std.specs.Prelude.{◌≡◌, ℕ, Bool, true, false, cond, not, ◌||◌, ◌&&◌, List, [], ◌∷◌, Option, None, Some, is_some, refl}
use Rattle.std.specs.Ordering.{nat_cmp}
use Rattle.std.specs.FinMap as finite
use Rattle.std.specs.Coded.{Coded, code_by, coded×, coded_list, coded_option, coded_ℕ}
use Rattle.std.specs.declared.cmp.Ordering.{Ordering}
use Rattle.gw_base.specs.declared.command_words.Service.{Service}
use Rattle.gw_base.specs.declared.ids.CtxNum.{CtxNum}
use Rattle.gw_base.specs.declared.key.Key.{Key}
use Rattle.gw_base.specs.declared.key.Key.TheVariants.{Term, Ctx, Whole}
use Rattle.gw_base.specs.Keys.{has}
use Rattle.gw_base.specs.NameLists.{name_cmp}
use Rattle.gw_term.specs.declared.record.Termination.{Termination}
use Rattle.gw_term.specs.Record.{serviced}
use Rattle.gw_term.specs.RecordCodes.{coded_termination}
use Rattle.gw_ctx.specs.Contexts.{ContextRecord, coded_context}
use Rattle.gw_table.specs.declared.place.Place.{Place}
use Rattle.gw_table.specs.declared.place.Place.TheVariants.{Empty, Here, Out}
use Rattle.gw_table.specs.Maps.{Maps}

pub record Stored : Type 0 where
  pub terms : finite.FinMap name_cmp (Place Termination)
  pub contexts : finite.FinMap nat_cmp (Place ContextRecord)

-- entries as stored tables
abbrev pub stored : List (List ℕ × Place Termination) → List (ℕ × Place ContextRecord) → Stored
stored ts cs = record { terms = finite.from_entries ts; contexts = finite.from_entries cs }

-- ---- one place

-- the entry that stands there
abbrev pub visible : {A : Type 0} → Option (Place A) → Option A
visible None = None
visible (Some Empty) = None
visible (Some (Here a)) = Some a
visible (Some Out) = None

-- what stood there is out
abbrev pub has_left : {A : Type 0} → Option (Place A) → Bool
has_left None = false
has_left (Some Empty) = false
has_left (Some (Here a)) = false
has_left (Some Out) = true

-- there is a place, and nothing that stands in it or went out of it
abbrev pub is_vacant : {A : Type 0} → Option (Place A) → Bool
is_vacant None = false
is_vacant (Some Empty) = true
is_vacant (Some (Here a)) = false
is_vacant (Some Out) = false

-- what stands there, if it is an entry
abbrev pub if_visible : {A : Type 0} → Option (Place A) → Option (Place A)
if_visible None = None
if_visible (Some Empty) = None
if_visible (Some (Here a)) = Some (Here a)
if_visible (Some Out) = None

-- the place of an entry, or of none
abbrev pub placed : {A : Type 0} → Option A → Place A
placed None = Empty
placed (Some a) = Here a

-- ---- the entries that stand in places

-- the map with this entry, or with none
abbrev pub put_at : {K X : Type 0} {R : K → K → Ordering} → finite.FinMap R X → K → Option X → finite.FinMap R X
put_at m k None = finite.remove m k
put_at m k (Some x) = finite.insert m k x

-- the map of what stands in these places
abbrev pub filled : {K X : Type 0} {R : K → K → Ordering} → List (K × Place X) → finite.FinMap R X
filled [] = finite.empty
filled {R = R} (e ∷ es) = put_at (filled {R = R} es) e.0 (visible (Some e.1))

-- the tables as maps: what is out is not in them
unfoldable pub maps_of : Stored → Maps
maps_of s = record { terms = filled (finite.entries s.terms); contexts = filled (finite.entries s.contexts) }

-- ---- keys that are prepared, and keys that are out

-- there is a place for the key; Whole needs none
abbrev pub is_ready : Stored → Key → Bool
is_ready s (Term t) = is_some (finite.get s.terms t)
is_ready s (Ctx n) = is_some (finite.get s.contexts n.0)
is_ready s Whole = true

-- what stood at the key is out; Whole is never said to be
abbrev pub is_out : Stored → Key → Bool
is_out s (Term t) = has_left (finite.get s.terms t)
is_out s (Ctx n) = has_left (finite.get s.contexts n.0)
is_out s Whole = false

-- Whole names no entry
abbrev pub names_entry : Key → Bool
names_entry (Term t) = true
names_entry (Ctx n) = true
names_entry Whole = false

-- each of these keys is prepared
abbrev pub AreReady : List Key → Stored → Type 0
AreReady keys s = (k : Key) → has keys k ≡ true → is_ready s k ≡ true

-- none of these keys is out
abbrev pub AreIn : List Key → Stored → Type 0
AreIn keys s = (k : Key) → has keys k ≡ true → is_out s k ≡ false

-- each of these keys is out
abbrev pub AreOut : List Key → Stored → Type 0
AreOut keys s = (k : Key) → has keys k ≡ true → names_entry k ≡ true → is_out s k ≡ true

abbrev pub NoneIsOut : Stored → Type 0
NoneIsOut s = (k : Key) → is_out s k ≡ false

-- the same keys are prepared in the second as in the first
abbrev pub AreAsReady : Stored → Stored → Type 0
AreAsReady a b = (k : Key) → is_ready b k ≡ is_ready a k

-- the same keys are out
abbrev pub AreAsOut : Stored → Stored → Type 0
AreAsOut a b = (k : Key) → is_out b k ≡ is_out a k

-- these keys are out too
abbrev pub WentOut : List Key → Stored → Stored → Type 0
WentOut keys a b = (k : Key) → is_out b k ≡ (is_out a k || (has keys k && names_entry k))

-- these keys are no longer out, and all else is as it was
abbrev pub CameBack : List Key → Stored → Stored → Type 0
CameBack keys a b = (k : Key) → is_out b k ≡ (is_out a k && not (has keys k))

-- what was prepared stays so
abbrev pub KeepReady : Stored → Stored → Type 0
KeepReady a b = (k : Key) → is_ready a k ≡ true → is_ready b k ≡ true

-- no key but these became prepared
abbrev pub NoOtherReady : List Key → Stored → Stored → Type 0
NoOtherReady keys a b = (k : Key) → has keys k ≡ false → is_ready b k ≡ true → is_ready a k ≡ true

-- the maps have an entry at the key; Whole counts as one
abbrev pub has_entry : Maps → Key → Bool
has_entry m (Term t) = is_some (finite.get m.terms t)
has_entry m (Ctx n) = is_some (finite.get m.contexts n.0)
has_entry m Whole = true

-- the prepared keys are those with an entry
abbrev pub AreSwept : Stored → Type 0
AreSwept s = (k : Key) → is_ready s k ≡ has_entry (maps_of s) k

-- of these keys those are prepared that have an entry
abbrev pub AreSweptAmong : List Key → Stored → Type 0
AreSweptAmong keys s = (k : Key) → has keys k ≡ true → is_ready s k ≡ has_entry (maps_of s) k

-- of these keys those with an entry in the first are prepared in the second, and all other keys as in the first
abbrev pub AreSweptAt : List Key → Stored → Stored → Type 0
AreSweptAt keys a b = (k : Key) → is_ready b k ≡ cond (has keys k) (has_entry (maps_of a) k) (is_ready a k)

-- ---- tables of their own, beside those of the gateway

abbrev pub nothing_stored : Stored
nothing_stored = record { terms = finite.empty; contexts = finite.empty }

-- a place for each of the keys and no other, and nothing is out
pub record ArePacked (keys : List Key) (s : Stored) : Type 0 where
  pub terms : (t : List ℕ) → is_ready s (Term t) ≡ has keys (Term t)
  pub contexts : (n : CtxNum) → is_ready s (Ctx n) ≡ has keys (Ctx n)
  pub here : NoneIsOut s

-- ---- single changes, and lists of them

abbrev pub put_term_place : Stored → List ℕ → Place Termination → Stored
put_term_place s t p = record { terms = finite.insert s.terms t p; contexts = s.contexts }

abbrev pub put_ctx_place : Stored → CtxNum → Place ContextRecord → Stored
put_ctx_place s n p = record { terms = s.terms; contexts = finite.insert s.contexts n.0 p }

-- there is no place for the key any more
abbrev pub drop_term_place : Stored → List ℕ → Stored
drop_term_place s t = record { terms = finite.remove s.terms t; contexts = s.contexts }

abbrev pub drop_ctx_place : Stored → CtxNum → Stored
drop_ctx_place s n = record { terms = s.terms; contexts = finite.remove s.contexts n.0 }

-- what stood at the key is out
abbrev pub with_out : Stored → Key → Stored
with_out s (Term t) = put_term_place s t Out
with_out s (Ctx n) = put_ctx_place s n Out
with_out s Whole = s

-- Places were made for these keys where there were none: `b` is `a` after it.
pub record ArePrepared (keys : List Key) (a b : Stored) : Type 0 where
  pub maps : maps_of b ≡ maps_of a
  pub out : AreAsOut a b
  pub ready : (k : Key) → is_ready b k ≡ (is_ready a k || has keys k)

-- The places of these keys were freed where there was no entry: `b` is `a` after it.
pub record WereSwept (keys : List Key) (a b : Stored) : Type 0 where
  pub maps : maps_of b ≡ maps_of a
  pub out : AreAsOut a b
  pub ready : AreSweptAt keys a b

-- What stood at these keys went from one to the other: `from` and `to` before, `left` and `full` after it.
pub record AreMoved (keys : List Key) (from to left full : Stored) : Type 0 where
  pub terms_left : (t : List ℕ) → finite.get left.terms t ≡ cond (has keys (Term t)) (Some Out) (finite.get from.terms t)
  pub terms_full : (t : List ℕ) → finite.get full.terms t ≡ cond (has keys (Term t)) (finite.get from.terms t) (finite.get to.terms t)
  pub contexts_left : (n : CtxNum) → finite.get left.contexts n.0 ≡ cond (has keys (Ctx n)) (Some Out) (finite.get from.contexts n.0)
  pub contexts_full : (n : CtxNum) → finite.get full.contexts n.0 ≡ cond (has keys (Ctx n)) (finite.get from.contexts n.0) (finite.get to.contexts n.0)

-- ---- codes, by which values of models are distinguished

abbrev flat : {A : Type 0} → Place A → Option (Option A)
flat Empty = None
flat Out = Some None
flat (Here a) = Some (Some a)

abbrev place_from : {A : Type 0} → Option (Option A) → Place A
place_from None = Empty
place_from (Some None) = Out
place_from (Some (Some a)) = Here a

abbrev same_place : {A : Type 0} → (p : Place A) → place_from (flat p) ≡ p
same_place Empty = refl
same_place Out = refl
same_place (Here a) = refl

abbrev coded_place : {A : Type 0} → Coded A → Coded (Place A)
coded_place {A} c = code_by (Option (Option A)) (coded_option (coded_option c)) flat place_from same_place

abbrev pub coded_stored : Coded Stored
coded_stored =
    code_by (finite.FinMap name_cmp (Place Termination) × finite.FinMap nat_cmp (Place ContextRecord))
    (coded× (finite.code (coded_list coded_ℕ) (coded_place coded_termination)) (finite.code coded_ℕ (coded_place coded_context)))
    (λ s. (s.terms, s.contexts)) (λ p. record { terms = p.0; contexts = p.1 }) (λ _. refl)
