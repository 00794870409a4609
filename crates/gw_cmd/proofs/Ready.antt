-- A command that is not refused, on a part that has its keys, is ready to be executed.
use Rattle.std.proofs.Common.{nat_eq, ◌≡◌, ℕ, Bool, true, false, List, [], ◌∷◌, ◌++◌, map, Option, None, Some, is_some, is_none, bytes_eq, refl, sym, ap, ◌∙◌}
use Rattle.std.specs.Prelude.{◌≢◌, ◌||◌, ◌&&◌, not, if◌then◌else◌}
use Rattle.std.specs.Ordering.{nat_cmp}
use Rattle.std.specs.List.{list_any, filter}
use Rattle.std.specs.FinMap as finite
use Rattle.std.specs.FinMap.{contains_key-keys}
use Rattle.gw_base.specs.declared.code.Code.TheVariants.{UnknownCommand, NotImplemented, IllegalCombination, UnknownContext}
use Rattle.gw_base.specs.declared.ids.CtxNum.{CtxNum}
use Rattle.gw_base.specs.declared.key.Key.{Key}
use Rattle.gw_base.specs.declared.key.Key.TheVariants.{Term, Ctx, Whole}
use Rattle.gw_base.specs.declared.command_words.Service.{Service}
use Rattle.gw_base.specs.declared.command_words.Verb.{Verb}
use Rattle.gw_base.specs.declared.command_words.Verb.TheVariants.{Add, Modify, Move, Subtract, AuditValue, AuditCapability, Notify, ServiceChange}
use Rattle.gw_base.specs.declared.term_ref.TermRef.{TermRef}
use Rattle.gw_base.specs.declared.term_ref.TermRef.TheVariants.{Root, All, Under, Choose, Name, Other}
use Rattle.gw_base.specs.Keys.{has, same_key}
use Rattle.gw_base.specs.NameLists.{is_in, name_cmp}
use Rattle.gw_base.proofs.KeyTests.{any-append_left, any-append_right, has-head, has-tail}
use Rattle.gw_base.proofs.NamesInLists.{or_left, or_right, or_cases, either}
use Rattle.gw_base.proofs.NameTests.{name_test, number_test}
use Rattle.gw_desc.specs.Checks.{check_code}
use Rattle.gw_msg.specs.declared.message.Command.{Command}
use Rattle.gw_ctx.specs.Contexts.{ContextRecord}
use Rattle.gw_table.specs.Maps.{Maps, term, ctx, names, numbers, number, members_of, place_of}
use Rattle.gw_table.specs.Parts.{PartKeys, holds, Holds, HoldsPlace}
use Rattle.gw_table.specs.Reserved.{slot_name}
use Rattle.gw_refusal.specs.declared.at.At.{At}
use Rattle.gw_refusal.specs.declared.at.At.TheVariants.{Null, Live, Unmade, Each}
use Rattle.gw_refusal.specs.Requested.{is_add, is_move, is_modify, is_subtract, is_service_change, brings, is_unsupported, is_root, is_choose, is_other_term, is_wildcard, matches, audited, is_some_list, method, delay, is_other_method, is_other_delay}
use Rattle.gw_cmd.specs.Keys.{every_key, is_for_all, keys_if, action_keys, place_key, slot_key, member_keys, term_keys, command_keys}
use Rattle.gw_refusal.specs.Places.{place_at, is_null, is_unmade, is_each}
use Rattle.gw_refusal.specs.Forms.{is_left_out, is_misplaced, refusal_by_form}
use Rattle.gw_cmd.specs.Refusals.{has_ended, code_if, missing, first_code, refusal_by_tables}
use Rattle.gw_cmd.specs.Suits.{HoldsFound, HoldsSlot, HoldsNew, IsReady}
use Rattle.gw_cmd.specs.Tasks.{task_of}
use Rattle.gw_refusal.specs.Targets.{those_in, source, matched, targets_of}

-- ---- tests

or_false : (a b : Bool) → (a || b) ≡ false → (a ≡ false) × (b ≡ false)
or_false true b h = absurd cc
or_false false b h = (refl, h)

and_false : (a b : Bool) → (a && b) ≡ false → a ≡ true → b ≡ false
and_false true b h e = h
and_false false b h e = absurd cc

not_false : (b : Bool) → not b ≡ false → b ≡ true
not_false true h = refl
not_false false h = absurd cc

-- ---- refusals that do not come

record PassesForm (at : At) (c : Command) : Type 0 where
  known : is_unsupported c.verb ≡ false
  kept : is_left_out at c ≡ false
  placed : is_misplaced at c ≡ false

form_none : (at : At) (c : Command) → refusal_by_form at c ≡ None → PassesForm at c
unfolding refusal_by_form
form_none at c h = by (is_unsupported c.verb) (is_left_out at c) (is_misplaced at c) refl refl refl h
  where
    by : (u l p : Bool) → is_unsupported c.verb ≡ u → is_left_out at c ≡ l → is_misplaced at c ≡ p → (if u then Some UnknownCommand else if l then Some NotImplemented else if p then Some IllegalCombination else None) ≡ None → PassesForm at c
    by true l p d e f k = absurd cc
    by false true p d e f k = absurd cc
    by false false true d e f k = absurd cc
    by false false false d e f k = record { known = d; kept = e; placed = f }

live_by : (at : At) (slot : Option ℕ) (c : Command) (m : Maps) → refusal_by_tables at slot c m ≡ None → has_ended at m ≡ false
unfolding refusal_by_tables
live_by at slot c m h = by (has_ended at m) refl h
  where
    by : (b : Bool) → has_ended at m ≡ b → first_code (code_if UnknownContext b) (first_code (missing at slot c m c.term) (check_code c.verb c.descriptors)) ≡ None → has_ended at m ≡ false
    by true e f = absurd cc
    by false e f = e

-- ---- keys

pub has_term : (l : List (List ℕ)) (t : List ℕ) → is_in t l ≡ true → has (map Term l) (Term t) ≡ true
has_term [] t h = absurd cc
has_term (x ∷ xs) t h = either (or_cases (bytes_eq t x) (is_in t xs) h) (λ a. or_left (bytes_eq t x) (has (map Term xs) (Term t)) a) (λ b. or_right (bytes_eq t x) (has (map Term xs) (Term t)) (has_term xs t b))

has_ctx : (l : List ℕ) (n : CtxNum) → list_any (nat_eq n.0) l ≡ true → has (map Ctx (map number l)) (Ctx n) ≡ true
has_ctx [] n h = absurd cc
has_ctx (x ∷ xs) n h = either (or_cases (nat_eq n.0 x) (list_any (nat_eq n.0) xs) h) (λ a. or_left (nat_eq n.0 x) (has (map Ctx (map number xs)) (Ctx n)) a) (λ b. or_right (nat_eq n.0 x) (has (map Ctx (map number xs)) (Ctx n)) (has_ctx xs n b))

pub same_any : {X : Type 0} (p q : X → Bool) (l : List X) → ((x : X) → p x ≡ q x) → list_any p l ≡ list_any q l
same_any p q [] h = refl
same_any p q (x ∷ xs) h = ap (λ b. b || list_any p xs) (h x) ∙ ap (λ b. q x || b) (same_any p q xs h)

-- the names are those with an entry
pub is_named : (m : Maps) (t : List ℕ) → is_in t (names m) ≡ is_some (term m t)
is_named m t = sym (same_any (λ q. Rattle.std.specs.Ordering.eq_by_cmp name_cmp t q) (bytes_eq t) (names m) (name_test t)) ∙ sym (contains_key-keys m.terms t)

pub named : (m : Maps) (t : List ℕ) → is_some (term m t) ≡ true → is_in t (names m) ≡ true
named m t h = is_named m t ∙ h

numbered : (m : Maps) (n : CtxNum) → is_some (ctx m n) ≡ true → list_any (nat_eq n.0) (finite.keys m.contexts) ≡ true
numbered m n h = sym (same_any (λ q. Rattle.std.specs.Ordering.eq_by_cmp nat_cmp n.0 q) (nat_eq n.0) (finite.keys m.contexts) (number_test n.0)) ∙ sym (contains_key-keys m.contexts n.0) ∙ h

pub every_term : (m : Maps) (t : List ℕ) → is_in t (names m) ≡ true → has (every_key m) (Term t) ≡ true
every_term m t h = has-tail Whole (Term t) (map Term (names m) ++ map Ctx (numbers m)) (any-append_left (same_key (Term t)) (map Term (names m)) (map Ctx (numbers m)) (has_term (names m) t h))

pub every_ctx : (m : Maps) (n : CtxNum) → is_some (ctx m n) ≡ true → has (every_key m) (Ctx n) ≡ true
every_ctx m n h = has-tail Whole (Ctx n) (map Term (names m) ++ map Ctx (numbers m)) (any-append_right (same_key (Ctx n)) (map Term (names m)) (map Ctx (numbers m)) (has_ctx (finite.keys m.contexts) n (numbered m n h)))

module _ (at : At) (slot : Option ℕ) (c : Command) (m : Maps) where
  -- where the keys of a command are
  pub among_all : (k : Key) → is_for_all at c ≡ true → has (every_key m) k ≡ true → has (command_keys at slot c m) k ≡ true
  unfolding command_keys
  among_all k e h =
      any-append_left (same_key k) (keys_if (is_for_all at c) (every_key m) ++ action_keys at) (term_keys at slot c m c.term)
      (any-append_left (same_key k) (keys_if (is_for_all at c) (every_key m)) (action_keys at) (ap (λ (b : Bool). has (keys_if b (every_key m)) k) e ∙ h))

  pub among_action : (k : Key) → has (action_keys at) k ≡ true → has (command_keys at slot c m) k ≡ true
  unfolding command_keys
  among_action k h =
      any-append_left (same_key k) (keys_if (is_for_all at c) (every_key m) ++ action_keys at) (term_keys at slot c m c.term)
      (any-append_right (same_key k) (keys_if (is_for_all at c) (every_key m)) (action_keys at) h)

  pub among_term : (k : Key) → has (term_keys at slot c m c.term) k ≡ true → has (command_keys at slot c m) k ≡ true
  unfolding command_keys
  among_term k h = any-append_right (same_key k) (keys_if (is_for_all at c) (every_key m) ++ action_keys at) (term_keys at slot c m c.term) h

-- ---- what the form rules out

two_of : (a b c d e f : Bool) → (a || b || c || d || e || f) ≡ false → (a ≡ false) × (b ≡ false)
two_of true b c d e f h = absurd cc
two_of false true c d e f h = absurd cc
two_of false false c d e f h = (refl, refl)

late_two_of : (a b c d e f : Bool) → (a || b || c || d || e || f) ≡ false → (d ≡ false) × (e ≡ false)
late_two_of true b c d e f h = absurd cc
late_two_of false true c d e f h = absurd cc
late_two_of false false true d e f h = absurd cc
late_two_of false false false true e f h = absurd cc
late_two_of false false false false true f h = absurd cc
late_two_of false false false false false f h = (refl, refl)

either_false : (a b : Bool) → (a && b) ≡ false → b ≡ true → a ≡ false
either_false true true h e = absurd cc
either_false false b h e = refl
either_false true false h e = absurd cc

add_of : (v : Verb) → brings v ≡ true → is_move v ≡ false → is_add v ≡ true
add_of Add h e = refl
add_of Move h e = absurd cc
add_of Modify h e = absurd cc
add_of Subtract h e = absurd cc
add_of AuditValue h e = absurd cc
add_of AuditCapability h e = absurd cc
add_of Notify h e = absurd cc
add_of ServiceChange h e = absurd cc

module _ (at : At) (c : Command) (p : PassesForm at c) where
  front : (is_other_term c.term ≡ false) × ((is_move c.verb && (is_wildcard c.term || is_choose c.term)) ≡ false)
  front = two_of (is_other_term c.term) (is_move c.verb && (is_wildcard c.term || is_choose c.term)) (is_modify c.verb && is_root c.term) (c.wild && is_wildcard c.term && is_some_list (audited c.descriptors)) (is_service_change c.verb && (is_other_method (method c.descriptors) || is_other_delay (delay c.descriptors))) (is_each at && not (is_wildcard c.term)) p.kept

  behind : ((is_root c.term && (brings c.verb || is_subtract c.verb)) ≡ false) × ((is_choose c.term && not (brings c.verb)) ≡ false)
  behind = late_two_of (is_null at && (brings c.verb || is_subtract c.verb)) (is_each at && brings c.verb) (is_unmade at && not (brings c.verb)) (is_root c.term && (brings c.verb || is_subtract c.verb)) (is_choose c.term && not (brings c.verb)) (is_root c.term && not (is_null at)) p.placed

  first : (is_null at && (brings c.verb || is_subtract c.verb)) ≡ false
  first = (two_of (is_null at && (brings c.verb || is_subtract c.verb)) (is_each at && brings c.verb) (is_unmade at && not (brings c.verb)) (is_root c.term && (brings c.verb || is_subtract c.verb)) (is_choose c.term && not (brings c.verb)) (is_root c.term && not (is_null at)) p.placed).0

  -- a Move has a name
  stays_by : (r : TermRef) → c.term ≡ r → ((t : List ℕ) → c.term ≢ Name t) → is_move c.verb ≡ false
  stays_by (Name t) e h = absurd (h t e)
  stays_by All e h = either_false (is_move c.verb) (is_wildcard c.term || is_choose c.term) front.1 (ap (λ (r : TermRef). is_wildcard r || is_choose r) e)
  stays_by (Under x) e h = either_false (is_move c.verb) (is_wildcard c.term || is_choose c.term) front.1 (ap (λ (r : TermRef). is_wildcard r || is_choose r) e)
  stays_by Choose e h = either_false (is_move c.verb) (is_wildcard c.term || is_choose c.term) front.1 (ap (λ (r : TermRef). is_wildcard r || is_choose r) e)
  stays_by (Other x) e h = absurd (let clash : true ≡ false = sym (ap (λ (r : TermRef). is_other_term r) e) ∙ front.0 in cc)
  stays_by Root e h =
      let none : (brings c.verb || is_subtract c.verb) ≡ false = and_false (is_root c.term) (brings c.verb || is_subtract c.verb) behind.0 (ap (λ (r : TermRef). is_root r) e) in
      let quiet : brings c.verb ≡ false = (or_false (brings c.verb) (is_subtract c.verb) none).0 in
      (or_false (is_add c.verb) (is_move c.verb) quiet).1

  -- and a $ an Add
  adds : c.term ≡ Choose → is_add c.verb ≡ true
  adds e =
      add_of c.verb
      (not_false (brings c.verb) (and_false (is_choose c.term) (not (brings c.verb)) behind.1 (ap (λ (r : TermRef). is_choose r) e)))
      (either_false (is_move c.verb) (is_wildcard c.term || is_choose c.term) front.1 (ap (λ (r : TermRef). is_wildcard r || is_choose r) e))

-- a termination is made by an Add
pub adds_new : (at : At) (c : Command) → refusal_by_form at c ≡ None → c.term ≡ Choose → is_add c.verb ≡ true
adds_new at c form = adds at c (form_none at c form)

-- there is something that the command does
pub has_task : (at : At) (c : Command) (service : Option Service) → refusal_by_form at c ≡ None → is_some (task_of c.verb (place_at at) service) ≡ true
has_task at c service form = by c.verb refl
  where
    p : PassesForm at c
    p = form_none at c form

    some : (a : At) → at ≡ a → brings c.verb || is_subtract c.verb ≡ true → (f : Option CtxNum → Bool) → ((n : CtxNum) → f (Some n) ≡ true) → f (place_at a) ≡ true
    some Null e h f g =
        absurd (let clash : true ≡ false = sym (ap (λ (b : Bool). is_null Null && b) h) ∙ ap (λ (x : At). is_null x && (brings c.verb || is_subtract c.verb)) (sym e) ∙ first at c p in cc)
    some (Live n) e h f g = g n
    some (Unmade n) e h f g = g n
    some (Each n) e h f g = g n

    by : (v : Verb) → c.verb ≡ v → is_some (task_of v (place_at at) service) ≡ true
    by Add e = some at refl (ap (λ (v : Verb). brings v || is_subtract v) e) (λ o. is_some (task_of Add o service)) (λ n. refl)
    by Move e = some at refl (ap (λ (v : Verb). brings v || is_subtract v) e) (λ o. is_some (task_of Move o service)) (λ n. refl)
    by Subtract e = some at refl (ap (λ (v : Verb). brings v || is_subtract v) e) (λ o. is_some (task_of Subtract o service)) (λ n. refl)
    by Modify e = refl
    by AuditValue e = refl
    by ServiceChange e = refl
    by AuditCapability e = absurd (let clash : true ≡ false = sym (ap (λ (v : Verb). is_unsupported v) e) ∙ p.known in cc)
    by Notify e = absurd (let clash : true ≡ false = sym (ap (λ (v : Verb). is_unsupported v) e) ∙ p.known in cc)

-- ---- targets

pub in_filter : (p : List ℕ → Bool) (l : List (List ℕ)) (t : List ℕ) → is_in t (filter p l) ≡ true → is_in t l ≡ true
in_filter p [] t h = h
in_filter p (x ∷ xs) t h = by (p x) h (in_filter p xs t)
  where
    by : (b : Bool) → is_in t (if b then x ∷ filter p xs else filter p xs) ≡ true → (is_in t (filter p xs) ≡ true → is_in t xs ≡ true) → bytes_eq t x || is_in t xs ≡ true
    by true h later = either (or_cases (bytes_eq t x) (is_in t (filter p xs)) h) (λ a. or_left (bytes_eq t x) (is_in t xs) a) (λ b. or_right (bytes_eq t x) (is_in t xs) (later b))
    by false h later = or_right (bytes_eq t x) (is_in t xs) (later h)

module _ (keys : PartKeys) (at : At) (slot : Option ℕ) (c : Command) (m : Maps) (covered : Holds keys (command_keys at slot c m)) where
  -- with the key of every termination
  found_all : is_for_all at c ≡ true → (t : List ℕ) → HoldsFound keys t m
  found_all e t f = covered (Term t) (among_all at slot c m (Term t) e (every_term m t (named m t f)))

  pub found_named : (t q : List ℕ) → c.term ≡ Name t → is_in q (t ∷ []) ≡ true → HoldsFound keys q m
  found_named t q e h f =
      let same : bytes_eq q t ≡ true = either (or_cases (bytes_eq q t) false h) (λ a. a) (λ b. absurd cc) in
      let here : has (term_keys at slot c m c.term) (Term q) ≡ true = ap (λ (r : TermRef). has (term_keys at slot c m r) (Term q)) e ∙ or_left (bytes_eq q t) (has (place_key (place_of (term m t))) (Term q)) same in
      covered (Term q) (among_term at slot c m (Term q) here)

  -- in the action's context
  found_member : (b : Bool) → is_for_all at c ≡ b → is_wildcard c.term ≡ true → (t : List ℕ) → is_in t (those_in (source at c) m) ≡ true → HoldsFound keys t m
  found_member true e w t h f = found_all e t f
  found_member false e w t h f =
      let each : is_each at || (is_wildcard c.term && (is_null at || is_add c.verb)) ≡ false = (or_false (is_each at || (is_wildcard c.term && (is_null at || is_add c.verb))) (is_root c.term && is_service_change c.verb) e).0 in
      let parts : (is_each at ≡ false) × ((is_wildcard c.term && (is_null at || is_add c.verb)) ≡ false) = or_false (is_each at) (is_wildcard c.term && (is_null at || is_add c.verb)) each in
      let rest : (is_null at ≡ false) × (is_add c.verb ≡ false) = or_false (is_null at) (is_add c.verb) (and_false (is_wildcard c.term) (is_null at || is_add c.verb) parts.1 w) in
      let inside : is_in t (those_in (place_at at) m) ≡ true = ap (λ (b : Bool). is_in t (those_in (if b then None else place_at at) m)) (sym rest.1) ∙ h in
      covered (Term t) (among_term at slot c m (Term t) (by_term c.term w ∙ has_members at rest.0 parts.0 inside))
    where
      by_term : (r : TermRef) → is_wildcard r ≡ true → has (term_keys at slot c m r) (Term t) ≡ has (member_keys at m) (Term t)
      by_term All h = refl
      by_term (Under x) h = refl
      by_term Root h = absurd cc
      by_term Choose h = absurd cc
      by_term (Name x) h = absurd cc
      by_term (Other x) h = absurd cc

      has_members : (a : At) → is_null a ≡ false → is_each a ≡ false → is_in t (those_in (place_at a) m) ≡ true → has (member_keys a m) (Term t) ≡ true
      has_members Null x y h = absurd cc
      has_members (Live n) x y h = has_term (members_of (ctx m n)) t h
      has_members (Unmade n) x y h = has_term (members_of (ctx m n)) t h
      has_members (Each n) x y h = absurd cc

  found_matched : is_wildcard c.term ≡ true → (t : List ℕ) → is_in t (matched at c m) ≡ true → HoldsFound keys t m
  unfolding matched
  found_matched w t h = found_member (is_for_all at c) refl w t (in_filter (matches c.term) (those_in (source at c) m) t h)

  found_target : (r : TermRef) → c.term ≡ r → (t : List ℕ) → is_in t (targets_of r at c m) ≡ true → HoldsFound keys t m
  found_target (Name q) e t h = found_named q t e h
  found_target All e t h = found_matched (ap (λ (r : TermRef). is_wildcard r) e) t h
  found_target (Under x) e t h = found_matched (ap (λ (r : TermRef). is_wildcard r) e) t h
  found_target Root e t h = absurd cc
  found_target Choose e t h = absurd cc
  found_target (Other x) e t h = absurd cc

  held_action : (n : CtxNum) → has (action_keys at) (Ctx n) ≡ true → holds keys (Ctx n) ≡ true
  held_action n h = covered (Ctx n) (among_action at slot c m (Ctx n) h)

  held_each : (n : CtxNum) → is_each at ≡ true → is_some (ctx m n) ≡ true → holds keys (Ctx n) ≡ true
  held_each n e h =
      covered (Ctx n) (among_all at slot c m (Ctx n)
      (or_left (is_each at || (is_wildcard c.term && (is_null at || is_add c.verb))) (is_root c.term && is_service_change c.verb) (or_left (is_each at) (is_wildcard c.term && (is_null at || is_add c.verb)) e))
      (every_ctx m n h))

  there : (o : Option ContextRecord) → is_none o ≡ false → is_some o ≡ true
  there None h = absurd cc
  there (Some x) h = refl

  pub held_place : (a : At) → at ≡ a → has_ended at m ≡ false → HoldsPlace keys (place_at a)
  held_place Null e l = tt
  held_place (Live n) e l = held_action n (ap (λ (x : At). has (action_keys x) (Ctx n)) e ∙ has-head (Ctx n) [])
  held_place (Unmade n) e l = held_action n (ap (λ (x : At). has (action_keys x) (Ctx n)) e ∙ has-head (Ctx n) [])
  held_place (Each n) e l = held_each n (ap (λ (x : At). is_each x) e) (there (ctx m n) (ap (λ (x : At). has_ended x m) (sym e) ∙ l))

  pub held_moved : (t : List ℕ) → c.term ≡ Name t → (o : Option CtxNum) → place_of (term m t) ≡ o → HoldsPlace keys o
  held_moved t e None i = tt
  held_moved t e (Some p) i =
      covered (Ctx p) (among_term at slot c m (Ctx p)
      (ap (λ (r : TermRef). has (term_keys at slot c m r) (Ctx p)) e ∙ ap (λ (o : Option CtxNum). has (Term t ∷ place_key o) (Ctx p)) i ∙ has-tail (Term t) (Ctx p) (Ctx p ∷ []) (has-head (Ctx p) [])))

  held_root : c.term ≡ Root → c.verb ≡ ServiceChange → (t : List ℕ) → is_in t (names m) ≡ true → holds keys (Term t) ≡ true
  held_root e v t h =
      covered (Term t) (among_all at slot c m (Term t)
      (or_right (is_each at || (is_wildcard c.term && (is_null at || is_add c.verb))) (is_root c.term && is_service_change c.verb)
      (ap (λ (r : TermRef). is_root r && is_service_change c.verb) e ∙ ap (λ (x : Verb). is_service_change x) v))
      (every_term m t h))

  held_slot : is_add c.verb ≡ true → c.term ≡ Choose → (o : Option ℕ) → slot ≡ o → HoldsSlot keys o
  held_slot a e None i = tt
  held_slot a e (Some s) i =
      covered (Term (slot_name s)) (among_term at slot c m (Term (slot_name s))
      (ap (λ (r : TermRef). has (term_keys at slot c m r) (Term (slot_name s))) e
      ∙ ap (λ (o : Option ℕ). has (keys_if (is_add c.verb) (slot_key o)) (Term (slot_name s))) i
      ∙ ap (λ (b : Bool). has (keys_if b (slot_key (Some s))) (Term (slot_name s))) a
      ∙ has-head (Term (slot_name s)) []))

  pub ready : refusal_by_form at c ≡ None → refusal_by_tables at slot c m ≡ None → IsReady keys at c m
  ready form tables =
      let p = form_none at c form in
      let live = live_by at slot c m tables in
      record {
        targets = λ t h. found_target c.term refl t h;
        place = held_place at refl live;
        moved = λ t e _. held_moved t e (place_of (term m t)) refl;
        stays = stays_by at c p c.term refl;
        root = held_root;
      }

  pub ready_new : refusal_by_form at c ≡ None → HoldsNew keys slot c
  ready_new form = λ e. held_slot (adds at c (form_none at c form) e) e slot refl
