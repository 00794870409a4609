-- A command's reads and writes stay within its keys, on well-formed maps.
use Rattle.std.proofs.Common.{◌≡◌, ℕ, true, false, inl, inr, List, [], ◌∷◌, ◌++◌, Option, None, Some, bytes_eq, Result, Ok, Err, refl, sym, ap, subst, ◌∙◌}
use Rattle.gw_base.specs.declared.code.Code.{Code}
use Rattle.gw_base.specs.declared.ids.CtxNum.{CtxNum}
use Rattle.gw_base.specs.declared.command_words.Rules.{Rules}
use Rattle.gw_base.specs.declared.command_words.Service.{Service}
use Rattle.gw_base.specs.declared.command_words.Verb.{Verb}
use Rattle.gw_base.specs.declared.key.Key.{Key}
use Rattle.gw_base.specs.declared.key.Key.TheVariants.{Term, Ctx}
use Rattle.gw_base.specs.declared.term_ref.TermRef.TheVariants.{Name}
use Rattle.gw_base.specs.Keys.{has}
use Rattle.gw_base.specs.NameLists.{is_in}
use Rattle.gw_base.proofs.NameTests.{same_name}
use Rattle.gw_base.proofs.NamesInLists.{either, or_left, or_right, itself, in_pushed, in_without}
use Rattle.gw_ctx.specs.Contexts.{ContextRecord, left}
use Rattle.gw_msg.specs.declared.message.Command.{Command}
use Rattle.gw_reply.specs.declared.parts.ReplyPart.{ReplyPart}
use Rattle.gw_term.specs.declared.record.Termination.{Termination}
use Rattle.gw_term.specs.Record.{ephemeral, serviced}
use Rattle.gw_table.specs.Accesses.{Done, effect, and_then, NewIn, NewPlace, Within}
use Rattle.gw_table.specs.Maps.{Maps, Outcome, term, ctx, put_term, place_of, context_of, members_of}
use Rattle.gw_table.specs.Parts.{Only, HoldsPlace}
use Rattle.gw_table.specs.Reserved.{slot_name}
use Rattle.gw_table.proofs.Frames.{within-then}
use Rattle.gw_refusal.specs.declared.at.At.{At}
use Rattle.gw_cmd.specs.declared.change.Change.{Change}
use Rattle.gw_cmd.specs.declared.change.Change.TheVariants.{Stays, Becomes, Joins, Crosses, Leaves}
use Rattle.gw_cmd.specs.declared.change.Decided.{Decided}
use Rattle.gw_refusal.specs.Requested.{is_move}
use Rattle.gw_cmd.specs.Commands as commands
use Rattle.gw_cmd.specs.Effects.{decided, decided_in_null}
use Rattle.gw_table.specs.Members.{unless_empty}
use Rattle.gw_refusal.specs.Places.{place_at}
use Rattle.gw_cmd.proofs.KeptSound.{nowhere_after}
use Rattle.gw_cmd.proofs.Lawful.{Lawful, decided_lawful}
use Rattle.gw_cmd.proofs.Programs.{make, finish, of_record, of_found, of_name, of_names, of_services, of_service}
use Rattle.gw_cmd.proofs.Sound.{members-unless_empty}

-- ---- one termination

new_in_joined : (keys : List Key) (t : List ℕ) (l : List (List ℕ)) → has keys (Term t) ≡ true → NewIn keys l (l ++ t ∷ [])
new_in_joined keys t l ht q h = either (in_pushed q t l h) (λ a. inl a) (λ e. inr (subst (λ (y : List ℕ). has keys (Term y) ≡ true) (sym (same_name q t e)) ht))

new_in_left : (keys : List Key) (t : List ℕ) (c : ContextRecord) → NewIn keys c.members (members_of (unless_empty (left t c)))
new_in_left keys t c q h = inl (in_without t q c.members (ap (is_in q) (sym (members-unless_empty (left t c))) ∙ h))

place_is : (keys : List Key) (place : Option CtxNum) (n : CtxNum) → place ≡ Some n → HoldsPlace (Only keys) place → has keys (Ctx n) ≡ true
place_is keys place n e h = subst (HoldsPlace (Only keys)) e h

-- a place that is a key, whichever was before
to_key : (keys : List Key) (old new : Option CtxNum) → HoldsPlace (Only keys) new → NewPlace keys old new
to_key keys old new h c e = inr (place_is keys new c e h)

module _ (keys : List Key) (t : List ℕ) (ht : has keys (Term t) ≡ true) where
  within-make : (rules : Rules) (v : Verb) (place : Option CtxNum) (r : Termination) (change : Change) (a m : Maps) → HoldsPlace (Only keys) place → (is_move v ≡ true → HoldsPlace (Only keys) r.place) → Lawful rules v place r change a → Within keys (make t change) m
  unfolding make
  within-make rules v place r Stays a m hp hm l = tt
  within-make rules v place r (Becomes new) a m hp hm l = (ht, to_key keys (place_of (term m t)) new.place (subst (HoldsPlace (Only keys)) (sym l.1) hp), tt)
  within-make rules v place r (Joins n new) a m hp hm l =
      let hn = place_is keys place n l.0 hp in
      (ht, to_key keys (place_of (term m t)) new.place (subst (HoldsPlace (Only keys)) (sym l.2) hn), (hn, (hn, new_in_joined keys t (members_of (ctx (put_term m t (Some new)) n)) ht, tt)))
  within-make rules v place r (Crosses p n new) a m hp hm l =
      let hn = place_is keys place n l.0 hp in
      let ho = place_is keys r.place p l.1 (hm l.6) in
      (ht, to_key keys (place_of (term m t)) new.place (subst (HoldsPlace (Only keys)) (sym l.3) hn), (ho, (ho, new_in_left keys t (context_of (ctx (put_term m t (Some new)) p)), (hn, (hn, new_in_joined keys t _ ht, tt)))))
  within-make rules v place r (Leaves n o) a m hp hm l =
      let hn = place_is keys place n l.0 hp in
      (ht, to_key keys (place_of (term m t)) (place_of o) (subst (HoldsPlace (Only keys)) (sym (nowhere_after r o l.2)) tt), (hn, (hn, new_in_left keys t (context_of (ctx (put_term m t o) n)), tt)))

  within-finish : (rules : Rules) (v : Verb) (place : Option CtxNum) (r : Termination) (x : Result Decided Code) (a m : Maps) → HoldsPlace (Only keys) place → (is_move v ≡ true → HoldsPlace (Only keys) r.place) → ((d : Decided) → x ≡ Ok d → Lawful rules v place r d.change a) → Within keys (finish t x) m
  within-finish rules v place r (Err code) a m hp hm l = tt
  within-finish rules v place r (Ok d) a m hp hm l = within-then keys (make t d.change) (λ _. Done (Ok d.parts)) m (within-make rules v place r d.change a m hp hm (l d refl)) tt

  within-record : (rules : Rules) (place : Option CtxNum) (c : Command) (r : Termination) (m : Maps) → HoldsPlace (Only keys) place → (is_move c.verb ≡ true → HoldsPlace (Only keys) r.place) → Within keys (of_record rules place c t r) m
  within-record rules None c r m hp hm = within-finish rules c.verb None r (decided_in_null rules c.verb c.descriptors r) m m hp hm (λ d e. decided_lawful rules None c m r d e)
  within-record rules (Some n) c r m hp hm = (hp, within-finish rules c.verb (Some n) r (decided rules (Some n) c m r) m m hp hm (λ d e. decided_lawful rules (Some n) c m r d e))

  within-found : (rules : Rules) (place : Option CtxNum) (c : Command) (o : Option Termination) (m : Maps) → HoldsPlace (Only keys) place → (is_move c.verb ≡ true → HoldsPlace (Only keys) (place_of o)) → Within keys (of_found rules place c t o) m
  within-found rules place c None m hp hm = tt
  within-found rules place c (Some r) m hp hm = within-record rules place c r m hp hm

  pub within-name : (rules : Rules) (place : Option CtxNum) (c : Command) (m : Maps) → HoldsPlace (Only keys) place → (is_move c.verb ≡ true → HoldsPlace (Only keys) (place_of (term m t))) → Within keys (of_name rules place c t) m
  within-name rules place c m hp hm = (ht, within-found rules place c (term m t) m hp hm)

-- a termination that is made was nowhere
pub within-new : (keys : List Key) (rules : Rules) (place : Option CtxNum) (c : Command) (slot : ℕ) (m : Maps) → has keys (Term (slot_name slot)) ≡ true → HoldsPlace (Only keys) place → Within keys (of_record rules place c (slot_name slot) (ephemeral slot)) m
within-new keys rules place c slot m ht hp = within-record keys (slot_name slot) ht rules place c (ephemeral slot) m hp (λ _. tt)

-- ---- several; a Move has one

each_in : (keys : List Key) (t : List ℕ) (ts : List (List ℕ)) → ((q : List ℕ) → is_in q (t ∷ ts) ≡ true → has keys (Term q) ≡ true) → has keys (Term t) ≡ true
each_in keys t ts h = h t (or_left (bytes_eq t t) (is_in t ts) (itself t))

pub within-names : (keys : List Key) (rules : Rules) (at : At) (c : Command) (ts : List (List ℕ)) (m : Maps) → HoldsPlace (Only keys) (place_at at) → is_move c.verb ≡ false → ((q : List ℕ) → is_in q ts ≡ true → has keys (Term q) ≡ true) → Within keys (of_names rules at c ts) m
within-names keys rules at c [] m hp hm h = tt
within-names keys rules at c (t ∷ ts) m hp hm h =
    within-then keys (of_name rules (place_at at) c t) (λ x. and_then (of_names rules at c ts) (λ rs. Done (commands.reply c (Name t) x ∷ rs))) m
    (within-name keys t (each_in keys t ts h) rules (place_at at) c m hp (λ e. absurd (let clash : true ≡ false = sym e ∙ hm in cc)))
    (let now : Outcome (Result (List ReplyPart) Code) = effect (of_name rules (place_at at) c t) m in
    within-then keys (of_names rules at c ts) (λ rs. Done (commands.reply c (Name t) now.answer ∷ rs)) now.maps
    (within-names keys rules at c ts now.maps hp hm (λ q i. h q (or_right (bytes_eq q t) (is_in q ts) i))) tt)

pub within-one : (keys : List Key) (rules : Rules) (at : At) (c : Command) (t : List ℕ) (m : Maps) → HoldsPlace (Only keys) (place_at at) → has keys (Term t) ≡ true → (is_move c.verb ≡ true → HoldsPlace (Only keys) (place_of (term m t))) → Within keys (of_names rules at c (t ∷ [])) m
within-one keys rules at c t m hp ht hm =
    within-then keys (of_name rules (place_at at) c t) (λ x. and_then (of_names rules at c []) (λ rs. Done (commands.reply c (Name t) x ∷ rs))) m
    (within-name keys t ht rules (place_at at) c m hp hm) tt

-- ---- all of them: a record that gets another service state stays where it is

pub within-services : (keys : List Key) (s : Service) (ts : List (List ℕ)) (m : Maps) → ((q : List ℕ) → is_in q ts ≡ true → has keys (Term q) ≡ true) → Within keys (of_services s ts) m
within-services keys s [] m h = tt
within-services keys s (t ∷ ts) m h = (each_in keys t ts h, by (term m t) refl (λ n. within-services keys s ts n (λ q i. h q (or_right (bytes_eq q t) (is_in q ts) i))))
  where
    by : (o : Option Termination) → term m t ≡ o → ((n : Maps) → Within keys (of_services s ts) n) → Within keys (of_service s t o (of_services s ts)) m
    by None e later = later m
    by (Some r) e later = (each_in keys t ts h, λ c i. inl (ap (λ o. place_of o) e ∙ i), later (put_term m t (Some (serviced r s))))
