-- What a command does to a part that has its keys: what each change of a termination keeps there, the command keeps.
use Rattle.std.proofs.Common.{◌≡◌, ℕ, true, false, List, [], ◌∷◌, bytes_eq, Option, None, Some, is_some, Result, Ok, Err, refl, sym, ap, ◌∙◌}
use Rattle.std.specs.Prelude.{◌≢◌}
use Rattle.gw_base.specs.declared.code.Code.{Code}
use Rattle.gw_base.specs.declared.ids.CtxNum.{CtxNum}
use Rattle.gw_base.specs.declared.command_words.Rules.{Rules}
use Rattle.gw_base.specs.declared.command_words.Service.{Service}
use Rattle.gw_base.specs.declared.command_words.Verb.{Verb}
use Rattle.gw_base.specs.declared.command_words.Verb.TheVariants.{Add, Modify, Move, Subtract, AuditValue, AuditCapability, Notify, ServiceChange}
use Rattle.gw_base.specs.declared.key.Key.TheVariants.{Term}
use Rattle.gw_base.specs.declared.term_ref.TermRef.{TermRef}
use Rattle.gw_base.specs.declared.term_ref.TermRef.TheVariants.{Root, All, Under, Choose, Name, Other}
use Rattle.gw_base.specs.NameLists.{is_in}
use Rattle.gw_base.proofs.NamesInLists.{or_left, or_right, itself}
use Rattle.gw_desc.specs.declared.descriptor.Descriptor.{Descriptor}
use Rattle.gw_msg.specs.declared.message.Command.{Command}
use Rattle.gw_term.specs.declared.record.Termination.{Termination}
use Rattle.gw_term.specs.Record.{ephemeral, serviced}
use Rattle.gw_table.specs.Folds.{in_order}
use Rattle.gw_table.specs.Maps.{Maps, term, names}
use Rattle.gw_table.specs.Members.{put_service}
use Rattle.gw_table.specs.Parts.{PartKeys, holds, Holds}
use Rattle.gw_table.specs.Reserved.{slot_name}
use Rattle.gw_refusal.specs.declared.at.At.{At}
use Rattle.gw_refusal.specs.Requested.{requested_service}
use Rattle.gw_refusal.specs.Forms.{refusal_by_form}
use Rattle.gw_refusal.specs.Places.{place_at}
use Rattle.gw_refusal.specs.Targets.{targets}
use Rattle.gw_cmd.specs.declared.change.Change.{Change}
use Rattle.gw_cmd.specs.declared.change.Change.TheVariants.{Stays, Becomes, Joins, Crosses, Leaves}
use Rattle.gw_cmd.specs.declared.change.Decided.{Decided}
use Rattle.gw_cmd.specs.Commands.{on_target, on_new, all_serviced, serviced_if, root_maps, executed, unless_refused, command}
use Rattle.gw_cmd.specs.Effects.{decided, done, on_record, on_found, on_name}
use Rattle.gw_cmd.specs.Keys.{command_keys}
use Rattle.gw_cmd.specs.Changes.{changed}
use Rattle.gw_cmd.specs.Refusals.{first_code, refusal_by_tables, refusal}
use Rattle.gw_cmd.specs.Suits.{HoldsFound, HoldsSlot, IsReady, IsUnused}
use Rattle.gw_cmd.proofs.Kept.{IsKnown, Found, Made, MayMake, kept_name}
use Rattle.gw_cmd.proofs.KeptSound.{absent_is_kept}
use Rattle.gw_cmd.proofs.Lawful.{Lawful, decided_lawful, few_serviced}
use Rattle.gw_cmd.proofs.Ready.{ready, ready_new}

-- the context that a change brings its termination into is of a kind
abbrev pub Enters : (CtxNum → Type 0) → Change → Type 0
Enters N Stays = Unit {0}
Enters N (Becomes r) = Unit {0}
Enters N (Joins n r) = N n
Enters N (Crosses p n r) = N n
Enters N (Leaves n o) = Unit {0}

enters : (N : CtxNum → Type 0) (rules : Rules) (v : Verb) (place : Option CtxNum) (r : Termination) (change : Change) (m : Maps) → ((n : CtxNum) → place ≡ Some n → N n) → Lawful rules v place r change m → Enters N change
enters N rules v place r Stays m h l = tt
enters N rules v place r (Becomes new) m h l = tt
enters N rules v place r (Joins n new) m h l = h n l.0
enters N rules v place r (Crosses p n new) m h l = h n l.0
enters N rules v place r (Leaves n o) m h l = tt

-- what lawful changes keep, of terminations whose keys a part has, that go to contexts of a kind
pub record IsKeptOn (rules : Rules) (keys : PartKeys) (N : CtxNum → Type 0) (makes : ℕ → Type 0) (P : Maps → Type 0) : Type 0 where
  pub changes : (v : Verb) (place : Option CtxNum) (t : List ℕ) (r : Termination) (change : Change) (m : Maps) → P m → holds keys (Term t) ≡ true → IsKnown makes t r m → Lawful rules v place r change m → Enters N change → P (changed t change m)

-- a termination that is there now was there before
was_there : (t : List ℕ) (old new : Maps) → (term old t ≡ None → term new t ≡ None) → is_some (term new t) ≡ true → is_some (term old t) ≡ true
was_there t old new absent h = at (term old t) refl
  where
    at : (o : Option Termination) → term old t ≡ o → is_some o ≡ true
    at (Some r) e = refl
    at None e = let clash : false ≡ true = ap (λ (o : Option Termination). is_some o) (sym (absent e)) ∙ h in absurd cc

module _ {P : Maps → Type 0} (rules : Rules) (keys : PartKeys) (N : CtxNum → Type 0) (makes : ℕ → Type 0) (k : IsKeptOn rules keys N makes P) where
  on_done : (v : Verb) (place : Option CtxNum) (t : List ℕ) (r : Termination) (m : Maps) (x : Result Decided Code) → ((n : CtxNum) → place ≡ Some n → N n) → holds keys (Term t) ≡ true → IsKnown makes t r m → ((d : Decided) → x ≡ Ok d → Lawful rules v place r d.change m) → P m → P (done t m x).maps
  on_done v place t r m (Err code) e h i l p = p
  on_done v place t r m (Ok d) e h i l p = k.changes v place t r d.change m p h i (l d refl) (enters N rules v place r d.change m e (l d refl))

  on_its_record : (place : Option CtxNum) (c : Command) (t : List ℕ) (r : Termination) (m : Maps) → ((n : CtxNum) → place ≡ Some n → N n) → holds keys (Term t) ≡ true → IsKnown makes t r m → P m → P (on_record rules place c t r m).maps
  unfolding on_record
  on_its_record place c t r m e h i p = on_done c.verb place t r m (decided rules place c m r) e h i (λ d f. decided_lawful rules place c m r d f) p

  on_it : (place : Option CtxNum) (c : Command) (t : List ℕ) (m : Maps) (o : Option Termination) → term m t ≡ o → ((n : CtxNum) → place ≡ Some n → N n) → (is_some o ≡ true → holds keys (Term t) ≡ true) → P m → P (on_found rules place c t o m).maps
  on_it place c t m None f e h p = p
  on_it place c t m (Some r) f e h p = on_its_record place c t r m e (h refl) (Found f) p

  on_them : (at : At) (c : Command) (ts : List (List ℕ)) (m : Maps) → ((n : CtxNum) → place_at at ≡ Some n → N n) → ((t : List ℕ) → is_in t ts ≡ true → HoldsFound keys t m) → P m → P (in_order (on_target rules at c) tt ts m).maps
  unfolding in_order
  on_them at c [] m e h p = p
  on_them at c (t ∷ ts) m e h p =
      let now : Maps = (on_name rules (place_at at) c t m).maps in
      on_them at c ts now e
      (λ q i f. h q (or_right (bytes_eq q t) (is_in q ts) i) (was_there q m now (λ none. kept_name rules (λ _. true) (λ s. slot_name s ≢ q) (absent_is_kept rules q) (place_at at) c t m (λ _. refl) none) f))
      (on_it (place_at at) c t m (term m t) refl e (h t (or_left (bytes_eq t t) (is_in t ts) (itself t))) p)

  on_service : (s : Service) (t : List ℕ) (m : Maps) (o : Option Termination) → term m t ≡ o → holds keys (Term t) ≡ true → P m → P (put_service s t m o)
  on_service s t m None f h p = p
  on_service s t m (Some r) f h p = k.changes ServiceChange r.place t r (Becomes (serviced r s)) m p h (Found f) (refl, refl, record { slot = refl; few = few_serviced s r }) tt

  on_services : (s : Service) (ts : List (List ℕ)) (m : Maps) → ((t : List ℕ) → is_in t ts ≡ true → holds keys (Term t) ≡ true) → P m → P (all_serviced s ts m)
  on_services s [] m h p = p
  on_services s (t ∷ ts) m h p =
      on_services s ts (put_service s t m (term m t)) (λ q i. h q (or_right (bytes_eq q t) (is_in q ts) i))
      (on_service s t m (term m t) refl (h t (or_left (bytes_eq t t) (is_in t ts) (itself t))) p)

  on_all : (o : Option Service) (m : Maps) → ((t : List ℕ) → is_in t (names m) ≡ true → holds keys (Term t) ≡ true) → P m → P (serviced_if o m)
  on_all None m h p = p
  on_all (Some s) m h p = on_services s (names m) m h p

  on_gateway : (v : Verb) (ds : List Descriptor) (m : Maps) → (v ≡ ServiceChange → (t : List ℕ) → is_in t (names m) ≡ true → holds keys (Term t) ≡ true) → P m → P (root_maps v ds m)
  on_gateway ServiceChange ds m h p = on_all (requested_service ds) m (h refl) p
  on_gateway Add ds m h p = p
  on_gateway Modify ds m h p = p
  on_gateway Move ds m h p = p
  on_gateway Subtract ds m h p = p
  on_gateway AuditValue ds m h p = p
  on_gateway AuditCapability ds m h p = p
  on_gateway Notify ds m h p = p

  on_slot : (at : At) (c : Command) (slot : Option ℕ) (m : Maps) → ((n : CtxNum) → place_at at ≡ Some n → N n) → HoldsSlot keys slot → IsUnused slot m → MayMake makes slot → P m → P (on_new rules at c slot m).maps
  on_slot at c None m e h u a p = p
  on_slot at c (Some s) m e h u a p = on_its_record (place_at at) c (slot_name s) (ephemeral s) m e h (Made s refl refl u a) p

  module _ (at : At) (slot : Option ℕ) (c : Command) (m : Maps) (covered : Holds keys (command_keys at slot c m)) where
    on_executed : (e : (n : CtxNum) → place_at at ≡ Some n → N n) → IsUnused slot m → MayMake makes slot → refusal_by_form at c ≡ None → IsReady keys at c m → (r : TermRef) → c.term ≡ r → P m → P (executed rules at slot c m r).maps
    on_executed e u a f is Root g p = on_gateway c.verb c.descriptors m (λ v. is.root g v) p
    on_executed e u a f is Choose g p = on_slot at c slot m e (ready_new keys at slot c m covered f g) u a p
    on_executed e u a f is (Name t) g p = on_them at c (targets at c m) m e is.targets p
    on_executed e u a f is All g p = on_them at c (targets at c m) m e is.targets p
    on_executed e u a f is (Under prefix) g p = on_them at c (targets at c m) m e is.targets p
    on_executed e u a f is (Other text) g p = on_them at c (targets at c m) m e is.targets p

    pub on_command : (refusal at slot c m ≡ None → (n : CtxNum) → place_at at ≡ Some n → N n) → IsUnused slot m → MayMake makes slot → P m → P (command rules at slot c m).maps
    unfolding command
    on_command e u a p = by (refusal_by_form at c) (refusal_by_tables at slot c m) refl refl
      where
        by : (x y : Option Code) → refusal_by_form at c ≡ x → refusal_by_tables at slot c m ≡ y → P (unless_refused (first_code x y) at c m (executed rules at slot c m c.term)).maps
        by (Some code) y f g = p
        by None (Some code) f g = p
        by None None f g =
            let none : refusal at slot c m ≡ None = ap (λ (x : Option Code). first_code x (refusal_by_tables at slot c m)) f ∙ g in
            on_executed (e none) u a f (ready keys at slot c m covered f g) c.term refl p
