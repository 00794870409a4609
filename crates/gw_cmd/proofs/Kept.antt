-- What each change of a termination keeps, commands keep.
use Rattle.std.proofs.Common.{◌≡◌, ℕ, Bool, true, List, [], ◌∷◌, Option, None, Some, is_some, Result, Ok, Err, refl}
use Rattle.gw_base.specs.declared.code.Code.{Code}
use Rattle.gw_base.specs.declared.ids.CtxNum.{CtxNum}
use Rattle.gw_base.specs.declared.command_words.Rules.{Rules}
use Rattle.gw_base.specs.declared.command_words.Service.{Service}
use Rattle.gw_base.specs.declared.command_words.Verb.{Verb}
use Rattle.gw_base.specs.declared.command_words.Verb.TheVariants.{Add, Modify, Move, Subtract, AuditValue, AuditCapability, Notify, ServiceChange}
use Rattle.gw_base.specs.declared.term_ref.TermRef.{TermRef}
use Rattle.gw_base.specs.declared.term_ref.TermRef.TheVariants.{Root, All, Under, Choose, Name, Other}
use Rattle.gw_desc.specs.declared.descriptor.Descriptor.{Descriptor}
use Rattle.gw_msg.specs.declared.message.Command.{Command}
use Rattle.gw_term.specs.declared.record.Termination.{Termination}
use Rattle.gw_term.specs.Record.{ephemeral, serviced}
use Rattle.gw_table.specs.Maps.{Maps, Outcome, term, names}
use Rattle.gw_table.specs.Reserved.{slot_name}
use Rattle.gw_table.proofs.Folding.{kept}
use Rattle.gw_refusal.specs.declared.at.At.{At}
use Rattle.gw_cmd.specs.declared.change.Change.{Change}
use Rattle.gw_cmd.specs.declared.change.Change.TheVariants.{Becomes}
use Rattle.gw_cmd.specs.declared.change.Decided.{Decided}
use Rattle.gw_cmd.specs.declared.outcome.CmdOutcome.{CmdOutcome}
use Rattle.gw_refusal.specs.Requested.{requested_service}
use Rattle.gw_table.specs.Members.{put_service}
use Rattle.gw_cmd.specs.Commands.{on_target, on_names, on_new, all_serviced, serviced_if, root_maps, executed, unless_refused, command}
use Rattle.gw_cmd.specs.Effects.{decided, done, on_record, on_found, on_name}
use Rattle.gw_cmd.specs.Changes.{changed}
use Rattle.gw_refusal.specs.Places.{place_at}
use Rattle.gw_cmd.specs.Refusals.{refusal}
use Rattle.gw_cmd.specs.Suits.{IsUnused}
use Rattle.gw_refusal.specs.Targets.{targets}
use Rattle.gw_cmd.proofs.Lawful.{few_serviced, Lawful, decided_lawful}

-- a termination that has this record, or is made with it in a slot
pub data IsKnown (makes : ℕ → Type 0) (t : List ℕ) (r : Termination) (m : Maps) : Type 0 where
  Found : term m t ≡ Some r → IsKnown makes t r m
  Made : (s : ℕ) → t ≡ slot_name s → r ≡ ephemeral s → term m t ≡ None → makes s → IsKnown makes t r m

-- what lawful changes keep, of terminations whose names pass
pub record IsKept (rules : Rules) (passes : List ℕ → Bool) (makes : ℕ → Type 0) (P : Maps → Type 0) : Type 0 where
  pub changes : (v : Verb) (place : Option CtxNum) (t : List ℕ) (r : Termination) (change : Change) (m : Maps) → P m → passes t ≡ true → IsKnown makes t r m → Lawful rules v place r change m → P (changed t change m)

-- the slot may be used
abbrev pub MayMake : (ℕ → Type 0) → Option ℕ → Type 0
MayMake makes None = Unit {0}
MayMake makes (Some slot) = makes slot

module _ {P : Maps → Type 0} (rules : Rules) (passes : List ℕ → Bool) (makes : ℕ → Type 0) (k : IsKept rules passes makes P) where
  kept_done : (v : Verb) (place : Option CtxNum) (t : List ℕ) (r : Termination) (m : Maps) (x : Result Decided Code) → passes t ≡ true → IsKnown makes t r m → ((d : Decided) → x ≡ Ok d → Lawful rules v place r d.change m) → P m → P (done t m x).maps
  kept_done v place t r m (Err code) h i l p = p
  kept_done v place t r m (Ok d) h i l p = k.changes v place t r d.change m p h i (l d refl)

  pub kept_record : (place : Option CtxNum) (c : Command) (t : List ℕ) (r : Termination) (m : Maps) → passes t ≡ true → IsKnown makes t r m → P m → P (on_record rules place c t r m).maps
  unfolding on_record
  kept_record place c t r m h i p = kept_done c.verb place t r m (decided rules place c m r) h i (λ d e. decided_lawful rules place c m r d e) p

  kept_found : (place : Option CtxNum) (c : Command) (t : List ℕ) (m : Maps) (o : Option Termination) → term m t ≡ o → (is_some o ≡ true → passes t ≡ true) → P m → P (on_found rules place c t o m).maps
  kept_found place c t m None e h p = p
  kept_found place c t m (Some r) e h p = kept_record place c t r m (h refl) (Found e) p

  pub kept_name : (place : Option CtxNum) (c : Command) (t : List ℕ) (m : Maps) → (is_some (term m t) ≡ true → passes t ≡ true) → P m → P (on_name rules place c t m).maps
  kept_name place c t m h p = kept_found place c t m (term m t) refl h p

  pub kept_service : (s : Service) (t : List ℕ) (m : Maps) (o : Option Termination) → term m t ≡ o → passes t ≡ true → P m → P (put_service s t m o)
  kept_service s t m None e h p = p
  kept_service s t m (Some r) e h p = k.changes ServiceChange r.place t r (Becomes (serviced r s)) m p h (Found e) (refl, refl, record { slot = refl; few = few_serviced s r })

  kept_all : (s : Service) (ts : List (List ℕ)) (m : Maps) → ((t : List ℕ) → passes t ≡ true) → P m → P (all_serviced s ts m)
  kept_all s [] m h p = p
  kept_all s (t ∷ ts) m h p = kept_all s ts (put_service s t m (term m t)) h (kept_service s t m (term m t) refl (h t) p)

  kept_if : (o : Option Service) (m : Maps) → ((t : List ℕ) → passes t ≡ true) → P m → P (serviced_if o m)
  kept_if None m h p = p
  kept_if (Some s) m h p = kept_all s (names m) m h p

  kept_root : (v : Verb) (ds : List Descriptor) (m : Maps) → ((t : List ℕ) → passes t ≡ true) → P m → P (root_maps v ds m)
  kept_root ServiceChange ds m h p = kept_if (requested_service ds) m h p
  kept_root Add ds m h p = p
  kept_root Modify ds m h p = p
  kept_root Move ds m h p = p
  kept_root Subtract ds m h p = p
  kept_root AuditValue ds m h p = p
  kept_root AuditCapability ds m h p = p
  kept_root Notify ds m h p = p

  kept_new : (at : At) (c : Command) (slot : Option ℕ) (m : Maps) → ((t : List ℕ) → passes t ≡ true) → IsUnused slot m → MayMake makes slot → P m → P (on_new rules at c slot m).maps
  kept_new at c None m h u a p = p
  kept_new at c (Some s) m h u a p = kept_record (place_at at) c (slot_name s) (ephemeral s) m (h (slot_name s)) (Made s refl refl u a) p

  kept_names : (at : At) (c : Command) (m : Maps) → ((t : List ℕ) → passes t ≡ true) → P m → P (on_names rules at c m).maps
  kept_names at c m h p = kept (on_target rules at c) P (λ s t n q. kept_name (place_at at) c t n (λ _. h t) q) tt (targets at c m) m p

  kept_executed : (at : At) (slot : Option ℕ) (c : Command) (m : Maps) (r : TermRef) → ((t : List ℕ) → passes t ≡ true) → IsUnused slot m → MayMake makes slot → P m → P (executed rules at slot c m r).maps
  kept_executed at slot c m Root h u a p = kept_root c.verb c.descriptors m h p
  kept_executed at slot c m Choose h u a p = kept_new at c slot m h u a p
  kept_executed at slot c m (Name t) h u a p = kept_names at c m h p
  kept_executed at slot c m All h u a p = kept_names at c m h p
  kept_executed at slot c m (Under prefix) h u a p = kept_names at c m h p
  kept_executed at slot c m (Other text) h u a p = kept_names at c m h p

  kept_unless : (o : Option Code) (at : At) (c : Command) (m : Maps) (x : Outcome CmdOutcome) → P m → P x.maps → P (unless_refused o at c m x).maps
  kept_unless (Some code) at c m x p q = p
  kept_unless None at c m x p q = q

  pub kept_command : (at : At) (slot : Option ℕ) (c : Command) (m : Maps) → ((t : List ℕ) → passes t ≡ true) → IsUnused slot m → MayMake makes slot → P m → P (command rules at slot c m).maps
  unfolding command
  kept_command at slot c m h u a p = kept_unless (refusal at slot c m) at c m (executed rules at slot c m c.term) p (kept_executed at slot c m c.term h u a p)
