-- What a decision on a termination says of it.
use Rattle.std.proofs.Common.{nat_eq, ◌≡◌, Bool, true, false, List, [], Option, None, Some, Result, Ok, Err, refl, sym, ap, subst, ◌∙◌}
use Rattle.std.specs.Prelude.{if◌then◌else◌}
use Rattle.gw_base.specs.declared.code.Code.{Code}
use Rattle.gw_base.specs.declared.code.Code.TheVariants.{NotInContext, AlreadyInContext, ContextFull}
use Rattle.gw_base.specs.declared.ids.CtxNum.{CtxNum}
use Rattle.gw_base.specs.declared.command_words.Rules.{Rules}
use Rattle.gw_base.specs.declared.command_words.Service.{Service}
use Rattle.gw_base.specs.declared.command_words.Verb.{Verb}
use Rattle.gw_base.specs.declared.command_words.Verb.TheVariants.{Add, Modify, Move, Subtract, AuditValue, AuditCapability, Notify, ServiceChange}
use Rattle.gw_base.proofs.NameTests.{same_number}
use Rattle.gw_desc.specs.declared.descriptor.Descriptor.{Descriptor}
use Rattle.gw_msg.specs.declared.message.Command.{Command}
use Rattle.gw_term.specs.declared.record.Termination.{Termination}
use Rattle.gw_term.specs.Limits.{HasFew}
use Rattle.gw_term.specs.Merge.{merged, filled_by}
use Rattle.gw_term.specs.Record.{placed, serviced}
use Rattle.gw_term.proofs.ByField.{by_field}
use Rattle.gw_term.proofs.FewProperties.{merged_few}
use Rattle.gw_table.specs.Maps.{Maps}
use Rattle.gw_cmd.specs.declared.change.Change.{Change}
use Rattle.gw_cmd.specs.declared.change.Change.TheVariants.{Stays, Becomes, Joins, Crosses, Leaves}
use Rattle.gw_cmd.specs.declared.change.Decided.{Decided}
use Rattle.gw_refusal.specs.Requested.{is_move}
use Rattle.gw_cmd.specs.Effects.{Merged, merged_in, merging_to, merging, refusal_to_add, refusal_to_move, refusal_elsewhere, joins, added, crosses, moved, becomes, modified, unless, what_remains, after_change, service_changed, decided_in, decided_in_null, is_full, decided}
use Rattle.gw_refusal.specs.Places.{same_place}

-- the record of the same termination, which has as few properties
pub record IsRewritten (old new : Termination) : Type 0 where
  pub slot : new.slot ≡ old.slot
  pub few : HasFew old → HasFew new

-- what a change says of the termination that it is for, in the action's place
abbrev pub Lawful : Rules → Verb → Option CtxNum → Termination → Change → Maps → Type 0
Lawful rules v place r Stays m = Unit {0}
Lawful rules v place r (Becomes new) m = (r.place ≡ place) × (new.place ≡ place) × IsRewritten r new
Lawful rules v place r (Joins n new) m = (place ≡ Some n) × (r.place ≡ None) × (new.place ≡ Some n) × IsRewritten r new × (is_full rules n m ≡ false)
Lawful rules v place r (Crosses p n new) m = (place ≡ Some n) × (r.place ≡ Some p) × (nat_eq p.0 n.0 ≡ false) × (new.place ≡ Some n) × IsRewritten r new × (is_full rules n m ≡ false) × (is_move v ≡ true)
Lawful rules v place r (Leaves n o) m = (place ≡ Some n) × (r.place ≡ Some n) × (o ≡ what_remains r)

pub same_there : (a b : Option CtxNum) → same_place a b ≡ true → a ≡ b
same_there None None h = refl
same_there None (Some b) h = absurd cc
same_there (Some a) None h = absurd cc
same_there (Some a) (Some b) h = ap (λ k. Some k) (same_number a b h)

-- ---- refusals that do not come

pub elsewhere_none : (place there : Option CtxNum) → refusal_elsewhere place there ≡ None → there ≡ place
elsewhere_none place there h = at (same_place there place) refl h
  where
    at : (b : Bool) → same_place there place ≡ b → (if b then None else Some NotInContext) ≡ None → there ≡ place
    at true e f = same_there there place e
    at false e f = absurd cc

add_none : (full : Bool) (place : Option CtxNum) → refusal_to_add full place ≡ None → (place ≡ None) × (full ≡ false)
add_none true None h = absurd cc
add_none false None h = (refl, refl)
add_none full (Some p) h = absurd cc

pub record Moves (full : Bool) (n p : CtxNum) : Type 0 where
  pub apart : nat_eq p.0 n.0 ≡ false
  pub room : full ≡ false

move_none : (full : Bool) (n p : CtxNum) → refusal_to_move full n (Some p) ≡ None → Moves full n p
move_none full n p h = at (nat_eq p.0 n.0) full refl refl h
  where
    at : (b f : Bool) → nat_eq p.0 n.0 ≡ b → full ≡ f → (if b then Some AlreadyInContext else if f then Some ContextFull else None) ≡ None → Moves full n p
    at true f e g k = absurd cc
    at false true e g k = absurd cc
    at false false e g k = record { apart = e; room = g }

-- ---- merges

few_placed : (r : Termination) (place : Option CtxNum) → HasFew r → HasFew (placed r place)
few_placed r place f = record { properties = f.properties; streams = f.streams }

pub few_serviced : (s : Service) (r : Termination) → HasFew r → HasFew (serviced r s)
few_serviced s r f = record { properties = f.properties; streams = f.streams }

record IsMerged (old : Termination) (place : Option CtxNum) (refused : Option Code) (m : Merged) : Type 0 where
  allowed : refused ≡ None
  there : m.record_after.place ≡ place
  rewritten : IsRewritten old m.record_after

merging_is : (rules : Rules) (ds : List Descriptor) (old : Termination) (place : Option CtxNum) (refused : Option Code) (m : Merged) → merging rules ds old place refused ≡ Ok m → IsMerged old place refused m
unfolding merging
merging_is rules ds old place refused m h = at (merged rules ds old) refl refused refl h
  where
    at : (o : Option Termination) → merged rules ds old ≡ o → (x : Option Code) → refused ≡ x → merging_to rules ds old place x o ≡ Ok m → IsMerged old place refused m
    at None e x f g = absurd cc
    at (Some new) e (Some code) f g = absurd cc
    at (Some new) e None f g =
        let same : placed new place ≡ m.record_after = let whole : Ok m ≡ merged_in ds (filled_by rules ds old) None (placed new place) = sym g in cc in
        let fields = by_field rules ds old new e in
        record {
          allowed = f;
          there = ap (λ (r : Termination). r.place) (sym same);
          rewritten = record {
            slot = ap (λ (r : Termination). r.slot) (sym same) ∙ fields.slot;
            few = λ p. subst HasFew same (few_placed new place (merged_few rules ds old new p e));
          };
        }

-- ---- each command

added_lawful : (rules : Rules) (ds : List Descriptor) (n : CtxNum) (r : Termination) (m : Maps) (v : Verb) (d : Decided) → added rules ds (is_full rules n m) n r ≡ Ok d → Lawful rules v (Some n) r d.change m
added_lawful rules ds n r m v d h = at (merging rules ds r (Some n) (refusal_to_add (is_full rules n m) r.place)) refl h
  where
    at : (x : Result Merged Code) → merging rules ds r (Some n) (refusal_to_add (is_full rules n m) r.place) ≡ x → joins n x ≡ Ok d → Lawful rules v (Some n) r d.change m
    at (Err code) e g = absurd cc
    at (Ok mm) e g =
        let is = merging_is rules ds r (Some n) (refusal_to_add (is_full rules n m) r.place) mm e in
        let free = add_none (is_full rules n m) r.place is.allowed in
        let same : Joins n mm.record_after ≡ d.change = cc in
        subst (λ (x : Change). Lawful rules v (Some n) r x m) same (refl, free.0, is.there, is.rewritten, free.1)

moved_lawful : (rules : Rules) (ds : List Descriptor) (n : CtxNum) (r : Termination) (m : Maps) (d : Decided) → moved rules ds (is_full rules n m) n r ≡ Ok d → Lawful rules Move (Some n) r d.change m
moved_lawful rules ds n r m d h = at (merging rules ds r (Some n) (refusal_to_move (is_full rules n m) n r.place)) refl r.place refl h
  where
    at : (x : Result Merged Code) → merging rules ds r (Some n) (refusal_to_move (is_full rules n m) n r.place) ≡ x → (o : Option CtxNum) → r.place ≡ o → crosses o n x ≡ Ok d → Lawful rules Move (Some n) r d.change m
    at (Err code) e o i g = absurd cc
    at (Ok mm) e None i g = absurd cc
    at (Ok mm) e (Some p) i g =
        let is = merging_is rules ds r (Some n) (refusal_to_move (is_full rules n m) n r.place) mm e in
        let free = move_none (is_full rules n m) n p (ap (λ o. refusal_to_move (is_full rules n m) n o) (sym i) ∙ is.allowed) in
        let same : Crosses p n mm.record_after ≡ d.change = cc in
        subst (λ (x : Change). Lawful rules Move (Some n) r x m) same (refl, i, free.apart, is.there, is.rewritten, free.room, refl)

modified_lawful : (rules : Rules) (ds : List Descriptor) (place : Option CtxNum) (r : Termination) (m : Maps) (v : Verb) (d : Decided) → modified rules ds place r ≡ Ok d → Lawful rules v place r d.change m
modified_lawful rules ds place r m v d h = at (merging rules ds r place (refusal_elsewhere place r.place)) refl h
  where
    at : (x : Result Merged Code) → merging rules ds r place (refusal_elsewhere place r.place) ≡ x → becomes x ≡ Ok d → Lawful rules v place r d.change m
    at (Err code) e g = absurd cc
    at (Ok mm) e g =
        let is = merging_is rules ds r place (refusal_elsewhere place r.place) mm e in
        let same : Becomes mm.record_after ≡ d.change = cc in
        subst (λ (x : Change). Lawful rules v place r x m) same (elsewhere_none place r.place is.allowed, is.there, is.rewritten)

unless_lawful : (rules : Rules) (place : Option CtxNum) (r : Termination) (m : Maps) (v : Verb) (made d : Decided) → (r.place ≡ place → Lawful rules v place r made.change m) → unless (refusal_elsewhere place r.place) made ≡ Ok d → Lawful rules v place r d.change m
unless_lawful rules place r m v made d law h = at (refusal_elsewhere place r.place) refl h
  where
    at : (x : Option Code) → refusal_elsewhere place r.place ≡ x → unless x made ≡ Ok d → Lawful rules v place r d.change m
    at (Some code) e g = absurd cc
    at None e g = let same : made ≡ d = cc in subst (λ (x : Decided). Lawful rules v place r x.change m) same (law (elsewhere_none place r.place e))

changed_lawful : (rules : Rules) (ds : List Descriptor) (place : Option CtxNum) (r : Termination) (m : Maps) (v : Verb) (d : Decided) → service_changed ds place r ≡ Ok d → Lawful rules v place r d.change m
changed_lawful rules ds place r m v d h =
    unless_lawful rules place r m v (record { change = Becomes (after_change ds r); parts = [] }) d
    (λ there. (there, there, record { slot = refl; few = few_serviced _ r })) h

in_lawful : (rules : Rules) (v : Verb) (ds : List Descriptor) (n : CtxNum) (r : Termination) (m : Maps) (d : Decided) → decided_in rules v ds (is_full rules n m) n r ≡ Ok d → Lawful rules v (Some n) r d.change m
in_lawful rules Add ds n r m d h = added_lawful rules ds n r m Add d h
in_lawful rules Move ds n r m d h = moved_lawful rules ds n r m d h
in_lawful rules Modify ds n r m d h = modified_lawful rules ds (Some n) r m Modify d h
in_lawful rules Subtract ds n r m d h = unless_lawful rules (Some n) r m Subtract _ d (λ there. (refl, there, refl)) h
in_lawful rules AuditValue ds n r m d h = unless_lawful rules (Some n) r m AuditValue _ d (λ there. tt) h
in_lawful rules ServiceChange ds n r m d h = changed_lawful rules ds (Some n) r m ServiceChange d h
in_lawful rules AuditCapability ds n r m d h = absurd cc
in_lawful rules Notify ds n r m d h = absurd cc

null_lawful : (rules : Rules) (v : Verb) (ds : List Descriptor) (r : Termination) (m : Maps) (d : Decided) → decided_in_null rules v ds r ≡ Ok d → Lawful rules v None r d.change m
null_lawful rules Modify ds r m d h = modified_lawful rules ds None r m Modify d h
null_lawful rules AuditValue ds r m d h = unless_lawful rules None r m AuditValue _ d (λ there. tt) h
null_lawful rules ServiceChange ds r m d h = changed_lawful rules ds None r m ServiceChange d h
null_lawful rules Add ds r m d h = absurd cc
null_lawful rules Move ds r m d h = absurd cc
null_lawful rules Subtract ds r m d h = absurd cc
null_lawful rules AuditCapability ds r m d h = absurd cc
null_lawful rules Notify ds r m d h = absurd cc

pub decided_lawful : (rules : Rules) (place : Option CtxNum) (c : Command) (m : Maps) (r : Termination) (d : Decided) → decided rules place c m r ≡ Ok d → Lawful rules c.verb place r d.change m
decided_lawful rules None c m r d h = null_lawful rules c.verb c.descriptors r m d h
decided_lawful rules (Some n) c m r d h = in_lawful rules c.verb c.descriptors n r m d h

-- what is decided of a Move that is not refused
pub moved_is : (rules : Rules) (ds : List Descriptor) (n : CtxNum) (r : Termination) (m : Maps) (d : Decided) → moved rules ds (is_full rules n m) n r ≡ Ok d → (p : CtxNum) × (new : Termination) × (d.change ≡ Crosses p n new) × (new.place ≡ Some n)
moved_is rules ds n r m d h = at (merging rules ds r (Some n) (refusal_to_move (is_full rules n m) n r.place)) refl r.place h
  where
    at : (x : Result Merged Code) → merging rules ds r (Some n) (refusal_to_move (is_full rules n m) n r.place) ≡ x → (o : Option CtxNum) → crosses o n x ≡ Ok d → (p : CtxNum) × (new : Termination) × (d.change ≡ Crosses p n new) × (new.place ≡ Some n)
    at (Err code) e o g = absurd cc
    at (Ok mm) e None g = absurd cc
    at (Ok mm) e (Some p) g =
        let same : Crosses p n mm.record_after ≡ d.change = cc in
        (p, mm.record_after, sym same, (merging_is rules ds r (Some n) (refusal_to_move (is_full rules n m) n r.place) mm e).there)
