-- What commands keep: the parts that cover them, well-formed tables, and that slots and numbers that are not their
-- own stay free.
use Rattle.std.proofs.Common.{nat_eq, ◌≡◌, ℕ, Bool, true, false, Option, None, Some, is_some, is_none, refl, sym, ap, ◌∙◌}
use Rattle.std.specs.Prelude.{◌≢◌}
use Rattle.gw_base.specs.declared.code.Code.{Code}
use Rattle.gw_base.specs.declared.code.Code.TheVariants.{UnknownContext}
use Rattle.gw_base.specs.declared.ids.CtxNum.{CtxNum}
use Rattle.gw_base.specs.declared.command_words.Rules.{Rules}
use Rattle.gw_base.proofs.Booleans.{refuted}
use Rattle.gw_base.proofs.NameTests.{same_number, number_itself}
use Rattle.gw_ctx.specs.Contexts.{ContextRecord}
use Rattle.gw_desc.specs.Checks.{check_code}
use Rattle.gw_msg.specs.declared.message.Command.{Command}
use Rattle.gw_table.specs.Maps.{Maps, term, ctx}
use Rattle.gw_table.specs.Parts.{PartKeys, Every, Holds}
use Rattle.gw_table.specs.Reserved.{slot_name}
use Rattle.gw_table.specs.WellFormed.{AreWellFormed}
use Rattle.gw_refusal.specs.declared.at.At.{At}
use Rattle.gw_refusal.specs.declared.at.At.TheVariants.{Null, Live, Unmade, Each}
use Rattle.gw_refusal.specs.Forms.{refusal_by_form}
use Rattle.gw_refusal.specs.Places.{place_at}
use Rattle.gw_cmd.specs.Keys.{command_keys}
use Rattle.gw_cmd.specs.Refusals.{has_ended, code_if, missing, first_code, refusal_by_tables, refusal}
use Rattle.gw_cmd.proofs.Covered.{IsKeptOn, on_command}
use Rattle.gw_cmd.proofs.Kept.{MayMake, kept_command}
use Rattle.gw_cmd.proofs.KeptWhole.{whole_is_kept}
use Rattle.gw_cmd.proofs.Parted.{StaysPart, part_kept, ctx-there}
use Rattle.gw_tx.proofs.FreeSlots.{IsOther, IsOfKind, AnySlot, makes_none}
use Rattle.gw_tx.proofs.HeldKeys.{command_stays, made_held, less_held}
use Rattle.gw_tx.proofs.Kept.{CommandsKeep}
use Rattle.gw_tx.proofs.SetProperties.{term-set, stays_part_set, absent_set, whole_set}

any : (slot : Option ℕ) → MayMake (λ _. Unit {0}) slot
any None = tt
any (Some s) = tt

-- every command
abbrev pub Any : At → Option ℕ → Command → Type 0
Any at slot c = Unit {0}

-- a command whose keys in the maps at the start are the part's
abbrev pub IsHeld : PartKeys → Maps → At → Option ℕ → Command → Type 0
IsHeld keys start at slot c = Holds keys (command_keys at slot c start)

pub commands_keep_part : (rules : Rules) (keys : PartKeys) (start : Maps) → CommandsKeep rules (IsHeld keys start) AnySlot (StaysPart keys start)
commands_keep_part rules keys start = record {
  keeps = λ at slot c m o u a q. part_kept rules keys start at slot c m (command_stays keys start m (λ _. q.entries) q.grown at slot c o) u q;
  lives = λ at slot c o. made_held keys at slot c start o;
  less = λ at slot c o. less_held keys at slot c start o;
  sets = λ n p m can q. stays_part_set n p m keys start q;
}

pub commands_keep_whole : (rules : Rules) → CommandsKeep rules Any AnySlot (AreWellFormed rules.members)
commands_keep_whole rules = record {
  keeps = λ at slot c m o u a w. kept_command rules (λ _. true) (λ _. Unit {0}) (whole_is_kept rules (λ _. Unit {0})) at slot c m (λ _. refl) u (any slot) w;
  lives = λ at slot c o. tt;
  less = λ at slot c o. tt;
  sets = λ n p m can w. whole_set rules.members n p m can w;
}

-- ---- a slot

-- the name of another slot than this one
abbrev pub IsNamedOtherThan : ℕ → ℕ → Type 0
IsNamedOtherThan t s = slot_name s ≢ slot_name t

of_kind : (t : ℕ) (slot : Option ℕ) → IsOfKind (IsNamedOtherThan t) slot → IsOther slot t
of_kind t None o = tt
of_kind t (Some s) o = o

-- commands that own other slots leave this one free
pub commands_keep_free : (rules : Rules) (t : ℕ) → CommandsKeep rules Any (IsNamedOtherThan t) (λ m. term m (slot_name t) ≡ None)
commands_keep_free rules t = record {
  keeps = λ at slot c m o u a none. makes_none rules at slot c m u t (of_kind t slot a) none;
  lives = λ at slot c o. tt;
  less = λ at slot c o. tt;
  sets = λ n p m can none. term-set n p m (slot_name t) ∙ none;
}

-- ---- a number

-- the context of this number is not the one that the command may make
abbrev pub MakesOther : CtxNum → At → Option ℕ → Command → Type 0
MakesOther n Null slot c = Unit {0}
MakesOther n (Live k) slot c = Unit {0}
MakesOther n (Unmade k) slot c = nat_eq n.0 k.0 ≡ false
MakesOther n (Each k) slot c = Unit {0}

lives_other : (n : CtxNum) (at : At) (slot : Option ℕ) (c : Command) → MakesOther n at slot c → MakesOther n (Rattle.gw_refusal.specs.Places.made at) slot c
lives_other n Null slot c o = tt
lives_other n (Live k) slot c o = tt
lives_other n (Unmade k) slot c o = tt
lives_other n (Each k) slot c o = tt

less_other : (n : CtxNum) (at : At) (slot : Option ℕ) (c : Command) → MakesOther n at slot c → MakesOther n at None c
less_other n Null slot c o = tt
less_other n (Live k) slot c o = tt
less_other n (Unmade k) slot c o = o
less_other n (Each k) slot c o = tt

-- a command that is not refused is for a context that has not ended
not_ended : (at : At) (slot : Option ℕ) (c : Command) (m : Maps) → refusal at slot c m ≡ None → has_ended at m ≡ false
unfolding refusal_by_tables
not_ended at slot c m h = refuted (has_ended at m) (λ e. by (refusal_by_form at c) (ap (λ (b : Bool). first_code (refusal_by_form at c) (first_code (code_if UnknownContext b) (first_code (missing at slot c m c.term) (check_code c.verb c.descriptors)))) (sym e) ∙ h))
  where
    by : (x : Option Code) → first_code x (Some UnknownContext) ≡ None → ⊥
    by None e = cc
    by (Some code) e = cc

-- another number than that of a context that is there
not_there : (n k : CtxNum) (m : Maps) → ctx m n ≡ None → is_some (ctx m k) ≡ true → nat_eq n.0 k.0 ≡ false
not_there n k m none some = refuted (nat_eq n.0 k.0) (λ e. let clash : true ≡ false = sym some ∙ ap (λ (x : CtxNum). is_some (ctx m x)) (sym (same_number n k e)) ∙ ap (λ (o : Option ContextRecord). is_some o) none in cc)

there : (o : Option ContextRecord) → is_none o ≡ false → is_some o ≡ true
there None e = cc
there (Some c) e = refl

enters_other : (n : CtxNum) (at : At) (slot : Option ℕ) (c : Command) (m : Maps) → MakesOther n at slot c → ctx m n ≡ None → has_ended at m ≡ false → (k : CtxNum) → place_at at ≡ Some k → nat_eq n.0 k.0 ≡ false
enters_other n Null slot c m o none e k i = absurd cc
enters_other n (Live j) slot c m o none e k i = let same : j ≡ k = cc in ap (λ (x : CtxNum). nat_eq n.0 x.0) (sym same) ∙ not_there n j m none (there (ctx m j) e)
enters_other n (Unmade j) slot c m o none e k i = let same : j ≡ k = cc in ap (λ (x : CtxNum). nat_eq n.0 x.0) (sym same) ∙ o
enters_other n (Each j) slot c m o none e k i = let same : j ≡ k = cc in ap (λ (x : CtxNum). nat_eq n.0 x.0) (sym same) ∙ not_there n j m none (there (ctx m j) e)

absent_context : (rules : Rules) (n : CtxNum) → IsKeptOn rules Every (λ k. nat_eq n.0 k.0 ≡ false) (λ _. Unit {0}) (λ m. ctx m n ≡ None)
absent_context rules n = record {
  changes = λ v place t r change m none k i l e.
      at (ctx (Rattle.gw_cmd.specs.Changes.changed t change m) n) (λ some.
      let other : nat_eq n.0 n.0 ≡ false = ctx-there (λ c. nat_eq n.0 c.0 ≡ false) t change m e (λ c h. not_there n c m none h) n some in
      let clash : true ≡ false = sym (number_itself n n refl) ∙ other in
      cc);
}
  where
    at : (o : Option ContextRecord) → (is_some o ≡ true → ⊥) → o ≡ None
    at None h = refl
    at (Some c) h = absurd (h refl)

-- commands that make other contexts leave this number free
pub commands_keep_number : (rules : Rules) (n : CtxNum) → CommandsKeep rules (MakesOther n) AnySlot (λ m. ctx m n ≡ None)
commands_keep_number rules n = record {
  keeps = λ at slot c m o u a none. on_command rules Every (λ k. nat_eq n.0 k.0 ≡ false) (λ _. Unit {0}) (absent_context rules n) at slot c m (λ k h. refl)
      (λ fine k e. enters_other n at slot c m o none (not_ended at slot c m fine) k e) u (any slot) none;
  lives = lives_other n;
  less = less_other n;
  sets = λ k p m can none. absent_set k p m n none;
}
