-- Which tables fit together (RFC 3525, section 6).
use Rattle.std.specs.Prelude.{◌≡◌, ◌≢◌, ℕ, true, false, ◌≤◌, List, [], length, Option, None, Some}
use Rattle.gw_base.specs.declared.ids.CtxNum.{CtxNum}
use Rattle.gw_base.specs.declared.key.Key.TheVariants.{Term}
use Rattle.gw_base.specs.NameLists.{is_in, NoDoubles}
use Rattle.gw_term.specs.declared.record.Termination.{Termination}
use Rattle.gw_term.specs.Limits.{HasFew}
use Rattle.gw_ctx.specs.Contexts.{ContextRecord}
use Rattle.gw_ctx.specs.Fitting.{IsFit}
use Rattle.gw_table.specs.Maps.{Maps, term, ctx, context_of, members_of, place_of}
use Rattle.gw_table.specs.Parts.{PartKeys, holds}
use Rattle.gw_table.specs.Reserved.{is_reserved, slot_name}

-- What a part of tables has from the whole: a member whose entry is the part's is recorded in that context, and no list
-- has a name twice.
pub record IsSound (keys : PartKeys) (m : Maps) : Type 0 where
  pub recorded : (t : List ℕ) (n : CtxNum) → holds keys (Term t) ≡ true → is_in t (members_of (ctx m n)) ≡ true → place_of (term m t) ≡ Some n
  pub once : (n : CtxNum) → NoDoubles (members_of (ctx m n))

-- A termination in a slot has the slot's name, and another one none that is the gateway's own to give.
abbrev pub Fits : List ℕ → Option ℕ → Type 0
Fits t None = is_reserved t ≡ false
Fits t (Some slot) = t ≡ slot_name slot

-- A name stands in a context's list exactly if its record's place is that context, and once. No context is without
-- members, and none has more than the limit. The properties of each are fit: links join its members, at most one for a
-- pair. RTP/<s> is the name of exactly the ephemeral termination of slot s, and no other name is one that is the
-- gateway's own to give. No list of properties has too many.
pub record AreWellFormed (limit : ℕ) (m : Maps) : Type 0 where
  pub recorded : (t : List ℕ) (n : CtxNum) → is_in t (members_of (ctx m n)) ≡ true → place_of (term m t) ≡ Some n
  pub listed : (t : List ℕ) (n : CtxNum) → place_of (term m t) ≡ Some n → is_in t (members_of (ctx m n)) ≡ true
  pub once : (n : CtxNum) → NoDoubles (members_of (ctx m n))
  pub some : (n : CtxNum) (c : ContextRecord) → ctx m n ≡ Some c → c.members ≢ []
  pub few : (n : CtxNum) → length (members_of (ctx m n)) ≤ limit
  pub fit : (n : CtxNum) → IsFit (context_of (ctx m n))
  pub named : (t : List ℕ) (r : Termination) → term m t ≡ Some r → Fits t r.slot
  pub modest : (t : List ℕ) (r : Termination) → term m t ≡ Some r → HasFew r
