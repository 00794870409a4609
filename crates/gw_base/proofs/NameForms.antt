-- Of each text it is known whether it is a name, an address or an mId; and why a text is refused as one.
use Rattle.std.proofs.lemmas.Grind.{common_steps}
use Rattle.std.proofs.Common.{◌≡◌, ℕ, ◌<◌, ◌≤◌, length, Bool, true, List, [], Err, arith}
use Rattle.std.specs.List.{list_all}
use Rattle.gw_base.specs.Mids.{IsMid, longest_mid}
use Rattle.gw_base.specs.Names.{name_max}
use Rattle.gw_base.specs.Reads.{ReadsAs}
use Rattle.gw_base.specs.Wildcards.{IsTermText}
use Rattle.gw_base.specs.declared.fault.NameFault.{NameFault}

-- ---- names

-- bytes of a class, one at least and at most so many
record Run (most : ℕ) (p : ℕ → Bool) (text : List ℕ) : Type 0 where
  some : 0 < length text
  short : length text ≤ most
  each : list_all p text ≡ true

-- ---- mIds
-- ---- what is refused
pub some_mid : IsMid [] → ⊥
some_mid h = grind arith

mid_len : (w : List ℕ) → IsMid w → length w ≤ longest_mid w
mid_len w h = grind (arith, common_steps)

-- what is refused is not of the form
refused : (IsForm : List ℕ → Type 0) (limit : ℕ) (text : List ℕ) (fault : NameFault) → (IsForm [] → ⊥) → (IsForm text → length text ≤ limit) → ReadsAs IsForm limit text (Err fault) → ¬ IsForm text
refused IsForm limit text fault some short h = grind arith

pub mid_refused : (text : List ℕ) (fault : NameFault) → ReadsAs IsMid (longest_mid text) text (Err fault) → ¬ IsMid text
mid_refused text fault h = refused IsMid (longest_mid text) text fault some_mid (mid_len text) h

pub term_refused : (text : List ℕ) (fault : NameFault) → ReadsAs IsTermText name_max text (Err fault) → ¬ IsTermText text
term_refused text fault h = refused IsTermText name_max text fault (λ t. absurd (let some = t.some in omega arith)) (λ t. t.short) h
