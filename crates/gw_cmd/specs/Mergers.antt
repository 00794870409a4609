-- Descriptors that are merged into one record after another (own).
use Rattle.std.specs.Prelude.{◌≡◌}
use Rattle.gw_term.specs.declared.merger.Merger.{Merger}

-- the same descriptors under the same rules
pub record IsSameMerger (old new : Merger) : Type 0 where
  pub rules : new.rules.now ≡ old.rules.now
  pub descriptors : new.descriptors.now ≡ old.descriptors.now
