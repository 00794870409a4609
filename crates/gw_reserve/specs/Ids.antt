-- What the $ of a request own, in their order (own): a number for each action with $, a slot for each Add of $ or
-- RTP/$. One past the end of its list owns nothing, as one that has none.
use Rattle.std.specs.Prelude.{ℕ, List, Option}
use Rattle.gw_base.specs.declared.ids.CtxNum.{CtxNum}

pub record Ids : Type 0 where
  pub contexts : List (Option CtxNum)
  pub slots : List (Option ℕ)
