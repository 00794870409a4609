-- A server between two calls (own).
use Rattle.std.specs.Prelude.{◌≡◌}
use Rattle.gw_front.specs.declared.server.Server.{Server}

-- Neither its options nor what it counted changed.
pub record HasSame (old new : Server) : Type 0 where
  pub options : new.options ≡ old.options
  pub totals : new.totals ≡ old.totals
