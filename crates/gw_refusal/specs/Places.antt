-- The context of an action while its commands are executed (RFC 3525, section 8.1).
use Rattle.std.specs.Prelude.{nat_eq, Bool, true, false, Option, None, Some}
use Rattle.gw_base.specs.declared.ids.CtxNum.{CtxNum}
use Rattle.gw_refusal.specs.declared.at.At.{At}
use Rattle.gw_refusal.specs.declared.at.At.TheVariants.{Null, Live, Unmade, Each}

-- the place of a termination that is in it: a context, or none for the null context
abbrev pub place_at : At → Option CtxNum
place_at Null = None
place_at (Live n) = Some n
place_at (Unmade n) = Some n
place_at (Each n) = Some n

-- the same context, made
abbrev pub made : At → At
made Null = Null
made (Live n) = Live n
made (Unmade n) = Live n
made (Each n) = Each n

abbrev pub is_null : At → Bool
is_null Null = true
is_null (Live n) = false
is_null (Unmade n) = false
is_null (Each n) = false

-- the context has not come into being
abbrev pub is_unmade : At → Bool
is_unmade Null = false
is_unmade (Live n) = false
is_unmade (Unmade n) = true
is_unmade (Each n) = false

-- one of the contexts of an action with *
abbrev pub is_each : At → Bool
is_each Null = false
is_each (Live n) = false
is_each (Unmade n) = false
is_each (Each n) = true

-- both are in the null context, or in one context
abbrev pub same_place : Option CtxNum → Option CtxNum → Bool
same_place None None = true
same_place None (Some b) = false
same_place (Some a) None = false
same_place (Some a) (Some b) = nat_eq a.0 b.0
