-- Who joins and leaves a context, and the service state of a termination, in the maps (RFC 3525, section 6.1).
use Rattle.std.specs.Prelude.{ℕ, List, [], ◌∷◌, Option, None, Some}
use Rattle.gw_base.specs.declared.ids.CtxNum.{CtxNum}
use Rattle.gw_base.specs.declared.command_words.Service.{Service}
use Rattle.gw_ctx.specs.Contexts.{ContextRecord, joined, left}
use Rattle.gw_term.specs.declared.record.Termination.{Termination}
use Rattle.gw_term.specs.Record.{serviced}
use Rattle.gw_table.specs.Maps.{Maps, ctx, put_ctx, put_term, context_of}

-- the termination of a name has this service state
abbrev pub put_service : Service → List ℕ → Maps → Option Termination → Maps
put_service s t m None = m
put_service s t m (Some r) = put_term m t (Some (serviced r s))

-- the name joins the context as its last member; a context comes into being with its first
abbrev pub with_member : CtxNum → List ℕ → Maps → Maps
with_member n t m = put_ctx m n (Some (joined t (context_of (ctx m n))))

abbrev pub unless_none : List (List ℕ) → ContextRecord → Option ContextRecord
unless_none [] c = None
unless_none (t ∷ ts) c = Some c

-- a context that has no member left ends
abbrev pub unless_empty : ContextRecord → Option ContextRecord
unless_empty c = unless_none c.members c

-- the name leaves the context, which ends if it is empty
abbrev pub without_member : CtxNum → List ℕ → Maps → Maps
without_member n t m = put_ctx m n (unless_empty (left t (context_of (ctx m n))))
