-- Who joins a context in its place (own): where the context was written before, since nothing is logged then.
use Rattle.std.specs.Prelude.{◌≡◌, Bool, true, false, List, ℕ, Some}
use Rattle.gw_base.specs.declared.ids.CtxNum.{CtxNum}
use Rattle.gw_base.specs.declared.key.Key.{Key}
use Rattle.gw_base.specs.declared.key.Key.TheVariants.{Ctx}
use Rattle.gw_base.specs.Keys.{has}
use Rattle.gw_ctx.specs.Contexts.{ContextRecord, joined}
use Rattle.gw_table.specs.declared.place.Place.{Place}
use Rattle.gw_table.specs.declared.place.Place.TheVariants.{Here}
use Rattle.gw_table.specs.Maps.{Maps, ctx}
use Rattle.gw_table.specs.Members.{with_member}
use Rattle.gw_table.specs.Stored.{Stored, maps_of, put_ctx_place}

-- the name has joined the context that stands there, whose key is logged; or nothing has changed
abbrev pub HasJoined : List Key → Key → List ℕ → Place ContextRecord → Bool → Place ContextRecord → Type 0
HasJoined keys key t old false new = new ≡ old
HasJoined keys key t old true new = (has keys key ≡ true) × ((c : ContextRecord) × (old ≡ Here c) × (new ≡ Here (joined t c)))

-- the same of the context with a number
abbrev pub HasJoinedAt : List Key → CtxNum → List ℕ → Stored → Bool → Stored → Type 0
HasJoinedAt keys n t old false new = new ≡ old
HasJoinedAt keys n t old true new = (has keys (Ctx n) ≡ true) × ((c : ContextRecord) × (ctx (maps_of old) n ≡ Some c) × (new ≡ put_ctx_place old n (Here (joined t c))))

abbrev pub with_member_if : Bool → CtxNum → List ℕ → Maps → Maps
with_member_if false n t m = m
with_member_if true n t m = with_member n t m
