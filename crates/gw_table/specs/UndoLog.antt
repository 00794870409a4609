-- What stood at keys before they were written: an undo log (own).
use Rattle.std.specs.Prelude.{◌≡◌, List, [], ◌∷◌, map}
use Rattle.gw_base.specs.declared.key.Key.{Key}
use Rattle.gw_base.specs.declared.key.Key.TheVariants.{Term, Ctx}
use Rattle.gw_table.specs.declared.undo_log.Write.{Write}
use Rattle.gw_table.specs.declared.undo_log.Write.TheVariants.{OfTerm, OfCtx}
use Rattle.gw_table.specs.Maps.{Maps, put_term, put_ctx}
use Rattle.gw_table.specs.Stored.{Stored, maps_of, AreReady, KeepReady, NoOtherReady, NoneIsOut}

-- the key that was written
abbrev pub key_written : Write → Key
key_written (OfTerm t o) = Term t
key_written (OfCtx n o) = Ctx n

-- a key for each write, in their order
abbrev pub keys_written : List Write → List Key
keys_written writes = map key_written writes

-- the maps with what stood there before the write
abbrev pub without_write : Write → Maps → Maps
without_write (OfTerm t o) m = put_term m t o
without_write (OfCtx n o) m = put_ctx m n o

-- the maps without the writes: the last one is taken back first, so that at each key stands what its first write found
-- there
abbrev pub undone : List Write → Maps → Maps
undone [] m = m
undone (w ∷ later) m = without_write w (undone later m)

-- Tables that were changed in place: nothing is out, the undo log leads back to the maps of the start, what was
-- prepared at the start is so still, and beside it only what was written.
pub record IsInPlace (start now : Stored) (writes : List Write) : Type 0 where
  pub here : NoneIsOut now
  pub back : undone writes (maps_of now) ≡ maps_of start
  pub places : AreReady (keys_written writes) now
  pub kept : KeepReady start now
  pub alone : NoOtherReady (keys_written writes) start now
