use Rattle.std.proofs.Common.{◌++◌, ◌∷◌, [], ℕ, List, subst}
use Rattle.std.specs.Io.Buffered.{reader_remaining}
use Rattle.std.specs.Io.KnownBytes.{Consumes}
use Rattle.gw_front.specs.declared.header.Header.{Header}
use Rattle.gw_front.specs.Headers.{SaysHeader}
use Rattle.gw_front.specs.RecordFaults.{HasNoLineFeed}
use Rattle.gw_front.proofs.Pieces.{other_line}
use Rattle.gw_front.proofs.header.read_apart.Goals as goal

pub returns-in-None : goal.returns-in-None
returns-in-None g c =
    let old = reader_remaining g.R.Read.remaining c.args.reader.now in
    let mid = reader_remaining g.R.Read.remaining c.read_line.new.reader in
    let line = c.in-Some.line.items in
    let taken : Consumes old mid (line ++ 10 ∷ []) = rw c.in-Some.is at c.in_ok-line.ensures.line in
    let plain : HasNoLineFeed line = rw c.in-Some.is at c.in_ok-line.ensures.plain in
    let none : (h : Header) → ¬ SaysHeader h line = subst (λ (l : List ℕ). (h : Header) → ¬ SaysHeader h l) c.as_slice.ensures.value c.in-None.ensures in
    other_line old mid line taken plain (rw c.in-Some.is at c.in_ok-line.ensures.short) none
