use Rattle.std.proofs.Common.{◌≡◌, ◌+◌, ◌++◌, ◌∷◌, [], ℕ, List, length, take, subst}
use Rattle.std.specs.Io.Buffered.{reader_buffer, reader_remaining}
use Rattle.std.specs.Io.KnownBytes.{Consumes}
use Rattle.gw_front.proofs.Pieces.{other_line}
use Rattle.gw_front.proofs.header.read_header.Goals as goal

pub returns-in-None : goal.returns-in-None
returns-in-None g c =
    let old = reader_remaining g.R.Read.remaining c.args.reader.now in
    let new = reader_remaining g.R.Read.remaining c.pass.new.reader in
    let line = c.in-Some.line.now in
    let front : take (length line + 1) (reader_buffer c.args.reader.now) ≡ line ++ 10 ∷ [] = subst (λ (l : List ℕ). take (length line + 1) l ≡ line ++ 10 ∷ []) c.buffer.ensures c.in-Some.ensures.line in
    let taken : Consumes old new (line ++ 10 ∷ []) = subst (λ (l : List ℕ). Consumes old new l) front c.pass.ensures in
    other_line old new line taken c.in-Some.ensures.plain c.in-Some.ensures.short c.in-None.ensures
