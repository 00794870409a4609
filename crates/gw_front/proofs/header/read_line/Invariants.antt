use Rattle.std.proofs.Common.{◌-◌, ◌≤◌, length}
use Rattle.std.specs.Io.Buffered.{reader_remaining}
use Rattle.std.specs.Io.KnownBytes.{Consumes}
use Rattle.gw_front.specs.RecordFaults.{HasNoLineFeed}
use Rattle.gw_front.proofs.header.read_line.Given as goal

-- the line so far was taken, and has no line feed
abbrev pub invariant-loop-line : goal.invariant-loop-line
invariant-loop-line g l = record {
  plain : HasNoLineFeed l.line.items;
  taken : Consumes (reader_remaining g.R.Read.remaining l.initial.reader) (reader_remaining g.R.Read.remaining l.reader) l.line.items;
  few : length l.line.items ≤ 33;
}

abbrev pub decreases-loop-line : goal.decreases-loop-line
decreases-loop-line g l = 33 - length l.line.items
