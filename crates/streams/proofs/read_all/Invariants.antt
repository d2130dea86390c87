-- Reading ends, since each turn of the loop reads a byte at least, and the room left becomes less.
-- What was read so far stands at the front of the slice. Assumes nothing.
use Rattle.std.proofs.Common.{◌≡◌, ◌-◌, ◌≤◌, length, take}
use Rattle.std.specs.Io.KnownBytes.{Consumes}
use Rattle.streams.proofs.read_all.Given as goal

abbrev pub invariant-loop-size : goal.invariant-loop-size
invariant-loop-size g l = record {
  same : length l.bytes ≡ length l.initial.bytes;
  within : l.size ≤ length l.bytes;
  so_far : Consumes (g.R.Read.remaining l.initial.input) (g.R.Read.remaining l.input) (take l.size l.bytes);
}

abbrev pub decreases-loop-size : goal.decreases-loop-size
decreases-loop-size g l = length l.bytes - l.size
