-- Writing ends, since each turn of the loop writes a byte at least, and the bytes left become fewer.
-- The output has grown by the bytes that stand before those left. Assumes nothing.
use Rattle.std.proofs.Common.{◌≡◌, ℕ, ◌≤◌, length, take, drop}
use Rattle.std.specs.Io.KnownBytes.{Appends}
use Rattle.streams.proofs.write_all.Given as goal

abbrev pub invariant-loop-rest : goal.invariant-loop-rest
invariant-loop-rest g l =
    (size : ℕ) × (size ≤ length l.bytes) × (l.rest ≡ drop size l.bytes) ×
    Appends (g.W.Write.contents l.initial.output) (g.W.Write.contents l.output) (take size l.bytes)

abbrev pub decreases-loop-rest : goal.decreases-loop-rest
decreases-loop-rest g l = length l.rest
