-- `blanks::to_close` meets its contract. The loop's invariant: no */ begins in the bytes passed.
use Rattle.std.proofs.Common.{length}
use Rattle.blanks.proofs.Closing.{Passed}
use Rattle.blanks.proofs.to_close.Given as goal

abbrev pub invariant-loop-behind : goal.invariant-loop-behind
invariant-loop-behind l = Passed l.bs l.rest

abbrev pub decreases-loop-behind : goal.decreases-loop-behind
decreases-loop-behind l = length l.rest
