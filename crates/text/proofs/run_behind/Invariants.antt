-- `text::run_behind` meets its contract. The loop's invariant: the windows passed are of the class.
use Rattle.std.proofs.Common.{length, ◌/◌}
use Rattle.text.proofs.Blocks.{Passed}
use Rattle.text.proofs.run_behind.Given as goal

abbrev pub invariant-loop-passed : goal.invariant-loop-passed
invariant-loop-passed g l = Passed g.C.Class.member g.row.N (length l.text / g.row.N) l.text l.passed
