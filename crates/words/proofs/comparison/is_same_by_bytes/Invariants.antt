-- `words::comparison::is_same_by_bytes` meets its contract. The loop's invariant: the bytes passed are the same.
use mathlib.Core.Path.{◌≡◌}
use lib.ListN.{length, take}
use Rattle.words.specs.Comparison.{with_bit}
use Rattle.words.proofs.comparison.is_same_by_bytes.Given as goal

abbrev pub invariant-loop-a : goal.invariant-loop-a
invariant-loop-a l = take (length l.yielded) (with_bit l.bit l.word) ≡ take (length l.yielded) (with_bit l.bit l.spelling)
