-- `literals::string` meets its contract. The loop's invariant: what is left to read from `place` on makes the whole.
use mathlib.Core.Path.{◌≡◌}
use Prim.Native.Nat.{◌-◌, ◌≤◌}
use lib.ListN.{length}
use Rattle.text.specs.Literals.{string}
use Rattle.literals.specs.Widths.{is_wide}
use Rattle.literals.proofs.string.Given as goal

abbrev pub invariant-loop-taken : goal.invariant-loop-taken
invariant-loop-taken l = record {
  within : l.place ≤ length l.bs;
  so_far : string (is_wide l.width) l.read l.bs ≡ string (is_wide l.width) l.place l.bs;
}

abbrev pub decreases-loop-taken : goal.decreases-loop-taken
decreases-loop-taken l = length l.bs - l.place
