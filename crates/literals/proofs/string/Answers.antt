-- `literals::string` meets its contract: past the bytes that it holds as they are, the next piece decides.
-- A character moves the invariant on; any other piece ends it. Assumes nothing.
use native.Mathlib.Omega.{arith}
use Rattle.text.specs.Literals.{string_piece}
use Rattle.literals.proofs.Strings.{next}
use Rattle.literals.proofs.string.Goals as goal

pub overflow_add-place-in-Character : goal.overflow_add-place-in-Character
overflow_add-place-in-Character c =
    let n = next _ _ _ c.loop-taken.invariant.within c.loop-taken.invariant.so_far c.string_run-place.ensures in
    grind (arith, n.on c.in-Character.taken)

pub loop-taken-smaller : goal.loop-taken-smaller
loop-taken-smaller c =
    let n = next _ _ _ c.loop-taken.invariant.within c.loop-taken.invariant.so_far c.string_run-place.ensures in
    grind (arith, n.on c.in-Character.taken)

pub loop-taken-preserved : goal.loop-taken-preserved
unfolding string_piece
loop-taken-preserved c =
    let n = next _ _ _ c.loop-taken.invariant.within c.loop-taken.invariant.so_far c.string_run-place.ensures in
    grind (arith, n.on c.in-Character.taken)

pub returns-in_err-piece : goal.returns-in_err-piece
unfolding string_piece
returns-in_err-piece c =
    let n = next _ _ _ c.loop-taken.invariant.within c.loop-taken.invariant.so_far c.string_run-place.ensures in
    grind arith

pub returns-in-Close : goal.returns-in-Close
unfolding string_piece
returns-in-Close c =
    let n = next _ _ _ c.loop-taken.invariant.within c.loop-taken.invariant.so_far c.string_run-place.ensures in
    grind arith

pub returns-in-Zero : goal.returns-in-Zero
unfolding string_piece
returns-in-Zero c =
    let n = next _ _ _ c.loop-taken.invariant.within c.loop-taken.invariant.so_far c.string_run-place.ensures in
    grind arith
