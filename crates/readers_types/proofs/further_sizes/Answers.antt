-- `further_sizes` reads sizes while an opening bracket stands ahead.
-- By the laws of such loops. Assumes nothing.
use Rattle.readers_core.proofs.Equality.{differs, same}
use Rattle.kinds.specs.Lists.{only}
use Rattle.readers_core.proofs.Computing.{computing}
use Rattle.readers_core.proofs.Loops.{no_turn, turn_less, turn_again, turned}
use Rattle.readers_types.proofs.further_sizes.Goals as goal

pub loop-tokens-init : goal.loop-tokens-init
unfolding computing
loop-tokens-init c = no_turn

pub loop-tokens-smaller : goal.loop-tokens-smaller
unfolding computing
loop-tokens-smaller c = turn_less (only "[") c.next_kind.ensures (same c.eq.ensures c.loop-tokens-test.true) tt c.fixed_array_size-sizes.ensures

pub loop-tokens-preserved : goal.loop-tokens-preserved
unfolding computing
loop-tokens-preserved c =
    turn_again (only "[") c.next_kind.ensures (same c.eq.ensures c.loop-tokens-test.true) tt c.fixed_array_size-sizes.ensures
    c.fixed_array_size-sizes.auto.tree c.loop-tokens.invariant

pub returns : goal.returns
unfolding computing
returns c = turned (only "[") c.next_kind.ensures (tt, (differs c.eq.ensures c.loop-tokens-test.false)) tt c.loop-tokens.invariant
