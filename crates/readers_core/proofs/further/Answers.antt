-- `further` reads the rest of a list while a comma stands ahead.
-- By the laws of such loops: each turn reads a comma and an item. Assumes nothing.
use Rattle.readers_core.proofs.Equality.{differs, same}
use Rattle.kinds.specs.Lists.{only}
use Rattle.readers_core.proofs.Computing.{computing}
use Rattle.readers_core.proofs.Loops.{no_turn, turn_less, turn_again, turned}
use Rattle.readers_core.proofs.Parts.{◌then◌}
use Rattle.readers_core.proofs.further.Goals as goal

pub loop-tokens-smaller : goal.loop-tokens-smaller
unfolding computing
loop-tokens-smaller g c =
    turn_less (only ",") c.next_kind.ensures (same c.eq.ensures c.loop-tokens-test.true) tt
    (c.take-comma.ensures.reads _ _ then c.read-last.ensures)

pub loop-tokens-preserved : goal.loop-tokens-preserved
unfolding computing
loop-tokens-preserved g c =
    turn_again (only ",") c.next_kind.ensures (same c.eq.ensures c.loop-tokens-test.true) tt
    (c.take-comma.ensures.reads _ _ then c.read-last.ensures) c.read-last.auto.tree
    c.loop-tokens.invariant

pub returns : goal.returns
unfolding computing
returns g c = turned (only ",") c.next_kind.ensures (tt, (differs c.eq.ensures c.loop-tokens-test.false)) tt c.loop-tokens.invariant

pub loop-tokens-init : goal.loop-tokens-init
loop-tokens-init g c = no_turn
