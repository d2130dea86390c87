-- `elements` reads the repetition of rule 21: each turn is one more, and it ends where no element can begin.
-- By the laws of such loops. Assumes nothing.
use Rattle.readers_core.proofs.Computing.{computing}
use Rattle.readers_core.proofs.Starts.{is_in, is_out}
use Rattle.readers_core.proofs.Loops.{no_turn, turn_less, turn_again, turned}
use Rattle.readers_values.specs.Plans.{element_starts}
use Rattle.readers_values.proofs.elements.Goals as goal

pub loop-tokens-init : goal.loop-tokens-init
unfolding computing
loop-tokens-init c = no_turn

pub loop-tokens-smaller : goal.loop-tokens-smaller
unfolding computing
loop-tokens-smaller c =
    turn_less element_starts c.next_kind.ensures (is_in element_starts _ c.starts_element.ensures c.loop-tokens-test.true) tt
    c.value_element-read.ensures

pub loop-tokens-preserved : goal.loop-tokens-preserved
unfolding computing
loop-tokens-preserved c =
    turn_again element_starts c.next_kind.ensures (is_in element_starts _ c.starts_element.ensures c.loop-tokens-test.true) tt
    c.value_element-read.ensures c.value_element-read.auto.tree c.loop-tokens.invariant

pub returns : goal.returns
unfolding computing
returns c =
    turned element_starts c.next_kind.ensures (is_out element_starts _ c.starts_element.ensures c.loop-tokens-test.false) tt
    c.loop-tokens.invariant
