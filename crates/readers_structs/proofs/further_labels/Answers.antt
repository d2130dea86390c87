-- `further_labels` reads labels while one stands ahead.
-- By the laws of such loops. Assumes nothing.
use Rattle.readers_core.proofs.Computing.{computing}
use Rattle.readers_core.proofs.Starts.{is_in, is_out}
use Rattle.readers_core.proofs.Loops.{no_turn, turn_less, turn_again, turned}
use Rattle.readers_structs.specs.Plans.{case_starts}
use Rattle.readers_structs.proofs.further_labels.Goals as goal

pub loop-tokens-smaller : goal.loop-tokens-smaller
unfolding computing
loop-tokens-smaller c =
    turn_less case_starts c.next_kind.ensures
    (is_in case_starts _ c.starts_case.ensures c.loop-tokens-test.true) tt
    c.case_label-last.ensures

pub loop-tokens-preserved : goal.loop-tokens-preserved
unfolding computing
loop-tokens-preserved c =
    turn_again case_starts c.next_kind.ensures
    (is_in case_starts _ c.starts_case.ensures c.loop-tokens-test.true) tt
    c.case_label-last.ensures c.case_label-last.auto.tree c.loop-tokens.invariant

pub returns : goal.returns
unfolding computing
returns c =
    turned case_starts c.next_kind.ensures
    (is_out case_starts _ c.starts_case.ensures c.loop-tokens-test.false) tt
    c.loop-tokens.invariant

pub loop-tokens-init : goal.loop-tokens-init
loop-tokens-init c = no_turn
