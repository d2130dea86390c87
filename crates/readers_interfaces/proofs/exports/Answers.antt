-- `exports` reads the repetition of rule 9: each turn is one more, and it ends where no export can begin.
-- By the laws of such loops. Assumes nothing.
use Rattle.readers_core.proofs.Computing.{computing}
use Rattle.readers_core.proofs.Starts.{is_in, is_out}
use Rattle.readers_interfaces.specs.Plans.{export_starts}
use Rattle.readers_core.proofs.Loops.{no_turn, turn_less, turn_again, turned}
use Rattle.readers_interfaces.proofs.exports.Goals as goal

pub loop-tokens-init : goal.loop-tokens-init
unfolding computing
loop-tokens-init c = no_turn

pub loop-tokens-smaller : goal.loop-tokens-smaller
unfolding computing
loop-tokens-smaller c =
    turn_less export_starts c.next_kind.ensures (is_in export_starts _ c.starts_export.ensures c.loop-tokens-test.true) tt
    c.export-read.ensures

pub loop-tokens-preserved : goal.loop-tokens-preserved
unfolding computing
loop-tokens-preserved c =
    turn_again export_starts c.next_kind.ensures (is_in export_starts _ c.starts_export.ensures c.loop-tokens-test.true) tt
    c.export-read.ensures c.export-read.auto.tree c.loop-tokens.invariant

pub returns : goal.returns
unfolding computing
returns c =
    turned export_starts c.next_kind.ensures (is_out export_starts _ c.starts_export.ensures c.loop-tokens-test.false) tt
    c.loop-tokens.invariant
