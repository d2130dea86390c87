-- `scoped_name` reads rule 12: a frame of its own with its first name as a node, and a node for each further step.
-- Its calls are put together as its plan is. Assumes nothing.
use Rattle.readers_core.proofs.Computing.{computing}
use Rattle.grammar.specs.Names.{rule}
use Rattle.readers_core.proofs.Frames.{frame}
use Rattle.readers_core.proofs.Sequence.{◌▸◌}
use mathlib.Core.Path.{refl}
use Rattle.readers_names.proofs.scoped_name.Goals as goal

pub returns : goal.returns
unfolding computing
returns c =
    record {
      at_any = λ d. frame (rule "scoped_name") (((c.first_name-name.ensures.reads _ _).in_any _ _)
          ▸ (c.node-first.ensures.wraps refl _ _ _ tt)
          ▸ ((c.further_names.ensures.at_any _).of_any _));
    }
