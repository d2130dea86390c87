-- `const_dcl` reads rule 27 in a frame of its own.
-- Its calls are put together as its plan is. Assumes nothing.
use Rattle.grammar.specs.Names.{rule}
use Rattle.readers_core.proofs.Computing.{computing}
use Rattle.readers_core.proofs.Frames.{frame}
use Rattle.readers_core.proofs.Sequence.{◌▸◌}
use mathlib.Core.Path.{refl}
use Rattle.readers_structs.proofs.const_dcl.Goals as goal

pub returns : goal.returns
unfolding computing
returns c =
    frame (rule "const_dcl") (((c.take-word.ensures.reads _ _).in_any _ _) ▸
    (c.const_type-spec.ensures.in_any _ _) ▸ ((c.take-name.ensures.reads _ _).in_any _ _) ▸
    ((c.take-equals.ensures.reads _ _).in_any _ _) ▸
    (c.const_exp-value.ensures.in_any _ _) ▸ (c.node.ensures.wraps refl _ _ _ tt))
