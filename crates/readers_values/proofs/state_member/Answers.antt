-- `state_member` reads rule 22 in a frame of its own.
-- Its calls are put together as its plan is. Assumes nothing.
use Rattle.readers_core.proofs.Computing.{computing}
use Rattle.grammar.specs.Names.{rule}
use Rattle.readers_core.proofs.Frames.{frame}
use Rattle.readers_core.proofs.Sequence.{◌▸◌}
use mathlib.Core.Path.{refl}
use Rattle.readers_values.proofs.state_member.Goals as goal

pub returns : goal.returns
unfolding computing
returns c =
    frame (rule "state_member") ((c.visibility-word.ensures.reads _ _).in_any _ _ ▸ c.type_spec-spec.ensures.in_any _ _ ▸
    c.declarators-names.ensures.in_any _ _ ▸ (c.take-end.ensures.reads _ _).in_any _ _ ▸ c.node.ensures.wraps refl _ _ _ tt)
