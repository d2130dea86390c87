-- `init_param_decl` reads rule 25 in a frame of its own.
-- Its calls are put together as its plan is. Assumes nothing.
use Rattle.readers_core.proofs.Computing.{computing}
use Rattle.grammar.specs.Names.{rule}
use Rattle.readers_core.proofs.Frames.{frame}
use Rattle.readers_core.proofs.Sequence.{◌▸◌}
use mathlib.Core.Path.{refl}
use Rattle.readers_operations.proofs.init_param_decl.Goals as goal

pub returns : goal.returns
unfolding computing
returns c =
    frame (rule "init_param_decl")
    (((c.one_token-word.ensures.reads refl refl).at_any _).in_any _ _ ▸
    c.param_type_spec-spec.ensures.in_any _ _ ▸ ((c.one_token-name.ensures.reads refl refl).at_any _).in_any _ _ ▸
    c.node.ensures.wraps refl _ _ _ tt)
