-- `interface_inheritance_spec` reads rule 10 in a frame of its own.
-- Its calls are put together as its plan is. Assumes nothing.
use Rattle.readers_core.proofs.Computing.{computing}
use Rattle.grammar.specs.Names.{rule}
use Rattle.readers_core.proofs.Frames.{frame}
use Rattle.readers_core.proofs.Sequence.{◌▸◌}
use Rattle.readers_core.proofs.Lines.{◌▸▸◌, append}
use Rattle.readers_interfaces.proofs.Names.{interface_names}
use mathlib.Core.Path.{refl}
use Rattle.readers_interfaces.proofs.interface_inheritance_spec.Goals as goal

pub returns : goal.returns
unfolding computing append
returns c =
    record {
      at_any = λ d. frame (rule "interface_inheritance_spec")
          ((c.take-colon.ensures.reads _ _).in_any _ _ ▸
          (((c.scoped_names-names.ensures.by_rule _ interface_names).at_any d).in_any _ _ ▸▸ c.node.ensures.wraps refl _ _ _ tt));
    }
