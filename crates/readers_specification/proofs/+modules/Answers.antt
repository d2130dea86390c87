-- The readers of definitions and modules, which call each other, meet their contracts: each reads its rule as its plan is.
-- The remaining depth falls at the "{" of a module; below it stand definitions, a definition, what is defined. Assumes nothing.
use Rattle.readers_core.proofs.Computing.{computing}
use Rattle.kinds.specs.Lists.{only}
use Rattle.grammar.specs.Names.{rule}
use Rattle.readers_core.proofs.Choosing.{among}
use Rattle.readers_core.proofs.Frames.{frame}
use Rattle.readers_core.proofs.Groups.{enclosed, room, shut_out}
use Rattle.readers_core.proofs.Starts.{is_in, is_out}
use Rattle.readers_core.proofs.Sequence.{◌▸◌, stays}
use Rattle.readers_core.proofs.Halting.{stopped_if}
use Rattle.readers_core.proofs.Loops.{no_part, part_less, part_again, last_part}
use Rattle.readers_core.proofs.Parts.{here, picked_here}
use Rattle.readers_specification.specs.Plans.{definition_starts}
use mathlib.Core.Path.{refl}
use native.Mathlib.Omega.{arith}
use Rattle.readers_specification.proofs.+modules.Goals as goal

pub defined-other_definition-requires : goal.defined-other_definition-requires
defined-other_definition-requires t c =
    λ e. omega (arith, c.next_kind-next.ensures, e)

pub defined-returns-in-MODULE : goal.defined-returns-in-MODULE
unfolding computing
defined-returns-in-MODULE t c =
    picked_here (among (only "module")) c.next_kind-next.ensures (omega arith) (here c.module_definition.ensures)

pub defined-returns-in_default : goal.defined-returns-in_default
unfolding computing
defined-returns-in_default t c = c.other_definition.ensures

pub definition-returns : goal.definition-returns
unfolding computing
definition-returns t c =
    frame (rule "definition") (c.defined-defined.ensures.of_any _ ▸ (c.take-mark.ensures.reads _ _).in_any _ _ ▸
    c.node.ensures.wraps refl _ _ _ tt)

pub definitions-loop-last-init : goal.definitions-loop-last-init
definitions-loop-last-init t c = no_part

pub definitions-returns-then-not-starts_definition : goal.definitions-returns-then-not-starts_definition
unfolding computing
definitions-returns-then-not-starts_definition t c =
    last_part definition_starts c.next_kind.ensures c.definition-last.ensures
    (is_out definition_starts _ c.starts_definition.ensures c.if-not-starts_definition.true) tt c.loop-last.invariant

pub definitions-loop-last-smaller : goal.definitions-loop-last-smaller
unfolding computing
definitions-loop-last-smaller t c =
    part_less definition_starts c.next_kind.ensures c.definition-last.ensures
    (is_in definition_starts _ c.starts_definition.ensures c.if-not-starts_definition.false) tt

pub definitions-loop-last-preserved : goal.definitions-loop-last-preserved
unfolding computing
definitions-loop-last-preserved t c =
    part_again definition_starts c.next_kind.ensures c.definition-last.ensures
    (is_in definition_starts _ c.starts_definition.ensures c.if-not-starts_definition.false) tt c.definition-last.auto.tree
    c.loop-last.invariant

pub module_definition-returns-then-has_stopped : goal.module_definition-returns-then-has_stopped
unfolding computing
module_definition-returns-then-has_stopped t c =
    let stop = stopped_if c.open-inside.result c.has_stopped.ensures c.if-has_stopped.true in frame (rule "module")
    ((c.take-word.ensures.reads _ _).in_any _ _ ▸ (c.take-name.ensures.reads _ _).in_any _ _ ▸ shut_out c.open-inside.ensures stop
    ▸ stays stop)

pub module_definition-overflow_sub-depth : goal.module_definition-overflow_sub-depth
module_definition-overflow_sub-depth t c =
    let h = room c.open-inside.ensures c.has_stopped.ensures c.if-has_stopped.false in omega arith

pub module_definition-definitions-body-requires : goal.module_definition-definitions-body-requires
module_definition-definitions-body-requires t c =
    let h = room c.open-inside.ensures c.has_stopped.ensures c.if-has_stopped.false in omega arith

pub module_definition-returns : goal.module_definition-returns
unfolding computing
module_definition-returns t c =
    frame (rule "module") ((c.take-word.ensures.reads _ _).in_any _ _ ▸ (c.take-name.ensures.reads _ _).in_any _ _ ▸
    (enclosed c.open-inside.ensures c.definitions-body.ensures c.take-mark.ensures).in_any _ _ ▸ c.node.ensures.wraps refl _ _ _
    tt)
