-- `other_definition` reads by its plan where no module is ahead: the kind ahead tells the choice.
-- What the plan comes to is what was called. Assumes nothing.
use Rattle.std.proofs.Common.{arith}
use Rattle.readers_core.proofs.Computing.{computing}
use Rattle.kinds.specs.Lists.{only}
use Rattle.readers_core.proofs.Choosing.{among, except}
use Rattle.readers_core.proofs.Parts.{behind, here, picked_here}
use mathlib.Core.List.{[], ◌∷◌}
use mathlib.Core.Path.{◌∙◌, sym}
use Rattle.readers_specification.proofs.other_definition.Goals as goal

pub returns-in-CONST : goal.returns-in-CONST
unfolding computing
returns-in-CONST c = picked_here (among (only "const")) c.next_kind-next.ensures (omega arith) (here c.const_dcl.ensures)

pub returns-in-EXCEPTION : goal.returns-in-EXCEPTION
unfolding computing
returns-in-EXCEPTION c = picked_here (among (only "exception")) c.next_kind-next.ensures (omega arith) (here c.except_dcl.ensures)

pub returns-in-ABSTRACT : goal.returns-in-ABSTRACT
unfolding computing
returns-in-ABSTRACT c = picked_here (among (only "abstract")) c.next_kind-next.ensures (omega arith) c.abstract_definition.ensures

pub returns-in-LOCAL : goal.returns-in-LOCAL
unfolding computing
returns-in-LOCAL c =
    picked_here (among (only "local")) c.next_kind-next.ensures (omega arith)
    (behind c.take-word.ensures (c.interface.ensures.of_any _))

pub returns-in-INTERFACE : goal.returns-in-INTERFACE
unfolding computing
returns-in-INTERFACE c = picked_here (among (only "interface")) c.next_kind-next.ensures (omega arith) c.interface-in-INTERFACE.ensures

pub returns-in-CUSTOM : goal.returns-in-CUSTOM
unfolding computing
returns-in-CUSTOM c =
    picked_here (among (only "custom")) c.next_kind-next.ensures (omega arith)
    (behind c.take-word-in-CUSTOM.ensures (c.custom_value.ensures.of_any _))

pub returns-in-VALUETYPE : goal.returns-in-VALUETYPE
unfolding computing
returns-in-VALUETYPE c = picked_here (among (only "valuetype")) c.next_kind-next.ensures (omega arith) c.value.ensures

pub returns-in_default : goal.returns-in_default
unfolding computing
returns-in_default c =
    picked_here (except (only "module" ∷ only "valuetype" ∷ only "custom" ∷ only "interface" ∷ only "local" ∷ only "abstract" ∷
    only "exception" ∷ only "const" ∷ [])) c.next_kind-next.ensures
    ((omega arith), λ e. c.requires (sym c.next_kind-next.ensures ∙ e)) (here c.type_dcl.ensures)
