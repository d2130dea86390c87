-- `exported` reads by its plan: the kind ahead tells the choice.
-- What the plan comes to is what was called. Assumes nothing.
use Rattle.std.proofs.Common.{rules}
use Rattle.std.proofs.Common.{arith}
use Rattle.readers_core.proofs.Computing.{computing}
use Rattle.kinds.specs.Lists.{kinds_of, only}
use Rattle.readers_core.proofs.Choosing.{among, except}
use Rattle.readers_interfaces.specs.Plans.{type_dcl_starts}
use Rattle.readers_core.proofs.Parts.{◌then◌, picked}
use Rattle.readers_core.proofs.Starts.{is_in, is_out}
use mathlib.Core.List.{[], ◌∷◌}
use Rattle.readers_interfaces.proofs.exported.Goals as goal

pub returns-then-starts_type_dcl : goal.returns-then-starts_type_dcl
unfolding computing
returns-then-starts_type_dcl c =
    picked (among type_dcl_starts) c.next_kind-next.ensures
    (is_in type_dcl_starts _ c.starts_type_dcl.ensures c.if-starts_type_dcl.true)
    (c.type_dcl-declaration.ensures then c.take.ensures.reads _ _)

pub returns-in-CONST : goal.returns-in-CONST
unfolding computing
returns-in-CONST c =
    picked (among (only "const")) c.next_kind-next.ensures (omega arith)
    (c.const_dcl-declaration.ensures then c.take-in-CONST.ensures.reads _ _)

pub returns-in-EXCEPTION : goal.returns-in-EXCEPTION
unfolding computing
returns-in-EXCEPTION c =
    picked (among (only "exception")) c.next_kind-next.ensures (omega arith)
    (c.except_dcl-declaration.ensures then c.take-in-EXCEPTION.ensures.reads _ _)

pub returns-in-READONLY : goal.returns-in-READONLY
unfolding computing
returns-in-READONLY c =
    picked (among (kinds_of ("attribute" ∷ "readonly" ∷ []))) c.next_kind-next.ensures (search rules)
    (c.attr_dcl-declaration.ensures then c.take-in-READONLY.ensures.reads _ _)

pub returns-in_default : goal.returns-in_default
unfolding computing
returns-in_default c =
    picked (except (type_dcl_starts ∷ kinds_of ("attribute" ∷ "readonly" ∷ []) ∷ only "exception" ∷ only "const" ∷ []))
    c.next_kind-next.ensures (
      (omega arith),
      (is_out type_dcl_starts _ c.starts_type_dcl.ensures c.if-starts_type_dcl.false).1,
    )
    (c.op_dcl-declaration.ensures then c.take-in_default.ensures.reads _ _)
