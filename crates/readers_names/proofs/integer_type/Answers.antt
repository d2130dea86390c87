-- `integer_type` reads rule 54, which passes another rule's node on.
-- The kind ahead tells which. Assumes nothing.
use Rattle.std.proofs.Common.{arith}
use Rattle.readers_core.proofs.Computing.{computing}
use Rattle.kinds.specs.Lists.{only}
use Rattle.grammar.specs.Names.{rule}
use Rattle.readers_core.proofs.Frames.{passed_on}
use Rattle.readers_core.proofs.Choosing.{among, except}
use mathlib.Core.List.{[], ◌∷◌}
use mathlib.Core.Path.{refl}
use Rattle.readers_names.proofs.integer_type.Goals as goal

pub returns-in-UNSIGNED : goal.returns-in-UNSIGNED
unfolding computing
returns-in-UNSIGNED c =
    record {
      at_any = λ d. passed_on (rule "integer_type") (among (only "unsigned")) c.next_kind-next.ensures
          (omega arith) refl tt (c.unsigned_int.ensures.at_any d);
    }

pub returns-in_default : goal.returns-in_default
unfolding computing
returns-in_default c =
    record {
      at_any = λ d. passed_on (rule "integer_type") (except (only "unsigned" ∷ [])) c.next_kind-next.ensures
          (omega arith) refl tt (c.signed_int.ensures.at_any d);
    }
