-- `param_type_spec` reads rule 95, which passes another rule's node on.
-- The kind ahead tells which. Assumes nothing.
use Rattle.std.proofs.Common.{arith}
use Rattle.readers_core.proofs.Computing.{computing}
use Rattle.grammar.specs.Names.{rule}
use Rattle.readers_core.proofs.Frames.{passed_by, passed_on}
use Rattle.readers_core.proofs.Choosing.{among, except}
use Rattle.readers_names.proofs.Words.{names, passes_word}
use Rattle.readers_types.specs.Plans.{string_rule, strings}
use borrow.Author.Rules.{rules}
use mathlib.Core.List.{[], ◌∷◌}
use mathlib.Core.Path.{refl}
use Rattle.readers_types.proofs.param_type_spec.Goals as goal

pub returns-in-STRING : goal.returns-in-STRING
unfolding passes_word
returns-in-STRING c =
    passed_by (rule "param_type_spec") string_rule strings c.next_kind-next.ensures (search rules) tt
    c.string_type.ensures

pub returns-in-IDENTIFIER : goal.returns-in-IDENTIFIER
unfolding computing
returns-in-IDENTIFIER c =
    passed_on (rule "param_type_spec") (among names) c.next_kind-next.ensures (search rules) refl tt
    (c.scoped_name.ensures.at_any _)

pub returns-in_default : goal.returns-in_default
unfolding computing
returns-in_default c =
    passed_on (rule "param_type_spec") (except (names ∷ strings ∷ [])) c.next_kind-next.ensures (omega arith)
    refl tt (c.base_type_spec.ensures.at_any _)
