-- `value_element` reads rule 21, which passes another rule's node on.
-- The kind ahead tells which. Assumes nothing.
use Rattle.std.proofs.Common.{arith, rules}
use Rattle.readers_core.proofs.Computing.{computing}
use Rattle.kinds.specs.Lists.{kinds_of, only}
use Rattle.grammar.specs.Names.{rule}
use Rattle.readers_core.proofs.Frames.{passed_on}
use Rattle.readers_core.proofs.Choosing.{among, except}
use mathlib.Core.List.{[], ◌∷◌}
use mathlib.Core.Path.{refl}
use Rattle.readers_values.proofs.value_element.Goals as goal

pub returns-in-PUBLIC : goal.returns-in-PUBLIC
unfolding computing
returns-in-PUBLIC c =
    passed_on (rule "value_element") (among (kinds_of ("private" ∷ "public" ∷ []))) c.next_kind-next.ensures (search rules) refl tt
    c.state_member.ensures

pub returns-in-FACTORY : goal.returns-in-FACTORY
unfolding computing
returns-in-FACTORY c =
    passed_on (rule "value_element") (among (only "factory")) c.next_kind-next.ensures (omega arith) refl tt c.init_dcl.ensures

pub returns-in_default : goal.returns-in_default
unfolding computing
returns-in_default c =
    passed_on (rule "value_element") (except (only "factory" ∷ kinds_of ("private" ∷ "public" ∷ []) ∷ [])) c.next_kind-next.ensures
    (omega arith) refl tt c.export.ensures
