-- `positive_int_const` reads rule 41, which passes the node of a constant expression on.
-- One nonterminal alone leaves no record. Assumes nothing.
use Rattle.readers_core.proofs.Computing.{computing}
use Rattle.grammar.specs.Names.{rule}
use Rattle.readers_core.proofs.Frames.{passed_on}
use Rattle.readers_core.proofs.Choosing.{except}
use mathlib.Core.List.{[]}
use mathlib.Core.Path.{refl}
use Rattle.readers_expressions.proofs.positive_int_const.Goals as goal

pub returns : goal.returns
unfolding computing
returns c = passed_on (rule "positive_int_const") (except []) refl tt refl tt c.const_exp.ensures
