-- `const_exp` reads rule 29, which passes the node of an expression of the loosest level on.
-- One nonterminal alone leaves no record. Assumes nothing.
use Rattle.readers_core.proofs.Computing.{computing}
use Rattle.grammar.specs.Names.{rule}
use Rattle.readers_core.proofs.Frames.{passed_on}
use Rattle.readers_core.proofs.Choosing.{except}
use mathlib.Core.List.{[]}
use mathlib.Core.Path.{refl}
use Rattle.readers_expressions.proofs.const_exp.Goals as goal

pub returns : goal.returns
unfolding computing
returns c = passed_on (rule "const_exp") (except []) refl tt refl tt c.binary.ensures.reads
