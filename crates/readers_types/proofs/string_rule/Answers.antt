-- `string_rule` tells the rule of a string type.
-- By the one test. Assumes nothing.
use Rattle.readers_core.proofs.Equality.{differs, same}
use borrow.Author.Tests.{eq-eqb, ne_eqb}
use mathlib.Core.Path.{refl}
use Rattle.kinds.specs.Kinds.{kind_of}
use Rattle.readers_types.proofs.string_rule.Goals as goal

pub returns-then-eq : goal.returns-then-eq
returns-then-eq c = rw (eq-eqb c.args.kind (kind_of "string") (same c.eq.ensures c.if-eq.true)) refl

pub returns : goal.returns
returns c = rw (ne_eqb c.args.kind (kind_of "string") (differs c.eq.ensures c.if-eq.false)) refl
