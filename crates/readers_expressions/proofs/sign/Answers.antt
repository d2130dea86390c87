-- `sign` reads rule 37 where the operand is signed, and else leaves all as it is.
-- The two cases are the branches. Assumes nothing.
use Rattle.readers_core.proofs.Computing.{computing}
use mathlib.Core.Bool.{false≢true}
use mathlib.Core.Path.{refl, sym, ◌∙◌}
use Rattle.readers_expressions.proofs.sign.Goals as goal

pub returns-then-signed : goal.returns-then-signed
unfolding computing
returns-then-signed c = record {
  reads = λ e. c.one_of_three.ensures.reads refl refl;
  stays = λ e. absurd (false≢true (sym e ∙ c.if-signed.true));
}

pub returns : goal.returns
returns c = record {
  reads = λ e. absurd (false≢true (sym c.if-signed.false ∙ e));
  stays = λ e. refl;
}
