-- `further_strings` reads string literals while a comma stands ahead.
-- The part read so far as a continuation; what is left to read falls. Assumes nothing.
use Rattle.readers_core.proofs.Equality.{differs, same}
use Rattle.readers_core.proofs.Computing.{computing}
use Rattle.kinds.specs.Lists.{only}
use Rattle.readers_core.specs.Course.{one}
use Rattle.readers_core.proofs.Choosing.{among, except}
use Rattle.readers_core.proofs.Repetition.{falls, far_here, far_more, far_over}
use Rattle.readers_core.proofs.Sequence.{◌▸◌}
use mathlib.Core.List.{[], ◌∷◌}
use Rattle.readers_operations.proofs.further_strings.Goals as goal

pub loop-tokens-smaller : goal.loop-tokens-smaller
unfolding computing
loop-tokens-smaller c =
    falls {R = one} {start = c.loop-tokens.listed} (among (only ","))
    c.next_kind.ensures (same c.eq.ensures c.loop-tokens-test.true) tt
    (λ hs. (c.take-comma.ensures.reads 0 []).in_any _ _ ▸ (c.string_literal-listed.ensures.reads 0 []).in_any _ _)

pub loop-tokens-preserved : goal.loop-tokens-preserved
unfolding computing
loop-tokens-preserved c =
    λ R d w start. far_more (among (only ",")) c.next_kind.ensures (same c.eq.ensures c.loop-tokens-test.true) tt
    (λ hs. (c.take-comma.ensures.reads _ _).in_any _ _ ▸ (c.string_literal-listed.ensures.reads _ _).in_any _ _)
    (c.loop-tokens.invariant R d w start)

pub returns : goal.returns
unfolding computing
returns c = record {
  reads = λ {R} d w. record {
    in_any = λ start hs. far_over (except (only "," ∷ [])) c.next_kind.ensures (tt, (differs c.eq.ensures c.loop-tokens-test.false)) tt
        (c.loop-tokens.invariant R d w start) hs;
  };
}

pub loop-tokens-init : goal.loop-tokens-init
loop-tokens-init = λ c R d w start. far_here
