-- `further_names` reads the steps behind a name: each turn is one more, and the steps end where no "::" stands ahead.
-- The part read so far as a continuation; what is left to read falls. Assumes nothing.
use Rattle.readers_core.proofs.Equality.{differs, same}
use Rattle.readers_core.proofs.Computing.{computing}
use Rattle.kinds.specs.Lists.{only}
use Rattle.readers_core.proofs.Choosing.{among, except}
use Rattle.readers_core.proofs.Repetition.{falls, far_here, far_more, far_over}
use Rattle.readers_core.proofs.Sequence.{◌▸◌}
use Rattle.readers_core.specs.Course.{one}
use mathlib.Core.List.{[], ◌∷◌}
use mathlib.Core.Path.{◌∙◌, refl}
use Rattle.readers_names.proofs.further_names.Goals as goal

pub loop-start-smaller : goal.loop-start-smaller
unfolding computing
loop-start-smaller c =
    falls {R = one} {d = 0} (among (only "::")) c.next_kind.ensures (same c.eq.ensures c.loop-start-test.true) tt
    (λ hs. (((c.take-mark.ensures.reads _ _).in_any _ _) ▸ ((c.take-name.ensures.reads _ _).in_any _ _))
    ▸ (c.node-names.ensures.wraps refl _ _ _ tt))

pub loop-start-preserved : goal.loop-start-preserved
unfolding computing
loop-start-preserved c =
    let so_far = c.loop-start.invariant in (
      c.node-names.auto.tree ∙ so_far.0,
      λ d. far_more (among (only "::")) c.next_kind.ensures (same c.eq.ensures c.loop-start-test.true) tt
          (λ hs. (((c.take-mark.ensures.reads _ _).in_any _ _) ▸ ((c.take-name.ensures.reads _ _).in_any _ _))
          ▸ (c.node-names.ensures.wraps refl _ _ _ tt)) (so_far.1 d),
    )

pub returns : goal.returns
unfolding computing
returns c = record {
  at_any = λ d. record {
    of_any = far_over (except (only "::" ∷ [])) c.next_kind.ensures (tt, (differs c.eq.ensures c.loop-start-test.false)) tt
        (c.loop-start.invariant.1 d);
  };
}

pub loop-start-init : goal.loop-start-init
loop-start-init c = (refl, λ d. far_here)
