-- `neighbours` reads tokens of one kind as long as one stands ahead.
-- The part read so far as a continuation; what is left to read falls. Assumes nothing.
use Rattle.readers_core.proofs.Equality.{differs, same}
use Rattle.readers_core.proofs.Computing.{computing}
use Rattle.readers_core.specs.Course.{one, table_in}
use Rattle.readers_core.proofs.Choosing.{among, except}
use Rattle.readers_core.proofs.Repetition.{falls, far_here, far_more, far_over, kind_again, kind_over}
use mathlib.Core.List.{[], ◌∷◌}
use Rattle.readers_names.proofs.neighbours.Goals as goal

pub loop-kind-smaller : goal.loop-kind-smaller
unfolding computing
loop-kind-smaller c =
    let kind = c.args.kind in
    falls {R = one} {start = c.args.at} (among (kind ∷ [])) c.next_kind.ensures (same c.eq.ensures c.loop-kind-test.true)
    (kind_again (table_in one) kind c.requires) (λ hs. (c.take-strings.ensures.reads 0 []).in_any _ _)

pub loop-kind-preserved : goal.loop-kind-preserved
unfolding computing
loop-kind-preserved c =
    let kind = c.args.kind in
    λ R d w start. far_more (among (kind ∷ [])) c.next_kind.ensures (same c.eq.ensures c.loop-kind-test.true)
    (kind_again (table_in R) kind c.requires) (λ hs. (c.take-strings.ensures.reads _ _).in_any _ _)
    (c.loop-kind.invariant R d w start)

pub returns : goal.returns
unfolding computing
returns c =
    let kind = c.args.kind in record {
      reads = λ {R} d w. record {
        in_any = λ start. far_over (except ((kind ∷ []) ∷ [])) c.next_kind.ensures (tt, (differs c.eq.ensures c.loop-kind-test.false))
            (kind_over (table_in R) kind) (c.loop-kind.invariant R d w start);
      };
    }

pub loop-kind-init : goal.loop-kind-init
loop-kind-init c = λ R d w start. far_here
