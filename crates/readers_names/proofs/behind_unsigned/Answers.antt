-- `behind_unsigned` reads by its plan: the kind ahead tells each choice.
-- What the plan comes to is what was called. Assumes nothing.
use Rattle.readers_core.proofs.Equality.{differs, same}
use Rattle.readers_core.proofs.Computing.{computing}
use Rattle.kinds.specs.Lists.{only}
use Rattle.readers_core.proofs.Choosing.{among, except}
use Rattle.readers_core.proofs.Frames.{chosen}
use Rattle.readers_core.proofs.Sequence.{◌▸◌}
use Rattle.readers_names.proofs.Words.{read_word}
use mathlib.Core.List.{[], ◌∷◌}
use mathlib.Core.Path.{refl}
use Rattle.readers_names.proofs.behind_unsigned.Goals as goal

pub returns-then-eq : goal.returns-then-eq
unfolding computing
returns-then-eq c =
    record {
      at_any = λ d. record {
        of_any = λ hs. chosen (among (only "short")) c.next_kind-next.ensures (same c.eq.ensures c.if-eq.true)
            (read_word refl tt c.take-short.ensures c.node.ensures);
      };
    }

pub returns-then-eq-2 : goal.returns-then-eq-2
unfolding computing
returns-then-eq-2 c =
    record {
      at_any = λ d. record {
        of_any = λ hs. chosen (except (only "short" ∷ [])) c.next_kind-next.ensures
            (tt, differs c.eq.ensures c.if-eq.false) (((c.take-long.ensures.reads _ _).in_any _ _)
            ▸ chosen (among (only "long")) c.next_kind-then.ensures (same c.eq-2.ensures c.if-eq-2.true)
            (read_word refl tt c.take-longlong.ensures c.node-then-eq-2.ensures));
      };
    }

pub returns : goal.returns
unfolding computing
returns c =
    record {
      at_any = λ d. record {
        of_any = λ hs. chosen (except (only "short" ∷ [])) c.next_kind-next.ensures
            (tt, differs c.eq.ensures c.if-eq.false) (((c.take-long.ensures.reads _ _).in_any _ _)
            ▸ chosen (except (only "long" ∷ [])) c.next_kind-then.ensures (tt, differs c.eq-2.ensures c.if-eq-2.false)
            (c.node-2.ensures.wraps refl _ _ _ tt));
      };
    }
