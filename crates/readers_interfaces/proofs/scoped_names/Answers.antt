-- `scoped_names` reads names with commas between them, by any rule that is a scoped name alone and so leaves no record.
-- The part read so far as a continuation; what is left to read falls. Assumes nothing.
use Rattle.readers_core.proofs.Equality.{differs, same}
use Rattle.readers_core.proofs.Computing.{computing}
use Rattle.kinds.specs.Lists.{only}
use Rattle.readers_core.specs.Course.{one}
use Rattle.readers_core.proofs.Choosing.{among, except}
use Rattle.readers_core.proofs.Repetition.{falls, far_here, far_more, far_over}
use Rattle.readers_interfaces.proofs.Names.{by_name, interface_names}
use Rattle.readers_core.proofs.Parts.{◌then◌}
use mathlib.Core.List.{[], ◌∷◌}
use mathlib.Core.Path.{◌∙◌, refl}
use Rattle.readers_interfaces.proofs.scoped_names.Goals as goal

pub loop-tokens-smaller : goal.loop-tokens-smaller
unfolding computing
loop-tokens-smaller c =
    falls {R = one} {start = c.args.at} (among (only ",")) c.next_kind.ensures
    (same c.eq.ensures c.loop-tokens-test.true) tt
    ((c.take-comma.ensures.reads 0 _ then
    by_name interface_names (c.scoped_name-names-in-loop-tokens.ensures.at_any 0)).in_any c.args.at)

pub loop-tokens-preserved : goal.loop-tokens-preserved
unfolding computing
loop-tokens-preserved c = (
  c.scoped_name-names-in-loop-tokens.auto.tree ∙ c.loop-tokens.invariant.0,
  λ n d start h. far_more (among (only ",")) c.next_kind.ensures (same c.eq.ensures c.loop-tokens-test.true) tt
      ((c.take-comma.ensures.reads d _ then by_name h
      (c.scoped_name-names-in-loop-tokens.ensures.at_any d)).in_any start)
      (c.loop-tokens.invariant.1 n d start h),
)

pub returns : goal.returns
unfolding computing
returns c =
    record {
      by_rule = λ n h. record {
        at_any = λ d. by_name h (c.scoped_name-names.ensures.at_any d) then record {
          in_any = λ start. far_over (except (only "," ∷ [])) c.next_kind.ensures (tt, (differs c.eq.ensures c.loop-tokens-test.false)) tt
              (c.loop-tokens.invariant.1 n d start h);
        };
      };
    }

pub loop-tokens-init : goal.loop-tokens-init
loop-tokens-init c = (refl, λ n d start h. far_here)
