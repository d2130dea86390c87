-- `one_of_three` reads a rule that is one of three tokens, in a frame of its own, by any plan of that form.
-- The next kind is one of them and taken at its place, or none of them, so that the first is missed. Assumes nothing.
use Prim.Native.Nat.{ℕ}
use native.Mathlib.Omega.{arith}
use mathlib.Core.Path.{◌≡◌, refl, sym, ◌∙◌, subst}
use mathlib.Core.Bool.{Bool, true, false, not, ◌&&◌, ◌||◌}
use mathlib.Core.List.{List, [], ◌∷◌}
use mathlib.Core.Logic.{inr, ⊎_elim}
use lib.Dec.{T, eqb}
use borrow.Author.Tests.{eq-eqb}
use Rattle.grammar.specs.Sets.{elem}
use Rattle.prediction.specs.plans.Plan.{Plan, token, seq, alt}
use Rattle.readers_core.specs.Course.{Course}
use Rattle.readers_core.specs.Reading.{Reading, State, From, IsKind, ahead}
use Rattle.readers_core.proofs.Computing.{computing}
use Rattle.readers_core.proofs.Choosing.{among, except, any_elem, elem_any}
use Rattle.readers_core.proofs.Frames.{chosen, frame_by, taken_of}
use Rattle.readers_core.proofs.Sequence.{◌▸◌}
use Rattle.readers_names.proofs.one_of_three.Goals as goal

at_its_place : (a b c : Bool) → T (a || (b || (c || false))) →
    T ((a || ((b || (c && (not (b || false) && true))) && (not (a || false) && true))) && true)
at_its_place true b c u = tt
at_its_place false true c u = tt
at_its_place false false true u = tt
at_its_place false false false u = absurd u

or_true : (b : Bool) → b || true ≡ true
or_true true = refl
or_true false = refl

-- x is asked for among k, l and m
module _ (k l m : ℕ) {x : ℕ} {answer : Bool} (told : answer ≡ elem x (k ∷ l ∷ m ∷ [])) where
  is_kind : answer ≡ true → IsKind k → IsKind l → IsKind m → IsKind x
  unfolding computing
  is_kind h a b c =
      ⊎_elim (λ e. omega (arith, e, a)) (λ u. ⊎_elim (λ e. omega (arith, e, b)) (λ e. omega (arith, e, c)) u)
      (elem_any (k ∷ l ∷ m ∷ []) x (subst (λ (b : Bool). T b) (sym h ∙ told) tt))

  module _ {R : Course} {ks : List ℕ} {d : ℕ} {start : Reading} {hs : List ℕ} {q : Plan} {s s' : State} (e : x ≡ ahead ks s.0) where
    taken : answer ≡ true → From R ks d start hs (seq (token x) q) s s' →
        From R ks d start hs (seq (alt (token k) (alt (token l) (token m))) q) s s'
    unfolding computing elem
    taken h =
        taken_of (among (x ∷ [])) e refl
        (at_its_place (eqb x k) (eqb x l) (eqb x m) (subst (λ (b : Bool). T b) (sym h ∙ told) tt))

    missed : answer ≡ false → From R ks d start hs (seq (token k) q) s s' →
        From R ks d start hs (seq (alt (token k) (alt (token l) (token m))) q) s s'
    unfolding computing elem
    missed h y =
        chosen (except ((l ∷ m ∷ []) ∷ [])) e
        (tt, λ u. subst (λ (b : Bool). T b) (sym told ∙ h) (any_elem (k ∷ l ∷ m ∷ []) x (inr u)))
        (rw (eq-eqb l l refl, eq-eqb m m refl, or_true (eqb m l)) y)

pub take-word-requires : goal.take-word-requires
take-word-requires c =
    let pre = c.requires in is_kind _ _ _ c.is_one_of.ensures c.if-is_one_of.true pre.0 pre.1 pre.2

pub returns-then-is_one_of : goal.returns-then-is_one_of
unfolding computing
returns-then-is_one_of c =
    record {
      reads = λ e q. record {
        at_any = λ d. frame_by _ q
            (taken _ _ _ c.is_one_of.ensures c.next_kind-next.ensures c.if-is_one_of.true
            ((c.take-word.ensures.reads _ _).in_any _ _ ▸
            c.node.ensures.wraps e _ _ _ tt));
      };
    }

pub returns : goal.returns
unfolding computing
returns c =
    record {
      reads = λ e q. record {
        at_any = λ d. frame_by _ q
            (missed _ _ _ c.is_one_of.ensures c.next_kind-next.ensures c.if-is_one_of.false
            ((c.take-word-2.ensures.reads _ _).in_any _ _ ▸
            c.node-2.ensures.wraps e _ _ _ tt));
      };
    }
