-- Two derivations of a plan from one place end together in one forest, or the shorter ends at a kind that could go on.
-- By induction on both; where they part, the test of the plan says that no kind could do both.
use Prim.Native.Nat.{ℕ, suc, ◌≤◌, ◌<◌}
use mathlib.Core.Path.{◌≡◌, refl, ap, sym, subst}
use native.Mathlib.Omega.{arith}
use lib.Dec.{T}
use Rattle.grammar.specs.Forest.{Forest, leaf, join}
use Rattle.grammar.specs.Sets.{elem}
use Rattle.prediction.specs.plans.Plan.{Plan, group, call, seq, alt, many, PlanDerives, plan_token, plan_group}
use Rattle.prediction.specs.plans.Plan.{plan_call, plan_wrap, plan_seq, plan_left, plan_right, plan_skip}
use Rattle.prediction.specs.plans.Plan.{plan_none, plan_more}
use Rattle.prediction.specs.validator.Typing.{Table, first, follow_last, typed, Typed}
use Rattle.prediction.proofs.validator.Typing.{seq_left_typed, seq_right_typed, seq_apart, alt_left_typed}
use Rattle.prediction.proofs.validator.Typing.{alt_right_typed, alt_apart, alt_one_null, many_typed, many_apart}
use Rattle.prediction.proofs.validator.Typing.{many_not_null, group_typed, group_apart, last_seq_left}
use Rattle.prediction.proofs.validator.Typing.{last_seq_right, last_alt_left, last_alt_right, last_left_empty}
use Rattle.prediction.proofs.validator.Typing.{last_right_empty, last_many, last_many_first}
use Rattle.prediction.proofs.validator.Look.{Look, look_nothing, look_some, forward, look}

pub data Comparison (t : Table) (s : ℕ → ℕ) (p : Plan) (j j' : ℕ) (g g' : Forest) : Type 0 where
  same : j' ≡ j → g' ≡ g → Comparison t s p j j' g g'
  less : j < j' → T (elem (s j) (follow_last t p)) → Comparison t s p j j' g g'
  more : j' < j → T (elem (s j') (follow_last t p)) → Comparison t s p j j' g g'

-- a plan with a larger set
compare_up : {t : Table} {s : ℕ → ℕ} {p p' : Plan} {j j' : ℕ} {g g' : Forest} →
    ((k : ℕ) → T (elem k (follow_last t p)) → T (elem k (follow_last t p'))) → Comparison t s p j j' g g' →
    Comparison t s p' j j' g g'
compare_up w (same e e') = same e e'
compare_up {s = s} {j = j} w (less h u) = less h (w (s j) u)
compare_up {s = s} {j' = j'} w (more h u) = more h (w (s j') u)

-- the derivation at another start
pub move : {T : ℕ → Plan} {s : ℕ → ℕ} {b : Plan} {m m' j : ℕ} {h h' g : Forest} → m' ≡ m → h' ≡ h →
    PlanDerives T s b m' j h' g → PlanDerives T s b m j h g
move {T} {s} {b} {m} {j = j} {h' = h'} {g = g} e e' d =
    subst (λ (x : Forest). PlanDerives T s b m j x g) e' (subst (λ (x : ℕ). PlanDerives T s b x j h' g) e d)

module _ (t : Table) (s : ℕ → ℕ) where
  compare_seq : (a b : Plan) {m m' j j' : ℕ} {h h' g g' : Forest} → T (typed t (seq a b)) →
      Comparison t s a m m' h h' →
      ((d : PlanDerives t.plan s b m j' h g') → Comparison t s b j j' g g') →
      PlanDerives t.plan s b m' j' h' g' →
      Look t s b m j → Look t s b m' j' → Comparison t s (seq a b) j j' g g'
  compare_seq a b o (same e e') ih d l l' = compare_up (λ k u. last_seq_right t a b k u) (ih (move e e' d))
  compare_seq a b o (less x u) ih d (look_nothing e n) (look_nothing e' n') =
      less (omega arith) (last_seq_left t a b _ n (rw (sym e) at u))
  compare_seq a b o (less x u) ih d (look_nothing e n) (look_some y v) =
      less (omega arith) (last_seq_left t a b _ n (rw (sym e) at u))
  compare_seq a b {m} o (less x u) ih d (look_some y v) l' = absurd (seq_apart t a b o (s m) u v)
  compare_seq a b {m} {m'} o (more x u) ih d (look_nothing e' n') (look_nothing e n) =
      more (omega arith) (last_seq_left t a b _ n (rw (sym e) at u))
  compare_seq a b {m} {m'} o (more x u) ih d (look_some y v) (look_nothing e n) =
      more (omega arith) (last_seq_left t a b _ n (rw (sym e) at u))
  compare_seq a b {m} {m'} o (more x u) ih d l (look_some y v) = absurd (seq_apart t a b o (s m') u v)

  compare_many : (a : Plan) {m m' j j' : ℕ} {h h' g g' : Forest} → T (typed t (many a)) → Comparison t s a m m' h h' →
      ((d : PlanDerives t.plan s (many a) m j' h g') → Comparison t s (many a) j j' g g') →
      PlanDerives t.plan s (many a) m' j' h' g' →
      Look t s (many a) m j → Look t s (many a) m' j' → Comparison t s (many a) j j' g g'
  unfolding first
  compare_many a o (same e e') ih d l l' = ih (move e e' d)
  compare_many a o (less x u) ih d (look_nothing e n) (look_nothing e' n') =
      less (omega arith) (last_many t a _ (rw (sym e) at u))
  compare_many a o (less x u) ih d (look_nothing e n) (look_some y v) =
      less (omega arith) (last_many t a _ (rw (sym e) at u))
  compare_many a {m} o (less x u) ih d (look_some y v) l' = absurd (many_apart t a o (s m) u v)
  compare_many a {m} {m'} o (more x u) ih d (look_nothing e' n') (look_nothing e n) =
      more (omega arith) (last_many t a _ (rw (sym e) at u))
  compare_many a {m} {m'} o (more x u) ih d (look_some y v) (look_nothing e n) =
      more (omega arith) (last_many t a _ (rw (sym e) at u))
  compare_many a {m} {m'} o (more x u) ih d l (look_some y v) = absurd (many_apart t a o (s m') u v)

  compare_left_right : (a b : Plan) {i j j' : ℕ} {g g' : Forest} → T (typed t (alt a b)) → Look t s a i j →
      Look t s b i j' → Comparison t s (alt a b) j j' g g'
  compare_left_right a b o (look_nothing e n) (look_nothing e' n') = absurd (alt_one_null t a b o n n')
  compare_left_right a b o (look_nothing e n) (look_some h u) =
      less (omega arith) (last_left_empty t a b _ n (rw (sym e) at u))
  compare_left_right a b o (look_some h u) (look_nothing e n) =
      more (omega arith) (last_right_empty t a b _ n (rw (sym e) at u))
  compare_left_right a b {i} o (look_some h u) (look_some h' u') = absurd (alt_apart t a b o (s i) u u')

  compare_right_left : (a b : Plan) {i j j' : ℕ} {g g' : Forest} → T (typed t (alt a b)) → Look t s b i j →
      Look t s a i j' → Comparison t s (alt a b) j j' g g'
  compare_right_left a b o (look_nothing e n) (look_nothing e' n') = absurd (alt_one_null t a b o n' n)
  compare_right_left a b o (look_nothing e n) (look_some h u) =
      less (omega arith) (last_right_empty t a b _ n (rw (sym e) at u))
  compare_right_left a b o (look_some h u) (look_nothing e n) =
      more (omega arith) (last_left_empty t a b _ n (rw (sym e) at u))
  compare_right_left a b {i} o (look_some h u) (look_some h' u') = absurd (alt_apart t a b o (s i) u' u)

  compare_more : (a : Plan) {i j m : ℕ} {g g' : Forest} → T (typed t (many a)) → Look t s a i m → m ≤ j →
      Comparison t s (many a) i j g g'
  compare_more a o (look_nothing e n) y = absurd (many_not_null t a o n)
  compare_more a {i} o (look_some h u) y = less (omega arith) (last_many_first t a (s i) u)

  compare_none : (a : Plan) {i j m : ℕ} {g g' : Forest} → T (typed t (many a)) → Look t s a i m → m ≤ j →
      Comparison t s (many a) j i g g'
  compare_none a o (look_nothing e n) y = absurd (many_not_null t a o n)
  compare_none a {i} o (look_some h u) y = more (omega arith) (last_many_first t a (s i) u)

  compare_group : (p q : ℕ) (b : Plan) {m m' : ℕ} {g g' : Forest} → T (typed t (group p b q)) → s m ≡ q → s m' ≡ q →
      Comparison t s b m m' g g' → Comparison t s (group p b q) (suc m) (suc m') (leaf g q) (leaf g' q)
  compare_group p q b o e e' (same x y) = same (ap suc x) (ap (λ (z : Forest). leaf z q) y)
  compare_group p q b {m} o e e' (less x u) = absurd (group_apart t p q b o (s m) u e)
  compare_group p q b {m' = m'} o e e' (more x u) = absurd (group_apart t p q b o (s m') u e')

  compare_call : (o : Typed t) (n : ℕ) (f : Forest) {j j' : ℕ} {h h' g g' : Forest} → g ≡ join f h → g' ≡ join f h' →
      Comparison t s (t.plan n) j j' h h' → Comparison t s (call n) j j' g g'
  unfolding follow_last
  compare_call o n f e e' (same x y) = same x (cc)
  compare_call o n f {j} e e' (less x u) = less x (o.follow_last_holds n (s j) u)
  compare_call o n f {j' = j'} e e' (more x u) = more x (o.follow_last_holds n (s j') u)

  pub compare : (o : Typed t) {p : Plan} {i j j' : ℕ} {f g g' : Forest} → T (typed t p) →
      PlanDerives t.plan s p i j f g → PlanDerives t.plan s p i j' f g' → Comparison t s p j j' g g'
  compare o k (plan_token e) (plan_token e') = same refl refl
  compare o k (plan_group {o = p} {c = q} {b = b} e d x) (plan_group e' d' x') =
      compare_group p q b k x x' (compare o (group_typed t p q b k) d d')
  compare o k (plan_call {n = n} {f = f} d e) (plan_call d' e') =
      compare_call o n f e e' (compare o (o.plan_typed n) d d')
  compare o k plan_wrap plan_wrap = same refl refl
  compare o k (plan_seq {a = a} {b = b} x y) (plan_seq x' y') =
      compare_seq a b k (compare o (seq_left_typed t a b k) x x') (λ d. compare o (seq_right_typed t a b k) y d) y'
      (look t s o y) (look t s o y')
  compare o k (plan_left {a = a} {b = b} x) (plan_left x') =
      compare_up (λ n u. last_alt_left t a b n u) (compare o (alt_left_typed t a b k) x x')
  compare o k (plan_left {a = a} {b = b} x) (plan_right x') = compare_left_right a b k (look t s o x) (look t s o x')
  compare o k (plan_right {a = a} {b = b} x) (plan_left x') = compare_right_left a b k (look t s o x) (look t s o x')
  compare o k (plan_right {a = a} {b = b} x) (plan_right x') =
      compare_up (λ n u. last_alt_right t a b n u) (compare o (alt_right_typed t a b k) x x')
  compare o k plan_skip plan_skip = same refl refl
  compare o k plan_none plan_none = same refl refl
  compare o k (plan_none {a = a}) (plan_more x' y') = compare_more a k (look t s o x') (forward t s y')
  compare o k (plan_more {a = a} x y) plan_none = compare_none a k (look t s o x) (forward t s y)
  compare o k (plan_more {a = a} x y) (plan_more x' y') =
      compare_many a k (compare o (many_typed t a k) x x') (λ d. compare o k y d) y' (look t s o y) (look t s o y')

  -- nothing is ambiguous
  pub one_forest : (o : Typed t) {p : Plan} {i j : ℕ} {f g g' : Forest} → T (typed t p) →
      PlanDerives t.plan s p i j f g → PlanDerives t.plan s p i j f g' → g' ≡ g
  one_forest o k d d' = go (compare o k d d')
    where
      go : {p : Plan} {j : ℕ} {g g' : Forest} → Comparison t s p j j g g' → g' ≡ g
      go (same e e') = e'
      go (less h u) = absurd (omega arith)
      go (more h u) = absurd (omega arith)
