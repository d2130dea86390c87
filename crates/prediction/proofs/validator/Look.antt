-- A plan reads nothing only if it may be empty, and begins with a kind that it may begin with.
-- By induction on what the plan derives.
use Prim.Native.Nat.{ℕ, ◌≤◌, ◌<◌}
use mathlib.Core.Path.{◌≡◌, refl}
use native.Mathlib.Omega.{arith}
use lib.Dec.{T}
use Rattle.grammar.specs.Forest.{Forest}
use Rattle.grammar.specs.Sets.{elem}
use Rattle.prediction.specs.Sets.{only}
use Rattle.prediction.specs.plans.Plan.{Plan, call, seq, alt, many, PlanDerives, plan_token, plan_group}
use Rattle.prediction.specs.plans.Plan.{plan_call, plan_wrap, plan_seq, plan_left, plan_right, plan_skip}
use Rattle.prediction.specs.plans.Plan.{plan_none, plan_more}
use Rattle.prediction.specs.validator.Typing.{Table, null, first, Typed}
use Rattle.prediction.proofs.Sets.{or_left, or_right, elem_left, elem_right, elem_only, elem_eq, and_both}

-- nothing is read and the plan may be empty, or the first kind is one that it may begin with
pub data Look (t : Table) (s : ℕ → ℕ) (p : Plan) (i j : ℕ) : Type 0 where
  look_nothing : j ≡ i → T (null t p) → Look t s p i j
  look_some : i < j → T (elem (s i) (first t p)) → Look t s p i j

module _ (t : Table) (s : ℕ → ℕ) where
  look_seq : {a b : Plan} {i m j : ℕ} → Look t s a i m → Look t s b m j → Look t s (seq a b) i j
  unfolding null first
  look_seq {a} {b} {i} {m} (look_nothing e n) (look_nothing e' n') =
      look_nothing (cc) (and_both (null t a) (null t b) n n')
  look_seq {a} {b} {i} {m} (look_nothing e n) (look_some h u) =
      look_some (omega arith) (elem_right (s i) (first t a) (only (null t a) (first t b))
      (elem_only (s i) (null t a) (first t b) n (rw e at u)))
  look_seq {a} {b} {i} {m} (look_some h u) (look_nothing e n) =
      look_some (omega arith) (elem_left (s i) (first t a) (only (null t a) (first t b)) u)
  look_seq {a} {b} {i} {m} (look_some h u) (look_some h' u') =
      look_some (omega arith) (elem_left (s i) (first t a) (only (null t a) (first t b)) u)

  look_left : {a b : Plan} {i j : ℕ} → Look t s a i j → Look t s (alt a b) i j
  unfolding null first
  look_left {a} {b} {i} (look_nothing e n) = look_nothing e (or_left (null t a) (null t b) n)
  look_left {a} {b} {i} (look_some h u) = look_some h (elem_left (s i) (first t a) (first t b) u)

  look_right : {a b : Plan} {i j : ℕ} → Look t s b i j → Look t s (alt a b) i j
  unfolding null first
  look_right {a} {b} {i} (look_nothing e n) = look_nothing e (or_right (null t a) (null t b) n)
  look_right {a} {b} {i} (look_some h u) = look_some h (elem_right (s i) (first t a) (first t b) u)

  look_more : {a : Plan} {i m j : ℕ} → Look t s a i m → Look t s (many a) m j → Look t s (many a) i j
  unfolding null first
  look_more {a} {i} {m} (look_nothing e n) (look_nothing e' n') = look_nothing (cc) tt
  look_more {a} {i} {m} (look_nothing e n) (look_some h u) = look_some (omega arith) (rw e at u)
  look_more {a} {i} {m} (look_some h u) (look_nothing e n) = look_some (omega arith) u
  look_more {a} {i} {m} (look_some h u) (look_some h' u') = look_some (omega arith) u

  look_call : (o : Typed t) {n i j : ℕ} → Look t s (t.plan n) i j → Look t s (call n) i j
  unfolding null first
  look_call o {n} {i} (look_nothing e h) = look_nothing e (o.null_holds n h)
  look_call o {n} {i} (look_some h u) = look_some h (o.first_holds n (s i) u)

  pub forward : {p : Plan} {i j : ℕ} {f g : Forest} → PlanDerives t.plan s p i j f g → i ≤ j
  forward (plan_token e) = omega arith
  forward (plan_group e d e') = let h = forward d in omega arith
  forward (plan_call d e) = forward d
  forward plan_wrap = omega arith
  forward (plan_seq a b) = let h = forward a in let h' = forward b in omega arith
  forward (plan_left a) = forward a
  forward (plan_right a) = forward a
  forward plan_skip = omega arith
  forward plan_none = omega arith
  forward (plan_more a b) = let h = forward a in let h' = forward b in omega arith

  pub look : (o : Typed t) {p : Plan} {i j : ℕ} {f g : Forest} → PlanDerives t.plan s p i j f g → Look t s p i j
  unfolding null first
  look o (plan_token {k = k} {i = i} e) = look_some (omega arith) (elem_eq (s i) k e)
  look o (plan_group {o = k} {i = i} e d e') = let h = forward d in look_some (omega arith) (elem_eq (s i) k e)
  look o (plan_call d e) = look_call o (look o d)
  look o plan_wrap = look_nothing refl tt
  look o (plan_seq a b) = look_seq (look o a) (look o b)
  look o (plan_left a) = look_left (look o a)
  look o (plan_right a) = look_right (look o a)
  look o plan_skip = look_nothing refl tt
  look o plan_none = look_nothing refl tt
  look o (plan_more a b) = look_more (look o a) (look o b)
