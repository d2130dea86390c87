-- What the reader accepts is derived, and no reader goes back.
-- By induction on the run.
use Prim.Native.Nat.{ℕ, ◌≤◌}
use native.Mathlib.Omega.{arith}
use Rattle.grammar.specs.Forest.{Forest}
use Rattle.prediction.specs.plans.Plan.{Plan, PlanDerives, plan_token, plan_group, plan_call, plan_wrap, plan_seq}
use Rattle.prediction.specs.plans.Plan.{plan_left, plan_right, plan_skip, plan_none, plan_more}
use Rattle.prediction.specs.validator.Typing.{Table}
use Rattle.prediction.specs.Interpreter.{Outcome, done, stop, stopped, Runs, run_token, run_miss, run_shut}
use Rattle.prediction.specs.Interpreter.{run_deep, run_inside, run_group, run_unclosed, run_call, run_call_stop}
use Rattle.prediction.specs.Interpreter.{run_wrap, run_seq, run_seq_stop, run_left, run_right, run_neither}
use Rattle.prediction.specs.Interpreter.{run_skip, run_last, run_more, run_more_stop}

module _ {t : Table} {s : ℕ → ℕ} where
  -- what is accepted is derived
  pub sound : {d i j : ℕ} {p : Plan} {f g : Forest} → Runs t s d p i f (done j g) → PlanDerives t.plan s p i j f g
  unfolding stopped
  sound (run_token e) = plan_token e
  sound (run_inside e r z) = absurd z
  sound (run_group e r e') = plan_group e (sound r) e'
  sound (run_call r e) = plan_call (sound r) e
  sound (run_call_stop r z) = absurd z
  sound run_wrap = plan_wrap
  sound (run_seq a b) = plan_seq (sound a) (sound b)
  sound (run_seq_stop a z) = absurd z
  sound (run_left u a) = plan_left (sound a)
  sound (run_right u v a) = plan_right (sound a)
  sound run_skip = plan_skip
  sound (run_last u) = plan_none
  sound (run_more u a b) = plan_more (sound a) (sound b)
  sound (run_more_stop u a z) = absurd z

  pub ahead : {d i : ℕ} {p : Plan} {f : Forest} {x : Outcome} → Runs t s d p i f x → i ≤ stop x
  unfolding stop
  ahead (run_token e) = omega arith
  ahead (run_miss e) = omega arith
  ahead (run_shut e) = omega arith
  ahead (run_deep e) = omega arith
  ahead (run_inside e r z) = let h = ahead r in omega arith
  ahead (run_group e r e') = let h = ahead r in omega arith
  ahead (run_unclosed e r e') = let h = ahead r in omega arith
  ahead (run_call r e) = ahead r
  ahead (run_call_stop r z) = ahead r
  ahead run_wrap = omega arith
  ahead (run_seq a b) = let h = ahead a in let h' = ahead b in omega arith
  ahead (run_seq_stop a z) = ahead a
  ahead (run_left u a) = ahead a
  ahead (run_right u v a) = ahead a
  ahead (run_neither u v) = omega arith
  ahead run_skip = omega arith
  ahead (run_last u) = omega arith
  ahead (run_more u a b) = let h = ahead a in let h' = ahead b in omega arith
  ahead (run_more_stop u a z) = ahead a
