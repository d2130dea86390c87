-- No reader and no derivation goes past the last token.
-- By induction: each reads a kind above 0, and the kinds past the end are 0.
use Prim.Native.Nat.{ℕ, ◌≤◌, ◌<◌}
use mathlib.Core.Path.{◌≡◌}
use mathlib.Core.Logic.{◌⊎◌, inl, inr}
use mathlib.Core.Bool.{not}
use mathlib.Core.List.{List}
use native.Mathlib.Omega.{arith}
use lib.Dec.{T, ltb, ltb→lt, nltb→le}
use lib.ListN.{length, get_or-eq_default}
use Rattle.grammar.specs.Derivation.{kind_at}
use Rattle.grammar.specs.Forest.{Forest}
use Rattle.prediction.specs.plans.Plan.{Plan, PlanDerives, plan_token, plan_group, plan_call, plan_wrap, plan_seq}
use Rattle.prediction.specs.plans.Plan.{plan_left, plan_right, plan_skip, plan_none, plan_more}
use Rattle.prediction.specs.validator.Typing.{Table, typed, Typed}
use Rattle.prediction.specs.Interpreter.{Outcome, stop, Runs, run_token, run_miss, run_shut, run_deep, run_inside}
use Rattle.prediction.specs.Interpreter.{run_group, run_unclosed, run_call, run_call_stop, run_wrap, run_seq}
use Rattle.prediction.specs.Interpreter.{run_seq_stop, run_left, run_right, run_neither, run_skip, run_last}
use Rattle.prediction.specs.Interpreter.{run_more, run_more_stop}
use Rattle.prediction.proofs.Sets.{decide}
use Rattle.prediction.proofs.validator.Typing.{seq_left_typed, seq_right_typed, alt_left_typed, alt_right_typed}
use Rattle.prediction.proofs.validator.Typing.{many_typed, group_typed, token_positive, group_positive}

pub zero_past : (ks : List ℕ) (q : ℕ) → length ks ≤ q → kind_at ks q ≡ 0
zero_past ks q h = get_or-eq_default ks 0 {n = q} h

module _ (t : Table) (o : Typed t) (s : ℕ → ℕ) (n : ℕ) (z : (q : ℕ) → n ≤ q → s q ≡ 0) where
  pub reads_on : (i k : ℕ) → s i ≡ k → 0 < k → i < n
  reads_on i k e h = go (decide (ltb i n))
    where
      go : T (ltb i n) ⊎ T (not (ltb i n)) → i < n
      go (inl u) = ltb→lt i n u
      go (inr u) = let y = z i (nltb→le i n u) in absurd (omega arith)

  pub inside : {p : Plan} {i j : ℕ} {f g : Forest} → T (typed t p) → i ≤ n → PlanDerives t.plan s p i j f g → j ≤ n
  inside k h (plan_token {k = m} {i = i} e) = reads_on i m e (token_positive t m k)
  inside k h (plan_group {o = a} {c = c} {m = m} {b = b} e d e') = reads_on m c e' (group_positive t a c b k).1
  inside k h (plan_call {n = m} d e) = inside (o.plan_typed m) h d
  inside k h plan_wrap = h
  inside k h (plan_seq {a = a} {b = b} x y) = inside (seq_right_typed t a b k) (inside (seq_left_typed t a b k) h x) y
  inside k h (plan_left {a = a} {b = b} x) = inside (alt_left_typed t a b k) h x
  inside k h (plan_right {a = a} {b = b} x) = inside (alt_right_typed t a b k) h x
  inside k h plan_skip = h
  inside k h plan_none = h
  inside k h (plan_more {a = a} x y) = inside k (inside (many_typed t a k) h x) y

  pub inside_run : {d i : ℕ} {p : Plan} {f : Forest} {x : Outcome} → T (typed t p) → i ≤ n → Runs t s d p i f x →
      stop x ≤ n
  unfolding stop
  inside_run k h (run_token {k = m} {i = i} e) = reads_on i m e (token_positive t m k)
  inside_run k h (run_miss e) = h
  inside_run k h (run_shut e) = h
  inside_run k h (run_deep e) = h
  inside_run k h (run_inside {o = a} {c = c} {i = i} {b = b} e r y) =
      inside_run (group_typed t a c b k) (reads_on i a e (group_positive t a c b k).0) r
  inside_run k h (run_group {o = a} {c = c} {m = m} {b = b} e r e') = reads_on m c e' (group_positive t a c b k).1
  inside_run k h (run_unclosed {o = a} {c = c} {i = i} {b = b} e r y) =
      inside_run (group_typed t a c b k) (reads_on i a e (group_positive t a c b k).0) r
  inside_run k h (run_call {n = m} r e) = inside_run (o.plan_typed m) h r
  inside_run k h (run_call_stop {n = m} r y) = inside_run (o.plan_typed m) h r
  inside_run k h run_wrap = h
  inside_run k h (run_seq {a = a} {b = b} r r') =
      inside_run (seq_right_typed t a b k) (inside_run (seq_left_typed t a b k) h r) r'
  inside_run k h (run_seq_stop {a = a} {b = b} r y) = inside_run (seq_left_typed t a b k) h r
  inside_run k h (run_left {a = a} {b = b} u r) = inside_run (alt_left_typed t a b k) h r
  inside_run k h (run_right {a = a} {b = b} u v r) = inside_run (alt_right_typed t a b k) h r
  inside_run k h (run_neither u v) = h
  inside_run k h run_skip = h
  inside_run k h (run_last u) = h
  inside_run k h (run_more {a = a} u r r') = inside_run k (inside_run (many_typed t a k) h r) r'
  inside_run k h (run_more_stop {a = a} u r y) = inside_run (many_typed t a k) h r
