-- The reader stops at the first opening mark that would take depth past the setting.
-- By induction on the run; marks stand in groups, so depth behind a plan is depth before it.
use Prim.Native.Nat.{ℕ, suc, ◌+◌, ◌<◌, pred}
use mathlib.Core.Path.{◌≡◌, refl, sym, ◌∙◌, subst}
use mathlib.Core.Logic.{◌⊎◌, inl, inr}
use mathlib.Core.Bool.{Bool, true, false, not, ◌&&◌}
use native.Mathlib.Omega.{arith}
use lib.Dec.{T, ltb, T_not, ltb→lt, nltb→le}
use Rattle.grammar.specs.Depth.{opening, closing, level, depth, Within}
use Rattle.grammar.specs.Forest.{Forest}
use Rattle.grammar.proofs.Sets.{and_left, and_right}
use Rattle.prediction.specs.plans.Plan.{Plan, token, group, seq, PlanDerives, plan_token, plan_group, plan_call}
use Rattle.prediction.specs.plans.Plan.{plan_wrap, plan_seq, plan_left, plan_right, plan_skip, plan_none}
use Rattle.prediction.specs.plans.Plan.{plan_more}
use Rattle.prediction.specs.validator.Typing.{Table}
use Rattle.prediction.specs.validator.Conditions.{marked}
use Rattle.prediction.specs.Interpreter.{Outcome, done, blame, deep, Runs, run_token, run_miss, run_shut}
use Rattle.prediction.specs.Interpreter.{run_deep, run_inside, run_group, run_unclosed, run_call, run_call_stop}
use Rattle.prediction.specs.Interpreter.{run_wrap, run_seq, run_seq_stop, run_left, run_right, run_neither}
use Rattle.prediction.specs.Interpreter.{run_skip, run_last, run_more, run_more_stop}
use Rattle.prediction.proofs.Sets.{decide}
use Rattle.prediction.proofs.correct.Sound.{sound}

level_plain : (s : ℕ → ℕ) (i k : ℕ) → s i ≡ k → T (marked (token k)) → depth s (suc i) ≡ depth s i
unfolding depth marked level
level_plain s i k e u =
    subst (λ (x : ℕ). level (opening x) (closing x) (depth s i) ≡ depth s i) (sym e)
    (go (opening k) (closing k) u)
  where
    go : (a b : Bool) → T (not a && not b) → level a b (depth s i) ≡ depth s i
    go true b u = absurd u
    go false true u = absurd u
    go false false u = refl

level_open : (s : ℕ → ℕ) (i o : ℕ) → s i ≡ o → T (opening o) → depth s (suc i) ≡ suc (depth s i)
unfolding depth level
level_open s i o e u =
    subst (λ (x : ℕ). level (opening x) (closing x) (depth s i) ≡ suc (depth s i)) (sym e)
    (go (opening o) (closing o) u)
  where
    go : (a b : Bool) → T a → level a b (depth s i) ≡ suc (depth s i)
    go true b u = refl
    go false b u = absurd u

level_close : (s : ℕ → ℕ) (i c : ℕ) → s i ≡ c → T (not (opening c) && closing c) → depth s (suc i) ≡ pred (depth s i)
unfolding depth level
level_close s i c e u =
    subst (λ (x : ℕ). level (opening x) (closing x) (depth s i) ≡ pred (depth s i)) (sym e)
    (go (opening c) (closing c) u)
  where
    go : (a b : Bool) → T (not a && b) → level a b (depth s i) ≡ pred (depth s i)
    go true b u = absurd u
    go false true u = refl
    go false false u = absurd u

marked_open : (o c : ℕ) (b : Plan) → T (marked (group o b c)) → T (opening o)
unfolding marked
marked_open o c b u =
    and_left (opening o) (not (opening c) && closing c)
    (and_left (opening o && (not (opening c) && closing c)) (marked b) u)

marked_close : (o c : ℕ) (b : Plan) → T (marked (group o b c)) → T (not (opening c) && closing c)
unfolding marked
marked_close o c b u =
    and_right (opening o) (not (opening c) && closing c)
    (and_left (opening o && (not (opening c) && closing c)) (marked b) u)

marked_body : (o c : ℕ) (b : Plan) → T (marked (group o b c)) → T (marked b)
unfolding marked
marked_body o c b u = and_right (opening o && (not (opening c) && closing c)) (marked b) u

marked_left : (a b : Plan) → T (marked (seq a b)) → T (marked a)
unfolding marked
marked_left a b u = and_left (marked a) (marked b) u

marked_right : (a b : Plan) → T (marked (seq a b)) → T (marked b)
unfolding marked
marked_right a b u = and_right (marked a) (marked b) u

within_none : (s : ℕ → ℕ) (n i : ℕ) → Within s n i i
unfolding Within
within_none s n i q h h' u = absurd (omega arith)

within_append : (s : ℕ → ℕ) (n i m j : ℕ) → Within s n i m → Within s n m j → Within s n i j
unfolding Within
within_append s n i m j a b q h h' u = go (decide (ltb q m))
  where
    go : T (ltb q m) ⊎ T (not (ltb q m)) → depth s q < n
    go (inl v) = a q h (ltb→lt q m v) u
    go (inr v) = b q (nltb→le q m v) h' u

within_one : (s : ℕ → ℕ) (n i : ℕ) → (T (opening (s i)) → depth s i < n) → Within s n i (suc i)
unfolding Within
within_one s n i w q h h' u =
    let e : q ≡ i = omega arith in
    subst (λ (x : ℕ). depth s x < n) (sym e) (w (subst (λ (x : ℕ). T (opening (s x))) e u))

within_plain : (s : ℕ → ℕ) (n i k : ℕ) → s i ≡ k → T (not (opening k)) → Within s n i (suc i)
within_plain s n i k e u = within_one s n i (λ v. absurd (T_not (opening k) u (subst (λ (x : ℕ). T (opening x)) e v)))

-- where the reader stops: every opening mark before is within the setting n, and one that is too deep is not
pub data StopDepth (s : ℕ → ℕ) (n i : ℕ) : Outcome → Type 0 where
  depth_done : {j : ℕ} {g : Forest} → Within s n i j → StopDepth s n i (done j g)
  depth_blame : {q : ℕ} → Within s n i q → StopDepth s n i (blame q)
  depth_deep : {q : ℕ} → Within s n i q → T (opening (s q)) → depth s q ≡ n → StopDepth s n i (deep q)

within_stop : {s : ℕ → ℕ} {n i m : ℕ} {x : Outcome} → Within s n i m → StopDepth s n m x → StopDepth s n i x
within_stop {s} {n} {i} {m} a (depth_done {j = j} b) = depth_done (within_append s n i m j a b)
within_stop {s} {n} {i} {m} a (depth_blame {q = q} b) = depth_blame (within_append s n i m q a b)
within_stop {s} {n} {i} {m} a (depth_deep {q = q} b u e) = depth_deep (within_append s n i m q a b) u e

stop_within : {s : ℕ → ℕ} {n i j : ℕ} {g : Forest} → StopDepth s n i (done j g) → Within s n i j
stop_within (depth_done a) = a

module _ (t : Table) (s : ℕ → ℕ) (w : (n : ℕ) → T (marked (t.plan n))) where
  pub level_kept : {p : Plan} {i j : ℕ} {f g : Forest} → T (marked p) → PlanDerives t.plan s p i j f g →
      depth s j ≡ depth s i
  unfolding marked
  level_kept u (plan_token {k = k} {i = i} e) = level_plain s i k e u
  level_kept u (plan_group {o = o} {c = c} {i = i} {m = m} {b = b} e d e') =
      let x = level_open s i o e (marked_open o c b u) in let y = level_kept (marked_body o c b u) d in
      let z = level_close s m c e' (marked_close o c b u) in omega arith
  level_kept u (plan_call {n = n} d e) = level_kept (w n) d
  level_kept u plan_wrap = refl
  level_kept u (plan_seq {a = a} {b = b} x y) = level_kept (marked_right a b u) y ∙ level_kept (marked_left a b u) x
  level_kept u (plan_left {a = a} {b = b} x) = level_kept (marked_left a b u) x
  level_kept u (plan_right {a = a} {b = b} x) = level_kept (marked_right a b u) x
  level_kept u plan_skip = refl
  level_kept u plan_none = refl
  level_kept u (plan_more x y) = level_kept u y ∙ level_kept u x

  within_open : (n i d : ℕ) → depth s i + suc d ≡ n → Within s n i (suc i)
  within_open n i d h = within_one s n i (λ v. omega arith)

  pub stop_depth : {n d i : ℕ} {p : Plan} {f : Forest} {x : Outcome} → T (marked p) → depth s i + d ≡ n →
      Runs t s d p i f x → StopDepth s n i x
  unfolding marked
  stop_depth {n} u h (run_token {k = k} {i = i} e) =
      depth_done (within_plain s n i k e (and_left (not (opening k)) (not (closing k)) u))
  stop_depth {n} u h (run_miss {i = i} e) = depth_blame (within_none s n i)
  stop_depth {n} u h (run_shut {i = i} e) = depth_blame (within_none s n i)
  stop_depth {n} u h (run_deep {o = o} {c = c} {i = i} {b = b} e) =
      depth_deep (within_none s n i) (subst (λ (x : ℕ). T (opening x)) (sym e) (marked_open o c b u)) (omega arith)
  stop_depth {n} u h (run_inside {d = d} {o = o} {c = c} {i = i} {b = b} e r z) =
      let x = level_open s i o e (marked_open o c b u) in
      within_stop (within_open n i d h) (stop_depth (marked_body o c b u) (omega arith) r)
  stop_depth {n} u h (run_group {d = d} {o = o} {c = c} {i = i} {m = m} {b = b} e r e') =
      let x = level_open s i o e (marked_open o c b u) in
      depth_done (within_append s n i m (suc m)
      (within_append s n i (suc i) m (within_open n i d h)
      (stop_within (stop_depth (marked_body o c b u) (omega arith) r)))
      (within_plain s n m c e' (and_left (not (opening c)) (closing c) (marked_close o c b u))))
  stop_depth {n} u h (run_unclosed {d = d} {o = o} {c = c} {i = i} {m = m} {b = b} e r e') =
      let x = level_open s i o e (marked_open o c b u) in
      depth_blame (within_append s n i (suc i) m (within_open n i d h)
      (stop_within (stop_depth (marked_body o c b u) (omega arith) r)))
  stop_depth u h (run_call {n = k} r e) = depth_done (stop_within (stop_depth (w k) h r))
  stop_depth u h (run_call_stop {n = k} r z) = stop_depth (w k) h r
  stop_depth {n} u h (run_wrap {i = i}) = depth_done (within_none s n i)
  stop_depth {n} u h (run_seq {a = a} {b = b} r r') =
      let y = level_kept (marked_left a b u) (sound r) in
      within_stop (stop_within (stop_depth (marked_left a b u) h r))
      (stop_depth (marked_right a b u) (omega arith) r')
  stop_depth u h (run_seq_stop {a = a} {b = b} r z) = stop_depth (marked_left a b u) h r
  stop_depth u h (run_left {a = a} {b = b} v r) = stop_depth (marked_left a b u) h r
  stop_depth u h (run_right {a = a} {b = b} v v' r) = stop_depth (marked_right a b u) h r
  stop_depth {n} u h (run_neither {i = i} v v') = depth_blame (within_none s n i)
  stop_depth {n} u h (run_skip {i = i}) = depth_done (within_none s n i)
  stop_depth {n} u h (run_last {i = i} v) = depth_done (within_none s n i)
  stop_depth u h (run_more v r r') =
      let y = level_kept u (sound r) in within_stop (stop_within (stop_depth u h r)) (stop_depth u (omega arith) r')
  stop_depth u h (run_more_stop v r z) = stop_depth u h r
