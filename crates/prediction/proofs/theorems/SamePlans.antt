-- The rules of a checked edition and its plans derive the same forests.
-- Frame by frame: the test of each frame changes its rule into its plan, and back.
use Prim.Native.Nat.{ℕ, zero, suc, ◌+◌, ◌≤◌, ◌<◌}
use mathlib.Core.Path.{◌≡◌, ap, sym, ◌∙◌, subst}
use mathlib.Core.Logic.{◌⊎◌, inl, inr}
use mathlib.Core.Bool.{not}
use mathlib.Core.List.{List, [], ◌∷◌}
use native.Mathlib.Nat.{add-zero, zero-add, add-suc, suc-add}
use native.Mathlib.Omega.{arith}
use lib.Dec.{T, ltb, ltb→lt, nltb→le}
use lib.ListN.{get_or, length, get_or-eq_default}
use Rattle.grammar.specs.Derivation.{Derives}
use Rattle.grammar.specs.Forest.{Forest, end}
use Rattle.grammar.specs.Rule.{RightSide, nothing, Edition, right_side}
use Rattle.grammar.proofs.Sets.{and_left, and_right}
use Rattle.prediction.specs.plans.Plan.{Plan, wrap, seq, skip, PlanDerives}
use Rattle.prediction.specs.plans.RulesAsPlans.{as_plan, rule_plan}
use Rattle.prediction.specs.plans.Prediction.{Way, opened}
use Rattle.prediction.specs.validator.Equivalence.{fits}
use Rattle.prediction.specs.validator.Fixpoint.{plan_at, round}
use Rattle.prediction.specs.validator.Check.{table, fit_from, Checked, plans_of, table_of}
use Rattle.prediction.proofs.Sets.{decide}
use Rattle.prediction.proofs.plans.RulesAsPlans.{to_rule_plans, from_rule_plans}
use Rattle.prediction.proofs.validator.Equivalence.{lift, fits_to, fits_from}
use Rattle.prediction.proofs.validator.Check.{rules_long, plans_long, all_fit}

module _ {E : Edition} (c : Checked E) where
  ways_of : List Way
  ways_of = c.prediction.ways

  fit_at : (r p : ℕ → Plan) (i : ℕ) (ws : List Way) → T (fit_from r p i ws) → (k : ℕ) → k < length ws →
      T (fits r p (i + k) (get_or ws k (opened [])))
  unfolding fit_from
  fit_at r p i [] u k h = absurd (omega arith)
  fit_at r p i (w ∷ ws) u zero h = rw add-zero (and_left (fits r p i w) (fit_from r p (suc i) ws) u)
  fit_at r p i (w ∷ ws) u (suc k) h =
      rw (add-suc, ← suc-add)
      (fit_at r p (suc i) ws (and_right (fits r p i w) (fit_from r p (suc i) ws) u) k (omega arith))

  fit_number : (n : ℕ) → n < length ways_of →
      T (fits (rule_plan E) (plan_at (plans_of c)) n (get_or ways_of n (opened [])))
  unfolding ways_of
  fit_number n h =
      subst (λ (k : ℕ). T
      (fits (rule_plan E) (plan_at (plans_of c)) k (get_or c.prediction.ways n (opened [])))) (zero-add n)
      (fit_at (rule_plan E) (plan_at (plans_of c)) 0 c.prediction.ways (all_fit c) n h)

  -- past the lists both say the same
  past_end : (n : ℕ) → length ways_of ≤ n → rule_plan E n ≡ plan_at (plans_of c) n
  unfolding ways_of right_side plan_at as_plan
  past_end n h =
      let a : get_or E.rules n nothing ≡
      nothing = get_or-eq_default E.rules nothing {n = n} (rw (rules_long c) h) in
      let b : get_or (plans_of c) n (seq skip (wrap n)) ≡ seq skip
      (wrap n) = get_or-eq_default (plans_of c) (seq skip (wrap n)) {n = n} (rw (plans_long c) h) in
      ap (λ (e : RightSide). seq (as_plan e) (wrap n)) a ∙ sym b

  module _ (s : ℕ → ℕ) where
    frame_to : (n i j : ℕ) (g : Forest) → PlanDerives (plan_at (plans_of c)) s (rule_plan E n) i j end g →
        PlanDerives (plan_at (plans_of c)) s (plan_at (plans_of c) n) i j end g
    frame_to n i j g d = go (decide (ltb n (length ways_of)))
      where
        go : T (ltb n (length ways_of)) ⊎ T (not (ltb n (length ways_of))) →
            PlanDerives (plan_at (plans_of c)) s (plan_at (plans_of c) n) i j end g
        go (inl u) =
            fits_to (rule_plan E) (plan_at (plans_of c)) s n (get_or ways_of n (opened []))
            (fit_number n (ltb→lt n (length ways_of) u)) i j g d
        go (inr u) =
            subst (λ (z : Plan). PlanDerives (plan_at (plans_of c)) s z i j end g)
            (past_end n (nltb→le n (length ways_of) u)) d

    frame_from : (n i j : ℕ) (g : Forest) → PlanDerives (rule_plan E) s (plan_at (plans_of c) n) i j end g →
        PlanDerives (rule_plan E) s (rule_plan E n) i j end g
    frame_from n i j g d = go (decide (ltb n (length ways_of)))
      where
        go : T (ltb n (length ways_of)) ⊎ T (not (ltb n (length ways_of))) →
            PlanDerives (rule_plan E) s (rule_plan E n) i j end g
        go (inl u) =
            fits_from (rule_plan E) (plan_at (plans_of c)) s n (get_or ways_of n (opened []))
            (fit_number n (ltb→lt n (length ways_of) u)) i j g d
        go (inr u) =
            subst (λ (z : Plan). PlanDerives (rule_plan E) s z i j end g)
            (sym (past_end n (nltb→le n (length ways_of) u))) d

    pub to_plans : {e : RightSide} {i j : ℕ} {f g : Forest} → Derives E s e i j f g →
        PlanDerives (table_of c).plan s (as_plan e) i j f g
    unfolding table round
    to_plans d = lift (rule_plan E) (plan_at (plans_of c)) s frame_to (to_rule_plans d)

    pub from_plans : (e : RightSide) {i j : ℕ} {f g : Forest} → PlanDerives (table_of c).plan s (as_plan e) i j f g →
        Derives E s e i j f g
    unfolding table round
    from_plans e d = from_rule_plans e (lift (plan_at (plans_of c)) (rule_plan E) s frame_from d)
