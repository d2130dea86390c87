-- Derivation by the rules of an edition is derivation by the same rules read as plans.
-- By induction on the derivation, each way.
use Prim.Native.Nat.{ℕ}
use mathlib.Core.Path.{refl, sym, subst}
use Rattle.grammar.specs.Derivation.{Derives, derive_terminal, derive_rule, derive_sequence, derive_left, derive_right}
use Rattle.grammar.specs.Derivation.{derive_nothing, derive_none, derive_more}
use Rattle.grammar.specs.Forest.{Forest, join}
use Rattle.grammar.specs.Rule.{RightSide, terminal, nonterminal, sequence, choice, nothing, repeat, Edition, right_side}
use Rattle.prediction.specs.plans.Plan.{Plan, token, call, seq, alt, skip, many, PlanDerives, plan_token}
use Rattle.prediction.specs.plans.Plan.{plan_call, plan_wrap, plan_seq, plan_left, plan_right, plan_skip}
use Rattle.prediction.specs.plans.Plan.{plan_none, plan_more, plan_group}
use Rattle.prediction.specs.plans.RulesAsPlans.{as_plan, rule_plan}

module _ {E : Edition} {s : ℕ → ℕ} where
  pub to_rule_plans : {e : RightSide} {i j : ℕ} {f g : Forest} → Derives E s e i j f g →
      PlanDerives (rule_plan E) s (as_plan e) i j f g
  unfolding as_plan join
  to_rule_plans (derive_terminal e) = plan_token e
  to_rule_plans (derive_rule d) = plan_call (plan_seq (to_rule_plans d) plan_wrap) refl
  to_rule_plans (derive_sequence a b) = plan_seq (to_rule_plans a) (to_rule_plans b)
  to_rule_plans (derive_left a) = plan_left (to_rule_plans a)
  to_rule_plans (derive_right a) = plan_right (to_rule_plans a)
  to_rule_plans derive_nothing = plan_skip
  to_rule_plans derive_none = plan_none
  to_rule_plans (derive_more a b) = plan_more (to_rule_plans a) (to_rule_plans b)

-- the plan is that of the right side
data AsPlan : RightSide → Plan → Type 0 where
  as_token : {k : ℕ} → AsPlan (terminal k) (token k)
  as_call : {r : ℕ} → AsPlan (nonterminal r) (call r)
  as_seq : {a b : RightSide} {x y : Plan} → AsPlan a x → AsPlan b y → AsPlan (sequence a b) (seq x y)
  as_alt : {a b : RightSide} {x y : Plan} → AsPlan a x → AsPlan b y → AsPlan (choice a b) (alt x y)
  as_skip : AsPlan nothing skip
  as_many : {a : RightSide} {x : Plan} → AsPlan a x → AsPlan (repeat a) (many x)

is_plan : (e : RightSide) → AsPlan e (as_plan e)
unfolding as_plan
is_plan (terminal k) = as_token
is_plan (nonterminal r) = as_call
is_plan (sequence a b) = as_seq (is_plan a) (is_plan b)
is_plan (choice a b) = as_alt (is_plan a) (is_plan b)
is_plan nothing = as_skip
is_plan (repeat a) = as_many (is_plan a)

module _ {E : Edition} {s : ℕ → ℕ} where
  from_plan : {e : RightSide} {p : Plan} {i j : ℕ} {f g : Forest} → PlanDerives (rule_plan E) s p i j f g →
      AsPlan e p → Derives E s e i j f g
  unfolding join
  from_plan (plan_token e) as_token = derive_terminal e
  from_plan (plan_call {n = n} {i = i} {j = j} {f = f} (plan_seq x plan_wrap) e) as_call =
      subst (λ (z : Forest). Derives E s (nonterminal n) i j f z) (sym e)
      (derive_rule (from_plan {e = right_side E n} x (is_plan (right_side E n))))
  from_plan (plan_seq a b) (as_seq x y) = derive_sequence (from_plan a x) (from_plan b y)
  from_plan (plan_left a) (as_alt x y) = derive_left (from_plan a x)
  from_plan (plan_right a) (as_alt x y) = derive_right (from_plan a y)
  from_plan plan_skip as_skip = derive_nothing
  from_plan plan_none (as_many x) = derive_none
  from_plan (plan_more a b) (as_many x) = derive_more (from_plan a x) (from_plan b (as_many x))
  from_plan (plan_group x d y) e = elim e [ ]
  from_plan plan_wrap e = elim e [ ]

  pub from_rule_plans : (e : RightSide) {i j : ℕ} {f g : Forest} → PlanDerives (rule_plan E) s (as_plan e) i j f g →
      Derives E s e i j f g
  from_rule_plans e d = from_plan d (is_plan e)
