-- The records of a derivation number at most 32 for each token.
-- By induction on what a plan derives, over the weights of the plans, which the test of the edition keeps.
use Prim.Native.Nat.{ℕ, suc, ◌+◌, ◌*◌, ◌≤◌}
use mathlib.Core.Path.{ap}
use mathlib.Core.List.{List}
use native.Mathlib.Omega.{arith}
use lib.Dec.{T, leb, leb→le}
use lib.ListN.{length}
use Rattle.grammar.specs.Forest.{Forest, nodes}
use Rattle.grammar.proofs.Forest.{nodes_join}
use Rattle.grammar.proofs.Sets.{and_left, and_right}
use Rattle.grammar.specs.Derivation.{kind_at, Derivation}
use Rattle.grammar.specs.Record.{records}
use Rattle.grammar.proofs.Record.{records_nodes}
use Rattle.grammar.specs.Rule.{Edition}
use Rattle.prediction.specs.plans.Plan.{Plan, call, PlanDerives, plan_token, plan_group, plan_call, plan_wrap}
use Rattle.prediction.specs.plans.Plan.{plan_seq, plan_left, plan_right, plan_skip, plan_none, plan_more}
use Rattle.prediction.specs.plans.RulesAsPlans.{as_plan}
use Rattle.prediction.specs.validator.Typing.{Table}
use Rattle.prediction.specs.validator.Conditions.{weight, weighed}
use Rattle.prediction.specs.validator.Fixpoint.{caps}
use Rattle.prediction.specs.validator.Check.{rounds, Checked, plans_of, table_of}
use Rattle.prediction.proofs.validator.Check.{all_weighed, all_capped, start_capped}
use Rattle.prediction.proofs.theorems.SamePlans.{to_plans}

module _ (t : Table) (s : ℕ → ℕ) (cap : ℕ → ℕ) (kept : (n : ℕ) → T (weighed cap (t.plan n)))
    (capped : (n : ℕ) → weight cap (t.plan n) ≤ cap n) where
  weighs : {p : Plan} {i j : ℕ} {f g : Forest} → T (weighed cap p) → PlanDerives t.plan s p i j f g →
      nodes g + 1000 + 32 * i ≤ nodes f + weight cap p + 32 * j
  unfolding nodes weight weighed
  weighs u (plan_token e) = omega arith
  weighs u (plan_group e d e') = let h = weighs u d in omega arith
  weighs u (plan_call {n = n} {f = f} {h = h} d e) =
      let x = weighs (kept n) d in
      let y = capped n in
      let z = nodes_join f h in
      let w = ap nodes e in
      omega arith
  weighs u plan_wrap = omega arith
  weighs u (plan_seq {a = a} {b = b} x y) =
      let h = weighs (and_left (weighed cap a) (weighed cap b) u) x in
      let h' = weighs (and_right (weighed cap a) (weighed cap b) u) y in
      omega arith
  weighs u (plan_left {a = a} {b = b} x) =
      let h = weighs (and_left (weighed cap a) (weighed cap b) u) x in
      omega arith
  weighs u (plan_right {a = a} {b = b} x) =
      let h = weighs (and_right (weighed cap a) (weighed cap b) u) x in
      omega arith
  weighs u plan_skip = omega arith
  weighs u plan_none = omega arith
  weighs u (plan_more {a = a} x y) =
      let h = weighs (and_left (weighed cap a) (leb (weight cap a) 1000) u) x in
      let h' = weighs u y in
      let k = leb→le (weight cap a) 1000 (and_right (weighed cap a) (leb (weight cap a) 1000) u) in
      omega arith

module _ {E : Edition} (c : Checked E) where
  nodes_bounded : (ks : List ℕ) (g : Forest) → Derivation E ks g → nodes g ≤ 32 * length ks
  unfolding Derivation as_plan weighed weight nodes
  nodes_bounded ks g d =
      let h = weighs (table_of c) (kind_at ks) (caps (plans_of c) (suc rounds)) (all_weighed c) (all_capped c) {p =
      call E.start} tt (to_plans c (kind_at ks) d) in
      let k = start_capped c in
      omega arith

  pub bounded : (ks : List ℕ) (g : Forest) → Derivation E ks g → length (records E 0 g) ≤ 32 * length ks
  bounded ks g d = let h = nodes_bounded ks g d in let k = records_nodes E 0 g in omega arith
