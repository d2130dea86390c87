-- A rule that two lists of plans share has the same plan in both but for the numbers, and names shared rules alone.
-- By the law of a test over a list.
use Prim.Native.Nat.{ℕ}
use mathlib.Core.Path.{◌≡◌}
use mathlib.Core.List.{List}
use lib.Dec.{T}
use Rattle.grammar.specs.Sets.{elem}
use Rattle.prediction.specs.Sets.{each}
use Rattle.prediction.specs.plans.Plan.{Plan, same_plan}
use Rattle.prediction.specs.validator.Fixpoint.{plan_at}
use Rattle.prediction.specs.sharing.Renaming.{Inside, renamed, inside}
use Rattle.prediction.specs.sharing.Shared.{agrees}
use Rattle.prediction.proofs.Sets.{and_left, and_right, each_at}
use Rattle.prediction.proofs.plans.Plan.{same_plan_equal}
use Rattle.prediction.proofs.sharing.Renaming.{inside_holds}

module _ (number : ℕ → ℕ) (ps qs : List Plan) (S : List ℕ) (passed : T (each (agrees number ps qs S) S)) (n : ℕ)
    (v : T (elem n S)) where
  agreed : T (agrees number ps qs S n)
  agreed = each_at (agrees number ps qs S) S n passed v

  pub plan_same : plan_at qs (number n) ≡ renamed number (plan_at ps n)
  unfolding agrees
  plan_same =
      same_plan_equal (plan_at qs (number n)) (renamed number (plan_at ps n))
      (and_left (same_plan (plan_at qs (number n)) (renamed number (plan_at ps n))) (inside S (plan_at ps n)) agreed)

  pub plan_inside : Inside (λ k. elem k S) (plan_at ps n)
  unfolding agrees
  plan_inside =
      inside_holds S (plan_at ps n)
      (and_right (same_plan (plan_at qs (number n)) (renamed number (plan_at ps n))) (inside S (plan_at ps n)) agreed)
