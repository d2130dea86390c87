-- Plans that the test calls the same are equal.
-- The test decides equality.
use mathlib.Core.Path.{◌≡◌}
use native.Mathlib.Decide.{ℕ_discrete}
use lib.Dec.{T}
use Rattle.prediction.specs.plans.Plan.{Plan, Plan-discrete, is_so, same_plan}

so_is : {A : Type 0} (d : Dec A) → T (is_so d) → A
unfolding is_so
so_is (yes a) u = a
so_is (no h) u = absurd u

pub same_plan_equal : (p q : Plan) → T (same_plan p q) → p ≡ q
unfolding same_plan
same_plan_equal p q u = so_is (Plan-discrete ℕ_discrete p q) u
