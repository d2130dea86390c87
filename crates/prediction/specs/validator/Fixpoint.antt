-- What is claimed of each frame, computed from the plans by rounds, and the test that a round more changes nothing.
-- Definitions alone.
use Rattle.std.specs.Prelude.{ℕ, zero, suc, Bool, true, false, not, ◌&&◌, ◌||◌, List, [], ◌∷◌, leb, get_or}
use Rattle.prediction.specs.Sets.{subset}
use Rattle.prediction.specs.plans.Plan.{Plan, wrap, seq, skip}
use Rattle.prediction.specs.validator.Typing.{Table, null, first, follow_last, typed}
use Rattle.prediction.specs.validator.Conditions.{produces, marked, weight, weighed, left_within}

-- the plan of rule n; past the list it is nothing, as the rule n
unfoldable pub plan_at : List Plan → ℕ → Plan
plan_at ps n = get_or ps n (seq skip (wrap n))

-- what k rounds tell: nothing at first, then what each plan says by the round before
unfoldable pub round : List Plan → ℕ → Table
unfolding plan_at null first follow_last
round ps zero = record { plan = plan_at ps; null_of = λ n. false; first_of = λ n. []; follow_last_of = λ n. [] }
round ps (suc k) = record {
  plan = plan_at ps;
  null_of = λ n. null (round ps k) (plan_at ps n);
  first_of = λ n. first (round ps k) (plan_at ps n);
  follow_last_of = λ n. follow_last (round ps k) (plan_at ps n);
}

unfoldable pub by_number : (Plan → ℕ) → List Plan → List ℕ
by_number w [] = []
by_number w (p ∷ ps) = w p ∷ by_number w ps

-- past the list a plan weighs as one node
unfoldable pub weight_in : List ℕ → ℕ → ℕ
weight_in ws n = get_or ws n 1001

-- the weight of each frame after k rounds
unfoldable pub caps : List Plan → ℕ → ℕ → ℕ
unfolding weight by_number weight_in
caps ps zero = λ n. 0
caps ps (suc k) = weight_in (by_number (weight (caps ps k)) ps)

unfoldable pub implies : Bool → Bool → Bool
implies a b = not a || b

-- a plan keeps its claims: t is a round after t', and so are the weights w after w'
unfoldable pub settled : (t' t : Table) (produced founded : ℕ → Bool) (w' w : ℕ → ℕ) → Plan → Bool
unfolding null first follow_last typed subset marked produces left_within weight weighed implies
settled t' t produced founded w' w p =
    typed t p &&
    ((implies (null t p) (null t' p) && implies (null t' p) (null t p)) &&
    ((subset (first t p) (first t' p) && subset (follow_last t p) (follow_last t' p)) &&
    ((marked p && (produces produced p && left_within t founded p)) &&
    (weighed w p && leb (weight w p) (weight w' p)))))

unfoldable pub every : (Plan → Bool) → List Plan → Bool
every f [] = true
every f (p ∷ ps) = f p && every f ps
