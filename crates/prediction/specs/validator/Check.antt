-- The test of an edition: computed once, it gives every theorem for that edition.
-- Definitions; what a passed test says is shown in proofs/validator/Check.antt.
use Rattle.std.specs.Prelude.{ℕ, suc, Bool, true, false, not, ◌&&◌, List, [], ◌∷◌, T, eqb, leb, length}
use Rattle.grammar.proofs.Nesting.{nests}
use Rattle.grammar.specs.Rule.{Edition, right_side}
use Rattle.grammar.specs.Sets.{elem}
use Rattle.prediction.specs.plans.Plan.{Plan, call}
use Rattle.prediction.specs.plans.RulesAsPlans.{as_plan, rule_plan}
use Rattle.prediction.specs.plans.Prediction.{Way, Prediction}
use Rattle.prediction.specs.validator.Typing.{Table, follow_last}
use Rattle.prediction.specs.validator.Equivalence.{fits}
use Rattle.prediction.specs.validator.Conditions.{productive, left_founded, leaves_one}
use Rattle.prediction.specs.validator.Fixpoint.{plan_at, round, caps, settled, every}

-- rounds enough for any edition: the test fails where they are not
abbrev pub rounds : ℕ
rounds = 20

unfoldable pub table : Prediction → Table
unfolding round
table p = round p.plans (suc rounds)

unfoldable pub frame_test : Prediction → Plan → Bool
unfolding round settled productive left_founded caps table plan_at
frame_test p =
    settled (round p.plans rounds) (table p) (productive (plan_at p.plans) rounds)
    (left_founded (table p) rounds)
    (caps p.plans rounds) (caps p.plans (suc rounds))

-- the rule and the plan of each number from n on derive the same
unfoldable pub fit_from : (rule plan : ℕ → Plan) → ℕ → List Way → Bool
unfolding fits
fit_from r p n [] = true
fit_from r p n (w ∷ ws) = fits r p n w && fit_from r p (suc n) ws

-- each plan keeps its claims
unfoldable pub plans_settled : Prediction → Bool
unfolding frame_test every
plans_settled p = every (frame_test p) p.plans

-- the rules and the plans derive the same
unfoldable pub rules_fit : Edition → Prediction → Bool
unfolding fit_from as_plan right_side plan_at
rules_fit E p = fit_from (rule_plan E) (plan_at p.plans) 0 p.ways

-- there are as many plans, and ways, as rules
unfoldable pub lengths_agree : Edition → Prediction → Bool
lengths_agree E p = eqb (length E.rules) (length p.ways) && eqb (length p.plans) (length p.ways)

-- the end, whose kind is 0, goes on no text, and a text weighs no more than its tokens
unfoldable pub whole_ends : Edition → Prediction → Bool
unfolding follow_last table elem caps
whole_ends E p =
    not (elem 0 (follow_last (table p) (call E.start))) && leb (caps p.plans (suc rounds) E.start) 1000

-- each plan leaves one node, from nothing on
unfoldable pub all_leave_one : Prediction → Bool
unfolding every leaves_one
all_leave_one p = every (leaves_one false) p.plans

unfoldable pub passes : Edition → Prediction → Bool
unfolding plans_settled rules_fit lengths_agree whole_ends all_leave_one
passes E p = plans_settled p && (rules_fit E p && (all_leave_one p && (lengths_agree E p && whole_ends E p)))

pub record Checked (E : Edition) : Type 0 where
  pub prediction : Prediction
  pub passed : T (passes E prediction)
  pub nested : T (nests E)

module _ {E : Edition} (c : Checked E) where
  abbrev pub plans_of : List Plan
  plans_of = c.prediction.plans

  abbrev pub table_of : Table
  table_of = table c.prediction
