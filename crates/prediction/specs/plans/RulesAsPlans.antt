-- The rules of an edition, read as plans.
-- Definitions; that both derive the same is shown in proofs/plans/RulesAsPlans.antt.
use Rattle.std.specs.Prelude.{ℕ}
use Rattle.grammar.specs.Rule.{RightSide, terminal, nonterminal, sequence, choice, nothing, repeat, Edition, right_side}
use Rattle.prediction.specs.plans.Plan.{Plan, token, call, wrap, seq, alt, skip, many}

-- a right side as a plan
unfoldable pub as_plan : RightSide → Plan
as_plan (terminal k) = token k
as_plan (nonterminal r) = call r
as_plan (sequence a b) = seq (as_plan a) (as_plan b)
as_plan (choice a b) = alt (as_plan a) (as_plan b)
as_plan nothing = skip
as_plan (repeat a) = many (as_plan a)

-- the rule r as a frame
abbrev pub rule_plan : Edition → ℕ → Plan
rule_plan E r = seq (as_plan (right_side E r)) (wrap r)
