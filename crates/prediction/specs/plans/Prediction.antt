-- The plans of an edition by rule number, and the way in which each comes from its rule.
-- Definitions alone: the ways are what the test of the edition goes by.
use Rattle.std.specs.Prelude.{ℕ, List}
use Rattle.prediction.specs.plans.Plan.{Plan, call, wrap, seq, alt, many}

-- a rule n ::= a | n b, and its plan
unfoldable pub left_recursive : ℕ → Plan → Plan → Plan
left_recursive n a b = alt (seq a (wrap n)) (seq (call n) (seq b (wrap n)))

unfoldable pub looped : ℕ → Plan → Plan → Plan
looped n a b = seq a (seq (wrap n) (many (seq b (wrap n))))

-- how a frame's plan comes from its rule: leading calls opened, or left recursion turned
pub data Way : Type 0 where
  opened : List ℕ → Way
  turned : Plan → Plan → Way

-- plans by rule number, and how each comes from its rule
pub record Prediction : Type 0 where
  pub plans : List Plan
  pub ways : List Way
