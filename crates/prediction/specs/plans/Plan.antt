-- Plans: what a reader with one token of lookahead follows for each rule, and the forests that they derive.
-- Assumes nothing: definitions. wrap has no width: all that the frame has read so far becomes one node.
use Rattle.std.specs.Prelude.{ℕ, suc, ◌≡◌, Bool, true, false}
use Rattle.std.proofs.Math.Decide.{ℕ_discrete}
use Rattle.grammar.specs.Forest.{Forest, end, leaf, node, join}

-- token k reads a token of kind k; group o b c reads a mark, then b one level deeper, then the closing mark;
-- call n follows the plan of rule n in a frame of its own; wrap r makes a node of rule r; then one plan after
-- the other, either of two, nothing, and zero or more
pub data Plan : Type 0 where
  token : ℕ → Plan
  group : ℕ → Plan → ℕ → Plan
  call : ℕ → Plan
  wrap : ℕ → Plan
  seq : Plan → Plan → Plan
  alt : Plan → Plan → Plan
  skip : Plan
  many : Plan → Plan
  deriving Discrete as Plan-discrete

-- from place i to place j of the kinds s, the frame's forest going from f to g; T has the plans by rule number
pub data PlanDerives (T : ℕ → Plan) (s : ℕ → ℕ) : Plan → ℕ → ℕ → Forest → Forest → Type 0 where
  plan_token : {k i : ℕ} {f : Forest} → s i ≡ k → PlanDerives T s (token k) i (suc i) f (leaf f k)
  plan_group : {o c i m : ℕ} {b : Plan} {f g : Forest} → s i ≡ o → PlanDerives T s b (suc i) m (leaf f o) g →
      s m ≡ c → PlanDerives T s (group o b c) i (suc m) f (leaf g c)
  plan_call : {n i j : ℕ} {f g h : Forest} → PlanDerives T s (T n) i j end h → g ≡ join f h →
      PlanDerives T s (call n) i j f g
  plan_wrap : {r i : ℕ} {f : Forest} → PlanDerives T s (wrap r) i i f (node end r f)
  plan_seq : {a b : Plan} {i m j : ℕ} {f h g : Forest} → PlanDerives T s a i m f h → PlanDerives T s b m j h g →
      PlanDerives T s (seq a b) i j f g
  plan_left : {a b : Plan} {i j : ℕ} {f g : Forest} → PlanDerives T s a i j f g → PlanDerives T s (alt a b) i j f g
  plan_right : {a b : Plan} {i j : ℕ} {f g : Forest} → PlanDerives T s b i j f g → PlanDerives T s (alt a b) i j f g
  plan_skip : {i : ℕ} {f : Forest} → PlanDerives T s skip i i f f
  plan_none : {a : Plan} {i : ℕ} {f : Forest} → PlanDerives T s (many a) i i f f
  plan_more : {a : Plan} {i m j : ℕ} {f h g : Forest} → PlanDerives T s a i m f h → PlanDerives T s (many a) m j h g →
      PlanDerives T s (many a) i j f g

-- equal plans, by a test
unfoldable pub is_so : {A : Type 0} → Dec A → Bool
is_so (yes a) = true
is_so (no h) = false

unfoldable pub same_plan : Plan → Plan → Bool
unfolding is_so ℕ_discrete
same_plan p q = is_so (Plan-discrete ℕ_discrete p q)
