-- The interpreter of plans, as a relation: a reader with one token of lookahead and d levels of depth left.
-- Assumes nothing: definitions.
use Rattle.std.specs.Prelude.{ℕ, suc, ◌≡◌, Bool, true, false, not, ◌&&◌, ◌||◌, T}
use Rattle.grammar.specs.Forest.{Forest, end, leaf, node, join}
use Rattle.grammar.specs.Sets.{elem}
use Rattle.prediction.specs.plans.Plan.{Plan, token, group, call, wrap, seq, alt, skip, many}
use Rattle.prediction.specs.validator.Typing.{Table, null, first}

-- done at a place with a forest, blamed at a place, or stopped for depth at an opening mark
pub data Outcome : Type 0 where
  done : ℕ → Forest → Outcome
  blame : ℕ → Outcome
  deep : ℕ → Outcome

unfoldable pub stop : Outcome → ℕ
stop (done j g) = j
stop (blame q) = q
stop (deep q) = q

unfoldable pub stopped : Outcome → Bool
stopped (done j g) = false
stopped (blame q) = true
stopped (deep q) = true

-- at kind k the first of two plans is taken; else the second may be
unfoldable pub goes : Table → Plan → Plan → ℕ → Bool
goes t a b k = elem k (first t a) || (not (elem k (first t b)) && null t a)

unfoldable pub turns : Table → Plan → ℕ → Bool
turns t b k = elem k (first t b) || null t b

-- by the table t, on the kinds s with d levels of depth left, the plan from place i with the forest f has the outcome x
pub data Runs (t : Table) (s : ℕ → ℕ) : ℕ → Plan → ℕ → Forest → Outcome → Type 0 where
  run_token : {d k i : ℕ} {f : Forest} → s i ≡ k → Runs t s d (token k) i f (done (suc i) (leaf f k))
  run_miss : {d k i : ℕ} {f : Forest} → (s i ≡ k → ⊥) → Runs t s d (token k) i f (blame i)
  run_shut : {d o c i : ℕ} {b : Plan} {f : Forest} → (s i ≡ o → ⊥) → Runs t s d (group o b c) i f (blame i)
  run_deep : {o c i : ℕ} {b : Plan} {f : Forest} → s i ≡ o → Runs t s 0 (group o b c) i f (deep i)
  run_inside : {d o c i : ℕ} {b : Plan} {f : Forest} {x : Outcome} → s i ≡ o → Runs t s d b (suc i) (leaf f o) x →
      T (stopped x) → Runs t s (suc d) (group o b c) i f x
  run_group : {d o c i m : ℕ} {b : Plan} {f g : Forest} → s i ≡ o → Runs t s d b (suc i) (leaf f o) (done m g) →
      s m ≡ c → Runs t s (suc d) (group o b c) i f (done (suc m) (leaf g c))
  run_unclosed : {d o c i m : ℕ} {b : Plan} {f g : Forest} → s i ≡ o → Runs t s d b (suc i) (leaf f o) (done m g) →
      (s m ≡ c → ⊥) → Runs t s (suc d) (group o b c) i f (blame m)
  run_call : {d n i j : ℕ} {f g h : Forest} → Runs t s d (t.plan n) i end (done j h) → g ≡ join f h →
      Runs t s d (call n) i f (done j g)
  run_call_stop : {d n i : ℕ} {f : Forest} {x : Outcome} → Runs t s d (t.plan n) i end x → T (stopped x) →
      Runs t s d (call n) i f x
  run_wrap : {d r i : ℕ} {f : Forest} → Runs t s d (wrap r) i f (done i (node end r f))
  run_seq : {d i m : ℕ} {a b : Plan} {f h : Forest} {x : Outcome} → Runs t s d a i f (done m h) → Runs t s d b m h x →
      Runs t s d (seq a b) i f x
  run_seq_stop : {d i : ℕ} {a b : Plan} {f : Forest} {x : Outcome} → Runs t s d a i f x → T (stopped x) →
      Runs t s d (seq a b) i f x
  run_left : {d i : ℕ} {a b : Plan} {f : Forest} {x : Outcome} → T (goes t a b (s i)) → Runs t s d a i f x →
      Runs t s d (alt a b) i f x
  run_right : {d i : ℕ} {a b : Plan} {f : Forest} {x : Outcome} → T (not (goes t a b (s i))) → T (turns t b (s i)) →
      Runs t s d b i f x → Runs t s d (alt a b) i f x
  run_neither : {d i : ℕ} {a b : Plan} {f : Forest} → T (not (goes t a b (s i))) → T (not (turns t b (s i))) →
      Runs t s d (alt a b) i f (blame i)
  run_skip : {d i : ℕ} {f : Forest} → Runs t s d skip i f (done i f)
  run_last : {d i : ℕ} {a : Plan} {f : Forest} → T (not (elem (s i) (first t a))) → Runs t s d (many a) i f (done i f)
  run_more : {d i m : ℕ} {a : Plan} {f h : Forest} {x : Outcome} → T (elem (s i) (first t a)) →
      Runs t s d a i f (done m h) → Runs t s d (many a) m h x → Runs t s d (many a) i f x
  run_more_stop : {d i : ℕ} {a : Plan} {f : Forest} {x : Outcome} → T (elem (s i) (first t a)) → Runs t s d a i f x →
      T (stopped x) → Runs t s d (many a) i f x
