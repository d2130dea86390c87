-- Types of plans, after Krishnaswami and Yallop: may it be empty, how may it begin, what could go on where it may end.
-- Definitions, with the Boolean test that a plan chooses by one token.
use Rattle.std.specs.Prelude.{ℕ, Bool, true, false, not, ◌&&◌, ◌||◌, List, [], ◌∷◌, ◌++◌, T, ltb}
use Rattle.grammar.specs.Sets.{elem}
use Rattle.prediction.specs.Sets.{only, disjoint}
use Rattle.prediction.specs.plans.Plan.{Plan, token, group, call, wrap, seq, alt, skip, many}

-- the plans by rule number, with what is claimed of each
pub record Table : Type 0 where
  pub plan : ℕ → Plan
  pub null_of : ℕ → Bool
  pub first_of : ℕ → List ℕ
  pub follow_last_of : ℕ → List ℕ

unfoldable pub null : Table → Plan → Bool
null t (token k) = false
null t (group o b c) = false
null t (call n) = t.null_of n
null t (wrap r) = true
null t (seq a b) = null t a && null t b
null t (alt a b) = null t a || null t b
null t skip = true
null t (many a) = true

unfoldable pub first : Table → Plan → List ℕ
unfolding null only
first t (token k) = k ∷ []
first t (group o b c) = o ∷ []
first t (call n) = t.first_of n
first t (wrap r) = []
first t (seq a b) = first t a ++ only (null t a) (first t b)
first t (alt a b) = first t a ++ first t b
first t skip = []
first t (many a) = first t a

unfoldable pub follow_last : Table → Plan → List ℕ
unfolding null only first
follow_last t (token k) = []
follow_last t (group o b c) = []
follow_last t (call n) = t.follow_last_of n
follow_last t (wrap r) = []
follow_last t (seq a b) = follow_last t b ++ only (null t b) (follow_last t a)
follow_last t (alt a b) =
    (follow_last t a ++ follow_last t b) ++ (only (null t a) (first t b) ++ only (null t b) (first t a))
follow_last t skip = []
follow_last t (many a) = follow_last t a ++ first t a

unfoldable pub typed : Table → Plan → Bool
unfolding null only first follow_last disjoint
typed t (token k) = ltb 0 k
typed t (group o b c) = (ltb 0 o && ltb 0 c) && (typed t b && disjoint (follow_last t b) (c ∷ []))
typed t (call n) = true
typed t (wrap r) = true
typed t (seq a b) = (typed t a && typed t b) && disjoint (follow_last t a) (first t b)
typed t (alt a b) = (typed t a && typed t b) && (disjoint (first t a) (first t b) && not (null t a && null t b))
typed t skip = true
typed t (many a) = typed t a && (disjoint (follow_last t a) (first t a) && not (null t a))

-- what is claimed of a frame holds of its plan
pub record Typed (t : Table) : Type 0 where
  pub plan_typed : (n : ℕ) → T (typed t (t.plan n))
  pub null_holds : (n : ℕ) → T (null t (t.plan n)) → T (t.null_of n)
  pub first_holds : (n k : ℕ) → T (elem k (first t (t.plan n))) → T (elem k (t.first_of n))
  pub follow_last_holds : (n k : ℕ) → T (elem k (follow_last t (t.plan n))) → T (elem k (t.follow_last_of n))
