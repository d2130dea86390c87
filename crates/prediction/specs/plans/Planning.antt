-- How the plans of an edition are made: most from their rules, the rest by hand, with the rules that they open.
-- Definitions alone: whatever they make is held to the test of the edition.
use Rattle.std.specs.Prelude.{ℕ, suc, Bool, false, cond, List, [], ◌∷◌, ◌++◌, eqb}
use Rattle.grammar.specs.Depth.{opening, closing}
use Rattle.grammar.specs.Rule.{RightSide, Edition}
use Rattle.prediction.specs.plans.Plan.{Plan, token, group, call, wrap, seq, alt, skip, many}
use Rattle.prediction.specs.plans.RulesAsPlans.{as_plan}
use Rattle.prediction.specs.plans.Prediction.{looped, Way, opened, turned, Prediction}

-- parts one after the other
unfoldable pub line_up : List Plan → Plan
line_up [] = skip
line_up (x ∷ []) = x
line_up (x ∷ (y ∷ ys)) = seq x (line_up (y ∷ ys))

-- marks that wait for their closing mark, each with what stood before it
unfoldable pub waiting : List (ℕ × List Plan) → List (ℕ × List Plan)
waiting [] = []
waiting (x ∷ xs) = xs

unfoldable pub shut : List (ℕ × List Plan) → List Plan → ℕ → List Plan
unfolding line_up
shut [] body c = body ++ token c ∷ []
shut ((o, before) ∷ xs) body c = before ++ group o (line_up body) c ∷ []

-- an opening mark, its body and its closing mark become a group; behind holds what was gathered before
unfoldable pub gather : List (ℕ × List Plan) → (behind : List Plan) → List Plan → List Plan
unfolding waiting shut opening closing
gather w behind [] = behind
gather w behind (token k ∷ xs) =
    cond (opening k) (gather ((k, behind) ∷ w) [] xs)
    (cond (closing k) (gather (waiting w) (shut w behind k) xs) (gather w (behind ++ token k ∷ []) xs))
gather w behind (group o b c ∷ xs) = gather w (behind ++ group o b c ∷ []) xs
gather w behind (call n ∷ xs) = gather w (behind ++ call n ∷ []) xs
gather w behind (wrap r ∷ xs) = gather w (behind ++ wrap r ∷ []) xs
gather w behind (seq a b ∷ xs) = gather w (behind ++ seq a b ∷ []) xs
gather w behind (alt a b ∷ xs) = gather w (behind ++ alt a b ∷ []) xs
gather w behind (skip ∷ xs) = gather w (behind ++ skip ∷ []) xs
gather w behind (many a ∷ xs) = gather w (behind ++ many a ∷ []) xs

-- the parts of a plan, with groups inside choices and repetitions
unfoldable pub parts : Plan → List Plan
unfolding line_up gather
parts (token k) = token k ∷ []
parts (group o b c) = group o b c ∷ []
parts (call n) = call n ∷ []
parts (wrap r) = wrap r ∷ []
parts (seq a b) = parts a ++ parts b
parts (alt a b) = alt (line_up (gather [] [] (parts a))) (line_up (gather [] [] (parts b))) ∷ []
parts skip = skip ∷ []
parts (many a) = many (line_up (gather [] [] (parts a))) ∷ []

unfoldable pub grouped : Plan → Plan
unfolding parts gather line_up
grouped p = line_up (gather [] [] (parts p))

-- the choices of a plan, and a plan of choices
unfoldable pub choices : Plan → List Plan
choices (token k) = token k ∷ []
choices (group o b c) = group o b c ∷ []
choices (call n) = call n ∷ []
choices (wrap r) = wrap r ∷ []
choices (seq a b) = seq a b ∷ []
choices (alt a b) = choices a ++ choices b
choices skip = skip ∷ []
choices (many a) = many a ∷ []

unfoldable pub choose : List Plan → Plan
choose [] = skip
choose (x ∷ []) = x
choose (x ∷ (y ∷ ys)) = alt x (choose (y ∷ ys))

-- the plan begins with rule n, and more follows: left recursion
unfoldable pub recurs : ℕ → Plan → Bool
recurs n (token k) = false
recurs n (group o b c) = false
recurs n (call m) = false
recurs n (wrap r) = false
recurs n (seq (token k) b) = false
recurs n (seq (group o c d) b) = false
recurs n (seq (call m) b) = eqb n m
recurs n (seq (wrap r) b) = false
recurs n (seq (seq a c) b) = false
recurs n (seq (alt a c) b) = false
recurs n (seq skip b) = false
recurs n (seq (many a) b) = false
recurs n (alt a b) = false
recurs n skip = false
recurs n (many a) = false

unfoldable pub behind_first : Plan → Plan
behind_first (token k) = skip
behind_first (group o b c) = skip
behind_first (call n) = skip
behind_first (wrap r) = skip
behind_first (seq a b) = b
behind_first (alt a b) = skip
behind_first skip = skip
behind_first (many a) = skip

unfoldable pub starts : ℕ → List Plan → List Plan
unfolding recurs
starts n [] = []
starts n (x ∷ xs) = cond (recurs n x) (starts n xs) (x ∷ starts n xs)

unfoldable pub goes_on : ℕ → List Plan → List Plan
unfolding recurs behind_first
goes_on n [] = []
goes_on n (x ∷ xs) = cond (recurs n x) (behind_first x ∷ goes_on n xs) (goes_on n xs)

-- a plan by its way: left recursion turned into a loop, or the right side itself with its marks in groups
unfoldable pub way_of_rule : ℕ → List Plan → Plan → Way
unfolding starts choose
way_of_rule n [] p = opened []
way_of_rule n (x ∷ xs) p = turned (choose (starts n (choices p))) (choose (x ∷ xs))

unfoldable pub plan_by_way : ℕ → Plan → Way → Plan
unfolding looped grouped
plan_by_way n p (opened l) = grouped (seq p (wrap n))
plan_by_way n p (turned a b) = looped n a b

unfoldable pub own_way : ℕ → RightSide → Way
unfolding as_plan goes_on way_of_rule choices
own_way n e = way_of_rule n (goes_on n (choices (as_plan e))) (as_plan e)

unfoldable pub own_plan : ℕ → RightSide → Plan
unfolding own_way plan_by_way as_plan
own_plan n e = plan_by_way n (as_plan e) (own_way n e)

-- a plan sketched by hand, for the rule of that name, with the names of the rules whose leading uses it opens
pub record Sketch : Type 0 where
  pub rule : ℕ
  pub opens : List ℕ
  pub follows : Plan

unfoldable pub sketched : List Sketch → ℕ → Plan → Plan
sketched [] n p = p
sketched (k ∷ ks) n p = cond (eqb n k.rule) k.follows (sketched ks n p)

unfoldable pub sketched_way : List Sketch → ℕ → Way → Way
sketched_way [] n w = w
sketched_way (k ∷ ks) n w = cond (eqb n k.rule) (opened k.opens) (sketched_way ks n w)

unfoldable pub plans_from : List Sketch → ℕ → List RightSide → List Plan
unfolding sketched own_plan
plans_from ks n [] = []
plans_from ks n (e ∷ es) = sketched ks n (own_plan n e) ∷ plans_from ks (suc n) es

unfoldable pub ways_from : List Sketch → ℕ → List RightSide → List Way
unfolding sketched_way own_way
ways_from ks n [] = []
ways_from ks n (e ∷ es) = sketched_way ks n (own_way n e) ∷ ways_from ks (suc n) es

-- the prediction of an edition from its rules and the sketches
unfoldable pub predict : List Sketch → Edition → Prediction
unfolding plans_from ways_from
predict ks E = record { plans = plans_from ks 0 E.rules; ways = ways_from ks 0 E.rules }
