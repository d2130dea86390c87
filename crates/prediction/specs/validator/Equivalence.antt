-- The test that a rule and its plan derive the same: both as lists of paths, leading calls opened, left recursion turned.
-- Definitions; that the test tells the truth is shown in proofs/validator/Equivalence.antt.
use Rattle.std.specs.Prelude.{ℕ, zero, suc, Bool, true, false, ◌&&◌, ◌||◌, cond, List, [], ◌∷◌, ◌++◌}
use Rattle.grammar.specs.Sets.{elem}
use Rattle.prediction.specs.plans.Plan.{Plan, token, group, call, wrap, seq, alt, skip, many, same_plan}
use Rattle.prediction.specs.plans.Prediction.{left_recursive, looped, Way, opened, turned}

-- each of xss before ys; each of xss before each of yss
unfoldable pub befores : List (List Plan) → List Plan → List (List Plan)
befores [] ys = []
befores (xs ∷ xss) ys = (xs ++ ys) ∷ befores xss ys

unfoldable pub cross : List (List Plan) → List (List Plan) → List (List Plan)
unfolding befores
cross xss [] = []
cross xss (ys ∷ yss) = befores xss ys ++ cross xss yss

-- the ways through a plan, each a list of parts that stand one after the other
unfoldable pub paths : Plan → List (List Plan)
unfolding cross
paths (token k) = (token k ∷ []) ∷ []
paths (group o b c) = cross ((token o ∷ []) ∷ []) (cross (paths b) ((token c ∷ []) ∷ []))
paths (call n) = (call n ∷ []) ∷ []
paths (wrap r) = (wrap r ∷ []) ∷ []
paths (seq a b) = cross (paths a) (paths b)
paths (alt a b) = paths a ++ paths b
paths skip = [] ∷ []
paths (many a) = (many a ∷ []) ∷ []

-- each path of the first list is in the second
unfoldable pub same_path : List Plan → List Plan → Bool
unfolding same_plan
same_path [] [] = true
same_path [] (y ∷ ys) = false
same_path (x ∷ xs) [] = false
same_path (x ∷ xs) (y ∷ ys) = same_plan x y && same_path xs ys

unfoldable pub path_in : List Plan → List (List Plan) → Bool
unfolding same_path
path_in xs [] = false
path_in xs (ys ∷ yss) = same_path xs ys || path_in xs yss

unfoldable pub paths_in : List (List Plan) → List (List Plan) → Bool
unfolding path_in
paths_in [] yss = true
paths_in (xs ∷ xss) yss = path_in xs yss && paths_in xss yss

-- the paths with the leading calls of the list l opened, once; k times
unfoldable pub lead : (ℕ → Plan) → List ℕ → Plan → List Plan → List (List Plan)
unfolding elem befores paths
lead T l (token k) xs = (token k ∷ xs) ∷ []
lead T l (group o b c) xs = (group o b c ∷ xs) ∷ []
lead T l (call n) xs = cond (elem n l) (befores (paths (T n)) xs) ((call n ∷ xs) ∷ [])
lead T l (wrap r) xs = (wrap r ∷ xs) ∷ []
lead T l (seq a b) xs = (seq a b ∷ xs) ∷ []
lead T l (alt a b) xs = (alt a b ∷ xs) ∷ []
lead T l skip xs = (skip ∷ xs) ∷ []
lead T l (many a) xs = (many a ∷ xs) ∷ []

unfoldable pub leads : (ℕ → Plan) → List ℕ → List (List Plan) → List (List Plan)
unfolding lead
leads T l [] = []
leads T l ([] ∷ xss) = [] ∷ leads T l xss
leads T l ((x ∷ xs) ∷ xss) = lead T l x xs ++ leads T l xss

unfoldable pub opens : ℕ → (ℕ → Plan) → List ℕ → List (List Plan) → List (List Plan)
unfolding leads
opens zero T l xss = xss
opens (suc k) T l xss = opens k T l (leads T l xss)

-- leading calls are opened so many times at most
abbrev pub openings : ℕ
openings = 6

-- the test of frame n: base holds the rules as they stand, plans the plans
unfoldable pub fits : (base plans : ℕ → Plan) → ℕ → Way → Bool
unfolding paths_in opens paths left_recursive looped same_plan
fits base plans n (opened l) =
    paths_in (opens openings plans l (paths (base n))) (paths (plans n)) && paths_in (paths (plans n))
    (opens openings base l (paths (base n)))
fits base plans n (turned a b) =
    same_plan (plans n) (looped n a b) &&
    (paths_in (paths (base n)) (paths (left_recursive n a b)) && paths_in (paths (left_recursive n a b))
    (paths (base n)))
