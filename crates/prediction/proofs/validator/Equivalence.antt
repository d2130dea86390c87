-- Two tables of plans derive the same where a test on the paths of each frame says so.
-- Leading calls are opened where they stand first; left recursion is turned into a loop by one lemma.
use Prim.Native.Nat.{ℕ, zero, suc}
use mathlib.Core.Path.{◌≡◌, refl, sym, ◌∙◌, subst}
use mathlib.Core.Logic.{◌⊎◌, inl, inr}
use mathlib.Core.Bool.{Bool, true, false, ◌&&◌, cond}
use mathlib.Core.List.{List, [], ◌∷◌}
use lib.Dec.{T}
use Rattle.grammar.specs.Forest.{Forest, end}
use Rattle.grammar.proofs.Forest.{join_end}
use Rattle.grammar.specs.Sets.{elem}
use Rattle.grammar.proofs.Sets.{and_left, and_right, or_cases}
use Rattle.prediction.specs.plans.Plan.{Plan, token, group, call, wrap, seq, alt, skip, many, PlanDerives}
use Rattle.prediction.specs.plans.Plan.{plan_token, plan_group, plan_call, plan_wrap, plan_seq, plan_left}
use Rattle.prediction.specs.plans.Plan.{plan_right, plan_skip, plan_none, plan_more, same_plan}
use Rattle.prediction.specs.plans.Prediction.{left_recursive, looped, Way, opened, turned}
use Rattle.prediction.specs.validator.Equivalence.{openings, befores, paths, same_path, path_in, paths_in, lead, leads}
use Rattle.prediction.specs.validator.Equivalence.{opens, fits}
use Rattle.prediction.proofs.plans.Plan.{same_plan_equal}
use Rattle.prediction.proofs.validator.Paths.{chain, Some, here, there, Both, both, some_left, some_right}
use Rattle.prediction.proofs.validator.Paths.{some_cases, befores_to, befores_from, to_paths, from_paths}

same_path_equal : (xs ys : List Plan) → T (same_path xs ys) → xs ≡ ys
unfolding same_path
same_path_equal [] [] u = refl
same_path_equal [] (y ∷ ys) u = absurd u
same_path_equal (x ∷ xs) [] u = absurd u
same_path_equal (x ∷ xs) (y ∷ ys) u =
    let a = same_plan_equal x y (and_left (same_plan x y) (same_path xs ys) u) in
    let b = same_path_equal xs ys (and_right (same_plan x y) (same_path xs ys) u) in
    cc

module _ {Q : ℕ → Plan} {s : ℕ → ℕ} where
  in_some : (xs : List Plan) (yss : List (List Plan)) {i j : ℕ} {f g : Forest} → T (path_in xs yss) →
      PlanDerives Q s (chain xs) i j f g → Some Q s i j f g yss
  unfolding path_in
  in_some xs [] u d = absurd u
  in_some xs (ys ∷ yss) {i} {j} {f} {g} u d =
      go (or_cases (same_path xs ys) (path_in xs yss) u) (λ v. in_some xs yss v d)
    where
      go : T (same_path xs ys) ⊎ T (path_in xs yss) → (T (path_in xs yss) → Some Q s i j f g yss) →
          Some Q s i j f g (ys ∷ yss)
      go (inl v) k = here (subst (λ (zs : List Plan). PlanDerives Q s (chain zs) i j f g) (same_path_equal xs ys v) d)
      go (inr v) k = there (k v)

  pub sub_some : (xss yss : List (List Plan)) {i j : ℕ} {f g : Forest} → T (paths_in xss yss) → Some Q s i j f g xss →
      Some Q s i j f g yss
  unfolding paths_in
  sub_some [] yss u d = elim d [ ]
  sub_some (xs ∷ xss) yss u (here d) = in_some xs yss (and_left (path_in xs yss) (paths_in xss yss) u) d
  sub_some (xs ∷ xss) yss u (there d) = sub_some xss yss (and_right (path_in xs yss) (paths_in xss yss) u) d

  call_to : (n : ℕ) (xs : List Plan) {i j : ℕ} {g : Forest} → PlanDerives Q s (seq (call n) (chain xs)) i j end g →
      Some Q s i j end g (befores (paths (Q n)) xs)
  call_to n xs {j = j} {g = g} (plan_seq {m = m} (plan_call {h = h} d e) b) =
      befores_to (paths (Q n)) xs (to_paths (Q n) d)
      (subst (λ (z : Forest). PlanDerives Q s (chain xs) m j z g) (e ∙ join_end h) b)

  call_from : (n : ℕ) (xs : List Plan) {i j : ℕ} {g : Forest} → Some Q s i j end g (befores (paths (Q n)) xs) →
      PlanDerives Q s (seq (call n) (chain xs)) i j end g
  call_from n xs {i} {j} {g} d = go (befores_from (paths (Q n)) xs d)
    where
      go : Both Q s i j end g (paths (Q n)) (xs ∷ []) → PlanDerives Q s (seq (call n) (chain xs)) i j end g
      go (both {h = h} u (here v)) = plan_seq (plan_call (from_paths (Q n) u) (sym (join_end h))) v
      go (both u (there v)) = elim v [ ]

  lead_to : (l : List ℕ) (x : Plan) (xs : List Plan) {i j : ℕ} {g : Forest} →
      PlanDerives Q s (seq x (chain xs)) i j end g → Some Q s i j end g (lead Q l x xs)
  unfolding lead chain
  lead_to l (token k) xs d = here d
  lead_to l (group o b c) xs d = here d
  lead_to l (call n) xs {i} {j} {g} d = go (elem n l)
    where
      go : (b : Bool) → Some Q s i j end g (cond b (befores (paths (Q n)) xs) ((call n ∷ xs) ∷ []))
      go true = call_to n xs d
      go false = here d
  lead_to l (wrap r) xs d = here d
  lead_to l (seq a b) xs d = here d
  lead_to l (alt a b) xs d = here d
  lead_to l skip xs d = here d
  lead_to l (many a) xs d = here d

  just : {x : Plan} {xs : List Plan} {i j : ℕ} {g : Forest} → Some Q s i j end g ((x ∷ xs) ∷ []) →
      PlanDerives Q s (seq x (chain xs)) i j end g
  unfolding chain
  just (here d) = d
  just (there d) = elim d [ ]

  lead_from : (l : List ℕ) (x : Plan) (xs : List Plan) {i j : ℕ} {g : Forest} → Some Q s i j end g (lead Q l x xs) →
      PlanDerives Q s (seq x (chain xs)) i j end g
  unfolding lead
  lead_from l (token k) xs d = just d
  lead_from l (group o b c) xs d = just d
  lead_from l (call n) xs {i} {j} {g} d = go (elem n l) d
    where
      go : (b : Bool) → Some Q s i j end g (cond b (befores (paths (Q n)) xs) ((call n ∷ xs) ∷ [])) →
          PlanDerives Q s (seq (call n) (chain xs)) i j end g
      go true e = call_from n xs e
      go false e = just e
  lead_from l (wrap r) xs d = just d
  lead_from l (seq a b) xs d = just d
  lead_from l (alt a b) xs d = just d
  lead_from l skip xs d = just d
  lead_from l (many a) xs d = just d

  leads_to : (l : List ℕ) (xss : List (List Plan)) {i j : ℕ} {g : Forest} → Some Q s i j end g xss →
      Some Q s i j end g (leads Q l xss)
  unfolding leads chain
  leads_to l [] d = elim d [ ]
  leads_to l ([] ∷ xss) (here d) = here d
  leads_to l ([] ∷ xss) (there d) = there (leads_to l xss d)
  leads_to l ((x ∷ xs) ∷ xss) (here d) = some_left (lead Q l x xs) (leads Q l xss) (lead_to l x xs d)
  leads_to l ((x ∷ xs) ∷ xss) (there d) = some_right (lead Q l x xs) (leads Q l xss) (leads_to l xss d)

  leads_from : (l : List ℕ) (xss : List (List Plan)) {i j : ℕ} {g : Forest} → Some Q s i j end g (leads Q l xss) →
      Some Q s i j end g xss
  unfolding leads chain
  leads_from l [] d = elim d [ ]
  leads_from l ([] ∷ xss) (here d) = here d
  leads_from l ([] ∷ xss) (there d) = there (leads_from l xss d)
  leads_from l ((x ∷ xs) ∷ xss) {i} {j} {g} d =
      go (some_cases (lead Q l x xs) (leads Q l xss) d) (λ e. leads_from l xss e)
    where
      go : Some Q s i j end g (lead Q l x xs) ⊎ Some Q s i j end g (leads Q l xss) →
          (Some Q s i j end g (leads Q l xss) → Some Q s i j end g xss) → Some Q s i j end g ((x ∷ xs) ∷ xss)
      go (inl e) k = here (lead_from l x xs e)
      go (inr e) k = there (k e)

  opens_to : (k : ℕ) (l : List ℕ) (xss : List (List Plan)) {i j : ℕ} {g : Forest} → Some Q s i j end g xss →
      Some Q s i j end g (opens k Q l xss)
  unfolding opens
  opens_to zero l xss d = d
  opens_to (suc k) l xss d = opens_to k l (leads Q l xss) (leads_to l xss d)

  opens_from : (k : ℕ) (l : List ℕ) (xss : List (List Plan)) {i j : ℕ} {g : Forest} →
      Some Q s i j end g (opens k Q l xss) → Some Q s i j end g xss
  unfolding opens
  opens_from zero l xss d = d
  opens_from (suc k) l xss d = leads_from l xss (opens_from k l (leads Q l xss) d)

  -- from p to p', with the leading calls of p opened; of p' opened
  pub by_paths : (k : ℕ) (l : List ℕ) (p p' : Plan) {i j : ℕ} {g : Forest} →
      T (paths_in (opens k Q l (paths p)) (paths p')) → PlanDerives Q s p i j end g → PlanDerives Q s p' i j end g
  by_paths k l p p' u d =
      from_paths p'
      (sub_some (opens k Q l (paths p)) (paths p') u (opens_to k l (paths p) (to_paths p d)))

  pub by_paths' : (k : ℕ) (l : List ℕ) (p p' : Plan) {i j : ℕ} {g : Forest} →
      T (paths_in (paths p) (opens k Q l (paths p'))) → PlanDerives Q s p i j end g → PlanDerives Q s p' i j end g
  by_paths' k l p p' u d =
      from_paths p' (opens_from k l (paths p') (sub_some (paths p) (opens k Q l (paths p')) u (to_paths p d)))

module _ {Q : ℕ → Plan} {s : ℕ → ℕ} where
  many_snoc : {a : Plan} {i m j : ℕ} {f h g : Forest} → PlanDerives Q s (many a) i m f h → PlanDerives Q s a m j h g →
      PlanDerives Q s (many a) i j f g
  many_snoc plan_none e = plan_more e plan_none
  many_snoc (plan_more x y) e = plan_more x (many_snoc y e)

  loop_snoc : (n : ℕ) (a b : Plan) {i m j : ℕ} {h g : Forest} → PlanDerives Q s (looped n a b) i m end h →
      PlanDerives Q s (seq b (wrap n)) m j h g → PlanDerives Q s (looped n a b) i j end g
  unfolding looped
  loop_snoc n a b (plan_seq x (plan_seq y z)) e = plan_seq x (plan_seq y (many_snoc z e))

  pub left_loop : (n : ℕ) (a b : Plan) {i j : ℕ} {g : Forest} → Q n ≡ looped n a b →
      PlanDerives Q s (left_recursive n a b) i j end g → PlanDerives Q s (looped n a b) i j end g
  unfolding left_recursive looped
  left_loop n a b q (plan_left (plan_seq x y)) = plan_seq x (plan_seq y plan_none)
  left_loop n a b {i} {j} {g} q (plan_right (plan_seq {m = m} (plan_call {h = h} d e) y)) =
      loop_snoc n a b (subst (λ (z : Plan). PlanDerives Q s z i m end h) q d)
      (subst (λ (z : Forest). PlanDerives Q s (seq b (wrap n)) m j z g) (e ∙ join_end h) y)

  turn : (n : ℕ) (a b : Plan) {i m j : ℕ} {h g : Forest} →
      ((k : ℕ) (f : Forest) → PlanDerives Q s (left_recursive n a b) i k end f → PlanDerives Q s (Q n) i k end f) →
      PlanDerives Q s (Q n) i m end h → PlanDerives Q s (many (seq b (wrap n))) m j h g →
      PlanDerives Q s (Q n) i j end g
  unfolding left_recursive
  turn n a b w d plan_none = d
  turn n a b {h = h} w d (plan_more x y) =
      turn n a b w (w _ _ (plan_right (plan_seq (plan_call d (sym (join_end h))) x))) y

  pub loop_left : (n : ℕ) (a b : Plan) {i j : ℕ} {g : Forest} →
      ((k : ℕ) (f : Forest) → PlanDerives Q s (left_recursive n a b) i k end f → PlanDerives Q s (Q n) i k end f) →
      PlanDerives Q s (looped n a b) i j end g → PlanDerives Q s (Q n) i j end g
  unfolding left_recursive looped
  loop_left n a b w (plan_seq x (plan_seq y z)) = turn n a b w (w _ _ (plan_left (plan_seq x y))) z

-- a change of the table, frame by frame
pub lift : (Q Q' : ℕ → Plan) (s : ℕ → ℕ) →
    ((n i j : ℕ) (g : Forest) → PlanDerives Q' s (Q n) i j end g → PlanDerives Q' s (Q' n) i j end g) →
    {p : Plan} {i j : ℕ} {f g : Forest} → PlanDerives Q s p i j f g → PlanDerives Q' s p i j f g
lift Q Q' s w (plan_token e) = plan_token e
lift Q Q' s w (plan_group e d e') = plan_group e (lift Q Q' s w d) e'
lift Q Q' s w (plan_call {n = n} {i = i} {j = j} {h = h} d e) = plan_call (w n i j h (lift Q Q' s w d)) e
lift Q Q' s w plan_wrap = plan_wrap
lift Q Q' s w (plan_seq a b) = plan_seq (lift Q Q' s w a) (lift Q Q' s w b)
lift Q Q' s w (plan_left a) = plan_left (lift Q Q' s w a)
lift Q Q' s w (plan_right a) = plan_right (lift Q Q' s w a)
lift Q Q' s w plan_skip = plan_skip
lift Q Q' s w plan_none = plan_none
lift Q Q' s w (plan_more a b) = plan_more (lift Q Q' s w a) (lift Q Q' s w b)

module _ (base plans : ℕ → Plan) (s : ℕ → ℕ) where
  pub fits_to : (n : ℕ) (w : Way) → T (fits base plans n w) → (i j : ℕ) (g : Forest) →
      PlanDerives plans s (base n) i j end g → PlanDerives plans s (plans n) i j end g
  unfolding fits
  fits_to n (opened l) u i j g d =
      by_paths openings l (base n) (plans n)
      (and_left (paths_in (opens openings plans l (paths (base n))) (paths (plans n)))
      (paths_in (paths (plans n)) (opens openings base l (paths (base n)))) u) d
  fits_to n (turned a b) u i j g d =
      let r = paths_in (paths (base n)) (paths (left_recursive n a b)) in
      let r' = paths_in (paths (left_recursive n a b)) (paths (base n)) in
      let e = same_plan_equal (plans n) (looped n a b) (and_left (same_plan (plans n) (looped n a b)) (r && r') u) in
      let v = and_left r r' (and_right (same_plan (plans n) (looped n a b)) (r && r') u) in
      subst (λ (z : Plan). PlanDerives plans s z i j end g) (sym e)
      (left_loop n a b e (from_paths (left_recursive n a b)
      (sub_some (paths (base n)) (paths (left_recursive n a b)) v (to_paths (base n) d))))

  pub fits_from : (n : ℕ) (w : Way) → T (fits base plans n w) → (i j : ℕ) (g : Forest) →
      PlanDerives base s (plans n) i j end g → PlanDerives base s (base n) i j end g
  unfolding fits
  fits_from n (opened l) u i j g d =
      by_paths' openings l (plans n) (base n)
      (and_right (paths_in (opens openings plans l (paths (base n))) (paths (plans n)))
      (paths_in (paths (plans n)) (opens openings base l (paths (base n)))) u) d
  fits_from n (turned a b) u i j g d =
      let r = paths_in (paths (base n)) (paths (left_recursive n a b)) in
      let r' = paths_in (paths (left_recursive n a b)) (paths (base n)) in
      let e = same_plan_equal (plans n) (looped n a b) (and_left (same_plan (plans n) (looped n a b)) (r && r') u) in
      let v = and_right r r' (and_right (same_plan (plans n) (looped n a b)) (r && r') u) in
      loop_left n a b (λ k f x. from_paths (base n)
      (sub_some (paths (left_recursive n a b)) (paths (base n)) v (to_paths (left_recursive n a b) x)))
      (subst (λ (z : Plan). PlanDerives base s z i j end g) e d)
