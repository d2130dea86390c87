-- A plan derives what one of its paths derives.
-- By induction on the plan and on the list of paths.
use Prim.Native.Nat.{ℕ}
use mathlib.Core.Logic.{◌⊎◌, inl, inr}
use mathlib.Core.List.{List, [], ◌∷◌, ◌++◌}
use Rattle.grammar.specs.Forest.{Forest}
use Rattle.prediction.specs.plans.Plan.{Plan, token, group, call, wrap, seq, alt, skip, many, PlanDerives}
use Rattle.prediction.specs.plans.Plan.{plan_token, plan_group, plan_seq, plan_left, plan_right, plan_skip}
use Rattle.prediction.specs.validator.Equivalence.{befores, cross, paths}

-- the parts one after the other
unfoldable pub chain : List Plan → Plan
chain [] = skip
chain (x ∷ xs) = seq x (chain xs)

pub data Some (T : ℕ → Plan) (s : ℕ → ℕ) (i j : ℕ) (f g : Forest) : List (List Plan) → Type 0 where
  here : {xs : List Plan} {xss : List (List Plan)} → PlanDerives T s (chain xs) i j f g → Some T s i j f g (xs ∷ xss)
  there : {xs : List Plan} {xss : List (List Plan)} → Some T s i j f g xss → Some T s i j f g (xs ∷ xss)

pub data Both (T : ℕ → Plan) (s : ℕ → ℕ) (i j : ℕ) (f g : Forest) (xss yss : List (List Plan)) : Type 0 where
  both : {m : ℕ} {h : Forest} → Some T s i m f h xss → Some T s m j h g yss → Both T s i j f g xss yss

module _ {T : ℕ → Plan} {s : ℕ → ℕ} where
  chain_append : (xs ys : List Plan) {i m j : ℕ} {f h g : Forest} → PlanDerives T s (chain xs) i m f h →
      PlanDerives T s (chain ys) m j h g → PlanDerives T s (chain (xs ++ ys)) i j f g
  unfolding chain
  chain_append [] ys plan_skip e = e
  chain_append (x ∷ xs) ys (plan_seq a b) e = plan_seq a (chain_append xs ys b e)

  chain_split : (xs ys : List Plan) {i j : ℕ} {f g : Forest} → PlanDerives T s (chain (xs ++ ys)) i j f g →
      (m : ℕ) × (h : Forest) × (PlanDerives T s (chain xs) i m f h) × (PlanDerives T s (chain ys) m j h g)
  unfolding chain
  chain_split [] ys {i} {j} {f} {g} d = (i, f, plan_skip, d)
  chain_split (x ∷ xs) ys (plan_seq a b) = let (m, h, u, v) = chain_split xs ys b in (m, h, plan_seq a u, v)

  pub some_left : (xss yss : List (List Plan)) {i j : ℕ} {f g : Forest} → Some T s i j f g xss →
      Some T s i j f g (xss ++ yss)
  some_left [] yss d = elim d [ ]
  some_left (xs ∷ xss) yss (here d) = here d
  some_left (xs ∷ xss) yss (there d) = there (some_left xss yss d)

  pub some_right : (xss yss : List (List Plan)) {i j : ℕ} {f g : Forest} → Some T s i j f g yss →
      Some T s i j f g (xss ++ yss)
  some_right [] yss d = d
  some_right (xs ∷ xss) yss d = there (some_right xss yss d)

  pub some_cases : (xss yss : List (List Plan)) {i j : ℕ} {f g : Forest} → Some T s i j f g (xss ++ yss) →
      Some T s i j f g xss ⊎ Some T s i j f g yss
  some_cases [] yss d = inr d
  some_cases (xs ∷ xss) yss (here d) = inl (here d)
  some_cases (xs ∷ xss) yss (there d) = go (some_cases xss yss d)
    where
      go : {i j : ℕ} {f g : Forest} → Some T s i j f g xss ⊎ Some T s i j f g yss →
          Some T s i j f g (xs ∷ xss) ⊎ Some T s i j f g yss
      go (inl u) = inl (there u)
      go (inr u) = inr u

  pub befores_to : (xss : List (List Plan)) (ys : List Plan) {i m j : ℕ} {f h g : Forest} → Some T s i m f h xss →
      PlanDerives T s (chain ys) m j h g → Some T s i j f g (befores xss ys)
  unfolding befores
  befores_to [] ys d e = elim d [ ]
  befores_to (xs ∷ xss) ys (here d) e = here (chain_append xs ys d e)
  befores_to (xs ∷ xss) ys (there d) e = there (befores_to xss ys d e)

  pub befores_from : (xss : List (List Plan)) (ys : List Plan) {i j : ℕ} {f g : Forest} →
      Some T s i j f g (befores xss ys) → Both T s i j f g xss (ys ∷ [])
  unfolding befores
  befores_from [] ys d = elim d [ ]
  befores_from (xs ∷ xss) ys (here d) = let (m, h, u, v) = chain_split xs ys d in both (here u) (here v)
  befores_from (xs ∷ xss) ys (there d) = go (befores_from xss ys d)
    where
      go : {i j : ℕ} {f g : Forest} → Both T s i j f g xss (ys ∷ []) → Both T s i j f g (xs ∷ xss) (ys ∷ [])
      go (both u v) = both (there u) v

  cross_to : (xss yss : List (List Plan)) {i m j : ℕ} {f h g : Forest} → Some T s i m f h xss → Some T s m j h g yss →
      Some T s i j f g (cross xss yss)
  unfolding cross
  cross_to xss [] d e = elim e [ ]
  cross_to xss (ys ∷ yss) d (here e) = some_left (befores xss ys) (cross xss yss) (befores_to xss ys d e)
  cross_to xss (ys ∷ yss) d (there e) = some_right (befores xss ys) (cross xss yss) (cross_to xss yss d e)

  cross_from : (xss yss : List (List Plan)) {i j : ℕ} {f g : Forest} → Some T s i j f g (cross xss yss) →
      Both T s i j f g xss yss
  unfolding cross
  cross_from xss [] d = elim d [ ]
  cross_from xss (ys ∷ yss) {i} {j} {f} {g} d =
      go (some_cases (befores xss ys) (cross xss yss) d) (λ e. cross_from xss yss e)
    where
      wide : Both T s i j f g xss (ys ∷ []) → Both T s i j f g xss (ys ∷ yss)
      wide (both u (here v)) = both u (here v)
      wide (both u (there v)) = elim v [ ]

      wide_r : Both T s i j f g xss yss → Both T s i j f g xss (ys ∷ yss)
      wide_r (both u v) = both u (there v)

      go : Some T s i j f g (befores xss ys) ⊎ Some T s i j f g (cross xss yss) →
          (Some T s i j f g (cross xss yss) → Both T s i j f g xss yss) → Both T s i j f g xss (ys ∷ yss)
      go (inl u) k = wide (befores_from xss ys u)
      go (inr u) k = wide_r (k u)

  single : (x : Plan) {i j : ℕ} {f g : Forest} → PlanDerives T s x i j f g → Some T s i j f g ((x ∷ []) ∷ [])
  unfolding chain
  single x d = here (plan_seq d plan_skip)

  unseq : {x : Plan} {i j : ℕ} {f g : Forest} → PlanDerives T s (seq x skip) i j f g → PlanDerives T s x i j f g
  unseq (plan_seq d plan_skip) = d

  single_from : (x : Plan) {i j : ℕ} {f g : Forest} → Some T s i j f g ((x ∷ []) ∷ []) → PlanDerives T s x i j f g
  unfolding chain
  single_from x (here d) = unseq d
  single_from x (there d) = elim d [ ]

  pub to_paths : (p : Plan) {i j : ℕ} {f g : Forest} → PlanDerives T s p i j f g → Some T s i j f g (paths p)
  unfolding paths chain
  to_paths (token k) d = single (token k) d
  to_paths (group o b c) (plan_group e d e') =
      cross_to ((token o ∷ []) ∷ []) (cross (paths b) ((token c ∷ []) ∷ [])) (single (token o) (plan_token e))
      (cross_to (paths b) ((token c ∷ []) ∷ []) (to_paths b d) (single (token c) (plan_token e')))
  to_paths (call n) d = single (call n) d
  to_paths (wrap r) d = single (wrap r) d
  to_paths (seq a b) (plan_seq x y) = cross_to (paths a) (paths b) (to_paths a x) (to_paths b y)
  to_paths (alt a b) (plan_left x) = some_left (paths a) (paths b) (to_paths a x)
  to_paths (alt a b) (plan_right x) = some_right (paths a) (paths b) (to_paths b x)
  to_paths skip d = here d
  to_paths (many a) d = single (many a) d

  from_group : {o c : ℕ} {b : Plan} {i m n j : ℕ} {f h k g : Forest} → PlanDerives T s (token o) i m f h →
      PlanDerives T s b m n h k → PlanDerives T s (token c) n j k g → PlanDerives T s (group o b c) i j f g
  from_group (plan_token e) d (plan_token e') = plan_group e d e'

  pub from_paths : (p : Plan) {i j : ℕ} {f g : Forest} → Some T s i j f g (paths p) → PlanDerives T s p i j f g
  unfolding paths chain
  from_paths (token k) d = single_from (token k) d
  from_paths (group o b c) {i} {j} {f} {g} d =
      go (cross_from ((token o ∷ []) ∷ []) (cross (paths b) ((token c ∷ []) ∷ [])) d)
      (λ m n h k e. from_paths b {i = m} {j = n} {f = h} {g = k} e)
    where
      Rec : Type 0
      Rec = (m n : ℕ) (h k : Forest) → Some T s m n h k (paths b) → PlanDerives T s b m n h k

      go2 : {m : ℕ} {h : Forest} → PlanDerives T s (token o) i m f h →
          Both T s m j h g (paths b) ((token c ∷ []) ∷ []) → Rec → PlanDerives T s (group o b c) i j f g
      go2 x (both u v) r = from_group x (r _ _ _ _ u) (single_from (token c) v)

      go : Both T s i j f g ((token o ∷ []) ∷ []) (cross (paths b) ((token c ∷ []) ∷ [])) → Rec →
          PlanDerives T s (group o b c) i j f g
      go (both u v) r = go2 (single_from (token o) u) (cross_from (paths b) ((token c ∷ []) ∷ []) v) r
  from_paths (call n) d = single_from (call n) d
  from_paths (wrap r) d = single_from (wrap r) d
  from_paths (seq a b) {i} {j} {f} {g} d =
      go (cross_from (paths a) (paths b) d) (λ m n h k e. from_paths a {i = m} {j = n} {f = h} {g = k} e)
      (λ m n h k e. from_paths b {i = m} {j = n} {f = h} {g = k} e)
    where
      Rec : Plan → Type 0
      Rec p = (m n : ℕ) (h k : Forest) → Some T s m n h k (paths p) → PlanDerives T s p m n h k

      go : Both T s i j f g (paths a) (paths b) → Rec a → Rec b → PlanDerives T s (seq a b) i j f g
      go (both u v) x y = plan_seq (x _ _ _ _ u) (y _ _ _ _ v)
  from_paths (alt a b) {i} {j} {f} {g} d =
      go (some_cases (paths a) (paths b) d) (λ e. from_paths a e) (λ e. from_paths b e)
    where
      go : Some T s i j f g (paths a) ⊎ Some T s i j f g (paths b) →
          (Some T s i j f g (paths a) → PlanDerives T s a i j f g) →
          (Some T s i j f g (paths b) → PlanDerives T s b i j f g) → PlanDerives T s (alt a b) i j f g
      go (inl u) x y = plan_left (x u)
      go (inr u) x y = plan_right (y u)
  from_paths skip (here d) = d
  from_paths skip (there d) = elim d [ ]
  from_paths (many a) d = single_from (many a) d
