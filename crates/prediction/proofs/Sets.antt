-- Laws of Boolean facts, and of sets of numbers as lists.
-- Each by cases on the Booleans or by induction on the list.
use Prim.Native.Nat.{ℕ}
use mathlib.Core.Path.{◌≡◌, sym, subst}
use mathlib.Core.Logic.{◌⊎◌, inl, inr, ⊎_elim}
use mathlib.Core.Bool.{Bool, true, false, not, ◌&&◌, ◌||◌}
use mathlib.Core.List.{List, [], ◌∷◌, ◌++◌}
use lib.Dec.{T, eqb, eqb→eq}
use Rattle.grammar.specs.Sets.{elem}
pub use Rattle.grammar.proofs.Sets.{and_left, and_right, or_cases, eq→eqb}
use Rattle.prediction.specs.Sets.{subset, only, each, disjoint}

pub or_left : (a b : Bool) → T a → T (a || b)
or_left true b t = tt
or_left false b t = absurd t

pub or_right : (a b : Bool) → T b → T (a || b)
or_right true b t = tt
or_right false b t = t

unfoldable pub decide : (b : Bool) → T b ⊎ T (not b)
decide true = inl tt
decide false = inr tt

pub each_at : (f : ℕ → Bool) (ns : List ℕ) (n : ℕ) → T (each f ns) → T (elem n ns) → T (f n)
unfolding each elem
each_at f [] n u v = absurd v
each_at f (m ∷ ns) n u v =
    ⊎_elim (λ e. subst (λ (k : ℕ). T (f k)) (sym (eqb→eq n m e)) (and_left (f m) (each f ns) u))
    (λ w. each_at f ns n (and_right (f m) (each f ns) u) w) (or_cases (eqb n m) (elem n ns) v)

pub elem_left : (k : ℕ) (xs ys : List ℕ) → T (elem k xs) → T (elem k (xs ++ ys))
unfolding elem
elem_left k [] ys t = absurd t
elem_left k (x ∷ xs) ys t = go (or_cases (eqb k x) (elem k xs) t) (elem_left k xs ys)
  where
    go : T (eqb k x) ⊎ T (elem k xs) → (T (elem k xs) → T (elem k (xs ++ ys))) → T (eqb k x || elem k (xs ++ ys))
    go (inl a) ih = or_left (eqb k x) (elem k (xs ++ ys)) a
    go (inr a) ih = or_right (eqb k x) (elem k (xs ++ ys)) (ih a)

pub elem_right : (k : ℕ) (xs ys : List ℕ) → T (elem k ys) → T (elem k (xs ++ ys))
unfolding elem
elem_right k [] ys t = t
elem_right k (x ∷ xs) ys t = or_right (eqb k x) (elem k (xs ++ ys)) (elem_right k xs ys t)

pub elem_only : (k : ℕ) (b : Bool) (xs : List ℕ) → T b → T (elem k xs) → T (elem k (only b xs))
unfolding only
elem_only k true xs u t = t
elem_only k false xs u t = absurd u

pub elem_eq : (k x : ℕ) → k ≡ x → T (elem k (x ∷ []))
unfolding elem
elem_eq k x e = or_left (eqb k x) false (eq→eqb k x e)

pub subset_in : (k : ℕ) (xs ys : List ℕ) → T (subset xs ys) → T (elem k xs) → T (elem k ys)
unfolding subset elem
subset_in k [] ys u t = absurd t
subset_in k (x ∷ xs) ys u t =
    go (or_cases (eqb k x) (elem k xs) t) (subset_in k xs ys (and_right (elem x ys) (subset xs ys) u))
  where
    go : T (eqb k x) ⊎ T (elem k xs) → (T (elem k xs) → T (elem k ys)) → T (elem k ys)
    go (inl a) ih = subst (λ (y : ℕ). T (elem y ys)) (sym (eqb→eq k x a)) (and_left (elem x ys) (subset xs ys) u)
    go (inr a) ih = ih a

not_T : (b : Bool) → T (not b) → T b → ⊥
not_T true p q = p
not_T false p q = q

pub disjoint_not : (k : ℕ) (xs ys : List ℕ) → T (disjoint xs ys) → T (elem k xs) → T (elem k ys) → ⊥
unfolding disjoint elem
disjoint_not k [] ys u t v = t
disjoint_not k (x ∷ xs) ys u t v =
    go (or_cases (eqb k x) (elem k xs) t)
    (λ a. disjoint_not k xs ys (and_right (not (elem x ys)) (disjoint xs ys) u) a v)
  where
    go : T (eqb k x) ⊎ T (elem k xs) → (T (elem k xs) → ⊥) → ⊥
    go (inl a) ih =
        not_T (elem x ys) (and_left (not (elem x ys)) (disjoint xs ys) u)
        (subst (λ (y : ℕ). T (elem y ys)) (eqb→eq k x a) v)
    go (inr a) ih = ih a

pub and_both : (a b : Bool) → T a → T b → T (a && b)
and_both true b t u = u
and_both false b t u = absurd t
