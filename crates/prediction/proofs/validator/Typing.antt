-- What the type of a compound plan says of its parts.
-- By the parts of the test.
use Prim.Native.Nat.{ℕ, ◌<◌}
use mathlib.Core.Path.{◌≡◌}
use mathlib.Core.Bool.{not, ◌&&◌}
use mathlib.Core.List.{[], ◌∷◌, ◌++◌}
use lib.Dec.{T, ltb, ltb→lt, T_not}
use Rattle.grammar.proofs.Sets.{and_left, and_right}
use Rattle.grammar.specs.Sets.{elem}
use Rattle.prediction.specs.Sets.{only, disjoint}
use Rattle.prediction.specs.plans.Plan.{Plan, token, group, seq, alt, many}
use Rattle.prediction.specs.validator.Typing.{Table, typed, null, first, follow_last}
use Rattle.prediction.proofs.Sets.{elem_left, elem_right, elem_only, elem_eq, disjoint_not, and_both}

pub token_positive : (t : Table) (k : ℕ) → T (typed t (token k)) → 0 < k
unfolding typed
token_positive t k u = ltb→lt 0 k u

pub group_positive : (t : Table) (o c : ℕ) (b : Plan) → T (typed t (group o b c)) → (0 < o) × (0 < c)
unfolding typed
group_positive t o c b u =
    let v = and_left (ltb 0 o && ltb 0 c) (typed t b && _) u in
    (ltb→lt 0 o (and_left (ltb 0 o) (ltb 0 c) v), ltb→lt 0 c (and_right (ltb 0 o) (ltb 0 c) v))

-- the parts of the test of a plan
pub seq_left_typed : (t : Table) (a b : Plan) → T (typed t (seq a b)) → T (typed t a)
unfolding typed
seq_left_typed t a b h =
    and_left (typed t a) (typed t b) (and_left (typed t a && typed t b) (disjoint (follow_last t a) (first t b)) h)

pub seq_right_typed : (t : Table) (a b : Plan) → T (typed t (seq a b)) → T (typed t b)
unfolding typed
seq_right_typed t a b h =
    and_right (typed t a) (typed t b) (and_left (typed t a && typed t b) (disjoint (follow_last t a) (first t b)) h)

pub seq_apart : (t : Table) (a b : Plan) → T (typed t (seq a b)) → (k : ℕ) → T (elem k (follow_last t a)) →
    T (elem k (first t b)) → ⊥
unfolding typed
seq_apart t a b h k =
    disjoint_not k (follow_last t a) (first t b)
    (and_right (typed t a && typed t b) (disjoint (follow_last t a) (first t b)) h)

pub alt_left_typed : (t : Table) (a b : Plan) → T (typed t (alt a b)) → T (typed t a)
unfolding typed
alt_left_typed t a b h =
    and_left (typed t a) (typed t b)
    (and_left (typed t a && typed t b) (disjoint (first t a) (first t b) && not (null t a && null t b)) h)

pub alt_right_typed : (t : Table) (a b : Plan) → T (typed t (alt a b)) → T (typed t b)
unfolding typed
alt_right_typed t a b h =
    and_right (typed t a) (typed t b)
    (and_left (typed t a && typed t b) (disjoint (first t a) (first t b) && not (null t a && null t b)) h)

pub alt_apart : (t : Table) (a b : Plan) → T (typed t (alt a b)) → (k : ℕ) → T (elem k (first t a)) →
    T (elem k (first t b)) → ⊥
unfolding typed
alt_apart t a b h k =
    disjoint_not k (first t a) (first t b)
    (and_left (disjoint (first t a) (first t b)) (not (null t a && null t b))
    (and_right (typed t a && typed t b) (disjoint (first t a) (first t b) && not (null t a && null t b)) h))

pub alt_one_null : (t : Table) (a b : Plan) → T (typed t (alt a b)) → T (null t a) → T (null t b) → ⊥
unfolding typed
alt_one_null t a b h u v =
    T_not (null t a && null t b)
    (and_right (disjoint (first t a) (first t b)) (not (null t a && null t b))
    (and_right (typed t a && typed t b) (disjoint (first t a) (first t b) && not (null t a && null t b)) h))
    (and_both (null t a) (null t b) u v)

pub many_typed : (t : Table) (a : Plan) → T (typed t (many a)) → T (typed t a)
unfolding typed
many_typed t a h = and_left (typed t a) (disjoint (follow_last t a) (first t a) && not (null t a)) h

pub many_apart : (t : Table) (a : Plan) → T (typed t (many a)) → (k : ℕ) → T (elem k (follow_last t a)) →
    T (elem k (first t a)) → ⊥
unfolding typed
many_apart t a h k =
    disjoint_not k (follow_last t a) (first t a)
    (and_left (disjoint (follow_last t a) (first t a)) (not (null t a))
    (and_right (typed t a) (disjoint (follow_last t a) (first t a) && not (null t a)) h))

pub many_not_null : (t : Table) (a : Plan) → T (typed t (many a)) → T (null t a) → ⊥
unfolding typed
many_not_null t a h =
    T_not (null t a)
    (and_right (disjoint (follow_last t a) (first t a)) (not (null t a))
    (and_right (typed t a) (disjoint (follow_last t a) (first t a) && not (null t a)) h))

pub group_typed : (t : Table) (o c : ℕ) (b : Plan) → T (typed t (group o b c)) → T (typed t b)
unfolding typed
group_typed t o c b h =
    and_left (typed t b) (disjoint (follow_last t b) (c ∷ []))
    (and_right (ltb 0 o && ltb 0 c) (typed t b && disjoint (follow_last t b) (c ∷ [])) h)

pub group_apart : (t : Table) (o c : ℕ) (b : Plan) → T (typed t (group o b c)) → (k : ℕ) →
    T (elem k (follow_last t b)) → k ≡ c → ⊥
unfolding typed
group_apart t o c b h k u e =
    disjoint_not k (follow_last t b) (c ∷ [])
    (and_right (typed t b) (disjoint (follow_last t b) (c ∷ []))
    (and_right (ltb 0 o && ltb 0 c) (typed t b && disjoint (follow_last t b) (c ∷ [])) h)) u (elem_eq k c e)

-- where flast of a compound holds a kind of flast of its parts
pub last_seq_left : (t : Table) (a b : Plan) (k : ℕ) → T (null t b) → T (elem k (follow_last t a)) →
    T (elem k (follow_last t (seq a b)))
unfolding follow_last
last_seq_left t a b k n u =
    elem_right k (follow_last t b) (only (null t b) (follow_last t a)) (elem_only k (null t b) (follow_last t a) n u)

pub last_seq_right : (t : Table) (a b : Plan) (k : ℕ) → T (elem k (follow_last t b)) →
    T (elem k (follow_last t (seq a b)))
unfolding follow_last
last_seq_right t a b k u = elem_left k (follow_last t b) (only (null t b) (follow_last t a)) u

pub last_alt_left : (t : Table) (a b : Plan) (k : ℕ) → T (elem k (follow_last t a)) →
    T (elem k (follow_last t (alt a b)))
unfolding follow_last
last_alt_left t a b k u =
    elem_left k (follow_last t a ++ follow_last t b) (only (null t a) (first t b) ++ only (null t b) (first t a))
    (elem_left k (follow_last t a) (follow_last t b) u)

pub last_alt_right : (t : Table) (a b : Plan) (k : ℕ) → T (elem k (follow_last t b)) →
    T (elem k (follow_last t (alt a b)))
unfolding follow_last
last_alt_right t a b k u =
    elem_left k (follow_last t a ++ follow_last t b) (only (null t a) (first t b) ++ only (null t b) (first t a))
    (elem_right k (follow_last t a) (follow_last t b) u)

pub last_left_empty : (t : Table) (a b : Plan) (k : ℕ) → T (null t a) → T (elem k (first t b)) →
    T (elem k (follow_last t (alt a b)))
unfolding follow_last
last_left_empty t a b k n u =
    elem_right k (follow_last t a ++ follow_last t b) (only (null t a) (first t b) ++ only (null t b) (first t a))
    (elem_left k (only (null t a) (first t b)) (only (null t b) (first t a)) (elem_only k (null t a) (first t b) n u))

pub last_right_empty : (t : Table) (a b : Plan) (k : ℕ) → T (null t b) → T (elem k (first t a)) →
    T (elem k (follow_last t (alt a b)))
unfolding follow_last
last_right_empty t a b k n u =
    elem_right k (follow_last t a ++ follow_last t b) (only (null t a) (first t b) ++ only (null t b) (first t a))
    (elem_right k (only (null t a) (first t b)) (only (null t b) (first t a))
    (elem_only k (null t b) (first t a) n u))

pub last_many : (t : Table) (a : Plan) (k : ℕ) → T (elem k (follow_last t a)) → T (elem k (follow_last t (many a)))
unfolding follow_last
last_many t a k u = elem_left k (follow_last t a) (first t a) u

pub last_many_first : (t : Table) (a : Plan) (k : ℕ) → T (elem k (first t a)) → T (elem k (follow_last t (many a)))
unfolding follow_last
last_many_first t a k u = elem_right k (follow_last t a) (first t a) u
