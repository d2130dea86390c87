-- What a plan comes to where something is known of the next kind: one test for a choice, however many alternatives it has.
-- By induction on the plan; that the last alternative needs no test is prediction's law. Assumes nothing.
use Rattle.std.proofs.Common.{◌≡◌, ℕ, zero, suc, ◌+◌, ◌<◌, ◌≤◌, Bool, true, false, not, ◌&&◌, ◌||◌, T, eqb, ◌⊎◌, List, [], ◌∷◌, ◌++◌, sym, refl, subst, inl, inr, ⊎_elim, arith, eqb→eq, T_not}
use lib.Dec.{not_T}
use Rattle.grammar.specs.Forest.{Forest}
use Rattle.grammar.specs.Sets.{elem}
use Rattle.prediction.specs.Sets.{subset, disjoint, row, each}
use Rattle.prediction.proofs.Sets.{subset_in, disjoint_not, and_left, and_right, and_both, or_left, each_at, or_right}
use Rattle.prediction.proofs.Sets.{or_cases, decide, elem_left, elem_right, elem_eq, eq→eqb}
use Rattle.prediction.specs.plans.Plan.{Plan, token, group, call, wrap, seq, alt, skip, many}
use Rattle.prediction.specs.validator.Typing.{Table, first, null}
use Rattle.prediction.specs.Interpreter.{Outcome, goes, turns, Runs, run_left, run_right, run_neither, run_seq}
use Rattle.prediction.specs.Interpreter.{run_seq_stop, run_skip, run_last, run_more, run_more_stop}
use Rattle.prediction.proofs.interpreter.Choice.{miss, run_then, run_else}
use Rattle.prediction.proofs.validator.Check.{all_typed, null_exactly}
use Rattle.prediction.specs.sharing.Renaming.{Inside, renamed}
use Rattle.readers_core.specs.Course.{Course, Shares, table_in}
use Rattle.readers_core.proofs.Sharing.{first_shared, null_shared}

-- the kind is one of these; it is none of these, arm by arm, the last arm first
pub data Known : Type 0 where
  among : List ℕ → Known
  except : List (List ℕ) → Known

-- as the tests of a `match` say it
unfoldable pub AnyOf : List ℕ → ℕ → Type 0
AnyOf [] x = ⊥
AnyOf (k ∷ []) x = x ≡ k
AnyOf (k ∷ (l ∷ ls)) x = (x ≡ k) ⊎ AnyOf (l ∷ ls) x

unfoldable pub NoneOf : List (List ℕ) → ℕ → Type 0
unfolding AnyOf
NoneOf [] x = Unit
NoneOf (ks ∷ arms) x = NoneOf arms x × (AnyOf ks x → ⊥)

unfoldable pub Knows : Known → ℕ → Type 0
unfolding AnyOf NoneOf
Knows (among ks) x = AnyOf ks x
Knows (except arms) x = NoneOf arms x

unfoldable pub flat : List (List ℕ) → List ℕ
flat [] = []
flat (ks ∷ arms) = ks ++ flat arms

pub any_elem : (ks : List ℕ) (x : ℕ) → AnyOf ks x → T (elem x ks)
unfolding AnyOf elem
any_elem [] x h = h
any_elem (k ∷ []) x h = or_left (eqb x k) false (eq→eqb x k h)
any_elem (k ∷ (l ∷ ls)) x (inl h) = or_left (eqb x k) (elem x (l ∷ ls)) (eq→eqb x k h)
any_elem (k ∷ (l ∷ ls)) x (inr h) = or_right (eqb x k) (elem x (l ∷ ls)) (any_elem (l ∷ ls) x h)

pub any_row : (a n x : ℕ) → a ≤ x → x ≤ a + n → AnyOf (row a (suc n)) x
unfolding row AnyOf
any_row a zero x h l = omega arith
any_row a (suc n) x h l = go (decide (eqb x a)) (λ m. any_row (suc a) n x m (omega arith))
  where
    go : T (eqb x a) ⊎ T (not (eqb x a)) → (suc a ≤ x → AnyOf (row (suc a) (suc n)) x) → (x ≡ a) ⊎ AnyOf (row (suc a) (suc n)) x
    go (inl u) f = inl (eqb→eq x a u)
    go (inr u) f = inr (f (omega (arith, apart)))
      where
        apart : x ≡ a → ⊥
        apart e = T_not (eqb x a) u (eq→eqb x a e)

pub none_row : (a n x : ℕ) → (x < a) ⊎ (a + n < x) → AnyOf (row a (suc n)) x → ⊥
unfolding row AnyOf
none_row a zero x o h = ⊎_elim (λ u. omega arith) (λ u. omega arith) o
none_row a (suc n) x o (inl e) = ⊎_elim (λ u. omega arith) (λ u. omega arith) o
none_row a (suc n) x o (inr h) =
    none_row (suc a) n x (⊎_elim (λ u. inl (omega arith)) (λ u. inr (omega arith)) o) h

pub elem_any : (ks : List ℕ) (x : ℕ) → T (elem x ks) → AnyOf ks x
unfolding AnyOf elem
elem_any [] x h = h
elem_any (k ∷ []) x h = go (or_cases (eqb x k) false h)
  where
    go : T (eqb x k) ⊎ T false → x ≡ k
    go (inl u) = eqb→eq x k u
    go (inr u) = absurd u
elem_any (k ∷ (l ∷ ls)) x h =
    ⊎_elim (λ u. inl (eqb→eq x k u)) (λ u. inr (elem_any (l ∷ ls) x u)) (or_cases (eqb x k) (elem x (l ∷ ls)) h)

pub elem_cases : (x : ℕ) (xs ys : List ℕ) → T (elem x (xs ++ ys)) → T (elem x xs) ⊎ T (elem x ys)
unfolding elem
elem_cases x [] ys h = inr h
elem_cases x (k ∷ xs) ys h =
    ⊎_elim (λ u. inl (or_left (eqb x k) (elem x xs) u))
    (λ u. ⊎_elim (λ v. inl (or_right (eqb x k) (elem x xs) v)) (λ v. inr v) (elem_cases x xs ys u))
    (or_cases (eqb x k) (elem x (xs ++ ys)) h)

pub none_elem : (arms : List (List ℕ)) (x : ℕ) → NoneOf arms x → T (elem x (flat arms)) → ⊥
unfolding NoneOf flat elem
none_elem [] x h u = u
none_elem (ks ∷ arms) x h u =
    ⊎_elim (λ v. h.1 (elem_any ks x v)) (λ v. none_elem arms x h.0 v) (elem_cases x ks (flat arms) u)

-- every run of the first alternative is one of the choice, as far as is known; of the second
unfoldable pub lefts : Table → Known → Plan → Plan → Bool
unfolding subset first null flat
lefts t (among ks) a b = subset ks (first t a)
lefts t (except arms) a b = subset (first t b) (flat arms) && (null t a || not (null t b))

unfoldable pub rights : Table → Known → Plan → Plan → Bool
unfolding subset disjoint first null flat
rights t (among ks) a b = subset ks (first t b) && disjoint ks (first t a)
rights t (except arms) a b = subset (first t a) (flat arms) && not (null t a)

-- a repetition goes on; it ends
unfoldable pub goes_on : Table → Known → Plan → Bool
unfolding subset first
goes_on t (among ks) a = subset ks (first t a)
goes_on t (except arms) a = false

unfoldable pub is_over : Table → Known → Plan → Bool
unfolding subset first flat
is_over t (among ks) a = disjoint ks (first t a)
is_over t (except arms) a = subset (first t a) (flat arms)

unfoldable pub pick : Bool → Bool → Plan → Plan → Plan → Plan
pick true c x y z = x
pick false true x y z = y
pick false false x y z = z

unfoldable pub choose : Table → Known → Plan → Plan
unfolding lefts rights goes_on is_over pick
choose t k (alt a b) = pick (lefts t k a b) (rights t k a b) (choose t k a) (choose t k b) (alt a b)
choose t k (seq a b) = seq (choose t k a) b
choose t k (many a) = pick (goes_on t k a) (is_over t k a) (seq a (many a)) skip (many a)
choose t k (token n) = token n
choose t k (group o b c) = group o b c
choose t k (call n) = call n
choose t k (wrap r) = wrap r
choose t k skip = skip

no_or : (a b : Bool) → (T a → ⊥) → (T b → ⊥) → T (not (a || b))
no_or true b f g = absurd (f tt)
no_or false true f g = absurd (g tt)
no_or false false f g = tt

-- token x is one of the alternatives, and none before it may begin with x
unfoldable pub takes : Table → ℕ → Plan → Bool
unfolding first null elem
takes t x (token k) = eqb x k
takes t x (alt a b) = takes t x a || (takes t x b && (not (elem x (first t a)) && not (null t a)))
takes t x (group o b c) = false
takes t x (call n) = false
takes t x (wrap r) = false
takes t x (seq a b) = false
takes t x skip = false
takes t x (many a) = false

unfoldable pub one_of : Table → Known → Plan → Bool
unfolding takes each
one_of t (among ks) p = each (λ k. takes t k p) ks
one_of t (except arms) p = false

-- in any course
module _ (C : Course) where
  abbrev t : Table
  t = table_in C

  -- neither alternative of two can begin: the choice blames, as the first does
  both_miss : (s : ℕ → ℕ) {d i : ℕ} (a b : Plan) {f : Forest} {x : Outcome} → (T (elem (s i) (first t a)) → ⊥) →
      (T (null t a) → ⊥) → (T (elem (s i) (first t b)) → ⊥) → (T (null t b) → ⊥) →
      Runs t s d a i f x → Runs t s d (alt a b) i f x
  unfolding goes turns
  both_miss s {d} {i} a b {f} na ea nb eb r =
      subst (λ (y : Outcome). Runs t s d (alt a b) i f y)
      (sym (miss t (all_typed C.checked) s (null_exactly C.checked) ea na r))
      (run_neither (no_or (elem (s i) (first t a)) (not (elem (s i) (first t b)) && null t a) na
      (λ u. ea (and_right (not (elem (s i) (first t b))) (null t a) u)))
      (no_or (elem (s i) (first t b)) (null t b) nb eb))

  choice_left : (s : ℕ → ℕ) {d i : ℕ} (k : Known) → Knows k (s i) → (a b : Plan) {f : Forest} {x : Outcome} →
      T (lefts t k a b) → Runs t s d a i f x → Runs t s d (alt a b) i f x
  unfolding lefts Knows goes
  choice_left s {d} {i} (among ks) h a b u r = run_then t (all_typed C.checked) s (null_exactly C.checked) a
      b (subset_in (s i) ks (first t a) u (any_elem ks (s i) h)) r
  choice_left s {d} {i} (except arms) h a b {f} {x} u r =
      go (λ w. none_elem arms (s i) h
      (subset_in (s i) (first t b) (flat arms)
      (and_left (subset (first t b) (flat arms)) (null t a || not (null t b)) u) w))
      (decide (elem (s i) (first t a))) (decide (null t a))
      (or_cases (null t a) (not (null t b))
      (and_right (subset (first t b) (flat arms)) (null t a || not (null t b)) u))
    where
      go : (T (elem (s i) (first t b)) → ⊥) →
          T (elem (s i) (first t a)) ⊎ T (not (elem (s i) (first t a))) →
          T (null t a) ⊎ T (not (null t a)) → T (null t a) ⊎ T (not (null t b)) →
          Runs t s d (alt a b) i f x
      go n (inl v) w z = run_then t (all_typed C.checked) s (null_exactly C.checked) a b v r
      go n (inr v) (inl w) z =
          run_left (or_right (elem (s i) (first t a)) (not (elem (s i) (first t b)) && null t a)
          (and_both (not (elem (s i) (first t b))) (null t a) (not_T (elem (s i) (first t b)) n)
          w)) r
      go n (inr v) (inr w) (inl z) = absurd (T_not (null t a) w z)
      go n (inr v) (inr w) (inr z) =
          both_miss s a b (T_not (elem (s i) (first t a)) v) (T_not (null t a) w) n
          (T_not (null t b) z) r

  choice_right : (s : ℕ → ℕ) {d i : ℕ} (k : Known) → Knows k (s i) → (a b : Plan) {f : Forest} {x : Outcome} →
      T (rights t k a b) → Runs t s d b i f x → Runs t s d (alt a b) i f x
  unfolding rights Knows goes turns
  choice_right s {d} {i} (among ks) h a b {f} {x} u r =
      run_right (no_or (elem (s i) (first t a)) (not (elem (s i) (first t b)) && null t a)
      (λ v. disjoint_not (s i) ks (first t a)
      (and_right (subset ks (first t b)) (disjoint ks (first t a)) u) (any_elem ks (s i) h) v)
      (λ v. T_not (elem (s i) (first t b))
      (and_left (not (elem (s i) (first t b))) (null t a) v) in_b))
      (or_left (elem (s i) (first t b)) (null t b) in_b) r
    where
      in_b : T (elem (s i) (first t b))
      in_b = subset_in (s i) ks (first t b)
          (and_left (subset ks (first t b)) (disjoint ks (first t a)) u) (any_elem ks (s i) h)
  choice_right s {d} {i} (except arms) h a b u r =
      run_else t (all_typed C.checked) s (null_exactly C.checked) a b
      (λ w. none_elem arms (s i) h
      (subset_in (s i) (first t a) (flat arms)
      (and_left (subset (first t a) (flat arms)) (not (null t a)) u) w))
      (T_not (null t a) (and_right (subset (first t a) (flat arms)) (not (null t a)) u)) r

  pub repeat_on : (s : ℕ → ℕ) {d i : ℕ} (k : Known) → Knows k (s i) → (a : Plan) {f : Forest} {x : Outcome} →
      T (goes_on t k a) → Runs t s d (seq a (many a)) i f x → Runs t s d (many a) i f x
  unfolding goes_on Knows
  repeat_on s {i = i} (among ks) h a u (run_seq r r') =
      run_more (subset_in (s i) ks (first t a) u (any_elem ks (s i) h)) r r'
  repeat_on s {i = i} (among ks) h a u (run_seq_stop r z) =
      run_more_stop (subset_in (s i) ks (first t a) u (any_elem ks (s i) h)) r z
  repeat_on s {i = i} (except arms) h a u r = absurd u

  -- and each run of a repetition that goes on begins with a turn
  pub repeat_once : (s : ℕ → ℕ) {d i : ℕ} (k : Known) → Knows k (s i) → (a : Plan) {f : Forest} {x : Outcome} →
      T (goes_on t k a) → Runs t s d (many a) i f x → Runs t s d (seq a (many a)) i f x
  unfolding goes_on Knows
  repeat_once s {i = i} (among ks) h a u (run_last v) =
      absurd (T_not (elem (s i) (first t a)) v (subset_in (s i) ks (first t a) u (any_elem ks (s i) h)))
  repeat_once s (among ks) h a u (run_more v r r') = run_seq r r'
  repeat_once s (among ks) h a u (run_more_stop v r z) = run_seq_stop r z
  repeat_once s (except arms) h a u r = absurd u

  pub repeat_over : (s : ℕ → ℕ) {d i : ℕ} (k : Known) → Knows k (s i) → (a : Plan) {f : Forest} {x : Outcome} →
      T (is_over t k a) → Runs t s d skip i f x → Runs t s d (many a) i f x
  unfolding is_over Knows
  repeat_over s {i = i} (among ks) h a u run_skip =
      run_last (not_T (elem (s i) (first t a))
      (λ v. disjoint_not (s i) ks (first t a) u (any_elem ks (s i) h) v))
  repeat_over s {i = i} (except arms) h a u run_skip =
      run_last (not_T (elem (s i) (first t a))
      (λ v. none_elem arms (s i) h (subset_in (s i) (first t a) (flat arms) u v)))

  -- each run of what a plan comes to is one of the plan
  pub run_chosen : (s : ℕ → ℕ) {d i : ℕ} (k : Known) → Knows k (s i) → (p : Plan) {f : Forest} {x : Outcome} →
      Runs t s d (choose t k p) i f x → Runs t s d p i f x
  unfolding choose
  run_chosen s k h (token n) r = r
  run_chosen s k h (group o b c) r = r
  run_chosen s k h (call n) r = r
  run_chosen s k h (wrap n) r = r
  run_chosen s k h skip r = r
  run_chosen s k h (seq a b) (run_seq r r') = run_seq (run_chosen s k h a r) r'
  run_chosen s k h (seq a b) (run_seq_stop r z) = run_seq_stop (run_chosen s k h a r) z
  run_chosen s {d} {i} k h (alt a b) {f} {x} r =
      go (lefts t k a b) (rights t k a b) (λ u r. choice_left s k h a b u (run_chosen s k h a r))
      (λ u r. choice_right s k h a b u (run_chosen s k h b r)) r
    where
      go : (l m : Bool) → (T l → Runs t s d (choose t k a) i f x → Runs t s d (alt a b) i f x) →
          (T m → Runs t s d (choose t k b) i f x → Runs t s d (alt a b) i f x) →
          Runs t s d (pick l m (choose t k a) (choose t k b) (alt a b)) i f x →
          Runs t s d (alt a b) i f x
      go true m p q r = p tt r
      go false true p q r = q tt r
      go false false p q r = r
  run_chosen s {d} {i} k h (many a) {f} {x} r =
      go (goes_on t k a) (is_over t k a) (λ u r. repeat_on s k h a u r) (λ u r. repeat_over s k h a u r) r
    where
      go : (l m : Bool) → (T l → Runs t s d (seq a (many a)) i f x → Runs t s d (many a) i f x) →
          (T m → Runs t s d skip i f x → Runs t s d (many a) i f x) →
          Runs t s d (pick l m (seq a (many a)) skip (many a)) i f x → Runs t s d (many a) i f x
      go true m p q r = p tt r
      go false true p q r = q tt r
      go false false p q r = r

  takes_first : (x : ℕ) (p : Plan) → T (takes t x p) → T (elem x (first t p))
  unfolding takes first
  takes_first x (token k) u = elem_eq x k (eqb→eq x k u)
  takes_first x (alt a b) u =
      ⊎_elim (λ v. elem_left x (first t a) (first t b) (takes_first x a v))
      (λ v. elem_right x (first t a) (first t b) (takes_first x b
      (and_left (takes t x b) (not (elem x (first t a)) && not (null t a)) v)))
      (or_cases (takes t x a) (takes t x b && (not (elem x (first t a)) && not (null t a))) u)
  takes_first x (group o b c) u = absurd u
  takes_first x (call n) u = absurd u
  takes_first x (wrap r) u = absurd u
  takes_first x (seq a b) u = absurd u
  takes_first x skip u = absurd u
  takes_first x (many a) u = absurd u

  one_token : (s : ℕ → ℕ) {d i : ℕ} (p : Plan) {f : Forest} {x : Outcome} → T (takes t (s i) p) →
      Runs t s d (token (s i)) i f x → Runs t s d p i f x
  unfolding takes
  one_token s {d} {i} (token k) {f} {x} u r = subst (λ (n : ℕ). Runs t s d (token n) i f x) (eqb→eq (s i) k u) r
  one_token s {d} {i} (alt a b) {f} {x} u r =
      ⊎_elim (λ v. run_then t (all_typed C.checked) s (null_exactly C.checked) a b (takes_first (s i) a v)
      (one_token s a v r))
      (λ v. let w = and_right (takes t (s i) b) (not (elem (s i) (first t a)) && not (null t a)) v in
      run_else t (all_typed C.checked) s (null_exactly C.checked) a b
      (T_not (elem (s i) (first t a))
      (and_left (not (elem (s i) (first t a))) (not (null t a)) w))
      (T_not (null t a) (and_right (not (elem (s i) (first t a))) (not (null t a)) w))
      (one_token s b (and_left (takes t (s i) b) (not (elem (s i) (first t a)) && not (null t a)) v) r))
      (or_cases (takes t (s i) a) (takes t (s i) b && (not (elem (s i) (first t a)) && not (null t a))) u)
  one_token s (group o b c) u r = absurd u
  one_token s (call n) u r = absurd u
  one_token s (wrap n) u r = absurd u
  one_token s (seq a b) u r = absurd u
  one_token s skip u r = absurd u
  one_token s (many a) u r = absurd u

  -- the next token is one of those that the plan takes
  pub run_one_of : (s : ℕ → ℕ) {d i : ℕ} (k : Known) → Knows k (s i) → (p : Plan) {f : Forest} {x : Outcome} →
      T (one_of t k p) → Runs t s d (token (s i)) i f x → Runs t s d p i f x
  unfolding one_of Knows
  run_one_of s {i = i} (among ks) h p u r = one_token s p (each_at (λ k. takes t k p) ks (s i) u (any_elem ks (s i) h)) r
  run_one_of s (except arms) h p u r = absurd u

-- what a plan comes to names no other rules
module _ (S : ℕ → Bool) (t : Table) where
  inside_pick : (l r : Bool) (x y z : Plan) → Inside S x → Inside S y → Inside S z → Inside S (pick l r x y z)
  unfolding pick
  inside_pick true r x y z u v w = u
  inside_pick false true x y z u v w = v
  inside_pick false false x y z u v w = w

  pub inside_choose : (k : Known) (p : Plan) → Inside S p → Inside S (choose t k p)
  unfolding choose Inside
  inside_choose k (token n) u = u
  inside_choose k (group o b c) u = u
  inside_choose k (call n) u = u
  inside_choose k (wrap n) u = u
  inside_choose k skip u = u
  inside_choose k (seq a b) u = (inside_choose k a u.0, u.1)
  inside_choose k (alt a b) u =
      inside_pick (lefts t k a b) (rights t k a b) (choose t k a) (choose t k b) (alt a b) (inside_choose k a u.0)
      (inside_choose k b u.1) u
  inside_choose k (many a) u = inside_pick (goes_on t k a) (is_over t k a) (seq a (many a)) skip (many a) (u, u) tt u

renamed_pick : (number : ℕ → ℕ) (l r : Bool) (x y z : Plan) →
    pick l r (renamed number x) (renamed number y) (renamed number z) ≡ renamed number (pick l r x y z)
unfolding pick
renamed_pick number true r x y z = refl
renamed_pick number false true x y z = refl
renamed_pick number false false x y z = refl

-- where a plan is shared, it comes to the same in both courses, and takes the same tokens
module _ {R C : Course} (m : Shares R C) where
  abbrev there : Table
  there = table_in C

  abbrev here : Table
  here = table_in R

  abbrev in_other : Plan → Plan
  in_other p = renamed m.number p

  lefts_shared : (k : Known) (a b : Plan) → Inside m.rule a → Inside m.rule b →
      lefts there k (in_other a) (in_other b) ≡ lefts here k a b
  unfolding lefts
  lefts_shared (among ks) a b u v = rw (first_shared m a u)
  lefts_shared (except arms) a b u v = rw (first_shared m b v, null_shared m a u, null_shared m b v)

  rights_shared : (k : Known) (a b : Plan) → Inside m.rule a → Inside m.rule b →
      rights there k (in_other a) (in_other b) ≡ rights here k a b
  unfolding rights
  rights_shared (among ks) a b u v = rw (first_shared m a u, first_shared m b v)
  rights_shared (except arms) a b u v = rw (first_shared m a u, null_shared m a u)

  pub goes_on_shared : (k : Known) (a : Plan) → Inside m.rule a → goes_on there k (in_other a) ≡ goes_on here k a
  unfolding goes_on
  goes_on_shared (among ks) a u = rw (first_shared m a u)
  goes_on_shared (except arms) a u = refl

  pub is_over_shared : (k : Known) (a : Plan) → Inside m.rule a → is_over there k (in_other a) ≡ is_over here k a
  unfolding is_over
  is_over_shared (among ks) a u = rw (first_shared m a u)
  is_over_shared (except arms) a u = rw (first_shared m a u)

  pub choose_shared : (k : Known) (p : Plan) → Inside m.rule p → choose there k (in_other p) ≡ in_other (choose here k p)
  unfolding choose Inside renamed
  choose_shared k (token n) u = refl
  choose_shared k (group o b c) u = refl
  choose_shared k (call n) u = refl
  choose_shared k (wrap n) u = refl
  choose_shared k skip u = refl
  choose_shared k (seq a b) u = rw (choose_shared k a u.0)
  choose_shared k (alt a b) u =
      rw (
        lefts_shared k a b u.0 u.1,
        rights_shared k a b u.0 u.1,
        choose_shared k a u.0,
        choose_shared k b u.1,
      )
      (renamed_pick m.number (lefts here k a b) (rights here k a b) (choose here k a) (choose here k b) (alt a b))
  choose_shared k (many a) u =
      rw (goes_on_shared k a u, is_over_shared k a u)
      (renamed_pick m.number (goes_on here k a) (is_over here k a) (seq a (many a)) skip (many a))

  takes_shared : (x : ℕ) (p : Plan) → Inside m.rule p → takes there x (in_other p) ≡ takes here x p
  unfolding takes Inside renamed
  takes_shared x (token k) u = refl
  takes_shared x (group o b c) u = refl
  takes_shared x (call n) u = refl
  takes_shared x (wrap n) u = refl
  takes_shared x (seq a b) u = refl
  takes_shared x (alt a b) u =
      rw (takes_shared x a u.0, takes_shared x b u.1, first_shared m a u.0, null_shared m a u.0)
  takes_shared x skip u = refl
  takes_shared x (many a) u = refl

  all_taken_shared : (ks : List ℕ) (p : Plan) → Inside m.rule p →
      each (λ k. takes there k (in_other p)) ks ≡ each (λ k. takes here k p) ks
  unfolding each
  all_taken_shared [] p u = refl
  all_taken_shared (k ∷ ks) p u = rw (takes_shared k p u, all_taken_shared ks p u)

  pub one_of_shared : (k : Known) (p : Plan) → Inside m.rule p → one_of there k (in_other p) ≡ one_of here k p
  unfolding one_of
  one_of_shared (among ks) p u = all_taken_shared ks p u
  one_of_shared (except arms) p u = refl
