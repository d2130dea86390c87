-- Where the kind cannot begin a plan, the reader leaves it empty or blames at once: the last choice needs no test.
-- By induction on the run.
use Prim.Native.Nat.{ℕ}
use mathlib.Core.Path.{◌≡◌, refl, ap, sym, ◌∙◌, subst}
use mathlib.Core.Logic.{◌⊎◌, inl, inr}
use mathlib.Core.Bool.{not, ◌&&◌, ◌||◌}
use native.Mathlib.Omega.{arith}
use lib.Dec.{T, T_not, not_T}
use Rattle.grammar.specs.Forest.{Forest}
use Rattle.grammar.specs.Sets.{elem}
use Rattle.grammar.proofs.Sets.{and_left, and_right, or_cases}
use Rattle.prediction.specs.Sets.{only}
use Rattle.prediction.specs.plans.Plan.{Plan, seq, alt}
use Rattle.prediction.specs.validator.Typing.{Table, null, first, Typed}
use Rattle.prediction.specs.Interpreter.{Outcome, done, blame, stopped, goes, turns, Runs, run_token, run_miss}
use Rattle.prediction.specs.Interpreter.{run_shut, run_deep, run_inside, run_group, run_unclosed, run_call}
use Rattle.prediction.specs.Interpreter.{run_call_stop, run_wrap, run_seq, run_seq_stop, run_left, run_right}
use Rattle.prediction.specs.Interpreter.{run_neither, run_skip, run_last, run_more, run_more_stop}
use Rattle.prediction.proofs.Sets.{or_left, or_right, decide, elem_left, elem_right, elem_only, elem_eq}
use Rattle.prediction.proofs.Sets.{and_both}

-- the reader read nothing
pub data Skips (i : ℕ) : Outcome → Type 0 where
  skips : {g : Forest} → Skips i (done i g)

skips_eq : {i m : ℕ} {g : Forest} → Skips i (done m g) → m ≡ i
skips_eq skips = refl

module _ (t : Table) (o : Typed t) (s : ℕ → ℕ) (exact : (n : ℕ) → T (t.null_of n) → T (null t (t.plan n))) where
  -- where neither choice can begin, the first is taken if it may be empty, and the second if it may be
  takes : (a b : Plan) (k : ℕ) → (T (elem k (first t (alt a b))) → ⊥) → T (goes t a b k) → T (null t a)
  unfolding goes first
  takes a b k n u = go (or_cases (elem k (first t a)) (not (elem k (first t b)) && null t a) u)
    where
      go : T (elem k (first t a)) ⊎ T (not (elem k (first t b)) && null t a) → T (null t a)
      go (inl v) = absurd (n (elem_left k (first t a) (first t b) v))
      go (inr v) = and_right (not (elem k (first t b))) (null t a) v

  passes : (a b : Plan) (k : ℕ) → (T (elem k (first t (alt a b))) → ⊥) → T (not (goes t a b k)) → T (null t a) → ⊥
  unfolding goes first
  passes a b k n u v =
      T_not (elem k (first t a) || (not (elem k (first t b)) && null t a)) u
      (or_right (elem k (first t a)) (not (elem k (first t b)) && null t a)
      (and_both (not (elem k (first t b))) (null t a)
      (not_T (elem k (first t b)) (λ w. n (elem_right k (first t a) (first t b) w))) v))

  turns_null : (a b : Plan) (k : ℕ) → (T (elem k (first t (alt a b))) → ⊥) → T (turns t b k) → T (null t b)
  unfolding turns first
  turns_null a b k n u = go (or_cases (elem k (first t b)) (null t b) u)
    where
      go : T (elem k (first t b)) ⊎ T (null t b) → T (null t b)
      go (inl v) = absurd (n (elem_right k (first t a) (first t b) v))
      go (inr v) = v

  turns_or : (b : Plan) (k : ℕ) → T (not (turns t b k)) → T (null t b) → ⊥
  unfolding turns
  turns_or b k u v = T_not (elem k (first t b) || null t b) u (or_right (elem k (first t b)) (null t b) v)

  first_l : (a b : Plan) (k : ℕ) → T (elem k (first t a)) → T (elem k (first t (seq a b)))
  unfolding first
  first_l a b k u = elem_left k (first t a) (only (null t a) (first t b)) u

  first_r : (a b : Plan) (k : ℕ) → T (null t a) → T (elem k (first t b)) → T (elem k (first t (seq a b)))
  unfolding first
  first_r a b k n u = elem_right k (first t a) (only (null t a) (first t b)) (elem_only k (null t a) (first t b) n u)

  no_skip : {i : ℕ} {x : Outcome} → T (stopped x) → Skips i x → ⊥
  unfolding stopped
  no_skip z skips = z

  pub passes_over : {d i : ℕ} {p : Plan} {f : Forest} {x : Outcome} → T (null t p) →
      (T (elem (s i) (first t p)) → ⊥) → Runs t s d p i f x → Skips i x
  unfolding null first
  passes_over u n (run_token e) = absurd u
  passes_over u n (run_miss e) = absurd u
  passes_over u n (run_shut e) = absurd u
  passes_over u n (run_deep e) = absurd u
  passes_over u n (run_inside e r z) = absurd u
  passes_over u n (run_group e r z) = absurd u
  passes_over u n (run_unclosed e r z) = absurd u
  passes_over u n (run_call {n = m} {i = i} r e) =
      again (passes_over (exact m u) (λ v. n (o.first_holds m (s i) v)) r)
    where
      again : {j : ℕ} {h g : Forest} → Skips i (done j h) → Skips i (done j g)
      again skips = skips
  passes_over u n (run_call_stop {n = m} {i = i} r z) = passes_over (exact m u) (λ v. n (o.first_holds m (s i) v)) r
  passes_over u n run_wrap = skips
  passes_over u n (run_seq {i = i} {a = a} {b = b} {x = x} r r') =
      let e = skips_eq (passes_over (and_left (null t a) (null t b) u) (λ v. n (first_l a b (s i) v)) r) in
      subst (λ (k : ℕ). Skips k x) e
      (passes_over (and_right (null t a) (null t b) u)
      (λ v. n (first_r a b (s i) (and_left (null t a) (null t b) u)
      (subst (λ (k : ℕ). T (elem (s k) (first t b))) e v))) r')
  passes_over u n (run_seq_stop {i = i} {a = a} {b = b} r z) =
      passes_over (and_left (null t a) (null t b) u) (λ v. n (first_l a b (s i) v)) r
  passes_over u n (run_left {i = i} {a = a} {b = b} v r) =
      passes_over (takes a b (s i) n v) (λ w. n (elem_left (s i) (first t a) (first t b) w)) r
  passes_over u n (run_right {i = i} {a = a} {b = b} v v' r) =
      passes_over (turns_null a b (s i) n v') (λ w. n (elem_right (s i) (first t a) (first t b) w)) r
  passes_over u n (run_neither {i = i} {a = a} {b = b} v v') = absurd (go (or_cases (null t a) (null t b) u))
    where
      go : T (null t a) ⊎ T (null t b) → ⊥
      go (inl w) = passes a b (s i) n v w
      go (inr w) = turns_or b (s i) v' w
  passes_over u n run_skip = skips
  passes_over u n (run_last v) = skips
  passes_over u n (run_more v r r') = absurd (n v)
  passes_over u n (run_more_stop v r z) = absurd (n v)

  stop_blame : {i m : ℕ} {g : Forest} → done m g ≡ blame i → ⊥
  stop_blame e = let z : ◌≡◌ {A = ℕ} 0 1 = cc in omega arith

  pub miss : {d i : ℕ} {p : Plan} {f : Forest} {x : Outcome} → (T (null t p) → ⊥) → (T (elem (s i) (first t p)) → ⊥) →
      Runs t s d p i f x → x ≡ blame i
  unfolding null first
  miss u n (run_token {k = k} {i = i} e) = absurd (n (elem_eq (s i) k e))
  miss u n (run_miss e) = refl
  miss u n (run_shut e) = refl
  miss u n (run_deep {o = k} {i = i} e) = absurd (n (elem_eq (s i) k e))
  miss u n (run_inside {o = k} {i = i} e r z) = absurd (n (elem_eq (s i) k e))
  miss u n (run_group {o = k} {i = i} e r z) = absurd (n (elem_eq (s i) k e))
  miss u n (run_unclosed {o = k} {i = i} e r z) = absurd (n (elem_eq (s i) k e))
  miss u n (run_call {n = m} {i = i} r e) =
      absurd (stop_blame (miss (λ v. u (o.null_holds m v)) (λ v. n (o.first_holds m (s i) v)) r))
  miss u n (run_call_stop {n = m} {i = i} r z) =
      miss (λ v. u (o.null_holds m v)) (λ v. n (o.first_holds m (s i) v)) r
  miss u n run_wrap = absurd (u tt)
  miss u n (run_seq {d = d} {i = i} {a = a} {b = b} {x = x} r r') =
      go (decide (null t a)) (λ v. passes_over v (λ w. n (first_l a b (s i) w)) r)
      (λ v. miss v (λ w. n (first_l a b (s i) w)) r) (λ v w. miss v w r')
    where
      go : {m : ℕ} {h : Forest} → T (null t a) ⊎ T (not (null t a)) → (T (null t a) → Skips i (done m h)) →
          ((T (null t a) → ⊥) → done m h ≡ blame i) →
          ((T (null t b) → ⊥) → (T (elem (s m) (first t b)) → ⊥) → x ≡ blame m) → x ≡ blame i
      go (inl v) p q w =
          let e = skips_eq (p v) in
          w (λ y. u (and_both (null t a) (null t b) v y))
          (λ y. n (first_r a b (s i) v (subst (λ (k : ℕ). T (elem (s k) (first t b))) e y))) ∙ ap blame e
      go (inr v) p q w = absurd (stop_blame (q (λ y. T_not (null t a) v y)))
  miss u n (run_seq_stop {i = i} {a = a} {b = b} {x = x} r z) =
      go (decide (null t a)) (λ v. passes_over v (λ w. n (first_l a b (s i) w)) r)
      (λ v. miss v (λ w. n (first_l a b (s i) w)) r)
    where
      go : T (null t a) ⊎ T (not (null t a)) → (T (null t a) → Skips i x) → ((T (null t a) → ⊥) → x ≡ blame i) →
          x ≡ blame i
      go (inl v) p q = absurd (no_skip z (p v))
      go (inr v) p q = q (λ y. T_not (null t a) v y)
  miss u n (run_left {i = i} {a = a} {b = b} v r) = absurd (u (or_left (null t a) (null t b) (takes a b (s i) n v)))
  miss u n (run_right {i = i} {a = a} {b = b} v v' r) =
      absurd (u (or_right (null t a) (null t b) (turns_null a b (s i) n v')))
  miss u n (run_neither v v') = refl
  miss u n run_skip = absurd (u tt)
  miss u n (run_last v) = absurd (u tt)
  miss u n (run_more v r r') = absurd (u tt)
  miss u n (run_more_stop v r z) = absurd (u tt)

  not_goes : (a b : Plan) (k : ℕ) → (T (elem k (first t a)) → ⊥) → (T (null t a) → ⊥) → T (not (goes t a b k))
  unfolding goes
  not_goes a b k n u =
      not_T (elem k (first t a) || (not (elem k (first t b)) && null t a))
      (λ v. go (or_cases (elem k (first t a)) (not (elem k (first t b)) && null t a) v))
    where
      go : T (elem k (first t a)) ⊎ T (not (elem k (first t b)) && null t a) → ⊥
      go (inl w) = n w
      go (inr w) = u (and_right (not (elem k (first t b))) (null t a) w)

  not_turns : (b : Plan) (k : ℕ) → T (not (turns t b k)) → (T (elem k (first t b)) → ⊥) × (T (null t b) → ⊥)
  unfolding turns
  not_turns b k u = (
    λ v. T_not (elem k (first t b) || null t b) u (or_left (elem k (first t b)) (null t b) v),
    λ v.
        T_not (elem k (first t b) || null t b) u (or_right (elem k (first t b)) (null t b) v),
  )

  -- a choice is one test: the first plan where the kind begins it, and else the second, whatever the kind
  pub run_then : {d i : ℕ} (a b : Plan) {f : Forest} {x : Outcome} → T (elem (s i) (first t a)) → Runs t s d a i f x →
      Runs t s d (alt a b) i f x
  unfolding goes
  run_then {i = i} a b u r =
      run_left (or_left (elem (s i) (first t a)) (not (elem (s i) (first t b)) && null t a) u) r

  pub run_else : {d i : ℕ} (a b : Plan) {f : Forest} {x : Outcome} → (T (elem (s i) (first t a)) → ⊥) →
      (T (null t a) → ⊥) → Runs t s d b i f x → Runs t s d (alt a b) i f x
  run_else {d} {i} a b {f} {x} n u r = go (decide (turns t b (s i)))
    where
      go : T (turns t b (s i)) ⊎ T (not (turns t b (s i))) → Runs t s d (alt a b) i f x
      go (inl v) = run_right (not_goes a b (s i) n u) v r
      go (inr v) =
          let w = not_turns b (s i) v in
          subst (λ (y : Outcome). Runs t s d (alt a b) i f y) (sym (miss w.1 w.0 r))
          (run_neither (not_goes a b (s i) n u) v)
