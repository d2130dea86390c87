-- The reader always answers, and its answer computes.
-- By induction on the tokens left, and below that on the calls to the next token.
use Prim.Native.Nat.{ℕ, zero, suc, ◌+◌, ◌≤◌, ◌<◌}
use mathlib.Core.Path.{◌≡◌, refl}
use mathlib.Core.Logic.{◌⊎◌, inl, inr}
use mathlib.Core.Bool.{Bool, true, false, not, ◌||◌}
use native.Mathlib.Omega.{arith}
use lib.Dec.{T, eqb, ltb, T_not, ltb→lt, nltb→le, eqb→eq}
use Rattle.grammar.specs.Forest.{Forest, end, leaf, node, join}
use Rattle.grammar.specs.Sets.{elem}
use Rattle.grammar.proofs.Sets.{and_left, and_right, eq→eqb}
use Rattle.prediction.specs.Sets.{only}
use Rattle.prediction.specs.plans.Plan.{Plan, token, group, call, wrap, seq, alt, skip, many}
use Rattle.prediction.specs.validator.Typing.{Table, null, first, typed, Typed}
use Rattle.prediction.specs.validator.Conditions.{left_within, left_founded}
use Rattle.prediction.specs.Interpreter.{Outcome, done, blame, deep, stopped, goes, turns, Runs, run_token}
use Rattle.prediction.specs.Interpreter.{run_miss, run_shut, run_deep, run_inside, run_group, run_unclosed}
use Rattle.prediction.specs.Interpreter.{run_call, run_call_stop, run_wrap, run_seq, run_seq_stop, run_left}
use Rattle.prediction.specs.Interpreter.{run_right, run_neither, run_skip, run_last, run_more, run_more_stop}
use Rattle.prediction.proofs.Sets.{or_right, decide, and_both}
use Rattle.prediction.proofs.validator.Typing.{seq_left_typed, seq_right_typed, alt_left_typed, alt_right_typed}
use Rattle.prediction.proofs.validator.Typing.{many_typed, many_not_null, group_typed, group_positive}
use Rattle.prediction.proofs.validator.Look.{Look, look_nothing, look_some, forward, look}
use Rattle.prediction.proofs.correct.Sound.{sound}
use Rattle.prediction.proofs.correct.Inside.{reads_on, inside}

pub left_all : (t : Table) (r : ℕ → Bool) → ((m : ℕ) → T (r m)) → (p : Plan) → T (left_within t r p)
unfolding left_within
left_all t r w (token c) = tt
left_all t r w (group a b c) = tt
left_all t r w (call m) = w m
left_all t r w (wrap m) = tt
left_all t r w (seq a b) =
    and_both (left_within t r a) (not (null t a) || left_within t r b) (left_all t r w a)
    (or_right (not (null t a)) (left_within t r b) (left_all t r w b))
left_all t r w (alt a b) = and_both (left_within t r a) (left_within t r b) (left_all t r w a) (left_all t r w b)
left_all t r w skip = tt
left_all t r w (many a) = left_all t r w a

pub or_not : (a b : Bool) → T a → T (not a || b) → T b
or_not true b u v = v
or_not false b u v = absurd u

abbrev pub Result : Table → (ℕ → ℕ) → ℕ → Plan → ℕ → Forest → Type 0
Result t s d p i f = (x : Outcome) × Runs t s d p i f x

pub not_equal : (m n : ℕ) → T (not (eqb m n)) → m ≡ n → ⊥
not_equal m n u e = T_not (eqb m n) u (eq→eqb m n e)

-- the answer of a compound from that of its part
unfoldable pub after : {t : Table} {s : ℕ → ℕ} {d d' i i' : ℕ} {p q : Plan} {f f' : Forest} → Result t s d p i f →
    ((m : ℕ) (h : Forest) → Runs t s d p i f (done m h) → Result t s d' q i' f') →
    ((x : Outcome) → T (stopped x) → Runs t s d p i f x → Runs t s d' q i' f' x) → Result t s d' q i' f'
unfolding stopped
after (done m h, r) k w = k m h r
after (blame q, r) k w = (blame q, w (blame q) tt r)
after (deep q, r) k w = (deep q, w (deep q) tt r)

module _ (t : Table) (o : Typed t) (s : ℕ → ℕ) (n : ℕ) (z : (q : ℕ) → n ≤ q → s q ≡ 0) where
  -- nothing was read: the part may be empty
  pub unread : {p : Plan} {i m : ℕ} → m ≤ i → Look t s p i m → T (null t p)
  unread h (look_nothing e u) = u
  unread h (look_some h' u) = absurd (omega arith)

  pub full : (a : Plan) {i m : ℕ} → T (typed t (many a)) → Look t s a i m → i < m
  full a u (look_nothing e v) = absurd (many_not_null t a u v)
  full a u (look_some h v) = h

  module _ (k : ℕ) (ih : (d i : ℕ) (p : Plan) (f : Forest) → T (typed t p) → i ≤ n → n < i + k → Result t s d p i f)
    where
      unfoldable pub body : (p : Plan) (r : ℕ → Bool) →
          ((m : ℕ) → T (r m) → (d i : ℕ) (f : Forest) → i ≤ n → n < i + suc k → Result t s d (t.plan m) i f) →
          T (typed t p) → T (left_within t r p) → (d i : ℕ) (f : Forest) → i ≤ n → n < i + suc k → Result t s d p i f
      unfolding left_within stopped decide elem goes turns first null only join after
      body (token c) r w u v d i f h h' = go (decide (eqb (s i) c))
        where
          go : T (eqb (s i) c) ⊎ T (not (eqb (s i) c)) → Result t s d (token c) i f
          go (inl y) = (done (suc i) (leaf f c), run_token (eqb→eq (s i) c y))
          go (inr y) = (blame i, run_miss (not_equal (s i) c y))
      body (group a b c) r w u v d i f h h' = go d (decide (eqb (s i) a))
        where
          shut : (d m : ℕ) (g : Forest) → s i ≡ a → Runs t s d b (suc i) (leaf f a) (done m g) →
              T (eqb (s m) c) ⊎ T (not (eqb (s m) c)) → Result t s (suc d) (group a b c) i f
          shut d m g e x (inl y) = (done (suc m) (leaf g c), run_group e x (eqb→eq (s m) c y))
          shut d m g e x (inr y) = (blame m, run_unclosed e x (not_equal (s m) c y))

          go : (d : ℕ) → T (eqb (s i) a) ⊎ T (not (eqb (s i) a)) → Result t s d (group a b c) i f
          go zero (inl y) = (deep i, run_deep (eqb→eq (s i) a y))
          go (suc d) (inl y) =
              let e = eqb→eq (s i) a y in
              let l = reads_on t o s n z i a e (group_positive t a c b u).0 in
              after (ih d (suc i) b (leaf f a) (group_typed t a c b u) (omega arith) (omega arith))
              (λ m g x. shut d m g e x (decide (eqb (s m) c))) (λ x q y. run_inside e y q)
          go zero (inr y) = (blame i, run_shut (not_equal (s i) a y))
          go (suc d) (inr y) = (blame i, run_shut (not_equal (s i) a y))
      body (call m) r w u v d i f h h' =
          after (w m v d i end h h') (λ j g x. (done j (join f g), run_call x refl)) (λ x q y. run_call_stop y q)
      body (wrap m) r w u v d i f h h' = (done i (node end m f), run_wrap)
      body (seq a b) r w u v d i f h h' =
          after (body a r w (seq_left_typed t a b u)
          (and_left (left_within t r a) (not (null t a) || left_within t r b) v) d i f h h')
          (λ m g x. rest m g x (decide (ltb i m)) (λ y. body b r w (seq_right_typed t a b u) y d m g))
          (λ x q y. run_seq_stop y q)
        where
          with_first : (m : ℕ) (g : Forest) → Runs t s d a i f (done m g) → Result t s d b m g →
              Result t s d (seq a b) i f
          with_first m g x (y, q) = (y, run_seq x q)

          rest : (m : ℕ) (g : Forest) → Runs t s d a i f (done m g) → T (ltb i m) ⊎ T (not (ltb i m)) →
              (T (left_within t r b) → m ≤ n → n < m + suc k → Result t s d b m g) → Result t s d (seq a b) i f
          rest m g x (inl y) rec =
              let l = ltb→lt i m y in
              with_first m g x (ih d m b g (seq_right_typed t a b u)
              (inside t o s n z (seq_left_typed t a b u) h (sound x))
              (omega arith))
          rest m g x (inr y) rec =
              let l = nltb→le i m y in let l' = forward t s (sound x) in
              with_first m g x (rec (or_not (null t a) (left_within t r b) (unread l (look t s o (sound x)))
              (and_right (left_within t r a) (not (null t a) || left_within t r b) v)) (omega arith) (omega arith))
      body (alt a b) r w u v d i f h h' =
          pick (decide (goes t a b (s i))) (decide (turns t b (s i)))
          (λ q. body a r w (alt_left_typed t a b u) (and_left (left_within t r a) (left_within t r b) v) d i f h h')
          (λ q. body b r w (alt_right_typed t a b u) (and_right (left_within t r a) (left_within t r b) v) d i f h
          h')
        where
          to_first : T (goes t a b (s i)) → Result t s d a i f → Result t s d (alt a b) i f
          to_first y (x, q) = (x, run_left y q)

          to_second : T (not (goes t a b (s i))) → T (turns t b (s i)) → Result t s d b i f → Result t s d (alt a b) i f
          to_second y y' (x, q) = (x, run_right y y' q)

          pick : T (goes t a b (s i)) ⊎ T (not (goes t a b (s i))) → T (turns t b (s i)) ⊎ T (not (turns t b (s i))) →
              (Unit {0} → Result t s d a i f) → (Unit {0} → Result t s d b i f) → Result t s d (alt a b) i f
          pick (inl y) y' x x' = to_first y (x tt)
          pick (inr y) (inl y') x x' = to_second y y' (x' tt)
          pick (inr y) (inr y') x x' = (blame i, run_neither y y')
      body skip r w u v d i f h h' = (done i f, run_skip)
      body (many a) r w u v d i f h h' =
          go (decide (elem (s i) (first t a))) (λ q. body a r w (many_typed t a u) v d i f h h')
        where
          with_first : (m : ℕ) (g : Forest) → T (elem (s i) (first t a)) → Runs t s d a i f (done m g) →
              Result t s d (many a) m g → Result t s d (many a) i f
          with_first m g y x (e, q) = (e, run_more y x q)

          go : T (elem (s i) (first t a)) ⊎ T (not (elem (s i) (first t a))) → (Unit {0} → Result t s d a i f) →
              Result t s d (many a) i f
          go (inl y) x =
              after (x tt)
              (λ m g q. let l = full a u (look t s o (sound q)) in
              with_first m g y q (ih d m (many a) g u (inside t o s n z (many_typed t a u) h (sound q)) (omega arith)))
              (λ e q x. run_more_stop y x q)
          go (inr y) x = (done i f, run_last y)

  module _ (top : ℕ) (founded : (m : ℕ) → T (left_founded t top m)) where
    unfoldable pub frames : (k : ℕ) →
        ((d i : ℕ) (p : Plan) (f : Forest) → T (typed t p) → i ≤ n → n < i + k → Result t s d p i f) →
        (r m : ℕ) → T (left_founded t r m) → (d i : ℕ) (f : Forest) → i ≤ n → n < i + suc k →
        Result t s d (t.plan m) i f
    unfolding body left_founded
    frames k ih zero m h = absurd h
    frames k ih (suc r) m h =
        body k ih (t.plan m) (left_founded t r) (λ m' h'. frames k ih r m' h') (o.plan_typed m) h

    unfoldable pub upto : (k d i : ℕ) (p : Plan) (f : Forest) → T (typed t p) → i ≤ n → n < i + k → Result t s d p i f
    unfolding body frames
    upto zero d i p f u h h' = absurd (omega arith)
    upto (suc k) d i p f u h h' =
        body k (upto k) p (left_founded t top) (λ m l. frames k (upto k) top m l) u
        (left_all t (left_founded t top) founded p) d i f h h'

    unfoldable pub total : (d i : ℕ) (p : Plan) (f : Forest) → T (typed t p) → i ≤ n → Result t s d p i f
    unfolding upto
    total d i p f u h = upto (suc n) d i p f u h (omega arith)
