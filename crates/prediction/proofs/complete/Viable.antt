-- What stands before the place of blame, and an opening mark that is too deep, begins some derivable list.
-- By induction on the run: what is left of the plan is completed by words of its parts.
use Prim.Native.Nat.{ℕ, suc, ◌≤◌, ◌<◌}
use mathlib.Core.Path.{◌≡◌, refl, ◌∙◌}
use mathlib.Core.List.{[], ◌∷◌}
use native.Mathlib.Omega.{arith}
use Rattle.grammar.specs.Forest.{Forest, end, leaf, join}
use Rattle.prediction.specs.plans.Plan.{Plan, token, group, call, seq, alt, many, PlanDerives, plan_token}
use Rattle.prediction.specs.plans.Plan.{plan_group, plan_call, plan_wrap, plan_seq, plan_left, plan_right}
use Rattle.prediction.specs.plans.Plan.{plan_skip, plan_none, plan_more}
use Rattle.prediction.specs.validator.Typing.{Table}
use Rattle.prediction.specs.Interpreter.{Outcome, done, blame, deep, stop, stopped, Runs, run_token, run_miss}
use Rattle.prediction.specs.Interpreter.{run_shut, run_deep, run_inside, run_group, run_unclosed, run_call}
use Rattle.prediction.specs.Interpreter.{run_call_stop, run_wrap, run_seq, run_seq_stop, run_left, run_right}
use Rattle.prediction.specs.Interpreter.{run_neither, run_skip, run_last, run_more, run_more_stop}
use Rattle.prediction.proofs.validator.Look.{forward}
use Rattle.prediction.proofs.correct.Sound.{sound, ahead}
use Rattle.prediction.proofs.complete.Word.{Reads, past, past_forward, put, put_off, put_at, Generates}

-- a derivation sees only the kinds that it reads
pub carry : (t : Table) (s s' : ℕ → ℕ) {p : Plan} {i j : ℕ} {f g : Forest} → PlanDerives t.plan s p i j f g →
    ((q : ℕ) → i ≤ q → q < j → s' q ≡ s q) → PlanDerives t.plan s' p i j f g
carry t s s' (plan_token {i = i} e) w = plan_token (w i (omega arith) (omega arith) ∙ e)
carry t s s' (plan_group {i = i} {m = m} e d e') w =
    let h = forward t s d in
    plan_group (w i (omega arith) (omega arith) ∙ e) (carry t s s' d (λ q a b. w q (omega arith) (omega arith)))
    (w m (omega arith) (omega arith) ∙ e')
carry t s s' (plan_call d e) w = plan_call (carry t s s' d w) e
carry t s s' plan_wrap w = plan_wrap
carry t s s' (plan_seq a b) w =
    let h = forward t s a in let h' = forward t s b in
    plan_seq (carry t s s' a (λ q x y. w q (omega arith) (omega arith)))
    (carry t s s' b (λ q x y. w q (omega arith) (omega arith)))
carry t s s' (plan_left a) w = plan_left (carry t s s' a w)
carry t s s' (plan_right a) w = plan_right (carry t s s' a w)
carry t s s' plan_skip w = plan_skip
carry t s s' plan_none w = plan_none
carry t s s' (plan_more a b) w =
    let h = forward t s a in let h' = forward t s b in
    plan_more (carry t s s' a (λ q x y. w q (omega arith) (omega arith)))
    (carry t s s' b (λ q x y. w q (omega arith) (omega arith)))

-- kinds that agree with s before n, and a derivation over them that reaches n
pub record Viable (t : Table) (s : ℕ → ℕ) (p : Plan) (i : ℕ) (f : Forest) (n : ℕ) : Type 0 where
  pub kinds : ℕ → ℕ
  pub agree : (q : ℕ) → q < n → kinds q ≡ s q
  pub till : ℕ
  pub far : n ≤ till
  pub forest : Forest
  pub derives : PlanDerives t.plan kinds p i till f forest

-- how far the kinds of s are still good
unfoldable pub reach : Outcome → ℕ
reach (done j g) = j
reach (blame q) = q
reach (deep q) = suc q

stop_reach : (x : Outcome) → stop x ≤ reach x
unfolding stop reach
stop_reach (done j g) = omega arith
stop_reach (blame q) = omega arith
stop_reach (deep q) = omega arith

module _ (t : Table) (every : (p : Plan) → Generates t p) (s : ℕ → ℕ) where
  -- a word of p set down at i
  fresh : (p : Plan) (i : ℕ) (f : Forest) → Viable t s p i f i
  fresh p i f =
      let x = every p in
      let y = x.makes (put s i x.word) i f (put_at s i x.word) in
      record {
        kinds = put s i x.word;
        agree = λ q h. put_off s i x.word q h;
        till = past i x.word;
        far =
            past_forward i x.word;
        forest = y.0;
        derives = y.1;
      }

  -- a word of b set down behind
  behind : {a : Plan} {i n : ℕ} {f : Forest} (b : Plan) → Viable t s a i f n → Viable t s (seq a b) i f n
  behind {n = n} b v =
      let x = every b in
      let z = put v.kinds v.till x.word in
      let y = x.makes z v.till v.forest (put_at v.kinds v.till x.word) in
      record {
        kinds = z;
        agree = λ q h. put_off v.kinds v.till x.word q (omega (arith, v.far)) ∙ v.agree q h;
        till = past v.till x.word;
        far = omega (arith, v.far, past_forward v.till x.word);
        forest = y.0;
        derives = plan_seq (carry t v.kinds z v.derives (λ q a b. put_off v.kinds v.till x.word q b))
            y.1;
      }

  -- a derivation over s in front
  front : {a b : Plan} {i m n : ℕ} {f h : Forest} → m ≤ n → PlanDerives t.plan s a i m f h → Viable t s b m h n →
      Viable t s (seq a b) i f n
  front l d v = record {
    kinds = v.kinds;
    agree = v.agree;
    till = v.till;
    far = v.far;
    forest =
        v.forest;
    derives = plan_seq (carry t s v.kinds d (λ q a b. v.agree q (omega arith))) v.derives;
  }

  -- the body of a group, and its end set down behind
  closed : (o c : ℕ) {b : Plan} {i n : ℕ} {f : Forest} → s i ≡ o → i < n → Viable t s b (suc i) (leaf f o) n →
      Viable t s (group o b c) i f n
  unfolding Reads past
  closed o c {i = i} {n = n} e l v =
      let z = put v.kinds v.till (c ∷ []) in
      let r = put_at v.kinds v.till (c ∷ []) in
      record {
        kinds = z;
        agree = λ q h. put_off v.kinds v.till (c ∷ []) q (omega (arith, v.far)) ∙ v.agree q h;
        till = suc v.till;
        far = omega (arith, v.far);
        forest = leaf v.forest c;
        derives = plan_group (put_off v.kinds v.till (c ∷ []) i (omega (arith, v.far)) ∙ (v.agree i l ∙ e))
            (carry t v.kinds z v.derives (λ q a b. put_off v.kinds v.till (c ∷ []) q b)) r.0;
      }

  to_left : {a b : Plan} {i n : ℕ} {f : Forest} → Viable t s a i f n → Viable t s (alt a b) i f n
  to_left v = record {
    kinds = v.kinds;
    agree = v.agree;
    till = v.till;
    far = v.far;
    forest = v.forest;
    derives =
        plan_left v.derives;
  }

  to_right : {a b : Plan} {i n : ℕ} {f : Forest} → Viable t s b i f n → Viable t s (alt a b) i f n
  to_right v = record {
    kinds = v.kinds;
    agree = v.agree;
    till = v.till;
    far = v.far;
    forest =
        v.forest;
    derives = plan_right v.derives;
  }

  to_call : {k i n : ℕ} {f : Forest} → Viable t s (t.plan k) i end n → Viable t s (call k) i f n
  to_call {f = f} v = record {
    kinds = v.kinds;
    agree = v.agree;
    till = v.till;
    far = v.far;
    forest =
        join f v.forest;
    derives = plan_call v.derives refl;
  }

  to_many : {a : Plan} {i n : ℕ} {f : Forest} → Viable t s a i f n → Viable t s (many a) i f n
  to_many v = record {
    kinds = v.kinds;
    agree = v.agree;
    till = v.till;
    far = v.far;
    forest = v.forest;
    derives =
        plan_more v.derives plan_none;
  }

  from_seq : {a : Plan} {i n : ℕ} {f : Forest} → Viable t s (seq a (many a)) i f n → Viable t s (many a) i f n
  from_seq v = record {
    kinds = v.kinds;
    agree = v.agree;
    till = v.till;
    far = v.far;
    forest =
        v.forest;
    derives = turn v.derives;
  }
    where
      turn : {s' : ℕ → ℕ} {a : Plan} {i j : ℕ} {f g : Forest} → PlanDerives t.plan s' (seq a (many a)) i j f g →
          PlanDerives t.plan s' (many a) i j f g
      turn (plan_seq x y) = plan_more x y

  -- the derivation that the reader found
  found : {p : Plan} {i j : ℕ} {f g : Forest} → PlanDerives t.plan s p i j f g → Viable t s p i f j
  found {j = j} {g = g} d =
      record { kinds = s; agree = λ q h. refl; till = j; far = omega arith; forest = g; derives = d }

  pub stays_viable : {d i : ℕ} {p : Plan} {f : Forest} {x : Outcome} → Runs t s d p i f x → Viable t s p i f (reach x)
  unfolding reach stopped stop
  stays_viable (run_token e) = found (plan_token e)
  stays_viable (run_miss {k = k} {i = i} {f = f} e) = fresh (token k) i f
  stays_viable (run_shut {o = o} {c = c} {i = i} {b = b} {f = f} e) = fresh (group o b c) i f
  stays_viable (run_deep {o = o} {c = c} {i = i} {b = b} {f = f} e) =
      closed o c e (omega arith) (fresh b (suc i) (leaf f o))
  stays_viable (run_inside {o = o} {c = c} {x = x} e r z) =
      let h = ahead r in closed o c e (omega (arith, stop_reach x)) (stays_viable r)
  stays_viable (run_group e r e') = found (plan_group e (sound r) e')
  stays_viable (run_unclosed {o = o} {c = c} e r e') = let h = ahead r in closed o c e (omega arith) (stays_viable r)
  stays_viable (run_call r e) = to_call (stays_viable r)
  stays_viable (run_call_stop r z) = to_call (stays_viable r)
  stays_viable run_wrap = found plan_wrap
  stays_viable (run_seq {x = x} a b) =
      let h = ahead b in front (omega (arith, stop_reach x)) (sound a) (stays_viable b)
  stays_viable (run_seq_stop {b = b} a z) = behind b (stays_viable a)
  stays_viable (run_left u a) = to_left (stays_viable a)
  stays_viable (run_right u v a) = to_right (stays_viable a)
  stays_viable (run_neither {i = i} {a = a} {b = b} {f = f} u v) = fresh (alt a b) i f
  stays_viable run_skip = found plan_skip
  stays_viable (run_last u) = found plan_none
  stays_viable (run_more {x = x} u a b) =
      let h = ahead b in from_seq (front (omega (arith, stop_reach x)) (sound a) (stays_viable b))
  stays_viable (run_more_stop u a z) = to_many (stays_viable a)
