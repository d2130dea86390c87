-- Where kinds agree with s up to the reader's stop, their derivations end there, or earlier at a kind that could go on.
-- By induction on the run and the derivation beside it.
use Prim.Native.Nat.{ℕ, suc, ◌≤◌, ◌<◌}
use mathlib.Core.Path.{◌≡◌, refl, ap, sym, ◌∙◌}
use mathlib.Core.Logic.{◌⊎◌, inl, inr}
use mathlib.Core.Bool.{Bool, true, false, not, ◌&&◌, ◌||◌}
use native.Mathlib.Omega.{arith}
use lib.Dec.{T, T_not}
use Rattle.grammar.specs.Forest.{Forest, leaf, join}
use Rattle.grammar.specs.Sets.{elem}
use Rattle.grammar.proofs.Sets.{and_left, and_right, or_cases}
use Rattle.prediction.specs.plans.Plan.{Plan, group, call, seq, alt, many, PlanDerives, plan_token, plan_group}
use Rattle.prediction.specs.plans.Plan.{plan_call, plan_wrap, plan_seq, plan_left, plan_right, plan_skip}
use Rattle.prediction.specs.plans.Plan.{plan_none, plan_more}
use Rattle.prediction.specs.validator.Typing.{Table, null, first, follow_last, typed, Typed}
use Rattle.prediction.specs.Interpreter.{Outcome, done, blame, deep, stop, stopped, goes, turns, Runs, run_token}
use Rattle.prediction.specs.Interpreter.{run_miss, run_shut, run_deep, run_inside, run_group, run_unclosed}
use Rattle.prediction.specs.Interpreter.{run_call, run_call_stop, run_wrap, run_seq, run_seq_stop, run_left}
use Rattle.prediction.specs.Interpreter.{run_right, run_neither, run_skip, run_last, run_more, run_more_stop}
use Rattle.prediction.proofs.Sets.{or_left, or_right}
use Rattle.prediction.proofs.validator.Typing.{seq_left_typed, seq_right_typed, seq_apart, alt_left_typed}
use Rattle.prediction.proofs.validator.Typing.{alt_right_typed, alt_apart, alt_one_null, many_typed, many_apart}
use Rattle.prediction.proofs.validator.Typing.{many_not_null, group_typed, group_apart, last_seq_left}
use Rattle.prediction.proofs.validator.Typing.{last_seq_right, last_alt_left, last_alt_right, last_left_empty}
use Rattle.prediction.proofs.validator.Typing.{last_right_empty, last_many, last_many_first}
use Rattle.prediction.proofs.validator.Look.{Look, look_nothing, look_some, look}
use Rattle.prediction.proofs.correct.Sound.{sound, ahead}
use Rattle.prediction.proofs.complete.Compare.{move}

-- a derivation that ends at j with the forest g, beside the reader's answer
pub data Maximal (t : Table) (s : ℕ → ℕ) (p : Plan) (j : ℕ) (g : Forest) : Outcome → Type 0 where
  most_same : {j' : ℕ} {g' : Forest} → j ≡ j' → g ≡ g' → Maximal t s p j g (done j' g')
  most_early : {j' : ℕ} {g' : Forest} → j < j' → T (elem (s j) (follow_last t p)) → Maximal t s p j g (done j' g')
  most_blame : {q : ℕ} → j ≤ q → T (elem (s j) (follow_last t p)) → Maximal t s p j g (blame q)
  most_deep : {q : ℕ} → Maximal t s p j g (deep q)

unfoldable pub Agree : (ℕ → ℕ) → (ℕ → ℕ) → ℕ → Type 0
Agree s s' n = (q : ℕ) → q ≤ n → s' q ≡ s q

-- an end before the stop
early : {t : Table} {s : ℕ → ℕ} {p : Plan} {j : ℕ} {g : Forest} {x : Outcome} → j < stop x →
    T (elem (s j) (follow_last t p)) → Maximal t s p j g x
unfolding stop
early {x = done j' g'} h u = most_early h u
early {x = blame q} h u = most_blame {q = q} (omega arith) u
early {x = deep q} h u = most_deep

-- an end at or before a stop that is no acceptance
early' : {t : Table} {s : ℕ → ℕ} {p : Plan} {j : ℕ} {g : Forest} {x : Outcome} → T (stopped x) → j ≤ stop x →
    T (elem (s j) (follow_last t p)) → Maximal t s p j g x
unfolding stop stopped
early' {x = done j' g'} z h u = absurd z
early' {x = blame q} z h u = most_blame h u
early' {x = deep q} z h u = most_deep

up : {t : Table} {s : ℕ → ℕ} {p p' : Plan} {j : ℕ} {g : Forest} {x : Outcome} →
    ((k : ℕ) → T (elem k (follow_last t p)) → T (elem k (follow_last t p'))) → Maximal t s p j g x →
    Maximal t s p' j g x
up w (most_same e e') = most_same e e'
up {s = s} {j = j} w (most_early h u) = most_early h (w (s j) u)
up {s = s} {j = j} w (most_blame h u) = most_blame h (w (s j) u)
up w most_deep = most_deep

-- of a stopped part only this is left: an end at or before the stop, at a kind of flast
stops : {t : Table} {s : ℕ → ℕ} {p p' : Plan} {j j' : ℕ} {g g' : Forest} {x : Outcome} → T (stopped x) →
    Maximal t s p j g x →
    (j ≤ stop x → T (elem (s j) (follow_last t p)) → Maximal t s p' j' g' x) → Maximal t s p' j' g' x
unfolding stop stopped
stops z (most_same e e') k = absurd z
stops z (most_early h u) k = absurd z
stops z (most_blame h u) k = k h u
stops z most_deep k = most_deep

-- the reader has read something, or stopped, or its part may be empty
data Read (t : Table) (p : Plan) (i : ℕ) (x : Outcome) : Type 0 where
  read_stop : T (stopped x) → Read t p i x
  read_past : i < stop x → Read t p i x
  read_null : T (null t p) → Read t p i x

module _ (t : Table) (s s' : ℕ → ℕ) where
  most_group : (p q : ℕ) (b : Plan) {m m' : ℕ} {g g' : Forest} → T (typed t (group p b q)) → s' m' ≡ q →
      Maximal t s' b m' g' (done m g) → Maximal t s' (group p b q) (suc m') (leaf g' q) (done (suc m) (leaf g q))
  most_group p q b o e (most_same x y) = most_same (ap suc x) (ap (λ (z : Forest). leaf z q) y)
  most_group p q b {m' = m'} o e (most_early h u) = absurd (group_apart t p q b o (s' m') u e)

  most_open : (p q : ℕ) (b : Plan) {m m' j : ℕ} {g g' h : Forest} → T (typed t (group p b q)) → s' m' ≡ q →
      s' m ≡ s m → (s m ≡ q → ⊥) → Maximal t s' b m' g' (done m g) → Maximal t s' (group p b q) j h (blame m)
  most_open p q b o e e' n (most_same x y) = absurd (n (sym e' ∙ (ap s' (sym x) ∙ e)))
  most_open p q b {m' = m'} o e e' n (most_early h u) = absurd (group_apart t p q b o (s' m') u e)

  most_call : (o : Typed t) (n : ℕ) (f : Forest) {j j' : ℕ} {h h' g g' : Forest} → g ≡ join f h → g' ≡ join f h' →
      Maximal t s' (t.plan n) j' h' (done j h) → Maximal t s' (call n) j' g' (done j g)
  unfolding follow_last
  most_call o n f {g = g} e e' (most_same x y) = most_same {g' = g} x (cc)
  most_call o n f {j' = j'} e e' (most_early h u) = most_early h (o.follow_last_holds n (s' j') u)

  las_up : (o : Typed t) (n k : ℕ) → T (elem k (follow_last t (t.plan n))) → T (elem k (follow_last t (call n)))
  unfolding follow_last
  las_up o n k u = o.follow_last_holds n k u

  most_seq : (a b : Plan) {m m' j' : ℕ} {h h' g' : Forest} {x : Outcome} → T (typed t (seq a b)) → m ≤ stop x →
      Maximal t s' a m' h' (done m h) →
      ((d : PlanDerives t.plan s' b m j' h g') → Maximal t s' b j' g' x) → PlanDerives t.plan s' b m' j' h' g' →
      Look t s' b m' j' → Maximal t s' (seq a b) j' g' x
  most_seq a b o l (most_same e e') ih d v = up (λ k u. last_seq_right t a b k u) (ih (move e e' d))
  most_seq a b o l (most_early y u) ih d (look_nothing e n) =
      early (omega arith) (last_seq_left t a b _ n (rw (sym e) at u))
  most_seq a b {m' = m'} o l (most_early y u) ih d (look_some w v) = absurd (seq_apart t a b o (s' m') u v)

  most_more : (a : Plan) {m m' j' : ℕ} {h h' g' : Forest} {x : Outcome} → T (typed t (many a)) → m ≤ stop x →
      Maximal t s' a m' h' (done m h) →
      ((d : PlanDerives t.plan s' (many a) m j' h g') → Maximal t s' (many a) j' g' x) →
      PlanDerives t.plan s' (many a) m' j' h' g' → Look t s' (many a) m' j' → Maximal t s' (many a) j' g' x
  unfolding first
  most_more a o l (most_same e e') ih d v = ih (move e e' d)
  most_more a o l (most_early y u) ih d (look_nothing e n) = early (omega arith) (last_many t a _ (rw (sym e) at u))
  most_more a {m' = m'} o l (most_early y u) ih d (look_some w v) = absurd (many_apart t a o (s' m') u v)

  seq_stop : (a b : Plan) {m j : ℕ} {g : Forest} {x : Outcome} → T (typed t (seq a b)) → T (stopped x) →
      Look t s' b m j → m ≤ stop x → T (elem (s' m) (follow_last t a)) → Maximal t s' (seq a b) j g x
  seq_stop a b o z (look_nothing e n) h u = early' z (omega arith) (last_seq_left t a b _ n (rw (sym e) at u))
  seq_stop a b {m} o z (look_some y v) h u = absurd (seq_apart t a b o (s' m) u v)

  more_stop : (a : Plan) {m j : ℕ} {g : Forest} {x : Outcome} → T (typed t (many a)) → T (stopped x) →
      Look t s' (many a) m j → m ≤ stop x → T (elem (s' m) (follow_last t a)) → Maximal t s' (many a) j g x
  unfolding first
  more_stop a o z (look_nothing e n) h u = early' z (omega arith) (last_many t a _ (rw (sym e) at u))
  more_stop a {m} o z (look_some y v) h u = absurd (many_apart t a o (s' m) u v)

  -- an end at the start of what the reader read
  here : (p : Plan) {i : ℕ} {g : Forest} {q : Plan} {x : Outcome} → Read t p i x → i ≤ stop x → (T (null t p) → ⊥) →
      T (elem (s' i) (follow_last t q)) → Maximal t s' q i g x
  here p (read_stop z) l n u = early' z l u
  here p (read_past h) l n u = early h u
  here p (read_null v) l n u = absurd (n v)

  left_right : (a b : Plan) {i j : ℕ} {g : Forest} {x : Outcome} → T (typed t (alt a b)) → T (goes t a b (s' i)) →
      Read t a i x → i ≤ stop x → Look t s' b i j → Maximal t s' (alt a b) j g x
  unfolding goes
  left_right a b {i} {g = g} {x = x} o v r l (look_nothing e n) =
      rw e (go (or_cases (elem (s' i) (first t a)) (not (elem (s' i) (first t b)) && null t a) v))
    where
      go : T (elem (s' i) (first t a)) ⊎ T (not (elem (s' i) (first t b)) && null t a) → Maximal t s' (alt a b) i g x
      go (inl u) = here a r l (λ k. alt_one_null t a b o k n) (last_right_empty t a b (s' i) n u)
      go (inr u) = absurd (alt_one_null t a b o (and_right (not (elem (s' i) (first t b))) (null t a) u) n)
  left_right a b {i} {j} {g = g} {x = x} o v r l (look_some h w) =
      go (or_cases (elem (s' i) (first t a)) (not (elem (s' i) (first t b)) && null t a) v)
    where
      go : T (elem (s' i) (first t a)) ⊎ T (not (elem (s' i) (first t b)) && null t a) → Maximal t s' (alt a b) j g x
      go (inl u) = absurd (alt_apart t a b o (s' i) u w)
      go (inr u) = absurd (T_not (elem (s' i) (first t b)) (and_left (not (elem (s' i) (first t b))) (null t a) u) w)

  -- where the first plan is not taken, and could be empty, the kind begins the second
  turned : (a b : Plan) (k : ℕ) → T (not (goes t a b k)) →
      (T (elem k (first t a)) → ⊥) × (T (null t a) → T (elem k (first t b)))
  unfolding goes
  turned a b k v = go (elem k (first t a)) (elem k (first t b)) (null t a) v
    where
      go : (x y z : Bool) → T (not (x || (not y && z))) → (T x → ⊥) × (T z → T y)
      go true y z v = absurd v
      go false true z v = (λ u. u, λ u. tt)
      go false false true v = absurd v
      go false false false v = (λ u. u, λ u. u)

  right_left : (a b : Plan) {i j : ℕ} {g : Forest} {x : Outcome} → T (typed t (alt a b)) →
      T (not (goes t a b (s' i))) → Read t b i x → i ≤ stop x → Look t s' a i j → Maximal t s' (alt a b) j g x
  right_left a b {i} {g = g} {x = x} o v r l (look_nothing e n) =
      rw e (here b r l (λ k. alt_one_null t a b o n k) (last_left_empty t a b (s' i) n ((turned a b (s' i) v).1 n)))
  right_left a b {i} o v r l (look_some h w) = absurd ((turned a b (s' i) v).0 w)

  neither_left : (a b : Plan) {i j : ℕ} → T (not (goes t a b (s' i))) → T (not (turns t b (s' i))) → Look t s' a i j →
      ⊥
  unfolding turns
  neither_left a b {i} v w (look_nothing e n) =
      T_not (elem (s' i) (first t b) || null t b) w
      (or_left (elem (s' i) (first t b)) (null t b) ((turned a b (s' i) v).1 n))
  neither_left a b {i} v w (look_some h u) = (turned a b (s' i) v).0 u

  neither_right : (b : Plan) {i j : ℕ} → T (not (turns t b (s' i))) → Look t s' b i j → ⊥
  unfolding turns
  neither_right b {i} w (look_nothing e n) =
      T_not (elem (s' i) (first t b) || null t b) w (or_right (elem (s' i) (first t b)) (null t b) n)
  neither_right b {i} w (look_some h u) =
      T_not (elem (s' i) (first t b) || null t b) w (or_left (elem (s' i) (first t b)) (null t b) u)

  not_more : (a : Plan) {i j : ℕ} → T (typed t (many a)) → T (not (elem (s' i) (first t a))) → Look t s' a i j → ⊥
  not_more a o v (look_nothing e n) = many_not_null t a o n
  not_more a {i} o v (look_some h u) = T_not (elem (s' i) (first t a)) v u

  look_read : {p : Plan} {i j : ℕ} {g : Forest} → Look t s p i j → Read t p i (done j g)
  unfolding stop
  look_read (look_nothing e n) = read_null n
  look_read (look_some h u) = read_past h

  read : (o : Typed t) {d i : ℕ} {p : Plan} {f : Forest} {x : Outcome} → Runs t s d p i f x → Read t p i x
  unfolding stopped
  read o {x = done j g} r = look_read (look t s o (sound r))
  read o {x = blame q} r = read_stop tt
  read o {x = deep q} r = read_stop tt

  more_none : (a : Plan) {i m : ℕ} {g : Forest} {x : Outcome} → T (typed t (many a)) → T (elem (s' i) (first t a)) →
      m ≤ stop x → Look t s a i m → Maximal t s' (many a) i g x
  more_none a o v l (look_nothing e n) = absurd (many_not_null t a o n)
  more_none a {i} o v l (look_some h u) = early (omega arith) (last_many_first t a (s' i) v)

  pub maximal : (o : Typed t) {d i j : ℕ} {p : Plan} {f g : Forest} {x : Outcome} → T (typed t p) →
      Runs t s d p i f x → Agree s s' (stop x) → PlanDerives t.plan s' p i j f g → Maximal t s' p j g x
  unfolding stop stopped Agree
  maximal o k (run_token e) w (plan_token e') = most_same refl refl
  maximal o k (run_miss {i = i} n) w (plan_token e') = absurd (n (sym (w i (omega arith)) ∙ e'))
  maximal o k (run_shut {i = i} n) w (plan_group e d z) = absurd (n (sym (w i (omega arith)) ∙ e))
  maximal o k (run_deep e) w d = most_deep
  maximal o k (run_inside {o = p} {c = q} {b = b} e r z) w (plan_group {m = m} e' d z') =
      stops z (maximal o (group_typed t p q b k) r w d) (λ h u. absurd (group_apart t p q b k (s' m) u z'))
  maximal o k (run_group {o = p} {c = q} {b = b} e r z) w (plan_group e' d z') =
      most_group p q b k z' (maximal o (group_typed t p q b k) r (λ y h. w y (omega arith)) d)
  maximal o k (run_unclosed {o = p} {c = q} {m = m} {b = b} e r z) w (plan_group e' d z') =
      most_open p q b k z' (w m (omega arith)) z (maximal o (group_typed t p q b k) r w d)
  maximal o k (run_call {n = n} {f = f} r e) w (plan_call d e') =
      most_call o n f e e' (maximal o (o.plan_typed n) r w d)
  maximal o k (run_call_stop {n = n} r z) w (plan_call {j = j} d e') =
      stops z (maximal o (o.plan_typed n) r w d) (λ h u. early' z h (las_up o n (s' j) u))
  maximal o k run_wrap w plan_wrap = most_same refl refl
  maximal o k (run_seq {a = a} {b = b} r r') w (plan_seq d d') =
      let l = ahead r' in most_seq a b k l (maximal o (seq_left_typed t a b k) r (λ y h. w y (omega arith)) d)
      (λ d''. maximal o (seq_right_typed t a b k) r' w d'') d' (look t s' o d')
  maximal o k (run_seq_stop {a = a} {b = b} r z) w (plan_seq d d') =
      stops z (maximal o (seq_left_typed t a b k) r w d) (seq_stop a b k z (look t s' o d'))
  maximal o k (run_left {i = i} {a = a} {b = b} v r) w (plan_left d) =
      up (λ n u. last_alt_left t a b n u) (maximal o (alt_left_typed t a b k) r w d)
  maximal o k (run_left {i = i} {a = a} {b = b} v r) w (plan_right d) =
      let l = ahead r in left_right a b k (rw (sym (w i l)) at v) (read o r) l (look t s' o d)
  maximal o k (run_right {i = i} {a = a} {b = b} v v' r) w (plan_left d) =
      let l = ahead r in right_left a b k (rw (sym (w i l)) at v) (read o r) l (look t s' o d)
  maximal o k (run_right {i = i} {a = a} {b = b} v v' r) w (plan_right d) =
      up (λ n u. last_alt_right t a b n u) (maximal o (alt_right_typed t a b k) r w d)
  maximal o k (run_neither {i = i} {a = a} {b = b} v v') w (plan_left d) =
      absurd (neither_left a b (rw (sym (w i (omega arith))) at v) (rw (sym (w i (omega arith))) at v')
      (look t s' o d))
  maximal o k (run_neither {i = i} {a = a} {b = b} v v') w (plan_right d) =
      absurd (neither_right b (rw (sym (w i (omega arith))) at v') (look t s' o d))
  maximal o k run_skip w plan_skip = most_same refl refl
  maximal o k (run_last v) w plan_none = most_same refl refl
  maximal o k (run_last {i = i} {a = a} v) w (plan_more d d') =
      absurd (not_more a k (rw (sym (w i (omega arith))) at v) (look t s' o d))
  maximal o k (run_more {i = i} {a = a} v r r') w plan_none =
      let l = ahead r in let l' = ahead r' in
      more_none a k (rw (sym (w i (omega arith))) at v) l' (look t s o (sound r))
  maximal o k (run_more {a = a} v r r') w (plan_more d d') =
      let l = ahead r' in most_more a k l (maximal o (many_typed t a k) r (λ y h. w y (omega arith)) d)
      (λ d''. maximal o k r' w d'') d' (look t s' o d')
  maximal o k (run_more_stop {i = i} {a = a} v r z) w plan_none =
      early' z (ahead r) (last_many_first t a (s' i) (rw (sym (w i (ahead r))) at v))
  maximal o k (run_more_stop {a = a} v r z) w (plan_more d d') =
      stops z (maximal o (many_typed t a k) r w d) (more_stop a k z (look t s' o d'))
