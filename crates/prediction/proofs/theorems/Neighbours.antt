-- Kinds that never stand side by side: a computed test of the plans tells that no derivable list has an l directly behind a k.
-- By induction on what a plan derives: where two parts meet, the first does not end with k or the second does not begin with l.
use Prim.Native.Nat.{ℕ, zero, suc, ◌≤◌, ◌<◌}
use mathlib.Core.Path.{◌≡◌, sym, ◌∙◌, ap, subst}
use mathlib.Core.Logic.{◌⊎◌, inl, inr}
use mathlib.Core.Bool.{Bool, true, false, not, ◌&&◌, ◌||◌}
use mathlib.Core.List.{List}
use native.Mathlib.Omega.{arith}
use lib.Dec.{T, T_not, eqb, ltb, ltb→lt, nltb→le}
use lib.ListN.{length}
use Rattle.grammar.specs.Blame.{Begins, Blame}
use Rattle.grammar.specs.Derivation.{kind_at, Derivation}
use Rattle.grammar.specs.Forest.{Forest}
use Rattle.grammar.specs.Rule.{Edition}
use Rattle.grammar.specs.Sets.{elem}
use Rattle.prediction.specs.plans.Plan.{Plan, token, group, call, wrap, seq, alt, skip, many, PlanDerives}
use Rattle.prediction.specs.plans.Plan.{plan_token, plan_group, plan_call, plan_wrap, plan_seq, plan_left}
use Rattle.prediction.specs.plans.Plan.{plan_right, plan_skip, plan_none, plan_more}
use Rattle.prediction.specs.plans.RulesAsPlans.{as_plan}
use Rattle.prediction.specs.validator.Typing.{Table, null, first, Typed}
use Rattle.prediction.specs.validator.Fixpoint.{plan_at, implies, every, round}
use Rattle.prediction.specs.validator.Check.{rounds, Checked, table, plans_of, table_of}
use Rattle.prediction.proofs.Sets.{and_left, and_right, and_both, or_left, or_right, decide, eq→eqb}
use Rattle.prediction.proofs.validator.Look.{Look, look_nothing, look_some, look, forward}
use Rattle.prediction.proofs.validator.Fixpoint.{imply, every_at}
use Rattle.prediction.proofs.validator.Check.{all_typed}
use Rattle.prediction.proofs.theorems.SamePlans.{to_plans}

-- where the frames of `ends` are those that may end with k
module _ (t : Table) (k : ℕ) (ends : ℕ → Bool) where
  -- a plan may end with k
  unfoldable pub may_end : Plan → Bool
  unfolding null
  may_end (token x) = eqb x k
  may_end (group o b c) = eqb c k
  may_end (call n) = ends n
  may_end (wrap r) = false
  may_end (seq a b) = may_end b || (null t b && may_end a)
  may_end (alt a b) = may_end a || may_end b
  may_end skip = false
  may_end (many a) = may_end a

  module _ (l : ℕ) where
    -- it has no l directly behind a k
    unfoldable pub apart : Plan → Bool
    unfolding may_end first elem
    apart (token x) = true
    apart (group o b c) = apart b && (not (eqb o k) && not (eqb c l))
    apart (call n) = true
    apart (wrap r) = true
    apart (seq a b) = (apart a && apart b) && not (may_end a && elem l (first t b))
    apart (alt a b) = apart a && apart b
    apart skip = true
    apart (many a) = apart a && not (may_end a && elem l (first t a))

    module _ (s : ℕ → ℕ) (o : Typed t) (ends_hold : (n : ℕ) → T (may_end (t.plan n)) → T (ends n))
        (all_apart : (n : ℕ) → T (apart (t.plan n))) where
      -- what is read from place i to place j
      record Span (p : Plan) (i j : ℕ) : Type 0 where
        pub last : (q : ℕ) → i ≤ q → suc q ≡ j → s q ≡ k → T (may_end p)
        pub never : (q : ℕ) → i ≤ q → suc q < j → s q ≡ k → s (suc q) ≡ l → ⊥

      -- two parts meet at place m
      meet : {a b : Plan} {i m j : ℕ} → T (not (may_end a && elem l (first t b))) → Span a i m → Look t s b m j →
          Span b m j → (q : ℕ) → i ≤ q → suc q < j → s q ≡ k → s (suc q) ≡ l → ⊥
      meet {a} {b} {i} {m} {j} u x v y q h h' e e' = go (decide (ltb (suc q) m)) (decide (ltb m (suc q)))
        where
          here : suc q ≡ m → Look t s b m j → ⊥
          here z (look_nothing d w) = omega arith
          here z (look_some d w) =
              T_not (may_end a && elem l (first t b)) u
              (and_both (may_end a) (elem l (first t b)) (x.last q h z e)
              (subst (λ (n : ℕ). T (elem n (first t b))) (ap s (sym z) ∙ e') w))

          go : T (ltb (suc q) m) ⊎ T (not (ltb (suc q) m)) → T (ltb m (suc q)) ⊎ T (not (ltb m (suc q))) → ⊥
          go (inl d) r = x.never q h (ltb→lt (suc q) m d) e e'
          go (inr d) (inl r) = let z = ltb→lt m (suc q) r in y.never q (omega arith) h' e e'
          go (inr d) (inr r) =
              let z = nltb→le (suc q) m d in let z' = nltb→le m (suc q) r in here (omega arith) v

      span : {p : Plan} {i j : ℕ} {f g : Forest} → T (apart p) → PlanDerives t.plan s p i j f g → Span p i j
      unfolding apart may_end first
      span u (plan_token {k = x} {i = i} e) = record {
        last = λ q h z d. eq→eqb x k (sym e ∙ ap s (omega arith) ∙ d);
        never = λ q h z d d'. omega arith;
      }
      span u (plan_group {o = x} {c = y} {i = i} {m = m} {b = b} e d e') =
          let v = and_left (apart b) (not (eqb x k) && not (eqb y l)) u in
          let w = and_right (apart b) (not (eqb x k) && not (eqb y l)) u in
          let r = span v d in
          let h = forward t s d in
          record {
            last = λ q h' z d'. eq→eqb y k (sym e' ∙ ap s (omega arith) ∙ d');
            never = λ q h' z d' d''. inside w r h q h' z d' d'' (decide (ltb i q)) (decide (ltb (suc q) m));
          }
        where
          inside : T (not (eqb x k) && not (eqb y l)) → Span b (suc i) m → suc i ≤ m → (q : ℕ) → i ≤ q → suc q < suc m → s q ≡ k →
              s (suc q) ≡ l → T (ltb i q) ⊎ T (not (ltb i q)) → T (ltb (suc q) m) ⊎ T (not (ltb (suc q) m)) → ⊥
          inside w r h q h' z d' d'' (inl a) (inl c) = let a' = ltb→lt i q a in r.never q (omega arith) (ltb→lt (suc q) m c) d' d''
          inside w r h q h' z d' d'' (inr a) c =
              let a' = nltb→le i q a in
              T_not (eqb x k) (and_left (not (eqb x k)) (not (eqb y l)) w) (eq→eqb x k (sym e ∙ ap s (omega arith) ∙ d'))
          inside w r h q h' z d' d'' (inl a) (inr c) =
              let c' = nltb→le (suc q) m c in
              T_not (eqb y l) (and_right (not (eqb x k)) (not (eqb y l)) w) (eq→eqb y l (sym e' ∙ ap s (omega arith) ∙ d''))
      span u (plan_call {n = n} d e) =
          let r = span (all_apart n) d in
          record { last = λ q h z d'. ends_hold n (r.last q h z d'); never = r.never }
      span u plan_wrap = record { last = λ q h z d. omega arith; never = λ q h z d d'. omega arith }
      span u (plan_seq {a = a} {b = b} {m = m} {j = j} x y) =
          let v = and_left (apart a && apart b) (not (may_end a && elem l (first t b))) u in
          let w = and_right (apart a && apart b) (not (may_end a && elem l (first t b))) u in
          let r = span (and_left (apart a) (apart b) v) x in
          let r' = span (and_right (apart a) (apart b) v) y in
          record { last = λ q h z d. ending r r' q h z d (look t s o y); never = meet w r (look t s o y) r' }
        where
          ending : {i : ℕ} → Span a i m → Span b m j → (q : ℕ) → i ≤ q → suc q ≡ j → s q ≡ k → Look t s b m j →
              T (may_end b || (null t b && may_end a))
          ending r r' q h z d (look_nothing e n) =
              or_right (may_end b) (null t b && may_end a)
              (and_both (null t b) (may_end a) n (r.last q h (z ∙ e) d))
          ending r r' q h z d (look_some e n) =
              or_left (may_end b) (null t b && may_end a) (r'.last q (omega arith) z d)
      span u (plan_left {a = a} {b = b} x) =
          let r = span (and_left (apart a) (apart b) u) x in
          record { last = λ q h z d. or_left (may_end a) (may_end b) (r.last q h z d); never = r.never }
      span u (plan_right {a = a} {b = b} x) =
          let r = span (and_right (apart a) (apart b) u) x in
          record { last = λ q h z d. or_right (may_end a) (may_end b) (r.last q h z d); never = r.never }
      span u plan_skip = record { last = λ q h z d. omega arith; never = λ q h z d d'. omega arith }
      span u plan_none = record { last = λ q h z d. absurd (omega arith); never = λ q h z d d'. omega arith }
      span u (plan_more {a = a} {m = m} {j = j} x y) =
          let r = span (and_left (apart a) (not (may_end a && elem l (first t a))) u) x in
          let r' = span u y in
          record {
            last = λ q h z d. ending r r' q h z d (look t s o y);
            never = meet (and_right (apart a) (not (may_end a && elem l (first t a))) u) r (look t s o y) r';
          }
        where
          ending : {i : ℕ} → Span a i m → Span (many a) m j → (q : ℕ) → i ≤ q → suc q ≡ j → s q ≡ k → Look t s (many a) m j →
              T (may_end a)
          ending r r' q h z d (look_nothing e n) = r.last q h (z ∙ e) d
          ending r r' q h z d (look_some e n) = r'.last q (omega arith) z d

-- the frames that may, by so many rounds
unfoldable pub ends_by : Table → ℕ → ℕ → ℕ → Bool
unfolding may_end
ends_by t k zero n = false
ends_by t k (suc m) n = may_end t k (ends_by t k m) (t.plan n)

module _ {E : Edition} (c : Checked E) (k l : ℕ) where
  abbrev ends_of : ℕ → Bool
  ends_of = ends_by (table_of c) k (suc rounds)

  -- a round more changes nothing
  abbrev settled : Plan → Bool
  settled p = implies (may_end (table_of c) k ends_of p) (may_end (table_of c) k (ends_by (table_of c) k rounds) p)

  -- and no plan has an l directly behind a k
  unfoldable pub keeps_apart : Plan → Bool
  unfolding implies may_end ends_by apart
  keeps_apart p = settled p && apart (table_of c) k ends_of l p

  module _ (u : T (every keeps_apart (plans_of c))) where
    kept : (n : ℕ) → T (keeps_apart ((table_of c).plan n))
    unfolding keeps_apart table round plan_at
    kept n = every_at keeps_apart (plans_of c) (seq skip (wrap n)) tt u n

    ends_kept : (n : ℕ) → T (may_end (table_of c) k ends_of ((table_of c).plan n)) → T (ends_of n)
    unfolding keeps_apart ends_by
    ends_kept n =
        imply (may_end (table_of c) k ends_of ((table_of c).plan n)) (ends_of n)
        (and_left (settled ((table_of c).plan n)) (apart (table_of c) k ends_of l ((table_of c).plan n)) (kept n))

    all_apart : (n : ℕ) → T (apart (table_of c) k ends_of l ((table_of c).plan n))
    unfolding keeps_apart
    all_apart n =
        and_right (settled ((table_of c).plan n)) (apart (table_of c) k ends_of l ((table_of c).plan n)) (kept n)

    never_beside : (ks : List ℕ) (g : Forest) → Derivation E ks g → (q : ℕ) → suc q < length ks → kind_at ks q ≡ k →
        kind_at ks (suc q) ≡ l → ⊥
    unfolding Derivation as_plan apart
    never_beside ks g d q h e e' =
        (span (table_of c) k ends_of l (kind_at ks) (all_typed c) ends_kept all_apart {p = call E.start} tt
        (to_plans c (kind_at ks) d)).never q (omega arith) h e e'

    -- where l stands directly behind k, it is blamed, if no token before it is
    pub blamed_beside : (ks : List ℕ) (q : ℕ) → suc q < length ks → kind_at ks q ≡ k → kind_at ks (suc q) ≡ l →
        Begins E ks (suc q) → Blame E ks (suc q)
    blamed_beside ks q h e e' b = record {
      within = omega arith;
      viable = b;
      dead = λ h' b'. never_beside b'.whole b'.forest b'.derives q b'.long
          (b'.starts q (omega arith) ∙ e) (b'.starts (suc q) (omega arith) ∙ e');
      lacking = λ g d. never_beside ks g d q h e e';
    }
