-- What the reader's answers say of a list of tokens, by the rules of a checked edition alone.
-- Each answer by the theorem on it: soundness, maximality, viability and depth.
use Prim.Native.Nat.{ℕ, zero, suc, ◌≤◌, ◌<◌}
use mathlib.Core.Path.{◌≡◌, refl, ap, sym, ◌∙◌, subst}
use mathlib.Core.Logic.{◌⊎◌, inl, inr}
use mathlib.Core.Bool.{not}
use mathlib.Core.List.{List, [], ◌∷◌}
use native.Mathlib.Omega.{arith}
use lib.Dec.{T, ltb, ltb→lt, nltb→le}
use lib.ListN.{get_or, length}
use Rattle.grammar.specs.Blame.{Begins, Blame}
use Rattle.grammar.specs.Depth.{depth, Within, TooDeep}
use Rattle.grammar.specs.Derivation.{kind_at, Derives, Derivation}
use Rattle.grammar.specs.Forest.{Forest, end}
use Rattle.grammar.proofs.Nesting.{open_inside}
use Rattle.grammar.specs.Rule.{nonterminal, Edition}
use Rattle.grammar.specs.Sets.{elem}
use Rattle.prediction.specs.plans.Plan.{Plan, call, PlanDerives}
use Rattle.prediction.specs.plans.RulesAsPlans.{as_plan}
use Rattle.prediction.specs.validator.Typing.{follow_last, typed}
use Rattle.prediction.specs.validator.Conditions.{marked}
use Rattle.prediction.specs.validator.Check.{rounds, Checked, table_of}
use Rattle.prediction.specs.Interpreter.{Outcome, done, blame, deep, stop, Runs}
use Rattle.prediction.proofs.Sets.{decide}
use Rattle.prediction.proofs.validator.Check.{all_typed, all_marked, all_productive, ends_at_zero}
use Rattle.prediction.proofs.correct.Sound.{sound}
use Rattle.prediction.proofs.correct.Inside.{zero_past, inside_run}
use Rattle.prediction.proofs.correct.RunDepth.{StopDepth, depth_done, depth_blame, depth_deep, stop_depth}
use Rattle.prediction.proofs.complete.Maximal.{Maximal, most_same, most_early, most_blame, Agree, maximal}
use Rattle.prediction.proofs.complete.Word.{Generates, generate}
use Rattle.prediction.proofs.complete.Viable.{carry, Viable, reach, stays_viable}
use Rattle.prediction.proofs.theorems.SamePlans.{to_plans, from_plans}

-- the first n of the kinds s, as a list
list_of : (ℕ → ℕ) → ℕ → List ℕ
list_of s zero = []
list_of s (suc n) = s 0 ∷ list_of (λ q. s (suc q)) n

list_length : (s : ℕ → ℕ) (n : ℕ) → length (list_of s n) ≡ n
unfolding list_of
list_length s zero = refl
list_length s (suc n) = ap suc (list_length (λ q. s (suc q)) n)

list_at : (s : ℕ → ℕ) (n q : ℕ) → q < n → get_or (list_of s n) q 0 ≡ s q
unfolding list_of
list_at s zero q h = absurd (omega arith)
list_at s (suc n) zero h = refl
list_at s (suc n) (suc q) h = list_at (λ q. s (suc q)) n q (omega arith)

-- the kinds of the list, which are 0 past its end
listed : (ℕ → ℕ) → ℕ → ℕ → ℕ
listed s n q = get_or (list_of s n) q 0

-- what each answer of the reader says, at depth setting n
pub data Says (E : Edition) (n : ℕ) (ks : List ℕ) : Outcome → Type 0 where
  says_derived : {g : Forest} {j : ℕ} → j ≡ length ks → Derivation E ks g → Within (kind_at ks) n 0 j →
      Says E n ks (done j g)
  says_more : {g : Forest} {j : ℕ} → j < length ks → Blame E ks j → Within (kind_at ks) n 0 j → Says E n ks (done j g)
  says_blamed : {q : ℕ} → Blame E ks q → Within (kind_at ks) n 0 q → Says E n ks (blame q)
  says_deep : {q : ℕ} → q < length ks → Begins E ks (suc q) → TooDeep (kind_at ks) n q → Says E n ks (deep q)

module _ {E : Edition} (c : Checked E) where
  -- a run of the whole list, at depth setting d
  abbrev pub Reading : List ℕ → ℕ → Outcome → Type 0
  Reading ks d x = Runs (table_of c) (kind_at ks) d (call E.start) 0 end x

  all_generate : (p : Plan) → Generates (table_of c) p
  all_generate = generate (table_of c) (suc rounds) (all_productive c)

  viable_begins : (ks : List ℕ) (n : ℕ) → Viable (table_of c) (kind_at ks) (call E.start) 0 end n → Begins E ks n
  unfolding Derivation as_plan listed
  viable_begins ks n v =
      let e = list_length v.kinds v.till in
      let d = from_plans c (listed v.kinds v.till) (nonterminal E.start)
      (carry (table_of c) v.kinds (listed v.kinds v.till) v.derives
      (λ q a b. list_at v.kinds v.till q b)) in
      record {
        whole = list_of v.kinds v.till;
        forest = v.forest;
        derives = subst (λ (z : ℕ). Derives E (listed v.kinds v.till) (nonterminal E.start) 0 z end
            v.forest) (sym e) d;
        long = omega (arith, e, v.far);
        starts = λ k h. list_at v.kinds v.till k (omega (arith, v.far)) ∙ v.agree k h;
      }

  -- a derivation of a list that agrees as far as the reader went, beside its answer
  beside : (ks : List ℕ) (d : ℕ) (x : Outcome) → Reading ks d x → (ks' : List ℕ) (g : Forest) → Derivation E ks' g →
      Agree (kind_at ks) (kind_at ks') (stop x) →
      Maximal (table_of c) (kind_at ks') (call E.start) (length ks') g x
  unfolding Derivation as_plan typed
  beside ks d x r ks' g e w =
      maximal (table_of c) (kind_at ks) (kind_at ks') (all_typed c) {p = call E.start} tt r w
      (to_plans c (kind_at ks') e)

  blame_blamed : (ks : List ℕ) (d q : ℕ) → q ≤ length ks → Reading ks d (blame q) → Blame E ks q
  unfolding reach stop Agree
  blame_blamed ks d q l r = record {
    within = l;
    viable = viable_begins ks q (stays_viable (table_of c) all_generate (kind_at ks) r);
    dead = λ h b. longer b (beside ks d (blame q) r b.whole b.forest b.derives
        (λ k h'. b.starts k (omega arith)));
    lacking = λ g e. whole g (beside ks d (blame q) r ks g e (λ k h. refl));
  }
    where
      longer : (b : Begins E ks (suc q)) →
          Maximal (table_of c) (kind_at b.whole) (call E.start) (length b.whole) b.forest (blame q) → ⊥
      longer b (most_blame h u) = omega (arith, b.long)

      whole : (g : Forest) → Maximal (table_of c) (kind_at ks) (call E.start) (length ks) g (blame q) → ⊥
      whole g (most_blame h u) =
          ends_at_zero c (subst (λ (z : ℕ). T (elem z (follow_last (table_of c) (call E.start))))
          (zero_past ks (length ks) (omega arith)) u)

  early_blamed : (ks : List ℕ) (d j : ℕ) (g : Forest) → j < length ks → Reading ks d (done j g) → Blame E ks j
  unfolding reach stop Agree
  early_blamed ks d j g l r = record {
    within = omega arith;
    viable = viable_begins ks j (stays_viable (table_of c) all_generate (kind_at ks) r);
    dead = λ h b. longer b (beside ks d (done j g) r b.whole b.forest b.derives
        (λ k h'. b.starts k (omega arith)));
    lacking = λ g' e. whole g' (beside ks d (done j g) r ks g' e (λ k h. refl));
  }
    where
      longer : (b : Begins E ks (suc j)) →
          Maximal (table_of c) (kind_at b.whole) (call E.start) (length b.whole) b.forest (done j g) → ⊥
      longer b (most_same e e') = omega (arith, b.long)
      longer b (most_early h u) = omega (arith, b.long)

      whole : (g' : Forest) → Maximal (table_of c) (kind_at ks) (call E.start) (length ks) g' (done j g) → ⊥
      whole g' (most_same e e') = omega arith
      whole g' (most_early h u) = omega arith

  accepts : (ks : List ℕ) (d j : ℕ) (g : Forest) → j ≡ length ks → Reading ks d (done j g) → Derivation E ks g
  unfolding Derivation as_plan
  accepts ks d j g e r =
      from_plans c (kind_at ks) (nonterminal E.start)
      (subst (λ (z : ℕ). PlanDerives (table_of c).plan (kind_at ks) (call E.start) 0 z end g) e (sound r))

  pub says : (n : ℕ) (ks : List ℕ) (x : Outcome) → Reading ks n x → Says E n ks x
  unfolding stop typed marked depth reach
  says n ks x r =
      go x r (stop_depth (table_of c) (kind_at ks) (all_marked c) {p = call E.start} tt (omega arith) r)
      (inside_run (table_of c) (all_typed c) (kind_at ks) (length ks) (λ q h. zero_past ks q h)
      {p = call E.start} tt (omega arith) r)
    where
      done_at : (j : ℕ) (g : Forest) → Reading ks n (done j g) → Within (kind_at ks) n 0 j → j ≤ length ks →
          T (ltb j (length ks)) ⊎ T (not (ltb j (length ks))) → Says E n ks (done j g)
      done_at j g r l h (inl u) = let v = ltb→lt j (length ks) u in says_more v (early_blamed ks n j g v r) l
      done_at j g r l h (inr u) =
          let v = nltb→le j (length ks) u in
          let e : j ≡ length ks = omega arith in
          says_derived e (accepts ks n j g e r) l

      go : (x : Outcome) → Reading ks n x → StopDepth (kind_at ks) n 0 x → stop x ≤ length ks → Says E n ks x
      go (done j g) r (depth_done l) h = done_at j g r l h (decide (ltb j (length ks)))
      go (blame q) r (depth_blame l) h = says_blamed (blame_blamed ks n q h r) l
      go (deep q) r (depth_deep l u e) h =
          says_deep (open_inside ks q u)
          (viable_begins ks (suc q) (stays_viable (table_of c) all_generate (kind_at ks) r))
          (record { opens = u; full = e; before = l })
