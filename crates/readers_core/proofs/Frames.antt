-- Readers of a whole rule: what a choice comes to as the next kind tells, and a frame of its own for the rule.
-- A frame begins with nothing and ends as one node behind its caller's forest; a stopped state passes. Assumes nothing.
use Rattle.std.proofs.Common.{◌≡◌, ℕ, zero, suc, ◌+◌, ◌*◌, ◌%◌, ◌<◌, Bool, true, false, cond, not, ◌&&◌, T, eqb, ltb, ◌⊎◌, List, [], ◌∷◌, length, sym, refl, ap, ◌∙◌, subst, inl, inr, arith, eqb→eq, ltb→lt, nltb→le}
use lib.ListN.{get_or-eq_default}
use Rattle.prediction.proofs.Sets.{and_left, and_right, decide, each_at}
use Rattle.prediction.specs.Sets.{each}
use Rattle.prediction.specs.plans.Plan.{same_plan, Plan, call, token, seq, wrap}
use Rattle.prediction.proofs.plans.Plan.{same_plan_equal}
use Rattle.grammar.specs.Forest.{Forest}
use Rattle.prediction.specs.validator.Typing.{Table}
use Rattle.prediction.specs.Interpreter.{Outcome, Runs, run_seq, run_seq_stop}
use Rattle.prediction.specs.sharing.Renaming.{Inside, renamed}
use Rattle.tables.specs.Tables.{token_width}
use Rattle.readers_core.specs.Course.{Course, Shares, table_in}
use Rattle.readers_core.specs.Reading.{Reading, kind_at, ahead, half, stop, Addressable, view, State, Does, From, Reads, none_recorded}
use Rattle.readers_core.specs.Reading.{Opens, opens_inside, opens_stopped}
use Rattle.readers_core.proofs.Shapes.{leaves}
use Rattle.readers_core.proofs.Sequence.{does_call, does_stays, read_as, taken, ◌▸◌, unrecorded}
use Rattle.readers_core.proofs.Views.{goes_on, going_at, has_stopped, onward_answers, onward_at, onward_count, onward_goes, onward_there}
use Rattle.readers_core.proofs.Choosing.{AnyOf, Known, Knows, among, any_elem, choose, run_chosen, inside_choose, choose_shared, one_of, run_one_of}
use Rattle.readers_core.proofs.Choosing.{one_of_shared}

-- another plan for the first of two, where it runs whenever that does
first_of_two : {t : Table} {ks : ℕ → ℕ} {d i : ℕ} {a a' b : Plan} {f : Forest} {o : Outcome} →
    ((g : Forest) (x : Outcome) → Runs t ks d a i g x → Runs t ks d a' i g x) → Runs t ks d (seq a b) i f o →
    Runs t ks d (seq a' b) i f o
first_of_two h (run_seq r r') = run_seq (h _ _ r) r'
first_of_two h (run_seq_stop r c) = run_seq_stop (h _ _ r) c

pub going : (n : ℕ) → (n ≡ 0) ⊎ (n ≡ 0 → ⊥)
going zero = inl refl
going (suc n) = inr (λ e. omega arith)

pub ahead_kind : (ks : List ℕ) (s : Reading) → s.answer ≡ 0 → ahead ks s ≡ kind_at ks s.at
ahead_kind ks s e = rw e

pub ahead_none : (ks : List ℕ) (s : Reading) → (s.answer ≡ 0 → ⊥) → 0 ≡ ahead ks s
ahead_none ks s n = go (eqb s.answer 0) (eqb→eq s.answer 0)
  where
    go : (x : Bool) → (T x → s.answer ≡ 0) → 0 ≡ cond x (kind_at ks s.at) 0
    go true u = absurd (n (u tt))
    go false u = refl

-- a token that is there stands in the table
pub in_table : (ks : List ℕ) (i k : ℕ) → Addressable ks → 0 < k → kind_at ks i ≡ k → token_width * i < half
in_table ks i k h z e = go (decide (ltb (token_width * i) (length ks)))
  where
    go : T (ltb (token_width * i) (length ks)) ⊎ T (not (ltb (token_width * i) (length ks))) → token_width * i < half
    go (inl u) = let l = ltb→lt (token_width * i) (length ks) u in omega arith
    go (inr u) = let x = get_or-eq_default ks 0 (nltb→le (token_width * i) (length ks) u) in absurd (omega arith)

-- one that is there is taken; at a stop, that stays
module _ (ks : List ℕ) (k s : ℕ) (h : Addressable ks) (z : 0 < k) (e : kind_at ks (s % half) ≡ k) where
  pub fits : token_width * (s % half) < half
  fits = in_table ks (s % half) k h z e

  there : s < stop → kind_at ks (view s).at ≡ k
  there low = ap (λ (i : ℕ). kind_at ks i) (going_at s low) ∙ e

  pub moves_past : {R : Course} {d : ℕ} {start : Reading} {hs w : List ℕ} →
      From R ks d start hs (token k) (view s, w) (view (s + 1), w)
  moves_past {R} {d} {start} {hs} {w} = go (decide (ltb s stop))
    where
      go : T (ltb s stop) ⊎ T (not (ltb s stop)) → From R ks d start hs (token k) (view s, w) (view (s + 1), w)
      go (inl u) =
          let low = ltb→lt s stop u in
          taken (goes_on s low) (there low) (onward_goes s low fits) (onward_at s low fits) (onward_count s low fits)
      go (inr u) = record {
        does = λ _ _ b _ _. does_stays (has_stopped s (nltb→le s stop u)) (record {
          answers = onward_answers s (nltb→le s stop u) fits;
          places = onward_there s (nltb→le s stop u) fits;
        });
      }

  pub opens_past : {d : ℕ} → 0 < d → Opens ks d k (view s) (view (s + 1))
  opens_past {d} l = go (decide (ltb s stop))
    where
      go : T (ltb s stop) ⊎ T (not (ltb s stop)) → Opens ks d k (view s) (view (s + 1))
      go (inl u) =
          let low = ltb→lt s stop u in
          opens_inside (goes_on s low) (there low) l (onward_goes s low fits) (onward_at s low fits)
          (onward_count s low fits)
      go (inr u) =
          let high = nltb→le s stop u in
          opens_stopped (has_stopped s high) (onward_answers s high fits) (onward_there s high fits)

-- what is known of the kind ahead is known of the token there
pub known_there : (ks : List ℕ) (s : Reading) (k : Known) {x : ℕ} → x ≡ ahead ks s → Knows k x → s.answer ≡ 0 →
    Knows k (kind_at ks s.at)
known_there ks s k e h z = subst (λ (n : ℕ). Knows k n) (e ∙ ahead_kind ks s z) h

-- where k is known of the next kind, plan p comes to plan q: a test that computes
unfoldable pub comes_to : Course → Known → (p q : Plan) → Bool
unfolding same_plan choose
comes_to R k p q = same_plan (choose (table_in R) k p) q

-- where kind k stands ahead, rule n comes to a use of the rule `target k`; for each kind of a list, with no record
unfoldable pub passes_to : Course → (n : ℕ) (target : ℕ → ℕ) (k : ℕ) → Bool
unfolding comes_to
passes_to R n target k = comes_to R (among (k ∷ [])) ((table_in R).plan n) (seq (call (target k)) (wrap n))

unfoldable pub passes_on : Course → (n : ℕ) (target : ℕ → ℕ) → List ℕ → Bool
unfolding each passes_to none_recorded
passes_on R n target ls = each (passes_to R n target) ls && none_recorded R n (1 ∷ [])

module _ {R : Course} {ks : List ℕ} {d : ℕ} where
  -- what a plan comes to, as the next kind tells
  pub chosen : {x : ℕ} {p : Plan} {start : Reading} {hs : List ℕ} {s s' : State} (k : Known) → x ≡ ahead ks s.0 → Knows k x →
      From R ks d start hs (choose (table_in R) k p) s s' → From R ks d start hs p s s'
  chosen {p = p} {s = s} k e h = read_as (λ C m u. (
    inside_choose m.rule (table_in R) k p u,
    λ z f o r.
        run_chosen C (kind_at ks) k (known_there ks s.0 k e h z) (renamed m.number p)
        (subst (λ (q : Plan). Runs (table_in C) (kind_at ks) d q s.0.at f o) (sym (choose_shared m k p u)) r),
  ))

  -- the same by a test
  pub coming : {x : ℕ} {p q : Plan} {start : Reading} {hs : List ℕ} {s s' : State} (k : Known) → x ≡ ahead ks s.0 → Knows k x →
      T (comes_to R k p q) → From R ks d start hs q s s' → From R ks d start hs p s s'
  unfolding comes_to
  coming {p = p} {q = q} {start = start} {hs = hs} {s = s} {s' = s'} k e h t y =
      chosen k e h
      (subst (λ (z : Plan). From R ks d start hs z s s') (sym (same_plan_equal (choose (table_in R) k p) q t)) y)

  -- a choice between tokens, of which the next is one, and what stands behind it
  pub taken_of : {x : ℕ} {p q : Plan} {start : Reading} {hs : List ℕ} {s s' : State} (k : Known) → x ≡ ahead ks s.0 → Knows k x →
      T (one_of (table_in R) k p) → From R ks d start hs (seq (token x) q) s s' → From R ks d start hs (seq p q) s s'
  unfolding Inside renamed
  taken_of {x} {p} {q} {s = s} k e h t = read_as (λ C m u. ((tt, u.1), λ z f o. first m u.0 z))
    where
      one : {C : Course} (m : Shares R C) → Inside m.rule p → {f : Forest} {o : Outcome} → s.0.answer ≡ 0 →
          Runs (table_in C) (kind_at ks) d (token x) s.0.at f o →
          Runs (table_in C) (kind_at ks) d (renamed m.number p) s.0.at f o
      one {C} m u {f} {o} z r =
          run_one_of C (kind_at ks) k (known_there ks s.0 k e h z) (renamed m.number p)
          (subst (λ (b : Bool). T b) (sym (one_of_shared m k p u)) t)
          (subst (λ (n : ℕ). Runs (table_in C) (kind_at ks) d (token n) s.0.at f o) (e ∙ ahead_kind ks s.0 z) r)

      first : {C : Course} (m : Shares R C) → Inside m.rule p → s.0.answer ≡ 0 → {f : Forest} {o : Outcome} →
          Runs (table_in C) (kind_at ks) d (seq (token x) (renamed m.number q)) s.0.at f o →
          Runs (table_in C) (kind_at ks) d (seq (renamed m.number p) (renamed m.number q)) s.0.at f o
      first m u z r = first_of_two (λ g x. one m u {f = g} {o = x} z) r

  module _ (n : ℕ) {s u : Reading} {w w' : List ℕ} where
    -- a frame of its own, from `s` to `u`
    pub frame : From R ks d s (0 ∷ []) ((table_in R).plan n) (s, w) (u, w') → Reads R ks d (call n) (s, w) (u, w')
    unfolding Inside renamed
    frame x =
        record { in_any = λ start hs. record { does = λ m v c _ _. go m v c hs (going s.answer) } }
      where
        inner : {C : Course} (m : Shares R C) → T (m.rule n) →
            Does C ks d (0 ∷ []) ((table_in C).plan (m.number n)) (s, w) (s, w) (u, w')
        inner {C} m v =
            subst (λ (p : Plan). Does C ks d (0 ∷ []) p (s, w) (s, w) (u, w')) (sym (m.same_plan n v))
            (x.does m (m.closed n v) (s, w) refl refl)

        go : {C : Course} (m : Shares R C) → T (m.rule n) → (c : State) (hs : List ℕ) →
            (s.answer ≡ 0) ⊎ (s.answer ≡ 0 → ⊥) → Does C ks d hs (call (m.number n)) c (s, w) (u, w')
        go m v c hs (inl z) = does_call (m.number n) z (inner m v)
        go m v c hs (inr n') = does_stays n' ((inner m v).stays n')

    -- the same, for a rule whose plan is p
    pub frame_by : {p : Plan} → (table_in R).plan n ≡ p → From R ks d s (0 ∷ []) p (s, w) (u, w') →
        Reads R ks d (call n) (s, w) (u, w')
    frame_by q x = frame (subst (λ (z : Plan). From R ks d s (0 ∷ []) z (s, w) (u, w')) (sym q) x)

    -- the same, with what its plan comes to as the next kind tells
    pub frame_on : {x : ℕ} (k : Known) → x ≡ ahead ks s → Knows k x →
        From R ks d s (0 ∷ []) (choose (table_in R) k ((table_in R).plan n)) (s, w) (u, w') → Reads R ks d (call n) (s, w) (u, w')
    frame_on k e h y = frame (chosen k e h y)

    -- a rule whose right side is here exactly one nonterminal leaves no record: it is read as that nonterminal
    pub passed_on : {q : Plan} {x : ℕ} (k : Known) → x ≡ ahead ks s → Knows k x →
        choose (table_in R) k ((table_in R).plan n) ≡ seq q (wrap n) → T (none_recorded R n (leaves q (0 ∷ []))) →
        Reads R ks d q (s, w) (u, w') → Reads R ks d (call n) (s, w) (u, w')
    passed_on k e h c t y =
        frame_on k e h
        (subst (λ (p : Plan). From R ks d s (0 ∷ []) p (s, w) (u, w')) (sym c) (y.in_any s (0 ∷ []) ▸ unrecorded t))

    -- the same where one of several kinds stands ahead
    pub passed_by : {x : ℕ} (target : ℕ → ℕ) (ls : List ℕ) → x ≡ ahead ks s → AnyOf ls x → T (passes_on R n target ls) →
        Reads R ks d (call (target x)) (s, w) (u, w') → Reads R ks d (call n) (s, w) (u, w')
    unfolding Knows passes_on passes_to comes_to leaves
    passed_by {x} target ls e h t y =
        passed_on (among (x ∷ [])) e refl
        (same_plan_equal (choose (table_in R) (among (x ∷ [])) ((table_in R).plan n)) (seq (call (target x)) (wrap n))
        (each_at (passes_to R n target) ls x (and_left (each (passes_to R n target) ls) (none_recorded R n (1 ∷ [])) t)
        (any_elem ls x h)))
        (and_right (each (passes_to R n target) ls) (none_recorded R n (1 ∷ [])) t) y
