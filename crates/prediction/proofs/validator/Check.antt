-- What the passed test of an edition says of each frame.
-- By the parts of the test, and one law over the list of plans.
use Prim.Native.Nat.{ℕ, suc, ◌≤◌}
use mathlib.Core.Path.{◌≡◌}
use mathlib.Core.Bool.{false, not, ◌&&◌}
use native.Mathlib.Omega.{arith}
use lib.Dec.{T, eqb, T_not, eqb→eq, leb→le}
use lib.ListN.{length}
use Rattle.grammar.specs.Rule.{Edition}
use Rattle.grammar.specs.Sets.{elem}
use Rattle.grammar.proofs.Sets.{and_left, and_right}
use Rattle.prediction.specs.Sets.{only, subset, disjoint}
use Rattle.prediction.specs.plans.Plan.{call, wrap, seq, skip}
use Rattle.prediction.specs.plans.RulesAsPlans.{rule_plan}
use Rattle.prediction.specs.validator.Typing.{null, first, follow_last, typed, Typed}
use Rattle.prediction.specs.validator.Conditions.{marked, produces, productive, left_within, left_founded}
use Rattle.prediction.specs.validator.Conditions.{weight, weighed, leaves_one}
use Rattle.prediction.specs.validator.Fixpoint.{plan_at, round, caps, implies, settled, every}
use Rattle.prediction.specs.validator.Check.{rounds, table, frame_test, fit_from, plans_settled, rules_fit}
use Rattle.prediction.specs.validator.Check.{lengths_agree, whole_ends, all_leave_one, passes, Checked}
use Rattle.prediction.specs.validator.Check.{plans_of, table_of}
use Rattle.prediction.proofs.validator.Fixpoint.{every_at, cap_at, Settled, settled_parts}

module _ {E : Edition} (c : Checked E) where
  settled_passed : T (plans_settled c.prediction)
  unfolding passes
  settled_passed = and_left (plans_settled c.prediction) _ c.passed

  fit_passed : T (rules_fit E c.prediction && (all_leave_one c.prediction &&
      (lengths_agree E c.prediction && whole_ends E c.prediction)))
  unfolding passes
  fit_passed = and_right (plans_settled c.prediction) _ c.passed

  closed_passed : T (all_leave_one c.prediction && (lengths_agree E c.prediction && whole_ends E c.prediction))
  closed_passed = and_right (rules_fit E c.prediction) _ fit_passed

  ends_passed : T (lengths_agree E c.prediction && whole_ends E c.prediction)
  ends_passed = and_right (all_leave_one c.prediction) _ closed_passed

  frames_of : T (plans_settled c.prediction) → T (every (frame_test c.prediction) (plans_of c))
  unfolding plans_settled
  frames_of u = u

  frame_passes : (n : ℕ) → T (frame_test c.prediction (plan_at (plans_of c) n))
  unfolding frame_test plan_at table typed null first follow_last subset marked produces left_within weight weighed
      implies settled disjoint only
  frame_passes n =
      every_at (frame_test c.prediction) (plans_of c) (seq skip (wrap n)) tt (frames_of settled_passed) n

  settled_at : (n : ℕ) → Settled (round (plans_of c) rounds) (table_of c) (productive (plan_at (plans_of c)) rounds)
      (left_founded (table_of c) rounds)
      (caps (plans_of c) rounds) (caps (plans_of c) (suc rounds)) (plan_at (plans_of c) n)
  unfolding frame_test
  settled_at n =
      settled_parts (round (plans_of c) rounds) (table_of c) (productive (plan_at (plans_of c)) rounds)
      (left_founded (table_of c) rounds)
      (caps (plans_of c) rounds) (caps (plans_of c) (suc rounds)) (plan_at (plans_of c) n) (frame_passes n)

  pub all_typed : Typed (table_of c)
  unfolding table round
  all_typed = record {
    plan_typed = λ n. (settled_at n).well_typed;
    null_holds = λ n. (settled_at n).null_kept;
    first_holds = λ n. (settled_at n).first_kept;
    follow_last_holds = λ n. (settled_at n).follow_last_kept;
  }

  pub null_exactly : (n : ℕ) → T ((table_of c).null_of n) → T (null (table_of c) ((table_of c).plan n))
  unfolding table round
  null_exactly n = (settled_at n).null_exact

  pub all_marked : (n : ℕ) → T (marked ((table_of c).plan n))
  unfolding table round
  all_marked n = (settled_at n).well_marked

  pub all_productive : (n : ℕ) → T (productive (table_of c).plan (suc rounds) n)
  unfolding table round productive
  all_productive n = (settled_at n).produced_kept

  pub all_founded : (n : ℕ) → T (left_founded (table_of c) (suc rounds) n)
  unfolding table round left_founded
  all_founded n = (settled_at n).founded_kept

  pub all_weighed : (n : ℕ) → T (weighed (caps (plans_of c) (suc rounds)) ((table_of c).plan n))
  unfolding table round
  all_weighed n = (settled_at n).well_weighed

  pub all_capped : (n : ℕ) →
      weight (caps (plans_of c) (suc rounds)) ((table_of c).plan n) ≤ caps (plans_of c) (suc rounds) n
  unfolding table round
  all_capped n = let e = cap_at (plans_of c) rounds n in let h = (settled_at n).weight_kept in omega arith

  -- the end goes on no text
  pub ends_at_zero : T (elem 0 (follow_last (table_of c) (call E.start))) → ⊥
  unfolding whole_ends
  ends_at_zero =
      T_not (elem 0 (follow_last (table_of c) (call E.start)))
      (and_left (not (elem 0 (follow_last (table_of c) (call E.start)))) _
      (and_right (lengths_agree E c.prediction) _ ends_passed))

  pub start_capped : caps (plans_of c) (suc rounds) E.start ≤ 1000
  unfolding whole_ends
  start_capped =
      leb→le (caps (plans_of c) (suc rounds) E.start) 1000
      (and_right (not (elem 0 (follow_last (table_of c) (call E.start)))) _
      (and_right (lengths_agree E c.prediction) _ ends_passed))

  pub rules_long : length E.rules ≡ length c.prediction.ways
  unfolding lengths_agree
  rules_long =
      eqb→eq (length E.rules) (length c.prediction.ways)
      (and_left (eqb (length E.rules) (length c.prediction.ways)) _
      (and_left (lengths_agree E c.prediction) _ ends_passed))

  pub plans_long : length (plans_of c) ≡ length c.prediction.ways
  unfolding lengths_agree
  plans_long =
      eqb→eq (length (plans_of c)) (length c.prediction.ways)
      (and_right (eqb (length E.rules) (length c.prediction.ways)) _
      (and_left (lengths_agree E c.prediction) _ ends_passed))

  pub all_closed : (n : ℕ) → T (leaves_one false ((table_of c).plan n))
  unfolding all_leave_one table round plan_at leaves_one
  all_closed n =
      every_at (leaves_one false) (plans_of c) (seq skip (wrap n)) tt
      (and_left (all_leave_one c.prediction) _ closed_passed) n

  pub all_fit : T (fit_from (rule_plan E) (plan_at (plans_of c)) 0 c.prediction.ways)
  unfolding rules_fit
  all_fit = and_left (rules_fit E c.prediction) _ fit_passed
