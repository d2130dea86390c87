-- What courses share: every course shares its rules with itself; shared plans begin alike, and shared rules are recorded alike;
-- so what is read in one course is read in the other. The plans are the same but for the numbers. Assumes nothing.
use Rattle.std.proofs.Common.{◌≡◌, ℕ, suc, ◌&&◌, T, List, sym, refl, ap, ◌∙◌, subst}
use Rattle.grammar.specs.Record.{recorded}
use Rattle.grammar.proofs.Sets.{and_left, and_right}
use Rattle.prediction.specs.plans.Plan.{Plan}
use Rattle.prediction.specs.sharing.Renaming.{Inside, renamed, any_rule, as_it_is}
use Rattle.prediction.proofs.sharing.Renaming.{all_inside, renamed_same, in_both, inside_both, renamed_twice}
use Rattle.prediction.proofs.sharing.Renaming.{null_renamed, first_renamed, nulls_same, firsts_same}
use Rattle.prediction.specs.validator.Typing.{null, first}
use Rattle.prediction.specs.validator.Fixpoint.{round}
use Rattle.prediction.specs.validator.Check.{plans_of, rounds, table}
use Rattle.readers_core.specs.Course.{Course, Shares, table_in}
use Rattle.readers_core.specs.Reading.{Reading, State, Does, From}

abbrev pub itself : (C : Course) → Shares C C
itself C = record {
  rule = any_rule;
  number = as_it_is;
  closed = λ n u. all_inside ((table_in C).plan n);
  same_plan = λ n u. sym (renamed_same ((table_in C).plan n));
  same_always = λ n u. refl;
  same_code = λ n u. refl;
}

-- so what is read by the plans of a course is read in that course
pub at_home : {R : Course} {ks : List ℕ} {d : ℕ} {start : Reading} {hs : List ℕ} {p : Plan} {s s' : State} → From R ks d start hs p s s' →
    (b : State) → b.0.at ≡ start.at → b.0.count ≡ start.count → Does R ks d hs p b s s'
at_home {R} {ks} {d} {hs = hs} {p = p} {s = s} {s' = s'} x b e e' =
    subst (λ (q : Plan). Does R ks d hs q b s s') (renamed_same p) (x.does (itself R) (all_inside p) b e e')

module _ {R C : Course} (m : Shares R C) where
  null_of_same : (n : ℕ) → T (m.rule n) → (table_in C).null_of (m.number n) ≡ (table_in R).null_of n
  unfolding table round
  null_of_same =
      nulls_same m.rule m.number (plans_of R.checked) (plans_of C.checked) m.closed m.same_plan (suc rounds)

  first_of_same : (n : ℕ) → T (m.rule n) → (table_in C).first_of (m.number n) ≡ (table_in R).first_of n
  unfolding table round
  first_of_same =
      firsts_same m.rule m.number (plans_of R.checked) (plans_of C.checked) m.closed m.same_plan (suc rounds)

  pub null_shared : (p : Plan) → Inside m.rule p → null (table_in C) (renamed m.number p) ≡ null (table_in R) p
  null_shared = null_renamed m.rule m.number (table_in R) (table_in C) null_of_same

  pub first_shared : (p : Plan) → Inside m.rule p → first (table_in C) (renamed m.number p) ≡ first (table_in R) p
  first_shared = first_renamed m.rule m.number (table_in R) (table_in C) null_of_same first_of_same

  pub recorded_shared : (r h : ℕ) → T (m.rule r) → recorded C.edition (m.number r) h ≡ recorded R.edition r h
  unfolding recorded
  recorded_shared r h u = rw (m.same_always r u)

-- what is shared with a course that shares with another is shared with that one
through : {R S C : Course} → Shares R S → Shares S C → Shares R C
through {R} m m' = record {
  rule = in_both m.rule m'.rule m.number;
  number = λ n. m'.number (m.number n);
  closed = λ n u.
      inside_both m.rule m'.rule m.number ((table_in R).plan n) (m.closed n (first_of n u))
      (subst (λ (p : Plan). Inside m'.rule p) (m.same_plan n (first_of n u)) (m'.closed (m.number n) (second_of n u)));
  same_plan = λ n u.
      m'.same_plan (m.number n) (second_of n u) ∙ ap (renamed m'.number) (m.same_plan n (first_of n u))
      ∙ sym (renamed_twice m.number m'.number ((table_in R).plan n));
  same_always = λ n u. m'.same_always (m.number n) (second_of n u) ∙ m.same_always n (first_of n u);
  same_code = λ n u. m'.same_code (m.number n) (second_of n u) ∙ m.same_code n (first_of n u);
}
  where
    first_of : (n : ℕ) → T (m.rule n && m'.rule (m.number n)) → T (m.rule n)
    first_of n = and_left (m.rule n) (m'.rule (m.number n))

    second_of : (n : ℕ) → T (m.rule n && m'.rule (m.number n)) → T (m'.rule (m.number n))
    second_of n = and_right (m.rule n) (m'.rule (m.number n))

-- so what is read by the plans of a course is read by those of each course that shares the rules
pub carried : {R S : Course} (m : Shares R S) {ks : List ℕ} {d : ℕ} {start : Reading} {hs : List ℕ} {p : Plan} {s s' : State} →
    Inside m.rule p → From R ks d start hs p s s' → From S ks d start hs (renamed m.number p) s s'
unfolding through
carried m {ks} {d} {hs = hs} {p = p} {s = s} {s' = s'} u x = record {
  does = λ {C} m' v b e e'.
      subst (λ (q : Plan). Does C ks d hs q b s s') (renamed_twice m.number m'.number p)
      (x.does (through m m') (inside_both m.rule m'.rule m.number p u v) b e e');
}
