-- The laws of renaming; frames that have the same plans in two tables, under other numbers, begin alike in both.
-- By induction on the plan; what is claimed of those frames agrees round by round, since their plans do.
use Prim.Native.Nat.{ℕ, zero, suc}
use mathlib.Core.Path.{◌≡◌, refl, ap, ◌∙◌}
use mathlib.Core.Bool.{Bool, ◌&&◌}
use mathlib.Core.List.{List}
use lib.Dec.{T}
use Rattle.grammar.specs.Sets.{elem}
use Rattle.grammar.proofs.Sets.{and_left, and_right}
use Rattle.prediction.specs.plans.Plan.{Plan, token, group, call, wrap, seq, alt, skip, many}
use Rattle.prediction.specs.validator.Typing.{Table, null, first}
use Rattle.prediction.specs.validator.Fixpoint.{plan_at, round}
use Rattle.prediction.specs.sharing.Renaming.{Inside, renamed, any_rule, as_it_is, inside}
use Rattle.prediction.proofs.Sets.{and_both}

pub all_inside : (p : Plan) → Inside any_rule p
unfolding Inside
all_inside (token k) = tt
all_inside (group o b c) = all_inside b
all_inside (call n) = tt
all_inside (wrap r) = tt
all_inside (seq a b) = (all_inside a, all_inside b)
all_inside (alt a b) = (all_inside a, all_inside b)
all_inside skip = tt
all_inside (many a) = all_inside a

pub renamed_same : (p : Plan) → renamed as_it_is p ≡ p
unfolding renamed
renamed_same (token k) = refl
renamed_same (group o b c) = rw (renamed_same b)
renamed_same (call n) = refl
renamed_same (wrap r) = refl
renamed_same (seq a b) = rw (renamed_same a, renamed_same b)
renamed_same (alt a b) = rw (renamed_same a, renamed_same b)
renamed_same skip = refl
renamed_same (many a) = rw (renamed_same a)

-- inside two sets, the second by the other numbers; and renamed twice
module _ (S S' : ℕ → Bool) (number : ℕ → ℕ) where
  abbrev pub in_both : ℕ → Bool
  in_both n = S n && S' (number n)

  pub inside_both : (p : Plan) → Inside S p → Inside S' (renamed number p) → Inside in_both p
  unfolding Inside renamed
  inside_both (token k) u v = tt
  inside_both (group o b c) u v = inside_both b u v
  inside_both (call n) u v = and_both (S n) (S' (number n)) u v
  inside_both (wrap r) u v = and_both (S r) (S' (number r)) u v
  inside_both (seq a b) u v = (inside_both a u.0 v.0, inside_both b u.1 v.1)
  inside_both (alt a b) u v = (inside_both a u.0 v.0, inside_both b u.1 v.1)
  inside_both skip u v = tt
  inside_both (many a) u v = inside_both a u v

pub renamed_twice : (number number' : ℕ → ℕ) (p : Plan) →
    renamed (λ n. number' (number n)) p ≡ renamed number' (renamed number p)
unfolding renamed
renamed_twice m m' (token k) = refl
renamed_twice m m' (group o b c) = rw (renamed_twice m m' b)
renamed_twice m m' (call n) = refl
renamed_twice m m' (wrap r) = refl
renamed_twice m m' (seq a b) = rw (renamed_twice m m' a, renamed_twice m m' b)
renamed_twice m m' (alt a b) = rw (renamed_twice m m' a, renamed_twice m m' b)
renamed_twice m m' skip = refl
renamed_twice m m' (many a) = rw (renamed_twice m m' a)

pub inside_holds : (S : List ℕ) (p : Plan) → T (inside S p) → Inside (λ n. elem n S) p
unfolding inside Inside
inside_holds S (token k) u = tt
inside_holds S (group o b c) u = inside_holds S b u
inside_holds S (call n) u = u
inside_holds S (wrap r) u = u
inside_holds S (seq a b) u =
    (inside_holds S a (and_left (inside S a) (inside S b) u), inside_holds S b (and_right (inside S a) (inside S b) u))
inside_holds S (alt a b) u =
    (inside_holds S a (and_left (inside S a) (inside S b) u), inside_holds S b (and_right (inside S a) (inside S b) u))
inside_holds S skip u = tt
inside_holds S (many a) u = inside_holds S a u

module _ (S : ℕ → Bool) (number : ℕ → ℕ) where
  module _ (t t' : Table) (null_same : (n : ℕ) → T (S n) → t'.null_of (number n) ≡ t.null_of n) where
    pub null_renamed : (p : Plan) → Inside S p → null t' (renamed number p) ≡ null t p
    unfolding null Inside renamed
    null_renamed (token k) u = refl
    null_renamed (group o b c) u = refl
    null_renamed (call n) u = null_same n u
    null_renamed (wrap r) u = refl
    null_renamed (seq a b) u = rw (null_renamed a u.0, null_renamed b u.1)
    null_renamed (alt a b) u = rw (null_renamed a u.0, null_renamed b u.1)
    null_renamed skip u = refl
    null_renamed (many a) u = refl

    module _ (first_same : (n : ℕ) → T (S n) → t'.first_of (number n) ≡ t.first_of n) where
      pub first_renamed : (p : Plan) → Inside S p → first t' (renamed number p) ≡ first t p
      unfolding first Inside renamed
      first_renamed (token k) u = refl
      first_renamed (group o b c) u = refl
      first_renamed (call n) u = first_same n u
      first_renamed (wrap r) u = refl
      first_renamed (seq a b) u =
          rw (first_renamed a u.0, first_renamed b u.1, null_renamed a u.0)
      first_renamed (alt a b) u = rw (first_renamed a u.0, first_renamed b u.1)
      first_renamed skip u = refl
      first_renamed (many a) u = first_renamed a u

  module _ (ps qs : List Plan) (closed : (n : ℕ) → T (S n) → Inside S (plan_at ps n))
      (same : (n : ℕ) → T (S n) → plan_at qs (number n) ≡ renamed number (plan_at ps n)) where
    pub nulls_same : (k n : ℕ) → T (S n) → (round qs k).null_of (number n) ≡ (round ps k).null_of n
    unfolding round
    nulls_same zero n u = refl
    nulls_same (suc k) n u =
        ap (λ (p : Plan). null (round qs k) p) (same n u)
        ∙ null_renamed (round ps k) (round qs k) (nulls_same k) (plan_at ps n) (closed n u)

    pub firsts_same : (k n : ℕ) → T (S n) → (round qs k).first_of (number n) ≡ (round ps k).first_of n
    unfolding round
    firsts_same zero n u = refl
    firsts_same (suc k) n u =
        ap (λ (p : Plan). first (round qs k) p) (same n u)
        ∙ first_renamed (round ps k) (round qs k) (nulls_same k) (firsts_same k) (plan_at ps n) (closed n u)
