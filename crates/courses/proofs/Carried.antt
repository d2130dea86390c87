-- What is read by the plans of edition 1 is read in editions 2 and 3, wherever it names rules that they share with it.
-- By the law that carries a reading over to a course that shares the rules; that they are shared is computed.
use Prim.Native.Nat.{ℕ}
use mathlib.Core.Path.{◌≡◌, refl, subst}
use mathlib.Core.Bool.{Bool, true, false, not, ◌&&◌, cond}
use mathlib.Core.List.{List}
use lib.Dec.{T, eqb, eqb→eq}
use Rattle.grammar.specs.Idl.{idl}
use Rattle.grammar.specs.Sets.{elem}
use Rattle.grammar.proofs.Sets.{and_left, and_right}
use Rattle.prediction.specs.plans.Plan.{Plan, call}
use Rattle.prediction.specs.sharing.Renaming.{renamed, inside, as_it_is}
use Rattle.prediction.proofs.sharing.Renaming.{inside_holds, renamed_same}
use Rattle.prediction.specs.Sets.{each}
use Rattle.prediction.proofs.Sets.{each_at}
use Rattle.prediction.specs.sharing.Shared.{agrees}
use Rattle.prediction.proofs.sharing.Shared.{plan_same, plan_inside}
use Rattle.prediction.specs.validator.Fixpoint.{round}
use Rattle.prediction.specs.validator.Check.{table, plans_of}
use Rattle.components.specs.Components.{components}
use Rattle.data_only.specs.DataOnly.{data_only}
use Rattle.readers_core.specs.Notation.{<◌>}
use Rattle.readers_core.specs.Course.{Course, Shares, one}
use Rattle.readers_core.specs.Reading.{Reading, State, From, Flat}
use Rattle.readers_core.proofs.Sharing.{carried}
use Rattle.courses.specs.Courses.{two, three, code_3}
use Rattle.courses.specs.Shared.{shared_2, number_3, shared_3}
use Rattle.courses.proofs.Shared.{agree_2, agree_3}

-- rule n of the course R is recorded always where its fellow in C is, and written as the same number
unfoldable pub kept_alike : (R C : Course) (number : ℕ → ℕ) → ℕ → Bool
unfolding elem
kept_alike R C number n =
    (let a = elem n R.edition.always in cond (elem (number n) C.edition.always) a (not a)) &&
    eqb (C.code (number n)) (R.code n)

alike : (a b : Bool) → T (cond a b (not b)) → a ≡ b
alike true true u = refl
alike true false u = absurd u
alike false true u = absurd u
alike false false u = refl

-- the two tests of a list of rules make them shared
module _ (R C : Course) (number : ℕ → ℕ) (S : List ℕ) (agree : T (each (agrees number (plans_of R.checked) (plans_of C.checked) S) S))
    (kept : T (each (kept_alike R C number) S)) where
  kept_at : (n : ℕ) → T (elem n S) → T (kept_alike R C number n)
  kept_at n v = each_at (kept_alike R C number) S n kept v

  shares : Shares R C
  unfolding kept_alike table round
  shares = record {
    rule = λ n. elem n S;
    number = number;
    closed = plan_inside number (plans_of R.checked) (plans_of C.checked) S agree;
    same_plan = plan_same number (plans_of R.checked) (plans_of C.checked) S agree;
    same_always = λ n v.
        let a = elem n R.edition.always in
        let b = elem (number n) C.edition.always in
        alike b a (and_left (cond b a (not a)) (eqb (C.code (number n)) (R.code n)) (kept_at n v));
    same_code = λ n v.
        let a = elem n R.edition.always in
        let b = elem (number n) C.edition.always in
        eqb→eq (C.code (number n)) (R.code n)
        (and_right (cond b a (not a)) (eqb (C.code (number n)) (R.code n)) (kept_at n v));
  }

kept_in_two : T (each (kept_alike one two as_it_is) shared_2)
unfolding each kept_alike shared_2 idl components
kept_in_two = tt

kept_in_three : T (each (kept_alike one three number_3) shared_3)
unfolding each kept_alike number_3 shared_3 code_3 idl data_only
kept_in_three = tt

two_shares : Shares one two
unfolding shares
two_shares = shares one two as_it_is shared_2 agree_2 kept_in_two

three_shares : Shares one three
unfolding shares
three_shares = shares one three number_3 shared_3 agree_3 kept_in_three

module _ {ks : List ℕ} {d : ℕ} {start : Reading} {hs : List ℕ} (p : Plan) {s s' : State} where
  -- edition 2, by the same numbers
  pub in_two : T (inside shared_2 p) → From one ks d start hs p s s' → From two ks d start hs p s s'
  unfolding two_shares shares
  in_two u x =
      subst (λ (q : Plan). From two ks d start hs q s s') (renamed_same p)
      (carried two_shares (inside_holds shared_2 p u) x)

  -- edition 3, by its own
  pub in_three : T (inside shared_3 p) → From one ks d start hs p s s' →
      From three ks d start hs (renamed number_3 p) s s'
  unfolding three_shares shares
  in_three u x = carried three_shares (inside_holds shared_3 p u) x

-- so whatever reads rule 12 as `scoped_name` does reads rule 12 of edition 2 and rule 204 of edition 3
pub scoped_names : {ks : List ℕ} {s s' : State} → Flat one ks (< "scoped_name" >) s s' →
    Flat two ks (< "scoped_name" >) s s' × Flat three ks (call 204) s s'
unfolding inside renamed number_3 shared_2 shared_3
scoped_names x = (
  record { at_any = λ d. record { in_any = λ start hs. in_two (< "scoped_name" >) tt ((x.at_any d).in_any start hs) } },
  record { at_any = λ d. record { in_any = λ start hs. in_three (< "scoped_name" >) tt ((x.at_any d).in_any start hs) } },
)
