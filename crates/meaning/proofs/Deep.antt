-- The first mark too deep is the one that grammar's relation names, all before it are within the setting, and a larger setting never
-- brings it forward. By induction on the tokens.
use Prim.Native.Nat.{ℕ, zero, suc, ◌≤◌, ◌<◌}
use mathlib.Core.Path.{◌≡◌, subst}
use mathlib.Core.Bool.{Bool, true, false, not, ◌&&◌, cond}
use native.Mathlib.Omega.{arith}
use lib.Dec.{T, leb, ltb, ltb→lt, nltb→le, leb→le, le→leb, nleb→lt}
use Rattle.grammar.specs.Depth.{opening, depth, Within, TooDeep}
use Rattle.grammar.proofs.Sets.{and_left, and_right}
use Rattle.meaning.specs.Deep.{too_deep, first_too_deep}

and_both : (a b : Bool) → T a → T b → T (a && b)
and_both true b t u = u
and_both false b t u = t

module _ (setting : ℕ) (kinds : ℕ → ℕ) where
  -- p is the first of t tokens that is too deep, or t
  pub record First (t p : ℕ) : Type 0 where
    pub within : p ≤ t
    pub before : (q : ℕ) → q < p → T (too_deep setting kinds q) → ⊥
    pub found : p < t → T (too_deep setting kinds p)

  first_next : (t p : ℕ) (x y : Bool) → (T x → p < t) → (T (not x) → t ≤ p) → (T y → T (too_deep setting kinds t)) →
      (T (too_deep setting kinds t) → T y) → First t p → First (suc t) (cond x p (cond y t (suc t)))
  first_next t p true y u v w z f = record { within = omega (arith, f.within); before = f.before; found = λ h. f.found (u tt) }
  first_next t p false true u v w z f = record {
    within = omega arith;
    before = λ q h. f.before q (omega (arith, v tt));
    found = λ h. w tt;
  }
  first_next t p false false u v w z f = record {
    within = omega arith;
    before = λ q h e. last q e (ltb q t) (ltb→lt q t) (nltb→le q t) h;
    found = λ h. absurd (omega arith);
  }
    where
      last : (q : ℕ) → T (too_deep setting kinds q) → (b : Bool) → (T b → q < t) → (T (not b) → t ≤ q) → q < suc t → ⊥
      last q e true i j h = f.before q (omega (arith, v tt, i tt)) e
      last q e false i j h = z (subst (λ (n : ℕ). T (too_deep setting kinds n)) (omega (arith, j tt)) e)

  pub first_is : (t : ℕ) → First t (first_too_deep setting kinds t)
  unfolding first_too_deep too_deep
  first_is zero = record { within = omega arith; before = λ q h. absurd (omega arith); found = λ h. absurd (omega arith) }
  first_is (suc t) =
      let p = first_too_deep setting kinds t in
      first_next t p (ltb p t) (too_deep setting kinds t) (ltb→lt p t) (nltb→le p t) (λ e. e) (λ e. e) (first_is t)

  -- there is one first
  not_less : {t p p' : ℕ} → First t p → First t p' → p < p' → ⊥
  not_less {t} {p} {p'} f f' h = f'.before p h (f.found (omega (arith, f'.within)))

  pub first_one : {t p : ℕ} → First t p → first_too_deep setting kinds t ≡ p
  first_one {t} {p} f =
      let q = first_too_deep setting kinds t in
      go q (first_is t) (ltb p q) (ltb q p) (ltb→lt p q) (ltb→lt q p) (nltb→le p q) (nltb→le q p)
    where
      go : (q : ℕ) → First t q → (x y : Bool) → (T x → p < q) → (T y → q < p) → (T (not x) → q ≤ p) → (T (not y) → p ≤ q) → q ≡ p
      go q g true y a b c d = absurd (not_less f g (a tt))
      go q g false true a b c d = absurd (not_less g f (b tt))
      go q g false false a b c d = omega (arith, c tt, d tt)

  none_too_deep : (j q : ℕ) → Within kinds setting 0 j → q < j → T (too_deep setting kinds q) → ⊥
  unfolding too_deep Within
  none_too_deep j q w h e =
      let o = and_left (opening (kinds q)) (leb setting (depth kinds q)) e in
      let l = leb→le setting (depth kinds q) (and_right (opening (kinds q)) (leb setting (depth kinds q)) e) in
      omega (arith, w q (omega arith) h o)

  -- the relation's first is the function's
  pub first_relation : {t q : ℕ} → q < t → TooDeep kinds setting q → first_too_deep setting kinds t ≡ q
  unfolding too_deep
  first_relation {t} {q} h d =
      first_one (record {
        within = omega arith;
        before = λ k l. none_too_deep q k d.before l;
        found = λ l. and_both (opening (kinds q)) (leb setting (depth kinds q)) d.opens (le→leb setting (depth kinds q) (omega (arith, d.full)));
      })

  -- where none is too deep before j, the first is not before j
  pub first_after : {t j : ℕ} → j ≤ t → Within kinds setting 0 j → j ≤ first_too_deep setting kinds t
  first_after {t} {j} h w =
      let p = first_too_deep setting kinds t in
      go p (first_is t) (ltb p j) (ltb→lt p j) (nltb→le p j)
    where
      go : (p : ℕ) → First t p → (x : Bool) → (T x → p < j) → (T (not x) → j ≤ p) → j ≤ p
      go p f true a b = absurd (none_too_deep j p w (a tt) (f.found (omega (arith, a tt))))
      go p f false a b = b tt

  -- and what stands before the first is within the setting
  pub first_within : (t j : ℕ) → j ≤ first_too_deep setting kinds t → Within kinds setting 0 j
  unfolding too_deep Within
  first_within t j h q i l o = go (leb setting (depth kinds q)) (λ e. e) (nleb→lt setting (depth kinds q))
    where
      go : (x : Bool) → (T x → T (leb setting (depth kinds q))) → (T (not x) → depth kinds q < setting) → depth kinds q < setting
      go true a b =
          absurd ((first_is t).before q (omega arith) (and_both (opening (kinds q)) (leb setting (depth kinds q)) o (a tt)))
      go false a b = b tt

-- a larger setting never brings the first forward
pub first_grows : (small large : ℕ) (kinds : ℕ → ℕ) (t : ℕ) → small ≤ large → first_too_deep small kinds t ≤ first_too_deep large kinds t
unfolding too_deep
first_grows small large kinds t h =
    go (first_too_deep small kinds t) (first_too_deep large kinds t) (first_is small kinds t) (first_is large kinds t)
  where
    less_deep : (q : ℕ) → T (too_deep large kinds q) → T (too_deep small kinds q)
    less_deep q e =
        let l = leb→le large (depth kinds q) (and_right (opening (kinds q)) (leb large (depth kinds q)) e) in
        and_both (opening (kinds q)) (leb small (depth kinds q)) (and_left (opening (kinds q)) (leb large (depth kinds q)) e)
        (le→leb small (depth kinds q) (omega arith))

    go : (p q : ℕ) → First small kinds t p → First large kinds t q → p ≤ q
    go p q f g = pick (ltb q p) (ltb→lt q p) (nltb→le q p)
      where
        pick : (x : Bool) → (T x → q < p) → (T (not x) → p ≤ q) → p ≤ q
        pick true a b = absurd (f.before q (a tt) (less_deep q (g.found (omega (arith, f.within, a tt)))))
        pick false a b = b tt
