-- What each level of binary operators is, by its number, and what the level of a kind tells.
-- The six levels are computed. Assumes nothing.
use Rattle.readers_core.proofs.Computing.{computing}
use Prim.Native.String.{String}
use Prim.Native.Nat.{ℕ, zero, suc, ◌+◌, ◌-◌, ◌≤◌, ◌<◌}
use native.Mathlib.Omega.{arith}
use mathlib.Core.Path.{◌≡◌, refl, sym, ap, subst, ◌∙◌}
use Rattle.std.proofs.Common.{le-ltb, lt-ltb}
use Rattle.std.specs.Prelude.{Option, Some, None}
use mathlib.Core.Bool.{Bool, true, false, ◌&&◌, cond, not}
use mathlib.Core.List.{[], ◌∷◌}
use mathlib.Core.Logic.{◌⊎◌, inl, inr, ⊎_elim}
use lib.Dec.{T, T_not, eqb, eqb→eq, leb, leb→le, ltb, ltb→lt, nltb→le}
use Rattle.kinds.specs.Kinds.{kind_of}
use Rattle.grammar.specs.Names.{rule}
use Rattle.grammar.specs.Sets.{elem}
use Rattle.prediction.proofs.Sets.{decide, and_left, and_right, eq→eqb, each_at}
use Rattle.prediction.specs.Sets.{row, each}
use Rattle.prediction.specs.plans.Plan.{Plan, token, call, wrap, seq, many}
use Rattle.readers_core.specs.Course.{one, table_in}
use Rattle.readers_core.specs.Reading.{IsKind, several, all_recorded, none_recorded}
use Rattle.readers_core.proofs.Choosing.{among, any_elem, any_row, except, is_over}
use Rattle.readers_core.proofs.Repetition.{repeats}
use Rattle.readers_core.proofs.Frames.{comes_to}
use Rattle.readers_expressions.specs.Levels.{loosest, tightest, operand, operators, one_before, further_operand}
use Rattle.readers_expressions.specs.Levels.{first_with, level_of, some_level}

-- an operator of level n with its right operand
abbrev pub operation : (n k : ℕ) → Plan
operation n k = seq (seq (token k) (call (n + 1))) (wrap n)

abbrev operating : (n k : ℕ) → Bool
operating n k = comes_to one (among (k ∷ [])) (further_operand n) (operation n k)

-- a kind is not less than the first operator and not more than the last
abbrev first_operator : ℕ
first_operator = kind_of "|"

abbrev last_operator : ℕ
last_operator = kind_of "%"

abbrev in_bounds : ℕ → Bool
in_bounds k = leb first_operator k && leb k last_operator

-- what a level is: its first operand, alone without a record, and further ones as long as its operators are next; these are
-- operators of no other level, and stand between the first and the last of all
pub record Level (n : ℕ) : Type 0 where
  pub plan : (table_in one).plan n ≡ seq (call (n + 1)) (seq (wrap n) (many (further_operand n)))
  pub alone : T (none_recorded one n (1 ∷ []))
  pub together : T (all_recorded one n several)
  pub goes_on : T (repeats (table_in one) (among (operators n)) (further_operand n))
  pub is_over : T (is_over (table_in one) (except (operators n ∷ [])) (further_operand n))
  pub turns : T (each (operating n) (operators n))
  pub own : T (each (λ k. eqb (level_of k) n) (operators n))
  pub within : T (each in_bounds (operators n))

pub apart : (m n : ℕ) → (m ≡ n) ⊎ (m ≡ n → ⊥)
apart m n = ⊎_elim (λ u. inl (eqb→eq m n u))
    (λ u. inr (λ e. T_not (eqb m n) u (eq→eqb m n e))) (decide (eqb m n))

at_each : (P : ℕ → Type 0) → P (rule "or_expr") → P (rule "xor_expr") → P (rule "and_expr") → P (rule "shift_expr") →
    P (rule "add_expr") → P (rule "mult_expr") → (n : ℕ) → loosest ≤ n → n ≤ tightest → P n
at_each P a b c d e f n h l =
    is "or_expr" a (λ m0. is "xor_expr" b (λ m1. is "and_expr" c (λ m2. is "shift_expr" d (λ m3. is "add_expr" e (λ m4.
    is "mult_expr" f (λ m5. absurd (omega arith)))))))
  where
    is : (w : String) → P (rule w) → ((n ≡ rule w → ⊥) → P n) → P n
    is w p q = ⊎_elim (λ u. subst P (sym u) p) q (apart n (rule w))

pub at_level : (n : ℕ) → loosest ≤ n → n ≤ tightest → Level n
unfolding computing elem operators one_before further_operand each comes_to level_of
at_level =
    at_each Level
    (record { plan = refl; alone = tt; together = tt; goes_on = tt; is_over = tt; turns = tt; own = tt; within = tt })
    (record { plan = refl; alone = tt; together = tt; goes_on = tt; is_over = tt; turns = tt; own = tt; within = tt })
    (record { plan = refl; alone = tt; together = tt; goes_on = tt; is_over = tt; turns = tt; own = tt; within = tt })
    (record { plan = refl; alone = tt; together = tt; goes_on = tt; is_over = tt; turns = tt; own = tt; within = tt })
    (record { plan = refl; alone = tt; together = tt; goes_on = tt; is_over = tt; turns = tt; own = tt; within = tt })
    (record { plan = refl; alone = tt; together = tt; goes_on = tt; is_over = tt; turns = tt; own = tt; within = tt })

-- an operator of a level is of no other, stands between the first and the last, and begins an operation of the level
module _ {n : ℕ} (x : ℕ) (l : Level n) (u : T (elem x (operators n))) where
  pub of_level : level_of x ≡ n
  of_level = eqb→eq (level_of x) n (each_at (λ k. eqb (level_of k) n) (operators n) x l.own u)

  between : (first_operator ≤ x) × (x ≤ last_operator)
  between =
      let h = each_at in_bounds (operators n) x l.within u in (
        leb→le first_operator x (and_left (leb first_operator x) (leb x last_operator) h),
        leb→le x last_operator (and_right (leb first_operator x) (leb x last_operator) h),
      )

  pub operates : T (operating n x)
  operates = each_at (operating n) (operators n) x l.turns u

-- the level of a kind is 0, or one that it is an operator of
pub record Found (n x : ℕ) : Type 0 where
  pub low : loosest ≤ n
  pub high : n ≤ tightest
  pub has : T (elem x (operators n))

first_found : (x a m : ℕ) → loosest ≤ a → a + m ≤ operand → (first_with x (row a m) ≡ 0) ⊎ Found (first_with x (row a m)) x
unfolding first_with row
first_found x a zero l h = inl refl
first_found x a (suc m) l h = go (elem x (operators a)) (λ u. u) (first_found x (suc a) m (omega arith) (omega arith))
  where
    go : (b : Bool) → (T b → T (elem x (operators a))) → {n : ℕ} → (n ≡ 0) ⊎ Found n x →
        (cond b a n ≡ 0) ⊎ Found (cond b a n) x
    go true u v = inr (record { low = l; high = omega arith; has = u tt })
    go false u v = v

level_found : (x : ℕ) → (level_of x ≡ 0) ⊎ Found (level_of x) x
unfolding level_of
level_found x = first_found x loosest (operand - loosest) (omega arith) (omega arith)

-- what that level is
pub level : {n x : ℕ} → Found n x → Level n
level {n} f = at_level n f.low f.high

pub leveled : (k x : ℕ) → k ≡ level_of x → loosest ≤ k → Found k x
leveled k x e low =
    ⊎_elim (λ z. absurd (omega (arith, e, z))) (λ f. subst (λ (n : ℕ). Found n x) (sym e) f) (level_found x)

pub operator_kind : (k x : ℕ) → k ≡ level_of x → loosest ≤ k → IsKind x
operator_kind k x e low =
    let f = leveled k x e low in omega (arith, between x (level f) f.has)

-- every level stands below that of operands
pub bounded : (x : ℕ) → level_of x < operand
bounded x = ⊎_elim (λ e. omega (arith, e)) (λ f. omega (arith, f.high)) (level_found x)

pub below_operand : (k x : ℕ) → k ≡ level_of x → k < operand
below_operand k x e = omega (arith, e, bounded x)

-- the kinds from one to another are of one level, by a computed test; outside of all operators a kind is of none
pub in_row : (n first last x : ℕ) → T (each (λ k. eqb n (level_of k)) (row first (suc (last - first)))) →
    first ≤ x → x ≤ last → n ≡ level_of x
in_row n first last x u h l =
    eqb→eq n (level_of x) (each_at (λ k. eqb n (level_of k)) (row first (suc (last - first))) x u
    (any_elem (row first (suc (last - first))) x (any_row first (last - first) x h (omega arith))))

pub outside : (x : ℕ) → (x < first_operator) ⊎ (last_operator < x) → 0 ≡ level_of x
outside x h = ⊎_elim sym (λ f. absurd (far (between x (level f) f.has))) (level_found x)
  where
    far : (first_operator ≤ x) × (x ≤ last_operator) → ⊥
    far b = ⊎_elim (λ u. omega (arith, u, b.0)) (λ u. omega (arith, u, b.1)) h

-- the number of a level, 0 for none; it is that of which the level was made
value : Option ℕ → ℕ
value None = 0
value (Some n) = n

value_is : (n : ℕ) → value (some_level n) ≡ n
unfolding value
value_is n = go (decide (ltb 0 n))
  where
    go : T (ltb 0 n) ⊎ T (not (ltb 0 n)) → value (some_level n) ≡ n
    go (inl u) = rw (lt-ltb 0 n (ltb→lt 0 n u)) refl
    go (inr u) = let l = nltb→le 0 n u in rw (le-ltb 0 n l) (omega arith)

pub no_level : (n : ℕ) {o : Option ℕ} → o ≡ None → o ≡ some_level n → n ≡ 0
unfolding value
no_level n i e = sym (ap value (sym i ∙ e) ∙ value_is n)

pub the_level : (n : ℕ) {k : ℕ} {o : Option ℕ} → o ≡ Some k → o ≡ some_level n → k ≡ n
unfolding value
the_level n i e = ap value (sym i ∙ e) ∙ value_is n
