-- A class of bytes on an interval: what a test over each number of the interval computes holds of every byte in it.
-- By induction on the interval's length. Assumes nothing.
use mathlib.Core.Path.{◌≡◌, refl, subst}
use mathlib.Core.Bool.{Bool, true, false, ◌&&◌, ◌||◌}
use mathlib.Core.List.{List}
use mathlib.Core.Logic.{⊎_elim}
use Prim.Native.Nat.{ℕ, zero, suc, ◌+◌, ◌-◌, ◌≤◌, ◌<◌}
use native.Mathlib.Nat.{eq-or-lt_of_le}
use native.Mathlib.Omega.{arith}
use lib.Dec.{T}
use mir.Val.{has_key}

-- two truth values are the same
abbrev pub agree : Bool → Bool → Bool
agree true b = b
agree false true = false
agree false false = true

pub agreed : (a b : Bool) → T (agree a b) → a ≡ b
agreed true true t = refl
agreed true false t = absurd t
agreed false true t = absurd t
agreed false false t = refl

-- the test passes at n numbers from lo on
abbrev pub every : (ℕ → Bool) → ℕ → ℕ → Bool
every test lo zero = true
every test lo (suc n) = test lo && every test (suc lo) n

pub and_left : (a b : Bool) → T (a && b) → T a
and_left true b t = tt
and_left false b t = t

pub and_right : (a b : Bool) → T (a && b) → T b
and_right true b t = t
and_right false b t = absurd t

pub every_at : (test : ℕ → Bool) (lo n : ℕ) → T (every test lo n) → {k : ℕ} → lo ≤ k → k < lo + n → T (test k)
every_at test lo zero t h l = absurd (omega arith)
every_at test lo (suc n) t {k} h l =
    ⊎_elim (λ (e : lo ≡ k). subst (λ (j : ℕ). T (test j)) e (and_left (test lo) (every test (suc lo) n) t))
    (λ (g : lo < k). every_at test (suc lo) n (and_right (test lo) (every test (suc lo) n) t) (omega arith) (omega arith)) (eq-or-lt_of_le h)

-- the class has one value on an interval
pub within : (class : ℕ → Bool) (value : Bool) (lo n : ℕ) → T (every (λ k. agree value (class k)) lo n) →
    (b : ℕ) → (lo ≤ b) × (b < lo + n) → value ≡ class b
within class value lo n t b h = agreed value (class b) (every_at (λ k. agree value (class k)) lo n t h.0 h.1)

pub or_else : (a b : Bool) → T (a || b) → (T a → ⊥) → T b
or_else true b t n = absurd (n tt)
or_else false b t n = t

-- the test passes from lo up to hi, which is apart, but at the keys
abbrev pub but_keys : List ℕ → (ℕ → Bool) → ℕ → ℕ → Bool
but_keys keys test lo hi = every (λ k. has_key keys k || test k) lo (hi - lo)

pub apart : (keys : List ℕ) (test : ℕ → Bool) (lo hi : ℕ) → T (but_keys keys test lo hi) →
    {b : ℕ} → (lo ≤ b) × (b < hi) → (T (has_key keys b) → ⊥) → T (test b)
apart keys test lo hi t {b} h no_key =
    or_else (has_key keys b) (test b) (every_at (λ k. has_key keys k || test k) lo (hi - lo) t h.0 (omega arith)) no_key
