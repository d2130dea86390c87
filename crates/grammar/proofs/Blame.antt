-- A list has at most one place of blame.
-- The tokens up to the later of two would begin a derivable list, and so would those up to the earlier with one more.
use Prim.Native.Nat.{ℕ, suc, ◌≤◌, ◌<◌}
use mathlib.Core.Path.{◌≡◌}
use mathlib.Core.Bool.{Bool, true, false, not}
use mathlib.Core.List.{List}
use native.Mathlib.Omega.{arith}
use lib.Dec.{T, ltb, ltb→lt, nltb→le}
use Rattle.grammar.specs.Rule.{Edition}
use Rattle.grammar.specs.Blame.{Begins, Blame}

-- what begins a derivable list does so with fewer tokens too
pub shorter : {E : Edition} {ks : List ℕ} (m n : ℕ) → m ≤ n → Begins E ks n → Begins E ks m
shorter m n h b = record {
  whole = b.whole;
  forest = b.forest;
  derives = b.derives;
  long = omega (arith, b.long);
  starts = λ k l. b.starts k (omega arith);
}

not_before : {E : Edition} {ks : List ℕ} {q q' : ℕ} → Blame E ks q → Blame E ks q' → q < q' → ⊥
not_before {q = q} {q' = q'} b b' h = b.dead (omega (arith, b'.within)) (shorter (suc q) q' h b'.viable)

pub one_blame : (E : Edition) (ks : List ℕ) (q q' : ℕ) → Blame E ks q → Blame E ks q' → q' ≡ q
one_blame E ks q q' b b' = go (ltb q q') (ltb q' q) (ltb→lt q q') (ltb→lt q' q) (nltb→le q q') (nltb→le q' q)
  where
    go : (x y : Bool) → (T x → q < q') → (T y → q' < q) → (T (not x) → q' ≤ q) → (T (not y) → q ≤ q') → q' ≡ q
    go true y u v w z = absurd (not_before b b' (u tt))
    go false true u v w z = absurd (not_before b' b (v tt))
    go false false u v w z = let h = w tt in let h' = z tt in omega arith
