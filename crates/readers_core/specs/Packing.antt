-- A reader's state goes into one number and back. By the cases of a stop and the arithmetic of the halves. Assumes nothing.
use Rattle.std.proofs.Common.{◌≡◌, ℕ, ◌≤◌, ◌%◌, T, not, eqb, ltb, ◌⊎◌, inl, inr, arith, le-ltb, lt-ltb, eq-eqb, ne_eqb, eqb→eq, ltb→lt, nltb→le}
use lib.Dec.{T_not}
use Rattle.prediction.proofs.Sets.{decide}
use Rattle.readers_core.specs.Reading.{packed, view, stop, step, deep_rest}

pub packed_view : (s : ℕ) → packed (view s) ≡ s
packed_view s = go (decide (ltb s stop))
  where
    stopped : stop ≤ s → T (eqb (s % step) deep_rest) ⊎ T (not (eqb (s % step) deep_rest)) → packed (view s) ≡ s
    stopped l (inl u) =
        let e = eqb→eq (s % step) deep_rest u in
        rw (le-ltb s stop l, eq-eqb (s % step) deep_rest e) (omega (arith, l))
    stopped l (inr u) =
        let n = λ (e : s % step ≡ deep_rest). T_not (eqb (s % step) deep_rest) u (rw (eq-eqb (s % step) deep_rest e) tt) in
        rw (le-ltb s stop l, ne_eqb (s % step) deep_rest n) (omega (arith, l))

    go : T (ltb s stop) ⊎ T (not (ltb s stop)) → packed (view s) ≡ s
    go (inl u) = rw (lt-ltb s stop (ltb→lt s stop u)) (omega arith)
    go (inr u) = let l = nltb→le s stop u in stopped l (decide (eqb (s % step) deep_rest))
