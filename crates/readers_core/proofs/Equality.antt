-- What the comparison of two kinds, or rules, tells. By its answer. Assumes nothing.
use Rattle.std.proofs.Common.{◌≡◌, ℕ, Bool, true, false, T, not, eqb, sym, ◌∙◌, subst, eqb→eq, eq-eqb}
use lib.Dec.{T_not}

module _ {x k : ℕ} {r : Bool} (e : r ≡ eqb x k) where
  pub same : r ≡ true → x ≡ k
  same h = eqb→eq x k (subst (λ (b : Bool). T b) (sym h ∙ e) tt)

  pub differs : r ≡ false → x ≡ k → ⊥
  differs h q = T_not (eqb x k) (subst (λ (b : Bool). T (not b)) (sym h ∙ e) tt) (subst (λ (b : Bool). T b) (sym (eq-eqb x k q)) tt)
