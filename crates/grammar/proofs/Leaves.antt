-- The leaves of a derivation are the tokens in order.
-- By induction on the derivation: each step adds the kinds that it reads, behind those before.
use Prim.Native.Nat.{ℕ, zero, suc, ◌+◌}
use mathlib.Core.Path.{◌≡◌, refl, ap, sym, ◌∙◌}
use mathlib.Core.List.{List, [], ◌∷◌, ◌++◌, append_assoc, append-nil}
use native.Mathlib.Nat.{add-zero, zero-add, add-suc, suc-add}
use native.Mathlib.Omega.{arith}
use lib.ListN.{length, length-append}
use Rattle.grammar.specs.Forest.{Forest, end, leaf, node, leaves, width}
use Rattle.grammar.specs.Rule.{RightSide, Edition}
use Rattle.grammar.specs.Derivation.{kind_at, Derives, derive_terminal, derive_rule, derive_sequence}
use Rattle.grammar.specs.Derivation.{derive_left, derive_right, derive_nothing, derive_none, derive_more}
use Rattle.grammar.specs.Derivation.{Derivation}

-- the n kinds from place i on
unfoldable pub kinds_from : (ℕ → ℕ) → ℕ → ℕ → List ℕ
kinds_from s i zero = []
kinds_from s i (suc n) = s i ∷ kinds_from s (suc i) n

from_append : (s : ℕ → ℕ) (i n m : ℕ) → kinds_from s i (n + m) ≡ kinds_from s i n ++ kinds_from s (i + n) m
unfolding kinds_from
from_append s i zero m = rw (zero-add m, add-zero i)
from_append s i (suc n) m =
    rw (suc-add n m, add-suc i n, ← suc-add i n) (ap (λ (xs : List ℕ). s i ∷ xs) (from_append s (suc i) n m))

-- what is read from place i to place j
record Read (s : ℕ → ℕ) (i j : ℕ) (f g : Forest) : Type 0 where
  pub count : ℕ
  pub reaches : j ≡ i + count
  pub adds : leaves g ≡ leaves f ++ kinds_from s i count

read_none : (s : ℕ → ℕ) (i : ℕ) (f : Forest) → Read s i i f f
unfolding kinds_from
read_none s i f = record { count = 0; reaches = sym (add-zero i); adds = sym (append-nil (leaves f)) }

read_both : {s : ℕ → ℕ} {i m j : ℕ} {f h g : Forest} → Read s i m f h → Read s m j h g → Read s i j f g
read_both {s} {i} {m} {j} {f} {h} {g} x y = record {
  count = x.count + y.count;
  reaches = let a = x.reaches in let b = y.reaches in omega arith;
  adds = y.adds ∙ (rw (x.adds, from_append s i x.count y.count, append_assoc, x.reaches));
}

module _ {E : Edition} {s : ℕ → ℕ} where
  read : {e : RightSide} {i j : ℕ} {f g : Forest} → Derives E s e i j f g → Read s i j f g
  unfolding leaves kinds_from
  read (derive_terminal {i = i} {f = f} e) =
      record { count = 1; reaches = omega arith; adds = ap (λ (k : ℕ). leaves f ++ k ∷ []) (sym e) }
  read (derive_rule {f = f} d) =
      let x = read d in record
      { count = x.count; reaches = x.reaches; adds = ap (λ (xs : List ℕ). leaves f ++ xs) x.adds }
  read (derive_sequence a b) = read_both (read a) (read b)
  read (derive_left a) = read a
  read (derive_right a) = read a
  read (derive_nothing {i = i} {f = f}) = read_none s i f
  read (derive_none {i = i} {f = f}) = read_none s i f
  read (derive_more a b) = read_both (read a) (read b)

from_shift : (s : ℕ → ℕ) (i n : ℕ) → kinds_from s (suc i) n ≡ kinds_from (λ q. s (suc q)) i n
unfolding kinds_from
from_shift s i zero = refl
from_shift s i (suc n) = ap (λ (xs : List ℕ). s (suc i) ∷ xs) (from_shift s (suc i) n)

from_list : (ks : List ℕ) → kinds_from (kind_at ks) 0 (length ks) ≡ ks
unfolding kinds_from
from_list [] = refl
from_list (k ∷ ks) = ap (λ (xs : List ℕ). k ∷ xs) (from_shift (kind_at (k ∷ ks)) 0 (length ks) ∙ from_list ks)

pub leaves_are_tokens : (E : Edition) (ks : List ℕ) (g : Forest) → Derivation E ks g → leaves g ≡ ks
unfolding Derivation leaves
leaves_are_tokens E ks g d =
    let x = read d in
    let n : x.count ≡ length ks = let a = x.reaches in omega arith in
    x.adds ∙ (ap (λ (m : ℕ). kinds_from (kind_at ks) 0 m) n ∙ from_list ks)

pub width_leaves : (f : Forest) → width f ≡ length (leaves f)
unfolding width leaves
width_leaves end = refl
width_leaves (leaf f k) = let h = width_leaves f in let e = length-append (leaves f) (k ∷ []) in omega arith
width_leaves (node f r c) =
    let h = width_leaves f in
    let h' = width_leaves c in
    let e = length-append (leaves f) (leaves c) in
    omega arith
