-- Marks by their spelling: a byte that is no mark has no kind, and no two bytes that differ are a mark.
-- The first is a test computed at every byte; the second goes through the spellings, which have one byte or two. Assumes nothing.
use mathlib.Core.Path.{◌≡◌, refl, ap, sym, ◌∙◌}
use mathlib.Core.Bool.{Bool, true, false, ◌&&◌, true≢false}
use mathlib.Core.List.{List, [], ◌∷◌}
use Prim.Native.Char.{code}
use Prim.Native.Nat.{ℕ, ◌≤◌, ◌<◌}
use native.Mathlib.Omega.{arith}
use lib.Dec.{T, eqb, eqb→eq, ltb}
use borrow.Author.Tests.{eqb-true, lt-ltb, ltb-false}
use mir.Val.{has_key}
use Rattle.std.specs.Prelude.{Option, Some, None}
use Rattle.std.specs.Option.{is_some, unwrap_or}
use Rattle.kinds.specs.Kinds.{mark}
use Rattle.marks.specs.Starts.{kind_of}
use Rattle.text.specs.Bytes.{end}
use Rattle.text.proofs.Ranges as ranges
use Rattle.text.proofs.Ranges.{but_keys, or_else}

-- what the last arm of a `match` knows where each arm before it has one key, the last of these first
abbrev pub NoneOf : List ℕ → ℕ → Type 0
NoneOf [] b = Unit
NoneOf (k ∷ ks) b = NoneOf ks b × (b ≡ k → ⊥)

no_key : (keys : List ℕ) (b : ℕ) → NoneOf keys b → T (has_key keys b) → ⊥
no_key [] b r t = t
no_key (k ∷ ks) b r t = no_key ks b r.0 (or_else (eqb k b) (has_key ks b) t (λ u. r.1 (sym (eqb→eq k b u))))

-- a byte apart from the keys has no value, where each byte from lo up to hi is a key or has none
pub apart : (value : ℕ → ℕ) (keys : List ℕ) (lo hi : ℕ) → T (but_keys keys (λ b. eqb (value b) 0) lo hi) →
    {b : ℕ} → (lo ≤ b) × (b < hi) → NoneOf keys b → 0 ≡ value b
apart value keys lo hi t {b} h r =
    sym (eqb→eq (value b) 0 (ranges.apart keys (λ b. eqb (value b) 0) lo hi t h (no_key keys b r)))

pub and_false : (a : Bool) → a && false ≡ false
and_false true = refl
and_false false = refl

-- no mark has a second byte past the end of the text
pub no_second : (x : ℕ) → 0 ≡ mark (x ∷ end ∷ [])
unfolding mark
no_second x = simp and_false

one_is_not : (a b : Bool) → (a ≡ true → b ≡ true → ⊥) → a && (b && true) ≡ false
one_is_not true true h = absurd (h refl refl)
one_is_not true false h = refl
one_is_not false b h = refl

-- two bytes that differ are no mark
pub differ : (x y : ℕ) → (x ≡ y → ⊥) → 0 ≡ mark (x ∷ y ∷ [])
unfolding mark
differ x y h =
    let not_twice : (k : ℕ) → eqb x k && (eqb y k && true) ≡ false =
    λ k. one_is_not (eqb x k) (eqb y k) (λ e f. h (eqb-true x k e ∙ sym (eqb-true y k f))) in
    simp (and_false, not_twice (code ":"), not_twice (code ">"), not_twice (code "<"))

-- a spelling is a mark exactly where it has a kind
pub no_kind : (w : List ℕ) → 0 ≡ mark w → None ≡ kind_of w
no_kind w e = rw (sym e) refl

pub some_kind : (w : List ℕ) {kind : ℕ} → 0 < kind → kind ≡ mark w → Some kind ≡ kind_of w
some_kind w {kind} h e = rw (sym e, lt-ltb 0 kind h) refl

pub record Marked (w : List ℕ) (kind : ℕ) : Type 0 where
  pub some : ltb 0 (mark w) ≡ true
  pub is : kind ≡ mark w

pub marked : (w : List ℕ) {kind : ℕ} → Some kind ≡ kind_of w → Marked w kind
marked w {kind} e = go (ltb 0 (mark w)) refl
  where
    go : (b : Bool) → ltb 0 (mark w) ≡ b → Marked w kind
    go true f =
        let found : kind_of w ≡ Some (mark w) = rw f refl in
        record { some = f; is = ap (λ (k : Option ℕ). unwrap_or k 0) (e ∙ found) }
    go false f =
        let found : kind_of w ≡ None = rw f refl in
        absurd (true≢false (ap is_some (e ∙ found)))

pub unmarked : (w : List ℕ) {found : Option ℕ} → kind_of w ≡ found → ((kind : ℕ) → found ≡ Some kind → ⊥) → mark w ≡ 0
unmarked w e none = go (ltb 0 (mark w)) refl
  where
    go : (b : Bool) → ltb 0 (mark w) ≡ b → mark w ≡ 0
    go true f =
        let found : kind_of w ≡ Some (mark w) = rw f refl in
        absurd (none (mark w) (sym e ∙ found))
    go false f = omega (arith, ltb-false 0 (mark w) f)
