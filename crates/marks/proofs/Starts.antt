-- What the first byte says: where it starts a mark it stands inside the text and is in no other class; where not, there is no mark.
-- Past the end stands no byte, which starts no mark; a mark of two bytes is a byte twice, and that byte starts a mark. Assumes nothing.
use mathlib.Core.Path.{◌≡◌, refl, ap, sym, ◌∙◌}
use mathlib.Core.Bool.{Bool, true, false, not, ◌&&◌, true≢false}
use mathlib.Core.List.{List, [], ◌∷◌}
use Prim.Native.Char.{code}
use Prim.Native.Nat.{ℕ, ◌<◌}
use native.Mathlib.Omega.{arith}
use borrow.Author.Tests.{ne_eqb}
use lib.Dec.{T, eqb}
use lib.ListN.{length}
use Rattle.std.specs.Prelude.{Err}
use Rattle.kinds.specs.Kinds as kinds
use Rattle.text.specs.Bytes.{end, at}
use Rattle.text.specs.Lexemes.{mark}
use Rattle.text.specs.declared.Fault.TheVariants.{NoLexeme}
use Rattle.text.proofs.Ranges.{every, every_at}
use Rattle.marks.specs.Starts.{starts_mark}
use Rattle.marks.proofs.Spellings.{and_false}

pub start_inside : (bs : List ℕ) → starts_mark (at bs 0) ≡ true → 0 < length bs
unfolding kinds.mark
start_inside [] e = absurd (true≢false (sym e))
start_inside (b ∷ bs) e = omega arith

not_both : (a b : Bool) → T (not (a && b)) → a ≡ true → b ≡ false
not_both true true t e = absurd t
not_both true false t e = refl
not_both false b t e = absurd (true≢false (sym e))

-- a byte that starts a mark is not in the class, where that is so of each byte
pub no_other : (class : ℕ → Bool) → T (every (λ b. not (starts_mark b && class b)) 0 end) →
    {b : ℕ} → b < end → starts_mark b ≡ true → class b ≡ false
no_other class t {b} h = not_both (starts_mark b) (class b) (every_at (λ b. not (starts_mark b && class b)) 0 end t (omega arith) h)

-- a byte outside a class is none inside it
outside : (class : ℕ → Bool) (k x : ℕ) → class k ≡ true → class x ≡ false → eqb x k ≡ false
outside class k x e f = ne_eqb x k (λ h. true≢false (sym e ∙ ap class (sym h) ∙ f))

-- outside a class that has the three bytes which double, no mark of two bytes starts
pub no_two : (class : ℕ → Bool) (x y : ℕ) → class (code ":") ≡ true → class (code "<") ≡ true → class (code ">") ≡ true →
    class x ≡ false → kinds.mark (x ∷ y ∷ []) ≡ 0
unfolding kinds.mark
no_two class x y colon less greater e =
    simp (and_false, outside class (code ":") x colon e, outside class (code "<") x less e, outside class (code ">") x greater e)

pub no_mark : (bs : List ℕ) → starts_mark (at bs 0) ≡ false → Err NoLexeme ≡ mark bs
unfolding mark kinds.mark
no_mark bs e = sym (rw (no_two starts_mark (at bs 0) (at bs 1) refl refl refl e, e))
