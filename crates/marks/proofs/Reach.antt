-- How far a mark reaches: past its first byte, and not past the end of the text.
-- Past the end stands no byte, and so none of a spelling. Assumes nothing.
use mathlib.Core.Path.{◌≡◌, refl}
use mathlib.Core.Bool.{Bool, true, false, cond}
use mathlib.Core.List.{List, [], ◌∷◌}
use Prim.Native.Nat.{ℕ, ◌≤◌, ◌<◌}
use native.Mathlib.Omega.{arith}
use borrow.Author.Tests.{ltb-true}
use lib.Dec.{ltb}
use lib.ListN.{length}
use Rattle.std.specs.Prelude.{Ok, Err}
use Rattle.kinds.specs.Kinds as kinds
use Rattle.text.specs.Bytes.{end, at}
use Rattle.text.specs.Lexemes.{mark}
use Rattle.text.specs.declared.Lexeme.TheVariants.{Token}
use Rattle.text.specs.declared.Fault.TheVariants.{NoLexeme}
use Rattle.text.proofs.Sizes.{Sized}
use Rattle.marks.proofs.Spellings.{no_second}
use Rattle.marks.proofs.Starts.{start_inside}

two_inside : (bs : List ℕ) → 0 < kinds.mark (at bs 0 ∷ at bs 1 ∷ []) → 2 ≤ length bs
two_inside [] h = absurd (omega (arith, no_second end))
two_inside (b ∷ []) h = absurd (omega (arith, no_second b))
two_inside (b ∷ c ∷ bs) h = omega arith

choice_sized : (a b : Bool) (two one most : ℕ) → (a ≡ true → 2 ≤ most) → (b ≡ true → 1 ≤ most) →
    Sized most (cond a (Ok (Token two 2)) (cond b (Ok (Token one 1)) (Err NoLexeme)))
choice_sized true b two one most h k = let l = h refl in omega arith
choice_sized false true two one most h k = let l = k refl in omega arith
choice_sized false false two one most h k = tt

pub mark_sized : (bs : List ℕ) → Sized (length bs) (mark bs)
unfolding mark
mark_sized bs =
    let two = kinds.mark (at bs 0 ∷ at bs 1 ∷ []) in
    let one = kinds.mark (at bs 0 ∷ []) in
    choice_sized (ltb 0 two) (ltb 0 one) two one (length bs) (λ e. two_inside bs (ltb-true 0 two e)) (start_inside bs)
