-- What the test whether reading has stopped tells. By its cases. Assumes nothing.
use Rattle.std.proofs.Common.{◌≡◌, Bool, true, false, not, T, eqb, sym, ◌∙◌, subst, eq-eqb, eqb→eq}
use Rattle.readers_core.specs.Reading.{Reading, halted}

turned : (b : Bool) → not b ≡ false → T b
turned true e = tt
turned false e = subst (λ (b : Bool). T b) e tt

unturned : (b : Bool) → not b ≡ true → T b → ⊥
unturned true e u = subst (λ (b : Bool). T (not b)) e tt
unturned false e u = u

pub stopped_if : (s : Reading) {x : Bool} → x ≡ halted s → x ≡ true → s.answer ≡ 0 → ⊥
stopped_if s e h z =
    unturned (eqb s.answer 0) (sym e ∙ h) (subst (λ (b : Bool). T b) (sym (eq-eqb s.answer 0 z)) tt)

pub going_if : (s : Reading) {x : Bool} → x ≡ halted s → x ≡ false → s.answer ≡ 0
going_if s e h = eqb→eq s.answer 0 (turned (eqb s.answer 0) (sym e ∙ h))
