-- What the answer tells that a test of the kinds gives, which a rule may start with: as choices and repetitions use it.
-- A kind of a list is any of it. Assumes nothing.
use Rattle.std.proofs.Common.{◌≡◌, ℕ, Bool, true, false, not, T, List, [], ◌∷◌, sym, ap, ◌∙◌, subst}
use Rattle.grammar.specs.Sets.{elem}
use Rattle.readers_core.proofs.Choosing.{Knows, among, except, any_elem, elem_any}

pub is_in : (ks : List ℕ) (x : ℕ) {r : Bool} → r ≡ elem x ks → r ≡ true → Knows (among ks) x
unfolding Knows
is_in ks x e h = elem_any ks x (subst (λ (b : Bool). T b) (sym h ∙ e) tt)

pub is_out : (ks : List ℕ) (x : ℕ) {r : Bool} → r ≡ elem x ks → r ≡ false → Knows (except (ks ∷ [])) x
unfolding Knows
is_out ks x e h = (tt, λ a. subst (λ (b : Bool). T b) (sym e ∙ h) (any_elem ks x a))

-- the same of an answer that is turned round
unnot : (b : Bool) {x : Bool} → not b ≡ x → b ≡ not x
unnot true e = ap not e
unnot false e = ap not e

pub is_in_not : (ks : List ℕ) (x : ℕ) {r : Bool} → r ≡ elem x ks → not r ≡ false → Knows (among ks) x
is_in_not ks x {r} e h = is_in ks x e (unnot r h)

pub is_out_not : (ks : List ℕ) (x : ℕ) {r : Bool} → r ≡ elem x ks → not r ≡ true → Knows (except (ks ∷ [])) x
is_out_not ks x {r} e h = is_out ks x e (unnot r h)
