-- The places of a text's tokens grow with their numbers, and the end of the text is behind them all.
-- By induction on the tokens, which lie in the text in order and take a byte each at least.
use Prim.Native.Nat.{ℕ, zero, suc, ◌≤◌, ◌<◌}
use mathlib.Core.Path.{◌≡◌, subst}
use mathlib.Core.List.{List}
use native.Mathlib.Omega.{arith}
use lib.ListN.{length}
use Rattle.text.specs.Tokens.{Tokens, tokens, tokens_of}
use Rattle.tokens.specs.Order.{InOrder, none, next, Ordered, ordered}
use Rattle.tokens.proofs.Order.{tokens_ordered}
use Rattle.meaning.specs.Answer.{place}

-- no place is before the first token's, or after the end
inside : {from to : ℕ} {ts : List (List ℕ)} → InOrder from to ts → (q : ℕ) → q ≤ length ts → (from ≤ place to ts q) × (place to ts q ≤ to)
inside (none h) q l = (h, omega arith)
inside (next h s o) zero l = let e = inside o 0 (omega arith) in (h, omega (arith, e.0, e.1))
inside (next h s o) (suc q) l = let e = inside o q (omega arith) in (omega (arith, e.0), e.1)

growing : {from to : ℕ} {ts : List (List ℕ)} → InOrder from to ts → (p q : ℕ) → p < q → q ≤ length ts → place to ts p < place to ts q
growing (none h) p q l m = absurd (omega arith)
growing (next h s o) zero zero l m = absurd (omega arith)
growing (next h s o) zero (suc q) l m = let e = inside o q (omega arith) in omega (arith, e.0)
growing (next h s o) (suc p) zero l m = absurd (omega arith)
growing (next h s o) (suc p) (suc q) l m = growing o p q (omega arith) (omega arith)

list_of : {from to : ℕ} {ts : List (List ℕ)} → Ordered from to (tokens ts) → InOrder from to ts
list_of (ordered o) = o

pub places_grow : (text : List ℕ) (ts : List (List ℕ)) → tokens_of text ≡ tokens ts → (p q : ℕ) → p < q → q ≤ length ts →
    place (length text) ts p < place (length text) ts q
places_grow text ts e = growing (list_of (subst (λ (found : Tokens). Ordered 0 (length text) found) e (tokens_ordered text)))
