-- "Depth at a token is the number of ( { [ < before it not yet closed."
-- Assumes nothing: these are definitions.
use Rattle.std.specs.Prelude.{ℕ, zero, suc, ◌≤◌, ◌<◌, pred, ◌≡◌, Bool, true, false, [], ◌∷◌, T}
use Rattle.kinds.specs.Kinds.{kind_of}
use Rattle.grammar.specs.Sets.{elem}

unfoldable pub opening : ℕ → Bool
unfolding elem
opening k = elem k (kind_of "(" ∷ kind_of "{" ∷ kind_of "[" ∷ kind_of "<" ∷ [])

unfoldable pub closing : ℕ → Bool
unfolding elem
closing k = elem k (kind_of ")" ∷ kind_of "}" ∷ kind_of "]" ∷ kind_of ">" ∷ [])

-- the depth behind a token, from the depth n before it
unfoldable pub level : (opens closes : Bool) → ℕ → ℕ
level true c n = suc n
level false true n = pred n
level false false n = n

-- the depth at token q of the kinds s
unfoldable pub depth : (ℕ → ℕ) → ℕ → ℕ
unfolding level opening closing
depth s zero = 0
depth s (suc q) = level (opening (s q)) (closing (s q)) (depth s q)

-- no opening mark from i on, before j, takes depth past the setting n
unfoldable pub Within : (ℕ → ℕ) → (n i j : ℕ) → Type 0
Within s n i j = (q : ℕ) → i ≤ q → q < j → T (opening (s q)) → depth s q < n

-- q is the first opening mark that would take depth past the setting n
pub record TooDeep (s : ℕ → ℕ) (n q : ℕ) : Type 0 where
  pub opens : T (opening (s q))
  pub full : depth s q ≡ n
  pub before : Within s n 0 q
