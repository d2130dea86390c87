-- Token records one after the other inside a text: each takes a byte at least, and starts at the end of the one before or later.
-- Assumes nothing: a definition.
use Rattle.std.specs.Prelude.{List, [], ◌∷◌, ℕ, ◌+◌, ◌≤◌, ◌<◌}
use Rattle.replies.specs.Faults.{Fault}
use Rattle.text.specs.Tokens.{Tokens, tokens, fault, token}

-- from a byte on, and before another
pub data InOrder : (from to : ℕ) → List (List ℕ) → Type 0 where
  none : {from to : ℕ} → from ≤ to → InOrder from to []
  next : {from to kind first size : ℕ} {ts : List (List ℕ)} → from ≤ first → 0 < size → InOrder (first + size) to ts →
      InOrder from to (token kind first size ∷ ts)

-- the tokens of a text, where it has no fault
pub data Ordered (from to : ℕ) : Tokens → Type 0 where
  ordered : {ts : List (List ℕ)} → InOrder from to ts → Ordered from to (tokens ts)
  faulty : {f : Fault} → Ordered from to (fault f)
