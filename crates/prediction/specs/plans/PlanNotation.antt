-- Plans as they are written by hand: as rules are in the papers, with `make` where what was read so far becomes a node.
-- Definitions alone.
use Rattle.std.specs.Prelude.{ℕ, zero, suc}
use Prim.Native.String.{String}
use mathlib.Core.List.{List, [], ◌∷◌}
use Rattle.grammar.specs.Notation.{token_names, place, places}
use Rattle.prediction.specs.plans.Plan.{Plan, token, call, wrap, seq, alt, skip, many}
use Rattle.prediction.specs.plans.Planning.{grouped, Sketch}

infix 60 `◌
infix 55 ◌*
infixr 40 ◌▸◌
infixr 30 ◌∣◌
pub data Drawn : Type 0 where
  `◌ : String → Drawn
  <◌> : String → Drawn
  make : String → Drawn
  ◌▸◌ : Drawn → Drawn → Drawn
  ◌∣◌ : Drawn → Drawn → Drawn
  ⟦◌⟧ : Drawn → Drawn
  ◌* : Drawn → Drawn

-- the plan of a rule as it is drawn, with the names of the rules that it opens where they stand first
pub data Draft : Type 0 where
  draft : (rule : String) (opening : List String) → Drawn → Draft

abbrev pub called : (token rule : ℕ) → Plan
called zero r = call r
called (suc k) r = token (suc k)

module _ (kind : String → ℕ) (rules : List String) where
  unfoldable pub drawn : Drawn → Plan
  drawn (` w) = token (kind w)
  drawn (< w >) = called (place w token_names) (place w rules)
  drawn (make w) = wrap (place w rules)
  drawn (a ▸ b) = seq (drawn a) (drawn b)
  drawn (a ∣ b) = alt (drawn a) (drawn b)
  drawn (⟦ a ⟧) = alt (drawn a) skip
  drawn (a *) = many (drawn a)

  unfoldable pub sketch : Draft → Sketch
  unfolding drawn grouped
  sketch (draft r os p) = record { rule = place r rules; opens = places os rules; follows = grouped (drawn p) }

  unfoldable pub sketch_each : List Draft → List Sketch
  unfolding sketch
  sketch_each [] = []
  sketch_each (d ∷ ds) = sketch d ∷ sketch_each ds
