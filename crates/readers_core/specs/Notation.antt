-- Plans in the notation of the rules: terminals and nonterminals by their spelling, resolved by computation.
-- Assumes nothing: these are definitions.
use Rattle.std.specs.Prelude.{ℕ}
use Prim.Native.String.{String}
use Rattle.kinds.specs.Kinds.{kind_of}
use Rattle.grammar.specs.Names.{rule}
use Rattle.grammar.specs.Notation.{place, token_names}
use Rattle.prediction.specs.plans.Plan.{Plan, token, group, call, wrap, seq, alt, skip, many}
use Rattle.prediction.specs.plans.PlanNotation.{called}

infix 60 `◌
infix 55 ◌*
infix 50 ◌⟨◌⟩◌
infixr 40 ◌▸◌
infixr 30 ◌∣◌
-- a keyword or mark, and a rule or another token
abbrev pub `◌ : String → Plan
` w = token (kind_of w)

abbrev pub <◌> : String → Plan
< w > = called (place w token_names) (rule w)

-- what was read so far becomes a node of the rule
abbrev pub make : String → Plan
make w = wrap (rule w)

-- one after the other, either, left out or not, as many as there are, between an opening mark and its closing one
abbrev pub ◌▸◌ : Plan → Plan → Plan
a ▸ b = seq a b

abbrev pub ◌∣◌ : Plan → Plan → Plan
a ∣ b = alt a b

abbrev pub ⟦◌⟧ : Plan → Plan
⟦ a ⟧ = alt a skip

abbrev pub ◌* : Plan → Plan
a * = many a

abbrev pub ◌⟨◌⟩◌ : String → Plan → String → Plan
o ⟨ a ⟩ c = group (kind_of o) a (kind_of c)

-- a use of rule r behind a comma, as many of these as there are, and a list
abbrev pub behind_comma : (r : ℕ) → Plan
behind_comma r = ` "," ▸ call r

abbrev pub further : (r : ℕ) → Plan
further r = behind_comma r *

abbrev pub list_of : (r : ℕ) → Plan
list_of r = call r ▸ further r
