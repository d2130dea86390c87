-- The unary operators, and the binary ones by their level: the rules from or_expr to mult_expr, the loosest first.
-- Assumes nothing: these are definitions.
use Rattle.std.specs.Prelude.{Option, Some, None, ltb, ℕ, ◌+◌, ◌-◌, List, [], ◌∷◌, Bool, true, false, cond, ◌≡◌, get_or}
use Rattle.kinds.specs.Lists.{kinds_of, only}
use Rattle.grammar.specs.Names.{rule}
use Rattle.grammar.specs.Sets.{elem}
use Rattle.prediction.specs.plans.Plan.{Plan, token, call, wrap, seq, alt, skip}
use Rattle.prediction.specs.Sets.{row}
use Rattle.readers_core.specs.Course.{one}
use Rattle.readers_core.specs.Notation.{<◌>}
use Rattle.readers_core.specs.Reading.{State, Flat}

-- the unary operators
abbrev pub signs : List ℕ
signs = kinds_of ("-" ∷ "+" ∷ "~" ∷ [])

-- the sign of an operand is read where it has one, and else nothing
pub record Signs (ks : List ℕ) (signed : Bool) (s s' : State) : Type 0 where
  pub reads : signed ≡ true → Flat one ks < "unary_operator" > s s'
  pub stays : signed ≡ false → s' ≡ s

-- the first level and the last, and the rule of their operands
abbrev pub loosest : ℕ
loosest = rule "or_expr"

abbrev pub tightest : ℕ
tightest = rule "mult_expr"

abbrev pub operand : ℕ
operand = rule "unary_expr"

-- the operators of level n
unfoldable pub operators : ℕ → List ℕ
operators n =
    get_or (only "|" ∷ only "^" ∷ only "&" ∷ kinds_of (">>" ∷ "<<" ∷ []) ∷ kinds_of ("+" ∷ "-" ∷ []) ∷
    kinds_of ("*" ∷ "/" ∷ "%" ∷ []) ∷ []) (n - loosest) []

-- one of the operators, and p behind it
unfoldable pub one_before : List ℕ → Plan → Plan
one_before [] p = skip
one_before (k ∷ []) p = seq (token k) p
one_before (k ∷ (l ∷ ls)) p = alt (seq (token k) p) (one_before (l ∷ ls) p)

-- a further operand of level n, with which all before it becomes a node
unfoldable pub further_operand : ℕ → Plan
unfolding operators one_before
further_operand n = seq (one_before (operators n) (call (n + 1))) (wrap n)

-- the first of these levels that has the operator
unfoldable pub first_with : ℕ → List ℕ → ℕ
unfolding operators elem
first_with k [] = 0
first_with k (n ∷ ns) = cond (elem k (operators n)) n (first_with k ns)

-- the level that a kind is an operator of, 0 where it is of none
unfoldable pub level_of : ℕ → ℕ
unfolding first_with row
level_of k = first_with k (row loosest (operand - loosest))

-- the level, where it is of one
abbrev pub some_level : ℕ → Option ℕ
some_level n = cond (ltb 0 n) (Some n) None
