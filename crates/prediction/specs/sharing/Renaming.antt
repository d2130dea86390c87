-- Rules under other numbers: the rules that a plan names, and the plan with each of them renamed.
-- Definitions alone.
use Rattle.std.specs.Prelude.{ℕ, Bool, true, ◌&&◌, List, T}
use Rattle.grammar.specs.Sets.{elem}
use Rattle.prediction.specs.plans.Plan.{Plan, token, group, call, wrap, seq, alt, skip, many}

-- each rule that the plan calls or makes a node of is in the set S
unfoldable pub Inside : (S : ℕ → Bool) → Plan → Type 0
Inside S (token k) = Unit
Inside S (group o b c) = Inside S b
Inside S (call n) = T (S n)
Inside S (wrap r) = T (S r)
Inside S (seq a b) = Inside S a × Inside S b
Inside S (alt a b) = Inside S a × Inside S b
Inside S skip = Unit
Inside S (many a) = Inside S a

-- the plan with the number of each rule changed
unfoldable pub renamed : (number : ℕ → ℕ) → Plan → Plan
renamed number (token k) = token k
renamed number (group o b c) = group o (renamed number b) c
renamed number (call n) = call (number n)
renamed number (wrap r) = wrap (number r)
renamed number (seq a b) = seq (renamed number a) (renamed number b)
renamed number (alt a b) = alt (renamed number a) (renamed number b)
renamed number skip = skip
renamed number (many a) = many (renamed number a)

-- the set of all numbers, and no number changed
abbrev pub any_rule : ℕ → Bool
any_rule n = true

abbrev pub as_it_is : ℕ → ℕ
as_it_is n = n

-- inside, as a test, where the set is a list
unfoldable pub inside : (S : List ℕ) → Plan → Bool
unfolding elem
inside S (token k) = true
inside S (group o b c) = inside S b
inside S (call n) = elem n S
inside S (wrap r) = elem r S
inside S (seq a b) = inside S a && inside S b
inside S (alt a b) = inside S a && inside S b
inside S skip = true
inside S (many a) = inside S a
