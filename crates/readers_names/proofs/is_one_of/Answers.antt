-- `is_one_of` tells whether a kind is one of three.
-- Each test is one of them. Assumes nothing.
use Rattle.std.proofs.Common.{◌≡◌, Bool, true, false, ◌||◌, sym, refl, ◌∙◌}
use Rattle.grammar.specs.Sets.{elem}
use Rattle.readers_names.proofs.is_one_of.Goals as goal

or_none : (b : Bool) → b ≡ b || false
or_none true = refl
or_none false = refl

pub returns-then-eq : goal.returns-then-eq
unfolding elem
returns-then-eq c = let first = sym c.eq.ensures ∙ c.if-eq.true in rw first refl

pub returns-then-eq-2 : goal.returns-then-eq-2
unfolding elem
returns-then-eq-2 c =
    let first = sym c.eq.ensures ∙ c.if-eq.false in
    let second = sym c.eq-2.ensures ∙ c.if-eq-2.true in
    c.if-eq-2.true ∙ rw (first, second) refl

pub returns-else-eq-2 : goal.returns-else-eq-2
unfolding elem
returns-else-eq-2 c =
    let first = sym c.eq.ensures ∙ c.if-eq.false in
    let second = sym c.eq-2.ensures ∙ c.if-eq-2.false in
    c.eq-else-eq-2.ensures ∙ rw (first, second) (or_none _)
