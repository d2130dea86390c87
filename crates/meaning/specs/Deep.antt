-- "The first opening mark that would take depth past the setting": its number, found from the front.
-- Assumes nothing: these are definitions. That it is the mark which grammar's relation `TooDeep` names is shown in proofs/Deep.antt.
use Rattle.std.specs.Prelude.{ℕ, zero, suc, Bool, ◌&&◌, cond, leb, ltb}
use Rattle.grammar.specs.Depth.{opening, depth}

-- the mark number q opens, and depth there is at the setting already
unfoldable pub too_deep : (setting : ℕ) → (ℕ → ℕ) → ℕ → Bool
too_deep setting kinds q = opening (kinds q) && leb setting (depth kinds q)

-- the first too deep among the first t tokens; t where there is none
unfoldable pub first_too_deep : (setting : ℕ) → (ℕ → ℕ) → ℕ → ℕ
unfolding too_deep
first_too_deep setting kinds zero = 0
first_too_deep setting kinds (suc t) =
    cond (ltb (first_too_deep setting kinds t) t) (first_too_deep setting kinds t)
    (cond (too_deep setting kinds t) t (suc t))
