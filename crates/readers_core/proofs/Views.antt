-- A reader's state in one number: what each step of the code does to its parts.
-- By the arithmetic of its halves. Assumes nothing.
use Rattle.std.proofs.Common.{◌≡◌, ℕ, ◌+◌, ◌-◌, ◌*◌, ◌/◌, ◌%◌, ◌<◌, ◌≤◌, Bool, true}
use Rattle.std.proofs.Common.{false, cond, eqb, sym, refl, ◌∙◌, arith, le-ltb, lt-ltb, ne_eqb}
use Rattle.tables.specs.Tables.{token_width}
use Rattle.readers_core.specs.Reading.{blaming, sunk, half, stop, step, deep_rest, view, ceiling}

-- more than any state: as many as two halves make
abbrev whole : ℕ
whole = half * half

pub goes_on : (s : ℕ) → s < stop → (view s).answer ≡ 0
goes_on s h = rw (lt-ltb s stop h) refl

pub going_at : (s : ℕ) → s < stop → (view s).at ≡ s % half
going_at s h = rw (lt-ltb s stop h) refl

-- what a stop answers, and where it stands
stop_answers : (s : ℕ) → stop ≤ s → (view s).answer ≡ cond (eqb (s % step) deep_rest) sunk blaming
stop_answers s h = rw (le-ltb s stop h) refl

pub stop_at : (s : ℕ) → stop ≤ s → (view s).at ≡ (s - stop) / step
stop_at s h = rw (le-ltb s stop h) refl

pub has_stopped : (s : ℕ) → stop ≤ s → (view s).answer ≡ 0 → ⊥
has_stopped s h e = go (eqb (s % step) deep_rest) (sym (stop_answers s h) ∙ e)
  where
    go : (x : Bool) → ◌≡◌ {A = ℕ} (cond x sunk blaming) 0 → ⊥
    go true u = omega (arith, u)
    go false u = omega (arith, u)

-- a token is blamed, or lies too deep
stops_blamed : (s : ℕ) → stop ≤ s → (s % step ≡ deep_rest → ⊥) → (view s).answer ≡ blaming
stops_blamed s h n = rw (le-ltb s stop h, ne_eqb (s % step) deep_rest n) refl

-- a token is taken
module _ (s : ℕ) (low : s < stop) (fits : token_width * (s % half) < half) where
  below : s + 1 < stop
  below = omega (arith, low, fits)

  pub onward_goes : (view (s + 1)).answer ≡ 0
  onward_goes = goes_on (s + 1) below

  pub onward_at : (view (s + 1)).at ≡ (view s).at + 1
  onward_at = omega (arith, going_at (s + 1) below, going_at s low, fits)

  pub onward_count : (view (s + 1)).count ≡ (view s).count
  onward_count = omega (arith, low, fits)

-- a stop stays also where a token is found at its low half, which no reader makes
module _ (s : ℕ) (high : stop ≤ s) (fits : token_width * (s % half) < half) where
  pub onward_answers : (view (s + 1)).answer ≡ (view s).answer
  onward_answers =
      stops_blamed (s + 1) (omega (arith, high)) (λ e. omega (arith, e, fits))
      ∙ sym (stops_blamed s high (λ e. omega (arith, e, fits)))

  pub onward_there : (view (s + 1)).at ≡ (view s).at
  onward_there = stop_at (s + 1) (omega (arith, high)) ∙ omega (arith, stop_at s high, high, fits)

-- a record is counted
module _ (s : ℕ) (low : (view s).count < ceiling) where
  goes_below : s < stop
  goes_below = omega (arith, low)

  next_below : s + half < stop
  next_below = omega (arith, low)

  pub counted_goes : (view (s + half)).answer ≡ 0
  counted_goes = goes_on (s + half) next_below

  pub counted_at : (view (s + half)).at ≡ (view s).at
  counted_at = omega (arith, going_at (s + half) next_below, going_at s goes_below)

  pub counted_count : (view (s + half)).count ≡ (view s).count + 1
  counted_count = omega (arith, low)

  module _ (start : ℕ) (le : (view start).count ≤ (view s).count) where
    pub started_at : start % half ≡ (view start).at
    started_at = sym (going_at start (omega (arith, low, le)))

    -- and the records since a start are those that the difference counts
    pub counted_since : (view start).at ≤ (view s).at → {n : ℕ} → n < whole → (n + start) % whole ≡ s + half →
        (view n).count ≡ (view s).count + 1 - (view start).count
    counted_since le' h e = omega (arith, low, le, le', started_at, going_at s goes_below, h, e)
