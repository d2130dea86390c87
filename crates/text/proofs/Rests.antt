-- The rest of a text from a place on, and the places at which a byte stands.
-- A part that is lent to its end is the whole rest; past the end stands no byte. Assumes nothing.
use mathlib.Core.Path.{◌≡◌, ap, ◌∙◌}
use mathlib.Core.Bool.{Bool}
use mathlib.Core.List.{List, [], ◌∷◌}
use Prim.Native.Nat.{ℕ, zero, suc, ◌+◌, ◌-◌, ◌≤◌, ◌<◌}
use native.Mathlib.Omega.{arith}
use lib.ListN.{length, take, drop, length-drop, get_or-eq_default}
use lib.Seq.{take_all}
use Rattle.text.specs.Bytes.{end, at, run}
use Rattle.text.proofs.Runs.{run_within}

-- the code's `&bs[n..]` is the rest from place n on
pub rest : (bs : List ℕ) (n : ℕ) → take (length bs - n) (drop n bs) ≡ drop n bs
rest bs n = take_all (length bs - n) (drop n bs) (simp length-drop (omega arith))

-- what the code counts in it is the run from place n on, which ends in the text
pub record Counted (class : ℕ → Bool) (bs : List ℕ) (n size : ℕ) : Type 0 where
  pub is_run : size ≡ run class (drop n bs)
  pub fits : n + size ≤ length bs

pub counted : (class : ℕ → Bool) (bs : List ℕ) {n size : ℕ} → n ≤ length bs → size ≡ run class (take (length bs - n) (drop n bs)) →
    Counted class bs n size
counted class bs {n} h e =
    let is_run = e ∙ ap (run class) (rest bs n) in
    record { is_run = is_run; fits = omega (arith, run_within class (drop n bs), length-drop n bs) }

-- where a byte stands, the text has not ended
pub byte_inside : (bs : List ℕ) (n : ℕ) → at bs n < end → n < length bs
byte_inside [] n h = absurd (omega arith)
byte_inside (b ∷ bs) zero h = omega arith
byte_inside (b ∷ bs) (suc n) h = let l = byte_inside bs n h in omega arith

pub past_end : (bs : List ℕ) {n : ℕ} → length bs ≤ n → at bs n ≡ end
past_end bs h = get_or-eq_default bs end h
