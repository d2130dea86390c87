-- The bytes of a class in a row, as a loop passes them one by one.
-- By induction on the text. Assumes nothing.
use mathlib.Core.Path.{◌≡◌, refl, sym, ap, ◌∙◌}
use mathlib.Core.Bool.{Bool, true, false, not, cond}
use mathlib.Core.List.{List, [], ◌∷◌}
use Prim.Native.Nat.{ℕ, zero, suc, ◌+◌, ◌≤◌, ◌<◌}
use native.Mathlib.Omega.{arith}
use lib.ListN.{length, get_or, drop}
use lib.Dec.{ltb}
use borrow.Author.Tests.{ltb-false}
use Rattle.std.specs.List.{position_or_len}
use Rattle.std.specs.Option.{unwrap_or}
use Rattle.std.specs.Prelude.{Some, None}
use Rattle.std.proofs.lemmas.List.{drop-drop, get_or-drop, length-drop}
use Rattle.text.specs.Bytes.{at, run}

-- inside a text it does not matter what stands past its end
pub at_inside : (bs : List ℕ) (n : ℕ) → n < length bs → get_or bs n 0 ≡ at bs n
at_inside [] n h = absurd (omega arith)
at_inside (b ∷ bs) zero h = refl
at_inside (b ∷ bs) (suc n) h = at_inside bs n (omega arith)

-- what a test says of the byte that the code reads, it says of the definitions' byte
pub seen : (bs : List ℕ) {n : ℕ} → n < length bs → {B : Type 0} (f : ℕ → B) {r v : B} → r ≡ f (get_or bs n 0) → r ≡ v → f (at bs n) ≡ v
seen bs {n} h f e t = sym (ap f (at_inside bs n h)) ∙ sym e ∙ t

-- the first byte of what is left from place k on, and what is left behind it
pub record Front (bs : List ℕ) (k b : ℕ) (rest : List ℕ) : Type 0 where
  pub inside : k < length bs
  pub byte : b ≡ get_or bs k 0
  pub behind : rest ≡ drop (k + 1) bs

pub front : (bs : List ℕ) (k : ℕ) {b : ℕ} {rest : List ℕ} → drop k bs ≡ b ∷ rest → Front bs k b rest
front bs k e = record {
  inside = omega (arith, ap length e, length-drop k bs);
  byte = sym (ap (λ (l : List ℕ). get_or l 0 0) e) ∙ get_or-drop k bs 0 0 ∙ ap (λ (n : ℕ). get_or bs n 0) (omega arith);
  behind = sym (ap (drop 1) e) ∙ drop-drop 1 k bs;
}

-- one byte of the class more
run_more : (class : ℕ → Bool) (b : ℕ) (bs : List ℕ) → class b ≡ true → run class (b ∷ bs) ≡ suc (run class bs)
unfolding run
run_more class b bs e = rw e

run_none : (class : ℕ → Bool) (b : ℕ) (bs : List ℕ) → class b ≡ false → run class (b ∷ bs) ≡ 0
unfolding run
run_none class b bs e = rw e

-- no run where another byte stands, and a run of one where another stands next
pub run_none_at : (class : ℕ → Bool) (bs : List ℕ) (n : ℕ) → class (at bs n) ≡ false → run class (drop n bs) ≡ 0
unfolding run
run_none_at class [] zero e = refl
run_none_at class [] (suc n) e = refl
run_none_at class (b ∷ bs) zero e = run_none class b bs e
run_none_at class (b ∷ bs) (suc n) e = run_none_at class bs n e

pub run_one_at : (class : ℕ → Bool) (bs : List ℕ) (n : ℕ) → n < length bs → class (at bs n) ≡ true → class (at bs (suc n)) ≡ false →
    run class (drop n bs) ≡ 1
run_one_at class [] n h e f = absurd (omega arith)
run_one_at class (b ∷ bs) zero h e f = run_more class b bs e ∙ ap suc (run_none_at class bs 0 f)
run_one_at class (b ∷ bs) (suc n) h e f = run_one_at class bs n (omega arith) e f

-- a run is no longer than the text
run_step : (more : Bool) {n m : ℕ} → n ≤ m → cond more (suc n) 0 ≤ suc m
run_step true h = omega arith
run_step false h = omega arith

pub run_within : (class : ℕ → Bool) (bs : List ℕ) → run class bs ≤ length bs
unfolding run
run_within class [] = omega arith
run_within class (b ∷ bs) = run_step (class b) (run_within class bs)

-- the first byte that is not of the class ends the run, or the end of the text
ended_at : (class : ℕ → Bool) (bs : List ℕ) → position_or_len (λ b. not (class b)) bs ≡ run class bs
unfolding run
ended_at class [] = refl
ended_at class (b ∷ bs) = go (class b) (ended_at class bs)
  where
    go : (x : Bool) → position_or_len (λ b. not (class b)) bs ≡ run class bs →
        cond (not (not x)) (1 + position_or_len (λ b. not (class b)) bs) 0 ≡ cond x (suc (run class bs)) 0
    go true next = omega arith
    go false next = refl

place_or_all : (r n : ℕ) → r ≤ n → unwrap_or (cond (ltb r n) (Some r) None) n ≡ r
place_or_all r n h = go (ltb r n) refl
  where
    go : (x : Bool) → ltb r n ≡ x → unwrap_or (cond x (Some r) None) n ≡ r
    go true e = refl
    go false e = let l = ltb-false r n e in omega arith

pub run_found : (class : ℕ → Bool) (bs : List ℕ) →
    (let place = position_or_len (λ b. not (class b)) bs in unwrap_or (cond (ltb place (length bs)) (Some place) None) (length bs)) ≡ run class bs
run_found class bs = rw (ended_at class bs) (place_or_all (run class bs) (length bs) (run_within class bs))
