-- A token table read as a list of records: the kinds and the places that the readers see are those of its first records.
-- By induction on the count of records. Assumes nothing.
use Prim.Native.Nat.{ℕ, zero, suc, ◌+◌, ◌*◌, ◌≤◌, ◌<◌}
use mathlib.Core.Path.{◌≡◌, refl, ap, sym, ◌∙◌}
use mathlib.Core.List.{List, [], ◌∷◌, map}
use native.Mathlib.Omega.{arith}
use native.Mathlib.Nat.{add-zero, zero-add, suc-add, mul-zero, mul-suc}
use lib.ListN.{length, get_or, take, drop, length-drop}
use lib.Seq.{get_or-take, get_or-drop, take-nil}
use Rattle.meaning.specs.Answer.{place}
use Rattle.meaning.specs.Calls.{first_records}
use Rattle.meaning.specs.Sense.{kind}
use Rattle.readers_core.specs.Reading.{kind_at}
use Rattle.tables.specs.Tables.{token_width, token_first}
use Rattle.tree.specs.Conclusion.{place_in}

-- inside a list it does not matter what stands past its end
pub getD_inside : (l : List ℕ) (i d e : ℕ) → i < length l → get_or l i d ≡ get_or l i e
getD_inside [] i d e h = absurd (omega arith)
getD_inside (x ∷ l) zero d e h = refl
getD_inside (x ∷ l) (suc i) d e h = getD_inside l i d e (omega arith)

pub length_records : (width n : ℕ) (l : List ℕ) → length (first_records width n l) ≡ n
unfolding first_records
length_records width zero l = refl
length_records width (suc n) l = ap suc (length_records width n (drop width l))

drop_take : (a m : ℕ) (l : List ℕ) → drop a (take (a + m) l) ≡ take m (drop a l)
drop_take zero m l = ap (λ (k : ℕ). take k l) (zero-add m)
drop_take (suc a) m [] = rw (take-nil {A = ℕ} (suc a + m), take-nil {A = ℕ} m)
drop_take (suc a) m (x ∷ l) = rw (suc-add a m) (drop_take a m l)

-- number k of each record, the q-th: what stands past the last record is the default
column : (width k : ℕ) → k < width → (d e n : ℕ) (l : List ℕ) → width * n ≤ length l → (q : ℕ) →
    get_or (take (width * n) l) (width * q + k) d ≡ get_or (map (λ t. get_or t k e) (first_records width n l)) q d
unfolding first_records
column width k h d e zero l m q = rw (mul-zero width)
column width k h d e (suc n) l m zero =
    let s = mul-suc width n in
    let z : width * 0 + k ≡ k = omega (arith, mul-zero width) in
    ap (λ (i : ℕ). get_or (take (width * suc n) l) i d) z ∙ get_or-take (width * suc n) l k d (omega arith)
    ∙ getD_inside l k d e (omega arith) ∙ sym (get_or-take width l k e h)
column width k h d e (suc n) l m (suc q) =
    let s = mul-suc width n in
    let t = mul-suc width q in
    let i : width * suc q + k ≡ width + (width * q + k) = omega arith in
    let j : width * suc n ≡ width + width * n = omega arith in
    let r = length-drop width l in
    rw (i, j) (sym (get_or-drop width (take (width + width * n) l) (width * q + k) d)
    ∙ ap (λ (z : List ℕ). get_or z (width * q + k) d) (drop_take width (width * n) l)
    ∙ column width k h d e n (drop width l) (omega arith) q)

module _ (n : ℕ) (l : List ℕ) (m : token_width * n ≤ length l) where
  -- the kinds
  pub kinds_listed : (q : ℕ) → kind_at (take (token_width * n) l) q ≡ get_or (map kind (first_records token_width n l)) q 0
  kinds_listed q =
      ap (λ (i : ℕ). get_or (take (token_width * n) l) i 0) (sym (add-zero (token_width * q)))
      ∙ column token_width 0 (omega arith) 0 0 n l m q

  -- the places
  pub places_listed : (text q : ℕ) → place_in (take (token_width * n) l) text q ≡ place text (first_records token_width n l) q
  places_listed text q = column token_width token_first (omega arith) text 0 n l m q
