-- Laws of record tables: lengths are kept, two goes of storing are one, and records that all fit stand in a row.
-- By induction on the list of records. Assumes nothing.
use mathlib.Core.Bool.{Bool, true, false, cond}
use mathlib.Core.List.{List, [], ◌∷◌, ◌++◌, append_assoc}
use mathlib.Core.Path.{◌≡◌, refl, ap, sym, subst, ◌∙◌}
use Prim.Native.Nat.{ℕ, suc, ◌+◌, ◌*◌, ◌-◌, ◌≤◌, ◌<◌}
use native.Mathlib.Nat.{add-zero, mul-zero, mul-suc, mul-div-le, mul-le-mul_left, le_trans, lt-mul-div-succ}
use borrow.Rule.Slice.PartMut.{put_mid}
use Rattle.std.proofs.lemmas.Slice.{put_mid-paste}
use native.Mathlib.Omega.{arith}
use borrow.Author.Tests.{le-leb, lt-leb}
use lib.Dec.{leb}
use lib.ListN.{length, take, drop, length-append, length-drop, take-append-drop}
use lib.Seq.{sets, sets-eq, length-sets, take_all, take_at, drop-append-add, drop-drop, length-take-le}
use Rattle.tables.specs.Tables.{capacity, put, store, row, front, Records, none, more}

drop_past : (p q : List ℕ) (i m : ℕ) → length p ≡ i → drop (i + m) (p ++ q) ≡ drop m q
drop_past p q i m e = subst (λ (k : ℕ). drop (k + m) (p ++ q) ≡ drop m q) e (drop-append-add p q m)

module _ (width : ℕ) where
  -- a record that fits
  pub put_fits : (t : List ℕ) (n : ℕ) (r : List ℕ) → width * n + width ≤ length t → sets t (width * n) r ≡ put width t n r
  unfolding put
  put_fits t n r h = simp (le-leb _ _ h)

  -- a record that does not
  pub put_full : (t : List ℕ) (n : ℕ) (r : List ℕ) → length t < width * n + width → t ≡ put width t n r
  unfolding put
  put_full t n r h = simp (lt-leb _ _ h)

  length_either : (b : Bool) (t : List ℕ) (n : ℕ) (r : List ℕ) → length (cond b (sets t (width * n) r) t) ≡ length t
  length_either true t n r = length-sets t (width * n) r
  length_either false t n r = refl

  pub length_put : (t : List ℕ) (n : ℕ) (r : List ℕ) → length (put width t n r) ≡ length t
  unfolding put
  length_put t n r = length_either (leb (width * n + width) (length t)) t n r

  pub length_store : (t : List ℕ) (n : ℕ) (rs : List (List ℕ)) → length (store width t n rs) ≡ length t
  unfolding store
  length_store t n [] = refl
  length_store t n (r ∷ rs) = length_store (put width t n r) (suc n) rs ∙ length_put t n r

  pub store_append : (t : List ℕ) (n : ℕ) (rs qs : List (List ℕ)) →
      store width t n (rs ++ qs) ≡ store width (store width t n rs) (n + length rs) qs
  unfolding store
  store_append t n [] qs = rw add-zero
  store_append t n (r ∷ rs) qs =
      store_append (put width t n r) (suc n) rs qs
      ∙ ap (λ (k : ℕ). store width (store width (put width t n r) (suc n) rs) k qs) (omega arith)

  -- one record more
  pub store_more : (t : List ℕ) (n : ℕ) (rs : List (List ℕ)) (r : List ℕ) → length rs ≡ n →
      store width t 0 (rs ++ r ∷ []) ≡ put width (store width t 0 rs) n r
  unfolding store
  store_more t n rs r e = store_append t 0 rs (r ∷ []) ∙ ap (λ (k : ℕ). put width (store width t 0 rs) k r) (omega arith)

  -- a record that fits, between what stood before it and after it
  put_between : (t : List ℕ) (n : ℕ) (r : List ℕ) → length r ≡ width → width * n + width ≤ length t →
      put width t n r ≡ (take (width * n) t ++ r) ++ drop (width * n + width) t
  put_between t n r e h =
      let i : width * n + length r ≡ width * n + width = ap (λ (k : ℕ). width * n + k) e in
      sym (put_fits t n r h) ∙ sets-eq r t (width * n) (omega arith) ∙ ap (λ (k : ℕ). (take (width * n) t ++ r) ++ drop k t) i

  -- records that all fit, between what stood before them and after them
  store_between : (t : List ℕ) (n : ℕ) {rs : List (List ℕ)} → Records width rs → width * n + width * length rs ≤ length t →
      store width t n rs ≡ take (width * n) t ++ (row rs ++ drop (width * n + width * length rs) t)
  unfolding store row
  store_between t n none h =
      let i : width * n ≡ width * n + width * 0 = omega (arith, mul-zero width) in
      sym (take-append-drop (width * n) t) ∙ ap (λ (k : ℕ). take (width * n) t ++ drop k t) i
  store_between t n (more {r} {rs} e q) h =
      let p = take (width * n) t ++ r in
      let i = width * n + width in
      let m = width * length rs in
      let s : width * suc n ≡ i = mul-suc width n in
      let z : width * suc (length rs) ≡ m + width = mul-suc width (length rs) in
      let b = put_between t n r e (omega arith) in
      let front : length p ≡ i =
      length-append (take (width * n) t) r ∙ ap (λ (k : ℕ). k + length r) (length-take-le (width * n) t (omega arith))
      ∙ ap (λ (k : ℕ). width * n + k) e in
      let taken : take (width * suc n) (put width t n r) ≡ p = rw (s, b) (take_at p (drop i t) i front) in
      let far : i + m ≡ width * n + width * suc (length rs) = omega arith in
      let dropped : drop (width * suc n + m) (put width t n r) ≡ drop (width * n + width * suc (length rs)) t =
      rw (s, b) (drop_past p (drop i t) i m front ∙ drop-drop m i t ∙ ap (λ (k : ℕ). drop k t) far) in
      let same = length_put t n r in
      store_between (put width t n r) (suc n) q (omega arith) ∙ rw (taken, dropped) (simp append_assoc)

  -- records that all fit, from the front on
  pub store_front : (t : List ℕ) {rs : List (List ℕ)} → Records width rs → width * length rs ≤ length t →
      store width t 0 rs ≡ front width rs t
  store_front t {rs} q h =
      let z = mul-zero width in
      let e : width * 0 + width * length rs ≡ width * length rs = omega arith in
      store_between t 0 q (omega arith) ∙ rw (e, z)

  -- as many records as the table holds do fit
  pub capacity_fits : (t : List ℕ) (k : ℕ) → k ≤ capacity width t → width * k ≤ length t
  capacity_fits t k h = le_trans (mul-le-mul_left width h) (mul-div-le (length t) width)

  -- a record place that the table has, and one that it has not
  pub place_fits : (t : List ℕ) (n : ℕ) → n < capacity width t → width * n + width ≤ length t
  place_fits t n h = omega (arith, capacity_fits t (suc n) h, mul-suc width n)

  pub place_misses : (t : List ℕ) (n : ℕ) → 0 < width → capacity width t ≤ n → length t < width * n + width
  place_misses t n w h =
      let full = lt-mul-div-succ (length t) w in
      let more : width * (capacity width t + 1) ≤ width * (n + 1) = mul-le-mul_left width (omega arith) in
      omega (arith, mul-suc width n)

  -- a write to the part of the table that is its place, where the table has it
  pub put_part : (t r s : List ℕ) (n : ℕ) → n < capacity width t → s ≡ r →
      length s ≡ length (take (width * n + width - width * n) (drop (width * n) t)) →
      put_mid (width * n) (width * n + width - width * n) t s ≡ put width t n r
  put_part t r s n h same wide =
      let at = width * n in
      let fits = place_fits t n h in
      let k : width ≡ at + width - at = omega arith in
      let e : length r ≡ width =
      ap length (sym same) ∙ wide ∙ length-take-le (at + width - at) (drop at t) (omega (arith, length-drop at t)) ∙ sym k in
      put_mid-paste at _ t s r width same k (sym e) ∙ ap (λ (l : List ℕ). (take at t ++ l) ++ drop (at + width) t) (take_all width r (omega arith))
      ∙ sym (put_between t n r e fits)
