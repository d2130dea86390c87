-- Laws of the tree table: records written in two goes are written in one, and none is written past the ceiling of the count.
-- By induction on the records. Assumes nothing.
use Rattle.std.proofs.Common.{◌≡◌, ℕ, suc, ◌+◌, ◌<◌, ◌≤◌, Bool, true, false, cond, not, T, ltb, leb, ◌⊎◌, List, [], ◌∷◌, ◌++◌, length, sym, refl, ap, ◌∙◌, inl, inr, add-zero, arith, ltb→lt, lt→ltb, leb→le}
use lib.Dec.{nleb→lt}
use Rattle.grammar.specs.Record.{TreeRecord, tree_record}
use Rattle.prediction.proofs.Sets.{decide}
use Rattle.tables.specs.Tables.{node_width, put}
use Rattle.readers_core.specs.Reading.{ceiling, counted, write, writes}

pub writes_append : (w : List ℕ) (n : ℕ) (xs ys : List TreeRecord) →
    writes w n (xs ++ ys) ≡ writes (writes w n xs) (n + length xs) ys
unfolding writes
writes_append w n [] ys = rw add-zero
writes_append w n (x ∷ xs) ys =
    writes_append (write w n x) (suc n) xs ys
    ∙ ap (λ (k : ℕ). writes (writes (write w n x) (suc n) xs) k ys) (omega arith)

pub write_past : (w : List ℕ) (n : ℕ) (x : TreeRecord) → ceiling ≤ n → write w n x ≡ w
unfolding write
write_past w n (tree_record a b c d) h = go (ltb n ceiling) (ltb→lt n ceiling)
  where
    go : (x : Bool) → (T x → n < ceiling) → cond x (put node_width w n (a ∷ b ∷ c ∷ d ∷ [])) w ≡ w
    go true u = absurd (let l = u tt in omega arith)
    go false u = refl

-- below the ceiling a record is put into the table
pub write_below : (w : List ℕ) (a : ℕ) {n b c d n' b' c' d' : ℕ} → n' < ceiling → n ≡ n' → b ≡ b' → c ≡ c' → d ≡ d' →
    put node_width w n (a ∷ b ∷ c ∷ d ∷ []) ≡ write w n' (tree_record a b' c' d')
unfolding write
write_below w a {n} {b} {c} {d} {n'} {b'} {c'} {d'} h e e' e'' e''' =
    rw (e, e', e'', e''') (go (ltb n' ceiling) (lt→ltb n' ceiling h))
  where
    go : (x : Bool) → T x → put node_width w n' (a ∷ b' ∷ c' ∷ d' ∷ [])
        ≡ cond x (put node_width w n' (a ∷ b' ∷ c' ∷ d' ∷ [])) w
    go true u = refl
    go false u = absurd u

writes_past : (w : List ℕ) (n : ℕ) (xs : List TreeRecord) → ceiling ≤ n → writes w n xs ≡ w
unfolding writes
writes_past w n [] h = refl
writes_past w n (x ∷ xs) h =
    ap (λ (z : List ℕ). writes z (suc n) xs) (write_past w n x h) ∙ writes_past w (suc n) xs (omega arith)

pub writes_counted : (w : List ℕ) (n : ℕ) (xs : List TreeRecord) → writes w (counted n) xs ≡ writes w n xs
writes_counted w n xs = go (decide (leb n ceiling))
  where
    go : T (leb n ceiling) ⊎ T (not (leb n ceiling)) → writes w (counted n) xs ≡ writes w n xs
    go (inl u) = let l = leb→le n ceiling u in ap (λ (k : ℕ). writes w k xs) (omega arith)
    go (inr u) =
        let l = nleb→lt n ceiling u in
        writes_past w (counted n) xs (omega arith) ∙ sym (writes_past w n xs (omega arith))
