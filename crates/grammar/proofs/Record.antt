-- Laws of tree records: those of forests side by side stand side by side, and there are no more of them than nodes.
-- By induction on the forest.
use Prim.Native.Nat.{ℕ, suc, ◌+◌, ◌≤◌}
use mathlib.Core.Path.{◌≡◌, ap, sym, ◌∙◌}
use mathlib.Core.Bool.{Bool, true, false, cond}
use mathlib.Core.List.{List, [], ◌∷◌, ◌++◌, append_assoc, append-nil}
use native.Mathlib.Nat.{add_assoc}
use native.Mathlib.Omega.{arith}
use lib.ListN.{length, length-append}
use Rattle.grammar.specs.Forest.{Forest, end, leaf, node, join, width, nodes}
use Rattle.grammar.specs.Record.{TreeRecord, shape, recorded, with_parent, records}
use Rattle.grammar.specs.Rule.{Edition}
use Rattle.grammar.proofs.Forest.{width_join}

pub records_join : (E : Edition) (i : ℕ) (f g : Forest) →
    records E i (join f g) ≡ records E i f ++ records E (i + width f) g
unfolding records join
records_join E i f end = sym (append-nil (records E i f))
records_join E i f (leaf g k) = records_join E i f g
records_join E i f (node g r c) =
    let e : i + width (join f g) ≡ i + width f + width g =
    ap (λ (x : ℕ). i + x) (width_join f g) ∙ sym (add_assoc i (width f) (width g)) in
    rw (records_join E i f g, e, append_assoc)

one_more : (xs : List TreeRecord) (b : Bool) (x : TreeRecord) → length (xs ++ cond b (x ∷ []) []) ≤ suc (length xs)
one_more xs true x = let e = length-append xs (x ∷ []) in omega arith
one_more xs false x = let e = length-append xs [] in omega arith

parent_one : (E : Edition) (r first past n : ℕ) (xs : List TreeRecord) →
    length (with_parent E r first past n xs) ≤ suc (length xs)
unfolding with_parent
parent_one E r first past n xs = one_more xs (recorded E r n) _

-- no more records than nodes
pub records_nodes : (E : Edition) (i : ℕ) (f : Forest) → length (records E i f) ≤ nodes f
unfolding records nodes
records_nodes E i end = omega arith
records_nodes E i (leaf f k) = records_nodes E i f
records_nodes E i (node f r c) =
    let n = i + width f in
    let own = with_parent E r n (n + width c) (shape c) (records E n c) in
    let a = records_nodes E i f in
    let b = records_nodes E n c in
    let h = parent_one E r n (n + width c) (shape c) (records E n c) in
    let e = length-append (records E i f) own in
    omega arith
