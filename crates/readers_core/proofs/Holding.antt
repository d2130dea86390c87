-- What a frame holds, step by step: a token more, the whole as one node, a frame behind its caller's.
-- The table by the laws of its writes. Assumes nothing.
use Rattle.std.proofs.Common.{◌≡◌, ℕ, suc, ◌+◌, ◌-◌, ◌<◌, ◌≤◌, Bool, true, false, cond, List, [], ◌∷◌, ◌++◌, map, length, sym, refl, ap, ◌∙◌, append-nil, add-zero, arith, length-append}
use lib.ListN.{length-map}
use borrow.Table.Elements.{map_app}
use Rattle.grammar.specs.Forest.{Forest, end, leaf, node, join, width}
use Rattle.grammar.proofs.Forest.{width_join}
use Rattle.grammar.specs.Record.{TreeRecord, tree_record, shape, recorded, with_parent, records}
use Rattle.grammar.proofs.Record.{records_join}
use Rattle.readers_core.specs.Course.{Course, coded, noted}
use Rattle.readers_core.specs.Reading.{ceiling, counted, write, writes, State, Held}
use Rattle.readers_core.proofs.Storing.{writes_append, write_past, writes_counted}

written : {w w' : List ℕ} {n n' : ℕ} {x x' : TreeRecord} → w ≡ w' → n ≡ n' → x ≡ x' →
    write w n x ≡ writes w' n' (x' ∷ [])
unfolding writes
written e e' e'' = cc

module _ (C : Course) where
  records_wrap : (i r : ℕ) (f : Forest) → records C.edition i (node end r f) ≡ records C.edition i f ++
      cond (recorded C.edition r (shape f)) (tree_record r i (i + width f) (suc (length (records C.edition i f))) ∷ []) []
  unfolding records with_parent width
  records_wrap i r f = rw (add-zero i)

  one_coded : (k : Bool) (r i p n m : ℕ) → n ≡ m →
      map (coded C.code) (cond k (tree_record r i p (suc n) ∷ []) []) ≡ cond k (tree_record (C.code r) i p (suc m) ∷ []) []
  unfolding coded
  one_coded true r i p n m e = rw e
  one_coded false r i p n m e = refl

  noted_wrap : (i r : ℕ) (f : Forest) → noted C i (node end r f) ≡ noted C i f ++
      cond (recorded C.edition r (shape f)) (tree_record (C.code r) i (i + width f) (suc (length (noted C i f))) ∷ []) []
  unfolding noted
  noted_wrap i r f =
      ap (map (coded C.code)) (records_wrap i r f)
      ∙ map_app (coded C.code) (records C.edition i f) (cond (recorded C.edition r (shape f))
      (tree_record r i (i + width f) (suc (length (records C.edition i f))) ∷ []) [])
      ∙ ap (λ (z : List TreeRecord). noted C i f ++ z)
      (one_coded (recorded C.edition r (shape f)) r i (i + width f) (length (records C.edition i f))
      (length (noted C i f)) (sym (length-map (records C.edition i f) (coded C.code))))

  noted_join : (i : ℕ) (f g : Forest) → noted C i (join f g) ≡ noted C i f ++ noted C (i + width f) g
  unfolding noted
  noted_join i f g =
      ap (map (coded C.code)) (records_join C.edition i f g)
      ∙ map_app (coded C.code) (records C.edition i f) (records C.edition (i + width f) g)

module _ {C : Course} where
  -- a frame that has read nothing
  pub held_none : (s : State) → s.0.count ≤ ceiling → Held C s end s
  unfolding width records writes noted
  held_none s l = record { at_is = sym (add-zero s.0.at); count_is = omega arith; table_is = refl }

  -- a token more
  pub held_token : (k : ℕ) (b s s' : State) (f : Forest) → s'.0.at ≡ s.0.at + 1 → s'.0.count ≡ s.0.count →
      s'.1 ≡ s.1 → Held C b f s → Held C b (leaf f k) s'
  unfolding width records noted
  held_token k b s s' f a n w h = record {
    at_is = let e = h.at_is in omega arith;
    count_is = n ∙ h.count_is;
    table_is = w ∙ h.table_is;
  }

  module _ (r : ℕ) (b s : State) (f : Forest) (h : Held C b f s) where
    children : List TreeRecord
    children = noted C b.0.at f

    parent : TreeRecord
    unfolding children
    parent = tree_record (C.code r) b.0.at (b.0.at + width f) (suc (length children))

    more : Bool → List TreeRecord
    unfolding parent
    more k = cond k (parent ∷ []) []

    all_records : (k : Bool) → recorded C.edition r (shape f) ≡ k → noted C b.0.at (node end r f) ≡ children ++ more k
    unfolding more children
    all_records k e = noted_wrap C b.0.at r f ∙ ap (λ (z : Bool). children ++ more z) e

    -- the frame becomes one node, and leaves no record
    pub held_lost : recorded C.edition r (shape f) ≡ false → Held C b (node end r f) s
    unfolding width more children
    held_lost k =
        let e = all_records false k ∙ append-nil children in
        record {
          at_is = let e = h.at_is in omega arith;
          count_is = h.count_is ∙ ap (λ (z : List TreeRecord). counted (b.0.count + length z)) (sym e);
          table_is = h.table_is ∙ ap (λ (z : List TreeRecord). writes b.1 b.0.count z) (sym e);
        }

    -- the frame becomes one node, and leaves a record
    pub held_kept : (s' : State) → recorded C.edition r (shape f) ≡ true → s.0.count < ceiling → s'.0.at ≡ s.0.at →
        s'.0.count ≡ s.0.count + 1 →
        s'.1 ≡ write s.1 s.0.count (tree_record (C.code r) b.0.at s.0.at (s.0.count + 1 - b.0.count)) →
        Held C b (node end r f) s'
    unfolding width more children parent
    held_kept s' k low a n w =
        let e = all_records true k in
        let l = ap length e ∙ length-append children (more true) in
        let c : s.0.count ≡ b.0.count + length children = omega (arith, h.count_is) in
        let z : s.0.count + 1 - b.0.count ≡ suc (length children) = omega (arith, c) in
        record {
          at_is = let e = h.at_is in omega arith;
          count_is = omega (arith, l, c, n);
          table_is = w ∙ written h.table_is c (cc (h.at_is, z)) ∙ sym (ap (λ (z : List TreeRecord). writes b.1 b.0.count z) e
              ∙ writes_append b.1 b.0.count children (more true));
        }

    -- and one that finds the count at its ceiling
    pub held_full : recorded C.edition r (shape f) ≡ true → ceiling ≤ s.0.count → Held C b (node end r f) s
    unfolding width more children parent
    held_full k high =
        let e = all_records true k in
        let l = ap length e ∙ length-append children (more true) in
        let c : ceiling ≤ b.0.count + length children = omega (arith, h.count_is) in
        record {
          at_is = let e = h.at_is in omega arith;
          count_is = omega (arith, l, c, h.count_is);
          table_is = h.table_is
              ∙ sym (ap (λ (z : List TreeRecord). writes b.1 b.0.count z) e
              ∙ writes_append b.1 b.0.count children (more true)
              ∙ sym (written refl refl refl) ∙ write_past (writes b.1 b.0.count children) (b.0.count + length children) parent c);
        }

  -- a frame's forest goes behind that of the frame which called it
  pub held_call : (b s t : State) (f g : Forest) → Held C b f s → Held C s g t → Held C b (join f g) t
  held_call b s t f g h k = record {
    at_is = let x = h.at_is in let y = k.at_is in let z = width_join f g in omega arith;
    count_is =
        let x = ap length all ∙ length-append (noted C b.0.at f) (noted C s.0.at g) in
        let y = h.count_is in
        let z = k.count_is in
        omega arith;
    table_is = k.table_is ∙ ap (λ (z : ℕ). writes s.1 z (noted C s.0.at g)) h.count_is
        ∙ writes_counted s.1 (b.0.count + length (noted C b.0.at f)) (noted C s.0.at g)
        ∙ (cc (
          h.table_is,
          writes_append b.1 b.0.count (noted C b.0.at f) (noted C s.0.at g),
          all,
        ));
  }
    where
      all : noted C b.0.at (join f g) ≡ noted C b.0.at f ++ noted C s.0.at g
      all = noted_join C b.0.at f g ∙ ap (λ (z : ℕ). noted C b.0.at f ++ noted C z g) (sym h.at_is)
