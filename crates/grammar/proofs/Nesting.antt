-- "Types hold members that hold types, and expressions hold expressions, so depth bounds the nesting."
-- By induction on the derivation: a use stands within marks, or is of a rule of lower rank, or is left recursion.
use Prim.Native.Nat.{ℕ, zero, suc, ◌+◌, ◌*◌, ◌-◌, ◌≤◌, ◌<◌, pred, max}
use mathlib.Core.Path.{◌≡◌, refl, ap, sym, ◌∙◌, subst}
use mathlib.Core.Logic.{◌⊎◌, inl, inr}
use mathlib.Core.Bool.{Bool, true, false, not, ◌&&◌, ◌||◌, cond}
use mathlib.Core.List.{List, [], ◌∷◌}
use native.Mathlib.Nat.{add-zero, zero-add, add-suc, suc-add}
use native.Mathlib.Omega.{arith}
use lib.Dec.{T, eqb, ltb, ltb→lt, nltb→le, eqb→eq}
use lib.ListN.{get_or, length, get_or-eq_default}
use Rattle.grammar.specs.Sets.{elem}
use Rattle.grammar.proofs.Sets.{and_left, and_right, or_cases, eq→eqb}
use Rattle.grammar.specs.Forest.{Forest, end, leaf, node}
use Rattle.grammar.specs.Rule.{RightSide, terminal, nonterminal, sequence, choice, nothing, repeat, Edition}
use Rattle.grammar.specs.Rule.{right_side}
use Rattle.grammar.specs.Derivation.{kind_at, Derives, derive_terminal, derive_rule, derive_sequence}
use Rattle.grammar.specs.Derivation.{derive_left, derive_right, derive_nothing, derive_none, derive_more}
use Rattle.grammar.specs.Derivation.{Derivation}
use Rattle.grammar.specs.Depth.{opening, closing, level, depth, Within}

-- the most uses of rules on a way down a forest that stands under a use of rule r;
-- a first tree of the same rule, which is left recursion, is passed over
unfoldable pub under : ℕ → Forest → ℕ
under r end = 0
under r (leaf f k) = under r f
under r (node end q c) = cond (eqb q r) (under r c) (suc (under q c))
under r (node (leaf f k) q c) = max (under r f) (suc (under q c))
under r (node (node f p b) q c) = max (under r (node f p b)) (suc (under q c))

unfoldable pub nesting : Forest → ℕ
unfolding under
nesting f = under 0 f

-- how many marks of its own a right side has open behind it, where d were open before
unfoldable pub open_behind : RightSide → ℕ → ℕ
unfolding level opening closing
open_behind (terminal k) d = level (opening k) (closing k) d
open_behind (nonterminal r) d = d
open_behind (sequence a b) d = open_behind b (open_behind a d)
open_behind (choice a b) d = open_behind a d
open_behind nothing d = d
open_behind (repeat a) d = d

-- a right side closes its own marks alone, the same in each choice
unfoldable pub balanced : RightSide → ℕ → Bool
unfolding opening closing open_behind
balanced (terminal k) d = opening k || (not (closing k) || ltb 0 d)
balanced (nonterminal r) d = true
balanced (sequence a b) d = balanced a d && balanced b (open_behind a d)
balanced (choice a b) d = balanced a d && (balanced b d && eqb (open_behind b d) (open_behind a d))
balanced nothing d = true
balanced (repeat a) d = balanced a d && eqb (open_behind a d) d

-- a use outside of marks is of a rule of lower rank than r, or of r itself where it leads
unfoldable pub ranked_use : (lower leads : Bool) → (marks : ℕ) → Bool
ranked_use lower leads zero = lower || leads
ranked_use lower leads (suc d) = true

unfoldable pub ranked : (rank : ℕ → ℕ) → (rule : ℕ) (leads : Bool) → RightSide → ℕ → Bool
unfolding open_behind ranked_use
ranked rank r leads (terminal k) d = true
ranked rank r leads (nonterminal m) d = ranked_use (ltb (rank m) (rank r)) (leads && eqb m r) d
ranked rank r leads (sequence a b) d = ranked rank r leads a d && ranked rank r false b (open_behind a d)
ranked rank r leads (choice a b) d = ranked rank r leads a d && ranked rank r leads b d
ranked rank r leads nothing d = true
ranked rank r leads (repeat a) d = ranked rank r false a d

-- what is asked of each rule: no way down of 32 uses at one depth, and marks that nest
pub record Nests (E : Edition) (rank : ℕ → ℕ) : Type 0 where
  pub low : (r : ℕ) → rank r < 32
  pub own_marks : (r : ℕ) → T (balanced (right_side E r) 0)
  pub all_closed : (r : ℕ) → open_behind (right_side E r) 0 ≡ 0
  pub by_rank : (r : ℕ) → T (ranked rank r true (right_side E r) 0)

pred_within : (m n : ℕ) → m ≤ n → pred m ≤ n
pred_within m n h = omega arith

pred_above : (e d : ℕ) → 0 < d → pred (e + d) ≡ e + pred d
pred_above e d h = omega arith

-- a level above e others
level_above : (opens closes : Bool) (e d : ℕ) → T (opens || (not closes || ltb 0 d)) →
    level opens closes (e + d) ≡ e + level opens closes d
unfolding level
level_above true c e d u = omega arith
level_above false true e d u = pred_above e d (ltb→lt 0 d u)
level_above false false e d u = refl

under_node : (r m : ℕ) (f h : Forest) (b : ℕ) → under r f ≤ b → suc (under m h) ≤ b → under r (node f m h) ≤ b
unfolding under
under_node r m end h b x y = go (eqb m r) (eqb→eq m r)
  where
    go : (z : Bool) → (T z → m ≡ r) → cond z (under r h) (suc (under m h)) ≤ b
    go true e = let q = ap (λ (k : ℕ). under k h) (e tt) in omega arith
    go false e = y
under_node r m (leaf f k) h b x y = omega arith
under_node r m (node f p c) h b x y = omega arith

under_same : (r m : ℕ) (h : Forest) (b : ℕ) → m ≡ r → under m h ≤ b → under r (node end m h) ≤ b
unfolding under
under_same r m h b e x = go (eqb m r) (eq→eqb m r e)
  where
    go : (z : Bool) → T z → cond z (under r h) (suc (under m h)) ≤ b
    go true u = let q = ap (λ (k : ℕ). under k h) e in omega arith
    go false u = absurd u

module _ {E : Edition} {rank : ℕ → ℕ} (nests : Nests E rank) (s : ℕ → ℕ) where
  -- a right side leaves its own marks open behind it, above the o levels before
  depth_behind : {e : RightSide} {i j : ℕ} {f g : Forest} (o d : ℕ) → Derives E s e i j f g → T (balanced e d) →
      depth s i ≡ o + d →
      depth s j ≡ o + open_behind e d
  unfolding balanced open_behind depth
  depth_behind o d (derive_terminal {k = k} {i = i} e) u h =
      subst (λ (z : ℕ). level (opening z) (closing z) (depth s i) ≡ o + level (opening k) (closing k) d) (sym e)
      (ap (λ (z : ℕ). level (opening k) (closing k) z) h ∙ level_above (opening k) (closing k) o d u)
  depth_behind o d (derive_rule {r = r} x) u h =
      let y = depth_behind (o + d) 0 x (nests.own_marks r) (h ∙ sym (add-zero (o + d))) in
      let z = nests.all_closed r in
      omega arith
  depth_behind o d (derive_sequence {a = a} {b = b} x y) u h =
      depth_behind o (open_behind a d) y (and_right (balanced a d) (balanced b (open_behind a d)) u)
      (depth_behind o d x (and_left (balanced a d) (balanced b (open_behind a d)) u) h)
  depth_behind o d (derive_left {a = a} {b = b} x) u h = depth_behind o d x (and_left (balanced a d) _ u) h
  depth_behind o d (derive_right {a = a} {b = b} x) u h =
      let v = and_right (balanced a d) (balanced b d && eqb (open_behind b d) (open_behind a d)) u in
      let e = eqb→eq (open_behind b d) (open_behind a d) (and_right (balanced b d) _ v) in
      depth_behind o d x (and_left (balanced b d) _ v) h ∙ ap (λ (z : ℕ). o + z) e
  depth_behind o d derive_nothing u h = h
  depth_behind o d derive_none u h = h
  depth_behind o d (derive_more {a = a} x y) u h =
      let e = eqb→eq (open_behind a d) d (and_right (balanced a d) _ u) in
      depth_behind o d y u (depth_behind o d x (and_left (balanced a d) _ u) h ∙ ap (λ (z : ℕ). o + z) e)

  module _ (n : ℕ) (within : (q : ℕ) → depth s q ≤ n) where
    -- a use of rule m within rule r, with d marks of r open before it
    use_bounded : (r m : ℕ) (leads : Bool) (o d : ℕ) (f h : Forest) → (T leads → f ≡ end) →
        T (ranked_use (ltb (rank m) (rank r)) (leads && eqb m r) d) →
        o + d ≤ n → under m h ≤ rank m + 32 * (n - (o + d)) → under r f ≤ rank r + 32 * (n - o) →
        under r (node f m h) ≤ rank r + 32 * (n - o)
    unfolding ranked_use
    use_bounded r m leads o zero f h w u l x y = go (or_cases (ltb (rank m) (rank r)) (leads && eqb m r) u)
      where
        go : T (ltb (rank m) (rank r)) ⊎ T (leads && eqb m r) → under r (node f m h) ≤ rank r + 32 * (n - o)
        go (inl v) = let k = ltb→lt (rank m) (rank r) v in under_node r m f h (rank r + 32 * (n - o)) y (omega arith)
        go (inr v) =
            let e = eqb→eq m r (and_right leads (eqb m r) v) in
            let q = ap rank e in
            subst (λ (z : Forest). under r (node z m h) ≤ rank r + 32 * (n - o))
            (sym (w (and_left leads (eqb m r) v)))
            (under_same r m h (rank r + 32 * (n - o)) e (omega arith))
    use_bounded r m leads o (suc d) f h w u l x y =
        let k = nests.low m in under_node r m f h (rank r + 32 * (n - o)) y (omega arith)

    bounded : {e : RightSide} {i j : ℕ} {f g : Forest} (r : ℕ) (leads : Bool) (o d : ℕ) → (T leads → f ≡ end) →
        T (balanced e d) → T (ranked rank r leads e d) →
        depth s i ≡ o + d → Derives E s e i j f g → under r f ≤ rank r + 32 * (n - o) →
        under r g ≤ rank r + 32 * (n - o)
    unfolding balanced ranked under
    bounded r leads o d w u v h (derive_terminal e) x = x
    bounded r leads o d w u v h (derive_rule {r = m} {i = i} {f = f} {h = c} y) x =
        let k = within i in
        use_bounded r m leads o d f c w v (omega arith)
        (bounded m true (o + d) 0 (λ q. refl) (nests.own_marks m) (nests.by_rank m) (h ∙ sym (add-zero (o + d))) y
        (omega arith)) x
    bounded r leads o d w u v h (derive_sequence {a = a} {b = b} y z) x =
        bounded r false o (open_behind a d) (λ q. absurd q)
        (and_right (balanced a d) (balanced b (open_behind a d)) u)
        (and_right (ranked rank r leads a d) (ranked rank r false b (open_behind a d)) v)
        (depth_behind o d y (and_left (balanced a d) (balanced b (open_behind a d)) u) h) z
        (bounded r leads o d w (and_left (balanced a d) _ u) (and_left (ranked rank r leads a d) _ v) h y x)
    bounded r leads o d w u v h (derive_left {a = a} {b = b} y) x =
        bounded r leads o d w (and_left (balanced a d) _ u) (and_left (ranked rank r leads a d) _ v) h y x
    bounded r leads o d w u v h (derive_right {a = a} {b = b} y) x =
        bounded r leads o d w (and_left (balanced b d) _
        (and_right (balanced a d) (balanced b d && eqb (open_behind b d) (open_behind a d)) u))
        (and_right (ranked rank r leads a d) (ranked rank r leads b d) v) h y x
    bounded r leads o d w u v h derive_nothing x = x
    bounded r leads o d w u v h derive_none x = x
    bounded r leads o d w u v h (derive_more {a = a} y z) x =
        let e = eqb→eq (open_behind a d) d (and_right (balanced a d) _ u) in
        bounded r false o d (λ q. absurd q) u v
        (depth_behind o d y (and_left (balanced a d) _ u) h ∙ ap (λ (q : ℕ). o + q) e) z
        (bounded r false o d (λ q. absurd q) (and_left (balanced a d) _ u) v h y x)

-- the greatest rank that the uses of rule r outside of marks ask for
unfoldable pub rank_above : (rank : ℕ → ℕ) → (rule : ℕ) (leads : Bool) → RightSide → ℕ → ℕ
unfolding open_behind
rank_above rank r leads (terminal k) d = 0
rank_above rank r leads (nonterminal m) zero = cond (leads && eqb m r) 0 (suc (rank m))
rank_above rank r leads (nonterminal m) (suc d) = 0
rank_above rank r leads (sequence a b) d =
    max (rank_above rank r leads a d) (rank_above rank r false b (open_behind a d))
rank_above rank r leads (choice a b) d = max (rank_above rank r leads a d) (rank_above rank r leads b d)
rank_above rank r leads nothing d = 0
rank_above rank r leads (repeat a) d = rank_above rank r false a d

unfoldable pub rank_in : List ℕ → ℕ → ℕ
rank_in xs r = get_or xs r 0

unfoldable pub next_ranks : (rank : ℕ → ℕ) → ℕ → List RightSide → List ℕ
unfolding rank_above
next_ranks rank r [] = []
next_ranks rank r (e ∷ es) = rank_above rank r true e 0 ∷ next_ranks rank (suc r) es

-- the ranks of the rules after k rounds
unfoldable pub ranks : List RightSide → ℕ → List ℕ
unfolding next_ranks rank_in
ranks es zero = []
ranks es (suc k) = next_ranks (rank_in (ranks es k)) 0 es

unfoldable pub all_below : List ℕ → Bool
all_below [] = true
all_below (x ∷ xs) = ltb x 32 && all_below xs

unfoldable pub rule_nests : (rank : ℕ → ℕ) → ℕ → RightSide → Bool
unfolding balanced open_behind ranked
rule_nests rank r e = balanced e 0 && (eqb (open_behind e 0) 0 && ranked rank r true e 0)

unfoldable pub all_nest : (rank : ℕ → ℕ) → ℕ → List RightSide → Bool
unfolding rule_nests
all_nest rank r [] = true
all_nest rank r (e ∷ es) = rule_nests rank r e && all_nest rank (suc r) es

-- the test of an edition, with ranks from 31 rounds
unfoldable pub nests : Edition → Bool
unfolding ranks all_below all_nest rank_in
nests E = let rs = ranks E.rules 31 in all_below rs && all_nest (rank_in rs) 0 E.rules

below_at : (xs : List ℕ) → T (all_below xs) → (n : ℕ) → get_or xs n 0 < 32
unfolding all_below
below_at [] u n = omega arith
below_at (x ∷ xs) u zero = ltb→lt x 32 (and_left (ltb x 32) (all_below xs) u)
below_at (x ∷ xs) u (suc n) = below_at xs (and_right (ltb x 32) (all_below xs) u) n

nest_at : (rank : ℕ → ℕ) (r : ℕ) (es : List RightSide) → T (all_nest rank r es) → (n : ℕ) →
    T (rule_nests rank (r + n) (get_or es n nothing))
unfolding all_nest rule_nests balanced open_behind ranked
nest_at rank r [] u n = tt
nest_at rank r (e ∷ es) u zero = rw add-zero (and_left (rule_nests rank r e) (all_nest rank (suc r) es) u)
nest_at rank r (e ∷ es) u (suc n) =
    rw (add-suc, ← suc-add) (nest_at rank (suc r) es (and_right (rule_nests rank r e) (all_nest rank (suc r) es) u) n)

-- an opening mark stands inside the list
pub open_inside : (ks : List ℕ) (q : ℕ) → T (opening (kind_at ks q)) → q < length ks
unfolding opening elem
open_inside ks q u = go (ltb q (length ks)) (ltb→lt q (length ks)) (nltb→le q (length ks))
  where
    go : (b : Bool) → (T b → q < length ks) → (T (not b) → length ks ≤ q) → q < length ks
    go true i o = i tt
    go false i o = absurd (subst (λ (z : ℕ). T (opening z)) (get_or-eq_default ks 0 {n = q} (o tt)) u)

-- no place has a depth past n, where no opening mark of the list takes it there
stays_within : (ks : List ℕ) (n : ℕ) → Within (kind_at ks) n 0 (length ks) → (q : ℕ) → depth (kind_at ks) q ≤ n
unfolding Within depth level
stays_within ks n w zero = omega arith
stays_within ks n w (suc q) =
    go (opening (kind_at ks q)) (closing (kind_at ks q)) (open_inside ks q) (λ h u. w q (omega arith) h u)
    (stays_within ks n w q)
  where
    go : (a b : Bool) → (T a → q < length ks) → (q < length ks → T a → depth (kind_at ks) q < n) →
        depth (kind_at ks) q ≤ n →
        level a b (depth (kind_at ks) q) ≤ n
    go true b i o h = o (i tt) tt
    go false true i o h = pred_within (depth (kind_at ks) q) n h
    go false false i o h = h

module _ (E : Edition) (passed : T (nests E)) where
  rank_of : ℕ → ℕ
  rank_of = rank_in (ranks E.rules 31)

  nest_all : (r : ℕ) → T (rule_nests rank_of r (right_side E r))
  unfolding nests right_side rank_of
  nest_all r =
      subst (λ (z : ℕ). T (rule_nests rank_of z (get_or E.rules r nothing))) (zero-add r)
      (nest_at rank_of 0 E.rules (and_right (all_below (ranks E.rules 31)) _ passed) r)

  passed_nests : Nests E rank_of
  unfolding nests rank_of rank_in rule_nests
  passed_nests = record {
    low = below_at (ranks E.rules 31) (and_left (all_below (ranks E.rules 31)) _ passed);
    own_marks = λ r. and_left (balanced (right_side E r) 0) _ (nest_all r);
    all_closed = λ r. eqb→eq (open_behind (right_side E r) 0) 0
        (and_left (eqb (open_behind (right_side E r) 0) 0) _
        (and_right (balanced (right_side E r) 0) _ (nest_all r)));
    by_rank = λ r. and_right (eqb (open_behind (right_side E r) 0) 0) _
        (and_right (balanced (right_side E r) 0) _ (nest_all r));
  }

  -- every opening mark of a derivation is closed
  pub marks_closed : (ks : List ℕ) (g : Forest) → Derivation E ks g → depth (kind_at ks) (length ks) ≡ 0
  unfolding Derivation depth balanced open_behind
  marks_closed ks g d = depth_behind passed_nests (kind_at ks) 0 0 d tt refl

  -- where no opening mark takes depth past n, no way down has more than 32 uses of rules for each level
  pub depth_bounds_nesting : (ks : List ℕ) (g : Forest) (n : ℕ) → Derivation E ks g →
      Within (kind_at ks) n 0 (length ks) → nesting g ≤ 32 * suc n
  unfolding Derivation nesting under depth
  depth_bounds_nesting ks g n (derive_rule {r = r} {h = h} d) w =
      let k = passed_nests.low r in
      let x = bounded passed_nests (kind_at ks) n (stays_within ks n w) r true 0 0 (λ q. refl)
      (passed_nests.own_marks r) (passed_nests.by_rank r) refl d (omega arith) in
      under_node 0 r end h (32 * suc n) (omega arith) (omega arith)
