-- The shape that a plan leaves: what a frame has read is nothing, one node, or more, as its plan tells.
-- By induction on the run; every plan of a rule leaves one node, as the test of its edition says. Assumes nothing.
use Rattle.std.proofs.Common.{◌≡◌, ℕ, Bool, true, false, cond, not, T, eqb, List, [], ◌∷◌, ◌++◌, sym, refl, ap, ◌∙◌, subst, ⊎_elim, eqb→eq}
use Rattle.grammar.specs.Forest.{Forest, end, leaf, node, join}
use Rattle.grammar.proofs.Forest.{join_end}
use Rattle.grammar.specs.Record.{shape, recorded}
use Rattle.grammar.specs.Sets.{elem}
use Rattle.prediction.proofs.Sets.{and_left, and_right, or_left, or_right, or_cases, subset_in, elem_left, elem_right}
use Rattle.prediction.proofs.Sets.{eq→eqb}
use Rattle.prediction.specs.Sets.{subset}
use Rattle.prediction.specs.plans.Plan.{Plan, token, group, call, wrap, seq, alt, skip, many}
use Rattle.prediction.specs.Interpreter.{done, stopped, Runs, run_token, run_inside, run_group, run_call, run_call_stop}
use Rattle.prediction.specs.Interpreter.{run_wrap, run_seq, run_seq_stop, run_left, run_right, run_skip, run_last}
use Rattle.prediction.specs.Interpreter.{run_more, run_more_stop}
use Rattle.prediction.specs.validator.Conditions.{leaves_one}
use Rattle.prediction.proofs.validator.Check.{all_closed}
use Rattle.prediction.specs.sharing.Renaming.{renamed}
use Rattle.readers_core.specs.Course.{Course, Shares, table_in}
use Rattle.readers_core.specs.Reading.{all_recorded, none_recorded}
use Rattle.readers_core.proofs.Sharing.{recorded_shared}

-- the shape of two forests side by side
unfoldable pub beside : ℕ → ℕ → ℕ
beside m n = cond (eqb m 0) n (cond (eqb n 0) m 2)

pub shape_join : (f g : Forest) → beside (shape f) (shape g) ≡ shape (join f g)
unfolding beside shape join
shape_join end g = sym (ap shape (join_end g))
shape_join (leaf f k) end = refl
shape_join (leaf f k) (leaf g l) = refl
shape_join (leaf f k) (node end r c) = refl
shape_join (leaf f k) (node (leaf g l) r c) = refl
shape_join (leaf f k) (node (node g r' c') r c) = refl
shape_join (node end k e) end = refl
shape_join (node end k e) (leaf g l) = refl
shape_join (node end k e) (node end r c) = refl
shape_join (node end k e) (node (leaf g l) r c) = refl
shape_join (node end k e) (node (node g r' c') r c) = refl
shape_join (node (leaf f m) k e) end = refl
shape_join (node (leaf f m) k e) (leaf g l) = refl
shape_join (node (leaf f m) k e) (node end r c) = refl
shape_join (node (leaf f m) k e) (node (leaf g l) r c) = refl
shape_join (node (leaf f m) k e) (node (node g r' c') r c) = refl
shape_join (node (node f k' e') k e) end = refl
shape_join (node (node f k' e') k e) (leaf g l) = refl
shape_join (node (node f k' e') k e) (node end r c) = refl
shape_join (node (node f k' e') k e) (node (leaf g l) r c) = refl
shape_join (node (node f k' e') k e) (node (node g r' c') r c) = refl

closed : (C : Course) {s : ℕ → ℕ} {d i j : ℕ} {p : Plan} {f g : Forest} (e : Bool) → T (leaves_one e p) →
    (T e → shape f ≡ 1) → Runs (table_in C) s d p i f (done j g) → shape g ≡ 1
unfolding leaves_one shape stopped
closed C e u h run_wrap = refl
closed C {p = seq a b} e u h (run_seq r r') = closed C (leaves_one e a) u (λ v. closed C e v h r) r'
closed C e u h (run_seq_stop r z) = absurd z
closed C {p = alt a b} e u h (run_left v r) = closed C e (and_left (leaves_one e a) (leaves_one e b) u) h r
closed C {p = alt a b} e u h (run_right v v' r) = closed C e (and_right (leaves_one e a) (leaves_one e b) u) h r
closed C e u h run_skip = h u
closed C {p = many a} e u h (run_last v) = h (and_left e (leaves_one false a) u)
closed C {p = many a} e u h (run_more v r r') =
    closed C e u (λ _. closed C false (and_right e (leaves_one false a) u) (λ z. absurd z) r) r'
closed C e u h (run_more_stop v r z) = absurd z
closed C e u h (run_token v) = absurd u
closed C e u h (run_inside v r z) = absurd u
closed C e u h (run_group v r v') = absurd u
closed C e u h (run_call r v) = absurd u
closed C e u h (run_call_stop r z) = absurd u

-- a rule leaves one node
pub one_node : (C : Course) {s : ℕ → ℕ} {d i j : ℕ} (n : ℕ) {g : Forest} →
    Runs (table_in C) s d ((table_in C).plan n) i end (done j g) → shape g ≡ 1
one_node C n r = closed C false (all_closed C.checked n) (λ z. absurd z) r

-- the shapes with a node more
unfoldable pub one_more : List ℕ → List ℕ
unfolding beside
one_more [] = []
one_more (h ∷ hs) = beside h 1 ∷ one_more hs

-- the shapes that a plan leaves, from one of these
unfoldable pub leaves : Plan → List ℕ → List ℕ
unfolding one_more subset
leaves (token k) hs = 2 ∷ []
leaves (group o b c) hs = 2 ∷ []
leaves (call n) hs = one_more hs
leaves (wrap r) hs = 1 ∷ []
leaves (seq a b) hs = leaves b (leaves a hs)
leaves (alt a b) hs = leaves a hs ++ leaves b hs
leaves skip hs = hs
leaves (many a) hs = cond (subset (leaves a hs) hs) hs (0 ∷ 1 ∷ 2 ∷ [])

is_one : (f : Forest) (h : ℕ) → shape f ≡ h → T (elem (shape f) (h ∷ []))
unfolding elem
is_one f h e = or_left (eqb (shape f) h) false (eq→eqb (shape f) h e)

any_shape : (f : Forest) → T (elem (shape f) (0 ∷ 1 ∷ 2 ∷ []))
unfolding shape elem
any_shape end = tt
any_shape (leaf f k) = tt
any_shape (node end r c) = tt
any_shape (node (leaf f k) r c) = tt
any_shape (node (node f r' c') r c) = tt

more_in : (h : ℕ) (hs : List ℕ) → T (elem h hs) → T (elem (beside h 1) (one_more hs))
unfolding one_more elem
more_in h [] u = absurd u
more_in h (k ∷ hs) u =
    ⊎_elim (λ v. or_left (eqb (beside h 1) (beside k 1)) (elem (beside h 1) (one_more hs))
    (eq→eqb (beside h 1) (beside k 1) (ap (λ (z : ℕ). beside z 1) (eqb→eq h k v))))
    (λ v. or_right (eqb (beside h 1) (beside k 1)) (elem (beside h 1) (one_more hs)) (more_in h hs v))
    (or_cases (eqb h k) (elem h hs) u)

-- a repetition leaves the shapes from which it does not lead, and else any
kept_in : (f : Forest) (hs after : List ℕ) → T (elem (shape f) hs) →
    T (elem (shape f) (cond (subset after hs) hs (0 ∷ 1 ∷ 2 ∷ [])))
kept_in f hs after u = go (subset after hs)
  where
    go : (x : Bool) → T (elem (shape f) (cond x hs (0 ∷ 1 ∷ 2 ∷ [])))
    go true = u
    go false = any_shape f

turned_in : (g : Forest) (hs after : List ℕ) →
    (T (subset after hs) → T (elem (shape g) (cond (subset after hs) hs (0 ∷ 1 ∷ 2 ∷ [])))) →
    T (elem (shape g) (cond (subset after hs) hs (0 ∷ 1 ∷ 2 ∷ [])))
turned_in g hs after k = go (subset after hs) k
  where
    go : (x : Bool) → (T x → T (elem (shape g) (cond x hs (0 ∷ 1 ∷ 2 ∷ [])))) →
        T (elem (shape g) (cond x hs (0 ∷ 1 ∷ 2 ∷ [])))
    go true k = k tt
    go false k = any_shape g

-- what a plan leaves has one of its shapes
run_leaves : (C : Course) {s : ℕ → ℕ} {d i j : ℕ} (p : Plan) {f g : Forest} (hs : List ℕ) →
    Runs (table_in C) s d p i f (done j g) → T (elem (shape f) hs) → T (elem (shape g) (leaves p hs))
unfolding leaves shape stopped
run_leaves C (token k) {g = g} hs (run_token e) u = is_one g 2 refl
run_leaves C (group o b c) hs (run_inside e r z) u = absurd z
run_leaves C (group o b c) {g = g} hs (run_group e r e') u = is_one g 2 refl
run_leaves C (call n) {f = f} hs (run_call {h = h} r e) u =
    subst (λ (z : ℕ). T (elem z (one_more hs)))
    (ap (λ (z : ℕ). beside (shape f) z) (sym (one_node C n r)) ∙ shape_join f h ∙ sym (ap shape e))
    (more_in (shape f) hs u)
run_leaves C (call n) hs (run_call_stop r z) u = absurd z
run_leaves C (wrap r) {g = g} hs run_wrap u = is_one g 1 refl
run_leaves C (seq a b) hs (run_seq r r') u = run_leaves C b (leaves a hs) r' (run_leaves C a hs r u)
run_leaves C (seq a b) hs (run_seq_stop r z) u = absurd z
run_leaves C (alt a b) {g = g} hs (run_left v r) u = elem_left (shape g) (leaves a hs) (leaves b hs) (run_leaves C a hs r u)
run_leaves C (alt a b) {g = g} hs (run_right v v' r) u = elem_right (shape g) (leaves a hs) (leaves b hs) (run_leaves C b hs r u)
run_leaves C skip hs run_skip u = u
run_leaves C (many a) {f = f} hs (run_last v) u = kept_in f hs (leaves a hs) u
run_leaves C (many a) {g = g} hs (run_more {h = h} v r r') u =
    turned_in g hs (leaves a hs)
    (λ c. run_leaves C (many a) hs r' (subset_in (shape h) (leaves a hs) hs c (run_leaves C a hs r u)))
run_leaves C (many a) hs (run_more_stop v r z) u = absurd z

-- which has the same shapes under other numbers
leaves_renamed : (number : ℕ → ℕ) (p : Plan) (hs : List ℕ) → leaves (renamed number p) hs ≡ leaves p hs
unfolding leaves renamed
leaves_renamed number (token k) hs = refl
leaves_renamed number (group o b c) hs = refl
leaves_renamed number (call n) hs = refl
leaves_renamed number (wrap r) hs = refl
leaves_renamed number (seq a b) hs =
    leaves_renamed number b (leaves (renamed number a) hs) ∙ ap (leaves b) (leaves_renamed number a hs)
leaves_renamed number (alt a b) hs = rw (leaves_renamed number a hs, leaves_renamed number b hs)
leaves_renamed number skip hs = refl
leaves_renamed number (many a) hs = rw (leaves_renamed number a hs)

pub shapes : (C : Course) (number : ℕ → ℕ) {s : ℕ → ℕ} {d i j : ℕ} (p : Plan) {f g : Forest} (hs : List ℕ) →
    Runs (table_in C) s d (renamed number p) i f (done j g) → T (elem (shape f) hs) → T (elem (shape g) (leaves p hs))
shapes C number p {g = g} hs r u =
    subst (λ (l : List ℕ). T (elem (shape g) l)) (leaves_renamed number p hs) (run_leaves C (renamed number p) hs r u)

truly : (b : Bool) → T b → b ≡ true
truly true u = refl
truly false u = absurd u

falsely : (b : Bool) → T (not b) → b ≡ false
falsely true u = absurd u
falsely false u = refl

module _ (R : Course) where
  in_all : (r h : ℕ) (hs : List ℕ) → T (all_recorded R r hs) → T (elem h hs) → recorded R.edition r h ≡ true
  unfolding all_recorded elem
  in_all r h [] u v = absurd v
  in_all r h (k ∷ hs) u v =
      ⊎_elim (λ e. subst (λ (z : ℕ). recorded R.edition r z ≡ true) (sym (eqb→eq h k e))
      (truly (recorded R.edition r k) (and_left (recorded R.edition r k) (all_recorded R r hs) u)))
      (λ e. in_all r h hs (and_right (recorded R.edition r k) (all_recorded R r hs) u) e) (or_cases (eqb h k) (elem h hs) v)

  in_none : (r h : ℕ) (hs : List ℕ) → T (none_recorded R r hs) → T (elem h hs) → recorded R.edition r h ≡ false
  unfolding none_recorded elem
  in_none r h [] u v = absurd v
  in_none r h (k ∷ hs) u v =
      ⊎_elim (λ e. subst (λ (z : ℕ). recorded R.edition r z ≡ false) (sym (eqb→eq h k e))
      (falsely (recorded R.edition r k) (and_left (not (recorded R.edition r k)) (none_recorded R r hs) u)))
      (λ e. in_none r h hs (and_right (not (recorded R.edition r k)) (none_recorded R r hs) u) e)
      (or_cases (eqb h k) (elem h hs) v)

-- a shared rule is recorded over what was read; it is not
module _ {R C : Course} (m : Shares R C) (r : ℕ) (shared : T (m.rule r)) (hs : List ℕ) (f : Forest) where
  pub recorded_over : T (all_recorded R r hs) → T (elem (shape f) hs) → recorded C.edition (m.number r) (shape f) ≡ true
  recorded_over u v = recorded_shared m r (shape f) shared ∙ in_all R r (shape f) hs u v

  pub unrecorded_over : T (none_recorded R r hs) → T (elem (shape f) hs) → recorded C.edition (m.number r) (shape f) ≡ false
  unrecorded_over u v = recorded_shared m r (shape f) shared ∙ in_none R r (shape f) hs u v
