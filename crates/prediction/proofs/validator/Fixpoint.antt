-- Each claim at each rule number, from the one test over the list of plans.
-- By induction on the list, and by the parts of the test.
use Prim.Native.Nat.{ℕ, zero, suc, ◌≤◌}
use mathlib.Core.Path.{◌≡◌, refl}
use mathlib.Core.Bool.{Bool, true, false, ◌&&◌}
use mathlib.Core.List.{List, [], ◌∷◌}
use lib.Dec.{T, leb, leb→le}
use lib.ListN.{get_or}
use Rattle.grammar.specs.Sets.{elem}
use Rattle.grammar.proofs.Sets.{and_left, and_right}
use Rattle.prediction.specs.Sets.{subset}
use Rattle.prediction.specs.plans.Plan.{Plan, wrap, seq, skip}
use Rattle.prediction.specs.validator.Typing.{Table, null, first, follow_last, typed}
use Rattle.prediction.specs.validator.Conditions.{produces, marked, weight, weighed, left_within}
use Rattle.prediction.specs.validator.Fixpoint.{plan_at, by_number, weight_in, caps, implies, settled, every}
use Rattle.prediction.proofs.Sets.{subset_in}

pub every_at : (f : Plan → Bool) (ps : List Plan) (d : Plan) → T (f d) → T (every f ps) → (n : ℕ) →
    T (f (get_or ps n d))
unfolding every
every_at f [] d e u n = e
every_at f (p ∷ ps) d e u zero = and_left (f p) (every f ps) u
every_at f (p ∷ ps) d e u (suc n) = every_at f ps d e (and_right (f p) (every f ps) u) n

by_number_at : (w : Plan → ℕ) (ps : List Plan) (n : ℕ) (d : Plan) → get_or (by_number w ps) n (w d) ≡ w (get_or ps n d)
unfolding by_number
by_number_at w [] n d = refl
by_number_at w (p ∷ ps) zero d = refl
by_number_at w (p ∷ ps) (suc n) d = by_number_at w ps n d

pub cap_at : (ps : List Plan) (k n : ℕ) → caps ps (suc k) n ≡ weight (caps ps k) (plan_at ps n)
unfolding caps weight_in plan_at weight
cap_at ps k n = by_number_at (weight (caps ps k)) ps n (seq skip (wrap n))

pub imply : (a b : Bool) → T (implies a b) → T a → T b
unfolding implies
imply true b u v = u
imply false b u v = absurd v

-- the parts of the test of one plan
pub record Settled (t' t : Table) (produced founded : ℕ → Bool) (w' w : ℕ → ℕ) (p : Plan) : Type 0 where
  pub well_typed : T (typed t p)
  pub null_kept : T (null t p) → T (null t' p)
  pub null_exact : T (null t' p) → T (null t p)
  pub first_kept : (k : ℕ) → T (elem k (first t p)) → T (elem k (first t' p))
  pub follow_last_kept : (k : ℕ) → T (elem k (follow_last t p)) → T (elem k (follow_last t' p))
  pub well_marked : T (marked p)
  pub produced_kept : T (produces produced p)
  pub founded_kept : T (left_within t founded p)
  pub well_weighed : T (weighed w p)
  pub weight_kept : weight w p ≤ weight w' p

pub settled_parts : (t' t : Table) (r f : ℕ → Bool) (w' w : ℕ → ℕ) (p : Plan) → T (settled t' t r f w' w p) →
    Settled t' t r f w' w p
unfolding settled
settled_parts t' t r f w' w p u =
    let nulls = implies (null t p) (null t' p) && implies (null t' p) (null t p) in
    let sets = subset (first t p) (first t' p) && subset (follow_last t p) (follow_last t' p) in
    let ways = marked p && (produces r p && left_within t f p) in
    let weights = weighed w p && leb (weight w p) (weight w' p) in
    let u1 = and_right (typed t p) (nulls && (sets && (ways && weights))) u in
    let u2 = and_right nulls (sets && (ways && weights)) u1 in
    let u3 = and_right sets (ways && weights) u2 in
    let n = and_left nulls (sets && (ways && weights)) u1 in
    let s = and_left sets (ways && weights) u2 in
    let v = and_left ways weights u3 in
    let v' = and_right (marked p) (produces r p && left_within t f p) v in
    let x = and_right ways weights u3 in
    record {
      well_typed = and_left (typed t p) (nulls && (sets && (ways && weights))) u;
      null_kept = imply (null t p) (null t' p)
          (and_left (implies (null t p) (null t' p)) (implies (null t' p) (null t p)) n);
      null_exact = imply (null t' p) (null t p)
          (and_right (implies (null t p) (null t' p)) (implies (null t' p) (null t p)) n);
      first_kept = λ k. subset_in k (first t p) (first t' p)
          (and_left (subset (first t p) (first t' p)) (subset (follow_last t p) (follow_last t' p)) s);
      follow_last_kept = λ k. subset_in k (follow_last t p) (follow_last t' p)
          (and_right (subset (first t p) (first t' p)) (subset (follow_last t p) (follow_last t' p)) s);
      well_marked = and_left (marked p) (produces r p && left_within t f p) v;
      produced_kept = and_left (produces r p) (left_within t f p) v';
      founded_kept = and_right (produces r p) (left_within t f p) v';
      well_weighed = and_left (weighed w p) (leb (weight w p) (weight w' p)) x;
      weight_kept = leb→le (weight w p) (weight w' p) (and_right (weighed w p) (leb (weight w p) (weight w' p)) x);
    }
