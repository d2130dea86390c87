-- Each plan has a word that it derives, wherever the word stands.
-- The word is put together by induction on the calls that it takes; kinds are changed from a place on to hold it.
use Prim.Native.Nat.{ℕ, zero, suc, ◌≤◌, ◌<◌}
use mathlib.Core.Path.{◌≡◌, refl, ◌∙◌}
use mathlib.Core.Logic.{◌⊎◌, inl, inr}
use mathlib.Core.Bool.{Bool, true, false, cond}
use mathlib.Core.List.{List, [], ◌∷◌, ◌++◌}
use native.Mathlib.Omega.{arith}
use lib.Dec.{T, eqb, eqb→eq, eqb_refl}
use Rattle.grammar.specs.Forest.{Forest, end, leaf, node, join}
use Rattle.grammar.proofs.Sets.{and_left, and_right, or_cases}
use Rattle.prediction.specs.plans.Plan.{Plan, token, group, call, wrap, seq, alt, skip, many, PlanDerives}
use Rattle.prediction.specs.plans.Plan.{plan_token, plan_group, plan_call, plan_wrap, plan_seq, plan_left}
use Rattle.prediction.specs.plans.Plan.{plan_right, plan_skip, plan_none}
use Rattle.prediction.specs.validator.Typing.{Table}
use Rattle.prediction.specs.validator.Conditions.{produces, productive}
use Rattle.prediction.proofs.Sets.{or_left, and_both}

-- the kinds s have the word w at i
unfoldable pub Reads : (ℕ → ℕ) → ℕ → List ℕ → Type 0
Reads s i [] = Unit {0}
Reads s i (k ∷ w) = (s i ≡ k) × Reads s (suc i) w

unfoldable pub past : ℕ → List ℕ → ℕ
past i [] = i
past i (k ∷ w) = past (suc i) w

pub past_forward : (i : ℕ) (w : List ℕ) → i ≤ past i w
unfolding past
past_forward i [] = omega arith
past_forward i (k ∷ w) = let h = past_forward (suc i) w in omega arith

reads_left : (s : ℕ → ℕ) (i : ℕ) (w v : List ℕ) → Reads s i (w ++ v) → Reads s i w
unfolding Reads
reads_left s i [] v r = tt
reads_left s i (k ∷ w) v r = (r.0, reads_left s (suc i) w v r.1)

reads_right : (s : ℕ → ℕ) (i : ℕ) (w v : List ℕ) → Reads s i (w ++ v) → Reads s (past i w) v
unfolding Reads past
reads_right s i [] v r = r
reads_right s i (k ∷ w) v r = reads_right s (suc i) w v r.1

past_append : (i : ℕ) (w v : List ℕ) → past i (w ++ v) ≡ past (past i w) v
unfolding past
past_append i [] v = refl
past_append i (k ∷ w) v = past_append (suc i) w v

-- s with k at n; s with the word w at n
unfoldable pub set_one : (ℕ → ℕ) → ℕ → ℕ → ℕ → ℕ
set_one s n k q = cond (eqb q n) k (s q)

unfoldable pub put : (ℕ → ℕ) → ℕ → List ℕ → ℕ → ℕ
put s n [] q = s q
put s n (k ∷ w) q = put (set_one s n k) (suc n) w q

set_one_at : (s : ℕ → ℕ) (n k : ℕ) → set_one s n k n ≡ k
unfolding set_one
set_one_at s n k = go (eqb n n) (eqb_refl n)
  where
    go : (b : Bool) → T b → cond b k (s n) ≡ k
    go true u = refl
    go false u = absurd u

set_one_off : (s : ℕ → ℕ) (n k q : ℕ) → q < n → set_one s n k q ≡ s q
unfolding set_one
set_one_off s n k q h = go (eqb q n) (eqb→eq q n)
  where
    go : (b : Bool) → (T b → q ≡ n) → cond b k (s q) ≡ s q
    go true u = let e = u tt in absurd (omega arith)
    go false u = refl

pub put_off : (s : ℕ → ℕ) (n : ℕ) (w : List ℕ) (q : ℕ) → q < n → put s n w q ≡ s q
unfolding put
put_off s n [] q h = refl
put_off s n (k ∷ w) q h = put_off (set_one s n k) (suc n) w q (omega arith) ∙ set_one_off s n k q h

pub put_at : (s : ℕ → ℕ) (n : ℕ) (w : List ℕ) → Reads (put s n w) n w
unfolding put Reads
put_at s n [] = tt
put_at s n (k ∷ w) = (
  put_off (set_one s n k) (suc n) w n (omega arith) ∙ set_one_at s n k,
  put_at (set_one s n k)
      (suc n) w,
)

-- a word that the plan derives wherever it stands
pub record Generates (t : Table) (p : Plan) : Type 0 where
  pub word : List ℕ
  pub makes : (s : ℕ → ℕ) (i : ℕ) (f : Forest) → Reads s i word →
      (g : Forest) × PlanDerives t.plan s p i (past i word) f g

generate_token : (t : Table) (k : ℕ) → Generates t (token k)
unfolding Reads past
generate_token t k = record { word = k ∷ []; makes = λ s i f r. (leaf f k, plan_token r.0) }

generate_group : (t : Table) (o c : ℕ) (b : Plan) → Generates t b → Generates t (group o b c)
unfolding Reads past
generate_group t o c b x = record {
  word = o ∷ (x.word ++ (c ∷ []));
  makes = λ s i f r.
      let r0 = r.1 in
      let y = x.makes s (suc i) (leaf f o) (reads_left s (suc i) x.word (c ∷ []) r0) in
      let z = reads_right s (suc i) x.word (c ∷ []) r0 in
      (leaf y.0 c, rw past_append (plan_group r.0 y.1 z.0));
}

generate_seq : (t : Table) (a b : Plan) → Generates t a → Generates t b → Generates t (seq a b)
generate_seq t a b x y = record {
  word = x.word ++ y.word;
  makes = λ s i f r.
      let u = x.makes s i f (reads_left s i x.word y.word r) in
      let v = y.makes s (past i x.word) u.0 (reads_right s i x.word y.word r) in
      (v.0, rw past_append (plan_seq u.1 v.1));
}

generate_left : (t : Table) (a b : Plan) → Generates t a → Generates t (alt a b)
generate_left t a b x =
    record
    { word = x.word; makes = λ s i f r. let u = x.makes s i f r in (u.0, plan_left u.1) }

generate_right : (t : Table) (a b : Plan) → Generates t b → Generates t (alt a b)
generate_right t a b x =
    record { word = x.word; makes = λ s i f r. let u = x.makes s i f r in (u.0, plan_right u.1) }

generate_call : (t : Table) (n : ℕ) → Generates t (t.plan n) → Generates t (call n)
generate_call t n x =
    record
    { word = x.word; makes = λ s i f r. let u = x.makes s i end r in (join f u.0, plan_call u.1 refl) }

generate_wrap : (t : Table) (n : ℕ) → Generates t (wrap n)
unfolding past
generate_wrap t n = record { word = []; makes = λ s i f r. (node end n f, plan_wrap) }

generate_skip : (t : Table) → Generates t skip
unfolding past
generate_skip t = record { word = []; makes = λ s i f r. (f, plan_skip) }

generate_many : (t : Table) (a : Plan) → Generates t (many a)
unfolding past
generate_many t a = record { word = []; makes = λ s i f r. (f, plan_none) }

generate_of : (t : Table) (r : ℕ → Bool) → ((n : ℕ) → T (r n) → Generates t (t.plan n)) → (p : Plan) →
    T (produces r p) → Generates t p
unfolding produces
generate_of t r k (token n) u = generate_token t n
generate_of t r k (group o b c) u = generate_group t o c b (generate_of t r k b u)
generate_of t r k (call n) u = generate_call t n (k n u)
generate_of t r k (wrap n) u = generate_wrap t n
generate_of t r k (seq a b) u =
    generate_seq t a b (generate_of t r k a (and_left (produces r a) (produces r b) u))
    (generate_of t r k b (and_right (produces r a) (produces r b) u))
generate_of t r k (alt a b) u =
    go (or_cases (produces r a) (produces r b) u) (generate_of t r k a) (generate_of t r k b)
  where
    go : T (produces r a) ⊎ T (produces r b) → (T (produces r a) → Generates t a) →
        (T (produces r b) → Generates t b) → Generates t (alt a b)
    go (inl v) x y = generate_left t a b (x v)
    go (inr v) x y = generate_right t a b (y v)
generate_of t r k skip u = generate_skip t
generate_of t r k (many a) u = generate_many t a

generate_frame : (t : Table) (k n : ℕ) → T (productive t.plan k n) → Generates t (t.plan n)
unfolding productive
generate_frame t zero n u = absurd u
generate_frame t (suc k) n u = generate_of t (productive t.plan k) (λ m v. generate_frame t k m v) (t.plan n) u

produces_all : (r : ℕ → Bool) → ((n : ℕ) → T (r n)) → (p : Plan) → T (produces r p)
unfolding produces
produces_all r w (token n) = tt
produces_all r w (group o b c) = produces_all r w b
produces_all r w (call n) = w n
produces_all r w (wrap n) = tt
produces_all r w (seq a b) = and_both (produces r a) (produces r b) (produces_all r w a) (produces_all r w b)
produces_all r w (alt a b) = or_left (produces r a) (produces r b) (produces_all r w a)
produces_all r w skip = tt
produces_all r w (many a) = tt

-- where each frame has a word within k calls, each plan has a word
pub generate : (t : Table) (k : ℕ) → ((n : ℕ) → T (productive t.plan k n)) → (p : Plan) → Generates t p
generate t k w p =
    generate_of t (productive t.plan k) (λ n u. generate_frame t k n u) p
    (produces_all (productive t.plan k) w p)
