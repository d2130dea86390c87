-- Readers of repetitions: the part read so far as a continuation, and what is left to read, which falls with each turn.
-- A plan that is not empty moves on where it does not stop. Assumes nothing.
use Rattle.std.proofs.Common.{◌≡◌, ℕ, suc, ◌-◌, ◌*◌, ◌<◌, Bool, true, false, cond, not, ◌&&◌, T, eqb, ltb, ◌⊎◌, List, [], ◌∷◌, length, sym, refl, ◌∙◌, subst, inl, inr, arith, eqb→eq, ltb→lt, nltb→le, T_not}
use lib.Dec.{not_T}
use lib.ListN.{get_or-eq_default}
use Rattle.grammar.specs.Forest.{end}
use Rattle.grammar.specs.Record.{shape}
use Rattle.grammar.specs.Sets.{elem}
use Rattle.prediction.proofs.Sets.{and_both, and_left, and_right, decide, elem_eq}
use Rattle.prediction.specs.Sets.{subset}
use Rattle.prediction.specs.plans.Plan.{Plan, token, many, seq, skip}
use Rattle.prediction.specs.sharing.Renaming.{Inside, renamed}
use Rattle.prediction.specs.validator.Typing.{Table, null}
use Rattle.prediction.proofs.validator.Look.{Look, look_nothing, look_some, look}
use Rattle.prediction.specs.Interpreter.{Outcome, done, blame, deep, Runs}
use Rattle.prediction.proofs.correct.Sound.{sound}
use Rattle.prediction.proofs.validator.Check.{all_typed}
use Rattle.tables.specs.Tables.{token_width}
use Rattle.readers_core.specs.Course.{Course, one, table_in}
use Rattle.readers_core.specs.Reading.{Reading, kind_at, ahead, State, Ends, ends_done, ends_blame}
use Rattle.readers_core.specs.Reading.{ends_deep, From}
use Rattle.readers_core.proofs.Sharing.{at_home}
use Rattle.readers_core.proofs.Shapes.{leaves}
use Rattle.readers_core.proofs.Sequence.{◌▸◌, read_as, skipped}
use Rattle.readers_core.proofs.Choosing.{Known, among, except, AnyOf, Knows, goes_on, is_over, any_elem, elem_any}
use Rattle.readers_core.proofs.Choosing.{repeat_on, repeat_over, repeat_once, goes_on_shared, is_over_shared}
use Rattle.readers_core.proofs.Frames.{ahead_kind, going, known_there}

-- the repetition so far: whatever the rest of it does from here, the whole does from its start
pub record Far (R : Course) (ks : List ℕ) (d : ℕ) (start : Reading) (a : Plan) (s s' : State) : Type 0 where
  pub on : (s'' : State) → ((hs : List ℕ) → From R ks d start hs (many a) s' s'') → (hs : List ℕ) →
      From R ks d start hs (many a) s s''

pub far_here : {R : Course} {ks : List ℕ} {d : ℕ} {start : Reading} {a : Plan} {s : State} → Far R ks d start a s s
far_here = record { on = λ s'' x. x }

-- a plan that reads at least one token begins here
unfoldable pub repeats : Table → Known → Plan → Bool
unfolding goes_on null elem
repeats t (among ks) a = goes_on t (among ks) a && (not (null t a) && not (elem 0 ks))
repeats t (except arms) a = false

repeats_on : (t : Table) (k : Known) (a : Plan) → T (repeats t k a) → T (goes_on t k a)
unfolding repeats
repeats_on t (among ks) a u = and_left (goes_on t (among ks) a) (not (null t a) && not (elem 0 ks)) u
repeats_on t (except arms) a u = absurd u

module _ {R : Course} {ks : List ℕ} {d x : ℕ} {start : Reading} {a : Plan} {s s' : State} (k : Known) where
  -- where it goes on, one or more are as many as there are
  pub repeated : {hs : List ℕ} → x ≡ ahead ks s.0 → Knows k x → T (repeats (table_in R) k a) →
      From R ks d start hs (seq a (many a)) s s' → From R ks d start hs (many a) s s'
  unfolding Inside renamed
  repeated e h t = read_as (λ C m u. (
    (u, u),
    λ z f o. repeat_on C (kind_at ks) k (known_there ks s.0 k e h z) (renamed m.number a)
        (subst (λ (b : Bool). T b) (sym (goes_on_shared m k a u)) (repeats_on (table_in R) k a t)),
  ))

  -- a repetition that goes on reads one at least
  pub once_at_least : {hs : List ℕ} → x ≡ ahead ks s.0 → Knows k x → T (goes_on (table_in R) k a) →
      From R ks d start hs (many a) s s' → From R ks d start hs (seq a (many a)) s s'
  unfolding Inside renamed
  once_at_least e h t = read_as (λ C m u. (
    u.0,
    λ z f o. repeat_once C (kind_at ks) k (known_there ks s.0 k e h z) (renamed m.number a)
        (subst (λ (b : Bool). T b) (sym (goes_on_shared m k a u.0)) t),
  ))

  -- where it is over, it reads nothing
  none_more : {hs : List ℕ} → x ≡ ahead ks s.0 → Knows k x → T (is_over (table_in R) k a) →
      From R ks d start hs skip s s' → From R ks d start hs (many a) s s'
  unfolding Inside renamed
  none_more e h t = read_as (λ C m u. (
    tt,
    λ z f o. repeat_over C (kind_at ks) k (known_there ks s.0 k e h z) (renamed m.number a)
        (subst (λ (b : Bool). T b) (sym (is_over_shared m k a u)) t),
  ))

-- once more
pub far_more : {R : Course} {ks : List ℕ} {d x : ℕ} {start : Reading} {a : Plan} {s s' s'' : State} (k : Known) → x ≡ ahead ks s'.0 →
    Knows k x → T (repeats (table_in R) k a) → ((hs : List ℕ) → From R ks d start hs a s' s'') → Far R ks d start a s s' →
    Far R ks d start a s s''
far_more {a = a} k e h u y far =
    record { on = λ t z. far.on t (λ hs. repeated k e h u (y hs ▸ z (leaves a hs))) }

-- and no more
pub far_over : {R : Course} {ks : List ℕ} {d x : ℕ} {start : Reading} {a : Plan} {s s' : State} (k : Known) → x ≡ ahead ks s'.0 →
    Knows k x → T (is_over (table_in R) k a) → Far R ks d start a s s' → (hs : List ℕ) → From R ks d start hs (many a) s s'
far_over {s' = s'} k e h u far = far.on s' (λ hs. none_more k e h u skipped)

-- what is left to read: it falls with each turn of a repetition
abbrev pub remaining : List ℕ → Reading → ℕ
remaining ks s = cond (eqb s.answer 0) (suc (length ks - s.at)) 0

-- what a loop that reads parts keeps: the length of the tree table, and the repetition so far in any frame; and what falls
abbrev pub Turning : Plan → (tokens tree₀ : List ℕ) (s : Reading) (depth : ℕ) (t₀ : Reading) (tree : List ℕ) (t : Reading) → Type 0
Turning a tokens tree₀ s depth t₀ tree t =
    (length tree ≡ length tree₀) × ((start : Reading) → Far one tokens depth start a (s, tree₀) (t, tree))

abbrev pub to_read : (tokens tree₀ : List ℕ) (s : Reading) (depth : ℕ) (t₀ : Reading) (tree : List ℕ) (t : Reading) → ℕ
to_read tokens tree₀ s depth t₀ tree t = remaining tokens t

within : (ks : List ℕ) (i : ℕ) → (kind_at ks i ≡ 0 → ⊥) → i < length ks
within ks i n = go (decide (ltb (token_width * i) (length ks)))
  where
    go : T (ltb (token_width * i) (length ks)) ⊎ T (not (ltb (token_width * i) (length ks))) → i < length ks
    go (inl u) = let h = ltb→lt (token_width * i) (length ks) u in omega arith
    go (inr u) = absurd (n (get_or-eq_default ks 0 (nltb→le (token_width * i) (length ks) u)))

stopped_none : (m : ℕ) → (m ≡ 0 → ⊥) → (l : ℕ) → cond (eqb m 0) l 0 ≡ 0
stopped_none m f l = pick (eqb m 0) (λ t. f (eqb→eq m 0 t))
  where
    pick : (b : Bool) → (T b → ⊥) → cond b l 0 ≡ 0
    pick true f = absurd (f tt)
    pick false f = refl

-- where a token stands ahead, reading goes on, and the token is in the table
ahead_goes : (ks : List ℕ) (s : Reading) → (ahead ks s ≡ 0 → ⊥) → s.answer ≡ 0
ahead_goes ks s n = go (going s.answer)
  where
    go : (s.answer ≡ 0) ⊎ (s.answer ≡ 0 → ⊥) → s.answer ≡ 0
    go (inl z) = z
    go (inr f) = absurd (n (stopped_none s.answer f (kind_at ks s.at)))

ahead_within : (ks : List ℕ) (s : Reading) → (ahead ks s ≡ 0 → ⊥) → s.at < length ks
ahead_within ks s n = within ks s.at (λ e. n (ahead_kind ks s (ahead_goes ks s n) ∙ e))

module _ {R : Course} {ks : List ℕ} {d : ℕ} {start : Reading} {a : Plan} {s s' : State} (u : T (not (null (table_in R) a)))
    (x : (hs : List ℕ) → From R ks d start hs a s s') where
  moved : s.0.answer ≡ 0 → s'.0.answer ≡ 0 → s.0.at < s'.0.at
  unfolding shape elem
  moved z z' = let r = (at_home (x (0 ∷ [])) (start, []) refl refl).runs z end tt in far r.outcome r.run r.ends
    where
      ahead_of : {j : ℕ} → Look (table_in R) (kind_at ks) a s.0.at j → s.0.at < j
      ahead_of (look_nothing e v) = absurd (T_not (null (table_in R) a) u v)
      ahead_of (look_some h v) = h

      far : (o : Outcome) → Runs (table_in R) (kind_at ks) d a s.0.at end o →
          Ends R (start, []) end s s' o → s.0.at < s'.0.at
      far (done j g) r (ends_done e e' k) = let h =
          ahead_of (look (table_in R) (kind_at ks) (all_typed R.checked) (sound r)) in omega arith
      far (blame q) r (ends_blame e e') = absurd (omega arith)
      far (deep q) r (ends_deep e e') = absurd (omega arith)

  -- a token stands before the turn
  moves_on : (ahead ks s.0 ≡ 0 → ⊥) → remaining ks s'.0 < remaining ks s.0
  moves_on n = go (going s'.0.answer)
    where
      z : s.0.answer ≡ 0
      z = ahead_goes ks s.0 n

      go : (s'.0.answer ≡ 0) ⊎ (s'.0.answer ≡ 0 → ⊥) → remaining ks s'.0 < remaining ks s.0
      go (inr f) = rw (z, stopped_none s'.0.answer f) (omega arith)
      go (inl z') = let h = ahead_within ks s.0 n in let m = moved z z' in rw (z, z') (omega arith)

  -- a token stands behind it
  came_on : (ahead ks s'.0 ≡ 0 → ⊥) → remaining ks s'.0 < remaining ks s.0
  came_on n = go (going s.0.answer)
    where
      z' : s'.0.answer ≡ 0
      z' = ahead_goes ks s'.0 n

      go : (s.0.answer ≡ 0) ⊎ (s.0.answer ≡ 0 → ⊥) → remaining ks s'.0 < remaining ks s.0
      go (inr f) = absurd (f (sym ((at_home (x []) (start, []) refl refl).stays f).answers ∙ z'))
      go (inl z) = let h = ahead_within ks s'.0 n in let m = moved z z' in rw (z, z') (omega arith)

-- what a repetition that goes on tells
reads_some : (t : Table) (k : Known) (a : Plan) → T (repeats t k a) → T (not (null t a))
unfolding repeats
reads_some t (among ls) a u =
    and_left (not (null t a)) (not (elem 0 ls)) (and_right (goes_on t (among ls) a) (not (null t a) && not (elem 0 ls)) u)
reads_some t (except arms) a u = absurd u

some_ahead : (t : Table) (k : Known) (a : Plan) → T (repeats t k a) → {x : ℕ} → Knows k x → x ≡ 0 → ⊥
unfolding repeats Knows
some_ahead t (among ls) a u {x} h z =
    T_not (elem 0 ls)
    (and_right (not (null t a)) (not (elem 0 ls))
    (and_right (goes_on t (among ls) a) (not (null t a) && not (elem 0 ls)) u))
    (subst (λ (n : ℕ). T (elem n ls)) z (any_elem ls x h))
some_ahead t (except arms) a u h z = absurd u

pub falls : {R : Course} {ks : List ℕ} {d x : ℕ} {start : Reading} {a : Plan} {s s' : State} (k : Known) → x ≡ ahead ks s.0 → Knows k x →
    T (repeats (table_in R) k a) → ((hs : List ℕ) → From R ks d start hs a s s') → remaining ks s'.0 < remaining ks s.0
falls {R} {a = a} k e h u y = moves_on (reads_some (table_in R) k a u) y (λ z. some_ahead (table_in R) k a u h (e ∙ z))

-- the same, where the test stands behind the turn
pub falls_behind : {R : Course} {ks : List ℕ} {d x : ℕ} {start : Reading} {a : Plan} {s s' : State} (k : Known) → x ≡ ahead ks s'.0 →
    Knows k x → T (repeats (table_in R) k a) → ((hs : List ℕ) → From R ks d start hs a s s') →
    remaining ks s'.0 < remaining ks s.0
falls_behind {R} {a = a} k e h u y =
    came_on (reads_some (table_in R) k a u) y (λ z. some_ahead (table_in R) k a u h (e ∙ z))

-- one or more, so far: whatever one or more do from here, they do from the start
pub record Begun (R : Course) (ks : List ℕ) (d : ℕ) (start : Reading) (a : Plan) (s s' : State) : Type 0 where
  pub on : (s'' : State) → ((hs : List ℕ) → From R ks d start hs (seq a (many a)) s' s'') → (hs : List ℕ) →
      From R ks d start hs (seq a (many a)) s s''

pub begun_here : {R : Course} {ks : List ℕ} {d : ℕ} {start : Reading} {a : Plan} {s : State} → Begun R ks d start a s s
begun_here = record { on = λ s'' x. x }

-- one more, behind which others stand
pub begun_more : {R : Course} {ks : List ℕ} {d x : ℕ} {start : Reading} {a : Plan} {s s' s'' : State} (k : Known) → x ≡ ahead ks s''.0 →
    Knows k x → T (repeats (table_in R) k a) → ((hs : List ℕ) → From R ks d start hs a s' s'') → Begun R ks d start a s s' →
    Begun R ks d start a s s''
begun_more {a = a} {s'' = s''} k e h u y begun = record {
  on = λ t z. begun.on t (λ hs. y hs ▸ repeated k e h u (z (leaves a hs)));
}

-- the last one
pub begun_over : {R : Course} {ks : List ℕ} {d x : ℕ} {start : Reading} {a : Plan} {s s' s'' : State} (k : Known) → x ≡ ahead ks s''.0 →
    Knows k x → T (is_over (table_in R) k a) → ((hs : List ℕ) → From R ks d start hs a s' s'') → Begun R ks d start a s s' →
    (hs : List ℕ) → From R ks d start hs (seq a (many a)) s s''
begun_over {a = a} {s'' = s''} k e h u y begun = begun.on s'' (λ hs. y hs ▸ far_over k e h u far_here (leaves a hs))

-- what a loop keeps that reads one part at least
abbrev pub Beginning : Plan → (tokens tree₀ : List ℕ) (s : Reading) (depth : ℕ) (t₀ : Reading) (tree : List ℕ) (t : Reading) → Type 0
Beginning a tokens tree₀ s depth t₀ tree t =
    (length tree ≡ length tree₀) × ((start : Reading) → Begun one tokens depth start a (s, tree₀) (t, tree))

in_itself : (k : ℕ) → T (subset (k ∷ []) (k ∷ []))
unfolding subset
in_itself k = and_both (elem k (k ∷ [])) true (elem_eq k k refl) tt

-- tokens of one kind: another of it goes on, anything else ends them
pub kind_again : (t : Table) (k : ℕ) → 0 < k → T (repeats t (among (k ∷ [])) (token k))
unfolding repeats goes_on null AnyOf
kind_again t k h =
    and_both (subset (k ∷ []) (k ∷ [])) (not (elem 0 (k ∷ []))) (in_itself k)
    (not_T (elem 0 (k ∷ [])) (λ u. omega (arith, elem_any (k ∷ []) 0 u)))

pub kind_over : (t : Table) (k : ℕ) → T (is_over t (except ((k ∷ []) ∷ [])) (token k))
unfolding is_over
kind_over t k = in_itself k
