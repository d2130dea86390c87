-- Words: the node that one makes; and types that begin with one, to which another rule passes on as the word ahead tells.
-- A test over a list of words computes what holds of each. Assumes nothing.
use Rattle.readers_core.proofs.Computing.{computing}
use Prim.Native.Nat.{ℕ}
use Prim.Native.String.{String}
use borrow.Author.Tests.{ne_eqb}
use mathlib.Core.Bool.{Bool, ◌&&◌}
use mathlib.Core.List.{List, [], ◌∷◌}
use mathlib.Core.Path.{◌≡◌, refl, sym}
use lib.Dec.{T, ltb, ltb→lt}
use Rattle.kinds.specs.Kinds.{identifier, kind_of}
use Rattle.kinds.specs.Lists.{kinds_of, only}
use Rattle.grammar.specs.Names.{rule}
use Rattle.prediction.specs.plans.Plan.{same_plan, Plan, call, seq, token, wrap}
use Rattle.prediction.proofs.plans.Plan.{same_plan_equal}
use Rattle.prediction.proofs.Sets.{and_left, and_right, each_at}
use Rattle.prediction.specs.Sets.{each}
use Rattle.readers_core.specs.Course.{Course, one, table_in}
use Rattle.readers_core.specs.Reading.{Reading, Closes, FlatFollows, From, IsKind, Reads, State, Takes, ahead}
use Rattle.readers_core.specs.Reading.{all_recorded, several}
use Rattle.readers_core.proofs.Choosing.{AnyOf, NoneOf, among, any_elem}
use Rattle.readers_core.proofs.Frames.{comes_to, coming, passed_by, passes_on}
use Rattle.readers_core.proofs.Sequence.{◌▸◌}
use Rattle.readers_core.proofs.Shapes.{leaves}
use Rattle.readers_names.specs.Plans.{rule_in, word_rule}

-- a word, and the node that it makes behind what was read since `start`
pub read_word : {R : Course} {ks : List ℕ} {d : ℕ} {start : Reading} {k r n : ℕ} {s t u : Reading} {hs w w' : List ℕ} → R.code r ≡ n →
    T (all_recorded R r several) → Takes ks (token k) s t → Closes n start (t, w) (u, w') →
    From R ks d start hs (seq (token k) (wrap r)) (s, w) (u, w')
unfolding leaves
read_word e t word node = ((word.reads _ _).in_any _ _) ▸ (node.wraps e _ _ _ t)

-- the first words of number types, and what a name begins with, in order of their kinds
abbrev pub numbers : List ℕ
numbers = kinds_of ("double" ∷ "float" ∷ "long" ∷ "short" ∷ "unsigned" ∷ [])

abbrev pub names : List ℕ
names = identifier ∷ kinds_of ("::" ∷ [])

-- the kinds of words, each by itself
abbrev pub kinds_in : List (String × String) → List (List ℕ)
kinds_in [] = []
kinds_in ((word, name) ∷ rest) = only word ∷ kinds_in rest

-- of a kind that is none of theirs
pub otherwise : (ws : List (String × String)) (k : ℕ) → NoneOf (kinds_in ws) k → rule "value_base_type" ≡ rule_in ws k
unfolding rule_in NoneOf AnyOf
otherwise [] k h = refl
otherwise ((word, name) ∷ rest) k h = rw (ne_eqb k (kind_of word) h.1) (otherwise rest k h.0)

-- a kind of a list of kinds
pub is_kind : (ls : List ℕ) (x : ℕ) → AnyOf ls x → T (each (ltb 0) ls) → IsKind x
is_kind ls x h t = ltb→lt 0 x (each_at (ltb 0) ls x t (any_elem ls x h))

-- a plan that comes to p of the kind ahead, for each kind of a list
unfoldable pub comes_as : (a : Plan) (p : ℕ → Plan) (k : ℕ) → Bool
unfolding computing
comes_as a p k = comes_to one (among (k ∷ [])) a (p k)

pub chosen_by : {a : Plan} (p : ℕ → Plan) (ls : List ℕ) {ks : List ℕ} {d x : ℕ} {start : Reading} {hs : List ℕ} {s s' : State} →
    x ≡ ahead ks s.0 → AnyOf ls x → T (each (comes_as a p) ls) → From one ks d start hs (p x) s s' →
    From one ks d start hs a s s'
unfolding comes_as
chosen_by {a} p ls {x = x} e h t = coming (among (x ∷ [])) e refl (each_at (comes_as a p) ls x t (any_elem ls x h))

-- the rule `target k` of each kind of a list has the plan p of the kind and the rule
unfoldable pub plans_of : (target : ℕ → ℕ) (p : ℕ → ℕ → Plan) (k : ℕ) → Bool
unfolding computing same_plan rule_in
plans_of target p k = same_plan ((table_in one).plan (target k)) (p k (target k))

pub plan_of : (target : ℕ → ℕ) (p : ℕ → ℕ → Plan) (ls : List ℕ) (x : ℕ) → AnyOf ls x → T (each (plans_of target p) ls) →
    (table_in one).plan (target x) ≡ p x (target x)
unfolding plans_of
plan_of target p ls x h t =
    same_plan_equal ((table_in one).plan (target x)) (p x (target x))
    (each_at (plans_of target p) ls x t (any_elem ls x h))

-- a rule that passes on to a type of one word
abbrev pub one_word : (k r : ℕ) → Plan
one_word k r = seq (token k) (wrap r)

unfoldable pub passes_word : (n : ℕ) (ls : List ℕ) → Bool
unfolding computing plans_of
passes_word n ls = passes_on one n word_rule ls && each (plans_of word_rule one_word) ls

pub by_word : (n : ℕ) (ls : List ℕ) {ks : List ℕ} {d x : ℕ} {s u : Reading} {r : ℕ} {w w' : List ℕ} → x ≡ ahead ks s → AnyOf ls x →
    r ≡ word_rule x → T (passes_word n ls) → FlatFollows ks r (one_word x) (s, w) (u, w') →
    Reads one ks d (call n) (s, w) (u, w')
unfolding passes_word
by_word n ls {d = d} {x = x} e h q t y =
    passed_by n word_rule ls e h (and_left (passes_on one n word_rule ls) (each (plans_of word_rule one_word) ls) t)
    ((y.reads (sym q) (plan_of word_rule one_word ls x h (and_right (passes_on one n word_rule ls) (each (plans_of word_rule one_word) ls) t))
    ).at_any d)
