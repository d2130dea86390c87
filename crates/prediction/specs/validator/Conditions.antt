-- What is asked of each plan besides its type: marks in groups, a word, no left recursion, few nodes, one node left.
-- Definitions: Boolean tests, by the shape of the plan.
use Rattle.std.specs.Prelude.{ℕ, zero, suc, ◌+◌, ◌-◌, max, Bool, true, false, not, ◌&&◌, ◌||◌, leb}
use Rattle.grammar.specs.Depth.{opening, closing}
use Rattle.prediction.specs.plans.Plan.{Plan, token, group, call, wrap, seq, alt, skip, many}
use Rattle.prediction.specs.validator.Typing.{Table, null}

-- opening and closing marks stand in groups, and nowhere else
unfoldable pub marked : Plan → Bool
unfolding opening closing
marked (token k) = not (opening k) && not (closing k)
marked (group o b c) = (opening o && (not (opening c) && closing c)) && marked b
marked (call n) = true
marked (wrap r) = true
marked (seq a b) = marked a && marked b
marked (alt a b) = marked a && marked b
marked skip = true
marked (many a) = marked a

-- a word is made of the plan, where r are the frames that have one
unfoldable pub produces : (ℕ → Bool) → Plan → Bool
produces r (token k) = true
produces r (group o b c) = produces r b
produces r (call n) = r n
produces r (wrap n) = true
produces r (seq a b) = produces r a && produces r b
produces r (alt a b) = produces r a || produces r b
produces r skip = true
produces r (many a) = true

-- the frame n has a word that is made within k calls
unfoldable pub productive : (ℕ → Plan) → ℕ → ℕ → Bool
unfolding produces
productive T zero n = false
productive T (suc k) n = produces (productive T k) (T n)

-- each call that may come before anything is read is of a frame in r
unfoldable pub left_within : Table → (ℕ → Bool) → Plan → Bool
unfolding null
left_within t r (token k) = true
left_within t r (group o b c) = true
left_within t r (call m) = r m
left_within t r (wrap m) = true
left_within t r (seq a b) = left_within t r a && (not (null t a) || left_within t r b)
left_within t r (alt a b) = left_within t r a && left_within t r b
left_within t r skip = true
left_within t r (many a) = left_within t r a

-- the frame n comes to its first token within k calls
unfoldable pub left_founded : Table → ℕ → ℕ → Bool
unfolding left_within
left_founded t zero n = false
left_founded t (suc k) n = left_within t (left_founded t k) (t.plan n)

-- nodes less 32 for each token, plus 1000
unfoldable pub weight : (ℕ → ℕ) → Plan → ℕ
weight cap (token k) = 968
weight cap (group o b c) = weight cap b - 64
weight cap (call n) = cap n
weight cap (wrap r) = 1001
weight cap (seq a b) = weight cap a + weight cap b - 1000
weight cap (alt a b) = max (weight cap a) (weight cap b)
weight cap skip = 1000
weight cap (many a) = 1000

-- what is repeated adds nothing to the weight
unfoldable pub weighed : (ℕ → ℕ) → Plan → Bool
unfolding weight
weighed cap (token k) = true
weighed cap (group o b c) = weighed cap b
weighed cap (call n) = true
weighed cap (wrap r) = true
weighed cap (seq a b) = weighed cap a && weighed cap b
weighed cap (alt a b) = weighed cap a && weighed cap b
weighed cap skip = true
weighed cap (many a) = weighed cap a && leb (weight cap a) 1000

-- a plan leaves one node; where e holds, if it began with one
unfoldable pub leaves_one : (e : Bool) → Plan → Bool
leaves_one e (wrap r) = true
leaves_one e (seq a b) = leaves_one (leaves_one e a) b
leaves_one e (alt a b) = leaves_one e a && leaves_one e b
leaves_one e (many a) = e && leaves_one false a
leaves_one e skip = e
leaves_one e (token k) = false
leaves_one e (group o b c) = false
leaves_one e (call n) = false
