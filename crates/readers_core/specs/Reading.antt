-- A reader's state with the tree table, and what reading by a plan makes of it: one relation for every reader.
-- Assumes nothing: these are definitions.
use Rattle.std.specs.Prelude.{◌≡◌, ℕ, suc, ◌+◌, ◌-◌, ◌*◌, ◌/◌, ◌%◌, ◌^◌, ◌<◌, min, Bool, true, cond, not, ◌&&◌, T, List, [], ◌∷◌, length, ◌==◌, ◌≢◌, nat_lt, ◌≤◌, slice_index}
use Rattle.grammar.specs.Forest.{Forest, width}
use Rattle.grammar.specs.Idl.{idl}
use Rattle.grammar.specs.Record.{TreeRecord, tree_record, shape, recorded}
use Rattle.grammar.specs.Sets.{elem}
use Rattle.prediction.specs.plans.Plan.{Plan, call, wrap}
use Rattle.prediction.specs.sharing.Renaming.{Inside, renamed}
use Rattle.prediction.specs.Interpreter.{Outcome, done, blame, deep, Runs}
use Rattle.readers_core.specs.Course.{Course, Shares, table_in, noted}
use Rattle.tables.specs.Tables.{token_width, node_width, number_end, put}

-- the kind of token i of a token table, 0 past its end
abbrev pub kind_at : List ℕ → ℕ → ℕ
kind_at tokens i = slice_index tokens (token_width * i)

-- a kind of token: 0 stands for the end
abbrev pub IsKind : ℕ → Type 0
IsKind k = 0 < k

-- what a reader has come to: it goes on, it blames a token, or one lies too deep; the last two are the numbers of the replies
abbrev pub going : ℕ
going = 0

abbrev pub blaming : ℕ
blaming = 7

abbrev pub sunk : ℕ
sunk = 8

-- where it stands: what it has come to, the next token, the tree records so far; and the rest of a stop, which no relation names:
-- with it the view of a number forgets nothing
pub record Reading : Type 0 where
  pub answer : ℕ
  pub at : ℕ
  pub count : ℕ
  pub rest : ℕ

-- it has stopped
abbrev pub halted : Reading → Bool
halted r = not (r.answer == going)

-- before the first token
abbrev pub beginning : Reading
beginning = record { answer = going; at = 0; count = 0; rest = 0 }

-- the same in one number: the next token in its low half, the records in its high half; from 2 ^ 63 on a stop, with 2 ^ 31
-- times its token, and a rest that tells the one for depth
abbrev pub half : ℕ
half = number_end

abbrev pub stop : ℕ
stop = 2 ^ 63

abbrev pub step : ℕ
step = 2 ^ 31

abbrev pub deep_rest : ℕ
deep_rest = step - 2

-- a stop at token 0
abbrev pub blamed : ℕ
blamed = stop + (step - 1)

abbrev pub too_deep : ℕ
too_deep = stop + deep_rest

-- a token table whose places fit 32 bits
abbrev pub Addressable : List ℕ → Type 0
Addressable tokens = length tokens < half

abbrev pub view : ℕ → Reading
view s = record {
  answer = cond (nat_lt s stop) going (cond (s % step == deep_rest) sunk blaming);
  at = cond (nat_lt s stop) (s % half) ((s - stop) / step);
  count = s / half;
  rest = cond (nat_lt s stop) 0 (s % step);
}

-- and the number of what a reader has come to
abbrev pub packed : Reading → ℕ
packed r = cond (r.answer == going) (r.at + half * r.count) (stop + (r.at * step + r.rest))

-- the kind of the next token, 0 at the end and where reading has stopped
abbrev pub ahead : List ℕ → Reading → ℕ
ahead tokens s = cond (s.answer == going) (kind_at tokens s.at) 0

-- a count of records stays where it fills its part
abbrev pub ceiling : ℕ
ceiling = step - 1

abbrev pub counted : ℕ → ℕ
counted n = min n ceiling

-- a tree table after one record at record place n, and after several from there on; none is written at the ceiling
unfoldable pub write : List ℕ → ℕ → TreeRecord → List ℕ
write table n (tree_record rule first past size) =
    cond (nat_lt n ceiling) (put node_width table n (rule ∷ first ∷ past ∷ size ∷ [])) table

unfoldable pub writes : List ℕ → ℕ → List TreeRecord → List ℕ
unfolding write
writes table n [] = table
writes table n (r ∷ rs) = writes (write table n r) (suc n) rs

-- what a reader has come to, with the tree table
abbrev pub State : Type 0
State = Reading × List ℕ

-- What reading by a plan is, from the inside out:
--   Held    what the frame of a rule has read: where it stands, and the records that are counted and written
--   Ends    how a run of a plan ends: with what was read held, with blame, or too deep
--   Ran     a run of the plan and its end
--   Does    whatever the state: a stop stays, and else the plan runs
--   From    so in each course that shares the rules, in the frame that began at `start` with one of the shapes before
--   Within  From, whatever the shapes before
--   Reads   Within, in any frame
--   Flat, FlatWithin, FlatFrom    the same, whatever the depth left
--   FlatFollows                   Flat, of whichever rule has a given plan
--   Takes, Opens, Closes          what readers are made of: tokens, opening marks, nodes

-- it goes on, and stops at the next token with this answer
pub record Stops (answer : ℕ) (s s' : Reading) : Type 0 where
  pub answers : s'.answer ≡ answer
  pub places : s'.at ≡ s.at

-- a stop stays: its answer and its place
pub record Stays (s s' : State) : Type 0 where
  pub answers : s'.0.answer ≡ s.0.answer
  pub places : s'.0.at ≡ s.0.at

-- in the course C
module _ (C : Course) where
  -- the frame that began in state b has read the forest f
  pub record Held (b : State) (f : Forest) (s : State) : Type 0 where
    pub at_is : s.0.at ≡ b.0.at + width f
    pub count_is : s.0.count ≡ counted (b.0.count + length (noted C b.0.at f))
    pub table_is : s.1 ≡ writes b.1 b.0.count (noted C b.0.at f)

  -- how a run from s, in the frame that began in state b and has read f, ends in s'
  pub data Ends (b : State) (f : Forest) (s s' : State) : Outcome → Type 0 where
    ends_done : {j : ℕ} {g : Forest} → s'.0.answer ≡ going → s'.0.at ≡ j → (Held b f s → Held b g s') →
        Ends b f s s' (done j g)
    ends_blame : {q : ℕ} → s'.0.answer ≡ blaming → s'.0.at ≡ q → Ends b f s s' (blame q)
    ends_deep : {q : ℕ} → s'.0.answer ≡ sunk → s'.0.at ≡ q → Ends b f s s' (deep q)

  pub record Ran (ks : List ℕ) (d : ℕ) (p : Plan) (b : State) (f : Forest) (s s' : State) : Type 0 where
    pub outcome : Outcome
    pub run : Runs (table_in C) (kind_at ks) d p s.0.at f outcome
    pub ends : Ends b f s s' outcome

  -- reading by plan p, on the token table ks with d levels of depth left, in the frame that began in state b and has read
  -- a forest of one of the shapes hs
  pub record Does (ks : List ℕ) (d : ℕ) (hs : List ℕ) (p : Plan) (b s s' : State) : Type 0 where
    pub stays : (s.0.answer ≢ going) → Stays s s'
    pub runs : s.0.answer ≡ going → (f : Forest) → T (elem (shape f) hs) → Ran ks d p b f s s'

-- by the plans of the course R, in each course that shares the rules which they name
module _ (R : Course) where
  -- in the frame that began where `start` stands, with one of the shapes hs before
  pub record From (ks : List ℕ) (d : ℕ) (start : Reading) (hs : List ℕ) (p : Plan) (s s' : State) : Type 0 where
    pub does : {C : Course} (m : Shares R C) → Inside m.rule p → (b : State) → b.0.at ≡ start.at →
        b.0.count ≡ start.count → Does C ks d hs (renamed m.number p) b s s'

  -- in the frame that began where `start` stands, whatever its shape
  pub record Within (ks : List ℕ) (d : ℕ) (start : Reading) (p : Plan) (s s' : State) : Type 0 where
    pub of_any : (hs : List ℕ) → From ks d start hs p s s'

  -- in any frame
  pub record Reads (ks : List ℕ) (d : ℕ) (p : Plan) (s s' : State) : Type 0 where
    pub in_any : (start : Reading) (hs : List ℕ) → From ks d start hs p s s'

  -- in any frame, whatever the depth
  pub record Flat (ks : List ℕ) (p : Plan) (s s' : State) : Type 0 where
    pub at_any : (d : ℕ) → Reads ks d p s s'

  -- in the frame that began where `start` stands, whatever the depth
  pub record FlatWithin (ks : List ℕ) (start : Reading) (p : Plan) (s s' : State) : Type 0 where
    pub at_any : (d : ℕ) → Within ks d start p s s'

  -- with one of the shapes hs before, whatever the depth
  pub record FlatFrom (ks : List ℕ) (start : Reading) (hs : List ℕ) (p : Plan) (s s' : State) : Type 0 where
    pub at_any : (d : ℕ) → From ks d start hs p s s'

  -- a use of rule r is recorded over each of these shapes; over none of them: tests that compute in edition 1
  unfoldable pub all_recorded : ℕ → List ℕ → Bool
  unfolding recorded idl
  all_recorded r [] = true
  all_recorded r (h ∷ hs) = recorded R.edition r h && all_recorded r hs

  unfoldable pub none_recorded : ℕ → List ℕ → Bool
  unfolding recorded idl
  none_recorded r [] = true
  none_recorded r (h ∷ hs) = not (recorded R.edition r h) && none_recorded r hs

-- the shapes of nothing, and of all but nothing and one node
abbrev pub nothing : List ℕ
nothing = 0 ∷ []

abbrev pub several : List ℕ
several = 2 ∷ []

-- tokens alone, in every course, whatever the depth and the tree table
pub record Takes (ks : List ℕ) (p : Plan) (s s' : Reading) : Type 0 where
  pub reads : {R : Course} (d : ℕ) (w : List ℕ) → Reads R ks d p (s, w) (s', w)

-- what was read since `start` becomes a node of the rule that readers write as n, with its record, in every course
pub record Closes (n : ℕ) (start : Reading) (s s' : State) : Type 0 where
  pub wraps : {R : Course} {r : ℕ} → R.code r ≡ n → (ks : List ℕ) (d : ℕ) (hs : List ℕ) → T (all_recorded R r hs) →
      From R ks d start hs (wrap r) s s'

-- the rule that readers write as n, in every course where its plan is p, whatever the depth
pub record FlatFollows (ks : List ℕ) (n : ℕ) (p : ℕ → Plan) (s s' : State) : Type 0 where
  pub reads : {R : Course} {r : ℕ} → R.code r ≡ n → (table_in R).plan r ≡ p r → Flat R ks (call r) s s'

-- an opening mark k, with d levels of depth left
pub data Opens (ks : List ℕ) (d k : ℕ) (s s' : Reading) : Type 0 where
  opens_stopped : (s.answer ≢ going) → s'.answer ≡ s.answer → s'.at ≡ s.at → Opens ks d k s s'
  opens_blamed : s.answer ≡ going → (kind_at ks s.at ≢ k) → s'.answer ≡ blaming →
      s'.at ≡ s.at → Opens ks d k s s'
  opens_deep : s.answer ≡ going → kind_at ks s.at ≡ k → d ≡ 0 → s'.answer ≡ sunk →
      s'.at ≡ s.at → Opens ks d k s s'
  opens_inside : s.answer ≡ going → kind_at ks s.at ≡ k → 0 < d → s'.answer ≡ going →
      s'.at ≡ s.at + 1 → s'.count ≡ s.count → Opens ks d k s s'
