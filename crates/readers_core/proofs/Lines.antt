-- A plan behind the last part of another: what was read by the one and then by the other was read by the row that they make.
-- By induction on the plan in front. Assumes nothing.
use Rattle.std.proofs.Common.{ℕ, Bool, List}
use Rattle.grammar.specs.Forest.{Forest}
use Rattle.prediction.specs.plans.Plan.{Plan, token, group, call, wrap, seq, alt, skip, many}
use Rattle.prediction.specs.Interpreter.{Outcome, stopped, Runs, run_seq, run_seq_stop}
use Rattle.prediction.specs.sharing.Renaming.{Inside, renamed}
use Rattle.prediction.specs.validator.Typing.{Table}
use Rattle.readers_core.specs.Course.{Course}
use Rattle.readers_core.specs.Reading.{Reading, State, From}
use Rattle.readers_core.proofs.Shapes.{leaves}
use Rattle.readers_core.proofs.Sequence.{◌▸◌, read_as}

-- the parts of the first plan, and the second behind them
unfoldable pub append : Plan → Plan → Plan
append (seq a b) e = seq a (append b e)
append (token k) e = seq (token k) e
append (group o b c) e = seq (group o b c) e
append (call n) e = seq (call n) e
append (wrap r) e = seq (wrap r) e
append (alt a b) e = seq (alt a b) e
append skip e = seq skip e
append (many a) e = seq (many a) e

run_append : {t : Table} {s : ℕ → ℕ} {d i : ℕ} (number : ℕ → ℕ) (p e : Plan) {f : Forest} {x : Outcome} →
    Runs t s d (seq (renamed number p) (renamed number e)) i f x → Runs t s d (renamed number (append p e)) i f x
unfolding append renamed stopped
run_append n (seq a b) e (run_seq (run_seq r r') r'') = run_seq r (run_append n b e (run_seq r' r''))
run_append n (seq a b) e (run_seq (run_seq_stop r z) r') = absurd z
run_append n (seq a b) e (run_seq_stop (run_seq r r') z) = run_seq r (run_append n b e (run_seq_stop r' z))
run_append n (seq a b) e (run_seq_stop (run_seq_stop r z) z') = run_seq_stop r z
run_append n (token k) e r = r
run_append n (group o b c) e r = r
run_append n (call k) e r = r
run_append n (wrap k) e r = r
run_append n (alt a b) e r = r
run_append n skip e r = r
run_append n (many a) e r = r

inside_append : (S : ℕ → Bool) (p e : Plan) → Inside S (append p e) → Inside S p × Inside S e
unfolding append Inside
inside_append S (seq a b) e u = let v = inside_append S b e u.1 in ((u.0, v.0), v.1)
inside_append S (token k) e u = u
inside_append S (group o b c) e u = u
inside_append S (call k) e u = u
inside_append S (wrap k) e u = u
inside_append S (alt a b) e u = u
inside_append S skip e u = u
inside_append S (many a) e u = u

infixr 5 ◌▸▸◌
pub ◌▸▸◌ : {R : Course} {ks : List ℕ} {d : ℕ} {start : Reading} {hs : List ℕ} {p e : Plan} {s s' s'' : State} → From R ks d start hs p s s' →
    From R ks d start (leaves p hs) e s' s'' → From R ks d start hs (append p e) s s''
unfolding Inside renamed
◌▸▸◌ {p = p} {e = e} x y = read_as (λ C m u. (inside_append m.rule p e u, λ z f o. run_append m.number p e)) (x ▸ y)
