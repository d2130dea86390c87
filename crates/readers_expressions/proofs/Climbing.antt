-- Operators between operands, by precedence climbing: how what was read since a state stands to the rules of the levels.
-- A rule of a level is its operand alone where no operator of the level is next, so it may be taken down. Assumes nothing.
use Rattle.readers_core.proofs.Computing.{computing}
use Prim.Native.Nat.{ℕ, zero, suc, ◌+◌, ◌-◌, ◌≤◌, ◌<◌}
use native.Mathlib.Omega.{arith}
use mathlib.Core.Path.{◌≡◌, refl, ap, sym, ◌∙◌, subst}
use mathlib.Core.List.{List, [], ◌∷◌}
use mathlib.Core.Logic.{◌⊎◌, inl, inr}
use Rattle.grammar.specs.Forest.{end, leaf}
use Rattle.grammar.specs.Record.{shape}
use Rattle.grammar.specs.Sets.{elem}
use Rattle.prediction.specs.plans.Plan.{token, call, wrap}
use Rattle.prediction.specs.Interpreter.{Outcome, Runs, run_wrap}
use Rattle.readers_core.specs.Course.{one, table_in}
use Rattle.readers_core.specs.Reading.{kind_at, Reading, ahead, State, Ends, ends_done, From, nothing, several, Reads}
use Rattle.readers_core.specs.Reading.{Within, Takes, Closes}
use Rattle.readers_core.proofs.Choosing.{among, except, any_elem, elem_any}
use Rattle.readers_core.proofs.Frames.{ahead_kind, ahead_none, frame_by, going}
use Rattle.readers_core.proofs.Repetition.{Far, far_here, far_more, far_over, falls, remaining}
use Rattle.readers_core.proofs.Sequence.{◌▸◌, unrecorded}
use Rattle.readers_core.proofs.Sharing.{at_home}
use Rattle.readers_core.proofs.Frames.{coming}
use Rattle.readers_expressions.specs.Levels.{loosest, tightest, operand, operators, further_operand, level_of}
use Rattle.readers_expressions.proofs.Operations.{at_level, apart, of_level, operates, Found, level}

-- in the repetition of level l: its first operand was read from s, and further ones up to t
pub record Open (ks : List ℕ) (d l : ℕ) (s t : State) : Type 0 where
  pub first : State
  pub operand : Reads one ks d (call (l + 1)) s first
  pub far : Far one ks d s.0 (further_operand l) first t

-- where an operator of level `level` or above is next, its level is open; else the level itself is read
pub record Ready (ks : List ℕ) (d level : ℕ) (s t : State) : Type 0 where
  pub on : {x k : ℕ} → x ≡ ahead ks t.0 → k ≡ level_of x → level ≤ k → Open ks d k s t
  pub over : {x k : ℕ} → x ≡ ahead ks t.0 → k ≡ level_of x → k < level → Reads one ks d (call level) s t

module _ {ks : List ℕ} {d : ℕ} {s t : State} where
  -- what a level's first operand opens; and its end, where no operator of the level is next
  lower : (l : ℕ) → Reads one ks d (call (l + 1)) s t → Open ks d l s t
  lower l r = record { first = t; operand = r; far = far_here }

  shut : (l : ℕ) → loosest ≤ l → l ≤ tightest → (level_of (ahead ks t.0) ≡ l → ⊥) → Open ks d l s t →
      Reads one ks d (call l) s t
  unfolding computing
  shut l low high n o =
      let v = at_level l low high in
      frame_by l v.plan (o.operand.in_any s.0 nothing ▸ unrecorded v.alone ▸
      far_over (except (operators l ∷ [])) refl
      (tt, λ u. n (of_level (ahead ks t.0) v (any_elem (operators l) (ahead ks t.0) u))) v.is_over o.far
      (1 ∷ []))

  -- from level m down to level l, k levels below
  down : (k l m : ℕ) → m ≡ l + k → loosest ≤ l → m ≤ operand → level_of (ahead ks t.0) < l → Reads one ks d (call m) s t →
      Reads one ks d (call l) s t
  down zero l m e low high h r = subst (λ (n : ℕ). Reads one ks d (call n) s t) (omega arith) r
  down (suc k) l m e low high h r =
      shut l low (omega arith) (λ u. omega (arith, h, u))
      (lower l (down k (l + 1) m (omega arith) (omega arith) high (omega (arith, h)) r))

  -- a rule of a level is read, and the next operator is looser
  pub settled : (level m : ℕ) → loosest ≤ level → level ≤ m → m ≤ operand → level_of (ahead ks t.0) < m →
      Reads one ks d (call m) s t → Ready ks d level s t
  settled level m low le high h r = record {
    on = λ {x} {k} e e' u. let n = e' ∙ ap level_of e in
        lower k (down (m - (k + 1)) (k + 1) m (omega (arith, n, h)) (omega (arith, u)) high (omega (arith, n)) r);
    over = λ e e' u. let n = e' ∙ ap level_of e in
        down (m - level) level m (omega arith) low high (omega (arith, n, u)) r;
  }

  -- a level is open, and the next operator is not tighter
  turned : (level k : ℕ) → loosest ≤ level → level ≤ k → k ≤ tightest → level_of (ahead ks t.0) < k + 1 →
      Open ks d k s t → Ready ks d level s t
  turned level k low le high h o = go (apart (level_of (ahead ks t.0)) k)
    where
      go : (level_of (ahead ks t.0) ≡ k) ⊎ (level_of (ahead ks t.0) ≡ k → ⊥) → Ready ks d level s t
      go (inl same) = record {
        on = λ e e' v. subst (λ (n : ℕ). Open ks d n s t) (sym (e' ∙ ap level_of e ∙ same)) o;
        over = λ e e' v. let n = e' ∙ ap level_of e in absurd (omega (arith, n, v, same));
      }
      go (inr other) = settled level k low le (omega arith) (omega (arith, h, other)) (shut k (omega arith) high other o)

-- a node does not move on
same_ahead : (ks : List ℕ) {r : ℕ} {start : Reading} {s s' : State} → From one ks 0 start several (wrap r) s s' →
    ahead ks s'.0 ≡ ahead ks s.0
unfolding shape elem
same_ahead ks {r} {start} {s} {s'} x = go (going s.0.answer)
  where
    stands : {o : Outcome} → s.0.answer ≡ 0 → Runs (table_in one) (kind_at ks) 0 (wrap r) s.0.at (leaf end 0) o →
        Ends one (start, []) (leaf end 0) s s' o → ahead ks s'.0 ≡ ahead ks s.0
    stands z run_wrap (ends_done e e' k) =
        ahead_kind ks s'.0 e ∙ ap (kind_at ks) e' ∙ sym (ahead_kind ks s.0 z)

    go : (s.0.answer ≡ 0) ⊎ (s.0.answer ≡ 0 → ⊥) → ahead ks s'.0 ≡ ahead ks s.0
    go (inl z) = let y = (at_home x (start, []) refl refl).runs z (leaf end 0) tt in stands z y.run y.ends
    go (inr n) =
        let y = (at_home x (start, []) refl refl).stays n in
        sym (ahead_none ks s'.0 (λ e. n (sym y.answers ∙ e))) ∙ ahead_none ks s.0 n

-- where an operator x of level k is next
module _ {ks : List ℕ} {k x : ℕ} {t : Reading} (found : Found k x) (e : x ≡ ahead ks t) where
  -- one turn: the operator, its right operand, and the node of all since `start`, behind which no tighter operator is next
  pub operated : {d : ℕ} {start m o u : Reading} {w w' w'' : List ℕ} → Takes ks (token x) t m →
      Reads one ks d (call (k + 1)) (m, w) (o, w') → Closes k start (o, w') (u, w'') → level_of (ahead ks o) < k + 1 →
      Within one ks d start (further_operand k) (t, w) (u, w'') × (level_of (ahead ks u) ≤ k)
  unfolding computing
  operated {d} {start} {w = w} takes reads closes looser =
      let same = ap level_of (same_ahead ks (closes.wraps refl ks 0 several (level found).together)) in (
        record {
          of_any = λ hs. coming (among (x ∷ [])) e refl (operates x (level found) found.has)
              (((takes.reads d w).in_any start hs ▸ reads.in_any start _) ▸ closes.wraps refl ks d _ (level found).together);
        },
        omega (arith, same, looser),
      )

  -- what it does: less is left to read, and all is ready for what is next then
  module _ {d : ℕ} {start u : Reading} {w w' : List ℕ} (turn : Within one ks d start (further_operand k) (t, w) (u, w')) where
    pub less : remaining ks u < remaining ks t
    unfolding computing
    less =
        falls (among (operators k)) e (elem_any (operators k) x found.has) (level found).goes_on turn.of_any

    pub climbed : {w₀ : List ℕ} (lowest : ℕ) → loosest ≤ lowest → lowest ≤ k → level_of (ahead ks u) ≤ k →
        Ready ks d lowest (start, w₀) (t, w) → Ready ks d lowest (start, w₀) (u, w')
    unfolding computing
    climbed lowest above le looser r =
        let before = r.on e (sym (of_level x (level found) found.has)) le in
        turned lowest k above le found.high (omega (arith, looser)) (record {
          first = before.first;
          operand = before.operand;
          far = far_more (among (operators k)) e (elem_any (operators k) x found.has) (level found).goes_on
              turn.of_any before.far;
        })
