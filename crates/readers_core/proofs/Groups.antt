-- Readers between an opening mark and its closing one, at one level of depth less.
-- By the cases of the opening mark, and of the body and its closing mark. Assumes nothing.
use Rattle.std.proofs.Common.{◌≡◌, ℕ, suc, ◌-◌, ◌<◌, Bool, true, false, ◌⊎◌, List, [], ◌∷◌, sym, refl, ◌∙◌, subst, inl, inr, add-one, arith}
use Rattle.grammar.specs.Forest.{Forest, leaf}
use Rattle.grammar.specs.Record.{shape}
use Rattle.grammar.specs.Sets.{elem}
use Rattle.prediction.specs.plans.Plan.{Plan, token, group, seq}
use Rattle.prediction.specs.Interpreter.{Outcome, blame, deep, stopped, Runs, run_token, run_miss, run_shut, run_deep}
use Rattle.prediction.specs.Interpreter.{run_inside, run_group, run_unclosed, run_seq, run_seq_stop}
use Rattle.prediction.specs.sharing.Renaming.{Inside, renamed}
use Rattle.prediction.specs.validator.Typing.{Table}
use Rattle.readers_core.specs.Course.{Course, table_in}
use Rattle.readers_core.specs.Reading.{Reading, kind_at, halted, State, several, ends_blame, ends_deep, From}
use Rattle.readers_core.specs.Reading.{Reads, Takes}
use Rattle.readers_core.specs.Reading.{Opens, opens_stopped, opens_blamed, opens_deep, opens_inside}
use Rattle.readers_core.proofs.Holding.{held_token}
use Rattle.readers_core.proofs.Sequence.{◌▸◌, after, does_stays, stopped_on}
use Rattle.readers_core.proofs.Sharing.{at_home}
use Rattle.readers_core.proofs.Halting.{going_if, stopped_if}
use Rattle.readers_core.proofs.Frames.{going}

-- where the mark is read, a level was left
pub level : {ks : List ℕ} {d k : ℕ} {s s' : Reading} → Opens ks d k s s' → s'.answer ≡ 0 → 0 < d
level (opens_stopped n e e') z = absurd (n (sym e ∙ z))
level (opens_blamed u n e e') z = absurd (omega arith)
level (opens_deep u n h e e') z = absurd (omega arith)
level (opens_inside u n h e a c) z = h

-- the group stops at its opening mark
pub shut_out : {R : Course} {k c : ℕ} {p : Plan} {ks : List ℕ} {d : ℕ} {start s s' : Reading} {hs w : List ℕ} → Opens ks d k s s' →
    (s'.answer ≡ 0 → ⊥) → From R ks d start hs (group k p c) (s, w) (s', w)
unfolding renamed
shut_out (opens_stopped n e e') m = record { does = λ _ _ b _ _. does_stays n (record { answers = e; places = e' }) }
shut_out {s = s} (opens_blamed z n e e') m = record {
  does = λ _ _ b _ _. record {
    stays = λ u. absurd (u z);
    runs = λ y f v. record { outcome = blame s.at; run = run_shut n; ends = ends_blame e e' };
  };
}
shut_out {k = k} {c = c} {p = p} {ks = ks} {s = s} (opens_deep z n h e e') _ = record {
  does = λ {C} m _ b _ _. record {
    stays = λ u. absurd (u z);
    runs = λ y f v. record {
      outcome = deep s.at;
      run =
          subst (λ (l : ℕ). Runs (table_in C) (kind_at ks) l (group k (renamed m.number p) c) s.at f (deep s.at))
          (sym h) (run_deep n);
      ends = ends_deep e e';
    };
  };
}
shut_out (opens_inside z n h e a c) m = absurd (m e)

close_group : {t : Table} {s : ℕ → ℕ} {l k c i : ℕ} {p : Plan} {f : Forest} {o : Outcome} → s i ≡ k →
    Runs t s l (seq p (token c)) (suc i) (leaf f k) o → Runs t s (suc l) (group k p c) i f o
close_group n (run_seq r (run_token u)) = run_group n r u
close_group n (run_seq r (run_miss u)) = run_unclosed n r u
close_group n (run_seq_stop r u) = run_inside n r u

-- the body and the closing mark, at one level less
pub grouped : {R : Course} {k c : ℕ} {p : Plan} {ks : List ℕ} {d : ℕ} {start s s1 : Reading} {hs w : List ℕ} {s2 : State} →
    Opens ks d k s s1 → s1.answer ≡ 0 → From R ks (d - 1) start (2 ∷ []) (seq p (token c)) (s1, w) s2 →
    From R ks d start hs (group k p c) (s, w) s2
unfolding stopped shape elem Inside renamed
grouped (opens_stopped n e e') m x = absurd (n (sym e ∙ m))
grouped (opens_blamed z n q q') m x = absurd (omega arith)
grouped (opens_deep z n h q q') m x = absurd (omega arith)
grouped {R} {k} {c} {p} {ks} {d} {start} {s} {s1} {hs} {w} {s2} (opens_inside z n h q a e) g x = record {
  does = λ {C} m v b i j. record {
    stays = λ u. absurd (u z);
    runs = λ _ f _. let y = (x.does m (v, tt) b i j).runs g (leaf f k) tt in
        record {
          outcome = y.outcome;
          run = deeper (close_group n
              (subst (λ (i : ℕ). Runs (table_in C) (kind_at ks) (d - 1) (seq (renamed m.number p) (token c)) i (leaf f k)
              y.outcome) (a ∙ add-one s.at) y.run));
          ends = after (held_token k b (s, w) (s1, w) f a e refl) y.ends;
        };
  };
}
  where
    deeper : {t : Table} {b : Plan} {f : Forest} {o : Outcome} →
        Runs t (kind_at ks) (suc (d - 1)) b s.at f o → Runs t (kind_at ks) d b s.at f o
    deeper {t} {b} {f} {o} r = subst (λ (l : ℕ). Runs t (kind_at ks) l b s.at f o) (omega arith) r

-- as readers are put together: the opening mark, the body at one level less, the closing mark
module _ {R : Course} {k c : ℕ} {p : Plan} {ks : List ℕ} {d : ℕ} {s t : Reading} {w : List ℕ} (o : Opens ks d k s t) where
  pub enclosed : {u v : Reading} {w' : List ℕ} → Reads R ks (d - 1) p (t, w) (u, w') → Takes ks (token c) u v →
      Reads R ks d (group k p c) (s, w) (v, w')
  enclosed {u} {v} {w'} body mark = record { in_any = λ start hs. go start hs (going t.answer) }
    where
      rest : (start : Reading) → From R ks (d - 1) start several (seq p (token c)) (t, w) (v, w')
      rest start = body.in_any start several ▸ (mark.reads (d - 1) w').in_any start _

      go : (start : Reading) (hs : List ℕ) → (t.answer ≡ 0) ⊎ (t.answer ≡ 0 → ⊥) →
          From R ks d start hs (group k p c) (s, w) (v, w')
      go start hs (inl z) = grouped o z (rest start)
      go start hs (inr n) = stopped_on n ((at_home (rest start) (start, []) refl refl).stays n) (shut_out o n)

  -- the same, where the levels left are told by another number
  pub between : {l : ℕ} {u v : Reading} {w' : List ℕ} → l ≡ d - 1 → Reads R ks l p (t, w) (u, w') → Takes ks (token c) u v →
      Reads R ks d (group k p c) (s, w) (v, w')
  between {u = u} {w' = w'} e body = enclosed (subst (λ (n : ℕ). Reads R ks n p (t, w) (u, w')) e body)

  -- with a test behind the mark, the group stops at it
  module _ {x : Bool} (e : x ≡ halted t) where
    pub shut : x ≡ true → Reads R ks d (group k p c) (s, w) (t, w)
    shut h = record { in_any = λ start hs. shut_out o (stopped_if t e h) }

-- a level is left where the test behind the mark does not tell a stop
pub room : {ks : List ℕ} {d k : ℕ} {s t : Reading} {x : Bool} → Opens ks d k s t → x ≡ halted t → x ≡ false → 0 < d
room {t = t} o e h = level o (going_if t e h)
