-- Reading one plan after the other: tokens, nodes, and frames put together as plans are.
-- A stopped state passes through, so each law goes by the outcome of its first part. Assumes nothing.
use Rattle.std.proofs.Common.{◌≡◌, ℕ, suc, ◌+◌, ◌-◌, ◌<◌, ◌≤◌, T, List, [], ◌∷◌, sym, refl, ◌∙◌, subst, add-one, arith}
use Rattle.grammar.specs.Forest.{Forest, end, leaf, node, join}
use Rattle.grammar.specs.Record.{tree_record, shape}
use Rattle.grammar.specs.Sets.{elem}
use Rattle.prediction.specs.plans.Plan.{Plan, token, wrap, seq, call, skip}
use Rattle.prediction.specs.Interpreter.{Outcome, done, blame, deep, stopped, Runs, run_token, run_miss, run_call}
use Rattle.prediction.specs.Interpreter.{run_call_stop, run_wrap, run_seq, run_seq_stop, run_skip}
use Rattle.prediction.specs.sharing.Renaming.{Inside, renamed}
use Rattle.readers_core.specs.Course.{Course, Shares, table_in}
use Rattle.readers_core.specs.Reading.{blaming, kind_at, ceiling, write, Reading, State, Held, Ends, ends_done, ends_blame}
use Rattle.readers_core.specs.Reading.{ends_deep, Ran, Stays, Does, From, all_recorded, none_recorded}
use Rattle.readers_core.proofs.Holding.{held_none, held_token, held_lost, held_kept, held_full, held_call}
use Rattle.readers_core.proofs.Shapes.{leaves, shapes, recorded_over, unrecorded_over}

-- what was held before goes on being held
pub after : {C : Course} {b s s' s'' : State} {f h : Forest} {o : Outcome} → (Held C b f s → Held C b h s') → Ends C b h s' s'' o →
    Ends C b f s s'' o
after k (ends_done e e' l) = ends_done e e' (λ x. l (k x))
after k (ends_blame e e') = ends_blame e e'
after k (ends_deep e e') = ends_deep e e'

halted : {C : Course} {b s s' t : State} {f : Forest} {o : Outcome} → T (stopped o) → Stays s' t → Ends C b f s s' o → Ends C b f s t o
unfolding stopped
halted z e (ends_done u v k) = absurd z
halted z e (ends_blame u v) = ends_blame (e.answers ∙ u) (e.places ∙ v)
halted z e (ends_deep u v) = ends_deep (e.answers ∙ u) (e.places ∙ v)

-- an end that is a stop stays
ended : {C : Course} {b s s' t : State} {f : Forest} {o : Outcome} → (s'.0.answer ≡ 0 → ⊥) → Stays s' t → Ends C b f s s' o →
    Ends C b f s t o
ended n e (ends_done u v k) = absurd (n u)
ended n e (ends_blame u v) = ends_blame (e.answers ∙ u) (e.places ∙ v)
ended n e (ends_deep u v) = ends_deep (e.answers ∙ u) (e.places ∙ v)

pub unmoved : {s : State} → Stays s s
unmoved = record { answers = refl; places = refl }

module _ {ks : List ℕ} {d : ℕ} where
  -- in one course
  module _ {C : Course} where
    pub does_stays : {hs : List ℕ} {p : Plan} {b s s' : State} → (s.0.answer ≡ 0 → ⊥) → Stays s s' →
        Does C ks d hs p b s s'
    does_stays n e = record { stays = λ u. e; runs = λ z f v. absurd (n z) }

    does_seq : (number : ℕ → ℕ) {hs : List ℕ} (a : Plan) {c : Plan} {b s s' s'' : State} → Does C ks d hs (renamed number a) b s s' →
        Does C ks d (leaves a hs) c b s' s'' → Does C ks d hs (seq (renamed number a) c) b s s''
    unfolding stopped
    does_seq number {hs} a {c} {b} {s} {s'} {s''} x y = record {
      stays = λ n. let p = x.stays n in let q = y.stays (λ e. n (sym p.answers ∙ e)) in
          record { answers = q.answers ∙ p.answers; places = q.places ∙ p.places };
      runs = λ z f v. go f v (x.runs z f v).outcome (x.runs z f v).run (x.runs z f v).ends;
    }
      where
        go : (f : Forest) → T (elem (shape f) hs) → (o : Outcome) →
            Runs (table_in C) (kind_at ks) d (renamed number a) s.0.at f o → Ends C b f s s' o →
            Ran C ks d (seq (renamed number a) c) b f s s''
        go f v (done m h) r (ends_done e e' k) =
            let z = y.runs e h (shapes C number a hs r v) in
            record {
              outcome = z.outcome;
              run = run_seq r (subst (λ (i : ℕ). Runs (table_in C) (kind_at ks) d c i h z.outcome) e' z.run);
              ends = after k z.ends;
            }
        go f v (blame q) r (ends_blame e e') = record {
          outcome = blame q;
          run = run_seq_stop r tt;
          ends = halted tt (y.stays (λ u. omega arith)) (ends_blame e e');
        }
        go f v (deep q) r (ends_deep e e') = record {
          outcome = deep q;
          run = run_seq_stop r tt;
          ends = halted tt (y.stays (λ u. omega arith)) (ends_deep e e');
        }

    -- a frame: it begins with nothing, and its forest goes behind the caller's
    pub does_call : (m : ℕ) {hs : List ℕ} {b s t : State} → s.0.answer ≡ 0 →
        Does C ks d (0 ∷ []) ((table_in C).plan m) s s t → Does C ks d hs (call m) b s t
    unfolding stopped shape elem
    does_call m {hs} {b} {s} {t} z x = record {
      stays = λ n. absurd (n z);
      runs = λ e f v. let y = x.runs e end tt in go f y.outcome y.run y.ends;
    }
      where
        go : (f : Forest) (o : Outcome) → Runs (table_in C) (kind_at ks) d ((table_in C).plan m) s.0.at end o →
            Ends C s end s t o → Ran C ks d (call m) b f s t
        go f (done j g) r (ends_done u v k) = record {
          outcome = done j (join f g);
          run = run_call r refl;
          ends = ends_done u v (λ h. held_call b s t f g h (k (held_none s (omega (arith, h.count_is)))));
        }
        go f (blame q) r (ends_blame u v) = record { outcome = blame q; run = run_call_stop r tt; ends = ends_blame u v }
        go f (deep q) r (ends_deep u v) = record { outcome = deep q; run = run_call_stop r tt; ends = ends_deep u v }

  -- in each course that shares the rules
  module _ {R : Course} where
    -- what was read by a plan was read by another that names no other rules and runs alike
    pub read_as : {hs : List ℕ} {p q : Plan} {start : Reading} {s s' : State} → ((C : Course) (m : Shares R C) → Inside m.rule q →
        Inside m.rule p × (s.0.answer ≡ 0 → (f : Forest) (o : Outcome) →
        Runs (table_in C) (kind_at ks) d (renamed m.number p) s.0.at f o →
        Runs (table_in C) (kind_at ks) d (renamed m.number q) s.0.at f o)) →
        From R ks d start hs p s s' → From R ks d start hs q s s'
    read_as again x = record {
      does = λ {C} m u b e e'.
          let a = again C m u in
          let y = x.does m a.0 b e e' in
          record {
            stays = y.stays;
            runs = λ z f v. let r = y.runs z f v in record { outcome = r.outcome; run = a.1 z f r.outcome r.run; ends = r.ends };
          };
    }

    -- a stopped state passes through
    pub stays : {hs : List ℕ} {p : Plan} {start : Reading} {s : State} → (s.0.answer ≡ 0 → ⊥) →
        From R ks d start hs p s s
    stays n = record { does = λ m u b e e'. does_stays n unmoved }

    -- what has stopped goes on having stopped there
    pub stopped_on : {hs : List ℕ} {p : Plan} {start : Reading} {s s' s'' : State} → (s'.0.answer ≡ 0 → ⊥) →
        Stays s' s'' → From R ks d start hs p s s' → From R ks d start hs p s s''
    stopped_on n y x = record {
      does = λ m u b e e'. let z = x.does m u b e e' in record {
        stays = λ v. let a = z.stays v in record { answers = y.answers ∙ a.answers; places = y.places ∙ a.places };
        runs = λ v f h. let r = z.runs v f h in record { outcome = r.outcome; run = r.run; ends = ended n y r.ends };
      };
    }

    infixr 5 ◌▸◌
    -- one plan after the other
    pub ◌▸◌ : {hs : List ℕ} {a c : Plan} {start : Reading} {s s' s'' : State} → From R ks d start hs a s s' →
        From R ks d start (leaves a hs) c s' s'' → From R ks d start hs (seq a c) s s''
    unfolding Inside renamed
    ◌▸◌ {a = a} x y = record { does = λ m u b e e'. does_seq m.number a (x.does m u.0 b e e') (y.does m u.1 b e e') }

    -- nothing is read
    pub skipped : {hs : List ℕ} {start : Reading} {s : State} → From R ks d start hs skip s s
    unfolding renamed
    skipped {s = s} = record {
      does = λ m u b e e'. record {
        stays = λ n. unmoved;
        runs = λ z f v. record { outcome = done s.0.at f; run = run_skip; ends = ends_done z refl (λ h. h) };
      };
    }

    -- a token that is there, and one that is not
    pub taken : {hs : List ℕ} {k : ℕ} {start s s' : Reading} {w : List ℕ} → s.answer ≡ 0 → kind_at ks s.at ≡ k →
        s'.answer ≡ 0 → s'.at ≡ s.at + 1 → s'.count ≡ s.count →
        From R ks d start hs (token k) (s, w) (s', w)
    unfolding renamed
    taken {k = k} {s = s} {s' = s'} {w = w} z e o a n = record {
      does = λ m u b _ _. record {
        stays = λ n. absurd (n z);
        runs = λ u f v. record {
          outcome = done (suc s.at) (leaf f k);
          run = run_token e;
          ends = ends_done o (a ∙ add-one s.at) (held_token k b (s, w) (s', w) f a n refl);
        };
      };
    }

    pub missed : {hs : List ℕ} {k : ℕ} {start s s' : Reading} {w : List ℕ} → s.answer ≡ 0 →
        (kind_at ks s.at ≡ k → ⊥) → s'.answer ≡ blaming → s'.at ≡ s.at →
        From R ks d start hs (token k) (s, w) (s', w)
    unfolding renamed
    missed {s = s} z e u v = record {
      does = λ m _ b _ _. record {
        stays = λ n. absurd (n z);
        runs = λ w f _. record { outcome = blame s.at; run = run_miss e; ends = ends_blame u v };
      };
    }

    -- the frame becomes one node without a record: nothing is done
    pub unrecorded : {hs : List ℕ} {r : ℕ} {start : Reading} {s : State} → T (none_recorded R r hs) →
        From R ks d start hs (wrap r) s s
    unfolding Inside renamed
    unrecorded {hs} {r} {start} {s} t = record {
      does = λ m u b e e'. record {
        stays = λ n. unmoved;
        runs = λ z f v. record {
          outcome = done s.0.at (node end (m.number r) f);
          run = run_wrap;
          ends = ends_done z refl
              (λ h. held_lost (m.number r) b (s.0, s.1) f h (unrecorded_over m r u hs f t v));
        };
      };
    }

    -- with a record, which readers write as rule n, and where the count stays at its ceiling
    pub recorded_node : {hs : List ℕ} {r n : ℕ} {start s s' : Reading} {w w' : List ℕ} → R.code r ≡ n → T (all_recorded R r hs) →
        s.answer ≡ 0 → s.count < ceiling → s'.answer ≡ 0 → s'.at ≡ s.at →
        s'.count ≡ s.count + 1 →
        (start.at ≤ s.at → start.count ≤ s.count → w' ≡ write w s.count
        (tree_record n start.at s.at (s.count + 1 - start.count))) →
        From R ks d start hs (wrap r) (s, w) (s', w')
    unfolding Inside renamed
    recorded_node {hs} {r} {n} {start} {s} {s'} {w} {w'} is t z low o a c e = record {
      does = λ m u b i j. record {
        stays = λ n. absurd (n z);
        runs = λ _ f v. record {
          outcome = done s.at (node end (m.number r) f);
          run = run_wrap;
          ends = ends_done {g = node end (m.number r) f} o a (λ h.
              let le : start.at ≤ s.at = omega (arith, h.at_is, i) in
              let le' : start.count ≤ s.count = omega (arith, h.count_is, j) in
              held_kept (m.number r) b (s, w) f h (s', w') (recorded_over m r u hs f t v) low a c
              (rw (m.same_code r u, is, i, j) (e le le')));
        };
      };
    }

    pub full_node : {hs : List ℕ} {r : ℕ} {start : Reading} {s : State} → T (all_recorded R r hs) → ceiling ≤ s.0.count →
        From R ks d start hs (wrap r) s s
    unfolding Inside renamed
    full_node {hs} {r} {start} {s} t high = record {
      does = λ m u b e e'. record {
        stays = λ n. unmoved;
        runs = λ z f v. record {
          outcome = done s.0.at (node end (m.number r) f);
          run = run_wrap;
          ends = ends_done z refl
              (λ h. held_full (m.number r) b (s.0, s.1) f h (recorded_over m r u hs f t v) high);
        };
      };
    }
