-- Rules that are a part and more parts behind it, of which one alone leaves no record.
-- More stand there where the kind ahead goes on with them; else the node of the one part is passed on. Assumes nothing.
use Rattle.std.proofs.Common.{◌≡◌, ℕ, Bool, true, false, T, List, sym, refl, subst}
use Rattle.prediction.specs.plans.Plan.{Plan, call, many, seq, skip, wrap}
use Rattle.readers_core.specs.Course.{Course, table_in}
use Rattle.readers_core.specs.Reading.{Reading, ahead, From, Reads, Closes, all_recorded, none_recorded, nothing}
use Rattle.readers_core.proofs.Choosing.{Known, Knows, choose, goes_on, is_over, pick}
use Rattle.readers_core.proofs.Frames.{chosen, frame_by}
use Rattle.readers_core.proofs.Repetition.{once_at_least}
use Rattle.readers_core.proofs.Sequence.{◌▸◌, skipped, unrecorded}
use Rattle.readers_core.proofs.Shapes.{leaves}

-- what is behind the first part, as the next kind tells
picked_on : (x y : Bool) (a b c : Plan) → T x → pick x y a b c ≡ a
unfolding pick
picked_on true y a b c u = refl
picked_on false y a b c u = absurd u

picked_over : (x y : Bool) (a b c : Plan) → (T x → ⊥) → T y → pick x y a b c ≡ b
unfolding pick
picked_over true y a b c n u = absurd (n tt)
picked_over false true a b c n u = refl
picked_over false false a b c n u = absurd u

module _ {R : Course} {ks : List ℕ} {d n x : ℕ} {s t : Reading} {a b : Plan} {w v : List ℕ} (plan_is : (table_in R).plan n ≡ seq a (seq (many b) (wrap n)))
    (first : Reads R ks d a (s, w) (t, v)) (k : Known) (e : x ≡ ahead ks t) (h : Knows k x) where
  pub several_parts : T (goes_on (table_in R) k b) → {u r : Reading} {w' w'' : List ℕ} → Reads R ks d (many b) (t, v) (u, w') →
      R.code n ≡ n → Closes n s (u, w') (r, w'') → T (all_recorded R n (leaves (seq b (many b)) (leaves a nothing))) →
      Reads R ks d (call n) (s, w) (r, w'')
  unfolding choose
  several_parts g {u} {r} {w'} {w''} more is closes recorded =
      frame_by n plan_is (first.in_any s nothing ▸ chosen k e h
      (subst (λ (p : Plan). From R ks d s (leaves a nothing) (seq p (wrap n)) (t, v) (r, w''))
      (sym (picked_on (goes_on (table_in R) k b) (is_over (table_in R) k b) (seq b (many b)) skip (many b) g))
      (once_at_least k e h g (more.in_any s _) ▸ closes.wraps is ks d _ recorded)))

  pub one_part : (T (goes_on (table_in R) k b) → ⊥) → T (is_over (table_in R) k b) →
      T (none_recorded R n (leaves skip (leaves a nothing))) → Reads R ks d (call n) (s, w) (t, v)
  unfolding choose
  one_part g o recorded =
      frame_by n plan_is (first.in_any s nothing ▸ chosen k e h
      (subst (λ (p : Plan). From R ks d s (leaves a nothing) (seq p (wrap n)) (t, v) (t, v))
      (sym (picked_over (goes_on (table_in R) k b) (is_over (table_in R) k b) (seq b (many b)) skip (many b) g o))
      (skipped ▸ unrecorded recorded)))
