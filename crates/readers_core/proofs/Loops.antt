-- Loops that read a part while the kind ahead tells that one begins: what a turn makes of the invariant, what falls, the end.
-- What is known of the kind is that it is one of those that the part starts with, or none of them. Assumes nothing.
use Rattle.std.proofs.Common.{◌≡◌, ℕ, ◌<◌, T, List, [], ◌∷◌, length, refl, ◌∙◌}
use Rattle.prediction.specs.plans.Plan.{Plan, many, seq}
use Rattle.readers_core.specs.Course.{one, table_in}
use Rattle.readers_core.specs.Reading.{Reading, ahead, Reads}
use Rattle.readers_core.proofs.Choosing.{Knows, among, except, is_over}
use Rattle.readers_core.proofs.Repetition.{Beginning, Turning, begun_here, begun_more, begun_over}
use Rattle.readers_core.proofs.Repetition.{falls, falls_behind, far_here, far_more, far_over, remaining, repeats}

module _ {ks : List ℕ} {d : ℕ} {a : Plan} where
  -- before the first turn
  pub no_turn : {s : Reading} {w : List ℕ} → Turning a ks w s d s w s
  no_turn = (refl, λ start. far_here)

  module _ {x : ℕ} {t : Reading} {w : List ℕ} (ls : List ℕ) (e : x ≡ ahead ks t) where
    module _ {t' : Reading} {w' : List ℕ} (h : Knows (among ls) x) (on : T (repeats (table_in one) (among ls) a))
        (y : Reads one ks d a (t, w) (t', w')) where
      pub turn_less : remaining ks t' < remaining ks t
      turn_less = falls {R = one} {start = t} (among ls) e h on (λ hs. y.in_any t hs)

      pub turn_again : {s : Reading} {w₀ : List ℕ} → length w' ≡ length w → Turning a ks w₀ s d s w t → Turning a ks w₀ s d s w' t'
      turn_again kept far = (kept ∙ far.0, λ start. far_more (among ls) e h on (λ hs. y.in_any start hs) (far.1 start))

    -- behind the last turn
    pub turned : {s : Reading} {w₀ : List ℕ} → Knows (except (ls ∷ [])) x → T (is_over (table_in one) (except (ls ∷ [])) a) →
        Turning a ks w₀ s d s w t → Reads one ks d (many a) (s, w₀) (t, w)
    turned h over far = record { in_any = λ start hs. far_over (except (ls ∷ [])) e h over (far.1 start) hs }

  -- the same where the test stands behind the part, so that one is read at least
  pub no_part : {s : Reading} {w : List ℕ} → Beginning a ks w s d s w s
  no_part = (refl, λ start. begun_here)

  module _ {x : ℕ} {t t' : Reading} {w w' : List ℕ} (ls : List ℕ) (e : x ≡ ahead ks t') (y : Reads one ks d a (t, w) (t', w')) where
    module _ (h : Knows (among ls) x) (on : T (repeats (table_in one) (among ls) a)) where
      pub part_less : remaining ks t' < remaining ks t
      part_less = falls_behind {R = one} {start = t} (among ls) e h on (λ hs. y.in_any t hs)

      pub part_again : {s : Reading} {w₀ : List ℕ} → length w' ≡ length w → Beginning a ks w₀ s d s w t →
          Beginning a ks w₀ s d s w' t'
      part_again kept begun =
          (kept ∙ begun.0, λ start. begun_more (among ls) e h on (λ hs. y.in_any start hs) (begun.1 start))

    pub last_part : {s : Reading} {w₀ : List ℕ} → Knows (except (ls ∷ [])) x → T (is_over (table_in one) (except (ls ∷ [])) a) →
        Beginning a ks w₀ s d s w t → Reads one ks d (seq a (many a)) (s, w₀) (t', w')
    last_part h over begun = record {
      in_any = λ start. begun_over (except (ls ∷ [])) e h over (λ hs. y.in_any start hs) (begun.1 start);
    }
