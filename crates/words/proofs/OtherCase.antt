-- A word that is no keyword, but one with the case of letters aside, differs from one keyword in case alone.
-- The search finds it at its number, and each keyword is found, case aside, at its own. Assumes nothing.
use mathlib.Core.Path.{◌≡◌, refl, ap, ◌∙◌}
use mathlib.Core.Bool.{Bool, true, false}
use mathlib.Core.List.{List, [], ◌∷◌}
use Prim.Native.Nat.{ℕ, suc, ◌+◌, ◌<◌}
use Prim.Native.String.{String}
use native.Mathlib.Omega.{arith}
use lib.ListN.{length, get_or}
use Rattle.kinds.specs.Kinds.{bytes, first_keyword, keywords, nth_keyword, same, keyword, search_from}
use Rattle.text.specs.Words.{same_but_case, keyword_but_case, CaseAlone}
use Rattle.words.proofs.Spellings.{unless, either, same_equal}
use Rattle.words.proofs.Rules.{own_number, some_kind, row_at}
use Rattle.words.proofs.Sorting.{case_kind}

-- where a search finds a spelling like w
record Hit (k : ℕ) (like : List ℕ → List ℕ → Bool) (w : List ℕ) (vs : List String) : Type 0 where
  place : ℕ
  inside : place < length vs
  found : search_from k like w vs ≡ k + place
  is_like : like w (bytes (get_or vs place "")) ≡ true

hit : (k : ℕ) (like : List ℕ → List ℕ → Bool) (w : List ℕ) (vs : List String) → 0 < search_from k like w vs → Hit k like w vs
hit k like w [] h = absurd (omega arith)
hit k like w (v ∷ vs) h =
    either (like w (bytes v))
    (λ e. record { place = 0; inside = omega arith; found = rw e (omega arith); is_like = e })
    (λ e.
    let later = hit (suc k) like w vs (rw e at h) in
    record { place = suc later.place; inside = omega (arith, later.inside); found = rw e (later.found ∙ omega arith); is_like = later.is_like })

module _ (w : List ℕ) where
  spelled_as_none : keyword w ≡ 0 → (n : ℕ) → n < length keywords → same w (nth_keyword n) ≡ false
  spelled_as_none none n l =
      unless (same w (nth_keyword n)) false
      (λ s. absurd (omega (arith, none, some_kind (row_at l).in_list, ap keyword (same_equal w (nth_keyword n) s ∙ (row_at l).spelled)))) refl

  pub case_alone : keyword w ≡ 0 → 0 < keyword_but_case w → CaseAlone w (keyword_but_case w)
  unfolding keyword_but_case
  case_alone none some =
      let h = hit first_keyword same_but_case w keywords some in
      record {
        number = h.place;
        in_list = h.inside;
        its_kind = h.found;
        unlike = spelled_as_none none;
        alike = h.is_like;
        alone = λ n l e. omega (arith, case_kind w (nth_keyword n) e, own_number l, h.found);
      }
