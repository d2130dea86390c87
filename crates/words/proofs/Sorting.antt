-- A word sorted among the keywords near it is sorted as among all, and compared with at most three.
-- A keyword that is not near the word is not the same, case aside; no two keywords are; each has a row. Assumes nothing.
use mathlib.Core.Path.{◌≡◌, refl, ap, sym, ◌∙◌}
use mathlib.Core.Bool.{Bool, true, false, false≢true}
use mathlib.Core.List.{List, [], ◌∷◌}
use mathlib.Core.Logic.{⊎_elim}
use Prim.Native.Nat.{ℕ, zero, suc, ◌+◌, ◌≤◌, ◌<◌}
use Prim.Native.String.{String}
use native.Mathlib.Nat.{eq-or-lt_of_le}
use native.Mathlib.Omega.{arith}
use borrow.Author.Tests.{ltb-true, lt-ltb, eqb-true}
use lib.Dec.{ltb}
use lib.ListN.{length, get_or, drop, drop_of_length-le}
use lib.Seq.{drop-cons}
use Rattle.std.specs.Prelude.{Ok, Err}
use Rattle.kinds.specs.Kinds.{bytes, keywords, first_keyword, nth_keyword, keyword, search_from, same, identifier}
use Rattle.text.specs.Bytes.{at}
use Rattle.text.specs.Words.{lower, same_but_case, keyword_but_case, sorted}
use Rattle.text.specs.declared.Lexeme.TheVariants.{Token}
use Rattle.text.specs.declared.Fault.TheVariants.{OtherCase}
use Rattle.words.specs.Search.{filter, by_edition, near_to, near_keywords, most_near, sorted_among, comparisons}
use Rattle.words.specs.Table.{row_count, spelling}
use Rattle.words.proofs.Spellings.{unless, either, same_equal, same_case, case_near, case_like, near_length, near_letter}
use Rattle.words.proofs.Filter.{filter_none, filter_pass, filter_keep}
use Rattle.words.proofs.Rules.{row_words, row_at, keyword_at, case_kind_at, some_kind, distinct_at, few_near}

-- none of the spellings is like w
search_none : (k : ℕ) (like : List ℕ → List ℕ → Bool) (w : List ℕ) (vs : List String) →
    ((j : ℕ) → j < length vs → like w (bytes (get_or vs j "")) ≡ false) → search_from k like w vs ≡ 0
search_none k like w [] none = refl
search_none k like w (v ∷ vs) none =
    rw (none 0 (omega arith)) (search_none (suc k) like w vs (λ j h. none (suc j) (omega arith)))

-- none of the rows is, so none of the keywords
no_keyword : (like : List ℕ → List ℕ → Bool) (w : List ℕ) → ((j : ℕ) → j < row_count → like w (spelling j) ≡ false) →
    search_from first_keyword like w keywords ≡ 0
no_keyword like w none =
    search_none first_keyword like w keywords (λ k h. ap (like w) (row_at h).spelled ∙ none (row_at h).number (row_at h).in_list)

-- words that are like the same spellings are found alike
search_like : (k : ℕ) (like : List ℕ → List ℕ → Bool) (w v : List ℕ) (vs : List String) →
    ((x : List ℕ) → like w x ≡ like v x) → search_from k like w vs ≡ search_from k like v vs
search_like k like w v [] e = refl
search_like k like w v (x ∷ xs) e = rw (e (bytes x), search_like (suc k) like w v xs e)

module _ (w : List ℕ) where
  not_same : (v : List ℕ) → same_but_case w v ≡ false → same w v ≡ false
  not_same v e = unless (same w v) (same_but_case w v) (same_case w v) e

  -- one keyword more before some: the word is it, is it but for case, or is another
  module _ (v : String) (vs : List String) where
    pub met : same w (bytes v) ≡ true → sorted_among w (v ∷ vs) ≡ Ok (Token (keyword (bytes v)) (length w))
    unfolding sorted_among
    met e = rw e

    pub met_but_case : same w (bytes v) ≡ false → same_but_case w (bytes v) ≡ true → sorted_among w (v ∷ vs) ≡ Err (OtherCase (keyword (bytes v)))
    unfolding sorted_among
    met_but_case e f = rw (e, f)

    pub passed : same_but_case w (bytes v) ≡ false → sorted_among w (v ∷ vs) ≡ sorted_among w vs
    unfolding sorted_among
    passed f = rw (not_same (bytes v) f, f)

    -- in each case it is compared with it
    pub last_compared : same_but_case w (bytes v) ≡ true → comparisons w (v ∷ vs) ≡ 1
    unfolding comparisons
    last_compared f = rw f

    pub one_compared : same_but_case w (bytes v) ≡ false → comparisons w (v ∷ vs) ≡ suc (comparisons w vs)
    unfolding comparisons
    one_compared f = rw f

  pub sorted_end : sorted_among w [] ≡ Ok (Token identifier (length w))
  unfolding sorted_among
  sorted_end = refl

  pub none_compared : comparisons w [] ≡ 0
  unfolding comparisons
  none_compared = refl

  within : (vs : List String) → comparisons w vs ≤ length vs
  within [] = omega (arith, none_compared)
  within (v ∷ vs) =
      either (same_but_case w (bytes v)) (λ f. omega (arith, last_compared v vs f)) (λ f. omega (arith, one_compared v vs f, within vs))

  -- the keywords near it are keywords, with its length and, case aside, its first letter
  pub near_keyword : (j : ℕ) → j < length (near_keywords w) →
      let v = bytes (get_or (near_keywords w) j "") in
      (0 < keyword v) × ((length w ≡ length v) × (lower (at w 0) ≡ lower (at v 0)))
  unfolding near_keywords spelling
  near_keyword j h =
      let e = filter_pass (near_to w) by_edition j h in
      let k = filter_keep (near_to w) (λ v. ltb 0 (keyword v)) by_edition (λ i l. lt-ltb 0 _ (some_kind {i = i} (omega (arith, l, row_words)))) j h in
      (ltb-true 0 _ k, (near_length (lower (at w 0)) (length w) _ e, near_letter (lower (at w 0)) (length w) _ e))

  -- where no keyword has its length there are none
  no_near : ((k : ℕ) → k < length keywords → length w ≡ length (nth_keyword k) → ⊥) → near_keywords w ≡ []
  unfolding near_keywords spelling
  no_near other = filter_none (near_to w) by_edition (λ j h. not_near_row j (omega (arith, h, row_words)))
    where
      not_near_row : (j : ℕ) → j < row_count → near_to w (spelling j) ≡ false
      not_near_row j h =
          let k = keyword_at h in
          unless (near_to w (spelling j)) false
          (λ e. absurd (other k.number k.in_list (near_length (lower (at w 0)) (length w) (spelling j) e ∙ ap length k.spelled))) refl

  pub few : length (near_keywords w) ≤ most_near
  unfolding near_keywords
  few = few_near (lower (at w 0)) (length w)

  pub few_comparisons : comparisons w (near_keywords w) ≤ most_near
  few_comparisons = omega (arith, few, within (near_keywords w))

  pub no_comparison : ((k : ℕ) → k < length keywords → length w ≡ length (nth_keyword k) → ⊥) → comparisons w (near_keywords w) ≡ 0
  no_comparison other = ap (comparisons w) (no_near other) ∙ none_compared

  not_near : (v : List ℕ) → near_to w v ≡ false → same_but_case w v ≡ false
  not_near v e = unless (same_but_case w v) (near_to w v) (case_near w v) e

  -- what it is among filter behind a keyword decides, where that one does not
  behind : (v : String) (us vs : List String) → sorted_among w us ≡ sorted_among w vs → sorted_among w (v ∷ us) ≡ sorted_among w (v ∷ vs)
  unfolding sorted_among
  behind v us vs e = rw e

  -- keywords that are not near change nothing
  far_passed : (vs : List String) → sorted_among w (filter (near_to w) vs) ≡ sorted_among w vs
  unfolding filter
  far_passed [] = refl
  far_passed (v ∷ vs) =
      either (near_to w (bytes v)) (λ e. rw e (behind v (filter (near_to w) vs) vs (far_passed vs)))
      (λ e. rw e (far_passed vs ∙ sym (passed v vs (not_near (bytes v) e))))

  -- a word that is no keyword, case aside
  sorted_none : ((j : ℕ) → j < row_count → same_but_case w (spelling j) ≡ false) → Ok (Token identifier (length w)) ≡ sorted w (length w)
  unfolding sorted keyword keyword_but_case
  sorted_none none =
      rw (no_keyword same w (λ j h. not_same (spelling j) (none j h)), no_keyword same_but_case w none)

  -- one that is a spelling, case aside, has its kind, case aside
  pub case_kind : (v : List ℕ) → same_but_case w v ≡ true → keyword_but_case w ≡ keyword_but_case v
  unfolding keyword_but_case
  case_kind v f = search_like first_keyword same_but_case w v keywords (λ x. case_like w v x f)

  module _ {r : ℕ} (h : r < row_count) where
    -- one that is spelled as a row
    sorted_same : same w (spelling r) ≡ true → Ok (Token (keyword (spelling r)) (length w)) ≡ sorted w (length w)
    unfolding sorted
    sorted_same e =
        rw (same_equal w (spelling r) e, lt-ltb 0 (keyword (spelling r)) (some_kind h))

    -- one that differs from a row in case alone is spelled as no other
    spelled_none : same w (spelling r) ≡ false → same_but_case w (spelling r) ≡ true → keyword w ≡ 0
    unfolding keyword
    spelled_none e f = no_keyword same w (λ j l. unless (same w (spelling j)) false (λ s. absurd (other j l s)) refl)
      where
        other : (j : ℕ) → j < row_count → same w (spelling j) ≡ true → ⊥
        other j l s =
            let equal = same_equal w (spelling j) s in
            let alike : same_but_case (spelling j) (spelling r) ≡ true = ap (λ (v : List ℕ). same_but_case v (spelling r)) (sym equal) ∙ f in
            let one : j ≡ r = eqb-true j r (distinct_at h l ∙ alike) in
            false≢true (sym e ∙ ap (λ (i : ℕ). same w (spelling i)) (sym one) ∙ s)

    sorted_but_case : same w (spelling r) ≡ false → same_but_case w (spelling r) ≡ true → Err (OtherCase (keyword (spelling r))) ≡ sorted w (length w)
    unfolding sorted
    sorted_but_case e f =
        let k : keyword_but_case w ≡ keyword (spelling r) = case_kind (spelling r) f ∙ case_kind_at h in
        rw (spelled_none e f, k, lt-ltb 0 (keyword (spelling r)) (some_kind h))

    sorted_found : (v : String) (vs : List String) → bytes v ≡ spelling r → same_but_case w (spelling r) ≡ true →
        sorted_among w (v ∷ vs) ≡ sorted w (length w)
    sorted_found v vs s f =
        either (same w (spelling r)) (λ e. met v vs (rw s e) ∙ ap (λ (u : List ℕ). Ok (Token (keyword u) (length w))) s ∙ sorted_same e)
        (λ e. met_but_case v vs (rw s e) (rw s f) ∙ ap (λ (u : List ℕ). Err (OtherCase (keyword u))) s ∙ sorted_but_case e f)

  -- from a row on, where the word is none of the rows before it, case aside
  from_row : (left k : ℕ) → k + left ≡ row_count → ((j : ℕ) → j < k → same_but_case w (spelling j) ≡ false) →
      sorted_among w (drop k by_edition) ≡ sorted w (length w)
  unfolding spelling
  from_row zero k e before =
      ap (sorted_among w) (drop_of_length-le by_edition {i = k} (omega (arith, row_words))) ∙ sorted_end ∙ sorted_none (λ j h. before j (omega arith))
  from_row (suc left) k e before =
      let h : k < row_count = omega arith in
      ap (sorted_among w) (drop-cons by_edition k "" (omega (arith, row_words)))
      ∙ either (same_but_case w (spelling k)) (λ f. sorted_found h (get_or by_edition k "") (drop (suc k) by_edition) refl f)
      (λ f. passed (get_or by_edition k "") (drop (suc k) by_edition) f ∙ from_row left (suc k) (omega arith) (later f))
    where
      later : same_but_case w (spelling k) ≡ false → (j : ℕ) → j < suc k → same_but_case w (spelling j) ≡ false
      later f j l = ⊎_elim (λ (m : j ≡ k). ap (λ (i : ℕ). same_but_case w (spelling i)) m ∙ f) (λ (m : j < k). before j m) (eq-or-lt_of_le (omega arith))

  pub near_enough : sorted_among w (near_keywords w) ≡ sorted w (length w)
  unfolding near_keywords
  near_enough = far_passed by_edition ∙ from_row row_count 0 (omega arith) (λ j h. absurd (omega arith))
