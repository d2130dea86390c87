-- The search at a row: what it answers and how often it compares from there on, what is left of the keywords near the word and how many came before.
-- Each comparison passes one of them, and the rows up to the next add none. Assumes nothing.
use mathlib.Core.Path.{◌≡◌, refl, ap, sym, subst, ◌∙◌}
use mathlib.Core.Bool.{Bool, true, false, cond}
use mathlib.Core.List.{List, [], ◌∷◌}
use Prim.Native.Nat.{ℕ, suc, ◌+◌, ◌≤◌, ◌<◌}
use Prim.Native.String.{String}
use native.Mathlib.Nat.{zero-add}
use native.Mathlib.Omega.{arith}
use lib.ListN.{length, get_or, drop, drop_of_length-le}
use Rattle.std.specs.Prelude.{Option, Some, None, MatchOption, Result, Ok, Err}
use Rattle.kinds.specs.Kinds.{keyword, same, identifier}
use Rattle.text.specs.Bytes.{at}
use Rattle.text.specs.Words.{lower, same_but_case}
use Rattle.text.specs.declared.Lexeme.{Lexeme}
use Rattle.text.specs.declared.Fault.{Fault}
use Rattle.text.specs.declared.Lexeme.TheVariants.{Token}
use Rattle.text.specs.declared.Fault.TheVariants.{OtherCase}
use Rattle.words.specs.Search.{filter, by_edition, near_to, near_keywords, most_near, sorted_among, comparisons}
use Rattle.words.specs.Comparison.{likeness}
use Rattle.words.specs.Table.{row_count, spelling, First}
use Rattle.words.specs.declared.keywords.Row.{Row}
use Rattle.words.specs.declared.comparison.Likeness.{Likeness}
use Rattle.words.specs.declared.comparison.Likeness.TheVariants.{Same, ButCase, Different}
use Rattle.words.proofs.Spellings.{same_case, near_length, near_letter}
use Rattle.words.proofs.Filter.{filter_behind, filter_from}
use Rattle.words.proofs.Rules.{row_words, first_none}
use Rattle.words.proofs.Sorting.{met, met_but_case, passed, last_compared, one_compared, sorted_end, none_compared, few}

-- what an answer of a comparison tells
abbrev Told : Bool → Bool → Likeness → Type 0
Told exact but_case Same = exact ≡ true
Told exact but_case ButCase = (exact ≡ false) × (but_case ≡ true)
Told exact but_case Different = but_case ≡ false

answer : (exact but_case : Bool) → Told exact but_case (cond exact Same (cond but_case ButCase Different))
answer true but_case = refl
answer false true = (refl, refl)
answer false false = refl

told : (w v : List ℕ) {r : Likeness} → r ≡ likeness w v → Told (same w v) (same_but_case w v) r
unfolding likeness
told w v e = subst (Told (same w v) (same_but_case w v)) (sym e) (answer (same w v) (same_but_case w v))

-- the row that the search stands at; the end of the table where there is none
abbrev pub place : Option Row → ℕ
place None = row_count
place (Some row) = row.number

pub first_place : {test : List ℕ → Bool} {i : ℕ} (near : Option Row) →
    MatchOption near (First test i row_count) (λ row. First test i row.number) → First test i (place near)
first_place None f = f
first_place (Some row) f = f

-- the row of a number that the table says is the first
pub row_of : {test : List ℕ → Bool} {i number : ℕ} (near : Option Row) → i ≤ row_count →
    MatchOption near (row_count ≤ number) (λ row. row.number ≡ number) → First test i number →
    MatchOption near (First test i row_count) (λ row. First test i row.number)
row_of None h l f = first_none h l f
row_of (Some row) h e f = rw e f

-- the keywords near a word, from a row on
abbrev left : List ℕ → ℕ → List String
left w row = filter (near_to w) (drop row by_edition)

-- the search of w at this row, after so many comparisons
pub record Searching (w : List ℕ) (row compared : ℕ) : Type 0 where
  pub answers : sorted_among w (left w row) ≡ sorted_among w (near_keywords w)
  pub counts : compared + comparisons w (left w row) ≡ comparisons w (near_keywords w)
  pub each_once : compared + length (left w row) ≡ length (near_keywords w)
  pub there : row < row_count → near_to w (spelling row) ≡ true

-- at a row
pub at_row : {w : List ℕ} {near : Option Row} {row : Row} {compared : ℕ} → near ≡ Some row → Searching w (place near) compared →
    Searching w row.number compared
at_row {w} {row = row} {compared = compared} e s = subst (λ (near : Option Row). Searching w (place near) compared) e s

pub no_row : (near : Option Row) → ((row : Row) → near ≡ Some row → ⊥) → row_count ≤ place near
no_row None h = omega arith
no_row (Some row) h = absurd (h row refl)

-- what the search has come to
abbrev pub Found : List ℕ → Result Lexeme Fault → ℕ → Type 0
Found w r compared = (r ≡ sorted_among w (near_keywords w)) × (compared ≡ comparisons w (near_keywords w))

module _ (w : List ℕ) where
  -- the rows up to the next near one add none
  skipped : {i r : ℕ} → First (near_to w) i r → left w i ≡ left w r
  unfolding spelling
  skipped {i} {r} f = filter_behind (near_to w) by_edition i r f.onward (λ j h b l. f.none j h b (omega (arith, l, row_words)))

  pub begun : {r : ℕ} → First (near_to w) 0 r → Searching w r 0
  unfolding near_keywords
  begun f = record {
    answers = ap (sorted_among w) (sym (skipped f));
    counts = zero-add _ ∙ ap (comparisons w) (sym (skipped f));
    each_once = zero-add _ ∙ ap length (sym (skipped f));
    there = f.there;
  }

  module _ {row compared : ℕ} (s : Searching w row compared) where
    -- at the end nothing is left
    nothing : row_count ≤ row → left w row ≡ []
    unfolding filter
    nothing h = rw (drop_of_length-le by_edition {i = row} (omega (arith, row_words)))

    pub ended : row_count ≤ row → Found w (Ok (Token identifier (length w))) compared
    ended h = (
      sym (sorted_end w) ∙ ap (sorted_among w) (sym (nothing h)) ∙ s.answers,
      omega (arith, s.counts, none_compared w, ap (comparisons w) (nothing h)),
    )

    module _ (h : row < row_count) where
      -- this row's keyword is the first of what is left
      abbrev this : String
      this = get_or by_edition row ""

      abbrev others : List String
      others = left w (suc row)

      front : left w row ≡ this ∷ others
      unfolding spelling
      front = filter_from (near_to w) by_edition row (omega (arith, row_words)) (s.there h)

      pub room : compared < most_near
      room = omega (arith, s.each_once, ap length front, few w)

      pub found_same : Same ≡ likeness w (spelling row) → Found w (Ok (Token (keyword (spelling row)) (length w))) (compared + 1)
      unfolding spelling
      found_same e =
          let t = told w (spelling row) e in
          let u = same_case w (spelling row) t in (
            sym (met w this others t) ∙ ap (sorted_among w) (sym front) ∙ s.answers,
            omega (arith, s.counts, ap (comparisons w) front, last_compared w this others u),
          )

      pub found_but_case : ButCase ≡ likeness w (spelling row) → Found w (Err (OtherCase (keyword (spelling row)))) (compared + 1)
      unfolding spelling
      found_but_case e =
          let t = told w (spelling row) e in (
            sym (met_but_case w this others t.0 t.1) ∙ ap (sorted_among w) (sym front) ∙ s.answers,
            omega (arith, s.counts, ap (comparisons w) front, last_compared w this others t.1),
          )

      pub gone_on : {r : ℕ} → Different ≡ likeness w (spelling row) → First (near_to (spelling row)) (suc row) r → Searching w r (compared + 1)
      unfolding spelling
      gone_on {r} e f =
          let t = told w (spelling row) e in
          let n = near_length (lower (at w 0)) (length w) (spelling row) (s.there h) in
          let l = near_letter (lower (at w 0)) (length w) (spelling row) (s.there h) in
          let g : First (near_to w) (suc row) r = rw (n, l) f in
          record {
            answers = ap (sorted_among w) (sym (skipped g)) ∙ sym (passed w this others t) ∙ ap (sorted_among w) (sym front) ∙ s.answers;
            counts = omega (arith, s.counts, ap (comparisons w) front, one_compared w this others t, ap (comparisons w) (skipped g));
            each_once = omega (arith, s.each_once, ap length front, ap length (skipped g));
            there = g.there;
          }
