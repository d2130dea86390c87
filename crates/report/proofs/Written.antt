-- A text that is written part by part: there is room for what is left, and the parts written one after the other are the whole.
-- By lengths and associativity. Assumes nothing.
use Rattle.std.proofs.Common.{◌≡◌, ℕ, List, [], ◌++◌, refl, ap, sym, subst, ◌∙◌, arith, take, append_assoc, append-nil}
use lib.ListN.{length-append}
use Rattle.report.specs.declared.Page.{Page}
use Rattle.report.specs.Page.{Fits, Writes}

pub front_fits : (page : Page) (part rest : List ℕ) → Fits page (part ++ rest) → Fits page part
front_fits page part rest fits = omega (arith, fits, length-append part rest)

pub rest_fits : {page next : Page} (part rest : List ℕ) → Fits page (part ++ rest) → Writes page next part → Fits next rest
rest_fits part rest fits written = omega (arith, fits, length-append part rest, written.end, written.same_size)

pub writes_none : (page : Page) → Writes page page []
writes_none page = record { same_size = refl; end = omega arith; written = sym (append-nil (take page.size page.out.now)) }

pub writes_both : {page next last : Page} (part rest : List ℕ) → Writes page next part → Writes next last rest → Writes page last (part ++ rest)
writes_both {page} part rest first second = record {
  same_size = second.same_size ∙ first.same_size;
  end = omega (arith, second.end, first.end, length-append part rest);
  written = second.written ∙ ap (λ (l : List ℕ). l ++ rest) first.written ∙ append_assoc (take page.size page.out.now) part rest;
}

-- what a text of two parts needs
pub ruleset parts = (front_fits, rest_fits, writes_both)

-- in a loop: what is written and what is left are the whole
pub record Left (start page : Page) (rest whole : List ℕ) : Type 0 where
  pub before : List ℕ
  pub parts : before ++ rest ≡ whole
  pub written : Writes start page before

pub left_all : (page : Page) (whole : List ℕ) → Left page page whole whole
left_all page whole = record { before = []; parts = refl; written = writes_none page }

pub left_fits : {start page : Page} {rest whole : List ℕ} → Left start page rest whole → Fits start whole → Fits page rest
left_fits {start} {rest = rest} left fits = rest_fits left.before rest (subst (Fits start) (sym left.parts) fits) left.written

pub left_more : {start page next : Page} (part rest : List ℕ) {whole : List ℕ} → Left start page (part ++ rest) whole → Writes page next part →
    Left start next rest whole
left_more part rest left more = record {
  before = left.before ++ part;
  parts = append_assoc left.before part rest ∙ left.parts;
  written = writes_both left.before part left.written more;
}

pub left_none : {start page : Page} {whole : List ℕ} → Left start page [] whole → Writes start page whole
left_none {start} {page} left = subst (Writes start page) (sym (append-nil left.before) ∙ left.parts) left.written
