-- Request A7: each byte of a literal is printable, and a literal that comes to any other byte in its line is bad.
-- A literal takes no bytes but those that stand for themselves, and no other lexeme has a literal's kind.
use mathlib.Core.Bool.{Bool, true, false, ◌||◌, false≢true}
use mathlib.Core.List.{List, [], ◌∷◌}
use mathlib.Core.Logic.{inl, inr}
use mathlib.Core.Path.{◌≡◌, refl, sym, ap, subst, ◌∙◌}
use Prim.Native.Char.{code}
use Prim.Native.Nat.{ℕ, zero, suc, ◌+◌, ◌-◌, ◌≤◌, ◌<◌, max}
use Prim.Native.String.{String}
use native.Mathlib.Omega.{arith}
use borrow.Author.Tests.{ltb-true, ltb-false, leb-true, leb-false, eqb-true}
use lib.Dec.{leb, ltb}
use lib.ListN.{length, drop, get_or}
use lib.Seq.{get_or-drop}
use Rattle.kinds.specs.Kinds as kinds
use Rattle.replies.specs.Replies as rows
use Rattle.replies.specs.Faults.{Fault, row}
use Rattle.text.specs.Bytes.{at, end, run, wordly, line_end, ended}
use Rattle.text.specs.Blanks.{line_comment, to_close, closed, block_comment}
use Rattle.text.specs.Lexemes.{lexeme, mark}
use Rattle.text.specs.Literals.{plain, quote, quoted, literal, wide_literal}
use Rattle.text.specs.Numbers.{followed, longest, number, integer, floating, fixed}
use Rattle.text.specs.Tokens.{Tokens, tokens, fault, token, before, then, tokens_of}
use Rattle.text.specs.Words.{keyword_but_case, spelled, sorted, word, escaped_word}
use Rattle.text.specs.declared.Lexeme.{Lexeme}
use Rattle.text.specs.declared.Lexeme.TheVariants.{Blank, Token}
use Rattle.text.specs.declared.Fault as declared
use Rattle.text.specs.declared.Fault.TheVariants.{NoLexeme, Open, BadLiteral, OtherCase}
use Rattle.std.specs.Prelude.{Option, Some, None, Result, Ok, Err}
use Rattle.text.proofs.Choices.{either, choose}
use Rattle.text.proofs.Rests.{past_end}
use Rattle.literals.proofs.Taken.{bounds, Taken, taken_none, taken_one, taken_more, taken_within, LeftOpen}
use Rattle.literals.proofs.Reach.{quoted_says}
use Rattle.lexemes.proofs.Sorting.{quote_literal, wide_quote}
use Rattle.lexemes.proofs.Sorts.{by_sort}
use Rattle.tokens.proofs.Lexemes.{by_lexemes}
use Rattle.promises.specs.Demands.{Printable, IsLiteral, LiteralPrintable, OpensLiteral, opens_narrow, opens_wide, OtherByte}

printable : (b : ℕ) → plain b ≡ true → Printable b
unfolding plain
printable b e = let w = bounds _ _ b e in (omega arith, omega arith)

not_plain : (b : ℕ) → (Printable b → ⊥) → plain b ≡ false
not_plain b h = go (plain b) refl
  where
    go : (x : Bool) → plain b ≡ x → x ≡ false
    go true e = absurd (h (printable b e))
    go false e = refl

-- each byte of a literal stands for itself
abbrev Plain : List ℕ → Result Lexeme declared.Fault → Type 0
Plain bs (Ok (Token k n)) = IsLiteral k → Taken bs n
Plain bs (Ok (Blank n)) = Unit
Plain bs (Err f) = Unit

-- keywords and marks have greater kinds than literals
search_other : (k : ℕ) (like : List ℕ → List ℕ → Bool) (w : List ℕ) (vs : List String) → kinds.wide_string < k →
    IsLiteral (kinds.search_from k like w vs) → ⊥
search_other k like w [] h = λ l. omega arith
search_other k like w (v ∷ vs) h =
    choose (λ (n : ℕ). IsLiteral n → ⊥) (like w (kinds.bytes v)) (λ e l. omega arith) (search_other (suc k) like w vs (omega arith))

module _ (bs : List ℕ) where
  abbrev Here : Result Lexeme declared.Fault → Type 0
  Here = Plain bs

  quoted_plain : (wide : Bool) (n : ℕ) → Taken bs n → quote (at bs n) ≡ true → Here (quoted wide n bs)
  quoted_plain = quoted_says bs (Taken bs) Here (taken_within bs) (λ n m. taken_more bs n) (λ k n h l. h) (λ n h o. tt) tt

  wide_plain : at bs 0 ≡ code "L" → quote (at bs 1) ≡ true → Here (wide_literal bs)
  unfolding wide_literal plain
  wide_plain e f = quoted_plain true 1 (taken_one bs (ap plain e)) f

  block_comment_plain : Here (block_comment bs)
  unfolding block_comment closed
  block_comment_plain = go (to_close (drop 2 bs))
    where
      go : (n : Option ℕ) → Here (closed n)
      go None = tt
      go (Some n) = tt

  sorted_plain : (w : List ℕ) (n : ℕ) → Here (sorted w n)
  unfolding sorted kinds.keyword
  sorted_plain w n =
      choose Here (ltb 0 (kinds.keyword w)) (λ e l. absurd (search_other kinds.first_keyword kinds.same w kinds.keywords (omega arith) l))
      (choose Here (ltb 0 (keyword_but_case w)) (λ e. tt) (λ l. absurd (omega arith)))

  followed_plain : (k n : ℕ) → k < kinds.character → Here (followed bs k n)
  unfolding followed
  followed_plain k n h = choose Here (wordly (at bs n)) (λ e. tt) (λ l. absurd (omega arith))

  number_plain : Here (number bs)
  unfolding number longest
  number_plain =
      choose Here (ltb (max (integer bs) (floating bs)) (fixed bs)) (λ e. followed_plain kinds.fixed (fixed bs) (omega arith))
      (choose Here (ltb (integer bs) (floating bs)) (λ e. followed_plain kinds.floating (floating bs) (omega arith))
      (choose Here (ltb 0 (integer bs)) (λ e. followed_plain kinds.integer (integer bs) (omega arith)) tt))

  one_mark_plain : (w : List ℕ) (n : ℕ) → Here (Ok (Token (kinds.mark w) n))
  unfolding kinds.mark
  one_mark_plain w n l = absurd (search_other kinds.first_mark kinds.same w kinds.marks (omega arith) l)

  mark_plain : Here (mark bs)
  unfolding mark
  mark_plain =
      let two = at bs 0 ∷ at bs 1 ∷ [] in
      let one = at bs 0 ∷ [] in
      choose Here (ltb 0 (kinds.mark two)) (λ e. one_mark_plain two 2)
      (choose Here (ltb 0 (kinds.mark one)) (λ e. one_mark_plain one 1) tt)

  lexeme_plain : Here (lexeme bs)
  unfolding line_comment literal word escaped_word
  lexeme_plain =
      by_sort bs Here (λ e. tt) (λ e. tt) (λ e. block_comment_plain) (λ e. quoted_plain false 0 (taken_none bs) e) wide_plain
      (λ e. sorted_plain (spelled bs) (run wordly bs)) (λ l. absurd (omega arith)) number_plain mark_plain

-- a token that ends before place n, or a bad literal
abbrev EndsOrBad : ℕ → Result Lexeme declared.Fault → Type 0
EndsOrBad n (Ok (Token k m)) = m ≤ n
EndsOrBad n (Ok (Blank m)) = ⊥
EndsOrBad n (Err BadLiteral) = Unit
EndsOrBad n (Err NoLexeme) = ⊥
EndsOrBad n (Err Open) = ⊥
EndsOrBad n (Err (OtherCase k)) = ⊥

-- the line goes on to a byte that does not stand for itself
module _ (bs : List ℕ) (high : ℕ) (other : plain (at bs high) ≡ false)
    (in_line : (n : ℕ) → n ≤ high → line_end (at bs n) || ended (at bs n) ≡ false) where
  not_passed : (n m : ℕ) → n ≤ high → Taken (drop n bs) m → n + m ≤ high
  not_passed n m h t = go (leb (n + m) high) refl
    where
      go : (x : Bool) → leb (n + m) high ≡ x → n + m ≤ high
      go true e = leb-true (n + m) high e
      go false e =
          let l = leb-false (n + m) high e in
          let place : n + (high - n) ≡ high = omega arith in
          let here : at (drop n bs) (high - n) ≡ at bs high = get_or-drop n bs (high - n) end ∙ ap (at bs) place in
          absurd (false≢true (sym other ∙ ap plain (sym here) ∙ t (high - n) (omega arith)))

  not_open : (n : ℕ) → n ≤ high → LeftOpen (drop n bs) → EndsOrBad high (Err Open)
  not_open n h o =
      let here = get_or-drop n bs o.place end in
      absurd (false≢true (sym (in_line (n + o.place) (not_passed n o.place h o.before)) ∙ rw (sym here) o.stops))

  -- it stands in the text, and is not the literal's L
  stands : high < length bs
  unfolding line_end ended
  stands = go (ltb high (length bs)) refl
    where
      go : (x : Bool) → ltb high (length bs) ≡ x → high < length bs
      go true e = ltb-true high (length bs) e
      go false e =
          let past = past_end bs (ltb-false high (length bs) e) in
          absurd (false≢true (sym (in_line high (omega arith)) ∙ rw past refl))

  not_first : at bs 0 ≡ code "L" → 1 ≤ high
  unfolding plain
  not_first e = go high refl
    where
      go : (n : ℕ) → high ≡ n → 1 ≤ n
      go zero z = absurd (false≢true (sym other ∙ ap (λ (n : ℕ). plain (at bs n)) z ∙ ap plain e))
      go (suc n) z = omega arith

  quoted_ends : (wide : Bool) (n : ℕ) → n ≤ high → quote (at bs n) ≡ true → EndsOrBad high (quoted wide n bs)
  quoted_ends =
      quoted_says bs (λ n. n ≤ high) (EndsOrBad high) (λ n h. omega (arith, stands)) not_passed (λ k n h. h) not_open tt

  ends_or_bad : OpensLiteral bs → EndsOrBad high (lexeme bs)
  unfolding literal wide_literal quote
  ends_or_bad (opens_narrow e) =
      subst (EndsOrBad high) (quote_literal bs (either _ _ (λ q. inr (eqb-true _ _ q)) (λ q. inl (eqb-true _ _ q)) e))
      (quoted_ends false 0 (omega arith) e)
  ends_or_bad (opens_wide e f) = subst (EndsOrBad high) (wide_quote bs e f) (quoted_ends true 1 (not_first e) f)

-- the lexemes of a text: the literals among its tokens, and a fault where such a byte stands in a literal
module _ (text : List ℕ) where
  abbrev Said : Tokens → Type 0
  Said (tokens ts) = (i : ℕ) → i < length ts → LiteralPrintable text (get_or ts i [])
  Said (fault f) = OtherByte text (row f).place → row f ≡ rows.bad_literal (row f).place

  in_list : (t : List ℕ) (ts : List (List ℕ)) → LiteralPrintable text t → Said (tokens ts) → Said (tokens (t ∷ ts))
  in_list t ts p h zero l = p
  in_list t ts p h (suc i) l = h i (omega arith)

  in_front : (t : List ℕ) (rest : Tokens) → LiteralPrintable text t → Said rest → Said (before t rest)
  unfolding before
  in_front t (tokens ts) p h = in_list t ts p h
  in_front t (fault f) p h = h

  one_lexeme : (place : ℕ) (rest : ℕ → Tokens) (l : Result Lexeme declared.Fault) → Plain (drop place text) l →
      ((b : OtherByte text place) → EndsOrBad b.behind l) → ((n : ℕ) → Said (rest n)) → Said (then l place rest)
  unfolding then
  one_lexeme place rest (Ok (Blank n)) p e more = more n
  one_lexeme place rest (Ok (Token k n)) p e more =
      in_front (token k place n) (rest n) (λ l j m. printable _ (ap plain (sym (get_or-drop place text j end)) ∙ p l j m)) (more n)
  one_lexeme place rest (Err NoLexeme) p e more = λ b. absurd (e b)
  one_lexeme place rest (Err Open) p e more = λ b. absurd (e b)
  one_lexeme place rest (Err BadLiteral) p e more = λ b. refl
  one_lexeme place rest (Err (OtherCase k)) p e more = λ b. absurd (e b)

  said : Said (tokens_of text)
  said =
      by_lexemes text (λ place. Said) (λ place i l. absurd (omega arith))
      (λ place h rest more. one_lexeme place rest (lexeme (drop place text)) (lexeme_plain (drop place text))
      (λ o. ends_or_bad (drop place text) o.behind (not_plain _ o.other) o.in_its_line o.opens) more)

  pub literals_printable : (ts : List (List ℕ)) → tokens_of text ≡ tokens ts → (i : ℕ) → i < length ts → LiteralPrintable text (get_or ts i [])
  literals_printable ts e = subst Said e said

  pub other_byte_bad : (f : Fault) → tokens_of text ≡ fault f → OtherByte text (row f).place → row f ≡ rows.bad_literal (row f).place
  other_byte_bad f e = subst Said e said
