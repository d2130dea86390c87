-- Reading the text lexeme by lexeme: what the tokens passed and the rest of the text are together is what the whole text is.
-- A lexeme moves this on by its length; a fault, or the end of the text, decides it. Assumes nothing.
use mathlib.Core.Bool.{Bool, true, false}
use mathlib.Core.List.{List, [], ◌∷◌, ◌++◌}
use mathlib.Core.Path.{◌≡◌, refl, ap, sym, ◌∙◌}
use Prim.Native.Nat.{ℕ, zero, suc, pred, ◌+◌, ◌-◌, ◌≤◌, ◌<◌}
use native.Mathlib.Nat.{add-zero}
use native.Mathlib.Omega.{arith}
use Rattle.std.specs.Prelude.{Result, Ok, Err}
use lib.ListN.{length, take, drop, length-append, length-drop}
use lib.Seq.{drop-drop, drop-length}
use Rattle.tables.specs.Tables.{token_width, put, store}
use Rattle.tables.proofs.Laws.{store_more, length_store}
use Rattle.text.specs.Bytes.{run, space, at as byte}
use Rattle.text.specs.Lexemes.{lexeme}
use Rattle.text.specs.Tokens.{Tokens, tokens, fault, token, before, then, tokens_in, tokens_of}
use Rattle.text.specs.Words.{CaseAlone, spelled}
use Rattle.text.specs.declared.Lexeme.{Lexeme}
use Rattle.text.specs.declared.Lexeme.TheVariants.{Blank, Token}
use Rattle.replies.specs.declared.Reply.{Reply}
use Rattle.replies.specs.Faults.{Fault, row}
use Rattle.tokens.specs.Answer.{Scanned, all_tokens, first_fault, fault_at}
use Rattle.text.specs.declared.Fault as declared
use Rattle.text.specs.declared.Fault.TheVariants.{NoLexeme, Open, BadLiteral, OtherCase}
use Rattle.text.proofs.Rests.{rest}
use Rattle.text.proofs.Sizes.{SizedOr}
use Rattle.lexemes.proofs.Sizes.{lexeme_sized}
use Rattle.lexemes.proofs.Sorting.{lexeme_space}

-- several tokens in front of what follows
unfoldable pub after : List (List ℕ) → Tokens → Tokens
after [] rest = rest
after (t ∷ ts) rest = before t (after ts rest)

after_more : (ts : List (List ℕ)) (t : List ℕ) (rest : Tokens) → after (ts ++ t ∷ []) rest ≡ after ts (before t rest)
unfolding after
after_more [] t rest = refl
after_more (x ∷ ts) t rest = ap (before x) (after_more ts t rest)

after_fault : (ts : List (List ℕ)) (f : Fault) → after ts (fault f) ≡ fault f
unfolding after before
after_fault [] f = refl
after_fault (x ∷ ts) f = ap (before x) (after_fault ts f)

after_none : (ts : List (List ℕ)) → after ts (tokens []) ≡ tokens ts
unfolding after before
after_none [] = refl
after_none (x ∷ ts) = ap (before x) (after_none ts)

-- where no lexeme stands, nothing that follows matters
then_fault : (f : declared.Fault) (place : ℕ) (rest : ℕ → Tokens) → then (Err f) place rest ≡ fault (fault_at place f)
unfolding then
then_fault NoLexeme place rest = refl
then_fault Open place rest = refl
then_fault BadLiteral place rest = refl
then_fault (OtherCase kind) place rest = refl

-- the rest of a text by its first lexeme
unroll : (most place : ℕ) (bs : List ℕ) → 0 < most → 0 < length bs →
    tokens_in most place bs ≡ then (lexeme bs) place (λ n. tokens_in (pred most) (place + n) (drop n bs))
unfolding tokens_in
unroll zero place bs m h = absurd (omega arith)
unroll (suc most) place [] m h = absurd (omega arith)
unroll (suc most) place (b ∷ bs) m h = refl

ended : (most place : ℕ) → tokens_in most place [] ≡ tokens []
unfolding tokens_in
ended zero place = refl
ended (suc most) place = refl

-- the text is read up to a byte, and so many tokens are counted
pub record Reading (text table₀ table : List ℕ) (at n : ℕ) : Type 0 where
  pub passed : List (List ℕ)
  pub most : ℕ
  pub within : at ≤ length text
  pub enough : length text ≤ at + most
  pub few : n ≤ at
  pub counted : length passed ≡ n
  pub so_far : tokens_of text ≡ after passed (tokens_in most at (drop at text))
  pub stored : table ≡ store token_width table₀ 0 passed

module _ (text table₀ : List ℕ) where
  pub reading_starts : Reading text table₀ table₀ 0 0
  unfolding tokens_of after store
  reading_starts = record {
    passed = [];
    most = length text;
    within = omega arith;
    enough = omega arith;
    few = omega arith;
    counted = refl;
    so_far = refl;
    stored = refl;
  }

  pub reading_length : {table : List ℕ} {at n : ℕ} → Reading text table₀ table at n → length table ≡ length table₀
  reading_length r = ap length r.stored ∙ length_store token_width table₀ 0 r.passed

  module _ {table : List ℕ} {at n : ℕ} (h : at < length text) (r : Reading text table₀ table at n) where
    -- the whole text by the next lexeme
    next : {l : Result Lexeme declared.Fault} → l ≡ lexeme (drop at text) →
        tokens_of text ≡ after r.passed (then l at (λ k. tokens_in (pred r.most) (at + k) (drop (at + k) text)))
    next {l} e =
        let most = r.most in
        let rest : ℕ → Tokens = λ k. tokens_in (pred most) (at + k) (drop k (drop at text)) in
        let same : rest ≡ (λ (k : ℕ). tokens_in (pred most) (at + k) (drop (at + k) text)) = simp drop-drop in
        r.so_far ∙ ap (after r.passed) (unroll most at (drop at text) (omega (arith, r.enough)) (omega (arith, length-drop at text)))
        ∙ rw (sym e, same)

    -- it lies in the text
    next_sized : {l : Result Lexeme declared.Fault} → l ≡ lexeme (drop at text) → SizedOr (CaseAlone (spelled (drop at text))) (length text - at) l
    next_sized {l} e = rw (e, ← length-drop at text) (lexeme_sized (drop at text) (omega (arith, length-drop at text)))

    reading_blank : {k : ℕ} → Ok (Blank k) ≡ lexeme (drop at text) → Reading text table₀ table (at + k) n
    unfolding then
    reading_blank {k} e =
        let w = next_sized e in
        record {
          passed = r.passed;
          most = pred r.most;
          within = omega (arith, w.1);
          enough = omega (arith, r.enough);
          few = omega (arith, r.few);
          counted = r.counted;
          so_far = next e;
          stored = r.stored;
        }

    reading_token : {kind k : ℕ} → Ok (Token kind k) ≡ lexeme (drop at text) →
        Reading text table₀ (put token_width table n (token kind at k)) (at + k) (n + 1)
    unfolding then
    reading_token {kind} {k} e =
        let w = next_sized e in
        record {
          passed = r.passed ++ token kind at k ∷ [];
          most = pred r.most;
          within = omega (arith, w.1);
          enough = omega (arith, r.enough);
          few = omega (arith, r.few);
          counted = length-append r.passed (token kind at k ∷ []) ∙ omega (arith, r.counted);
          so_far = next e ∙ sym (after_more r.passed (token kind at k) _);
          stored = ap (λ (t : List ℕ). put token_width t n (token kind at k)) r.stored
              ∙ sym (store_more token_width table₀ n r.passed (token kind at k) r.counted);
        }

  -- white space is passed at once
  pub reading_space : {table : List ℕ} {at n : ℕ} → Reading text table₀ table at n →
      Reading text table₀ table (at + run space (drop at text)) n
  unfolding run
  reading_space {table} {at} {n} r = go (drop at text) refl
    where
      none : run space (drop at text) ≡ 0 → Reading text table₀ table (at + run space (drop at text)) n
      none e = rw (e, add-zero at) r

      go : (bs : List ℕ) → bs ≡ drop at text → Reading text table₀ table (at + run space (drop at text)) n
      go [] e = none (sym (ap (run space) e))
      go (b ∷ bs) e = pick (space b) refl
        where
          some : at < length text
          some = omega (arith, ap length e, length-drop at text)

          pick : (x : Bool) → space b ≡ x → Reading text table₀ table (at + run space (drop at text)) n
          pick true u = reading_blank some r (lexeme_space (drop at text) (ap (λ (l : List ℕ). space (byte l 0)) (sym e) ∙ u))
          pick false u = none (sym (ap (run space) e) ∙ rw u refl)

  -- a lexeme that takes a byte at least and lies in the text; reading goes on behind it and the white space there
  pub record Passed (at k : ℕ) (table : List ℕ) (n : ℕ) : Type 0 where
    pub some : 0 < k
    pub inside : at + k ≤ length text
    pub goes_on : Reading text table₀ table (at + k + run space (drop (at + k) text)) n

  -- the code is lent the rest of the text, and reads the lexeme at its front
  module _ {table : List ℕ} {at n : ℕ} (h : at < length text) (r : Reading text table₀ table at n) where
    front : lexeme (take (length text - at) (drop at text)) ≡ lexeme (drop at text)
    front = ap lexeme (rest text at)

    pub passes_blank : {l : Lexeme} {k : ℕ} → l ≡ Blank k → Ok l ≡ lexeme (take (length text - at) (drop at text)) → Passed at k table n
    passes_blank {k = k} f e =
        let read : Ok (Blank k) ≡ lexeme (drop at text) = ap Ok (sym f) ∙ e ∙ front in
        let w = next_sized h r read in
        record { some = w.0; inside = omega (arith, w.1); goes_on = reading_space (reading_blank h r read) }

    pub passes_token : {l : Lexeme} {kind k : ℕ} → l ≡ Token kind k → Ok l ≡ lexeme (take (length text - at) (drop at text)) →
        Passed at k (put token_width table n (token kind at k)) (n + 1)
    passes_token {kind = kind} {k = k} f e =
        let read : Ok (Token kind k) ≡ lexeme (drop at text) = ap Ok (sym f) ∙ e ∙ front in
        let w = next_sized h r read in
        record { some = w.0; inside = omega (arith, w.1); goes_on = reading_space (reading_token h r read) }

    -- a fault decides what the text is
    pub stops : {f : declared.Fault} {reply : Reply} {after : List ℕ} → Err f ≡ lexeme (take (length text - at) (drop at text)) →
        reply ≡ row (fault_at at f) → Scanned (tokens_of text) table₀ after (Err reply)
    stops {f} e d =
        let whole : tokens_of text ≡ fault (fault_at at f) =
        next h r (e ∙ front) ∙ ap (after r.passed) (then_fault f at _) ∙ after_fault r.passed (fault_at at f) in
        rw (whole, d) (first_fault (fault_at at f))

  -- and so does the end of the text
  pub reading_ends : {table : List ℕ} {at n : ℕ} → length text ≤ at → Reading text table₀ table at n →
      Scanned (tokens_of text) table₀ table (Ok n)
  reading_ends {table} {at} {n} h r =
      let e : at ≡ length text = omega (arith, r.within) in
      let d : drop at text ≡ [] = ap (λ (k : ℕ). drop k text) e ∙ drop-length text in
      let whole : tokens_of text ≡ tokens r.passed = r.so_far ∙ rw (d, ended) (after_none r.passed) in
      rw (whole, r.stored, ← r.counted) (all_tokens r.passed)
