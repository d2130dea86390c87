-- A line of numbers as it is put, number by number, and the lines of a tree, record by record.
-- By the definitions. Assumes nothing.
use Rattle.std.proofs.Common.{◌≡◌, ℕ, zero, suc, ◌+◌, ◌*◌, ◌<◌, ◌≤◌}
use Rattle.std.proofs.Common.{Bool, true, false, cond, List, [], ◌∷◌, ◌++◌, refl, sym, subst, arith, length, take, drop, append_assoc}
use lib.ListN.{get_or, length-append, length-take, length-drop}
use lib.Seq.{drop-cons, take-append_seam, drop-append_seam}
use borrow.Author.Tests.{leb-true, le-leb, lt-leb}
use lib.Dec.{eqb, leb}
use Rattle.kinds.specs.Kinds.{bytes}
use Rattle.replies.specs.declared.Reply.{Reply}
use Rattle.replies.specs.Replies as replies
use Rattle.tables.specs.Tables.{node_width}
use Rattle.report.specs.Report.{blank, line_end, number, number_size, first_line_size, line, lines, refusal, acceptance, report}
use Rattle.report.proofs.Decimal.{number_most}

line_more : (n : ℕ) (rest : List ℕ) (last : ℕ) → line (n ∷ (rest ++ last ∷ [])) ≡ (number n ++ blank ∷ []) ++ line (rest ++ last ∷ [])
unfolding line
line_more n [] last = sym (append_assoc (number n) (blank ∷ []) (line (last ∷ [])))
line_more n (m ∷ rest) last = sym (append_assoc (number n) (blank ∷ []) (line (m ∷ (rest ++ last ∷ []))))

-- the number at a place before the last, and the numbers left
pub line_step : (front : List ℕ) (i last : ℕ) → i < length front →
    line (drop i front ++ last ∷ []) ≡ (number (get_or front i 0) ++ blank ∷ []) ++ line (drop (i + 1) front ++ last ∷ [])
line_step front i last h =
    let next : i + 1 ≡ suc i = omega arith in
    rw (next, drop-cons front i 0 h) (line_more (get_or front i 0) (drop (suc i) front) last)

pub line_last : (n : ℕ) → line (n ∷ []) ≡ number n ++ line_end ∷ []
unfolding line
line_last n = refl

pub line_empty : (numbers : List ℕ) → length numbers ≡ 0 → line numbers ≡ []
unfolding line
line_empty [] h = refl
line_empty (n ∷ numbers) h = absurd (omega arith)

-- the first record of a tree, and the records left
pub lines_step : {tree : List ℕ} (first after : List ℕ) (n left : ℕ) → tree ≡ first ++ after → length first ≡ node_width → left + 1 ≡ n →
    lines n tree ≡ line first ++ lines left after
unfolding lines
lines_step first after n left e width one =
    let more : n ≡ suc left = omega arith in
    let long : node_width ≤ length (first ++ after) = omega (arith, length-append first after) in
    let front : take node_width (first ++ after) ≡ first =
    subst (λ (k : ℕ). take k (first ++ after) ≡ first) width (take-append_seam first after) in
    let back : drop node_width (first ++ after) ≡ after =
    subst (λ (k : ℕ). drop k (first ++ after) ≡ after) width (drop-append_seam first after) in
    rw (more, e, le-leb _ _ long, front, back)

-- none are left, for either reason
pub lines_end : (n : ℕ) (tree : List ℕ) → (0 < n → length tree < node_width) → lines n tree ≡ []
unfolding lines
lines_end zero tree short = refl
lines_end (suc n) tree short = simp (lt-leb _ _ (short (omega arith)))

-- each number takes eleven bytes at most, with the byte after it
pub line_most : (numbers : List ℕ) → length (line numbers) ≤ number_size * length numbers
unfolding line
line_most [] = omega arith
line_most (n ∷ []) = omega (arith, length-append (number n) (line_end ∷ []), number_most n)
line_most (n ∷ m ∷ numbers) = omega (arith, length-append (number n) (blank ∷ line (m ∷ numbers)), number_most n, line_most (m ∷ numbers))

lines_split : (b : Bool) (records : ℕ) (tree : List ℕ) → leb node_width (length tree) ≡ b →
    length (lines records (drop node_width tree)) ≤ number_size * length (drop node_width tree) →
    length (cond b (line (take node_width tree) ++ lines records (drop node_width tree)) []) ≤ number_size * length tree
lines_split true records tree e rest =
    let long = leb-true _ _ e in
    omega (
      arith,
      rest,
      length-append (line (take node_width tree)) (lines records (drop node_width tree)),
      line_most (take node_width tree),
      length-take node_width tree,
      length-drop node_width tree,
    )
lines_split false records tree e rest = omega arith

pub lines_most : (records : ℕ) (tree : List ℕ) → length (lines records tree) ≤ number_size * length tree
unfolding lines
lines_most zero tree = omega arith
lines_most (suc records) tree = lines_split (leb node_width (length tree)) records tree refl (lines_most records (drop node_width tree))

either_most : (b : Bool) (r : Reply) (tree : List ℕ) → length (cond b (acceptance r tree) (refusal r)) ≤ first_line_size + number_size * length tree
unfolding acceptance refusal
either_most true r tree =
    let counts = r.tokens ∷ r.records ∷ [] in
    let after = lines r.records tree in
    omega (
      arith,
      length-append (bytes "accepted ") (line counts ++ after),
      length-append (line counts) after,
      line_most counts,
      lines_most r.records tree,
    )
either_most false r tree =
    let numbers = r.number ∷ r.place ∷ r.tokens ∷ r.records ∷ [] in
    omega (arith, length-append (bytes "refused ") (line numbers), line_most numbers)

pub report_most : (r : Reply) (tree : List ℕ) → length (report r tree) ≤ first_line_size + number_size * length tree
unfolding report
report_most r tree = either_most (eqb r.number replies.accepted_number) r tree
