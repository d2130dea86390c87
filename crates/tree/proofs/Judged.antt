-- The reading of a whole list, concluded, is the verdict of every meaning of its tokens.
-- Each outcome says what the list is by the rules; nothing counted reaches the ceiling, since records are bounded by the tokens.
use Prim.Native.Nat.{ℕ, suc, ◌+◌, ◌*◌, ◌≤◌, ◌<◌}
use mathlib.Core.Path.{◌≡◌, refl, ap, sym, ◌∙◌, subst, fun_ext}
use mathlib.Core.Bool.{Bool, true, false, not, cond}
use mathlib.Core.List.{List, [], ◌∷◌, map}
use native.Mathlib.Omega.{arith}
use borrow.Author.Tests.{lt-ltb, le-ltb, eq-eqb, ne_eqb}
use lib.Dec.{T, eqb, ltb, ltb→lt, nltb→le}
use lib.ListN.{length, take, length-map}
use Rattle.grammar.specs.Derivation.{Derivation}
use Rattle.grammar.specs.Forest.{Forest, end}
use Rattle.grammar.specs.Record.{TreeRecord, tree_record, records, shape}
use Rattle.grammar.specs.Rule.{Edition}
use Rattle.grammar.specs.Sets.{elem}
use Rattle.limits.specs.Limits.{text_ceiling}
use Rattle.prediction.specs.plans.Plan.{call}
use Rattle.prediction.specs.Interpreter.{Outcome, Runs}
use Rattle.prediction.proofs.theorems.Theorems.{records_bounded}
use Rattle.prediction.proofs.theorems.Verdict.{Says, says_derived, says_more, says_blamed, says_deep, says}
use Rattle.tables.specs.Tables.{capacity, store, zeroed, Records, token_width, node_width}
use Rattle.tables.proofs.Laws.{store_front, capacity_fits}
use Rattle.meaning.specs.Sense.{Sense, Means, kind, numbers, tree_records}
use Rattle.meaning.proofs.Laws.{four_wide}
use Rattle.meaning.specs.Verdict as verdict
use Rattle.meaning.specs.Verdict.{Verdict, verdict}
use Rattle.meaning.specs.Answer.{tree_reply, tree_after}
use Rattle.meaning.specs.Calls.{first_records}
use Rattle.meaning.proofs.Outcomes.{of_outcome, outcome_verdict}
use Rattle.readers_core.specs.Course.{Course, coded, noted, table_in}
use Rattle.readers_core.specs.Reading.{Reading, beginning, ceiling, write, writes, nothing, Held, Ends, ends_done, ends_blame}
use Rattle.readers_core.specs.Reading.{ends_deep, sunk, Reads}
use Rattle.readers_core.proofs.Holding.{held_none}
use Rattle.readers_core.proofs.Sharing.{at_home}
use Rattle.readers_core.proofs.Storing.{write_below}
use Rattle.tree.specs.Conclusion.{complete, concluded, kept_tree}
use Rattle.tree.proofs.Lists.{length_records, kinds_listed, places_listed}

-- below the ceiling records are written as any table stores them
writes_stored : (w : List ℕ) (n : ℕ) (rs : List TreeRecord) → n + length rs ≤ ceiling → writes w n rs ≡ store node_width w n (map numbers rs)
unfolding writes store
writes_stored w n [] h = refl
writes_stored w n (tree_record a b c d ∷ rs) h =
    writes_stored (write w n (tree_record a b c d)) (suc n) rs (omega arith)
    ∙ ap (λ (v : List ℕ). store node_width v (suc n) (map numbers rs)) (sym (write_below w a (omega arith) refl refl refl refl))

-- where readers write the numbers of the rules themselves, what they write are the records
coded_plain : (code : ℕ → ℕ) → ((r : ℕ) → code r ≡ r) → (rs : List TreeRecord) → map (coded code) rs ≡ rs
unfolding coded
coded_plain code e [] = refl
coded_plain code e (tree_record a b c d ∷ rs) = rw (e a, coded_plain code e rs)

noted_plain : (C : Course) → ((r : ℕ) → C.code r ≡ r) → (i : ℕ) (f : Forest) → noted C i f ≡ records C.edition i f
unfolding noted
noted_plain C e i f = coded_plain C.code e (records C.edition i f)

zeroed_same : (w w' : List ℕ) → length w' ≡ length w → zeroed w' ≡ zeroed w
zeroed_same w w' e = rw e

-- in any course in which readers write the numbers of the rules themselves
module _ (C : Course) (plain : (r : ℕ) → C.code r ≡ r) (tokens : List ℕ) (count text depth : ℕ)
    (fits : token_width * count ≤ length tokens) (few : count ≤ text_ceiling) where
  abbrev E : Edition
  E = C.edition

  abbrev pub list : List ℕ
  list = take (token_width * count) tokens

  abbrev pub ts : List (List ℕ)
  ts = first_records token_width count tokens

  abbrev pub kinds : List ℕ
  kinds = map kind ts

  count_is : length kinds ≡ count
  unfolding kinds ts
  count_is = length-map ts kind ∙ length_records token_width count tokens

  -- what the state s and the table w' answer, for a tree table w before
  pub record Right (w w' : List ℕ) (s : Reading) (v : Verdict) : Type 0 where
    pub said : concluded list w' count text s ≡ tree_reply text ts v
    pub table : kept_tree w' count s ≡ tree_after v w

  module _ (w w' : List ℕ) (same : length w' ≡ length w) (s : Reading) where
    abbrev pub room : ℕ
    room = capacity node_width w

    -- a refusal for the grammar or for depth
    blamed_right : (q : ℕ) → complete count s ≡ false → eqb s.answer sunk ≡ false → s.at ≡ q → Right w w' s (verdict.grammar q)
    unfolding concluded kept_tree tree_reply tree_after list ts
    blamed_right q c a e = record {
      said = simp (c, a, e, places_listed count tokens fits text q, length_records token_width count tokens);
      table = simp (c, zeroed_same w w' same);
    }

    deep_right : (q : ℕ) → complete count s ≡ false → eqb s.answer sunk ≡ true → s.at ≡ q → Right w w' s (verdict.deep q)
    unfolding concluded kept_tree tree_reply tree_after list ts
    deep_right q c a e = record {
      said = simp (c, a, e, places_listed count tokens fits text q, length_records token_width count tokens);
      table = simp (c, zeroed_same w w' same);
    }

    -- the whole list is derived
    module _ (g : Forest) (whole : complete count s ≡ true) (d : Derivation E kinds g) (held : Held C (beginning, w) g (s, w')) where
      size_is : length (tree_records E g) ≡ length (records E 0 g)
      unfolding tree_records
      size_is = length-map (records E 0 g) numbers

      -- nothing counted reaches the ceiling
      small : length (records E 0 g) ≤ ceiling
      small = let h = records_bounded C.checked kinds g d in let e = count_is in omega arith

      counted_is : s.count ≡ length (tree_records E g)
      counted_is = let e = held.count_is in let n = ap length (noted_plain C plain 0 g) in let z = size_is in let h = small in omega arith

      stored_is : w' ≡ store node_width w 0 (tree_records E g)
      unfolding tree_records
      stored_is =
          held.table_is ∙ ap (λ (rs : List TreeRecord). writes w 0 rs) (noted_plain C plain 0 g)
          ∙ writes_stored w 0 (records E 0 g) (let h = small in omega arith)

      rooms : capacity node_width w' ≡ room
      unfolding room
      rooms = rw same

      full_right : room < length (tree_records E g) → Right w w' s (verdict.full (length (tree_records E g)))
      unfolding concluded kept_tree tree_reply tree_after ts
      full_right h = record {
        said = simp (whole, rooms, counted_is, lt-ltb room (length (tree_records E g)) h, length_records token_width count tokens);
        table = simp (whole, rooms, counted_is, lt-ltb room (length (tree_records E g)) h, zeroed_same w w' same);
      }

      four_rs : Records node_width (tree_records E g)
      unfolding tree_records
      four_rs = four_wide (records E 0 g)

      accepted_right : length (tree_records E g) ≤ room → Right w w' s (verdict.accepted (tree_records E g))
      unfolding concluded kept_tree tree_reply tree_after ts room
      accepted_right h = record {
        said = simp (whole, rooms, counted_is, le-ltb room (length (tree_records E g)) h, length_records token_width count tokens);
        table =
            simp (whole, rooms, counted_is, le-ltb room (length (tree_records E g)) h)
            (stored_is ∙ store_front node_width w four_rs (capacity_fits node_width w (length (tree_records E g)) h));
      }

      derived_right :
          Right w w' s
          (cond (ltb room (length (tree_records E g))) (verdict.full (length (tree_records E g))) (verdict.accepted (tree_records E g)))
      derived_right = pick (ltb room (length (tree_records E g))) (ltb→lt room (length (tree_records E g))) (nltb→le room (length (tree_records E g)))
        where
          pick : (b : Bool) → (T b → room < length (tree_records E g)) → (T (not b) → length (tree_records E g) ≤ room) →
              Right w w' s (cond b (verdict.full (length (tree_records E g))) (verdict.accepted (tree_records E g)))
          pick true x y = full_right (x tt)
          pick false x y = accepted_right (y tt)

    done_here : s.answer ≡ 0 → s.at ≡ count → complete count s ≡ true
    unfolding complete
    done_here a e = simp (eq-eqb s.answer 0 a, eq-eqb s.at count e)

    done_early : s.answer ≡ 0 → (s.at ≡ count → ⊥) → complete count s ≡ false
    unfolding complete
    done_early a e = simp (eq-eqb s.answer 0 a, ne_eqb s.at count e)

    stopped_here : (s.answer ≡ 0 → ⊥) → complete count s ≡ false
    unfolding complete
    stopped_here a = simp (ne_eqb s.answer 0 a)

    outcome_right : {x : Outcome} → Says E depth kinds x → Ends C (beginning, w) end (beginning, w) (s, w') x →
        Right w w' s (of_outcome E (length kinds) room x)
    unfolding of_outcome tree_records
    outcome_right (says_derived {g} {j} e d i) (ends_done a p h) =
        let whole = done_here a (omega (arith, count_is)) in
        rw (eq-eqb j (length kinds) e) (derived_right g whole d (h (held_none (beginning, w) (omega arith))))
    outcome_right (says_more {g} {j} l b i) (ends_done a p h) =
        let n : j ≡ length kinds → ⊥ = λ e. omega arith in
        rw (ne_eqb j (length kinds) n)
        (blamed_right j (done_early a (λ e. omega (arith, count_is))) (ne_eqb s.answer sunk (λ e. omega arith)) p)
    outcome_right (says_blamed {q} b i) (ends_blame a p) =
        blamed_right q (stopped_here (λ e. omega arith)) (ne_eqb s.answer sunk (λ e. omega arith)) p
    outcome_right (says_deep {q} l v t) (ends_deep a p) = deep_right q (stopped_here (λ e. omega arith)) (eq-eqb s.answer sunk a) p

  -- so whatever the list means, the reading concluded is its verdict
  pub judged : (w w' : List ℕ) → length w' ≡ length w → (s : Reading) → Reads C list depth (call E.start) (beginning, w) (s, w') →
      (sense : Sense) → Means E kinds sense → Right w w' s (verdict depth (capacity node_width w) kinds sense)
  unfolding shape elem
  judged w w' same s r sense m =
      let ran = (at_home (r.in_any beginning nothing) (beginning, w) refl refl).runs refl end tt in
      let run = subst (λ (k : ℕ → ℕ). Runs (table_in C) k depth (call E.start) 0 end ran.outcome) (fun_ext (kinds_listed count tokens fits)) ran.run in
      let e = outcome_verdict C.checked depth (capacity node_width w) kinds (says C.checked depth kinds ran.outcome run) m in
      subst (λ (v : Verdict). Right w w' s v) e
      (outcome_right w w' same s (says C.checked depth kinds ran.outcome run) ran.ends)
