-- `marks::mark` meets its contract: the mark of two bytes where there is one, else the mark of one.
-- The two kinds are what the called functions ensure; outside the range no byte doubles; that one starts a mark is required. Assumes nothing.
use mathlib.Core.Path.{◌≡◌, refl, ap, sym, ◌∙◌}
use mathlib.Core.List.{List, [], ◌∷◌}
use Prim.Native.Char.{code}
use Prim.Native.Nat.{ℕ}
use Rattle.std.specs.Prelude.{Some, Ok}
use Rattle.kinds.specs.Kinds as kinds
use Rattle.text.specs.Bytes.{at, from}
use Rattle.text.specs.Lexemes.{mark}
use Rattle.text.specs.declared.Lexeme.TheVariants.{Token}
use Rattle.text.proofs.Runs.{at_inside}
use Rattle.marks.specs.Starts.{kind_of, starts_mark}
use Rattle.marks.proofs.Spellings.{marked, unmarked}
use Rattle.marks.proofs.Starts.{start_inside, no_two}
use Rattle.marks.proofs.mark.Goals as goal
use Rattle.marks.proofs.mark.Goals.{then-first+in_default, else-first}

pub bounds-bs-0 : goal.bounds-bs-0
bounds-bs-0 c = start_inside c.args.bs.now c.requires

double : (bs : List ℕ) {kind : ℕ} → Some kind ≡ kind_of (at bs 0 ∷ at bs 1 ∷ []) → Ok (Token kind 2) ≡ mark bs
unfolding mark
double bs e = let m = marked (at bs 0 ∷ at bs 1 ∷ []) e in rw (m.some, m.is) refl

single : (bs : List ℕ) {kind : ℕ} → kinds.mark (at bs 0 ∷ at bs 1 ∷ []) ≡ 0 → Some kind ≡ kind_of (at bs 0 ∷ []) → Ok (Token kind 1) ≡ mark bs
unfolding mark
single bs none e = let m = marked (at bs 0 ∷ []) e in rw (none, m.some, m.is) refl

pub returns-in-Some : goal.returns-in-Some
returns-in-Some c = double c.args.bs.now (sym c.in-Some.is ∙ c.two_bytes.ensures)

-- a byte that starts a mark has a kind
pub unwrap-requires : goal.unwrap-requires
unwrap-requires c =
    let front = at_inside c.args.bs.now 0 (start_inside c.args.bs.now c.requires) in
    rw (c.one_byte.ensures, ap starts_mark front ∙ c.requires) refl

pub returns : goal.returns
returns c =
    let bs = c.args.bs.now in
    let front = at_inside bs 0 (start_inside bs c.requires) in
    let range = from (code ":") (code ">") in
    let none : kinds.mark (at bs 0 ∷ at bs 1 ∷ []) ≡ 0 =
    elim c.if-first.branch [
      | then-first+in_default w ↦ unmarked (at bs 0 ∷ at bs 1 ∷ []) (sym w.two_bytes.ensures) w.in_default.not-Some
      | else-first w ↦
          no_two range (at bs 0) (at bs 1) refl refl refl (ap range (sym front) ∙ w.if-first.false)
    ] in
    single bs none (sym c.unwrap.ensures ∙ c.one_byte.ensures ∙ ap (λ (b : ℕ). kind_of (b ∷ [])) front)
