-- The search of */ as a loop passes the bytes one by one, and the bytes to the next star at once.
-- A byte that begins no */ is one byte more to the next; a text of one byte holds none. Assumes nothing.
use mathlib.Core.Path.{◌≡◌, refl, ap, sym, ◌∙◌}
use mathlib.Core.Bool.{Bool, true, false, cond}
use mathlib.Core.List.{List, [], ◌∷◌}
use Prim.Native.Char.{code}
use Prim.Native.Nat.{ℕ, suc, ◌+◌, ◌-◌, ◌≤◌}
use native.Mathlib.Omega.{arith}
use lib.Dec.{eqb}
use lib.ListN.{length, drop, length-drop}
use Rattle.std.specs.Prelude.{Option, Some, None}
use Rattle.std.specs.Option.{option_map}
use Rattle.text.specs.Bytes.{run}
use Rattle.text.specs.Blanks.{to_close}
use Rattle.text.specs.Classes.{starless}
use Rattle.text.proofs.Runs.{run_within}
use Rattle.blanks.specs.Ends.{closes}

-- n bytes more, where there are any
abbrev pub beyond : ℕ → Option ℕ → Option ℕ
beyond n found = option_map (λ (k : ℕ). n + k) found

beyond_none : (found : Option ℕ) → found ≡ beyond 0 found
beyond_none None = refl
beyond_none (Some k) = ap Some (omega arith)

beyond_one : (n : ℕ) (found : Option ℕ) → option_map suc (beyond n found) ≡ beyond (suc n) found
beyond_one n None = refl
beyond_one n (Some k) = ap Some (omega arith)

beyond_beyond : (n m : ℕ) (found : Option ℕ) → beyond n (beyond m found) ≡ beyond (n + m) found
beyond_beyond n m None = refl
beyond_beyond n m (Some k) = ap Some (omega arith)

-- bytes that are no stars begin no */
abbrev Starless : List ℕ → Type 0
Starless bs = to_close bs ≡ beyond (run starless bs) (to_close (drop (run starless bs) bs))

star_first : (b : ℕ) (bs : List ℕ) → eqb b (code "*") ≡ true → run starless (b ∷ bs) ≡ 0
unfolding run starless
star_first b bs e = rw e

starless_first : (b : ℕ) (bs : List ℕ) → eqb b (code "*") ≡ false → Starless bs → Starless (b ∷ bs)
unfolding run starless to_close
starless_first b bs e next =
    rw e (ap (option_map suc) next ∙ beyond_one (run starless bs) (to_close (drop (run starless bs) bs)))

starless_step : (b : ℕ) (bs : List ℕ) → Starless bs → Starless (b ∷ bs)
starless_step b bs next = go (eqb b (code "*")) refl
  where
    go : (x : Bool) → eqb b (code "*") ≡ x → Starless (b ∷ bs)
    go true e = rw (star_first b bs e) (beyond_none (to_close (b ∷ bs)))
    go false e = starless_first b bs e next

starless_run : (bs : List ℕ) → Starless bs
unfolding run
starless_run [] = beyond_none (to_close [])
starless_run (b ∷ bs) = starless_step b bs (starless_run bs)

-- no */ begins before the rest
pub record Passed (bs rest : List ℕ) : Type 0 where
  pub within : length rest ≤ length bs
  pub so_far : to_close bs ≡ beyond (length bs - length rest) (to_close rest)

pub passed_none : (bs : List ℕ) → Passed bs bs
passed_none bs = record {
  within = omega arith;
  so_far = beyond_none (to_close bs) ∙ ap (λ (n : ℕ). beyond n (to_close bs)) (omega arith);
}

module _ (bs rest : List ℕ) (p : Passed bs rest) where
  pub passed_all : length rest ≡ 0 → None ≡ to_close bs
  unfolding to_close
  passed_all e = sym (p.so_far ∙ ap (beyond (length bs - length rest)) (none rest e))
    where
      none : (l : List ℕ) → length l ≡ 0 → to_close l ≡ None
      none [] e = refl
      none (b ∷ l) e = absurd (omega arith)

  module _ (b : ℕ) (behind : List ℕ) (front : rest ≡ b ∷ behind) where
    ahead : {x : Bool} → closes rest ≡ x → to_close rest ≡ cond x (Some 2) (option_map suc (to_close behind))
    unfolding to_close
    ahead e =
        let here : closes (b ∷ behind) ≡ closes rest = ap closes (sym front) in
        ap to_close front ∙ ap (λ (x : Bool). cond x (Some 2) (option_map suc (to_close behind))) (here ∙ e)

    pub passed_closed : closes rest ≡ true → Some (length bs - length rest + 2) ≡ to_close bs
    passed_closed e = sym (p.so_far ∙ ap (beyond (length bs - length rest)) (ahead e))

    -- the bytes before the next star are passed at once
    pub passed_more : closes rest ≡ false → Passed bs (drop (run starless behind) behind)
    passed_more e =
        let n = run starless behind in
        let left = drop n behind in
        let in_rest = ahead e ∙ ap (option_map suc) (starless_run behind) ∙ beyond_one n (to_close left) in
        let gone = length-drop n behind in
        let here : length rest ≡ suc (length behind) = ap length front in
        let inside = run_within starless behind in
        record {
          within = omega (arith, p.within, gone, here);
          so_far = p.so_far ∙ ap (beyond (length bs - length rest)) in_rest ∙ beyond_beyond (length bs - length rest) (suc n) (to_close left)
              ∙ ap (λ (m : ℕ). beyond m (to_close left)) (omega (arith, p.within, gone, here, inside));
        }
