-- Readers put together by their contracts: one part after the other, and a part that the next kind tells or leaves out.
-- By the laws of rows and of choices, in each frame. Assumes nothing.
use Rattle.std.proofs.Common.{◌≡◌, ℕ, List}
use Rattle.prediction.specs.plans.Plan.{Plan, token, seq, skip}
use Rattle.readers_core.specs.Course.{Course, table_in}
use Rattle.readers_core.specs.Reading.{Reading, State, From, Reads, Takes, Within, ahead, several}
use Rattle.readers_core.proofs.Choosing.{Known, Knows, choose}
use Rattle.readers_core.proofs.Frames.{chosen}
use Rattle.readers_core.proofs.Sequence.{◌▸◌, skipped}
use Rattle.readers_core.proofs.Shapes.{leaves}

-- one after the other
infixr 5 ◌then◌
pub ◌then◌ : {R : Course} {ks : List ℕ} {d : ℕ} {p q : Plan} {s s' s'' : State} → Reads R ks d p s s' → Reads R ks d q s' s'' →
    Reads R ks d (seq p q) s s''
x then y = record { in_any = λ start hs. x.in_any start hs ▸ y.in_any start _ }

module _ {R : Course} {ks : List ℕ} {d : ℕ} where
  -- nothing is read
  pub left_out : {s : State} → Reads R ks d skip s s
  left_out = record { in_any = λ start hs. skipped }

  -- what a plan comes to, as the next kind tells
  pub picked : {x : ℕ} {p : Plan} {s s' : State} (k : Known) → x ≡ ahead ks s.0 → Knows k x →
      Reads R ks d (choose (table_in R) k p) s s' → Reads R ks d p s s'
  picked k e h y = record { in_any = λ start hs. chosen k e h (y.in_any start hs) }

  module _ {start : Reading} where
    -- the same in one frame, for a part that reads in any and for one that reads there
    pub picked_here : {x : ℕ} {p : Plan} {s s' : State} (k : Known) → x ≡ ahead ks s.0 → Knows k x →
        Within R ks d start (choose (table_in R) k p) s s' → Within R ks d start p s s'
    picked_here k e h y = record { of_any = λ hs. chosen k e h (y.of_any hs) }

    pub here : {p : Plan} {s s' : State} → Reads R ks d p s s' → Within R ks d start p s s'
    here y = record { of_any = λ hs. y.in_any start hs }

    -- a keyword and what stands behind it; a keyword, a name and what stands behind the name
    pub behind : {k : ℕ} {rest : Plan} {s t : Reading} {w : List ℕ} {s' : State} → Takes ks (token k) s t →
        From R ks d start several rest (t, w) s' → Within R ks d start (seq (token k) rest) (s, w) s'
    unfolding leaves
    behind x y = record { of_any = λ hs. (x.reads _ _).in_any _ _ ▸ y }

    pub named : {k k' : ℕ} {rest : Plan} {s t u : Reading} {w : List ℕ} {s' : State} → Takes ks (token k) s t →
        Takes ks (token k') t u → From R ks d start several rest (u, w) s' →
        Within R ks d start (seq (token k) (seq (token k') rest)) (s, w) s'
    named x y z = behind x ((behind y z).of_any several)
