-- Runs, computed: the example of clause 8.4 both ways, and a row on each side of each limit.
use mathlib.Core.Path.{◌≡◌, refl}
use Prim.Native.Nat.{ℕ, zero, suc, ◌+◌, ◌*◌}
use mathlib.Core.List.{List, [], ◌∷◌, ◌++◌, map}
use Rattle.put_bytes.specs.HighFirst.{two, joined}
use Rattle.outcome.specs.Outcome.{Outcome, refused, given}
use Rattle.card_runs.specs.Runs.{low_bytes, from_low_bytes}

-- what a call gives, and what it must give
abbrev Row : Type 0
Row = Outcome ℕ × Outcome ℕ

abbrev to : List ℕ → List ℕ → Row
to run bytes = (low_bytes (joined two run), given bytes)

abbrev from : List ℕ → List ℕ → Row
from bytes run = (from_low_bytes bytes, given run)

abbrev no_run : List ℕ → Row
no_run run = (low_bytes (joined two run), refused 29 0)

-- ---- long ones

-- 1, 0, 1, 0, ..: n drops
abbrev zigzag : ℕ → List ℕ
zigzag zero = []
zigzag (suc n) = 1 ∷ 0 ∷ zigzag n

-- what they come back as, behind k drops
abbrev stairs : (k n : ℕ) → List ℕ
stairs k zero = []
stairs k (suc n) = (256 * k + 1) ∷ (256 * k + 256) ∷ stairs (k + 1) n

-- ---- the table

-- the clause's example: a run, and what is transmitted of it
abbrev example : List ℕ
example = 60 ∷ 276 ∷ 277 ∷ 333 ∷ 581 ∷ 797 ∷ 860 ∷ 986 ∷ 1000 ∷ []

abbrev transmitted : List ℕ
transmitted = 60 ∷ 20 ∷ 21 ∷ 77 ∷ 69 ∷ 29 ∷ 92 ∷ 218 ∷ 232 ∷ []

abbrev table : List Row
table =
    to example transmitted ∷ from transmitted example
    -- an empty run; a start at 255, and at 256
    ∷ to [] [] ∷ from [] [] ∷ to (255 ∷ []) (255 ∷ []) ∷ no_run (256 ∷ [])
    -- equal neighbours are no fall; a rise of 255, and of 256; a fall
    ∷ to (7 ∷ 7 ∷ []) (7 ∷ 7 ∷ []) ∷ to (7 ∷ 262 ∷ []) (7 ∷ 6 ∷ []) ∷ no_run (7 ∷ 263 ∷ []) ∷ no_run (7 ∷ 6 ∷ [])
    -- and behind the first step
    ∷ to (7 ∷ 262 ∷ 517 ∷ []) (7 ∷ 6 ∷ 5 ∷ []) ∷ no_run (7 ∷ 262 ∷ 518 ∷ []) ∷ no_run (7 ∷ 262 ∷ 261 ∷ [])
    -- of odd length
    ∷ (low_bytes (0 ∷ []), refused 29 0) ∷ (low_bytes (0 ∷ 7 ∷ 0 ∷ []), refused 29 0)
    -- equal bytes are no drop, one below is, also at 0
    ∷ from (7 ∷ 7 ∷ []) (7 ∷ 7 ∷ []) ∷ from (7 ∷ 6 ∷ []) (7 ∷ 262 ∷ []) ∷ from (0 ∷ 0 ∷ []) (0 ∷ 0 ∷ [])
    -- 65,535 behind 255 drops, both ways; 256 drops come to 65,536
    ∷ from (zigzag 255 ++ 255 ∷ []) (stairs 0 255 ++ 65535 ∷ []) ∷ to (stairs 0 255 ++ 65535 ∷ []) (zigzag 255 ++ 255 ∷ [])
    ∷ (from_low_bytes (zigzag 256), refused 29 0)
    ∷ []

abbrev computed : Row → Outcome ℕ
computed r = r.0

abbrev expected : Row → Outcome ℕ
expected r = r.1

pub verdicts : map computed table ≡ map expected table
unfolding low_bytes from_low_bytes
verdicts = refl
