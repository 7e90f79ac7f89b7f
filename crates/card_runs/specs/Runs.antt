-- Runs of start coordinates (clause 8.4): "a run of start coordinates to its low bytes and back, 256 added at each drop (equal isn't
-- one)". A run is a list of numbers of 16 bits.
use Rattle.std.specs.Prelude.{ℕ, ◌+◌, ◌%◌, Bool, true, ◌&&◌, List, [], ◌∷◌, map, length, leb, ltb, eqb}
use Rattle.bits.specs.Choice.{pick, within}
use Rattle.bits.specs.Lists.{every}
use Rattle.put_bytes.specs.HighFirst.{numbers_in}
use Rattle.outcome.specs.Refusals.{bad_run}
use Rattle.outcome.specs.Outcome.{Outcome, refused, given}

-- ---- to low bytes

-- no step falls, and none rises by over 255; before: the coordinate before the first
abbrev pub climbs : ℕ → List ℕ → Bool
climbs before [] = true
climbs before (x ∷ xs) = within before (before + 255) x && climbs x xs

-- "a run that falls, starts above 255, rises by over 255 in a step": it starts as if 0 stood before it
abbrev pub run_ok : List ℕ → Bool
run_ok run = climbs 0 run

abbrev pub low_of : List ℕ → List ℕ
low_of run = map (λ x. x % 256) run

-- the run as the host lends it, two bytes each; of odd length it is none
abbrev pub lent_ok : List ℕ → Bool
lent_ok lent = eqb (length lent % 2) 0 && run_ok (numbers_in lent)

unfoldable pub low_bytes : List ℕ → Outcome ℕ
low_bytes lent = pick (lent_ok lent) (given (low_of (numbers_in lent))) (refused bad_run 0)

-- ---- and back

-- what is added at a low byte x, "256 added at each drop (equal isn't one)"; before: the low byte before; added: what is added there
abbrev pub added_at : (added before x : ℕ) → ℕ
added_at added before x = pick (ltb x before) (added + 256) added

abbrev pub restored : (added before : ℕ) → List ℕ → List ℕ
restored added before [] = []
restored added before (x ∷ xs) =
    let more : ℕ = added_at added before x in
    (more + x) ∷ restored more x xs

abbrev pub run_of : List ℕ → List ℕ
run_of bytes = restored 0 0 bytes

-- "coming back, passes 65,535"
abbrev pub restored_ok : List ℕ → Bool
restored_ok bytes = every (λ x. leb x 65535) (run_of bytes)

unfoldable pub from_low_bytes : List ℕ → Outcome ℕ
from_low_bytes bytes = pick (restored_ok bytes) (given (run_of bytes)) (refused bad_run 0)
