-- The trail of a line. "Codes are two's complement. The value with only its top bit set turns the level between 0 (standard) and 1
-- (high); it counts as a code and draws nothing. Each line starts at level 0. Each other code is added to the heading modulo 2N.
-- The trail is one 16-bit number for each drawn element: twice its heading after the change, plus the level."
use Rattle.std.specs.Prelude.{ℕ, ◌+◌, ◌-◌, ◌*◌, ◌/◌, ◌%◌, ◌^◌, ◌≤◌, ◌<◌, Bool, false, not, List, [], ◌∷◌, ◌++◌, ltb, eqb}
use Rattle.bits.specs.Choice.{pick}
use Rattle.bits.specs.Bits.{val}
use Rattle.outcome.specs.Refusals.{bad_lines}
use Rattle.outcome.specs.Outcome.{Outcome, refused, given}
use Rattle.format.specs.Line.{Line}
use Rattle.format.specs.Record.{Record}
use Rattle.format.specs.Places.{view_at, count, line_at}
use Rattle.format.specs.Call.{on_view}
use Rattle.format.specs.declared.Scale.{Scale}
use Rattle.format.specs.declared.ViewName.{ViewName}

-- ---- the first heading

-- a over m, to the nearest whole number, halves upwards
abbrev pub nearest : (a m : ℕ) → ℕ
nearest a m = (2 * a + m) / (2 * m)

-- What that means: h is at most a half above a over m, and less than a half below it. (The formula has this, and no other number does:
-- nearest-near and nearest-only in proofs/Laws.)
pub record Nearest (a m h : ℕ) : Type 0 where
  pub above : 2 * (h * m) ≤ 2 * a + m
  pub below : 2 * a < 2 * (h * m) + m

-- "The first heading is the start direction times 2N divided by 2 to the b", rounded: "it is the nearest heading, halves upwards, then
-- modulo 2N."
abbrev pub first_heading : (n b direction : ℕ) → ℕ
first_heading n b direction = nearest (direction * (2 * n)) (2 ^ b) % (2 * n)

-- ---- its codes

-- the code of k bits with only its top bit set
abbrev pub turns_level : ℕ → ℕ → Bool
turns_level k code = eqb code (2 ^ (k - 1))

-- A code of k bits added to a heading, modulo 2N. A negative code is 2 to the k less, which modulo 2N is 2N - 1 times 2 to the k
-- more.
abbrev pub turned : (n k heading code : ℕ) → ℕ
turned n k heading code = (heading + code + pick (ltb code (2 ^ (k - 1))) 0 ((2 * n - 1) * 2 ^ k)) % (2 * n)

-- the heading after a code
abbrev pub new_heading : (n k heading code : ℕ) → ℕ
new_heading n k heading code = pick (turns_level k code) heading (turned n k heading code)

-- high: the level is 1
abbrev pub follow : (n k : ℕ) → Bool → ℕ → List ℕ → List ℕ
follow n k high heading [] = []
follow n k high heading (code ∷ codes) =
    let turns : Bool = turns_level k code in
    let now : ℕ = new_heading n k heading code in
    pick turns [] ((2 * now + val high) ∷ []) ++ follow n k (pick turns (not high) high) now codes

unfoldable pub trail : Scale → Line → List ℕ
trail s l = follow s.half s.widths.k false (first_heading s.half s.widths.b l.start.direction) l.codes

-- ---- the call: "Trail: 13, 15, 20"

-- of view i
abbrev pub trail_in : (line i : ℕ) → Record → Outcome ℕ
trail_in line i r =
    pick (ltb line (count (view_at r i))) (given (trail r.head.scale (line_at (view_at r i) line))) (refused bad_lines 0)

unfoldable pub trailing : ViewName → (line : ℕ) → List ℕ → Outcome ℕ
trailing view line = on_view view (trail_in line)
