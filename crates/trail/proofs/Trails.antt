-- First headings, computed; and trails: turns both ways around, and the level.
use mathlib.Core.Path.{◌≡◌, refl}
use Prim.Native.Nat.{ℕ}
use mathlib.Core.List.{List, [], ◌∷◌, map}
use Rattle.format.specs.Line.{Line}
use Rattle.format.specs.declared.Scale.{Scale}
use Rattle.trail.specs.Trail.{first_heading, trail}

-- ---- first headings

pub record Rounding : Type 0 where
  pub n : ℕ
  pub b : ℕ
  pub direction : ℕ
  pub heading : ℕ

abbrev rounds : ℕ → ℕ → ℕ → ℕ → Rounding
rounds n b d h = record { n = n; b = b; direction = d; heading = h }

abbrev roundings : List Rounding
roundings =
    -- N = 32, b = 8, four directions to a heading: 0, 0.25, 0.5, 0.75, 1, 1.25
    rounds 32 8 0 0 ∷ rounds 32 8 1 0 ∷ rounds 32 8 2 1 ∷ rounds 32 8 3 1 ∷ rounds 32 8 4 1 ∷ rounds 32 8 5 1
    -- 1.5 and 2.5: halves go upwards, to even headings and to odd ones
    ∷ rounds 32 8 6 2 ∷ rounds 32 8 10 3
    -- 63 and 63.25; 63.5 and 63.75 come to the full turn, which is heading 0
    ∷ rounds 32 8 252 63 ∷ rounds 32 8 253 63 ∷ rounds 32 8 254 0 ∷ rounds 32 8 255 0
    -- as many headings as directions
    ∷ rounds 32 6 1 1 ∷ rounds 32 6 63 63
    -- b = 4 with N = 255: 31.875, 127.5, 255, 478.125
    ∷ rounds 255 4 1 32 ∷ rounds 255 4 4 128 ∷ rounds 255 4 8 255 ∷ rounds 255 4 15 478
    -- N = 1, two headings: below a quarter of the turn and at it, below three quarters and there
    ∷ rounds 1 8 63 0 ∷ rounds 1 8 64 1 ∷ rounds 1 8 191 1 ∷ rounds 1 8 192 0 ∷ rounds 1 4 3 0 ∷ rounds 1 4 4 1 ∷ rounds 1 4 12 0
    ∷ []

abbrev computed_heading : Rounding → ℕ
computed_heading r = first_heading r.n r.b r.direction

abbrev expected_heading : Rounding → ℕ
expected_heading r = r.heading

headings : map computed_heading roundings ≡ map expected_heading roundings
headings = refl

-- ---- trails

-- N = 32, b = 8, and k bits of a code
abbrev scale : ℕ → Scale
scale k = record { points = 197; widths = record { c = 8; b = 8; k = k }; step = 16; ratio = 64; half = 32 }

abbrev line : ℕ → List ℕ → Line
line direction codes = record { start = record { kind = 1; direction = direction; x = 10; y = 20 }; codes = codes; finish = record { kind = 0; direction = 192; x = 14; y = 20 } }

pub record Row : Type 0 where
  pub k : ℕ
  pub direction : ℕ
  pub codes : List ℕ
  pub gives : List ℕ

abbrev row : ℕ → ℕ → List ℕ → List ℕ → Row
row k d cs t = record { k = k; direction = d; codes = cs; gives = t }

abbrev table : List Row
table =
    -- no codes, no elements
    row 4 64 [] []
    -- first headings 0, 1, 1 and 0: rounded, and around the full turn
    ∷ row 4 0 (0 ∷ []) (0 ∷ []) ∷ row 4 2 (0 ∷ []) (2 ∷ []) ∷ row 4 3 (0 ∷ []) (2 ∷ []) ∷ row 4 255 (0 ∷ []) (0 ∷ [])
    -- 16 + 7, then - 7, then - 1
    ∷ row 4 64 (7 ∷ 9 ∷ 15 ∷ []) (46 ∷ 32 ∷ 30 ∷ [])
    -- around the full turn, up and down
    ∷ row 4 252 (1 ∷ []) (0 ∷ []) ∷ row 4 0 (15 ∷ []) (126 ∷ [])
    -- the level turns up and down again, and draws nothing
    ∷ row 4 64 (8 ∷ 1 ∷ 8 ∷ 1 ∷ []) (35 ∷ 36 ∷ []) ∷ row 4 64 (8 ∷ []) []
    -- codes of 2 and of 8 bits: 128 turns the level, 129 is - 127, one below a full turn and 63 back
    ∷ row 2 64 (1 ∷ 2 ∷ 3 ∷ []) (34 ∷ 33 ∷ []) ∷ row 8 0 (128 ∷ 129 ∷ []) (3 ∷ [])
    ∷ []

abbrev computed : Row → List ℕ
computed r = trail (scale r.k) (line r.direction r.codes)

abbrev expected : Row → List ℕ
expected r = r.gives

trails : map computed table ≡ map expected table
unfolding trail
trails = refl
