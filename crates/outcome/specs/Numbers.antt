-- The numbers that each call can give, to be held against document 01's table, the order in which it judges, and document 02: "No
-- number is given otherwise." They stand as ranges, each from its first number to its last. 0 is for what is accepted and stands in no
-- range.
use Rattle.std.specs.Prelude.{ℕ, Bool, false, ◌||◌, List, [], ◌∷◌, T, eqb}
use Rattle.bits.specs.Choice.{within}

-- the number stands in one of the ranges
abbrev pub among : List (ℕ × ℕ) → ℕ → Bool
among [] number = false
among (range ∷ ranges) number = within range.0 range.1 number || among ranges number

-- an answer's number: 0, or one of these
abbrev pub Gives : List (ℕ × ℕ) → ℕ → Type 0
Gives ranges number = T (eqb number 0 || among ranges number)

-- ---- the calls

-- "A record is judged 1 to 5, then .. Reading: then 20"
abbrev pub read_numbers : List (ℕ × ℕ)
read_numbers = (1, 12) ∷ (20, 20) ∷ []

-- "A sheet: 21 over the whole sheet, 22 over the whole sheet, 19, 20"
abbrev pub write_numbers : List (ℕ × ℕ)
write_numbers = (19, 22) ∷ []

-- "Trail: 13, 15, 20", behind 1 to 12
abbrev pub trail_numbers : List (ℕ × ℕ)
trail_numbers = (1, 13) ∷ (15, 15) ∷ (20, 20) ∷ []

-- "Segment: 13, 23", behind 1 to 12
abbrev pub segment_numbers : List (ℕ × ℕ)
segment_numbers = (1, 13) ∷ (23, 23) ∷ []

-- "Orders: 13, 14, then removal 15, 16; .. then 19, 20", behind 1 to 12; "a removal meeting such a payload gives 26, after 16"
abbrev pub removal_numbers : List (ℕ × ℕ)
removal_numbers = (1, 16) ∷ (19, 20) ∷ (26, 26) ∷ []

-- "Orders: 13, 14, then .. pair 17, 15, 18; then 19, 20", behind 1 to 12
abbrev pub pair_numbers : List (ℕ × ℕ)
pair_numbers = (1, 15) ∷ (17, 20) ∷ []

-- many pairs: "25, empty list or another shape, after 17; the rest per order as in 01", behind 1 to 14
abbrev pub pairs_numbers : List (ℕ × ℕ)
pairs_numbers = (1, 15) ∷ (17, 20) ∷ (25, 25) ∷ []

-- local quality: "24, .. after 23; then 19, 20", behind 1 to 13; reading it gives no 19
abbrev pub quality_numbers : List (ℕ × ℕ)
quality_numbers = (1, 13) ∷ (20, 20) ∷ (23, 24) ∷ []

abbrev pub set_quality_numbers : List (ℕ × ℕ)
set_quality_numbers = (1, 13) ∷ (19, 20) ∷ (23, 24) ∷ []

-- pores: "26, as 24 for pores"
abbrev pub pores_numbers : List (ℕ × ℕ)
pores_numbers = (1, 13) ∷ (20, 20) ∷ (23, 23) ∷ (26, 26) ∷ []

abbrev pub set_pores_numbers : List (ℕ × ℕ)
set_pores_numbers = (1, 13) ∷ (19, 20) ∷ (23, 23) ∷ (26, 26) ∷ []

-- the card's object: "27, size number (before all others) or object shape, bytes after it included; then 8 to 10 on skeleton and index;
-- .. each before 19 and 20"
abbrev pub card_read_numbers : List (ℕ × ℕ)
card_read_numbers = (8, 10) ∷ (19, 20) ∷ (27, 27) ∷ []

-- a view's object: 27 for the size, "28, record points per cm, widths, steps or N not the size's", behind 1 to 13. It is shorter than the
-- record, so that there is no 19.
abbrev pub card_write_numbers : List (ℕ × ℕ)
card_write_numbers = (1, 13) ∷ (20, 20) ∷ (27, 28) ∷ []

-- runs: "29, .. before 19 and 20"; they have no largest length
abbrev pub run_numbers : List (ℕ × ℕ)
run_numbers = (20, 20) ∷ (29, 29) ∷ []

-- a check: "30, rule number not 1 or 2, before all others; 31, b below the rule, after 12"; it writes nothing, so that there is no 20
abbrev pub check_numbers : List (ℕ × ℕ)
check_numbers = (1, 12) ∷ (30, 31) ∷ []
