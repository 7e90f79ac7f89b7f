-- The examples of split work: a record with two scans of the right index, and what comes of it one way and the other. The first scan has
-- five lines, an index that is wider than it need be, local quality and pores; the second has two lines and an index.
use Rattle.std.specs.Prelude.{ℕ, ◌+◌, Bool, true, false, ◌&&◌, List, [], ◌∷◌, ◌++◌, length, set, eqb}
use Rattle.outcome.specs.Outcome.{Outcome, refused, given}
use Rattle.format.specs.Named.{named}
use Rattle.format.specs.Sample.{header_a, view_header_a, lines_a}
use Rattle.format.specs.declared.ViewName.{ViewName}
use Rattle.find_parts.specs.Stored.{sized}
use Rattle.orders.specs.Order.{Order, order}
use Rattle.orders.specs.Called.{removing, pair_order}
use Rattle.orders.specs.Pairs.{PairsCall, onward, pairs}
use Rattle.orders.specs.Split.{count_after, renumbered, view_bytes}

-- two outcomes are the same: as a test, which computes faster than an equation between them
abbrev same_list : List ℕ → List ℕ → Bool
same_list [] [] = true
same_list [] (y ∷ ys) = false
same_list (x ∷ xs) [] = false
same_list (x ∷ xs) (y ∷ ys) = eqb x y && same_list xs ys

abbrev pub same : Outcome ℕ → Outcome ℕ → Bool
same (refused e p) (refused f q) = eqb e f && eqb p q
same (refused e p) (given ys) = false
same (given xs) (refused f q) = false
same (given xs) (given ys) = same_list xs ys

-- ---- the parts of the record

-- A's line, but for the y of its end
abbrev line_to : ℕ → List ℕ
line_to y = 0x50 ∷ 0x02 ∷ 0x85 ∷ 0x00 ∷ 0x48 ∷ 0xC0 ∷ 0x0E ∷ y ∷ []

-- local quality of A's image of 256 by 256, in cells of 128 by 128 with 2 bits
abbrev pub cells : List ℕ
cells = 0x00 ∷ 0x03 ∷ 0x00 ∷ 0x08 ∷ 0x80 ∷ 0x80 ∷ 0x02 ∷ 0x1B ∷ []

-- pores in elements of 4 bits
abbrev pores_of : List ℕ → List ℕ
pores_of elements = 0x00 ∷ 0x04 ∷ 0x00 ∷ (7 + length elements) ∷ 0x01 ∷ 0xF4 ∷ 0x04 ∷ elements

-- a view of right index with these lines, index block and pores
abbrev first_scan : (lines index elements : List ℕ) → List ℕ
first_scan lines index elements = view_header_a (length lines) ++ lines ++ sized index ++ sized (cells ++ pores_of elements)

-- and the next one, with these bits for its lists
abbrev second_scan : ℕ → List ℕ
second_scan lists = set (view_header_a 16) 0 1 ++ lines_a 2 ++ sized (0x01 ∷ lists ∷ []) ++ sized []

abbrev two_views : List ℕ → List ℕ → List ℕ
two_views first second = set (header_a (24 + length first + length second) 8) 14 2 ++ first ++ second

-- ---- the record

-- line 1 is next to 0, 2 to 1 and 0, 3 to 2, 4 to 3, 2 and 0; their pores: 1; 2 and 2; 3; none; 15
abbrev first_view : List ℕ
first_view =
    first_scan (line_to 10 ++ line_to 11 ++ line_to 12 ++ line_to 13 ++ line_to 14) (0x03 ∷ 0x04 ∷ 0xA2 ∷ 0x49 ∷ 0x64 ∷ 0xA0 ∷ [])
    (0x01 ∷ 0x02 ∷ 0x20 ∷ 0x30 ∷ 0x0F ∷ 0x10 ∷ [])

abbrev sample : List ℕ
sample = two_views first_view (second_scan 0x60)

abbrev first : ViewName
first = named 2 0

abbrev second : ViewName
second = named 2 1

-- ---- two removals: line 1, and then 0 and 3, which are 0 and 2 by then

abbrev pub in_two : Outcome ℕ
in_two = onward 0 (order (removing first 5 (1 ∷ [])) sample) (order (removing first (count_after 5 (1 ∷ [])) (renumbered 5 (1 ∷ []) (0 ∷ 3 ∷ []))))

abbrev pub at_once : Outcome ℕ
at_once = order (removing first 5 (0 ∷ 1 ∷ 3 ∷ [])) sample

-- lines 2 and 4 are left, next to each other
abbrev pub thinned : List ℕ
thinned = two_views (first_scan (line_to 12 ++ line_to 14) (0x01 ∷ 0x60 ∷ []) (0x03 ∷ 0x0F ∷ 0x10 ∷ [])) (second_scan 0x60)

-- ---- two views: a removal in the first; a list of pairs, and then a removal in the second

abbrev without_one : Order
without_one = removing first 5 (1 ∷ [])

-- parts lines 0 and 1, and joins line 1 with itself
abbrev pairs_of_second : PairsCall
pairs_of_second = record { view = second; count = 2; list = 0 ∷ 1 ∷ 0 ∷ 0 ∷ 0 ∷ 1 ∷ 0 ∷ 0 ∷ 0 ∷ 1 ∷ 0 ∷ 1 ∷ []; lent = 1000 }

abbrev without_zero : Order
without_zero = removing second 2 (0 ∷ [])

abbrev pub first_then_second : Outcome ℕ
first_then_second = onward 0 (onward 0 (order without_one sample) (pairs pairs_of_second)) (order without_zero)

abbrev pub second_then_first : Outcome ℕ
second_then_first = onward 0 (onward 0 (pairs pairs_of_second sample) (order without_zero)) (order without_one)

-- lines 0, 2, 3 and 4 of the first are left
abbrev pub thinned_first : List ℕ
thinned_first =
    first_scan (line_to 10 ++ line_to 12 ++ line_to 13 ++ line_to 14) (0x02 ∷ 0x15 ∷ 0x75 ∷ 0x40 ∷ []) (0x01 ∷ 0x03 ∷ 0x00 ∷ 0xF1 ∷ [])

-- and of the second line 1, next to itself
abbrev pub both_done : List ℕ
both_done = two_views thinned_first (set (view_header_a 8) 0 1 ++ lines_a 1 ++ sized (0x01 ∷ 0x80 ∷ []) ++ sized [])

-- ---- a pair joined and parted: lines 1 and 3

abbrev pub undone : Outcome ℕ
undone = onward 0 (order (pair_order first 5 1 3 true) sample) (order (pair_order first 5 1 3 false))

-- at its least width, which is 2
abbrev pub at_least_width : List ℕ
at_least_width =
    two_views
    (first_scan (line_to 10 ++ line_to 11 ++ line_to 12 ++ line_to 13 ++ line_to 14) (0x02 ∷ 0x16 ∷ 0x55 ∷ 0xD6 ∷ [])
    (0x01 ∷ 0x02 ∷ 0x20 ∷ 0x30 ∷ 0x0F ∷ 0x10 ∷ [])) (second_scan 0x60)

-- and from there the same bytes
abbrev pub undone_again : Outcome ℕ
undone_again = onward 0 (order (pair_order first 5 3 1 true) at_least_width) (order (pair_order first 5 1 3 false))

-- lines 2 and 4, which are neighbours, the other way round
abbrev pub joined_again : Outcome ℕ
joined_again = onward 0 (order (pair_order first 5 4 2 false) sample) (order (pair_order first 5 2 4 true))

-- ---- a view by itself: the first scan behind a view of the left thumb, in a record with another device, scale and number of directions

abbrev elsewhere : List ℕ
elsewhere =
    let thumb : List ℕ = set (view_header_a 0) 1 6 ++ sized [] ++ sized [] in
    0x46 ∷ 0x53 ∷ 0x4B ∷ 0x00 ∷ 0x30 ∷ 0x31 ∷ 0x30 ∷ 0x00 ∷ 0x00 ∷ 0x00 ∷ 0x00 ∷ (24 + length thumb + length first_view) ∷ 0x12 ∷ 0x34 ∷ 0x02 ∷ 0x64
    ∷ 0x08 ∷ 0x08 ∷ 0x04 ∷ 0x18 ∷ 0x3C ∷ 0x40 ∷ 0x00 ∷ 0x00 ∷ thumb ++ first_view

abbrev pub thinned_here : Outcome ℕ
thinned_here = onward 0 (order without_one sample) (view_bytes first)

abbrev pub thinned_there : Outcome ℕ
thinned_there = onward 0 (order without_one elsewhere) (view_bytes first)
