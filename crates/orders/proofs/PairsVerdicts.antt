-- Lists of pairs, computed: the refusals in their order, each order's with its place in the list, and the records that accepted lists
-- leave.
use mathlib.Core.Path.{◌≡◌, refl}
use Prim.Native.Nat.{ℕ}
use mathlib.Core.List.{List, [], ◌∷◌, ◌++◌, map}
use lib.ListN.{set}
use Rattle.bits.specs.Bits.{number_of_bits, bits_of_number}
use Rattle.bits.specs.Bytes.{bits_of, bytes_of}
use Rattle.bits.specs.Codec.{then_dec, via_dec, only_dec, judged_dec, whole_dec, room_dec}
use Rattle.bits.specs.Block.{ended_dec, sized_dec}
use Rattle.outcome.specs.Outcome.{Outcome, refused, given}
use Rattle.format.specs.Limits.{most_lines, least_bytes, most_bytes}
use Rattle.format.specs.Line.{end, line, skeleton}
use Rattle.format.specs.Index.{index, index_block}
use Rattle.format.specs.Segments.{segment, segments}
use Rattle.format.specs.View.{view, view_header}
use Rattle.format.specs.Record.{header, views, record_of, read, size, write}
use Rattle.format.specs.Named.{named}
use Rattle.format.specs.Call.{on_record, on_view}
use Rattle.format.specs.declared.ViewName.{ViewName}
use Rattle.format.specs.Sample.{sample_a}
use Rattle.orders.specs.Least.{least_width}
use Rattle.orders.specs.Act.{near, after}
use Rattle.orders.specs.Listed.{shape_ok}
use Rattle.orders.specs.Order.{edited, tests, all_tests, verdict, order}
use Rattle.orders.specs.History.{outcome}
use Rattle.orders.specs.Pairs.{PairsCall, pairs_tests, pairs_verdict, pairs}
use Rattle.orders.proofs.Verdicts.{two_lines, none, indexed}

-- ---- records of two lines

abbrev no_index : List ℕ
no_index = two_lines 54 none none

-- at width 1
abbrev listed : ℕ → List ℕ
listed lists = two_lines 56 (indexed lists) none

-- at width 2, which the neighbours of line 1 in `both` take: line 1 itself and line 0; A's lists do not need it
abbrev listed_wide : ℕ → List ℕ
listed_wide lists = two_lines 56 (0x00 ∷ 0x02 ∷ 0x02 ∷ lists ∷ []) none

abbrev both : List ℕ
both = listed_wide 0x21

abbrev wide_a : List ℕ
wide_a = listed_wide 0x14

-- line 0 next to itself too: a byte more
abbrev all_near : List ℕ
all_near = two_lines 57 (0x00 ∷ 0x03 ∷ 0x02 ∷ 0x48 ∷ 0x40 ∷ []) none

-- ---- lists

abbrev entry : ℕ → ℕ → ℕ → List ℕ
entry kind a b = 0 ∷ kind ∷ 0 ∷ a ∷ 0 ∷ b ∷ []

abbrev joined : ℕ → ℕ → List ℕ
joined a b = entry 0 a b

abbrev parted : ℕ → ℕ → List ℕ
parted a b = entry 1 a b

-- ---- the table

pub record Row : Type 0 where
  pub call : PairsCall
  pub bytes : List ℕ
  pub gives : Outcome ℕ

abbrev row_of : ViewName → (count lent : ℕ) → List ℕ → List ℕ → Outcome ℕ → Row
row_of view count lent orders bytes o =
    record { call = record { view = view; count = count; list = orders; lent = lent }; bytes = bytes; gives = o }

-- on A's view, which is the first of finger 2, for a count of two lines, with room for so many bytes
abbrev row : ℕ → List ℕ → List ℕ → Outcome ℕ → Row
row = row_of (named 2 0) 2

abbrev table : List Row
table =
    -- the record's own refusal first, with its place
    row 99 [] (set sample_a 17 3) (refused 5 136)
    -- 13, 14, 17, each before the next ones and before 25
    ∷ row_of (named 0 2) 3 99 [] sample_a (refused 13 0) ∷ row_of (named 2 0) 3 99 [] no_index (refused 14 0) ∷ row 99 [] no_index (refused 17 0)
    ∷ row 99 (joined 0 2) no_index (refused 17 0)
    -- 25: empty; a byte short, a byte over; a first number above 1, also by its high byte; in the last order, where an earlier one
    -- would be refused; without room
    ∷ row 99 [] sample_a (refused 25 0) ∷ row 99 (0 ∷ 1 ∷ 0 ∷ 0 ∷ 0 ∷ []) sample_a (refused 25 0)
    ∷ row 99 (parted 0 1 ++ 0 ∷ []) sample_a (refused 25 0) ∷ row 99 (set (parted 0 1) 0 1) sample_a (refused 25 0)
    ∷ row 99 (joined 0 9 ++ entry 2 0 1) sample_a (refused 25 0) ∷ row 0 (entry 2 0 1 ++ parted 0 1) sample_a (refused 25 0)
    -- 15 of the first, a middle and the last order; high bytes count
    ∷ row 0 (joined 0 2 ++ joined 0 1) sample_a (refused 15 0) ∷ row 99 (parted 0 1 ++ joined 2 0 ++ parted 0 1) sample_a (refused 15 1)
    ∷ row 99 (parted 0 1 ++ joined 0 1 ++ parted 0 2) sample_a (refused 15 2) ∷ row 99 (set (parted 0 1) 2 1) sample_a (refused 15 0)
    -- 18 of the first, a middle and the last order: what counts is the last order about the pair, whichever way round it names it
    ∷ row 99 (joined 0 1 ++ joined 0 9) sample_a (refused 18 0) ∷ row 99 (parted 0 1 ++ parted 1 0 ++ joined 0 1) sample_a (refused 18 1)
    ∷ row 99 (parted 0 1 ++ joined 1 0 ++ joined 0 1) sample_a (refused 18 2)
    -- 20: the room is held against the record that each order leaves, also where the last one fits
    ∷ row 55 (parted 0 1 ++ joined 0 9) sample_a (refused 20 0) ∷ row 56 (joined 1 1 ++ joined 0 0) sample_a (refused 20 1)
    ∷ row 57 (joined 1 1 ++ joined 0 0) sample_a (given all_near)
    ∷ row 56 (joined 1 1 ++ joined 0 0 ++ parted 0 0) sample_a (refused 20 1)
    ∷ row 57 (joined 1 1 ++ joined 0 0 ++ parted 0 0) sample_a (given both)
    -- one order; the last word counts, and a pair may come again, reversed
    ∷ row 56 (parted 0 1) sample_a (given (listed 0x00)) ∷ row 56 (parted 1 0 ++ joined 1 1) sample_a (given (listed 0x40))
    ∷ row 56 (parted 0 1 ++ joined 1 0) sample_a (given sample_a)
    ∷ row 56 (joined 1 0 ++ parted 0 1 ++ joined 0 1) (listed 0x00) (given sample_a)
    -- the width grows, comes back, and is the least in any case
    ∷ row 56 (joined 1 1) sample_a (given both) ∷ row 56 (joined 1 1 ++ parted 1 1) sample_a (given sample_a)
    ∷ row 56 (parted 0 1 ++ joined 0 1) wide_a (given sample_a)
    ∷ []

abbrev computed : Row → Outcome ℕ
computed r = pairs r.call r.bytes

abbrev expected : Row → Outcome ℕ
expected r = r.gives

verdicts : map computed table ≡ map expected table
unfolding number_of_bits bits_of_number bits_of bytes_of then_dec via_dec only_dec judged_dec whole_dec room_dec ended_dec sized_dec most_lines least_bytes most_bytes end line skeleton index index_block segment segments view view_header header views record_of read size write on_record on_view least_width near after edited tests all_tests verdict order outcome shape_ok pairs_tests pairs_verdict pairs
verdicts = refl
