-- The samples P1 to P11 of document 01, with what document 02 changes in them, as one table: a job, what must come of it, and how
-- many elements that is.
use Rattle.std.specs.Prelude.{ℕ, List, [], ◌∷◌, ◌++◌}
use Rattle.outcome.specs.Refusals.{bad_header, past, other_count, already_so}
use Rattle.outcome.specs.Outcome.{Outcome, refused, given, length_of}
use Rattle.format.specs.Record.{write}
use Rattle.format.specs.Named.{named}
use Rattle.format.specs.Call.{on_record}
use Rattle.format.specs.declared.ViewName.{ViewName}
use Rattle.format.specs.Sample.{sample_a, header_a, view_header_a, lines_a, bare, wide, wider}
use Rattle.sheet.specs.Sheet.{reading, writing}
use Rattle.sheet.specs.Sample.{sheet_a}
use Rattle.trail.specs.Trail.{trailing}
use Rattle.orders.specs.Act.{remove, join}
use Rattle.orders.specs.Order.{Order, order}

-- ---- jobs

pub data Job : Type 0 where
  -- judge a record, and write it again
  judges : List ℕ → Job
  reads : List ℕ → Job
  writes : List ℕ → Job
  -- view, line, record
  trails : ViewName → ℕ → List ℕ → Job
  orders : Order → List ℕ → Job

unfoldable pub result : Job → Outcome ℕ
result (judges bytes) = on_record (λ r. given (write r)) bytes
result (reads bytes) = reading bytes
result (writes sheet) = writing sheet
result (trails view line bytes) = trailing view line bytes
result (orders o bytes) = order o bytes

-- ---- records

abbrev after_p3 : List ℕ
after_p3 = header_a 48 8 ++ view_header_a 8 ++ lines_a 1 ++ 0x00 ∷ 0x02 ∷ 0x01 ∷ 0x00 ∷ 0x00 ∷ 0x00 ∷ []

abbrev after_p5 : List ℕ
after_p5 = header_a 56 8 ++ view_header_a 16 ++ lines_a 2 ++ 0x00 ∷ 0x02 ∷ 0x01 ∷ 0xB0 ∷ 0x00 ∷ 0x00 ∷ []

-- A's line with the codes 1000 and 1001
abbrev level_line : List ℕ
level_line = header_a 47 8 ++ view_header_a 9 ++ 0x50 ∷ 0x02 ∷ 0x85 ∷ 0x00 ∷ 0xA2 ∷ 0x4C ∷ 0x00 ∷ 0xE1 ∷ 0x40 ∷ 0x00 ∷ 0x00 ∷ 0x00 ∷ 0x00 ∷ []

-- A's line with start direction 3 and the codes 0 and 2
abbrev direction_three : List ℕ
direction_three = header_a 47 8 ++ view_header_a 9 ++ 0x40 ∷ 0xC2 ∷ 0x85 ∷ 0x00 ∷ 0x80 ∷ 0x8C ∷ 0x00 ∷ 0xE1 ∷ 0x40 ∷ 0x00 ∷ 0x00 ∷ 0x00 ∷ 0x00 ∷ []

-- ---- the table

pub record Row : Type 0 where
  pub job : Job
  pub gives : Outcome ℕ
  pub length : ℕ

abbrev pub expected : Row → Outcome ℕ × ℕ
expected r = (r.gives, r.length)

abbrev pub computed : Row → Outcome ℕ × ℕ
computed r = (result r.job, length_of (result r.job))

abbrev row : Job → Outcome ℕ → ℕ → Row
row j o n = record { job = j; gives = o; length = n }

-- A's view: the first of finger 2
abbrev view_a : ViewName
view_a = named 2 0

abbrev remove_line_zero : Order
remove_line_zero = record { view = view_a; count = 2; act = remove (0 ∷ []) }

abbrev pub table : List Row
table =
    -- P1
    row (judges sample_a) (given sample_a) 56
    ∷ row (reads sample_a) (given sheet_a) 67
    ∷ row (writes sheet_a) (given sample_a) 56
    -- P2
    ∷ row (trails view_a 0 sample_a) (given (36 ∷ [])) 1
    -- P3
    ∷ row (orders remove_line_zero sample_a) (given after_p3) 48
    -- P4
    ∷ row (orders remove_line_zero after_p3) (refused other_count 0) 0
    -- P5
    ∷ row (orders (record { view = view_a; count = 2; act = join 0 1 }) sample_a) (refused already_so 0) 0
    ∷ row (orders (record { view = view_a; count = 2; act = join 0 0 }) sample_a) (given after_p5) 56
    -- P6
    ∷ row (judges (bare 8)) (given (bare 8)) 38
    -- P7
    ∷ row (judges (header_a 24 8)) (refused past 192) 0
    -- P8
    ∷ row (judges (bare 3)) (refused bad_header 136) 0
    ∷ row (judges (bare 4)) (given (bare 4)) 38
    -- P9: heading 16 - 7 at level 1
    ∷ row (trails view_a 0 level_line) (given (19 ∷ [])) 1
    -- P10, changed by request [2]: heading 1, then 3
    ∷ row (trails view_a 0 direction_three) (given (2 ∷ 6 ∷ [])) 2
    -- P11
    ∷ row (orders (record { view = view_a; count = 31; act = remove (15 ∷ []) }) wide) (given wider) 299
    ∷ []
