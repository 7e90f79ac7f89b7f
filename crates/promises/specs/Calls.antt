-- Demands 2 and 3, of calls that are made one behind the other: the second is lent what the first one wrote.
use Rattle.std.specs.Prelude.{◌≡◌, ℕ, ◌≤◌, List, length}
use Rattle.outcome.specs.Refusals.{other_count}
use Rattle.outcome.specs.Outcome.{given, Gave}
use Rattle.outcome.specs.declared.Answer.{Answer}
use Rattle.sheet.specs.Sheet.{reading, writing}
use Rattle.orders.specs.Order.{Order, order}

-- an accepted record, with room for its sheet xs and for the record again: again it is
abbrev pub RecordBack : (bytes sheet again after : List ℕ) → Answer → Type 0
RecordBack bytes sheet again after a =
    (xs : List ℕ) → reading bytes ≡ given xs → length xs ≤ length sheet → length bytes ≤ length again → Gave bytes after a

-- a sheet that is right, with room for its record xs and for the sheet again: again it is
abbrev pub SheetBack : (sheet bytes again after : List ℕ) → Answer → Type 0
SheetBack sheet bytes again after a =
    (xs : List ℕ) → writing sheet ≡ given xs → length xs ≤ length bytes → length sheet ≤ length again → Gave sheet after a

-- an order that is accepted, with room for its record xs: on the record that then holds it is refused with 14, and writes nothing
abbrev pub OnlyOnce : Order → (bytes second third after : List ℕ) → Answer → Type 0
OnlyOnce o bytes second third after a =
    (xs : List ℕ) → order o bytes ≡ given xs → length xs ≤ length second
    → (a ≡ record { number = other_count; place = 0; length = 0 }) × (after ≡ third)
