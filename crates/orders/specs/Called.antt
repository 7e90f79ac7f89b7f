-- The orders as they are called, with numbers and bytes.
use Rattle.std.specs.Prelude.{ℕ, Bool, List}
use Rattle.bits.specs.Choice.{pick}
use Rattle.format.specs.declared.ViewName.{ViewName}
use Rattle.orders.specs.Listed.{removal_lines}
use Rattle.orders.specs.Act.{Act, remove, join, part, Word}
use Rattle.orders.specs.Order.{Order}

-- of these lines
abbrev pub removing : (view : ViewName) → (count : ℕ) → (lines : List ℕ) → Order
removing view count lines = record { view = view; count = count; act = remove lines }

-- removal: the bytes of the removal list
abbrev pub removal_order : (view : ViewName) → (count : ℕ) → (removal : List ℕ) → Order
removal_order view count removal = removing view count (removal_lines removal)

abbrev pub pair_act : Bool → ℕ → ℕ → Act
pair_act joins a b = pick joins (join a b) (part a b)

abbrev pub pair_order : (view : ViewName) → (count a b : ℕ) → (joins : Bool) → Order
pair_order view count a b joins = record { view = view; count = count; act = pair_act joins a b }

abbrev pub word_act : Word → Act
word_act w = pair_act w.joins w.one w.other

abbrev pub word_order : (view : ViewName) → (count : ℕ) → Word → Order
word_order view count w = pair_order view count w.one w.other w.joins
