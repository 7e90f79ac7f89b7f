-- The lists that a host lends with an order. "Lists of wider numbers cross to it as bytes, high byte first": the lines of a removal,
-- and the orders about pairs.
use Rattle.std.specs.Prelude.{ℕ, ◌*◌, ◌%◌, Bool, not, ◌&&◌, List, [], ◌∷◌, map, length, leb, eqb}
use Rattle.bits.specs.Choice.{pick}
use Rattle.bits.specs.Lists.{every, empty?}
pub use Rattle.put_bytes.specs.HighFirst.{numbers_in}
use Rattle.orders.specs.Act.{Word}

-- ---- the lines of a removal

-- "a removal list of odd length gives 15": it names no lines, as an empty one does
abbrev pub removal_lines : List ℕ → List ℕ
removal_lines bytes = pick (eqb (length bytes % 2) 0) (numbers_in bytes) []

-- ---- the orders about pairs

-- "three 16-bit numbers each (0 join or 1 part, two lines)"; one or two at the end by themselves are no order
abbrev pub threes : List ℕ → List (ℕ × ℕ × ℕ)
threes [] = []
threes (k ∷ []) = []
threes (k ∷ a ∷ []) = []
threes (k ∷ a ∷ b ∷ ns) = (k, a, b) ∷ threes ns

abbrev pub word_of : ℕ × ℕ × ℕ → Word
word_of (k, a, b) = record { one = a; other = b; joins = eqb k 0 }

abbrev pub words : List ℕ → List Word
words list = map word_of (threes (numbers_in list))

-- 25 where it is not so: the list is not empty, it is whole orders, each with 0 or 1 first; and each has a place, which is a number of
-- 32 bits
unfoldable pub shape_ok : List ℕ → Bool
shape_ok list = not (empty? list) && eqb (length list % 6) 0 && leb (length list) (6 * 4294967296) && every (λ t. leb t.0 1) (threes (numbers_in list))
