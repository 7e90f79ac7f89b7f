-- The places that an answer can give: "Refusals 2 to 12 shall also give a place: the bit offset, from the record's start, of the first
-- bit of the first field whose check fails. Refusal 1 and all above 12 give 0." But an order that is refused in a list of them gives
-- its number "with that order's place in the list". Which place each refusal has is said where it is defined, in format/specs and
-- orders/specs.
use Rattle.std.specs.Prelude.{ℕ, [], ◌∷◌, T, leb, ltb, eqb}
use Rattle.bits.specs.Choice.{pick, within}
use Rattle.outcome.specs.Numbers.{among}

-- the place of a number, in a record of so many bits: within them or at their end; but 0 where the number has no place
abbrev pub Placed : (bits number place : ℕ) → Type 0
Placed bits number place = T (pick (within 2 12 number) (leb place bits) (eqb place 0))

-- of a call with a list of so many orders: 15, 18, 19 and 20 are those of one of them, whose place is counted from 0
abbrev pub PlacedInList : (bits orders number place : ℕ) → Type 0
PlacedInList bits orders number place = T (pick (within 2 12 number) (leb place bits) (pick (among ((15, 15) ∷ (18, 20) ∷ []) number) (ltb place orders) (eqb place 0)))
