-- What a refusal goes by: the bits before its place, and so many from there on. Runs of bytes that are as long and agree on these bits
-- are refused alike; that makes the place worth showing.
use Rattle.std.specs.Prelude.{◌≡◌, ◌≢◌, ℕ, ◌≤◌, Bool, List, length, take, eqb}
use Rattle.bits.specs.Choice.{pick, within}
use Rattle.bits.specs.Bytes.{bits_of}
use Rattle.bits.specs.Codec.{Read, refused}
use Rattle.outcome.specs.Refusals.{bad_identifier, bad_length, bad_header, bad_view, bad_line, bad_index, bad_segment}
use Rattle.outcome.specs.declared.Answer.{Answer}

-- How many bits, from the place of a refusal on, decide it, by its number. 2, 3, 4: the field has 32. 5: the widest field, the
-- reserved one, has 16. 7: a view's number is held against its position, the 8 bits behind it. 8: whether a line fits is said by its
-- count, which has 8 bits and stands behind type (2), direction (at most 8), x and y (at most 16 each); a padding bit takes one.
-- 10: a field has at most 16. 11: a length has 16. All others go by how many bits there are.
unfoldable pub reach : ℕ → ℕ
reach e =
    pick (within bad_identifier bad_length e) 32
    (pick (eqb e bad_header) 16 (pick (eqb e bad_view) 16 (pick (eqb e bad_line) 50 (pick (eqb e bad_index) 16 (pick (eqb e bad_segment) 16 0)))))

-- as long, and the same in the first n bits
pub record Agree (n : ℕ) (a b : List ℕ) : Type 0 where
  pub long : length a ≡ length b
  pub bits : take n (bits_of a) ≡ take n (bits_of b)

-- Refused with the same number, at the same place. For 10 the place may be a later one, so that less is left: the eighth leftover
-- bit is at fault only where no leftover bit is 1, and a 1 far behind it is then the place.
pub record RefusedAlike {A : Type 0} (e left : ℕ) (o : Read Bool A) : Type 0 where
  pub rest : ℕ
  pub is : o ≡ refused e rest
  pub later : rest ≤ left
  pub same : e ≢ bad_index → rest ≡ left

-- the same of two answers
pub record AnsweredAlike (x y : Answer) : Type 0 where
  pub number : y.number ≡ x.number
  pub later : x.place ≤ y.place
  pub same : x.number ≢ bad_index → y.place ≡ x.place
