-- The elements of pores, and the distances that they write. "With e bits, 1 to 2^e - 2 is the distance to the next pore, and all ones
-- means that distance 2^e - 2 passes without one." This file holds how elements are read; ElementLaws makes the codecs.
use Rattle.std.specs.Prelude.{ℕ, zero, suc, ◌+◌, ◌-◌, ◌*◌, ◌/◌, ◌%◌, ◌^◌, Bool, ◌||◌, ◌++◌, length, take, leb, ltb, eqb}
use Rattle.bits.specs.Choice.{pick}
use Rattle.bits.specs.Bits.{Bits, number_of_bits, bits_of_number}
use Rattle.bits.specs.Codec.{Read, got, refused, next, Codec}
use Rattle.bits.specs.CodecLaws.{field, only}
use Rattle.outcome.specs.Refusals.{bad_pores}

abbrev pub ones : ℕ → ℕ
ones e = 2 ^ e - 1

-- the largest distance that one element writes
abbrev pub most : ℕ → ℕ
most e = 2 ^ e - 2

-- "stops before a zero element or with under e bits left"
abbrev pub stop : ℕ → Bits → Bool
stop e s = ltb (length s) e || eqb (number_of_bits (take e s)) 0

-- an element that is not zero
abbrev pub element : ℕ → Codec Bool ℕ
element e = only (field bad_pores e) bad_pores (leb 1)

-- Elements of all ones, then another: how many, and that one. n is how many elements at most; as many as there are bits is enough.
abbrev pub run_dec : ℕ → ℕ → Bits → Read Bool (ℕ × ℕ)
run_dec e zero s = refused bad_pores (length s)
run_dec e (suc n) s =
    next ((element e).dec s) (λ x r. pick (eqb x (ones e)) (next (run_dec e n r) (λ t q. got (suc t.0, t.1) q)) (got (0, x) r))

abbrev pub run_enc : ℕ → ℕ → ℕ → Bits
run_enc e zero x = bits_of_number e x
run_enc e (suc q) x = bits_of_number e (ones e) ++ run_enc e q x

-- a distance, from how often all ones pass and the element behind them; and back
abbrev pub distance_of : ℕ → ℕ × ℕ → ℕ
distance_of e t = t.0 * most e + t.1

abbrev pub elements_of : ℕ → ℕ → ℕ × ℕ
elements_of e d = ((d - 1) / most e, (d - 1) % most e + 1)
