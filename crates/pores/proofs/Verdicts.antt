-- Payloads and number lists with what they say, computed: a row on each side of every rule of pores.
use mathlib.Core.Path.{◌≡◌, refl}
use Prim.Native.Nat.{ℕ}
use mathlib.Core.Option.{Option, none, some}
use mathlib.Core.List.{List, [], ◌∷◌, map}
use Rattle.bits.specs.Bits.{number_of_bits, bits_of_number}
use Rattle.bits.specs.Bytes.{bits_of, bytes_of}
use Rattle.bits.specs.Codec.{then_dec, via_dec, only_dec}
use Rattle.bits.specs.Block.{ahead_dec, recast_dec}
use Rattle.outcome.specs.Refusals.{bad_pores}
use Rattle.pores_elements.specs.Before.{marked_dec, closed_dec}
use Rattle.pores_parts.specs.Parts.{Pores}
use Rattle.pores.specs.Payload.{pores_block, pores_in, payload_of}
use Rattle.pores.specs.Numbers.{numbers, numbers_of, pores_of, pores_from}
use Rattle.pores.specs.Keep.{keep}

-- 0 and what is said, or the refusal
abbrev answer : (Pores → List ℕ) → Option Pores → ℕ × List ℕ
answer f (some p) = (0, f p)
answer f none = (bad_pores, [])

abbrev wrong : ℕ × List ℕ
wrong = (bad_pores, [])

abbrev right : List ℕ → ℕ × List ℕ
right xs = (0, xs)

abbrev expected : {A : Type 0} → (ℕ × List ℕ) × A → A
expected row = row.1

-- ---- payloads

-- resolution 500, then bytes: how many lines there are, and the payload
abbrev P : ℕ → List ℕ → ℕ × List ℕ
P n bytes = (n, 0x01 ∷ 0xF4 ∷ bytes)

abbrev says : (ℕ × List ℕ) × (ℕ × List ℕ) → ℕ × List ℕ
says row = answer numbers_of (pores_in row.0.0 row.0.1)

abbrev payloads : List ((ℕ × List ℕ) × (ℕ × List ℕ))
payloads =
    -- no lines: three bytes
    (P 0 (0x04 ∷ []), right (500 ∷ 4 ∷ [])) ∷ (P 0 [], wrong) ∷ (P 0 (0x04 ∷ 0x00 ∷ []), wrong)
    -- e from 2 to 8
    ∷ (P 0 (0x01 ∷ []), wrong) ∷ (P 0 (0x02 ∷ []), right (500 ∷ 2 ∷ [])) ∷ (P 0 (0x08 ∷ []), right (500 ∷ 8 ∷ [])) ∷ (P 0 (0x09 ∷ []), wrong)
    -- a line without pores; without its zero element; another number of lines
    ∷ (P 1 (0x08 ∷ 0x00 ∷ []), right (500 ∷ 8 ∷ 0 ∷ [])) ∷ (P 1 (0x08 ∷ []), wrong) ∷ (P 1 (0x08 ∷ 0x01 ∷ []), wrong) ∷ (P 2 (0x08 ∷ 0x00 ∷ []), wrong)
    ∷ (P 0 (0x08 ∷ 0x00 ∷ []), wrong)
    -- e is 4: distances 13 and 14 = 2^e - 2; 15, the first that all ones pass; 28, the last that they pass once; 29
    ∷ (P 1 (0x04 ∷ 0x0D ∷ []), right (500 ∷ 4 ∷ 1 ∷ 13 ∷ [])) ∷ (P 1 (0x04 ∷ 0x0E ∷ []), right (500 ∷ 4 ∷ 1 ∷ 14 ∷ []))
    ∷ (P 1 (0x04 ∷ 0x0F ∷ 0x10 ∷ []), right (500 ∷ 4 ∷ 1 ∷ 15 ∷ [])) ∷ (P 1 (0x04 ∷ 0x0F ∷ 0xE0 ∷ []), right (500 ∷ 4 ∷ 1 ∷ 28 ∷ []))
    ∷ (P 1 (0x04 ∷ 0x0F ∷ 0xF1 ∷ []), right (500 ∷ 4 ∷ 1 ∷ 29 ∷ [])) ∷ (P 1 (0x08 ∷ 0x00 ∷ 0xFF ∷ 0xFF ∷ 0xFE ∷ []), right (500 ∷ 8 ∷ 1 ∷ 762 ∷ []))
    -- the zero element behind 15 is padding, or a line
    ∷ (P 2 (0x04 ∷ 0x0F ∷ 0x10 ∷ []), right (500 ∷ 4 ∷ 1 ∷ 15 ∷ 0 ∷ [])) ∷ (P 3 (0x04 ∷ 0x0F ∷ 0x10 ∷ []), wrong)
    -- e is 2: of 00 01 00 00, one line, two, three
    ∷ (P 1 (0x02 ∷ 0x10 ∷ []), right (500 ∷ 2 ∷ 1 ∷ 1 ∷ [])) ∷ (P 2 (0x02 ∷ 0x10 ∷ []), right (500 ∷ 2 ∷ 1 ∷ 1 ∷ 0 ∷ []))
    ∷ (P 3 (0x02 ∷ 0x10 ∷ []), right (500 ∷ 2 ∷ 1 ∷ 1 ∷ 0 ∷ 0 ∷ [])) ∷ (P 4 (0x02 ∷ 0x10 ∷ []), wrong)
    -- eight zero bits are left over, then six
    ∷ (P 3 (0x02 ∷ 0x10 ∷ 0x00 ∷ []), wrong) ∷ (P 4 (0x02 ∷ 0x10 ∷ 0x00 ∷ []), right (500 ∷ 2 ∷ 1 ∷ 1 ∷ 0 ∷ 0 ∷ 0 ∷ []))
    -- all ones at a line's end: before a line, before padding, under e bits left, at the end
    ∷ (P 2 (0x04 ∷ 0x0F ∷ 0x00 ∷ []), wrong) ∷ (P 1 (0x04 ∷ 0x0F ∷ 0x00 ∷ []), wrong) ∷ (P 1 (0x03 ∷ 0x1C ∷ []), wrong) ∷ (P 1 (0x04 ∷ 0x0F ∷ []), wrong)
    -- e is 3: 000 110, then padding 00, 01 and 10
    ∷ (P 1 (0x03 ∷ 0x18 ∷ []), right (500 ∷ 3 ∷ 1 ∷ 6 ∷ [])) ∷ (P 1 (0x03 ∷ 0x19 ∷ []), wrong) ∷ (P 1 (0x03 ∷ 0x1A ∷ []), wrong)
    -- two lines, the first with two pores, each at 1
    ∷ (P 2 (0x04 ∷ 0x01 ∷ 0x10 ∷ 0x70 ∷ []), right (500 ∷ 4 ∷ 2 ∷ 1 ∷ 1 ∷ 1 ∷ 7 ∷ []))
    ∷ []

payloads_say : map says payloads ≡ map expected payloads
unfolding number_of_bits bits_of_number bits_of then_dec via_dec only_dec ahead_dec recast_dec marked_dec closed_dec pores_block numbers
payloads_say = refl

-- ---- numbers

-- how many lines there are, and the numbers: the payload that they write
abbrev writes : (ℕ × List ℕ) × (ℕ × List ℕ) → ℕ × List ℕ
writes row = answer payload_of (pores_of row.0.0 row.0.1)

abbrev lists : List ((ℕ × List ℕ) × (ℕ × List ℕ))
lists =
    -- no lines; a list that is cut, or has a number over
    ((0, 500 ∷ 4 ∷ []), right (0x01 ∷ 0xF4 ∷ 0x04 ∷ [])) ∷ ((0, []), wrong) ∷ ((0, 500 ∷ []), wrong) ∷ ((0, 500 ∷ 4 ∷ 0 ∷ []), wrong)
    -- resolution in 16 bits; e from 2 to 8
    ∷ ((0, 65535 ∷ 8 ∷ []), right (0xFF ∷ 0xFF ∷ 0x08 ∷ [])) ∷ ((0, 65536 ∷ 8 ∷ []), wrong) ∷ ((0, 500 ∷ 1 ∷ []), wrong) ∷ ((0, 500 ∷ 9 ∷ []), wrong)
    -- another number of lines; a count that passes the end; a distance 0
    ∷ ((1, 500 ∷ 4 ∷ []), wrong) ∷ ((1, 500 ∷ 4 ∷ 0 ∷ []), right (0x01 ∷ 0xF4 ∷ 0x04 ∷ 0x00 ∷ [])) ∷ ((1, 500 ∷ 4 ∷ 2 ∷ 1 ∷ []), wrong)
    ∷ ((1, 500 ∷ 4 ∷ 1 ∷ 0 ∷ []), wrong) ∷ ((2, 500 ∷ 4 ∷ 1 ∷ 1 ∷ []), wrong)
    -- distances 1, 14, 15, 28, 29
    ∷ ((1, 500 ∷ 4 ∷ 1 ∷ 1 ∷ []), right (0x01 ∷ 0xF4 ∷ 0x04 ∷ 0x01 ∷ [])) ∷ ((1, 500 ∷ 4 ∷ 1 ∷ 14 ∷ []), right (0x01 ∷ 0xF4 ∷ 0x04 ∷ 0x0E ∷ []))
    ∷ ((1, 500 ∷ 4 ∷ 1 ∷ 15 ∷ []), right (0x01 ∷ 0xF4 ∷ 0x04 ∷ 0x0F ∷ 0x10 ∷ [])) ∷ ((1, 500 ∷ 4 ∷ 1 ∷ 28 ∷ []), right (0x01 ∷ 0xF4 ∷ 0x04 ∷ 0x0F ∷ 0xE0 ∷ []))
    ∷ ((1, 500 ∷ 4 ∷ 1 ∷ 29 ∷ []), right (0x01 ∷ 0xF4 ∷ 0x04 ∷ 0x0F ∷ 0xF1 ∷ []))
    -- three lines, of which two have no pores
    ∷ ((3, 500 ∷ 2 ∷ 1 ∷ 1 ∷ 0 ∷ 0 ∷ []), right (0x01 ∷ 0xF4 ∷ 0x02 ∷ 0x10 ∷ []))
    ∷ []

lists_write : map writes lists ≡ map expected lists
unfolding number_of_bits bits_of_number bytes_of then_dec via_dec only_dec pores_block numbers pores_of
lists_write = refl

-- ---- the host's bytes: 500 and 4, then as many bytes over

abbrev host : List ℕ × (ℕ × List ℕ) → ℕ × List ℕ
host row = answer numbers_of (pores_from 0 (0x00 ∷ 0x00 ∷ 0x01 ∷ 0xF4 ∷ 0x00 ∷ 0x00 ∷ 0x00 ∷ 0x04 ∷ row.0))

abbrev overs : List (List ℕ × (ℕ × List ℕ))
overs = ([], right (500 ∷ 4 ∷ [])) ∷ (0x00 ∷ [], wrong) ∷ (0x00 ∷ 0x00 ∷ 0x00 ∷ [], wrong) ∷ (0x00 ∷ 0x00 ∷ 0x00 ∷ 0x00 ∷ [], wrong) ∷ []

overs_say : map host overs ≡ map (λ row. row.1) overs
unfolding then_dec via_dec only_dec numbers pores_of
overs_say = refl

-- ---- a removal: of lines with 1 and 1, with 7, and with none, those that stay

abbrev stay : List ℕ × List ℕ → List ℕ
stay row = payload_of (keep row.0 (record { resolution = 500; e = 4; lines = (1 ∷ 1 ∷ []) ∷ (7 ∷ []) ∷ [] ∷ [] }))

abbrev stays : List (List ℕ × List ℕ)
stays =
    (0 ∷ 1 ∷ 2 ∷ [], 0x01 ∷ 0xF4 ∷ 0x04 ∷ 0x01 ∷ 0x10 ∷ 0x70 ∷ []) ∷ (1 ∷ 2 ∷ [], 0x01 ∷ 0xF4 ∷ 0x04 ∷ 0x07 ∷ 0x00 ∷ [])
    ∷ (0 ∷ 2 ∷ [], 0x01 ∷ 0xF4 ∷ 0x04 ∷ 0x01 ∷ 0x10 ∷ []) ∷ (1 ∷ [], 0x01 ∷ 0xF4 ∷ 0x04 ∷ 0x07 ∷ []) ∷ ([], 0x01 ∷ 0xF4 ∷ 0x04 ∷ []) ∷ []

stays_are : map stay stays ≡ map (λ row. row.1) stays
unfolding number_of_bits bits_of_number bytes_of pores_block
stays_are = refl
