-- The values of segments, and how far a loop over them has come. One of two bytes or more is right: a type, and a byte for each byte
-- of the payload.
use mathlib.Core.Path.{◌≡◌, ◌∙◌}
use Prim.Native.Nat.{ℕ, ◌+◌, ◌-◌, ◌*◌, ◌≤◌}
use native.Mathlib.Omega.{arith}
use mathlib.Core.Bool.{Bool, true, false}
use mathlib.Core.List.{List, []}
use lib.ListN.{length, get_or, take, drop, length-drop}
use lib.Dec.{leb→le}
use Rattle.bits.specs.Bits.{Bits, number_of_bits}
use Rattle.bits.specs.Bytes.{bits_of}
use Rattle.bits.specs.BytesLaws.{length_bits_of}
use Rattle.bits.specs.Codec.{got}
use Rattle.bits.specs.Block.{ahead_dec, recast_dec}
use Rattle.bits.proofs.Laws.Reads.{first_field}
use Rattle.bits.proofs.Laws.Loops.{numbers_fill}
use Rattle.outcome.specs.Refusals.{bad_value}
use Rattle.format.specs.Segments.{Segment}
use Rattle.sheet.specs.Fields.{Field}
use Rattle.sheet.specs.Values.{segment_value}
use Rattle.sheet.specs.Sheet.{alike}
use Rattle.check_shape.specs.Shape.{Starts}
use Rattle.check_shape.proofs.Laws.Stand.{denied}
use Rattle.check_blocks.specs.Run.{segment_long, segment_takes, Segments, RunRight}
use Rattle.check_blocks.proofs.Laws.Stand.{Next, three, next}
use Rattle.check_blocks.proofs.Laws.Run.{Going, going_first, going_all, its_right, going_on}

-- ---- one segment

pub record SegmentIn (v : List ℕ) : Type 0 where
  pub value : Segment
  pub reads : segment_value.dec (bits_of v) ≡ got value []
  pub bytes : length v + 2 ≡ segment_takes value

segment_in : (v : List ℕ) → 2 ≤ length v → SegmentIn v
unfolding segment_value recast_dec ahead_dec
segment_in v l =
    let s : Bits = bits_of v in
    let r : Bits = drop 16 s in
    let m : length r ≡ 8 * (length v - 2) = length-drop 16 s ∙ omega (arith, length_bits_of v) in
    let (xs, z, d) = numbers_fill bad_value 8 (length v - 2) (length r) r (omega arith) (omega arith) (omega arith) in
    let f = first_field bad_value 16 s (omega (arith, length_bits_of v)) in
    record { value = record { kind = number_of_bits (take 16 s); payload = xs }; reads = rw (f, d); bytes = omega arith }

-- ---- the loop over them

abbrev pub SegmentsGoing : List ℕ → List Field → ℕ → ℕ → Type 0
SegmentsGoing s fs p z = (n : ℕ) × Going 6 segment_long (λ _. segment_value) alike segment_takes s fs tt p tt n z

pub segments_first : {s : List ℕ} {p : ℕ} {fs : List Field} → Segments s p fs → SegmentsGoing s fs p 0
segments_first h = (0, going_first h)

module _ {s : List ℕ} {fs : List Field} {p z : ℕ} (g : SegmentsGoing s fs p z) where
  pub segment_three : {r : Bool} → Starts 6 s p r → r ≡ true → p + 3 ≤ length s
  segment_three S e = three 6 S e g.1.stand

  segments_next : {m : ℕ} → Next 6 s p m g.1.left → SegmentsGoing s fs (p + 3 + m) (z + (m + 2))
  segments_next {m} N =
      let S = segment_in N.field.value (leb→le 2 (length N.field.value) (its_right g.1 N)) in
      (g.0 + 1, going_on g.1 N S.reads (omega (arith, S.bytes, N.size)))

  pub segments_on : {r : Bool} → Starts 6 s p r → r ≡ true → {m : ℕ} → m ≡ get_or s (p + 1) 0 * 256 + get_or s (p + 1 + 1) 0 → SegmentsGoing s fs (p + 3 + m) (z + (m + 2))
  segments_on S e y = segments_next (next 6 S e g.1.stand y)

  pub segments_all : {r : Bool} → Starts 6 s p r → r ≡ false → RunRight 6 (λ _. segment_value) alike tt fs segment_takes s p z
  segments_all S e = going_all g.1 (denied e (S.is g.1.left g.1.stand))
