-- The 06 field of a segment is made of its bytes in the record: the same but for the length.
use mathlib.Core.Path.{◌≡◌}
use Prim.Native.Nat.{ℕ, ◌+◌, ◌-◌}
use native.Mathlib.Omega.{arith}
use mathlib.Core.List.{List, ◌++◌}
use lib.ListN.{length, take, drop}
use Rattle.bits.specs.Bits.{Bits}
use Rattle.format.specs.Segments.{Segment}
use Rattle.put_bytes.specs.HighFirst.{start}
use Rattle.find_parts.proofs.Laws.Segments.{SegmentAt, its_type, its_payload}
use Rattle.sheet_bytes.specs.Bytes.{segment_bytes}

pub its_field : {s : List ℕ} {a : ℕ} {rest : List Segment} {left : Bits} (t : SegmentAt s a rest left) (n : ℕ) → n ≡ 4 + length t.value.payload
    → (start 6 (n - 2) ++ take 2 (drop a s)) ++ take (n - 4) (drop (a + 4) s) ≡ segment_bytes t.value
its_field t n e =
    let x : n - 2 ≡ 2 + length t.value.payload = omega arith in
    let y : n - 4 ≡ length t.value.payload = omega arith in
    rw (x, y, its_type t, its_payload t)
