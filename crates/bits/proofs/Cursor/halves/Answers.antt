-- Two fields of 16 bits, one behind the other, are one of 32.
use native.Mathlib.Omega.{arith}
use mathlib.Core.Path.{refl, ap₂, ◌∙◌}
use Prim.Native.Nat.{ℕ, ◌+◌, ◌*◌}
use lib.ListN.{drop}
use Rattle.bits.specs.Bits.{Bits}
use Rattle.bits.specs.Bytes.{bits_of}
use Rattle.bits.specs.BytesLaws.{length_bits_of}
use Rattle.bits.proofs.Laws.Place.{number_small, number_two}
use Rattle.bits.proofs.Laws.Reads.{field_at}
use Rattle.bits.proofs.Cursor.halves.Goals as goal
use Rattle.bits.proofs.Cursor.halves.Lts as lts
use Rattle.bits.proofs.Cursor.halves.Reads as reads
use Rattle.bits.proofs.Cursor.halves.Tie as tie

abbrev At-Start : Type 0
At-Start = lts.Start tie.the-claims reads.Pre reads.Post

abbrev from : (c : At-Start) (p : ℕ) → Bits
from c p = drop p (bits_of c.args.bytes.now)

pub overflow_mul-result : goal.overflow_mul-result
overflow_mul-result c =
    omega (arith, c.number_at.ensures, number_small (from c.before.before.before c.args.self.at) 16)

pub overflow_add-result : goal.overflow_add-result
overflow_add-result c =
    let p = c.args.self.at in
    omega (arith, c.number_at.ensures, c.number_at-2.ensures, number_small (from c.before.before.before.before p) 16, number_small (from c.before.before.before.before (p + 16)) 16)

pub returns : goal.returns
returns c =
    let s = c.args.bytes.now in
    let p = c.args.self.at in
    let z = ap₂ (λ (x y : ℕ). x * 65536 + y) c.number_at.ensures c.number_at-2.ensures ∙ number_two (bits_of s) p 16 16 (omega (arith, c.requires, length_bits_of s)) in
    ((λ e. field_at e s p 32 _ (omega (arith, c.requires)) (omega (arith, c.requires)) z), refl)
