-- Reading and writing of a record, in bytes: what is written is read, and what is read was written. So reading accepts exactly the
-- bytes of the records that are allowed.
use mathlib.Core.Path.{◌≡◌, sym, ap, ap₂, ◌∙◌}
use Prim.Native.Nat.{ℕ, ◌^◌, ◌≤◌, ◌<◌}
use native.Mathlib.Omega.{arith}
use mathlib.Core.List.{List, [], append-nil}
use lib.ListN.{length}
use Rattle.bits.specs.Choice.{within}
use Rattle.bits.specs.ChoiceLaws.{pick_yes, pick_split, within_low, within_high, within_yes}
use Rattle.bits.specs.Lists.{All}
use Rattle.bits.specs.Bits.{Bits}
use Rattle.bits.specs.Bytes.{Byte, bits_of}
use Rattle.bits.specs.BytesLaws.{length_bits_of, length_bytes_of, bits_bytes, bytes_bits}
use Rattle.bits.specs.Codec.{got}
use Rattle.bits.specs.CodecLaws.{not_got, next_got}
use Rattle.bits.specs.ExactLaws.{used_up_lem}
use Rattle.outcome.specs.Refusals.{bytes_over}
use Rattle.format.specs.Limits.{least_bytes, most_bytes}
use Rattle.format.specs.Record.{Record, FitsHeader, Narrow, FitsRecord, record_of, read, size, write, Allowed}
use Rattle.format.specs.declared.Widths.{Widths}
use Rattle.format.specs.declared.Header.{Header}
use Rattle.format.proofs.Laws.Size.{size_is, views_length}

record_there : (n : ℕ) (r : Record) → n < 2 ^ 32 → FitsRecord r → (record_of n).dec ((record_of n).enc r) ≡ got r []
unfolding record_of
record_there n r l f = rw (append-nil ((record_of n).enc r)) at ((record_of n).there r [] (l, f))

record_back : (n : ℕ) (s : Bits) (r : Record) → (record_of n).dec s ≡ got r [] → FitsRecord r × (s ≡ (record_of n).enc r)
unfolding record_of
record_back n s r p = let ((l, f), e) = (record_of n).back s r [] p in (f, e ∙ append-nil ((record_of n).enc r))

pub read_there : (r : Record) → Allowed r → read (write r) ≡ got r []
unfolding read write least_bytes most_bytes
read_there r a =
    let n : ℕ = size r in
    let low : 24 ≤ n = omega (arith, views_length r) in
    rw (length_bytes_of n ((record_of n).enc r), bits_bytes n ((record_of n).enc r) (size_is n r))
    (pick_yes (within least_bytes most_bytes n) _ _ (within_yes least_bytes most_bytes n low a.small)
    ∙ rw (record_there n r (omega (arith, a.small)) a.fits))

-- what is read is allowed, and has the bits that were read
pub read_is : (bytes : List ℕ) (r : Record) (rest : Bits) → read bytes ≡ got r rest
    → Allowed r × (length bytes ≡ size r) × (bits_of bytes ≡ (record_of (length bytes)).enc r) × (rest ≡ [])
unfolding read
read_is bytes r q p =
    let n : ℕ = length bytes in
    pick_split (within least_bytes most_bytes n) _ _ p
    (λ t k. next_got ((record_of n).dec (bits_of bytes)) _ k λ a rest e m.
    let (b, z, y) = used_up_lem bytes_over rest m in
    let (f, g) = record_back n (bits_of bytes) r (e ∙ ap₂ got b z) in
    let s : n ≡ size r = omega (arith, size_is n r, ap length g, length_bits_of bytes) in
    (record { fits = f; small = rw (← s) (within_high least_bytes most_bytes n t) }, s, g, y))
    (λ t k. not_got k)

pub read_back : (bytes : List ℕ) (r : Record) (rest : Bits) → All Byte bytes → read bytes ≡ got r rest → Allowed r × (bytes ≡ write r) × (rest ≡ [])
unfolding write
read_back bytes r q h p =
    let (a, s, g, y) = read_is bytes r q p in
    (a, rw (← s, ← g) (sym (bytes_bits bytes h)), y)

-- what code counts on in a header that fits
pub narrow : {h : Header} → FitsHeader h → Narrow h.scale.widths
narrow {h} f =
    let s = f.scale in
    let w : Widths = h.scale.widths in
    record {
      b = within_high 4 8 w.b s.b.1;
      c = within_high 1 16 w.c s.c.1;
      low = omega (arith, within_low 2 8 w.k s.k.1);
      k = within_high 2 8 w.k s.k.1;
    }
