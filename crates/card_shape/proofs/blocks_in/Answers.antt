-- The lengths are read one after the other, and what each says is there.
use native.Mathlib.Omega.{arith}
use Prim.Native.Nat.{ℕ, ◌+◌, ◌-◌, ◌*◌, ◌≤◌}
use mathlib.Core.Path.{◌≡◌, refl, sym, ap}
use lib.ListN.{length, get_or}
use mathlib.Core.List.{List}
use Rattle.std.proofs.Common.{Fits, w8}
use Rattle.bits.specs.Codec.{field_dec}
use Rattle.bits.specs.Reads.{Reads, found}
use Rattle.bits.proofs.Laws.Reads.{known}
use Rattle.bits.proofs.Laws.Parts.{part}
use Rattle.bits.proofs.Laws.Bytewise.{two_reads}
use Rattle.outcome.specs.Refusals.{bad_object}
use Rattle.card.specs.Object.{any_bytes, image_size}
use Rattle.card_shape.proofs.Laws.Value.{any_bytes_lem, two_in, image_reads, value_short, skeleton_past, index_cut, index_off}
use Rattle.card_shape.proofs.blocks_in.Goals as goal

module _ (s : List ℕ) (fits : (i : ℕ) → Fits w8 (get_or s i 0)) where
  two : (a : ℕ) {n : ℕ} → a + 2 ≤ length s → n ≡ get_or s a 0 * 256 + get_or s (a + 1) 0 → Reads (field_dec bad_object 16) s (8 * a) (found n (8 * (a + 2)))
  two a l is = known (ap (λ (k : ℕ). found k (8 * (a + 2))) (sym is)) (two_reads s (λ i. (fits i).fits) bad_object a l)

  image : 4 ≤ length s → Reads image_size.dec s 0 (found (two_in s 0, two_in s 2) 32)
  image l = image_reads s (λ i. (fits i).fits) l

-- the same, by the byte behind the block
counted : {s : List ℕ} {n : ℕ} → Reads (field_dec bad_object 16) s 32 (found n 48) → Reads (field_dec bad_object 16) s 32 (found (6 + n - 6) 48)
counted {s} {n} h = let e : n ≡ 6 + n - 6 = omega arith in known (ap (λ (k : ℕ). found k 48) e) h

pub returns-then-value-lt6 : goal.returns-then-value-lt6
returns-then-value-lt6 c = value_short any_bytes (λ _. any_bytes) c.if-value-lt6.true

pub returns-then-value-skeleton : goal.returns-then-value-skeleton
returns-then-value-skeleton c =
    let v = c.args.value.now in
    let f = c.type_inv.value in
    skeleton_past any_bytes (λ _. any_bytes) (image v f (omega arith)) (two v f 4 (omega arith) c.two_at-skeleton.ensures) c.if-value-lt6.false c.if-value-skeleton.true

pub returns-then-value-i-lt2 : goal.returns-then-value-i-lt2
returns-then-value-i-lt2 c =
    let v = c.args.value.now in
    let f = c.type_inv.value in
    let n = c.two_at-skeleton.result in
    index_cut any_bytes (λ _. any_bytes) (image v f (omega arith)) (counted (two v f 4 (omega arith) c.two_at-skeleton.ensures)) (omega arith) (omega arith) (any_bytes_lem (part v 6 (6 + n - 6))).1 c.if-value-i-lt2.true

pub returns-then-value-i : goal.returns-then-value-i
returns-then-value-i c =
    let v = c.args.value.now in
    let f = c.type_inv.value in
    let n = c.two_at-skeleton.result in
    index_off (image v f (omega arith)) (6 + n) c.two_at-index.result (counted (two v f 4 (omega arith) c.two_at-skeleton.ensures)) (omega arith)
    (two v f (6 + n) (omega arith) c.two_at-index.ensures) (omega arith) c.if-value-i.true

pub returns : goal.returns
returns c =
    let v = c.args.value.now in
    let f = c.type_inv.value in
    let n = c.two_at-skeleton.result in
    record {
      width = two_in v 0;
      height = two_in v 2;
      wide = two v f 0 (omega arith) refl;
      high = two v f 2 (omega arith) refl;
      skeleton = counted (two v f 4 (omega arith) c.two_at-skeleton.ensures);
      index = known (ap (λ (k : ℕ). found k (8 * (6 + n + 2))) (sym c.if-value-i.false)) (two v f (6 + n) (omega arith) c.two_at-index.ensures);
      low = omega arith;
      within = omega arith;
    }
