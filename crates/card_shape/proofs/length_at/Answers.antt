-- The first byte tells the form of the length; what follows it is read and compared with the least that needs the form.
use native.Mathlib.Omega.{arith}
use Prim.Native.Nat.{ℕ, ◌+◌, ◌*◌, ◌≤◌, ◌<◌}
use mathlib.Core.Path.{◌≡◌, refl, sym, ap}
use mathlib.Core.List.{List}
use lib.ListN.{length, get_or}
use Rattle.std.proofs.Common.{Fits, w8}
use Rattle.bits.specs.Codec.{field_dec}
use Rattle.bits.specs.Reads.{Reads, found}
use Rattle.bits.proofs.Laws.Reads.{known}
use Rattle.bits.proofs.Laws.Bytewise.{byte_reads, two_reads}
use Rattle.outcome.specs.Refusals.{bad_object}
use Rattle.card_shape.proofs.Laws.Length.{no_length, first_bad_lem, length_short, behind_cut, behind_low, length_behind}
use Rattle.card_shape.proofs.length_at.Goals as goal

module _ (s : List ℕ) (fits : (i : ℕ) → Fits w8 (get_or s i 0)) (a : ℕ) {n : ℕ} where
  byte : a < length s → n ≡ get_or s a 0 → Reads (field_dec bad_object 8) s (8 * a) (found n (8 * (a + 1)))
  byte l is = known (ap (λ (k : ℕ). found k (8 * (a + 1))) (sym is)) (byte_reads s (λ i. (fits i).fits) bad_object a l)

  two : a + 2 ≤ length s → n ≡ get_or s a 0 * 256 + get_or s (a + 1) 0 → Reads (field_dec bad_object 16) s (8 * a) (found n (8 * (a + 2)))
  two l is = known (ap (λ (k : ℕ). found k (8 * (a + 2))) (sym is)) (two_reads s (λ i. (fits i).fits) bad_object a l)

pub returns-then-left-lt1 : goal.returns-then-left-lt1
returns-then-left-lt1 c = no_length c.args.bytes.now c.args.a c.requires c.if-left-lt1.true

pub returns-then-first-lt128 : goal.returns-then-first-lt128
returns-then-first-lt128 c =
    let there : c.args.a < length c.args.bytes.now = omega arith in
    length_short c.args.bytes.now c.args.a there (byte c.args.bytes.now c.type_inv.bytes c.args.a there c.wide-first.ensures) c.if-first-lt128.true

pub returns-then-left-lt2 : goal.returns-then-left-lt2
returns-then-left-lt2 c =
    let there : c.args.a < length c.args.bytes.now = omega arith in
    let first = byte c.args.bytes.now c.type_inv.bytes c.args.a there c.wide-first.ensures in
    behind_cut c.args.bytes.now c.args.a there first 0x81 8 128 c.if-first-eq129.true tt (omega arith) refl refl (omega arith)

pub returns-then-one-lt128 : goal.returns-then-one-lt128
returns-then-one-lt128 c =
    let there : c.args.a < length c.args.bytes.now = omega arith in
    let first = byte c.args.bytes.now c.type_inv.bytes c.args.a there c.wide-first.ensures in
    let one = byte c.args.bytes.now c.type_inv.bytes (c.args.a + 1) (omega arith) c.wide-one.ensures in
    behind_low c.args.bytes.now c.args.a there first 0x81 8 128 c.if-first-eq129.true tt (omega arith) refl refl one c.if-one-lt128.true

pub returns-then-first-eq129 : goal.returns-then-first-eq129
returns-then-first-eq129 c =
    let there : c.args.a < length c.args.bytes.now = omega arith in
    let first = byte c.args.bytes.now c.type_inv.bytes c.args.a there c.wide-first.ensures in
    let one = byte c.args.bytes.now c.type_inv.bytes (c.args.a + 1) (omega arith) c.wide-one.ensures in
    length_behind c.args.bytes.now c.args.a there first 0x81 8 128 c.if-first-eq129.true tt (omega arith) refl refl one c.if-one-lt128.false

pub returns-then-first-ne130 : goal.returns-then-first-ne130
returns-then-first-ne130 c =
    let there : c.args.a < length c.args.bytes.now = omega arith in
    let first = byte c.args.bytes.now c.type_inv.bytes c.args.a there c.wide-first.ensures in
    first_bad_lem c.args.bytes.now c.args.a there first c.if-first-lt128.false c.if-first-eq129.false c.if-first-ne130.true

pub returns-then-left-lt3 : goal.returns-then-left-lt3
returns-then-left-lt3 c =
    let there : c.args.a < length c.args.bytes.now = omega arith in
    let first = byte c.args.bytes.now c.type_inv.bytes c.args.a there c.wide-first.ensures in
    behind_cut c.args.bytes.now c.args.a there first 0x82 16 256 c.if-first-ne130.false tt (omega arith) refl refl (omega arith)

pub returns-then-two-lt256 : goal.returns-then-two-lt256
returns-then-two-lt256 c =
    let there : c.args.a < length c.args.bytes.now = omega arith in
    let first = byte c.args.bytes.now c.type_inv.bytes c.args.a there c.wide-first.ensures in
    let behind = two c.args.bytes.now c.type_inv.bytes (c.args.a + 1) (omega arith) c.two_at-two.ensures in
    behind_low c.args.bytes.now c.args.a there first 0x82 16 256 c.if-first-ne130.false tt (omega arith) refl refl behind c.if-two-lt256.true

pub returns : goal.returns
returns c =
    let there : c.args.a < length c.args.bytes.now = omega arith in
    let first = byte c.args.bytes.now c.type_inv.bytes c.args.a there c.wide-first.ensures in
    let behind = two c.args.bytes.now c.type_inv.bytes (c.args.a + 1) (omega arith) c.two_at-two.ensures in
    length_behind c.args.bytes.now c.args.a there first 0x82 16 256 c.if-first-ne130.false tt (omega arith) refl refl behind c.if-two-lt256.false
