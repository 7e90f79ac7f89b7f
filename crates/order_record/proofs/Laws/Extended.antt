-- The extended block that an order leaves: a pair order leaves it as it is, a removal with the pores of the lines that stay.
use mathlib.Core.Path.{◌≡◌, sym, ap, ◌∙◌, subst}
use mathlib.Core.Logic.{◌≢◌}
use Prim.Native.Nat.{ℕ, ◌+◌, ◌≤◌}
use native.Mathlib.Omega.{arith}
use mathlib.Core.List.{List, []}
use lib.ListN.{length}
use Rattle.bits.specs.Lists.{All}
use Rattle.bits.specs.Bytes.{Byte, bits_of, in_bytes}
use Rattle.bits.specs.BytesLaws.{in_bits}
use Rattle.bits.specs.Codec.{got}
use Rattle.put_bytes.specs.Laid.{Laid}
use Rattle.put_bytes.specs.HighFirst.{two}
use Rattle.put_bytes.proofs.Laws.{lent, back}
use Rattle.format.specs.Segments.{Segment, FitsSegment, segments}
use Rattle.find_parts.specs.Stored.{sized}
use Rattle.find_parts.proofs.Laws.Blocks.{whole_is}
use Rattle.orders.specs.Survive.{survivors}
use Rattle.orders.proofs.Laws.Pores.{none_removed}
use Rattle.order_removal.proofs.Laws.Listed.{none_listed}
use Rattle.order_extended.specs.Extended as x
use Rattle.order_extended.proofs.Laws.Extended.{block_fits, extended_short}
use Rattle.pores.specs.Keep.{keep_segments}
use Rattle.order_record.specs.Blocks.{OldExtended, ExtendedMeasured, ExtendedRoom, ExtendedLaid}
use Rattle.order_record.proofs.Laws.Skeleton.{sized_laid}

-- nothing is removed
pub same_segments : (lines : ℕ) (removal : List ℕ) (gs : List Segment) → All FitsSegment gs → length removal ≡ 0 → x.kept_segments lines removal gs ≡ gs
same_segments lines removal gs f h = ap (λ (rs : List ℕ). keep_segments lines (survivors lines rs) gs) (none_listed removal h) ∙ none_removed lines gs f

pub all_fit : (s : List ℕ) {gs : List Segment} → segments.dec (bits_of s) ≡ got gs [] → All FitsSegment gs
all_fit s {gs} e = block_fits s gs [] e

module _ (lines : ℕ) (s : List ℕ) {gs : List Segment} (e : segments.dec (bits_of s) ≡ got gs []) where
  same_block : (removal : List ℕ) → All Byte s → length removal ≡ 0 → x.kept_extended lines removal gs ≡ s
  same_block removal f h =
      ap (λ (xs : List Segment). in_bytes (segments.enc xs)) (same_segments lines removal gs (all_fit s e) h) ∙ ap in_bytes (sym (whole_is segments s e).1) ∙ in_bits s f

module _ {s : List ℕ} {lines : ℕ} {removal : List ℕ} (t : OldExtended s lines removal) where
  -- its segments are the only ones
  the_segments : {gs : List Segment} → segments.dec (bits_of s) ≡ got gs [] → gs ≡ t.value
  the_segments {gs} e = let z : got gs [] ≡ got t.value [] = sym e ∙ t.reads in cc

  pub extended_there : length removal ≢ 0 → x.ExtendedToKeep s lines removal
  extended_there d = record { block = record { short = t.short; value = t.value; left = []; reads = t.reads }; few = t.few; rising = t.rising; right = t.right d }

  pub extended_same : length removal ≡ 0 → ExtendedMeasured s lines removal (length s)
  extended_same h = record { is = λ gs e. ap length (sym (same_block lines s e removal t.bytes h)) }

  pub extended_kept : {n : ℕ} → length removal ≢ 0 → x.ExtendedSized s lines removal n → ExtendedMeasured s lines removal n
  extended_kept d z = record { is = λ gs e. rw (the_segments e) (z.is t.value [] t.reads (t.right d)) }

  pub extended_fewer : {n : ℕ} → ExtendedMeasured s lines removal n → n ≤ 65535
  extended_fewer M = omega (arith, M.is t.value t.reads, extended_short lines removal s t.value [] t.reads, t.short)

  laid_of : {before after : List ℕ} {r : ℕ} → Laid (sized (x.kept_extended lines removal t.value)) before after r → ExtendedLaid s lines removal before after r
  laid_of {before} {after} {r} h = record { is = λ gs e. rw (the_segments e) h }

module _ {s : List ℕ} {lines : ℕ} {removal : List ℕ} {n : ℕ} {d : List ℕ} (t : ExtendedRoom s lines removal n d) where
  pub same_size : length removal ≡ 0 → length s ≡ n
  same_size z = sym (t.size ∙ ap length (same_block lines s t.there.reads removal t.there.bytes z))

  pub segments_room : {out : List ℕ} → length removal ≢ 0 → n ≤ length out → x.ExtendedPutThere s lines removal out
  unfolding extended_there
  segments_room z h = record { there = extended_there t.there z; room = omega (arith, t.size) }

  pub kept_end : {xs ys : List ℕ} {m : ℕ} → length removal ≢ 0 → x.ExtendedPut s lines removal xs ys m → m ≡ n
  kept_end z k = let o = t.there in (k.is o.value [] o.reads (o.right z)).count ∙ sym t.size

module _ {s : List ℕ} {lines : ℕ} {removal : List ℕ} {n : ℕ} {d : List ℕ} (t : ExtendedRoom s lines removal n d) {xs ys : List ℕ} {a m : ℕ} (h : Laid (two n) d xs a) where
  pub copied_extended : length removal ≡ 0 → Laid s (lent xs a) ys m → ExtendedLaid s lines removal d (back xs a ys) (a + m)
  copied_extended z k =
      let e = same_block lines s t.there.reads removal t.there.bytes z in
      laid_of t.there (sized_laid t.size h (subst (λ (block : List ℕ). Laid block (lent xs a) ys m) (sym e) k))

  pub kept_extended_lem : length removal ≢ 0 → x.ExtendedPut s lines removal (lent xs a) ys m → ExtendedLaid s lines removal d (back xs a ys) (a + m)
  kept_extended_lem z k = let o = t.there in laid_of o (sized_laid t.size h (k.is o.value [] o.reads (o.right z)))
