-- The skeleton block that an order leaves. Whatever lines a block has, it has no others, so that what is known of those that the caller
-- names holds of them.
use mathlib.Core.Path.{◌≡◌, sym, ap, ◌∙◌, subst}
use Prim.Native.Nat.{ℕ, suc, ◌+◌, ◌≤◌}
use native.Mathlib.Omega.{arith}
use mathlib.Core.Bool.{Bool}
use mathlib.Core.List.{List, [], ◌∷◌, ◌++◌}
use lib.ListN.{length, length-append}
use Rattle.bits.specs.Lists.{All}
use Rattle.bits.specs.Bits.{Bits, zeros, pad}
use Rattle.bits.specs.Bytes.{Byte, bits_of, in_bytes}
use Rattle.bits.specs.BytesLaws.{in_bits}
use Rattle.bits.specs.ChoiceLaws.{pick_case}
use Rattle.bits.specs.Codec.{got, Codec}
use Rattle.bits.specs.CodecLaws.{enc_all}
use Rattle.put_bytes.specs.Laid.{Laid}
use Rattle.put_bytes.specs.HighFirst.{two}
use Rattle.put_bytes.proofs.Laws.{laid_next, lent, back}
use Rattle.format.specs.Limits.{most_lines}
use Rattle.format.specs.Line.{Line, line, skeleton}
use Rattle.format.specs.declared.Widths.{Widths}
use Rattle.orders.specs.Survive.{elem}
use Rattle.orders.specs.Listed.{removal_lines}
use Rattle.order_removal.specs.Kept.{kept}
use Rattle.find_parts.proofs.Laws.Standing.{stands_within}
use Rattle.find_parts.proofs.Laws.Blocks.{whole_is}
use Rattle.order_lines.specs.Lines as l
use Rattle.order_lines.proofs.Laws.Lines.{block_bytes}
use Rattle.order_removal.proofs.Laws.Kept.{kept_all}
use Rattle.order_removal.proofs.Laws.Listed.{none_listed}
use Rattle.find_parts.specs.Stored.{sized}
use Rattle.order_record.specs.Blocks.{OldSkeleton, SkeletonMeasured, SkeletonRoom, SkeletonLaid}

module _ (w : Widths) (s : List ℕ) {ls : List Line} (e : (skeleton w).dec (bits_of s) ≡ got ls []) where
  lines_few : length ls ≤ 1024
  unfolding skeleton most_lines
  lines_few = (whole_is (skeleton w) s e).0.most

  lines_at : l.LinesAt w s 0 ls (zeros (pad (length (enc_all (line w) ls))))
  unfolding skeleton line
  lines_at = record { bits = (whole_is (skeleton w) s e).1; fits = (whole_is (skeleton w) s e).0.all; within = omega arith }

  -- a pair order leaves the block as it is
  same_block : (removal : List ℕ) → All Byte s → length removal ≡ 0 → l.kept_block w removal ls ≡ s
  same_block removal f h =
      let k : l.kept_from (removal_lines removal) 0 ls ≡ ls = ap (λ (rs : List ℕ). l.kept_from rs 0 ls) (none_listed removal h) ∙ kept_all 0 ls in
      ap (λ (xs : List Line). in_bytes ((skeleton w).enc xs)) k ∙ ap in_bytes (sym (whole_is (skeleton w) s e).1) ∙ in_bits s f

-- lines that are left take no more bits
fewer_bits : {A : Type 0} (c : Codec Bool A) (rs : List ℕ) (i : ℕ) (xs : List A) → length (enc_all c (kept (λ j x. x) rs i xs)) ≤ length (enc_all c xs)
fewer_bits c rs i [] = omega arith
fewer_bits c rs i (x ∷ xs) =
    let h = fewer_bits c rs (suc i) xs in
    let m = length-append (c.enc x) (enc_all c xs) in
    pick_case (λ ys. length (enc_all c ys) ≤ length (c.enc x ++ enc_all c xs)) (elem i rs) _ _ (λ t. omega (arith, h, m))
    (λ t. omega (arith, h, m, length-append (c.enc x) (enc_all c (kept (λ j x. x) rs (suc i) xs))))

module _ {w : Widths} {s : List ℕ} {lines : ℕ} {removal : List ℕ} (t : OldSkeleton w s lines removal) where
  -- its lines are the only ones
  the_lines : {ls : List Line} → (skeleton w).dec (bits_of s) ≡ got ls [] → ls ≡ t.value
  the_lines {ls} e = let z : got ls [] ≡ got t.value [] = sym e ∙ t.reads in cc

  pub lines_there : l.LinesToKeep w s lines removal
  lines_there =
      record { narrow = t.narrow; short = t.short; rising = t.rising; few = omega (arith, t.count, lines_few w s t.reads); value = t.value; behind = _; at = lines_at w s t.reads; counts = sym t.count }

  pub skeleton_same : length removal ≡ 0 → SkeletonMeasured w s removal (length s)
  skeleton_same h = record { is = λ ls e. ap length (sym (same_block w s e removal t.bytes h)) }

  pub skeleton_kept : {n : ℕ} → l.LinesSized w s lines removal n → SkeletonMeasured w s removal n
  skeleton_kept z = record { is = λ ls e. z.is ls _ (lines_at w s e) (ap length (the_lines e) ∙ sym t.count) }

  pub skeleton_fewer : {n : ℕ} → SkeletonMeasured w s removal n → n ≤ 65535
  skeleton_fewer M =
      let all : Bits = enc_all (line w) t.value in
      omega (
        arith,
        M.is t.value t.reads ∙ block_bytes w removal t.value,
        fewer_bits (line w) (removal_lines removal) 0 t.value,
        stands_within s 0 all (zeros (pad (length all))) (lines_at w s t.reads).bits (omega arith),
        t.short,
      )

  -- whatever its lines are called
  laid_of : {before after : List ℕ} {r : ℕ} → Laid (sized (l.kept_block w removal t.value)) before after r → SkeletonLaid w s removal before after r
  laid_of {before} {after} {r} h = record { is = λ ls e. rw (the_lines e) h }

-- a block of n bytes is laid behind its length
pub sized_laid : {block d xs ys : List ℕ} {n a m : ℕ} → n ≡ length block → Laid (two n) d xs a → Laid block (lent xs a) ys m → Laid (sized block) d (back xs a ys) (a + m)
sized_laid e h k = laid_next (rw e at h) k

module _ {w : Widths} {s : List ℕ} {lines : ℕ} {removal : List ℕ} {n : ℕ} {d : List ℕ} (t : SkeletonRoom w s lines removal n d) where
  pub same_size : length removal ≡ 0 → length s ≡ n
  same_size z = sym (t.size ∙ ap length (same_block w s t.there.reads removal t.there.bytes z))

  pub lines_room : {out : List ℕ} → n ≤ length out → l.LinesPutThere w s lines removal out
  unfolding lines_there
  lines_room h = record { there = lines_there t.there; room = omega (arith, t.size) }

  pub kept_end : {xs ys : List ℕ} {m : ℕ} → l.LinesPut w s lines removal xs ys m → m ≡ n
  kept_end k = let o = t.there in (k.is o.value _ (lines_at w s o.reads) (sym o.count)).count ∙ sym t.size

module _ {w : Widths} {s : List ℕ} {lines : ℕ} {removal : List ℕ} {n : ℕ} {d : List ℕ} (t : SkeletonRoom w s lines removal n d) {xs ys : List ℕ} {a m : ℕ} (h : Laid (two n) d xs a) where
  pub copied_skeleton : length removal ≡ 0 → Laid s (lent xs a) ys m → SkeletonLaid w s removal d (back xs a ys) (a + m)
  copied_skeleton z k =
      let e = same_block w s t.there.reads removal t.there.bytes z in
      laid_of t.there (sized_laid t.size h (subst (λ (block : List ℕ). Laid block (lent xs a) ys m) (sym e) k))

  pub kept_skeleton : l.LinesPut w s lines removal (lent xs a) ys m → SkeletonLaid w s removal d (back xs a ys) (a + m)
  kept_skeleton k =
      let o = t.there in
      laid_of o (sized_laid t.size h (k.is o.value _ (lines_at w s o.reads) (sym o.count)))
