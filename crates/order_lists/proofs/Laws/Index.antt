-- The index block after an order: how long it is, and what is put. What stands in the block before it is a matter of order_walk.
use mathlib.Core.Path.{◌≡◌, sym, ap, ◌∙◌}
use Prim.Native.Nat.{ℕ, suc, ◌+◌, ◌*◌, ◌/◌, ◌≤◌}
use native.Mathlib.Omega.{arith}
use native.Mathlib.Nat.{mul-le-mul_left}
use mathlib.Core.Option.{some}
use mathlib.Core.List.{List, [], ◌∷◌}
use lib.ListN.{length}
use Rattle.bits.specs.Lists.{Along, total}
use Rattle.bits.specs.Bits.{Bits, bits_of_number}
use Rattle.bits.specs.Bytes.{bits_of, in_bytes}
use Rattle.bits.specs.Codec.{got, field_dec}
use Rattle.bits.specs.CodecLaws.{enc_along}
use Rattle.bits.specs.Reads.{found, Reads}
use Rattle.outcome.specs.Refusals.{bad_index}
use Rattle.put_bytes.specs.Laid.{Laid}
use Rattle.format.specs.Limits.{most_lines}
use Rattle.differences.specs.Differences.{Falls}
use Rattle.differences.proofs.DifferencesLaws.{falls_count}
use Rattle.format.specs.Index.{Index, FitsIndex, neighbours, up, index_block}
use Rattle.find_parts.proofs.Laws.Blocks.{block_long}
use Rattle.find_parts.proofs.Laws.Lists.{lists_long}
use Rattle.find_parts.proofs.Laws.Index.{width_is_lem, index_enc, index_long}
use Rattle.put_bits.specs.Put.{PutMore, Puts, Room}
use Rattle.put_bits.proofs.Laws.{put_none, put_laid}
use Rattle.orders.specs.Least.{find, max_of, numbers_from, least_width, index_of}
use Rattle.orders.proofs.Laws.Least.{least_fits}
use Rattle.order_walk.proofs.Laws.Block.{before, as_many, lists_stand}
use Rattle.order_lists.specs.Lists.{ListsNumbered, ListsPut}
use Rattle.order_lists.specs.Index.{left, IndexSized, IndexPut}
use Rattle.order_lists.specs.declared.lists.Totals.{Totals}

-- ---- the block after

module _ (ls : List (List ℕ)) where
  abbrev w : ℕ
  w = least_width ls

  pub new_long : length (in_bytes ((index_block 0).enc (some (index_of ls)))) ≡ (8 + (length ls + total length ls) * w + 7) / 8
  new_long = omega (arith, block_long (index_block 0) (some (index_of ls)), index_long 0 (index_of ls), lists_long w ls)

  -- room for the block is room for its lists
  pub block_room : {out : List ℕ} → length (in_bytes ((index_block 0).enc (some (index_of ls)))) ≤ 65535
      → length (in_bytes ((index_block 0).enc (some (index_of ls)))) ≤ length out → Room out 8 (length (enc_along (neighbours w) up 0 ls))
  block_room s r = record { room = omega (arith, new_long, lists_long w ls); near = omega (arith, new_long, lists_long w ls) }

  pub least_right : Along up (Falls 0) 0 ls → length ls ≤ 1024 → FitsIndex (length ls) (index_of ls)
  unfolding most_lines
  least_right f n = least_fits ls n f

  least_is : {m r : ℕ} → m ≡ max_of (numbers_from 0 ls) → r ≡ find 15 1 m → r ≡ w
  unfolding least_width
  least_is e f = f ∙ ap (find 15 1) e

  block_laid : {old mid now : List ℕ} {p q r : ℕ} → PutMore old 0 w 8 mid p → Puts (enc_along (neighbours w) up 0 ls) mid 8 now q → r ≡ (q + 7) / 8
      → Laid (in_bytes ((index_block 0).enc (some (index_of ls)))) old now r
  block_laid {old} h P e = rw (index_enc 0 (index_of ls)) (put_laid (P.is (bits_of_number 8 w) old (rw h.place at (h.is [] old (put_none old)))) e)

  -- ---- how much there is

  few_entries : Along up (Falls 0) 0 ls → length ls ≤ 1024 → total length ls ≤ 1025 * 1024
  few_entries f n = omega (arith, go 0 ls (omega arith) f)
    where
      go : (l : ℕ) (ks : List (List ℕ)) → l + length ks ≤ 1024 → Along up (Falls 0) l ks → total length ks ≤ 1025 * length ks
      go l [] n f = omega arith
      go l (ns ∷ ks) n f = omega (arith, falls_count 0 l ns (omega arith) f.0, go (suc l) ks (omega arith) f.1)

  pub small_block : Along up (Falls 0) 0 ls → length ls ≤ 1024 → (length ls + total length ls) * w ≤ 16 * (1024 + 1025 * 1024)
  small_block f n =
      let x : ℕ = length ls + total length ls in
      omega (arith, mul-le-mul_left x (least_right f n).high, few_entries f n)

-- ---- the answers of the code

module _ (s : List ℕ) (lines : ℕ) (words removal : List ℕ) {v q : ℕ} (h : Reads (field_dec bad_index 8) s 0 (found v q)) where
  module _ {t : Totals} (N : ListsNumbered v s lines words removal t) where
    totals : {i : Index} {u : Bits} → (index_block lines).dec (bits_of s) ≡ got (some i) u → Along up (Falls 0) 0 (left removal words i)
        → (t.lists ≡ length (left removal words i)) × (t.entries ≡ total length (left removal words i)) × (t.most ≡ max_of (numbers_from 0 (left removal words i)))
    totals {i} e f = (rw (width_is_lem lines s e h) at N).is i.lists (before s lines e).after (lists_stand s lines e) (as_many s lines e) f

    module _ {i : Index} {u : Bits} (e : (index_block lines).dec (bits_of s) ≡ got (some i) u) (f : Along up (Falls 0) 0 (left removal words i)) (n : length (left removal words i) ≤ 1024) where
      pub sizes_small : (t.lists ≤ 1024) × (t.entries ≤ 1025 * 1024)
      sizes_small = let (a, b, c) = totals e f in (omega (arith, a), omega (arith, b, few_entries (left removal words i) f n))

      pub product_small : {width : ℕ} → width ≡ find 15 1 t.most → (t.lists + t.entries) * width ≤ 16 * (1024 + 1025 * 1024)
      product_small k =
          let (a, b, c) = totals e f in
          let x = least_is (left removal words i) c k in
          rw (a, b, x) (small_block (left removal words i) f n)

    pub sized : {width : ℕ} → width ≡ find 15 1 t.most → IndexSized s lines words removal (record { width = width; bytes = (8 + (t.lists + t.entries) * width + 7) / 8 })
    sized k =
        record {
          is = λ i u e f n.
              let (a, b, c) = totals e f in
              let x = least_is (left removal words i) c k in
              (x, rw (a, b, x) (sym (new_long (left removal words i))));
        }

  lists_are : {width : ℕ} {i : Index} {u : Bits} {mid now : List ℕ} {p : ℕ} → (index_block lines).dec (bits_of s) ≡ got (some i) u → width ≡ least_width (left removal words i)
      → Along up (Falls 0) 0 (left removal words i) → length (left removal words i) ≤ 1024 → ListsPut v s lines words removal width mid now p
      → Puts (enc_along (neighbours (least_width (left removal words i))) up 0 (left removal words i)) mid 8 now p
  lists_are {i = i} e x f n L =
      (rw (width_is_lem lines s e h, x) at L).is i.lists (before s lines e).after (lists_stand s lines e) (as_many s lines e) (least_right (left removal words i) f n).lists

  pub put_end : {width : ℕ} {i : Index} {u : Bits} {mid now : List ℕ} {p : ℕ} → (index_block lines).dec (bits_of s) ≡ got (some i) u → width ≡ least_width (left removal words i)
      → Along up (Falls 0) 0 (left removal words i) → length (left removal words i) ≤ 1024 → ListsPut v s lines words removal width mid now p
      → p ≡ 8 + length (enc_along (neighbours (least_width (left removal words i))) up 0 (left removal words i))
  put_end e x f n L = (lists_are e x f n L).place

  pub put_index : {width : ℕ} {i : Index} {u : Bits} {old mid now : List ℕ} {at p r : ℕ} → (index_block lines).dec (bits_of s) ≡ got (some i) u → width ≡ least_width (left removal words i)
      → PutMore old 0 width 8 mid at → ListsPut v s lines words removal width mid now p → r ≡ (p + 7) / 8 → IndexPut s lines words removal old now r
  put_index {i = i} d k m L z =
      record {
        is = λ j u e f n.
            let y : i ≡ j = let y : got (some i) _ ≡ got (some j) u = sym d ∙ e in cc in
            let x = k ∙ ap (λ (x : Index). least_width (left removal words x)) y in
            let P = lists_are e x f n L in
            block_laid (left removal words j) (rw x at m) P z;
      }
