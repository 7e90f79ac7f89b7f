-- At most how many bytes the record has after some orders: the old index block tells how many numbers it can have, an order makes them
-- at most one more, and no count and no difference passes the number of lines.
use mathlib.Core.Path.{◌≡◌, sym, ap, ◌∙◌}
use Prim.Native.Nat.{ℕ, zero, suc, ◌+◌, ◌-◌, ◌*◌, ◌/◌, ◌^◌, ◌≤◌, ◌<◌}
use native.Mathlib.Nat.{zero-add, mul-le-mul, div-le_self, le-div_iff_mul-le}
use native.Mathlib.Omega.{arith}
use mathlib.Core.Option.{some, map}
use mathlib.Core.List.{List, [], ◌∷◌, ◌++◌}
use lib.ListN.{length, take, drop, get_or, length-append}
use lib.Seq.{take_at, get_or-take, get_or-drop}
use lib.Dec.{ltb, ltb→lt, nltb→le}
use Rattle.bits.specs.ChoiceLaws.{pick_case}
use Rattle.bits.specs.Lists.{All, Along, total}
use Rattle.bits.specs.ListsLaws.{up_along}
use Rattle.bits.specs.Bits.{Bits, number_of_bits, bits_of_number}
use Rattle.bits.specs.BitsLaws.{length_bits, number_bits}
use Rattle.bits.specs.Bytes.{Byte, bits_of}
use Rattle.bits.specs.BytesLaws.{length_bits_of}
use Rattle.bits.specs.Codec.{got}
use Rattle.bits.specs.CodecLaws.{enc_along}
use Rattle.bits.proofs.Laws.Parts.{part_bytes}
use Rattle.differences.specs.Differences.{Falls, diffs}
use Rattle.differences.proofs.DifferencesLaws.{falls_count}
use Rattle.format.specs.Index.{Index, neighbours, up}
use Rattle.format.specs.View.{View}
use Rattle.format.specs.Record.{Record, read}
use Rattle.format.specs.Places.{view_at, count}
use Rattle.format.proofs.Laws.Record.{read_back}
use Rattle.orders.specs.Act.{Word, lists}
use Rattle.orders.specs.Least.{find, max_of, numbers_from, least_width}
use Rattle.orders.proofs.Laws.Right.{RightLists}
use Rattle.find_parts.specs.Site.{SiteOf}
use Rattle.find_parts.specs.declared.site.Site.{Site}
use Rattle.find_parts.proofs.Laws.Blocks.{cut, cut_long}
use Rattle.find_parts.proofs.Laws.Index.{IndexAt, index_at}
use Rattle.find_parts.proofs.Laws.Lists.{lists_long}
use Rattle.find_parts.proofs.Laws.Record.{record_apart}
use Rattle.find_parts.proofs.Laws.Written.{written}
use Rattle.order_words.specs.After.{heard_in, lists_after}
use Rattle.order_words.proofs.Laws.Listed.{heard_count}
use Rattle.order_words.proofs.Laws.After.{right_lists}
use Rattle.order_words.proofs.Laws.Lists.{length_after, entries_after}
use Rattle.order_record.proofs.Laws.Acts.{words_left}
use Rattle.order_record.proofs.Laws.Sizes.{words_most}
use Rattle.order_pairs.specs.Sizes.{Indexed, AtMost}
use Rattle.order_pairs.proofs.Laws.Word.{site_right, with_index, reads_some}

-- ---- the least width for the largest number that there can be

find_within : (f w m : ℕ) → (w ≤ find f w m) × (find f w m ≤ f + w)
find_within zero w m = (omega arith, omega arith)
find_within (suc f) w m =
    let (a, b) = find_within f (suc w) m in
    pick_case (λ (x : ℕ). (w ≤ x) × (x ≤ suc f + w)) (ltb m (2 ^ w)) _ _ (λ t. (omega arith, omega arith))
    (λ t. (omega arith, omega arith))

find_more : (f w m n : ℕ) → m ≤ n → find f w m ≤ find f w n
find_more zero w m n h = omega arith
find_more (suc f) w m n h =
    pick_case (λ (x : ℕ). find (suc f) w m ≤ x) (ltb n (2 ^ w)) _ _
    (λ t. pick_case (λ (y : ℕ). y ≤ w) (ltb m (2 ^ w)) _ _ (λ u. omega arith)
    (λ u. absurd (omega (arith, ltb→lt n (2 ^ w) t, nltb→le m (2 ^ w) u))))
    (λ t. pick_case (λ (y : ℕ). y ≤ find f (suc w) n) (ltb m (2 ^ w)) _ _ (λ u. omega (arith, find_within f (suc w) n))
    (λ u. find_more f (suc w) m n h))

diffs_most : (m l : ℕ) (ns : List ℕ) → Falls m l ns → max_of (diffs l ns) ≤ l
diffs_most m l [] h = omega arith
diffs_most m l (n ∷ ns) h = omega (arith, h.0, diffs_most 1 n ns h.1)

numbers_most : (n l : ℕ) (ls : List (List ℕ)) → l + length ls ≤ n → Along up (Falls 0) l ls → max_of (numbers_from l ls) ≤ n
numbers_most n l [] b h = omega arith
numbers_most n l (ns ∷ ls) b h =
    omega (arith, falls_count 0 l ns (omega arith) h.0, diffs_most 0 l ns h.0, numbers_most n (suc l) ls (omega arith) h.1)

width_most : {n : ℕ} {ls : List (List ℕ)} → RightLists n ls → least_width ls ≤ find 15 1 n
unfolding least_width
width_most {n} {ls} r =
    let f : Along up (Falls 0) 0 ls = up_along (Falls 0) [] 0 ls λ p k. rw zero-add (r.falls p (omega (arith, r.count))) in
    find_more 15 1 (max_of (numbers_from 0 ls)) n (numbers_most n 0 ls (omega (arith, r.count)) f)

-- ---- the old index block

first_number : (s : List ℕ) (w : ℕ) (r : Bits) → 0 < length s → All Byte s → w < 2 ^ 8 → bits_of s ≡ bits_of_number 8 w ++ r
    → get_or s 0 0 ≡ w
unfolding bits_of
first_number [] w r l f h e = absurd (omega arith)
first_number (b ∷ bs) w r l f h e =
    sym (number_bits 8 b f.0) ∙ ap number_of_bits (sym (take_at (bits_of_number 8 b) (bits_of bs) 8 (length_bits 8 b)))
    ∙ ap (λ (t : Bits). number_of_bits (take 8 t)) e ∙ ap number_of_bits (take_at (bits_of_number 8 w) r 8 (length_bits 8 w)) ∙ number_bits 8 w h

module _ {s : List ℕ} {x : Site} (l : x.index.from < x.index.to) {o : Record} {j : ℕ} (e : read s ≡ got o [])
    (S : SiteOf o s j x) {i : Index} (q : (view_at o j).index ≡ some i) where
  abbrev block : List ℕ
  block = cut s x.index.from x.index.to

  at : IndexAt x.lines block i
  at = index_at x.lines block (reads_some l e S q)

  abbrev size : ℕ
  size = x.index.to - x.index.from

  width_here : All Byte s → get_or s x.index.from 0 ≡ i.width
  width_here f =
      let z : x.index.from + 0 ≡ x.index.from = omega arith in
      let y : get_or block 0 0 ≡ get_or s x.index.from 0 =
      get_or-take size (drop x.index.from s) 0 0 (omega arith) ∙ get_or-drop x.index.from s 0 0 ∙ ap (λ (k : ℕ). get_or s k 0) z in
      let b : All Byte block = part_bytes s x.index.from size f in
      sym y ∙ first_number block i.width _ (omega (arith, cut_long S.index)) b (omega (arith, at.fits.high)) at.bits

  width_some : 1 ≤ i.width
  width_some = at.fits.low

  numbers_old : length i.lists + total length i.lists ≤ (8 * size - 8) / i.width
  numbers_old =
      let w : ℕ = i.width in
      let n : ℕ = length i.lists + total length i.lists in
      let z : length (enc_along (neighbours w) up 0 i.lists) ≡ n * w = lists_long w i.lists in
      let y = simp length-append at (ap length at.bits) in
      (le-div_iff_mul-le {k = w} {x = n} {y = 8 * size - 8} (omega (arith, width_some))).1
      (omega (arith, z, y, length_bits_of block, cut_long S.index, length_bits 8 w))

-- ---- the numbers that code makes of it

module _ {s : List ℕ} {x : Site} (I : Indexed s x) where
  pub width_there : All Byte s → 1 ≤ get_or s x.index.from 0
  width_there f =
      with_index I.index I.reads I.at λ i q.
      omega (arith, width_here I.index I.reads I.at q f, width_some I.index I.reads I.at q)

  pub block_short : (x.index.to ≤ length s) × (length s ≤ 32768)
  block_short = (I.at.index.within, (record_apart s I.reads).short)

  -- the block's numbers, and the orders'
  module _ {orders : ℕ} (h : orders ≤ 4294967296) where
    abbrev numbers : ℕ
    numbers = (8 * (x.index.to - x.index.from) - 8) / get_or s x.index.from 0 + orders

    pub few_numbers : numbers ≤ 4295229440
    few_numbers = omega (arith, block_short, div-le_self (8 * (x.index.to - x.index.from) - 8) (get_or s x.index.from 0))

    pub few_bits_lem : {w : ℕ} → w ≡ find 15 1 x.lines → numbers * w ≤ 4295229440 * 16
    few_bits_lem {w} e = let k : w ≤ 16 = omega (arith, e, find_within 15 1 x.lines) in mul-le-mul few_numbers k

-- ---- the record

pub at_most : {s : List ℕ} {x : Site} (orders : ℕ) → x.index.from < x.index.to → All Byte s
    → AtMost s x orders (x.index.from
    + (8 + ((8 * (x.index.to - x.index.from) - 8) / get_or s x.index.from 0 + orders) * find 15 1 x.lines + 7) / 8
    + (length s - x.index.to))
at_most {s} {x} orders l f =
    record {
      is = λ o j words e S k p.
          with_index l e S λ i q.
          let v : View = view_at o j in
          let hs : List Word = heard_in words in
          let ls : List (List ℕ) = lists_after hs i.lists in
          let z : lists v ≡ some i.lists = ap (map (λ k. k.lists)) q in
          let R : RightLists (count v) ls = right_lists v i.lists z (site_right e S) hs p in
          let m : ℕ = (8 * (x.index.to - x.index.from) - 8) / get_or s x.index.from 0 + orders in
          let a : length ls + total length ls ≤ m =
          rw (width_here l e S q f)
          (omega (arith, numbers_old l e S q, length_after hs i.lists, entries_after hs i.lists, heard_count words)) in
          let b : least_width ls ≤ find 15 1 x.lines = rw S.count (width_most R) in
          let (h, r, _) = read_back s o [] f e in
          words_most S (r ∙ written o h) words q (words_left words v (site_right e S) p i q) a b;
    }
