-- The numbers of the listing: what code reads and counts in a view is what the listing has of it. Each count goes to the end of its
-- block, since nothing is left there.
use Rattle.std.specs.Prelude as std
use mathlib.Core.Path.{◌≡◌, ◌∙◌}
use Prim.Native.Nat.{ℕ, ◌+◌, ◌-◌, ◌*◌, ◌≤◌}
use native.Mathlib.Omega.{arith}
use mathlib.Core.List.{List, [], ◌∷◌, ◌++◌, append_assoc}
use lib.ListN.{length, take, drop}
use lib.Seq.{length-take-le}
use Rattle.bits.specs.ChoiceLaws.{split}
use Rattle.bits.specs.Lists.{All}
use Rattle.bits.specs.Bits.{Bits, bits_of_number}
use Rattle.bits.specs.BitsLaws.{length_bits}
use Rattle.bits.specs.Bytes.{Byte, bits_of}
use Rattle.bits.specs.Codec.{field_dec}
use Rattle.bits.specs.OfBlock.{BlockThere}
use Rattle.bits.specs.Reads.{found, Reads}
use Rattle.bits.proofs.Laws.Parts.{part_bytes}
use Rattle.outcome.specs.Refusals.{bad_view}
use Rattle.format.specs.Line.{skeleton}
use Rattle.format.specs.Index.{index_block}
use Rattle.format.specs.Segments.{Segment, segment_length, segments}
use Rattle.format.specs.View.{View, FitsHead, head_fields}
use Rattle.format.specs.declared.Widths.{Widths}
use Rattle.find_parts.specs.Stands.{BlockAt, ViewAt}
use Rattle.format.specs.Places.{segment_bits}
use Rattle.find_parts.specs.Finds.{BlocksFound, LinesPassed, SegmentsPassed}
use Rattle.find_parts.specs.declared.view.Blocks.{Blocks}
use Rattle.find_parts.specs.declared.Passed.{Passed}
use Rattle.find_parts.proofs.Laws.Blocks.{cut, cut_long, block_there, lines_here, index_here, segments_here}
use Rattle.find_parts.proofs.Laws.Lines.{none_left, lines_counted}
use Rattle.find_parts.proofs.Laws.Segments.{segments_none}
use Rattle.list_numbers.specs.Listing.{Listed, listed}
use Rattle.list_numbers.specs.Counts.{PairsCounted, ListedThere, pairs_of}
use Rattle.find_parts.proofs.Laws.Standing.{stands_behind, number_there}

-- ---- the header's first two bytes

module _ {w : Widths} {s : List ℕ} {a : ℕ} {v : View} (at : ViewAt w s a v) where
  -- behind the number and the position
  abbrev others : Bits
  others = bits_of_number 8 v.head.impression ++ (bits_of_number 8 v.head.quality ++ (bits_of_number 16 v.head.width ++ (bits_of_number 16 v.head.height ++ at.rest)))

  head_back : FitsHead at.earlier v.head × (drop (8 * a) (bits_of s) ≡ bits_of_number 8 v.head.number ++ (bits_of_number 8 v.head.position ++ others))
  head_back = let (f, b) = (head_fields bad_view at.earlier).back (drop (8 * a) (bits_of s)) v.head at.rest at.head in (f, b ∙ simp append_assoc)

  number_is : {n q : ℕ} → Reads (field_dec bad_view 8) s (8 * a) (found n q) → n ≡ v.head.number
  number_is k = number_there bad_view 8 (bits_of_number 8 v.head.position ++ others) head_back.0.number head_back.1 k

  position_is : {n q : ℕ} → Reads (field_dec bad_view 8) s (8 * a + 8) (found n q) → n ≡ v.head.position
  position_is k =
      let b = stands_behind s (8 * a) (bits_of_number 8 v.head.number) (bits_of_number 8 v.head.position ++ others) head_back.1 8 (length_bits 8 v.head.number) in
      number_there bad_view 8 others head_back.0.position b k

-- ---- counts that go to the end of a block

segments_wide : (gs : List Segment) → 32 * length gs ≤ segment_bits gs
segments_wide [] = omega arith
segments_wide (g ∷ gs) = omega (arith, segment_length g, segments_wide gs)

-- each has four bytes or more, so that there are no more of them than bytes
segments_counted : {s : List ℕ} {a e : ℕ} {gs : List Segment} {r : Passed} → All Byte s → BlockAt segments s a e gs → SegmentsPassed (cut s a e) (length (cut s a e)) r
    → r.count ≡ length gs
segments_counted {s} {a} {e} {gs} {r} bytes h P =
    let (c, left, z) = P.is gs [] h.value in
    let l : length (take r.count gs) ≡ r.count = length-take-le r.count gs c in
    let far : length (cut s a e) ≤ r.next = split (length (cut s a e)) r.count (λ k. omega (arith, cut_long h, segments_wide (take r.count gs))) (λ k. P.all k) in
    none_left gs r.count c (segments_none (part_bytes s a (e - a) bytes) left far)

-- ---- the view that code finds at byte a

same_listed : (x y : Listed) → x.position ≡ y.position → x.number ≡ y.number → x.lines ≡ y.lines → x.pairs ≡ y.pairs → x.segments ≡ y.segments → x ≡ y
same_listed x y p n l q g = λ i. record { position = p i; number = n i; lines = l i; pairs = q i; segments = g i }

module _ {w : Widths} {s : List ℕ} {a : ℕ} (T : ListedThere w s a) where
  pub head_there : a + 10 ≤ length s
  head_there = omega (arith, T.at.blocks.lines.from, T.at.blocks.lines.within)

  module _ {x : Blocks} (F : BlocksFound s (a + 8) x) where
    pub lines_at : BlockAt (skeleton w) s x.skeleton.from x.skeleton.to T.value.lines
    lines_at = lines_here T.at.blocks F

    pub index_at : BlockAt (index_block (length T.value.lines)) s x.index.from x.index.to T.value.index
    index_at = index_here T.at.blocks F

    pub segments_at : BlockAt segments s x.extended.from x.extended.to T.value.segments
    segments_at = segments_here T.at.blocks F

    pub index_there : {l : Passed} → LinesPassed w (cut s x.skeleton.from x.skeleton.to) 1024 l → BlockThere (index_block l.count) (cut s x.index.from x.index.to)
    index_there L = rw (lines_counted lines_at L) (block_there T.short index_at)

pub listed_is : {w : Widths} {s : List ℕ} {a : ℕ} {v : View} {x : Blocks} {l g : Passed} {n m q t : ℕ} (p : std.Option ℕ) → All Byte s → (at : ViewAt w s a v) → BlocksFound s (a + 8) x
    → Reads (field_dec bad_view 8) s (8 * a) (found n q) → Reads (field_dec bad_view 8) s (8 * a + 8) (found m t)
    → LinesPassed w (cut s x.skeleton.from x.skeleton.to) 1024 l → PairsCounted l.count (cut s x.index.from x.index.to) p
    → SegmentsPassed (cut s x.extended.from x.extended.to) (length (cut s x.extended.from x.extended.to)) g
    → record { position = m; number = n; lines = l.count; pairs = pairs_of p; segments = g.count } ≡ listed v
listed_is {s = s} {v = v} {x = x} {l = l} {g = g} {n = n} {m = m} p bytes at F N M L P G =
    let z : l.count ≡ length v.lines = lines_counted (lines_here at.blocks F) L in
    let index : BlockAt (index_block l.count) s x.index.from x.index.to v.index = rw z (index_here at.blocks F) in
    same_listed (record { position = m; number = n; lines = l.count; pairs = pairs_of p; segments = g.count }) (listed v)
    (position_is at M) (number_is at N) z (P.is v.index [] index.value) (segments_counted bytes (segments_here at.blocks F) G)
