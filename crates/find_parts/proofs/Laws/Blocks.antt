-- The blocks of a view, as code finds them. Code goes by the lengths that are read, so that each block ends where it finds.
use mathlib.Core.Path.{◌≡◌, refl, ap, sym, ◌∙◌}
use Prim.Native.Nat.{ℕ, ◌+◌, ◌-◌, ◌*◌, ◌%◌, ◌≤◌}
use native.Mathlib.Omega.{arith}
use mathlib.Core.Option.{Option, none}
use mathlib.Core.List.{List, [], ◌∷◌}
use lib.ListN.{length}
use Rattle.bits.specs.Bits.{Bits, filled}
use Rattle.bits.specs.Bytes.{bits_of, in_bytes}
use Rattle.bits.specs.Codec.{got}
use Rattle.bits.specs.BytesLaws.{length_bits_of, length_in}
use Rattle.bits.specs.CodecLaws.{enc_all}
use Rattle.bits.specs.Block.{Block}
use Rattle.bits.specs.OfBlock.{BlockThere}
use Rattle.bits.proofs.Laws.Parts.{part, part_length}
use Rattle.format.specs.Limits.{most_lines}
use Rattle.format.specs.Line.{Line, line, skeleton}
use Rattle.format.specs.Index.{Index, index_block}
use Rattle.format.specs.Segments.{segments}
use Rattle.format.specs.View.{View}
use Rattle.format.specs.declared.Widths.{Widths}
use Rattle.format.specs.Record.{Record, Narrow}
use Rattle.find_parts.specs.Stands.{BlockAt, BlocksAt, ViewAt, ViewIn, BlocksIn}
use Rattle.find_parts.specs.Finds.{BlockFound, BlocksThere, BlocksFound, LinesThere}
use Rattle.format.specs.declared.Part.{Part}
use Rattle.find_parts.specs.declared.view.Blocks.{Blocks}
use Rattle.find_parts.proofs.Laws.Prefixed.{block_end}

-- bytes that read as a value, with nothing left, are what its block writes
pub whole_is : {A : Type 0} (w : Block A) (s : List ℕ) {v : A} → w.dec (bits_of s) ≡ got v [] → w.Fits v × (bits_of s ≡ w.enc v)
whole_is w s {v} e = let l : length (bits_of s) % 8 ≡ 0 = omega (arith, length_bits_of s) in w.back (bits_of s) v l e

-- the bytes that code cuts out for a block
abbrev pub cut : List ℕ → ℕ → ℕ → List ℕ
cut s a e = part s a (e - a)

module _ {A : Type 0} {w : Block A} {s : List ℕ} {a e : ℕ} {v : A} (h : BlockAt w s a e v) where
  -- it is what its block writes
  pub block_is : w.Fits v × (bits_of (cut s a e) ≡ w.enc v)
  block_is = whole_is w (cut s a e) h.value

  pub cut_long : length (cut s a e) ≡ e - a
  cut_long = part_length s a (e - a) (omega (arith, h.from, h.within))

  pub block_bits : length (w.enc v) ≡ 8 * (e - a)
  block_bits = ap length (sym block_is.1) ∙ length_bits_of (cut s a e) ∙ ap (λ (n : ℕ). 8 * n) cut_long

-- its bytes
pub block_long : {A : Type 0} (b : Block A) (v : A) → length (b.enc v) ≡ 8 * length (in_bytes (b.enc v))
block_long b v = omega (arith, length_in (b.enc v), b.bytes v)

-- what is written of lines
pub skeleton_is : (w : Widths) (ls : List Line) → (skeleton w).enc ls ≡ filled (enc_all (line w) ls)
unfolding skeleton
skeleton_is w ls = refl

pub few_lines : (w : Widths) {s : List ℕ} {a e : ℕ} {ls : List Line} → BlockAt (skeleton w) s a e ls → length ls ≤ 1024
unfolding skeleton most_lines
few_lines w h = (block_is h).0.most

-- an empty index block has no index
pub no_index_lem : (lines : ℕ) (s : List ℕ) {o : Option Index} {u : Bits} → length s ≡ 0 → (index_block lines).dec (bits_of s) ≡ got o u → o ≡ none
unfolding index_block bits_of
no_index_lem lines [] h e = cc
no_index_lem lines (x ∷ s) h e = absurd (omega arith)

-- ---- x, y and z are the blocks that code finds, one behind the other

module _ {w : Widths} {s : List ℕ} {b : ℕ} {v : View} {d : ℕ} (B : BlocksAt w s b v d) {x : Part} (X : BlockFound s b x) where
  pub skeleton_end : x.to ≡ B.i
  skeleton_end = block_end B.lines X

  -- the next length is there
  pub index_next : x.to + 2 ≤ length s
  index_next = omega (arith, skeleton_end, B.index.from, B.index.within)

  module _ {y : Part} (Y : BlockFound s x.to y) where
    pub index_end : y.to ≡ B.j
    index_end = block_end B.index (rw skeleton_end at Y)

    pub extended_next : y.to + 2 ≤ length s
    extended_next = omega (arith, index_end, B.segments.from, B.segments.within)

    pub extended_end : {z : Part} → BlockFound s y.to z → z.to ≡ d
    extended_end Z = block_end B.segments (rw index_end at Z)

-- ---- the blocks that code finds

pub blocks_there : {w : Widths} {s : List ℕ} {a : ℕ} {v : View} → length s ≤ 32768 → ViewAt w s a v → BlocksThere s (a + 8)
blocks_there {w} {v = v} k h = record { short = k; widths = w; value = v; behind = h.behind; blocks = h.blocks }

module _ {w : Widths} {s : List ℕ} {b : ℕ} {v : View} {d : ℕ} (B : BlocksAt w s b v d) {x : Blocks} (F : BlocksFound s b x) where
  pub lines_here : BlockAt (skeleton w) s x.skeleton.from x.skeleton.to v.lines
  lines_here = rw (F.skeleton, (F.is w v d B).0) B.lines

  pub index_here : BlockAt (index_block (length v.lines)) s x.index.from x.index.to v.index
  index_here = rw (F.index, (F.is w v d B).0, (F.is w v d B).1) B.index

  pub segments_here : BlockAt segments s x.extended.from x.extended.to v.segments
  segments_here = rw (F.extended, (F.is w v d B).1, (F.is w v d B).2) B.segments

  pub behind_is : x.extended.to ≡ d
  behind_is = (F.is w v d B).2

pub blocks_in : {r : Record} {s : List ℕ} {i a : ℕ} → ViewIn r s i a → {x : Blocks} → BlocksFound s (a + 8) x → BlocksIn r s i x
blocks_in I F =
    let B = I.at.blocks in
    record {
      before = omega (arith, F.skeleton, I.before);
      lines = lines_here B F;
      next = F.index;
      index = index_here B F;
      last = F.extended;
      segments = segments_here B F;
    }

pub block_there : {A : Type 0} {b : Block A} {s : List ℕ} {a e : ℕ} {v : A} → length s ≤ 32768 → BlockAt b s a e v → BlockThere b (cut s a e)
block_there {v = v} k h = record { short = omega (arith, cut_long h, h.within, k); value = v; left = []; reads = h.value }

pub lines_there : {w : Widths} {s : List ℕ} {a e : ℕ} {ls : List Line} → Narrow w → length s ≤ 32768 → BlockAt (skeleton w) s a e ls → LinesThere w (cut s a e)
lines_there {ls = ls} n k h = record { narrow = n; short = omega (arith, cut_long h, h.within, k); value = ls; left = []; reads = h.value }
