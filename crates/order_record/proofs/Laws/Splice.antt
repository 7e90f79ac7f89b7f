-- The new record's bytes: those of the old one, but for the record length and the three blocks with their lengths. These stand behind
-- the header of the view that the order names.
use mathlib.Core.Path.{◌≡◌, sym, ap, ◌∙◌}
use Prim.Native.Nat.{ℕ, ◌+◌, ◌-◌, ◌≤◌}
use native.Mathlib.Omega.{arith}
use mathlib.Core.List.{List, ◌++◌, append_assoc}
use lib.ListN.{length, drop, length-append, length-drop}
use Rattle.bits.specs.Bytes.{in_bytes}
use Rattle.format.specs.Line.{skeleton}
use Rattle.format.specs.Index.{index_block}
use Rattle.format.specs.Segments.{segments}
use Rattle.format.specs.View.{View}
use Rattle.format.specs.Record.{Record, size}
use Rattle.format.specs.Places.{view_at}
use Rattle.format.specs.declared.Widths.{Widths}
use Rattle.find_parts.specs.Stands.{BlockAt}
use Rattle.find_parts.specs.Stored.{sized, head_bytes, sized_out, blocks_out, view_out, record_out}
use Rattle.find_parts.proofs.Laws.Apart.{ahead, behind, ahead_long, around, apart}
use Rattle.find_parts.proofs.Laws.Blocks.{block_bits, block_long}
use Rattle.find_parts.proofs.Laws.Written.{stored_long}
use Rattle.put_record.specs.Head.{head_of}
use Rattle.put_record.proofs.Laws.{Around}
use Rattle.put_record.proofs.Laws as put
use Rattle.order_lines.specs.Lines.{kept_block}
use Rattle.order_extended.specs.Extended.{kept_extended}
use Rattle.find_parts.specs.Site.{SiteOf}
use Rattle.order_record.specs.Blocks.{new_index_block}
use Rattle.order_record.specs.Rebuilt.{new_view, new_record}
use Rattle.find_parts.specs.declared.site.Site.{Site}
use Rattle.order_record.proofs.Laws.Index.{index_bytes_lem}

-- a view between a and c
between : (w : Widths) (v : View) (a c : List ℕ) → a ++ (view_out w v ++ c) ≡ a ++ (head_bytes v.head ++ (blocks_out w v ++ c))
between w v a c = ap (λ (s : List ℕ). a ++ s) (append_assoc (head_bytes v.head) (blocks_out w v) c)

from_left : (a b c d : List ℕ) → a ++ (b ++ (c ++ d)) ≡ ((a ++ b) ++ c) ++ d
from_left a b c d = simp append_assoc

-- ---- s is the bytes of r, and x is where its view i stands

module _ {r : Record} {s : List ℕ} {i : ℕ} {x : Site} (S : SiteOf r s i x) where
  pub from_long : 34 ≤ x.skeleton.from
  from_long = omega (arith, S.before)

  blocks_long : x.skeleton.from - 2 + length (blocks_out r.head.scale.widths (view_at r i)) ≡ x.extended.to
  blocks_long =
      let w : Widths = r.head.scale.widths in
      let v : View = view_at r i in
      let L : BlockAt (skeleton w) s x.skeleton.from x.skeleton.to v.lines = rw S.widths at S.lines in
      let I : BlockAt (index_block (length v.lines)) s x.index.from x.index.to v.index = rw S.count at S.index in
      let m : length (blocks_out w v) ≡ (2 + length (in_bytes ((skeleton w).enc v.lines))) + (2 + length (in_bytes ((index_block (length v.lines)).enc v.index))) + (2 + length (in_bytes (segments.enc v.segments))) = simp length-append (omega arith) in
      omega (
        arith,
        m,
        from_long,
        S.next,
        S.last,
        L.from,
        I.from,
        S.segments.from,
        block_bits L,
        block_bits I,
        block_bits S.segments,
        block_long (skeleton w) v.lines,
        block_long (index_block (length v.lines)) v.index,
        block_long segments v.segments,
      )

  module _ (e : s ≡ record_out r) where
    old : Around r i (size r) s (head_bytes (view_at r i).head) (blocks_out r.head.scale.widths (view_at r i)) (behind r i) (x.skeleton.from - 2) x.extended.to
    old =
        record {
          is = e ∙ apart r i S.there ∙ between r.head.scale.widths (view_at r i) (ahead r i (size r)) (behind r i);
          start = omega (arith, S.before, ahead_long r i (size r));
          end = blocks_long;
        }

    pub spliced : (removal words : List ℕ) → record_out (new_record removal words i r)
        ≡ (((head_of s (x.skeleton.from - 2) (size (new_record removal words i r)) ++ sized (kept_block r.head.scale.widths removal (view_at r i).lines))
        ++ sized (new_index_block removal words (view_at r i).index))
        ++ sized (kept_extended (length (view_at r i).lines) removal (view_at r i).segments)) ++ drop x.extended.to s
    unfolding new_record new_view
    spliced removal words =
        let w : Widths = r.head.scale.widths in
        let u : View = new_view removal words (view_at r i) in
        let n : ℕ = size (new_record removal words i r) in
        let A : List ℕ = sized_out (skeleton w) u.lines in
        let B : List ℕ = sized_out (index_block (length u.lines)) u.index in
        let C : List ℕ = sized_out segments u.segments in
        let b : B ≡ sized (new_index_block removal words (view_at r i).index) = ap (λ bits. sized (in_bytes bits)) (index_bytes_lem (length u.lines) u.index) in
        let h : List ℕ = head_of s (x.skeleton.from - 2) n in
        around r i S.there u ∙ between w u (ahead r i n) (behind r i) ∙ put.spliced old n (A ++ (B ++ C))
        ∙ ap (λ (y : List ℕ). y ++ drop x.extended.to s) (from_left h A B C ∙ ap (λ (y : List ℕ). ((h ++ A) ++ y) ++ C) b)

    -- ---- how long it is

    pub head_long : (n : ℕ) → length (head_of s (x.skeleton.from - 2) n) ≡ x.skeleton.from - 2
    head_long n = put.head_long old n

    pub new_size : (removal words : List ℕ) → size (new_record removal words i r)
        ≡ x.skeleton.from + length (kept_block r.head.scale.widths removal (view_at r i).lines) + 2 + length (new_index_block removal words (view_at r i).index)
        + 2 + length (kept_extended (length (view_at r i).lines) removal (view_at r i).segments) + (length s - x.extended.to)
    new_size removal words =
        let n : ℕ = size (new_record removal words i r) in
        let a : List ℕ = head_of s (x.skeleton.from - 2) n in
        let b : List ℕ = sized (kept_block r.head.scale.widths removal (view_at r i).lines) in
        let c : List ℕ = sized (new_index_block removal words (view_at r i).index) in
        let d : List ℕ = sized (kept_extended (length (view_at r i).lines) removal (view_at r i).segments) in
        omega (
          arith,
          sym (stored_long (new_record removal words i r)) ∙ ap length (spliced removal words),
          length-append (((a ++ b) ++ c) ++ d) (drop x.extended.to s),
          length-append ((a ++ b) ++ c) d,
          length-append (a ++ b) c,
          length-append a b,
          head_long n,
          length-drop x.extended.to s,
          from_long,
        )
