-- The loop over the views of a record s: which are laid so far, and which are still to be read.
use mathlib.Core.Path.{◌≡◌}
use Prim.Native.Nat.{ℕ, ◌+◌, ◌≤◌}
use native.Mathlib.Omega.{arith}
use mathlib.Core.List.{List, []}
use lib.ListN.{length}
use Rattle.bits.specs.Codec.{got}
use Rattle.put_bytes.proofs.Laws.{lent, back}
use Rattle.format.specs.View.{View}
use Rattle.format.specs.Record.{Record, read}
use Rattle.format.specs.SheetSize.{view_size}
use Rattle.format.specs.declared.Widths.{Widths}
use Rattle.find_parts.proofs.Laws.Views.{ViewsLeft, ViewNext, views_first}
use Rattle.sheet_bytes.specs.Bytes.{view_bytes}
use Rattle.read_views.specs.ViewOuts.{ViewWritten}
use Rattle.read_views.specs.SheetOuts.{ViewsToRead}
use Rattle.read_views.specs.declared.view.ViewOut.{ViewOut}
use Rattle.sheet_bytes.proofs.Laws.Sizes.{view_size_lem}
use Rattle.read_blocks.proofs.Laws.Laying.{Laying, laying_none, laying_room, laying_more}

-- ---- i views are laid; the next starts at byte p

pub record ViewsDone (w : Widths) (count : ℕ) (s before now : List ℕ) (p i at : ℕ) : Type 0 where
  pub value : Record
  pub rest : List View
  pub reads : read s ≡ got value []
  pub widths : w ≡ value.head.scale.widths
  pub left : ViewsLeft w count s i p rest
  pub laying : Laying (view_bytes w.k) view_size value.views rest before now at

pub views_start : {w : Widths} {count : ℕ} {s d : List ℕ} → ViewsToRead w count s (length d) → ViewsDone w count s d d 24 0 0
views_start {w} {count} {s} {d} h =
    record {
      value = h.value;
      rest = h.value.views;
      reads = h.reads;
      widths = h.widths;
      left = rw (h.widths, h.views) (views_first s h.reads);
      laying = laying_none (view_bytes w.k) view_size h.room;
    }

module _ {w : Widths} {count : ℕ} {s d o : List ℕ} {p i at : ℕ} (h : ViewsDone w count s d o p i at) where
  module _ (l : ViewNext w count s i p h.rest) where
    pub view_room : at + view_size l.value ≤ length d
    view_room = omega (arith, laying_room (view_bytes w.k) view_size h.laying l.is)

    pub view_fits : {b ys : List ℕ} {r : ViewOut} → ViewWritten w s p b ys r → at + r.written ≤ length d
    view_fits x = omega (arith, view_room, (x.is l.seen l.value l.behind l.reads).1.count, view_size_lem w.k l.value)

    pub views_more : {ys : List ℕ} {r : ViewOut} → ViewWritten w s p (lent o at) ys r → ViewsDone w count s d (back o at ys) r.next (i + 1) (at + r.written)
    views_more {ys} {r} x =
        let (q, y) = x.is l.seen l.value l.behind l.reads in
        record {
          value = h.value;
          rest = l.others;
          reads = h.reads;
          widths = h.widths;
          left = rw q l.further;
          laying = laying_more (view_bytes w.k) view_size h.laying l.is (view_size_lem w.k l.value) y;
        }
