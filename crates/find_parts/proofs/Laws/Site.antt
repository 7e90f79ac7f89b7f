-- A view whose lines are counted: from its blocks and from what code passes of its lines to where it stands.
use mathlib.Core.Path.{◌≡◌}
use Prim.Native.Nat.{ℕ, ◌<◌}
use mathlib.Core.List.{List}
use lib.ListN.{length}
use Rattle.format.specs.Line.{skeleton}
use Rattle.format.specs.Record.{Record}
use Rattle.format.specs.Places.{view_at}
use Rattle.format.specs.declared.Widths.{Widths}
use Rattle.format.proofs.Laws.Record.{narrow}
use Rattle.find_parts.specs.Stands.{BlockAt, BlocksIn}
use Rattle.find_parts.specs.Finds.{LinesThere, LinesPassed}
use Rattle.find_parts.specs.Site.{SiteOf, SiteThere}
use Rattle.find_parts.specs.declared.view.Blocks.{Blocks}
use Rattle.find_parts.specs.declared.Passed.{Passed}
use Rattle.find_parts.proofs.Laws.Blocks.{cut, lines_there}
use Rattle.find_parts.proofs.Laws.Record.{record_apart}
use Rattle.find_parts.proofs.Laws.Lines.{lines_counted}

pub site_is : {r : Record} {s : List ℕ} {i : ℕ} {w : Widths} {x : Blocks} {p : Passed} → LinesPassed w (cut s x.skeleton.from x.skeleton.to) 1024 p
    → w ≡ r.head.scale.widths → i < length r.views → BlocksIn r s i x
    → SiteOf r s i (record { skeleton = x.skeleton; index = x.index; extended = x.extended; lines = p.count; widths = w })
site_is P e l B =
    let n = lines_counted B.lines (rw e at P) in
    record {
      there = l;
      widths = e;
      count = n;
      before = B.before;
      lines = rw e B.lines;
      next = B.next;
      index = rw n B.index;
      last = B.last;
      segments = B.segments;
    }

-- its lines can be counted
pub site_lines : {s : List ℕ} {x : Blocks} {w : Widths} → SiteThere s x w → LinesThere w (cut s x.skeleton.from x.skeleton.to)
site_lines {s} {x} {w} t =
    let a = record_apart s t.reads in
    let h : BlockAt (skeleton w) s x.skeleton.from x.skeleton.to (view_at t.value t.place).lines = rw t.widths t.blocks.lines in
    lines_there (rw t.widths (narrow a.fits)) a.short h
