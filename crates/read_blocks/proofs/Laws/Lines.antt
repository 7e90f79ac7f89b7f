-- The laws of writing the lines of a skeleton block: what is read and laid so far, a line more, and all of them.
use mathlib.Core.Path.{◌≡◌, sym, ap, ◌∙◌}
use Prim.Native.Nat.{ℕ, ◌+◌, ◌-◌, ◌*◌, ◌≤◌, ◌<◌}
use native.Mathlib.Omega.{arith}
use mathlib.Core.List.{List, []}
use lib.ListN.{length}
use Rattle.bits.specs.Bits.{Bits}
use Rattle.bits.specs.Bytes.{bits_of}
use Rattle.bits.specs.Codec.{got}
use Rattle.bits.specs.Lists.{total}
use Rattle.put_bytes.proofs.Laws.{lent, back}
use Rattle.format.specs.Line.{Line, skeleton}
use Rattle.format.specs.SheetSize.{line_size}
use Rattle.format.specs.declared.Widths.{Widths}
use Rattle.find_parts.specs.Finds.{LinesLeft}
use Rattle.find_parts.proofs.Laws.Lines.{LineNext, lines_first, lines_none}
use Rattle.sheet_bytes.specs.Bytes.{line_bytes}
use Rattle.read_blocks.specs.LineOuts.{LineOut, LinesOut}
use Rattle.read_blocks.specs.declared.Moved.{Moved}
use Rattle.read_blocks.specs.declared.line.Lines.{Lines}
use Rattle.sheet_bytes.proofs.Laws.Sizes.{line_size_lem}
use Rattle.read_blocks.proofs.Laws.Laying.{Laying, laying_none, laying_room, laying_more, laying_all}

-- ---- the lines of the skeleton block s, of which n are laid; the next starts at place p

pub record LinesDone (w : Widths) (s before now : List ℕ) (p n at : ℕ) : Type 0 where
  pub all : List Line
  pub rest : List Line
  pub tail : Bits
  pub reads : (skeleton w).dec (bits_of s) ≡ got all tail
  pub left : LinesLeft w s n p rest tail
  pub count : n + length rest ≡ length all
  pub laying : Laying (line_bytes w.k) line_size all rest before now at

pub lines_start : {w : Widths} {s d : List ℕ} {ls : List Line} {u : Bits} → (skeleton w).dec (bits_of s) ≡ got ls u → total line_size ls ≤ length d → LinesDone w s d d 0 0 0
lines_start {w} {s} {d} {ls} {u} h r =
    record { all = ls; rest = ls; tail = u; reads = h; left = lines_first h; count = omega arith; laying = laying_none (line_bytes w.k) line_size r }

module _ {w : Widths} {s d o : List ℕ} {p n at : ℕ} (h : LinesDone w s d o p n at) where
  module _ (l : LineNext w s n p h.rest h.tail) where
    pub line_room : at + line_size l.value ≤ length d
    line_room = omega (arith, laying_room (line_bytes w.k) line_size h.laying l.is)

    -- the line is written: r is the writer's answer
    module _ {b ys : List ℕ} {r : Moved} (x : LineOut w s p b ys r) where
      pub line_fits : at + r.written ≤ length d
      line_fits = omega (arith, line_room, (x.is l.value l.behind l.reads).1.count, line_size_lem w.k l.value)

      pub line_on : p < r.next.at
      line_on = omega (arith, l.far, (x.is l.value l.behind l.reads).0)

    pub lines_more : {ys : List ℕ} {r : Moved} → LineOut w s p (lent o at) ys r → LinesDone w s d (back o at ys) r.next.at (n + 1) (at + r.written)
    lines_more {ys} {r} x =
        let (q, y) = x.is l.value l.behind l.reads in
        record {
          all = h.all;
          rest = l.others;
          tail = h.tail;
          reads = h.reads;
          left = rw q l.further;
          count = omega (arith, h.count, ap length l.is);
          laying = laying_more (line_bytes w.k) line_size h.laying l.is (line_size_lem w.k l.value) y;
        }

  -- where fewer than eight bits are left, all lines are laid
  pub lines_all : {r : Lines} → 8 * length s - p < 8 → r.count ≡ n → r.written ≡ at → LinesOut w s d o r
  lines_all {r} l a b =
      let f : h.rest ≡ [] = lines_none h.left l in
      record {
        is = λ ls u k.
            let g : got h.all h.tail ≡ got ls u = sym h.reads ∙ k in
            let m : h.all ≡ ls = cc in
            rw (← m) (omega (arith, a, h.count, ap length f), rw b (laying_all (line_bytes w.k) line_size h.laying f));
      }
