-- A view's fields: what the writers of its header and of its blocks lay, one behind the other.
use mathlib.Core.Path.{◌≡◌, ap, ◌∙◌}
use Prim.Native.Nat.{ℕ, ◌+◌, ◌-◌, ◌*◌}
use native.Mathlib.Omega.{arith}
use mathlib.Core.List.{List}
use Rattle.bits.specs.Lists.{All}
use Rattle.bits.specs.Bytes.{Byte}
use Rattle.bits.specs.Reads.{found, Reads}
use Rattle.bits.proofs.Laws.Parts.{part}
use Rattle.put_bytes.specs.Laid.{Laid}
use Rattle.put_bytes.proofs.Laws.{laid_next, lent, back}
use Rattle.format.specs.View.{View, view}
use Rattle.format.specs.SheetSize.{view_size}
use Rattle.format.specs.declared.Widths.{Widths}
use Rattle.put_bytes.specs.HighFirst.{start}
use Rattle.sheet_bytes.specs.Bytes.{view_bytes}
use Rattle.find_parts.specs.Stored.{head_bytes}
use Rattle.read_views.specs.ViewOuts.{BlocksOut}
use Rattle.read_views.specs.declared.view.ViewOut.{ViewOut}
use Rattle.sheet_bytes.proofs.Laws.Sizes.{view_size_lem}
use Rattle.find_parts.specs.Stands.{BlocksAt}
use Rattle.find_parts.proofs.Laws.View.{view_apart}
use Rattle.find_parts.proofs.Laws.Named.{head_part}

-- ---- what the writers leave

pub blocks_wide : {w : Widths} {s : List ℕ} {b : ℕ} {v : View} {d : ℕ} {o o1 : List ℕ} {r : ViewOut} → BlocksAt w s b v d → BlocksOut w s b o o1 r
    → 11 + r.written ≡ view_size v
blocks_wide {w} {v = v} {d = d} B X = omega (arith, (X.is v d B).1.count, view_size_lem w.k v)

-- how the field starts, the header and the blocks, one behind the other
module _ {w : Widths} {s : List ℕ} (a : ℕ) (bytes : All Byte s) {o o1 o2 o3 : List ℕ} {h c : ℕ} {r : ViewOut} (H : Laid (start 2 8) o o1 h)
    (C : Laid (part s a (a + 8 - a)) (lent o1 h) o2 c) (X : BlocksOut w s (a + 8) (lent (back o1 h o2) (h + c)) o3 r) where
  pub view_laid : (seen : List ℕ) (v : View) (d : ℕ) → Reads (view w seen).dec s (8 * a) (found v (8 * d))
      → (r.next ≡ d) × Laid (view_bytes w.k v) o (back (back o1 h o2) (h + c) o3) (h + c + r.written)
  view_laid seen v d k =
      let (at, ends) = view_apart w seen k in
      let (n, l) = X.is v at.behind at.blocks in
      let z : a + 8 - a ≡ 8 = omega arith in
      let e : part s a (a + 8 - a) ≡ head_bytes v.head = ap (part s a) z ∙ head_part at bytes in
      (omega (arith, n, ends), laid_next (laid_next H (rw e at C)) l)
