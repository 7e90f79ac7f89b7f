-- Room for a sheet: seven times the record's length suffices. What takes most is a line without codes that has a neighbour at width 1:
-- 26 bits in the record, 20 bytes in the sheet. A line's bits have 48 to spare, which its list of neighbours may use up.
use mathlib.Core.Path.{◌≡◌, ap, ◌∙◌}
use Prim.Native.Nat.{ℕ, zero, suc, ◌+◌, ◌*◌, ◌≤◌, ◌<◌}
use native.Mathlib.Omega.{arith}
use native.Mathlib.Nat.{mul-le-mul_left}
use mathlib.Core.Option.{Option, none, some}
use mathlib.Core.List.{List, [], ◌∷◌}
use lib.ListN.{length, length-append}
use Rattle.bits.specs.ChoiceLaws.{within_low}
use Rattle.bits.specs.Lists.{All, Along, total}
use Rattle.bits.specs.Bits.{Bits, zeros, pad}
use Rattle.bits.specs.Bytes.{Byte}
use Rattle.bits.specs.CodecLaws.{enc_all, enc_along}
use Rattle.outcome.specs.Outcome.{given}
use Rattle.format.specs.Line.{Line, line, skeleton}
use Rattle.format.specs.Index.{Index, FitsList, FitsIndex, up, neighbours, index, index_block}
use Rattle.format.specs.Segments.{Segment, segment, segment_length, segments}
use Rattle.format.specs.View.{View, view}
use Rattle.format.specs.Record.{Record, FitsScale, tell_seen, size, Allowed}
use Rattle.format.specs.SheetSize.{line_size, list_size, index_size, segment_size, view_size, sheet_size}
use Rattle.format.specs.declared.Widths.{Widths}
use Rattle.format.specs.declared.Scale.{Scale}
use Rattle.format.proofs.Laws.Size.{view_length, views_length, write_long}
use Rattle.format.proofs.Laws.Call.{given_record}
use Rattle.format.proofs.Laws.Record.{read_back}
use Rattle.sheet.specs.Sheet.{sheet_of, reading}
use Rattle.find_parts.proofs.Laws.Line.{line_bits_lem}
use Rattle.find_parts.proofs.Laws.Lists.{all_long, list_bits_lem}
use Rattle.find_parts.proofs.Laws.Blocks.{skeleton_is}
use Rattle.find_parts.proofs.Laws.Index.{index_long}
use Rattle.sheet_bytes.proofs.Laws.Sizes.{rendered_size}
use Rattle.sheet_bytes.proofs.Laws.Rendered.{rendered}

-- ---- neighbours

list_room : (w l : ℕ) (ns : List ℕ) → 1 ≤ w → FitsList w l ns → 8 * list_size ns ≤ 7 * length ((neighbours w l).enc ns) + 48
list_room zero l ns h f = absurd (omega arith)
list_room (suc zero) l ns h f = let n : length ns < 2 = f.count in omega (arith, list_bits_lem 1 l ns)
list_room (suc (suc zero)) l ns h f = let n : length ns < 4 = f.count in omega (arith, list_bits_lem 2 l ns)
list_room (suc (suc (suc w))) l ns h f =
    let v : ℕ = suc (suc (suc w)) in
    let m : 3 ≤ v = omega arith in
    omega (arith, list_bits_lem v l ns, mul-le-mul_left (length ns) m)

lists_room : (w l : ℕ) (ls : List (List ℕ)) → 1 ≤ w → Along up (FitsList w) l ls
    → 8 * total list_size ls ≤ 7 * length (enc_along (neighbours w) up l ls) + 48 * length ls
lists_room w l [] h f = omega arith
lists_room w l (ns ∷ ls) h f =
    omega (arith, list_room w l ns h f.0, lists_room w (suc l) ls h f.1, length-append ((neighbours w l).enc ns) (enc_along (neighbours w) up (suc l) ls))

index_room : (n : ℕ) (o : Option Index) → (index_block n).Fits o → 8 * index_size o ≤ 7 * length ((index_block n).enc o) + 48 * n
unfolding index_block index
index_room n none f = omega arith
index_room n (some i) f =
    let k : FitsIndex n i = f in
    omega (arith, lists_room i.width 0 i.lists k.low k.lists, k.count, index_long n i)

-- ---- segments

segments_room : (gs : List Segment) → 8 * total segment_size gs ≤ 7 * length (enc_all segment gs)
segments_room [] = omega arith
segments_room (g ∷ gs) = omega (arith, segment_length g, segments_room gs, length-append (segment.enc g) (enc_all segment gs))

-- ---- lines, views, the record

module _ (w : Widths) (b : 4 ≤ w.b) (c : 1 ≤ w.c) (k : 2 ≤ w.k) where
  line_room : (l : Line) → 8 * line_size l + 48 ≤ 7 * length ((line w).enc l)
  line_room l = omega (arith, line_bits_lem w l, mul-le-mul_left (length l.codes) k)

  lines_room : (ls : List Line) → 8 * total line_size ls + 48 * length ls ≤ 7 * total (λ l. length ((line w).enc l)) ls
  lines_room [] = omega arith
  lines_room (l ∷ ls) = omega (arith, line_room l, lines_room ls)

  skeleton_room : (ls : List Line) → 8 * total line_size ls + 48 * length ls ≤ 7 * length ((skeleton w).enc ls)
  skeleton_room ls =
      let xs : Bits = enc_all (line w) ls in
      omega (arith, lines_room ls, all_long (line w) ls, ap length (skeleton_is w ls), length-append xs (zeros (pad (length xs))))

  view_room : (seen : List ℕ) (v : View) → (view w seen).Fits v → 8 * view_size v ≤ 7 * length ((view w seen).enc v)
  unfolding view segments
  view_room seen v f =
      omega (arith, view_length w seen v, skeleton_room v.lines, index_room (length v.lines) v.index f.1.0.1, segments_room v.segments)

  views_room : (seen : List ℕ) (vs : List View) → Along tell_seen (λ s v. (view w s).Fits v) seen vs
      → 8 * total view_size vs ≤ 7 * length (enc_along (view w) tell_seen seen vs)
  views_room seen [] f = omega arith
  views_room seen (v ∷ vs) f =
      omega (arith, view_room seen v f.0, views_room (tell_seen seen v) vs f.1, length-append ((view w seen).enc v) (enc_along (view w) tell_seen (tell_seen seen v) vs))

sheet_room : (r : Record) → Allowed r → sheet_size r ≤ 7 * size r
unfolding sheet_size
sheet_room r a =
    let s : Scale = r.head.scale in
    let f : FitsScale s = a.fits.head.scale in
    let w : Widths = s.widths in
    omega (arith, views_length r, views_room w (within_low 4 8 w.b f.b.1) (within_low 1 16 w.c f.c.1) (within_low 2 8 w.k f.k.1) [] r.views a.fits.views)

-- ---- reading

pub reading_room : (bytes sheet : List ℕ) → All Byte bytes → reading bytes ≡ given sheet → length sheet ≤ 7 * length bytes
unfolding reading
reading_room bytes sheet f e =
    given_record (λ r. given (sheet_of r)) bytes sheet e λ r rest p g.
    let (a, b, _) = read_back bytes r rest f p in
    let z : sheet ≡ sheet_of r = cc in
    omega (arith, ap length z ∙ ap length (rendered r a) ∙ rendered_size r, sheet_room r a, ap length b, write_long r)
