-- Views and records: allowed by the record's rules, right by the sheet's; and the fields of an allowed record's sheet fit.
use mathlib.Core.Path.{◌≡◌, refl, ap}
use Prim.Native.Nat.{ℕ, suc, ◌+◌, ◌*◌, ◌^◌, ◌≤◌, ◌<◌}
use native.Mathlib.Omega.{arith}
use mathlib.Core.Bool.{Bool}
use mathlib.Core.Option
use mathlib.Core.Option.{Option, none, some}
use mathlib.Core.List.{List, [], ◌∷◌, map}
use lib.ListN.{length, length-append}
use lib.Dec.{T, leb, eqb, leb→le, le→leb}
use mir.Facts.{and_yes, yes_and, yes_eqb}
use Rattle.bits.specs.Choice.{within}
use Rattle.bits.specs.ChoiceLaws.{within_high}
use Rattle.bits.specs.Lists.{All, Along, every}
use Rattle.bits.specs.ListsLaws.{all_true_lem, true_all, every_yes, all_append, all_map, along_map, all_along}
use Rattle.bits.specs.Bytes.{Byte, in_bytes}
use Rattle.bits.specs.Block.{Block}
use Rattle.bits.specs.CodecLaws.{enc_all, enc_along}
use Rattle.bits.specs.BlockBytes.{value_bytes_lem}
use Rattle.format.specs.Limits.{most_lines, most_bytes}
use Rattle.format.specs.Line.{FitsLine, line, skeleton}
use Rattle.differences.proofs.DifferencesLaws.{falls_count}
use Rattle.format.specs.Index.{Index, FitsList, index, index_block, up}
use Rattle.format.specs.Segments.{Segment, FitsSegment, segment, segment_length, segments}
use Rattle.format.specs.View.{View, view, view_header, occurs}
use Rattle.format.specs.Record.{Record, Narrow, FitsRecord, Allowed, tell_seen, size}
use Rattle.format.proofs.Laws.Record.{narrow}
use Rattle.format.specs.declared.Widths.{Widths}
use Rattle.format.proofs.Laws.Size.{view_length, views_length}
use Rattle.sheet.specs.Fields.{FitsField}
use Rattle.sheet.specs.Grammar.{one, index_fields, body_fields, views_fields, sheet_fields, index_shape, view_shape, sheet_shape, RawView}
use Rattle.sheet.specs.Values.{header_value, view_head_value, line_value, width_value, list_value, segment_value}
use Rattle.sheet.specs.Sheet.{alike, each_enc, raw_index, raw_view, raw_views, raw_of}
use Rattle.sheet.proofs.Laws.Each.{each_make, length_each}
use Rattle.sheet.proofs.Laws.Lengths.{length_header, length_view_head, length_line, length_width, length_list, length_segment}
use Rattle.sheet.proofs.Laws.Values.{RightView, RightValues}
use Rattle.sheet.proofs.Laws.Fits.{line_shape, lines_value, lines_shape, lines_fit, index_value, index_fits, index_shape_lem}

-- ---- segments

abbrev segment_shape : List ℕ → Bool
segment_shape g = leb 2 (length g)

abbrev written_segments : List Segment → List (List ℕ)
written_segments gs = each_enc (λ u. segment_value) alike tt gs

segments_value : (gs : List Segment) → All FitsSegment gs → Along alike (λ u g. segment_value.Fits g) tt gs
unfolding segment_value
segments_value [] h = tt
segments_value (g ∷ gs) h = (record { kind = h.0.kind; payload = h.0.payload }, segments_value gs h.1)

segments_shape : (gs : List Segment) → T (every segment_shape (written_segments gs))
segments_shape gs = every_yes segment_shape (written_segments gs) (go gs)
  where
    go : (gs : List Segment) → All (λ v. T (segment_shape v)) (written_segments gs)
    go [] = tt
    go (g ∷ gs) = (le→leb 2 (length (in_bytes (segment_value.enc g))) (omega (arith, length_segment g)), go gs)

-- a segment that is in a record is short enough for its length field
segments_fit : (gs : List Segment) → length (enc_all segment gs) ≤ 8 * 32768 → Along alike (λ u g. segment_value.Fits g) tt gs → All FitsSegment gs
unfolding segment_value
segments_fit [] l h = tt
segments_fit (g ∷ gs) l h =
    let z : length (segment.enc g) + length (enc_all segment gs) ≤ 8 * 32768 = rw length-append at l in
    (record { kind = h.0.kind; length = omega (arith, segment_length g); payload = h.0.payload }, segments_fit gs (omega arith) h.1)

-- ---- a view

module _ (w : Widths) (seen : List ℕ) (v : View) where
  view_right_lem : Narrow w → (view w seen).Fits v → RightView w seen v
  unfolding view view_header skeleton line segments segment view_head_value
  view_right_lem n f =
      record {
        head = f.0.0.0;
        lines = lines_value w v.lines n f.0.1.all;
        index = index_value (length v.lines) v.index f.0.1.most f.1.0.1;
        segments = segments_value v.segments f.1.1.1;
      }

  abbrev raw : RawView
  raw = raw_view w seen v

  abbrev shape_tests : List Bool
  shape_tests =
      eqb (length raw.head) 8 ∷ every line_shape raw.lines ∷ leb (length raw.lines) most_lines ∷ index_shape (length raw.lines) raw.index
      ∷ every segment_shape raw.segments ∷ []

  as_many : length raw.lines ≡ length v.lines
  unfolding raw_view
  as_many = length_each (λ u. line_value w) alike tt v.lines

  view_shape_lem : (view w seen).Fits v → T (view_shape raw)
  unfolding view view_header skeleton line raw_view
  view_shape_lem f =
      true_all shape_tests (
        yes_eqb (length_view_head (λ p. occurs p seen) v.head),
        (
          lines_shape w v.lines f.0.1.all,
          (
            le→leb (length raw.lines) most_lines (omega (arith, f.0.1.most, as_many)),
            (rw as_many (index_shape_lem (length v.lines) v.index f.1.0.1), (segments_shape v.segments, tt)),
          ),
        ),
      )

  view_fits : RightView w seen v → T (view_shape raw) → length ((view w seen).enc v) ≤ 8 * 32768 → (view w seen).Fits v
  unfolding view view_header skeleton line segments segment raw_view view_head_value
  view_fits h s l =
      let t = all_true_lem shape_tests s in
      let z = view_length w seen v in
      let m : length v.lines ≤ most_lines = omega (arith, leb→le (length raw.lines) most_lines t.1.1.0, as_many) in (
        ((h.head, omega arith), record { most = m; all = lines_fit w v.lines h.lines t.1.0 }),
        ((omega arith, index_fits (length v.lines) v.index h.index (rw as_many at t.1.1.1.0)), (omega arith, segments_fit v.segments (omega arith) h.segments)),
      )

-- ---- the fields of a view

-- a value that fits a field
record Small (v : List ℕ) : Type 0 where
  length : length v < 2 ^ 16
  bytes : All Byte v

field_of : (t : ℕ) (v : List ℕ) → t < 2 ^ 8 → Small v → FitsField (one t v)
field_of t v l s = record { tag = l; length = s.length; value = s.bytes }

small : {A : Type 0} (b : Block A) (a : A) → length (in_bytes (b.enc a)) < 2 ^ 16 → Small (in_bytes (b.enc a))
small b a l = record { length = l; bytes = value_bytes_lem b a }

fields_of : (t : ℕ) (vs : List (List ℕ)) → t < 2 ^ 8 → All Small vs → All FitsField (map (one t) vs)
fields_of t vs l h = all_map FitsField Small (one t) vs (λ v s. field_of t v l s) h

-- a list has at most as many neighbours as there are lines
lists_small : (w k l : ℕ) (ls : List (List ℕ)) → l + length ls ≤ k → k ≤ 1024 → Along up (FitsList w) l ls → All Small (each_enc (list_value w) up l ls)
lists_small w k l [] b s h = tt
lists_small w k l (ns ∷ ls) b s h =
    (small (list_value w l) ns (omega (arith, length_list w l ns, falls_count 0 l ns (omega arith) h.0.falls)), lists_small w k (suc l) ls (omega arith) s h.1)

index_fields_lem : (n : ℕ) (o : Option Index) → n ≤ 1024 → (index_block n).Fits o → All FitsField (index_fields (Option.map raw_index o))
unfolding index_block index
index_fields_lem n none l f = tt
index_fields_lem n (some i) l f = (
  field_of 4 (in_bytes (width_value.enc i.width)) (omega arith) (small width_value i.width (omega (arith, length_width i.width))),
  fields_of 5 (raw_index i).1 (omega arith) (lists_small i.width n 0 i.lists (omega (arith, f.count)) l f.lists),
)

body_fields_lem : (w : Widths) (seen : List ℕ) (v : View) → (view w seen).Fits v → All FitsField (body_fields (raw_view w seen v))
unfolding view view_header skeleton line most_lines segments segment raw_view
body_fields_lem w seen v f =
    all_append FitsField (map (one 3) (raw_view w seen v).lines) _
    (fields_of 3 (raw_view w seen v).lines (omega arith) (each_make (λ u. line_value w) alike Small tt v.lines
    (along_map alike (λ u l. FitsLine w l) _ tt v.lines (λ u l h. small (line_value w) l (omega (arith, length_line w l, h.count)))
    (all_along alike (FitsLine w) tt v.lines f.0.1.all))))
    (all_append FitsField (index_fields (Option.map raw_index v.index)) _ (index_fields_lem (length v.lines) v.index f.0.1.most f.1.0.1)
    (fields_of 6 (raw_view w seen v).segments (omega arith) (each_make (λ u. segment_value) alike Small tt v.segments
    (along_map alike (λ u g. FitsSegment g) _ tt v.segments (λ u g h. small segment_value g (omega (arith, length_segment g, h.length)))
    (all_along alike FitsSegment tt v.segments f.1.1.1)))))

-- ---- the views

module _ (w : Widths) where
  abbrev Views : List ℕ → List View → Type 0
  Views seen vs = Along tell_seen (λ s v. (view w s).Fits v) seen vs

  views_right_lem : (seen : List ℕ) (vs : List View) → Narrow w → Views seen vs → Along tell_seen (λ s v. RightView w s v) seen vs
  views_right_lem seen vs n h = along_map tell_seen (λ s v. (view w s).Fits v) (λ s v. RightView w s v) seen vs (λ s v f. view_right_lem w s v n f) h

  views_shape : (seen : List ℕ) (vs : List View) → Views seen vs → T (every view_shape (raw_views w seen vs))
  views_shape seen [] h = tt
  views_shape seen (v ∷ vs) h = yes_and (view_shape (raw_view w seen v)) _ (view_shape_lem w seen v h.0) (views_shape (tell_seen seen v) vs h.1)

  views_fields_lem : (seen : List ℕ) (vs : List View) → Views seen vs → All FitsField (views_fields (raw_views w seen vs))
  unfolding raw_view
  views_fields_lem seen [] h = tt
  views_fields_lem seen (v ∷ vs) h = (
    field_of 2 _ (omega arith) (small (view_head_value (λ p. occurs p seen)) v.head (omega (arith, length_view_head (λ p. occurs p seen) v.head))),
    all_append FitsField (body_fields (raw_view w seen v)) _ (body_fields_lem w seen v h.0) (views_fields_lem (tell_seen seen v) vs h.1),
  )

  views_fit : (seen : List ℕ) (vs : List View) → Along tell_seen (λ s v. RightView w s v) seen vs → T (every view_shape (raw_views w seen vs))
      → length (enc_along (view w) tell_seen seen vs) ≤ 8 * 32768 → Views seen vs
  views_fit seen [] h t l = tt
  views_fit seen (v ∷ vs) h t l =
      let (a, b) = and_yes (view_shape (raw_view w seen v)) _ t in
      let z : length ((view w seen).enc v) + length (enc_along (view w) tell_seen (tell_seen seen v) vs) ≤ 8 * 32768 = rw length-append at l in
      (view_fits w seen v h.0 a (omega arith), views_fit (tell_seen seen v) vs h.1 b (omega arith))

  length_views : (seen : List ℕ) (vs : List View) → length (raw_views w seen vs) ≡ length vs
  length_views seen [] = refl
  length_views seen (v ∷ vs) = ap suc (length_views (tell_seen seen v) vs)

-- ---- the record

abbrev record_tests : Record → List Bool
record_tests r = eqb (length (raw_of r).head) 9 ∷ within 1 255 (length (raw_of r).views) ∷ every view_shape (raw_of r).views ∷ []

module _ (r : Record) (f : FitsRecord r) where
  pub record_right : RightValues r
  unfolding header_value
  record_right = record { head = f.head; views = views_right_lem r.head.scale.widths [] r.views (narrow f.head) f.views }

  pub record_shape : T (sheet_shape (raw_of r))
  unfolding raw_of
  record_shape =
      let n = length_views r.head.scale.widths [] r.views in
      true_all (record_tests r)
      (yes_eqb (length_header r.head), (rw n f.count.1, (views_shape r.head.scale.widths [] r.views f.views, tt)))

  pub record_fields : All FitsField (sheet_fields (raw_of r))
  unfolding raw_of
  record_fields =
      (field_of 1 _ (omega arith) (small header_value r.head (omega (arith, length_header r.head))), views_fields_lem r.head.scale.widths [] r.views f.views)

pub record_allowed : (r : Record) → RightValues r → T (sheet_shape (raw_of r)) → size r ≤ most_bytes → Allowed r
unfolding raw_of header_value most_bytes
record_allowed r h s l =
    let t = all_true_lem (record_tests r) s in
    let n = length_views r.head.scale.widths [] r.views in
    let c : T (within 1 255 (length r.views)) = rw n at t.1.0 in
    record {
      fits = record {
        head = h.head;
        count = (omega (arith, within_high 1 255 (length r.views) c), c);
        views = views_fit r.head.scale.widths [] r.views h.views t.1.1.0 (omega (arith, views_length r));
      };
      small = l;
    }
