-- Raw sheets and records go over into each other, where the values are right.
use mathlib.Core.Path.{◌≡◌, refl, ap₂}
use Prim.Native.Nat.{ℕ}
use mathlib.Core.Option
use mathlib.Core.Option.{Option, none, some}
use mathlib.Core.List.{List, [], ◌∷◌, map}
use Rattle.bits.specs.Lists.{All, Along}
use Rattle.bits.specs.ListsLaws.{all_front, all_rest, map_all}
use Rattle.bits.specs.Bits.{Bits}
use Rattle.bits.specs.Bytes.{Byte, bits_of}
use Rattle.bits.specs.Codec.{got}
use Rattle.bits.specs.CodecLaws.{next_got}
use Rattle.bits.specs.BlockBytes.{value_there, value_back}
use Rattle.format.specs.Index.{Index, up}
use Rattle.format.specs.View.{View, occurs}
use Rattle.format.specs.Record.{Record, tell_seen}
use Rattle.format.specs.declared.Widths.{Widths}
use Rattle.sheet.specs.Fields.{FitsField}
use Rattle.sheet.specs.Grammar.{RawView, RawSheet, one, index_fields, body_fields, views_fields, sheet_fields}
use Rattle.sheet.specs.Values.{header_value, view_head_value, line_value, width_value, list_value, segment_value}
use Rattle.sheet.specs.Sheet.{alike, each_dec, raw_index, raw_view, raw_views, raw_of, index_from, view_from, views_from, record_from}
use Rattle.sheet.proofs.Laws.Each.{each_there, each_back}

-- ---- right values

abbrev pub RightIndex : Option Index → Type 0
RightIndex none = Unit {0}
RightIndex (some i) = width_value.Fits i.width × Along up (λ l ns. (list_value i.width l).Fits ns) 0 i.lists

pub record RightView (w : Widths) (seen : List ℕ) (v : View) : Type 0 where
  pub head : (view_head_value (λ p. occurs p seen)).Fits v.head
  pub lines : Along alike (λ u l. (line_value w).Fits l) tt v.lines
  pub index : RightIndex v.index
  pub segments : Along alike (λ u g. segment_value.Fits g) tt v.segments

pub record RightValues (r : Record) : Type 0 where
  pub head : header_value.Fits r.head
  pub views : Along tell_seen (λ seen v. RightView r.head.scale.widths seen v) [] r.views

-- ---- values that are bytes

abbrev RawBytesIndex : Option (List ℕ × List (List ℕ)) → Type 0
RawBytesIndex none = Unit {0}
RawBytesIndex (some (w, ls)) = All Byte w × All (All Byte) ls

record RawBytes (v : RawView) : Type 0 where
  head : All Byte v.head
  lines : All (All Byte) v.lines
  index : RawBytesIndex v.index
  segments : All (All Byte) v.segments

values_of : (t : ℕ) (vs : List (List ℕ)) → All FitsField (map (one t) vs) → All (All Byte) vs
values_of t vs h = map_all (All Byte) FitsField (one t) vs (λ v f. f.value) h

index_bytes_lem : (o : Option (List ℕ × List (List ℕ))) → All FitsField (index_fields o) → RawBytesIndex o
index_bytes_lem none h = tt
index_bytes_lem (some i) h = (h.0.value, values_of 5 i.1 h.1)

view_bytes_lem : (v : RawView) → FitsField (one 2 v.head) → All FitsField (body_fields v) → RawBytes v
view_bytes_lem v f h =
    let t = all_rest FitsField (map (one 3) v.lines) _ h in
    record {
      head = f.value;
      lines = values_of 3 v.lines (all_front FitsField (map (one 3) v.lines) _ h);
      index = index_bytes_lem v.index (all_front FitsField (index_fields v.index) _ t);
      segments = values_of 6 v.segments (all_rest FitsField (index_fields v.index) _ t);
    }

views_bytes : (vs : List RawView) → All FitsField (views_fields vs) → All RawBytes vs
views_bytes [] h = tt
views_bytes (v ∷ vs) h =
    (view_bytes_lem v h.0 (all_front FitsField (body_fields v) (views_fields vs) h.1), views_bytes vs (all_rest FitsField (body_fields v) (views_fields vs) h.1))

-- ---- an index

index_there : (o : Option Index) → RightIndex o → index_from (Option.map raw_index o) ≡ got o []
index_there none h = refl
index_there (some i) h =
    rw (value_there width_value i.width h.0, each_there (list_value i.width) up 0 i.lists h.1)

index_back : (o : Option (List ℕ × List (List ℕ))) (i : Option Index) (r : Bits) → RawBytesIndex o → index_from o ≡ got i r
    → RightIndex i × (o ≡ Option.map raw_index i)
index_back none i r h p = let u : none ≡ i = cc in rw (← u) (tt, refl)
index_back (some (w, ls)) i r h p =
    next_got (width_value.dec (bits_of w)) _ p λ n q e h1.
    next_got (each_dec (list_value n) up 0 ls) _ h1 λ xs q2 e2 h2.
    let u : some (record { width = n; lists = xs }) ≡ i = cc in
    let (f, g) = value_back width_value w n q h.0 e in
    let (fs, gs) = each_back (list_value n) up 0 ls xs q2 h.1 e2 in
    rw (← u) ((f, fs), ap₂ (λ (x : List ℕ) (y : List (List ℕ)). some (x, y)) g gs)

-- ---- a view

module _ (w : Widths) (seen : List ℕ) where
  view_there : (v : View) → RightView w seen v → view_from w seen (raw_view w seen v) ≡ got v []
  unfolding view_from raw_view
  view_there v h =
      rw (
        value_there (view_head_value (λ p. occurs p seen)) v.head h.head,
        each_there (λ u. line_value w) alike tt v.lines h.lines,
        index_there v.index h.index,
        each_there (λ u. segment_value) alike tt v.segments h.segments,
      )

  view_back : (s : RawView) (v : View) (r : Bits) → RawBytes s → view_from w seen s ≡ got v r → RightView w seen v × (s ≡ raw_view w seen v)
  unfolding view_from raw_view
  view_back s v r b p =
      next_got ((view_head_value (λ p. occurs p seen)).dec (bits_of s.head)) _ p λ h q1 e1 h1.
      next_got (each_dec (λ u. line_value w) alike tt s.lines) _ h1 λ ls q2 e2 h2.
      next_got (index_from s.index) _ h2 λ i q3 e3 h3.
      next_got (each_dec (λ u. segment_value) alike tt s.segments) _ h3 λ gs q4 e4 h4.
      let u : record { head = h; lines = ls; index = i; segments = gs } ≡ v = cc in
      let (f1, g1) = value_back (view_head_value (λ p. occurs p seen)) s.head h q1 b.head e1 in
      let (f2, g2) = each_back (λ u. line_value w) alike tt s.lines ls q2 b.lines e2 in
      let (f3, g3) = index_back s.index i q3 b.index e3 in
      let (f4, g4) = each_back (λ u. segment_value) alike tt s.segments gs q4 b.segments e4 in
      rw (← u) (record { head = f1; lines = f2; index = f3; segments = f4 }, λ j. record { head = g1 j; lines = g2 j; index = g3 j; segments = g4 j })

-- ---- the views, and the record

views_there : (w : Widths) (seen : List ℕ) (vs : List View) → Along tell_seen (λ s v. RightView w s v) seen vs → views_from w seen (raw_views w seen vs) ≡ got vs []
views_there w seen [] h = refl
views_there w seen (v ∷ vs) h = rw (view_there w seen v h.0, views_there w (tell_seen seen v) vs h.1)

views_back : (w : Widths) (seen : List ℕ) (ss : List RawView) (vs : List View) (r : Bits) → All RawBytes ss → views_from w seen ss ≡ got vs r
    → Along tell_seen (λ s v. RightView w s v) seen vs × (ss ≡ raw_views w seen vs)
views_back w seen [] vs r b p = let u : [] ≡ vs = cc in rw (← u) (tt, refl)
views_back w seen (s ∷ ss) ws r b p =
    next_got (view_from w seen s) _ p λ v q e h1.
    next_got (views_from w (tell_seen seen v) ss) _ h1 λ vs q2 e2 h2.
    let u : (v ∷ vs) ≡ ws = cc in
    let (f, g) = view_back w seen s v q b.0 e in
    let (fs, gs) = views_back w (tell_seen seen v) ss vs q2 b.1 e2 in
    rw (← u) ((f, fs), ap₂ (λ (x : RawView) (y : List RawView). x ∷ y) g gs)

pub values_there : (r : Record) → RightValues r → record_from (raw_of r) ≡ got r []
unfolding record_from raw_of
values_there r h = rw (value_there header_value r.head h.head, views_there r.head.scale.widths [] r.views h.views)

pub values_back : (s : RawSheet) (r : Record) (q : Bits) → All FitsField (sheet_fields s) → record_from s ≡ got r q → RightValues r × (s ≡ raw_of r)
unfolding record_from raw_of
values_back s r q b p =
    next_got (header_value.dec (bits_of s.head)) _ p λ h q1 e1 h1.
    next_got (views_from h.scale.widths [] s.views) _ h1 λ vs q2 e2 h2.
    let u : record { head = h; views = vs } ≡ r = cc in
    let (f, g) = value_back header_value s.head h q1 b.0.value e1 in
    let (fs, gs) = views_back h.scale.widths [] s.views vs q2 (views_bytes s.views b.1) e2 in
    rw (← u) (record { head = f; views = fs }, λ j. record { head = g j; views = gs j })
