-- The laws of reading a card's object, in the order of the code: its shape, its lines, its index, and the record that it makes.
use mathlib.Core.Path.{◌≡◌, refl, sym, ap, ap₂, ◌∙◌, subst}
use Prim.Native.Nat.{ℕ, ◌+◌, ◌-◌, ◌*◌, ◌/◌, ◌%◌, ◌^◌, ◌≤◌, ◌<◌}
use native.Mathlib.Omega.{arith}
use native.Mathlib.Nat.{sub-zero}
use mathlib.Core.Option.{some}
use mathlib.Core.List.{List, [], ◌∷◌, ◌++◌, append_assoc, append-nil}
use lib.ListN.{length, drop, length-append, length-drop}
use lib.Dec.{leb, ltb, eqb, leb→le, le→leb}
use mir.Facts.{no_leb}
use Rattle.bits.specs.Choice.{pick}
use Rattle.bits.specs.ChoiceLaws.{pick_case, pick_yes, pick_no, within_high}
use Rattle.bits.specs.Lists.{All}
use Rattle.bits.specs.BitsLaws.{length_bits}
use Rattle.bits.specs.Bytes.{Byte, bits_of, bytes_of}
use Rattle.bits.specs.BytesLaws.{length_bits_of}
use Rattle.bits.specs.Codec as C
use Rattle.bits.proofs.BlockLaws.{many_from}
use Rattle.bits.specs.Reads.{found, fault, Reads}
use Rattle.bits.proofs.Laws.Reads.{keeping_got, keeping_refused}
use Rattle.bits.proofs.Laws.Parts.{part, part_length, part_bytes}
use Rattle.bits.proofs.Laws.Nested.{sifted_out, sifted_on}
use Rattle.put_bytes.specs.Laid.{Laid}
use Rattle.put_bytes.specs.HighFirst.{two, start}
use Rattle.outcome.specs.Refusals.{bad_line, too_many_lines, bad_object, too_long}
use Rattle.outcome.specs.Outcome.{Outcome, refused, given}
use Rattle.format.specs.Limits.{most_lines, most_bytes}
use Rattle.format.specs.Line.{line, skeleton}
use Rattle.format.specs.Index.{index_block}
use Rattle.format.specs.Segments.{segments}
use Rattle.format.specs.Record.{Record, FitsScale, size, write}
use Rattle.format.specs.Call.{from_read}
use Rattle.format.specs.declared.Widths.{Widths}
use Rattle.format.specs.declared.Scale.{Scale}
use Rattle.format.specs.declared.ViewHeader.{ViewHeader}
use Rattle.find_parts.specs.Stored.{head_bytes, scale_bytes, sized_out, header_out, record_out}
use Rattle.find_parts.proofs.Laws.Written.{written}
use Rattle.judge_blocks.specs.Answers.{index_dec}
use Rattle.card_lines.specs.Lines.{lines_dec}
use Rattle.card.specs.LengthParts.{bits_behind, parts_of_length}
use Rattle.card.specs.Length.{object_length}
use Rattle.card.specs.Object.{value_block}
use Rattle.card.specs.Size.{scale_of}
use Rattle.card.specs.Card.{Content, shape, content, card, view_of_card, record_of_card, record_given, card_read}
use Rattle.card.specs.Stored.{value_out}
use Rattle.card.proofs.Laws.Calls.{read_in_lem}
use Rattle.card.proofs.Laws.Fits.{scale_fits, value_bytes_lem, record_size, record_allowed}
use Rattle.card_shape.specs.Shape.{Bad, ShapeStands}
use Rattle.card_shape.specs.declared.Value.{Value}
use Rattle.card_shape.proofs.Laws.Object.{value_within, skeleton_of, index_of, skeleton_before, index_before, card_at, card_skeleton_bad, card_index_bad, value_good, card_good, shape_good}
use Rattle.card_reading.specs.Reading.{NarrowWidths, SmallScale, Carded, record_for, given_of}

-- ---- the judge

-- no shape: 27, at place 0
pub shapeless : (w : Widths) {o : List ℕ} → Bad shape.dec o → (card w).dec (bits_of o) ≡ C.refused bad_object (8 * length o - 0)
unfolding card
shapeless w {o} h = sifted_out shape (content w) h.reads.is ∙ ap (C.refused bad_object) (length_bits_of o ∙ sym (sub-zero (8 * length o)))

module _ (w : Widths) {o : List ℕ} {x : Value} (h : ShapeStands o x) where
  -- then what is read is the content
  on : (card w).dec (bits_of o) ≡ (content w).dec (bits_of o)
  unfolding card
  on = sifted_on shape (content w) (shape_good h).1

  -- how long the blocks are
  pub skeleton_long : length (skeleton_of h) ≡ x.index - (x.from + 6)
  skeleton_long = part_length o (x.from + 6) (x.index - (x.from + 6)) (omega (arith, value_within h, skeleton_before h, index_before h))

  pub index_long : length (index_of h) ≡ x.to - (x.index + 2)
  index_long = part_length o (x.index + 2) (x.to - (x.index + 2)) (omega (arith, value_within h, index_before h))

  pub lines_bad : {e q : ℕ} → Reads (lines_dec w) (skeleton_of h) 0 (fault e q) → ((card w).dec (bits_of o) ≡ C.refused e (8 * length o - (8 * (x.from + 6) + q))) × (8 * (x.from + 6) + q ≤ 8 * length o)
  unfolding content lines_dec
  lines_bad {e} {q} r =
      let y = card_skeleton_bad (skeleton w) (λ lines. index_block (length lines)) h (omega (arith, r.within, skeleton_long))
      (keeping_refused _ _ r.is ∙ ap (λ (n : ℕ). C.refused e (8 * n - q)) skeleton_long) in
      (on ∙ y.is, y.within)

  -- n lines are read
  module _ {n p : ℕ} (r : Reads (lines_dec w) (skeleton_of h) 0 (found n p)) where
    pub lines_few : n ≤ 1024
    unfolding lines_dec skeleton most_lines
    lines_few = keeping_got length ((skeleton w).dec (bits_of (skeleton_of h))) r.is λ ls d e. omega (arith, e, (many_from (line w) bad_line too_many_lines most_lines (bits_of (skeleton_of h)) ls (drop p (bits_of (skeleton_of h))) d).fits.most)

    pub index_bad : {e q : ℕ} → Reads (index_dec n) (index_of h) 0 (fault e q) → ((card w).dec (bits_of o) ≡ C.refused e (8 * length o - (8 * (x.index + 2) + q))) × (8 * (x.index + 2) + q ≤ 8 * length o)
    unfolding content lines_dec index_dec
    index_bad {e} {q} k =
        keeping_got _ _ r.is λ ls d l.
        let y = card_index_bad (skeleton w) (λ lines. index_block (length lines)) h d (omega (arith, k.within, index_long))
        (ap (λ (m : ℕ). (index_block m).dec (bits_of (index_of h))) l ∙ keeping_refused _ _ k.is ∙ ap (λ (m : ℕ). C.refused e (8 * m - q)) index_long) in
        (on ∙ y.is, y.within)

    -- and the index, so that the object is a content
    pub carded : {z q : ℕ} → All Byte o → Reads (index_dec n) (index_of h) 0 (found z q) → Carded w o x
    unfolding content lines_dec index_dec
    carded b k =
        keeping_got _ _ r.is λ ls d l.
        keeping_got _ _ k.is λ ix f _.
        let i = ap (λ (m : ℕ). (index_block m).dec (bits_of (index_of h))) l ∙ f in
        let y = card_good (skeleton w) (λ lines. index_block (length lines)) h d i in
        let v = value_good (skeleton w) (λ lines. index_block (length lines)) h d i in
        let bytes : List ℕ = part o x.from (x.to - x.from) in
        let fits = ((content w).back (bits_of o) (card_at h ls ix) (omega (arith, length_bits_of o)) y).0 in
        let bits = ((value_block (skeleton w) (λ lines. index_block (length lines))).back (bits_of bytes) _ (omega (arith, length_bits_of bytes)) v).1 in
        record {
          value = card_at h ls ix;
          reads = on ∙ y;
          ordered = omega (arith, skeleton_before h, index_before h);
          within = value_within h;
          bytes = value_bytes_lem w (card_at h ls ix) fits bytes (part_bytes o x.from (x.to - x.from) b) bits;
        }

-- ---- how large an object with a right shape can be

length_most : (n : ℕ) → length (object_length.enc n) ≤ 24
unfolding object_length
length_most n =
    let first = (parts_of_length n).0 in
    let z : bits_behind first ≤ 16 = pick_case (λ (k : ℕ). k ≤ 16) (ltb first 128) 0 _ (λ _. omega arith) (λ _. pick_case (λ (k : ℕ). k ≤ 16) (eqb first 0x81) 8 16 (λ _. omega arith) (λ _. omega arith)) in
    simp (length-append, length_bits) (omega arith)

length_below : (n : ℕ) → object_length.Fits n → n < 2 ^ 16
unfolding object_length
length_below n h = h

pub object_bounds : {o : List ℕ} {x : Value} → ShapeStands o x → (length o ≤ 65540) × (x.to ≤ x.from + 65535)
object_bounds {o} {x} h =
    let n = length o - h.a in
    let (f, e) = object_length.back (drop 16 (bits_of o)) n (drop (8 * h.a) (bits_of o)) h.counted.is in
    let l = ap length e in
    let m : 8 * length o - 16 ≡ length (object_length.enc n) + (8 * length o - 8 * h.a) = simp (length-drop, length_bits_of, length-append) at l in
    (omega (arith, length_below n f, m, length_most n, h.within), omega (arith, length_below n f, h.from, value_within h))

-- ---- the record that it makes

-- what a size's scale allows code to count on
pub narrow_scale : {s : Scale} → FitsScale s → NarrowWidths s.widths
narrow_scale {s} f = (within_high 4 8 s.widths.b f.b.1, within_high 1 16 s.widths.c f.c.1, within_high 2 8 s.widths.k f.k.1)

pub small_scale : {s : Scale} → FitsScale s → SmallScale s
small_scale f = record { points = f.points.0; c = f.c.0; b = f.b.0; k = f.k.0; step = f.step.0; ratio = f.ratio; half = f.half.0 }

-- two bytes as one number
as_pairs : (s : Scale) → SmallScale s
    → (start s.points (s.widths.c * 256 + s.widths.b) ++ two (s.widths.k * 256 + s.step)) ++ two (s.ratio * 256 + s.half) ≡ scale_bytes s
as_pairs s f =
    let pair : (a b : ℕ) → b < 256 → two (a * 256 + b) ≡ a ∷ b ∷ [] = λ a b h. (let x : (a * 256 + b) / 256 ≡ a = omega arith in let y : (a * 256 + b) % 256 ≡ b = omega arith in λ i. x i ∷ y i ∷ []) in
    ap₂ (λ (x y : List ℕ). s.points ∷ (x ++ y)) (pair s.widths.c s.widths.b f.b) (ap₂ (λ (x y : List ℕ). x ++ y) (pair s.widths.k s.step f.step) (pair s.ratio s.half f.half))

pub pairs_laid : {s : Scale} {before after : List ℕ} {n : ℕ} → SmallScale s
    → Laid ((start s.points (s.widths.c * 256 + s.widths.b) ++ two (s.widths.k * 256 + s.step)) ++ two (s.ratio * 256 + s.half)) before after n
    → Laid (scale_bytes s) before after n
pairs_laid {s} {before} {after} {n} f h = subst (λ (xs : List ℕ). Laid xs before after n) (as_pairs s f) h

module _ (scale : Scale) (c : Content) where
  abbrev w : Widths
  w = scale.widths

  abbrev skeleton_out : List ℕ
  skeleton_out = sized_out (skeleton w) c.skeleton

  abbrev index_out : List ℕ
  index_out = sized_out (index_block (length c.skeleton)) c.index

  no_segments : sized_out segments [] ≡ 0x00 ∷ 0x00 ∷ []
  unfolding segments bytes_of
  no_segments = refl

  -- its bytes, part by part
  record_parts : record_out (record_of_card scale c) ≡ record_for scale (value_out w c)
  unfolding record_out record_of_card
  record_parts =
      let head : ViewHeader = (view_of_card c).head in
      let front : ℕ → List ℕ → List ℕ = λ n t. header_out n (record { device = 0; scale = scale }) 1 ++ (head_bytes head ++ t) in
      let tail : (skeleton_out ++ (index_out ++ sized_out segments [])) ++ [] ≡ (skeleton_out ++ index_out) ++ (0x00 ∷ 0x00 ∷ []) =
      append-nil _ ∙ sym (append_assoc skeleton_out index_out (sized_out segments [])) ∙ ap (λ (t : List ℕ). (skeleton_out ++ index_out) ++ t) no_segments in
      ap₂ front (record_size scale c) tail

  pub given_record : {v : List ℕ} → FitsScale scale → (content w).Fits c → v ≡ value_out w c
      → record_given scale c ≡ given_of scale v
  given_record {v} f h e =
      let r : Record = record_of_card scale c in
      let n : size r ≡ 30 + length v = record_size scale c ∙ ap (λ (x : List ℕ). 30 + length x) (sym e) in
      pick_case (λ (o : Outcome ℕ). pick (leb (size r) most_bytes) (given (write r)) (refused too_long 0) ≡ o) (leb (size r) most_bytes) (given (record_for scale v)) (refused too_long 0)
      (λ t. pick_yes (leb (size r) most_bytes) _ _ t ∙ ap given (written r (record_allowed scale c f h (leb→le (size r) most_bytes t)) ∙ record_parts ∙ ap (record_for scale) (sym e)))
      (λ t. pick_no (leb (size r) most_bytes) _ _ t)
      ∙ ap (λ (k : ℕ). pick (leb k most_bytes) (given (record_for scale v)) (refused too_long 0)) n

-- ---- what is given of a value v

module _ (s : Scale) (v : List ℕ) where
  pub too_long_lem : 32768 - 30 < length v → given_of s v ≡ refused too_long 0
  unfolding most_bytes
  too_long_lem h = pick_no (leb (30 + length v) most_bytes) _ _ (no_leb {a = 30 + length v} (omega arith))

  pub short_enough : length v ≤ 32768 - 30 → given_of s v ≡ given (record_for s v)
  unfolding most_bytes
  short_enough h = pick_yes (leb (30 + length v) most_bytes) _ _ (le→leb (30 + length v) 32768 (omega arith))

  pub record_long : length (record_for s v) ≡ 30 + length v
  record_long = simp length-append (omega arith)

-- ---- the call

module _ (size_number : ℕ) (object : List ℕ) {scale : Scale} (known : scale_of size_number ≡ some scale) where
  pub not_read : {e p : ℕ} → (card scale.widths).dec (bits_of object) ≡ C.refused e (8 * length object - p) → p ≤ 8 * length object → card_read size_number object ≡ refused e p
  not_read {e} {p} d l = read_in_lem size_number known object ∙ ap (from_read (8 * length object) (record_given scale)) d ∙ ap (refused e) (omega arith)

  pub is_read : {x : Value} → (h : Carded scale.widths object x) → card_read size_number object ≡ given_of scale (part object x.from (x.to - x.from))
  unfolding card
  is_read h =
      let fits = ((card scale.widths).back (bits_of object) h.value (omega (arith, length_bits_of object)) h.reads).0 in
      read_in_lem size_number known object ∙ ap (from_read (8 * length object) (record_given scale)) h.reads ∙ given_record scale h.value (scale_fits size_number known) fits h.bytes
