-- A segment, from the parts that code finds to where it stands in the record. It is a part of its block and so a part of the record,
-- and the lengths before it add up to its place. Numbers of two bytes are read off the bytes that are stored.
use mathlib.Core.Path.{◌≡◌, sym, ap, ap₂, ◌∙◌}
use Prim.Native.Nat.{ℕ, ◌+◌, ◌-◌, ◌*◌, ◌≤◌, ◌<◌}
use native.Mathlib.Omega.{arith}
use mathlib.Core.List.{List, [], ◌++◌, append_assoc}
use lib.ListN.{length, take, drop, get_or, length-drop}
use lib.Seq.{drop_at}
use Rattle.bits.specs.ChoiceLaws.{split}
use Rattle.bits.specs.Lists.{All}
use Rattle.bits.specs.ListsLaws.{first_left, along_at}
use Rattle.bits.specs.Bytes.{Byte}
use Rattle.bits.proofs.Laws.Parts.{part, part_bytes, part_part}
use Rattle.outcome.specs.Refusals.{no_segment}
use Rattle.format.specs.Segments.{Segment}
use Rattle.format.specs.View.{View, view_header, view}
use Rattle.format.specs.Record.{Record, tell_seen, size}
use Rattle.format.specs.Places.{no_view_there, no_segment_there, view_at, segment_at, bits_before, bits_ahead, segment_bits}
use Rattle.format.specs.Call.{in_segment, on_segment}
use Rattle.format.specs.declared.Scale.{Scale}
use Rattle.format.specs.declared.ViewName.{ViewName}
use Rattle.format.proofs.Laws.Record.{narrow, read_is, read_back}
use Rattle.format.proofs.Laws.Call.{no_segment_lem}
use Rattle.find_parts.specs.Stored.{head_bytes, blocks_out}
use Rattle.find_parts.specs.Finds.{LinesThere, LinesPassed, SegmentsLeft, SegmentsPassed}
use Rattle.find_parts.specs.declared.view.Blocks.{Blocks}
use Rattle.find_parts.specs.declared.Passed.{Passed}
use Rattle.find_parts.proofs.Laws.Apart.{ahead, behind, ahead_long, apart}
use Rattle.find_parts.proofs.Laws.Blocks.{cut, cut_long, block_bits, lines_there}
use Rattle.find_parts.proofs.Laws.Lines.{lines_counted}
use Rattle.find_parts.proofs.Laws.Segments.{two_there, SegmentAt, segment_next, segments_none, its_type, its_size, its_payload}
use Rattle.find_parts.proofs.Laws.Record.{record_apart}
use Rattle.find_parts.proofs.Laws.Written.{written}
use Rattle.find_view.specs.Found.{Stands, Refuses}
use Rattle.find_view.proofs.Laws.{its_lines}
use Rattle.find_segment.specs.Found.{SegmentStands, SpotThere, LinesOf, SegmentRefuses}
use Rattle.find_segment.specs.declared.Spot.{Spot}

-- ---- refused

module _ {s : List ℕ} {view : ViewName} (place : ℕ) where
  pub refused_view : {e p : ℕ} → Refuses s view e p → SegmentRefuses s view place e p
  unfolding on_segment
  refused_view h = record { is = λ f. h.is (in_segment place f) }

-- ---- where code stops in the extended block

module _ {s : List ℕ} {view : ViewName} {c : Scale} {x : Blocks} (h : Stands s view c x) (bytes : All Byte s) where
  abbrev r : Record
  r = h.value

  abbrev i : ℕ
  i = h.place

  abbrev v : View
  v = view_at r i

  abbrev first : ℕ
  first = x.extended.from

  abbrev block : List ℕ
  block = cut s x.extended.from x.extended.to

  -- the header's eight bytes stand before the skeleton's length
  header_is_lem : part s (x.skeleton.from - 10) 8 ≡ head_bytes v.head
  header_is_lem =
      let (a, b, _) = read_back s r [] bytes h.reads in
      let front : List ℕ = ahead r i (size r) in
      let rest : List ℕ = blocks_out r.head.scale.widths v ++ behind r i in
      let e : s ≡ front ++ (head_bytes v.head ++ rest) =
      b ∙ written r a ∙ apart r i h.means.there ∙ ap (λ (xs : List ℕ). front ++ xs) (append_assoc (head_bytes v.head) (blocks_out r.head.scale.widths v) (behind r i)) in
      let n : length front ≡ x.skeleton.from - 10 = omega (arith, ahead_long r i (size r), h.blocks.before) in
      ap (λ (xs : List ℕ). part xs (x.skeleton.from - 10) 8) e
      ∙ ap (take 8) (drop_at front (head_bytes v.head ++ rest) (x.skeleton.from - 10) n)

  -- the two numbers of the image are the last of it
  pub far : 34 ≤ x.skeleton.from
  far = omega (arith, h.blocks.before)

  pub lines_within : x.skeleton.from ≤ length s
  lines_within = omega (arith, h.blocks.lines.from, h.blocks.lines.within)

  pub its_width : get_or s (x.skeleton.from - 6) 0 * 256 + get_or s (x.skeleton.from - 6 + 1) 0 ≡ v.head.width
  its_width =
      let z : x.skeleton.from - 10 + 4 ≡ x.skeleton.from - 6 = omega (arith, far) in
      two_there s (x.skeleton.from - 6) v.head.width
      (ap (λ (a : ℕ). part s a 2) (sym z) ∙ sym (part_part s (x.skeleton.from - 10) 8 4 2 (omega (arith, far, lines_within)) (omega arith)) ∙ ap (λ (xs : List ℕ). part xs 4 2) header_is_lem)

  pub its_height : get_or s (x.skeleton.from - 4) 0 * 256 + get_or s (x.skeleton.from - 4 + 1) 0 ≡ v.head.height
  its_height =
      let z : x.skeleton.from - 10 + 6 ≡ x.skeleton.from - 4 = omega (arith, far) in
      two_there s (x.skeleton.from - 4) v.head.height
      (ap (λ (a : ℕ). part s a 2) (sym z) ∙ sym (part_part s (x.skeleton.from - 10) 8 6 2 (omega (arith, far, lines_within)) (omega arith)) ∙ ap (λ (xs : List ℕ). part xs 6 2) header_is_lem)

  -- the bits before the block
  extended_bits : 8 * first ≡ bits_before r i + bits_ahead r.head.scale.widths v
  extended_bits =
      let b = h.blocks in
      omega (arith, b.before, block_bits b.lines, b.lines.from, b.next, block_bits b.index, b.index.from, b.last)

  block_bytes : All Byte block
  block_bytes = part_bytes s first (x.extended.to - first) bytes

  module _ {place : ℕ} {p : Passed} (P : SegmentsPassed block place p) where
    left : (p.count ≤ length v.segments) × SegmentsLeft block p.next (drop p.count v.segments) []
        × (8 * p.next ≡ segment_bits (take p.count v.segments))
    left = P.is v.segments [] h.blocks.segments.value

    pub not_there : length block ≤ p.next → SegmentRefuses s view place no_segment 0
    not_there k =
        let z : length v.segments - p.count ≡ 0 = sym (length-drop p.count v.segments) ∙ ap length (segments_none block_bytes left.1 k) in
        record { is = λ f. no_segment_lem view place f s h.reads h.means (omega (arith, P.upto)) }

    module _ (k : p.next < length block) where
      here : SegmentAt block p.next (drop p.count v.segments) []
      here = segment_next block_bytes left.1 k

      count_is : p.count ≡ place
      count_is = split place p.count (λ k. omega (arith, P.upto)) (λ l. absurd (omega (arith, P.all l, k)))

      is_there : (place < length v.segments) × (here.value ≡ segment_at v place)
      is_there =
          let (k, e, _) = first_left v.segments p.count no_segment_there here.is in
          (omega (arith, count_is), e ∙ ap (segment_at v) count_is)

      -- all of it is in the record, and a part of the block is a part of the record
      within : first + p.next + (4 + length here.value.payload) ≤ x.extended.to
      within = omega (arith, here.there.within, cut_long h.blocks.segments, h.blocks.segments.from)

      in_record : (a n : ℕ) → a + n ≤ 4 + length here.value.payload → part block (p.next + a) n ≡ part s (first + p.next + a) n
      in_record a n l =
          let e = h.blocks.segments in
          let z : first + (p.next + a) ≡ first + p.next + a = omega arith in
          part_part s first (x.extended.to - first) (p.next + a) n (omega (arith, e.from, e.within)) (omega (arith, within, cut_long e)) ∙ ap (λ (m : ℕ). part s m n) z

      kind_is : get_or s (first + p.next) 0 * 256 + get_or s (first + p.next + 1) 0 ≡ here.value.kind
      kind_is =
          let z : p.next + 0 ≡ p.next = omega arith in
          let y : first + p.next + 0 ≡ first + p.next = omega arith in
          two_there s (first + p.next) here.value.kind
          (ap (λ (m : ℕ). part s m 2) (sym y) ∙ sym (in_record 0 2 (omega arith)) ∙ ap (λ (m : ℕ). part block m 2) z ∙ its_type here)

      length_is : get_or s (first + p.next + 2) 0 * 256 + get_or s (first + p.next + 2 + 1) 0 ≡ 4 + length here.value.payload
      length_is = two_there s (first + p.next + 2) (4 + length here.value.payload) (sym (in_record 2 2 (omega arith)) ∙ its_size here)

      -- there are four bytes of it; n is its length, as code reads it
      pub four_there : first + p.next + 4 ≤ length s
      four_there = omega (arith, within, h.blocks.segments.within)

      pub all_there : {n : ℕ} → n ≡ get_or s (first + p.next + 2) 0 * 256 + get_or s (first + p.next + 2 + 1) 0 → first + p.next + n ≤ length s
      all_there e = omega (arith, e, length_is, within, h.blocks.segments.within)

      pub segment_there : {n width height kind : ℕ} → n ≡ get_or s (first + p.next + 2) 0 * 256 + get_or s (first + p.next + 2 + 1) 0
          → width ≡ get_or s (x.skeleton.from - 6) 0 * 256 + get_or s (x.skeleton.from - 6 + 1) 0
          → height ≡ get_or s (x.skeleton.from - 4) 0 * 256 + get_or s (x.skeleton.from - 4 + 1) 0
          → kind ≡ get_or s (first + p.next) 0 * 256 + get_or s (first + p.next + 1) 0
          → SegmentStands s view place (record {
            image = record { width = width; height = height };
            widths = c.widths;
            skeleton = x.skeleton;
            extended = x.extended;
            kind = kind;
            payload = record { from = first + p.next + 4; to = first + p.next + n };
          })
      segment_there {n} {width} {height} {kind} en ew eh ek =
          let m : n ≡ 4 + length here.value.payload = en ∙ length_is in
          let g : here.value ≡ segment_at v place = is_there.1 in
          let z : first + p.next + n - (first + p.next + 4) ≡ length here.value.payload = omega arith in
          record {
            value = r;
            reads = h.reads;
            i = i;
            means = h.means;
            at = record {
              there = h.means.there;
              below = is_there.0;
              image = ap₂ (λ (a b : ℕ). record { width = a; height = b }) (ew ∙ its_width) (eh ∙ its_height);
              widths = ap (λ (y : Scale). y.widths) h.scale;
              lines = its_lines h;
              kind = ek ∙ kind_is ∙ ap (λ (y : Segment). y.kind) g;
              before = extended_bits;
              extended = h.blocks.segments;
              first = omega (arith, extended_bits, left.2, ap (λ (n : ℕ). segment_bits (take n v.segments)) count_is);
              end = omega (arith, m, ap (λ (y : Segment). length y.payload) g);
              inside = omega (arith, m, within);
              is = ap (λ (n : ℕ). part s (first + p.next + 4) n) z ∙ sym (in_record 4 (length here.value.payload) (omega arith)) ∙ its_payload here ∙ ap (λ (y : Segment). y.payload) g;
            };
          }

-- ---- what a segment that is found brings with it

module _ {s : List ℕ} {name : ViewName} {place : ℕ} {x : Spot} (h : SegmentStands s name place x) where
  -- the payload's part is within the record, which is short
  pub bounds : (x.payload.from ≤ x.payload.to) × (x.payload.to ≤ length s) × (length s ≤ 32768)
  bounds = let a = h.at in (omega (arith, a.end), omega (arith, a.inside, a.extended.within), (record_apart s h.reads).short)

  -- a view's header has 16 bits for each number of the image
  pub small_image : (x.image.width < 65536) × (x.image.height < 65536)
  unfolding view view_header
  small_image =
      let r : Record = h.value in
      let (_, f) = along_at tell_seen (λ s v. (view r.head.scale.widths s).Fits v) no_view_there [] r.views h.i h.at.there (read_is s r [] h.reads).0.fits.views in
      rw h.at.image (f.0.0.0.width, f.0.0.0.height)

-- ---- the lines of its view

module _ {s : List ℕ} {x : Spot} where
  -- they can be counted
  pub view_lines : SpotThere s x → LinesThere x.widths (cut s x.skeleton.from x.skeleton.to)
  view_lines t =
      let h = t.stands in
      let a = record_apart s h.reads in
      lines_there (rw h.at.widths (narrow a.fits)) a.short h.at.lines

  pub lines_are : {p : Passed} → LinesPassed x.widths (cut s x.skeleton.from x.skeleton.to) 1024 p → LinesOf s x p.count
  lines_are P = record { is = λ r i place a. lines_counted a.lines P }
