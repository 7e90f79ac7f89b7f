-- What stays, in bytes, where a payload is rewritten. Both records are the same parts one behind the other, but for three lengths and
-- the payload; so each part is found at its place in both.
use mathlib.Core.Path.{◌≡◌, sym, ap, ◌∙◌}
use Prim.Native.Nat.{ℕ, ◌+◌, ◌-◌, ◌*◌, ◌<◌}
use native.Mathlib.Omega.{arith}
use mathlib.Core.List.{List, [], ◌∷◌, ◌++◌, append_assoc}
use lib.ListN.{length, take, drop, length-append}
use lib.Seq.{slice, take_at, drop_at}
use Rattle.bits.specs.Lists.{All}
use Rattle.bits.specs.Bytes.{Byte, in_bytes}
use Rattle.bits.specs.Codec.{got}
use Rattle.put_bytes.specs.HighFirst.{two}
use Rattle.format.specs.Line.{skeleton}
use Rattle.format.specs.Index.{index_block}
use Rattle.format.specs.Segments.{Segment}
use Rattle.format.specs.View.{View}
use Rattle.format.specs.Record.{Record, read, write, Allowed}
use Rattle.format.specs.Places.{view_at, segment_at, bits_before, bits_ahead}
use Rattle.format.specs.declared.Widths.{Widths}
use Rattle.format.proofs.Laws.Record.{read_back, read_there}
use Rattle.find_parts.proofs.Laws.Apart.{slice_at, ahead, behind, ahead_long}
use Rattle.find_parts.proofs.Laws.Blocks.{block_long}
use Rattle.find_parts.proofs.Laws.Written.{written}
use Rattle.put_record.proofs.Laws.{is_stored}
use Rattle.rewrite.specs.Rewrite.{rewritten}
use Rattle.rewrite.specs.Bytes.{extended_byte, payload_byte, Rewrites}
use Rattle.rewrite.proofs.Laws.Bytes.{before, after, segments_long, shift, middle, upto, old_apart, new_apart}

to_payload : (a b c payload rest : List ℕ) → a ++ (b ++ ((c ++ payload) ++ rest)) ≡ ((a ++ b) ++ c) ++ (payload ++ rest)
to_payload a b c payload rest = simp append_assoc

-- ---- a record of n bytes, taken apart around the segment g of its view; the extended length is m

module _ (r : Record) (i place : ℕ) where
  abbrev w : Widths
  w = r.head.scale.widths

  abbrev v : View
  v = view_at r i

  abbrev e : ℕ
  e = extended_byte i r

  abbrev first : ℕ
  first = payload_byte i place r

  middle_long : length (middle w v place) ≡ 12 + length (in_bytes ((skeleton w).enc v.lines)) + length (in_bytes ((index_block (length v.lines)).enc v.index))
  middle_long = simp length-append (omega arith)

  e_is : (n : ℕ) → length (ahead r i n) + length (middle w v place) ≡ e
  e_is n = omega (arith, middle_long, ahead_long r i n, block_long (skeleton w) v.lines, block_long (index_block (length v.lines)) v.index)

  bits_are : (n : ℕ) → 8 * (e + 2) ≡ bits_before r i + bits_ahead w v
  bits_are n = omega (arith, middle_long, ahead_long r i n, block_long (skeleton w) v.lines, block_long (index_block (length v.lines)) v.index)

  first_is : e + 6 + length (before v.segments place) ≡ first
  first_is = omega (arith, bits_are 0, segments_long (take place v.segments))

  module _ (n m : ℕ) (g : Segment) {s : List ℕ} (is : s ≡ ahead r i n ++ (middle w v place ++ (upto w v place m g ++ (after v.segments place ++ behind r i)))) where
    abbrev x : List ℕ
    x = before v.segments place ++ two g.kind

    abbrev rest : List ℕ
    rest = after v.segments place ++ behind r i

    front_of_lem : slice 0 8 s ≡ 0x46 ∷ 0x53 ∷ 0x4B ∷ 0x00 ∷ 0x30 ∷ 0x31 ∷ 0x30 ∷ 0x00 ∷ []
    front_of_lem = ap (slice 0 8) is

    fields_of : slice 12 e s ≡ drop 12 (ahead r i 0 ++ middle w v place)
    fields_of =
        let more : List ℕ = upto w v place m g ++ rest in
        ap (slice 12 e) (is ∙ sym (append_assoc (ahead r i n) (middle w v place) more))
        ∙ ap (drop 12) (take_at (ahead r i n ++ middle w v place) more e (length-append (ahead r i n) (middle w v place) ∙ e_is n))

    before_of : slice (e + 2) (first - 2) s ≡ x
    before_of =
        let front : List ℕ = (ahead r i n ++ middle w v place) ++ two m in
        let y : length front ≡ e + 2 = omega (arith, e_is n, length-append (ahead r i n ++ middle w v place) (two m), length-append (ahead r i n) (middle w v place)) in
        let z : length x ≡ length (before v.segments place) + 2 = omega (arith, length-append (before v.segments place) (two g.kind)) in
        ap (slice (e + 2) (first - 2)) (is ∙ shift (ahead r i n) (middle w v place) (two m) x (two (4 + length g.payload)) g.payload rest)
        ∙ slice_at front x ((two (4 + length g.payload) ++ g.payload) ++ rest) (e + 2) (first - 2) y (omega (arith, y, z, first_is))

    -- all that stands before the payload
    abbrev far : List ℕ
    far = (ahead r i n ++ middle w v place) ++ ((two m ++ x) ++ two (4 + length g.payload))

    far_long : length far ≡ first
    far_long =
        let z : length ((two m ++ x) ++ two (4 + length g.payload)) ≡ 6 + length (before v.segments place) = simp length-append (omega arith) in
        omega (arith, z, e_is n, first_is, length-append (ahead r i n ++ middle w v place) ((two m ++ x) ++ two (4 + length g.payload)), length-append (ahead r i n) (middle w v place))

    is_far : s ≡ far ++ (g.payload ++ rest)
    is_far = is ∙ to_payload (ahead r i n) (middle w v place) ((two m ++ x) ++ two (4 + length g.payload)) g.payload rest

    inside_of : slice first (first + length g.payload) s ≡ g.payload
    inside_of = ap (slice first (first + length g.payload)) is_far ∙ slice_at far g.payload rest first (first + length g.payload) far_long (omega (arith, far_long))

    behind_of : drop (first + length g.payload) s ≡ rest
    behind_of =
        ap (drop (first + length g.payload)) (is_far ∙ sym (append_assoc far g.payload rest))
        ∙ drop_at (far ++ g.payload) rest (first + length g.payload) (omega (arith, far_long, length-append far g.payload))

-- ---- the two records

module _ (i place : ℕ) (payload : List ℕ) (r : Record) (l : i < length r.views) (k : place < length (view_at r i).segments) where
  pub rewrites : {bytes : List ℕ} → All Byte bytes → read bytes ≡ got r [] → Allowed (rewritten i place payload r)
      → Rewrites i place payload r bytes (write (rewritten i place payload r))
  rewrites {bytes} b d ok =
      let (a, _, _) = read_back bytes r [] b d in
      let x : Record = rewritten i place payload r in
      let o : Segment = segment_at (view_at r i) place in
      let g : Segment = record { kind = o.kind; payload = payload } in
      let p = is_stored b d ∙ old_apart i place payload r l k a ok in
      let q = written x ok ∙ new_apart i place payload r l k a ok in
      record {
        allowed = ok;
        reads = read_there x ok;
        front = front_of_lem r i place _ _ g q ∙ sym (front_of_lem r i place _ _ o p);
        fields = fields_of r i place _ _ g q ∙ sym (fields_of r i place _ _ o p);
        before = before_of r i place _ _ g q ∙ sym (before_of r i place _ _ o p);
        inside = inside_of r i place _ _ g q;
        behind = behind_of r i place _ _ g q ∙ sym (behind_of r i place _ _ o p);
      }
