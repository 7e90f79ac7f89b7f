-- The segments of an extended block s, one by one: which are still to be read, and the next of them. A segment's bytes are its type,
-- its length and its payload.
use mathlib.Core.Path.{◌≡◌, refl, sym, ap, ◌∙◌}
use Prim.Native.Nat.{ℕ, zero, suc, ◌+◌, ◌*◌, ◌^◌, ◌≤◌, ◌<◌}
use native.Mathlib.Omega.{arith}
use mathlib.Core.Bool.{Bool}
use mathlib.Core.List.{List, [], ◌∷◌, ◌++◌}
use lib.ListN.{length, take, drop, get_or, take-append-drop}
use lib.Seq.{take_at, drop-drop, get_or-take, get_or-drop}
use Rattle.bits.specs.Lists.{All}
use Rattle.bits.specs.ListsLaws.{first_left, total_more}
use Rattle.bits.specs.Bits.{Bits, bits_of_number}
use Rattle.bits.specs.Bytes.{Byte, bits_of, in_bytes}
use Rattle.bits.specs.Codec.{Codec, got, field_dec}
use Rattle.bits.specs.CodecLaws.{not_got, next_got, field_there}
use Rattle.bits.specs.Block.{fill_dec}
use Rattle.bits.proofs.BlockLaws.{fill_more}
use Rattle.bits.specs.Reads.{Reads, found}
use Rattle.bits.proofs.Laws.Parts.{bits_drop, some_left, drop_end}
use Rattle.bits.proofs.Laws.Loops.{fill_done}
use Rattle.bits.specs.BytesLaws.{bits_append}
use Rattle.outcome.specs.Refusals.{bad_segment}
use Rattle.format.specs.Segments.{Segment, FitsSegment, segment, segment_length, segments}
use Rattle.format.specs.Places.{no_segment_there, segment_bits}
use Rattle.find_parts.specs.Finds.{segment_stored, SegmentsLeft}
use Rattle.put_bytes.specs.HighFirst.{two, joined}
use Rattle.find_parts.proofs.Laws.Front.{Front, front}
use Rattle.find_parts.proofs.Laws.InBytes.{Spells, in_spelled, ◌⊕◌, bits_two, spells_two, spells_all, spells_bytes}

-- a number of 16 bits that is stored at byte a
pub two_there : (s : List ℕ) (a n : ℕ) → take 2 (drop a s) ≡ two n → get_or s a 0 * 256 + get_or s (a + 1) 0 ≡ n
two_there s a n e =
    let z : a + 0 ≡ a = omega arith in
    let at : (k : ℕ) → k < 2 → get_or s (a + k) 0 ≡ get_or (two n) k 0 = λ k l. sym (get_or-drop a s k 0) ∙ sym (get_or-take 2 (drop a s) k 0 l) ∙ ap (λ (xs : List ℕ). get_or xs k 0) e in
    omega (arith, ap (λ (k : ℕ). get_or s k 0) (sym z) ∙ at 0 (omega arith), at 1 (omega arith))

pub segment_spells : (g : Segment) → FitsSegment g → Spells (segment_stored g) (segment.enc g)
unfolding segment
segment_spells g f = spells_two f.kind ⊕ (spells_two f.length ⊕ spells_bytes bad_segment g.payload f.payload)

-- all of them
pub segments_bytes : (gs : List Segment) → All FitsSegment gs → in_bytes (segments.enc gs) ≡ joined segment_stored gs
unfolding segments segment
segments_bytes gs f = in_spelled (spells_all segment segment_stored segment_spells gs f)

-- the next segment of the block s, at byte a, and those behind it
pub record SegmentAt (s : List ℕ) (a : ℕ) (rest : List Segment) (left : Bits) : Type 0 where
  pub value : Segment
  pub more : List Segment
  pub is : rest ≡ value ∷ more
  pub small : 4 + length value.payload < 2 ^ 16
  pub tail : Bits
  pub there : Front s a (segment_stored value) tail
  pub fuel : ℕ
  pub next : fill_dec segment bad_segment fuel (drop (8 * (a + (4 + length value.payload))) (bits_of s)) ≡ got more left

fill_next : {A P : Type 0} (c : Codec Bool A) (bad k : ℕ) (s : Bits) {xs : List A} {u : Bits} → 0 < length s → fill_dec c bad k s ≡ got xs u
    → ((j : ℕ) (x : A) (ys : List A) (r : Bits) → c.dec s ≡ got x r → fill_dec c bad j r ≡ got ys u → xs ≡ x ∷ ys → P) → P
fill_next c bad zero [] h e f = absurd (omega arith)
fill_next c bad zero (b ∷ s) h e f = not_got e
fill_next c bad (suc k) s h e f =
    next_got (c.dec s) _ (sym (fill_more c bad k s h) ∙ e) λ x r d e1. next_got (fill_dec c bad k r) _ e1 λ ys q d1 e2. f k x ys r d (d1 ∙ ap (got ys) (cc)) (cc)

pub segment_at_lem : (s : List ℕ) (a k : ℕ) {rest : List Segment} {left : Bits} → All Byte s → a < length s
    → fill_dec segment bad_segment k (drop (8 * a) (bits_of s)) ≡ got rest left → SegmentAt s a rest left
unfolding segment
segment_at_lem s a k f h e =
    fill_next segment bad_segment k (drop (8 * a) (bits_of s)) (some_left s (8 * a) (omega arith)) e λ j g gs r d more is.
    let (fits, bits) = segment.back (drop (8 * a) (bits_of s)) g r d in
    let spells = segment_spells g fits in
    let there = front s a (segment_stored g) r f spells.bytes (omega arith) (rw spells.bits at bits) in
    let l : length (segment_stored g) ≡ 4 + length g.payload = omega arith in
    record {
      value = g;
      more = gs;
      is = is;
      small = fits.length;
      tail = r;
      there = there;
      fuel = j;
      next = rw (← l, ← there.after) more;
    }

module _ {s : List ℕ} {a : ℕ} {rest : List Segment} {left : Bits} (t : SegmentAt s a rest left) where
  -- the bytes behind it
  abbrev others : List ℕ
  others = drop (length (segment_stored t.value)) (drop a s)

  here : drop a s ≡ segment_stored t.value ++ others
  here = sym (take-append-drop (length (segment_stored t.value)) (drop a s)) ∙ ap (λ (xs : List ℕ). xs ++ others) t.there.is

  behind : (k : ℕ) → drop (a + k) s ≡ drop k (segment_stored t.value ++ others)
  behind k = sym (drop-drop k a s) ∙ ap (drop k) here

  -- its length is at its third byte
  pub its_length : {n q : ℕ} → Reads (field_dec bad_segment 16) s (8 * a + 16) (found n q) → n ≡ 4 + length t.value.payload
  its_length {n} {q} h =
      let m : ℕ = 4 + length t.value.payload in
      let e : 8 * (a + 2) ≡ 8 * a + 16 = omega arith in
      let d : drop (8 * a + 16) (bits_of s) ≡ bits_of_number 16 m ++ bits_of (t.value.payload ++ others) =
      ap (λ (p : ℕ). drop p (bits_of s)) (sym e) ∙ sym (bits_drop (a + 2) s) ∙ ap bits_of (behind 2)
      ∙ bits_append (two m) (t.value.payload ++ others) ∙ ap (λ (x : Bits). x ++ bits_of (t.value.payload ++ others)) (bits_two m) in
      let k = field_there bad_segment 16 m (bits_of (t.value.payload ++ others)) t.small in
      let z : got n (drop q (bits_of s)) ≡ got m (bits_of (t.value.payload ++ others)) = sym h.is ∙ ap (field_dec bad_segment 16) d ∙ k in
      cc

  pub its_type : take 2 (drop a s) ≡ two t.value.kind
  its_type = ap (take 2) here

  pub its_size : take 2 (drop (a + 2) s) ≡ two (4 + length t.value.payload)
  its_size = ap (take 2) (behind 2)

  -- as code reads them, by two bytes each
  pub kind_stored : get_or s a 0 * 256 + get_or s (a + 1) 0 ≡ t.value.kind
  kind_stored = two_there s a t.value.kind its_type

  pub length_stored : get_or s (a + 2) 0 * 256 + get_or s (a + 2 + 1) 0 ≡ 4 + length t.value.payload
  length_stored = two_there s (a + 2) (4 + length t.value.payload) its_size

  pub its_payload : take (length t.value.payload) (drop (a + 4) s) ≡ t.value.payload
  its_payload = ap (take (length t.value.payload)) (behind 4) ∙ take_at t.value.payload others (length t.value.payload) refl

-- ---- segments that are passed: n of them, up to byte a

abbrev pub Past : List ℕ → ℕ → ℕ → Type 0
Past s n a = (gs : List Segment) (u : Bits) → segments.dec (bits_of s) ≡ got gs u
    → (n ≤ length gs) × SegmentsLeft s a (drop n gs) u × (8 * a ≡ segment_bits (take n gs))

pub past_none : (s : List ℕ) → Past s 0 0
unfolding segments
past_none s gs u h = (omega arith, record { fuel = length (bits_of s); reads = h; within = omega arith }, refl)

module _ {s : List ℕ} {a : ℕ} {gs : List Segment} {u : Bits} (bytes : All Byte s) (h : SegmentsLeft s a gs u) where
  pub segment_next : a < length s → SegmentAt s a gs u
  segment_next l = segment_at_lem s a h.fuel bytes l h.reads

  pub segments_none : length s ≤ a → gs ≡ []
  segments_none l = let e = sym h.reads ∙ fill_done segment bad_segment h.fuel _ (drop_end s (8 * a) (omega arith)) in cc

pub past_next : {s : List ℕ} {n a m q : ℕ} → All Byte s → Past s n a → a < length s → Reads (field_dec bad_segment 16) s (8 * a + 16) (found m q) → Past s (n + 1) (a + m)
past_next {s} {n} {a} {m} bytes past l d gs u h =
    let (c, L, b) = past gs u h in
    let N = segment_next bytes L l in
    let (k, v, o) = first_left gs n no_segment_there N.is in
    let z : m ≡ 4 + length N.value.payload = its_length N d in
    let t = total_more (λ (g : Segment). length (segment.enc g)) gs n no_segment_there k in (
      omega arith,
      rw z (record { fuel = N.fuel; reads = rw (← o) N.next; within = omega (arith, N.there.within) }),
      omega (arith, b, t, segment_length N.value, ap (λ (g : Segment). length (segment.enc g)) v),
    )
