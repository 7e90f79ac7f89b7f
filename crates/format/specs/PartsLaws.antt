-- The values of Parts and the numbers that stand in a record go over into each other: what the codecs of Line, Index, Segments, View
-- and Record cite as evidence (`Matches`, bits/specs/CodecLaws).
use Rattle.std.specs.Prelude.{◌≡◌, refl, ℕ, ◌+◌, ◌-◌, ◌*◌, ◌^◌, ◌≤◌, ◌<◌, Bool, List, [], ◌∷◌, ◌++◌, length, T, leb}
use Rattle.std.proofs.Common.{ap, ap₂, ◌∙◌, arith, length-append, leb→le, le→leb}
use Rattle.std.proofs.Math.Option.{Option}
use Rattle.bits.specs.ChoiceLaws.{within_low, within_high, within_yes}
use Rattle.bits.specs.Lists.{All, Along}
use Rattle.bits.specs.Bits.{bits_of_number}
use Rattle.bits.specs.BitsLaws.{length_bits}
use Rattle.bits.specs.Bytes.{Byte}
use Rattle.bits.specs.Codec.{Codec}
use Rattle.bits.specs.CodecLaws.{Matches, enc_all, field, Ranged}
use Rattle.differences.specs.Differences.{diffs}
use Rattle.differences.proofs.DifferencesLaws.{Steps, length_diffs, length_undiffs, undiffs_diffs, falls_steps, steps_falls}
use Rattle.format.specs.Parts.{EndFits, end_numbers, numbers_of_end, make_end, Line, FitsEnd, FitsLine, parts_of_line, make_line, FitsList, differences_of, make_list, Index, up, FitsIndex, parts_of_index, make_index, Segment, FitsSegment, parts_of_segment, make_segment, FitsHead, head_numbers, numbers_of_head, make_head, View, parts_of_view, make_view, FitsScale, scale_numbers, numbers_of_scale, make_scale, FitsHeader, fields_of_header, make_header, RecordFits, parts_of_record, make_record}
use Rattle.format.specs.declared.Widths.{Widths}
use Rattle.format.specs.declared.ViewHeader.{ViewHeader}

-- ---- lines

pub end_matches : (kind direction x : Codec Bool ℕ)
    → Matches (end_numbers kind direction x).Fits make_end numbers_of_end (EndFits kind.Fits direction.Fits x.Fits)
end_matches kind direction x =
    record {
      fits = λ p h. (h.kind, (h.direction, (h.x, h.y)));
      same = λ p h. refl;
      allowed = λ t h. record { kind = h.0; direction = h.1.0; x = h.1.1.0; y = h.1.1.1 };
      again = λ t h. refl;
    }

pub line_matches : (w : Widths)
    → Matches (λ t. FitsEnd w t.0 × (((length t.1.0 < 2 ^ 8) × All (λ n. n < 2 ^ w.k) t.1.0) × FitsEnd w t.1.1)) make_line parts_of_line (FitsLine w)
line_matches w =
    record {
      fits = λ l h. (h.start, ((h.count, h.codes), h.finish));
      same = λ l h. refl;
      allowed = λ t h. record { start = h.0; count = h.1.0.0; codes = h.1.0.1; finish = h.1.1 };
      again = λ t h. refl;
    }

-- ---- the index

pub list_matches : (w l : ℕ) → Matches (λ t. (t.0 < 2 ^ w) × ((length t.1 ≡ t.0) × Steps w 0 l t.1)) (make_list l) (differences_of l) (FitsList w l)
list_matches w l =
    record {
      fits = λ ns h. (h.count, (length_diffs l ns, falls_steps w 0 l ns h.falls h.diffs));
      same = λ ns h. undiffs_diffs 0 l ns h.falls;
      allowed = λ t h.
          let (f, e, g) = steps_falls w 0 l t.1 h.1.1 in
          record { falls = f; count = rw (length_undiffs l t.1, h.1.0) h.0; diffs = rw e g };
      again = λ t h.
          let (f, e, g) = steps_falls w 0 l t.1 h.1.1 in
          ap₂ (λ (n : ℕ) (ds : List ℕ). (n, ds)) (length_undiffs l t.1 ∙ h.1.0) e;
    }

pub index_matches : (n : ℕ) → Matches (λ t. Ranged 8 1 16 t.0 × ((length t.1 ≡ n) × Along up (FitsList t.0) 0 t.1)) make_index parts_of_index (FitsIndex n)
index_matches n =
    record {
      fits = λ i h. ((omega (arith, h.high), within_yes 1 16 i.width h.low h.high), (h.count, h.lists));
      same = λ i h. refl;
      allowed = λ t h.
          record { low = within_low 1 16 t.0 h.0.1; high = within_high 1 16 t.0 h.0.1; count = h.1.0; lists = h.1.1 };
      again = λ t h. refl;
    }

-- ---- segments

pub segment_matches : Matches
    (λ t. (t.0 < 2 ^ 16) × (((t.1.0 < 2 ^ 16) × T (leb 4 t.1.0)) × ((length t.1.1 ≡ t.1.0 - 4) × All Byte t.1.1))) make_segment parts_of_segment FitsSegment
segment_matches =
    record {
      fits = λ g h. (h.kind, ((h.length, le→leb 4 (4 + length g.payload) (omega arith)), (omega arith, h.payload)));
      same = λ g h. refl;
      allowed = λ t h.
          let l : 4 ≤ t.1.0 = leb→le 4 t.1.0 h.1.0.1 in
          record { kind = h.0; length = omega (arith, h.1.0.0, h.1.1.0); payload = h.1.1.1 };
      again = λ t h.
          let l : 4 ≤ t.1.0 = leb→le 4 t.1.0 h.1.0.1 in
          let z : 4 + length t.1.1 ≡ t.1.0 = omega (arith, h.1.1.0) in
          ap (λ (n : ℕ). (t.0, (n, t.1.1))) z;
    }

pub length_bytes : (e : ℕ) (xs : List ℕ) → length (enc_all (field e 8) xs) ≡ 8 * length xs
length_bytes e [] = refl
length_bytes e (x ∷ xs) = simp (length-append, length_bits) (omega (arith, length_bytes e xs))

-- type and length are 32 bits
pub segment_long_lem : (e kind n : ℕ) (payload : List ℕ) → 32 ≤ length (bits_of_number 16 kind ++ (bits_of_number 16 n ++ enc_all (field e 8) payload))
segment_long_lem e kind n payload = simp (length-append, length_bits) (omega arith)

-- ---- views

pub head_matches : (e : ℕ) (earlier : ℕ → ℕ) → Matches (head_numbers e earlier).Fits make_head numbers_of_head (FitsHead earlier)
head_matches e earlier =
    record {
      fits = λ h f. (((f.number, (f.position, (f.impression, f.quality))), f.right), (f.width, f.height));
      same = λ h f. refl;
      allowed = λ t f.
          record { number = f.0.0.0; position = f.0.0.1.0; impression = f.0.0.1.1.0; quality = f.0.0.1.1.1; right = f.0.1; width = f.1.0; height = f.1.1 };
      again = λ t f. refl;
    }

-- with the skeleton's length it is 80 bits
pub head_long : (e : ℕ) (earlier : ℕ → ℕ) (h : ViewHeader) (n : ℕ) → 80 ≤ length ((head_numbers e earlier).enc (numbers_of_head h) ++ bits_of_number 16 n)
head_long e earlier h n = simp (length-append, length_bits) (omega arith)

-- P says which of a view's parts fit
pub view_matches : (P : (ViewHeader × List Line) × (Option Index × List Segment) → Type 0) → Matches P make_view parts_of_view (λ v. P (parts_of_view v))
view_matches P = record { fits = λ v h. h; same = λ v h. refl; allowed = λ t h. h; again = λ t h. refl }

-- ---- the record

pub scale_matches : (e : ℕ) → Matches (scale_numbers e).Fits make_scale numbers_of_scale FitsScale
scale_matches e =
    record {
      fits = λ s f. (f.points, (f.c, (f.b, (f.k, (f.step, (f.ratio, f.half))))));
      same = λ s f. refl;
      allowed = λ t (p, (c, (b, (k, (s, (r, h)))))). record { points = p; c = c; b = b; k = k; step = s; ratio = r; half = h };
      again = λ t f. refl;
    }

-- n is the record's length; the identifier is 0x46534B00, the version 0x30313000
pub header_matches : (n : ℕ) → Matches
    (λ t. (0x46534B00 < 2 ^ 32) × ((0x30313000 < 2 ^ 32) × ((n < 2 ^ 32) × ((t.1.1.1.0 < 2 ^ 16) × (Ranged 8 1 255 t.1.1.1.1.0 × (FitsScale t.1.1.1.1.1.0 × (0 < 2 ^ 16)))))))
    make_header fields_of_header (λ t. (n < 2 ^ 32) × FitsHeader t.0 × Ranged 8 1 255 t.1)
header_matches n =
    record {
      fits = λ t f. (omega arith, (omega arith, (f.0, (f.1.device, (f.2, (f.1.scale, omega arith))))));
      same = λ t f. refl;
      allowed = λ t (x, (y, (z, (d, (m, (s, u)))))). (z, record { device = d; scale = s }, m);
      again = λ t f. refl;
    }

-- P says which views fit
pub record_matches : (n : ℕ) (P : Widths → List View → Type 0) → Matches
    (λ t. ((n < 2 ^ 32) × FitsHeader t.0.0 × Ranged 8 1 255 t.0.1) × ((length t.1 ≡ t.0.1) × P t.0.0.scale.widths t.1))
    make_record parts_of_record (λ r. (n < 2 ^ 32) × RecordFits P r)
record_matches n P =
    record {
      fits = λ r h. ((h.0, h.1.head, h.1.count), (refl, h.1.views));
      same = λ r h. refl;
      allowed = λ t h. (h.0.0, record { head = h.0.1; count = rw h.1.0 h.0.2; views = h.1.1 });
      again = λ t h. ap (λ (m : ℕ). ((t.0.0, m), t.1)) h.1.0;
    }
