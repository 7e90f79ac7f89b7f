-- The values of Parts and what stands in a sheet's fields go over into each other, and what stands there is whole bytes: what the codecs
-- of Fields and Values cite as evidence (`Matches`, bits/specs/CodecLaws).
use Rattle.std.specs.Prelude.{◌≡◌, refl, ℕ, ◌%◌, ◌^◌, ◌<◌, ◌++◌, length}
use Rattle.std.proofs.Common.{arith, length-append}
use Rattle.bits.specs.Lists.{All}
use Rattle.bits.specs.Bits.{Bits, bits_of_number}
use Rattle.bits.specs.BitsLaws.{length_bits}
use Rattle.bits.specs.Bytes.{Byte}
use Rattle.bits.specs.CodecLaws.{Matches}
use Rattle.format.specs.Parts.{FitsScale, FitsHeader}
use Rattle.format.specs.declared.Widths.{Widths}
use Rattle.format.specs.declared.End.{End}
use Rattle.sheet_codes.specs.Code.{CodeValue}
use Rattle.sheet.specs.Parts.{FitsField, make_field, parts_of_field, header_of_value, value_of_header, EndValue, LineValue, line_of_value, value_of_line, SegmentValue, segment_of_value, value_of_segment}

-- ---- values

pub field_matches : Matches (λ t. (t.0 < 2 ^ 8) × ((length t.1 < 2 ^ 16) × All Byte t.1)) make_field parts_of_field FitsField
field_matches =
    record {
      fits = λ f h. (h.tag, (h.length, h.value));
      same = λ f h. refl;
      allowed = λ t h. record { tag = h.0; length = h.1.0; value = h.1.1 };
      again = λ t h. refl;
    }

pub header_value_matches : Matches (λ t. (t.0 < 2 ^ 16) × FitsScale t.1) header_of_value value_of_header FitsHeader
header_value_matches =
    record {
      fits = λ h f. (f.device, f.scale);
      same = λ h f. refl;
      allowed = λ t f. record { device = f.0; scale = f.1 };
      again = λ t f. refl;
    }

pub line_value_matches : (w : Widths)
    → Matches (λ t. (EndValue w t.0.0 × EndValue w t.0.1) × All (CodeValue w.k) t.1) line_of_value value_of_line (LineValue w)
line_value_matches w =
    record {
      fits = λ l h. ((h.start, h.finish), h.codes);
      same = λ l h. refl;
      allowed = λ t h. record { start = h.0.0; finish = h.0.1; codes = h.1 };
      again = λ t h. refl;
    }

pub segment_value_matches : Matches (λ t. (t.0 < 2 ^ 16) × All Byte t.1) segment_of_value value_of_segment SegmentValue
segment_value_matches =
    record {
      fits = λ g h. (h.kind, h.payload);
      same = λ g h. refl;
      allowed = λ t h. record { kind = h.0; payload = h.1 };
      again = λ t h. refl;
    }

-- ---- whole bytes, at least one

pub byte_some : (n : ℕ) → 0 < length (bits_of_number 8 n)
byte_some n = rw length_bits (omega arith)

pub byte_whole : (n : ℕ) → length (bits_of_number 8 n) % 8 ≡ 0
byte_whole n = rw length_bits

pub two_some : (n : ℕ) → 0 < length (bits_of_number 16 n)
two_some n = rw length_bits (omega arith)

pub two_whole : (n : ℕ) → length (bits_of_number 16 n) % 8 ≡ 0
two_whole n = rw length_bits

-- a line's end as it stands in a sheet
abbrev pub bits_of_end : End → Bits
bits_of_end p = bits_of_number 8 p.kind ++ (bits_of_number 8 p.direction ++ (bits_of_number 16 p.x ++ bits_of_number 16 p.y))

pub ends_whole : (t : End × End) → length (bits_of_end t.0 ++ bits_of_end t.1) % 8 ≡ 0
ends_whole t = simp (length-append, length_bits)
