-- What a content that fits means in bytes: its lengths, its value, and that the record of one view which it makes is allowed.
use mathlib.Core.Path.{◌≡◌, refl, sym, ap, ◌∙◌, subst}
use Prim.Native.Nat.{ℕ, zero, suc, ◌+◌, ◌*◌, ◌^◌, ◌≤◌, ◌<◌}
use native.Mathlib.Omega.{arith}
use native.Mathlib.Nat.{add-zero}
use mathlib.Core.Option.{some}
use mathlib.Core.List.{List, [], ◌++◌}
use lib.ListN.{length, length-append}
use Rattle.bits.specs.Lists.{All}
use Rattle.bits.specs.Bits.{bits_of_number}
use Rattle.bits.specs.Bytes.{Byte, bits_of, bytes_of, in_bytes}
use Rattle.bits.specs.BytesLaws.{length_bits_of, in_bits}
use Rattle.bits.specs.CodecLaws.{enc_all}
use Rattle.format.specs.Limits.{most_bytes}
use Rattle.format.specs.Segments.{segments}
use Rattle.format.specs.View.{view, view_header}
use Rattle.format.specs.Record.{FitsScale, size, Allowed}
use Rattle.format.specs.declared.Widths.{Widths}
use Rattle.format.specs.declared.Scale.{Scale}
use Rattle.format.specs.declared.Header.{Header}
use Rattle.find_parts.specs.Stored.{view_out, header_out, record_out}
use Rattle.find_parts.proofs.Laws.Written.{view_blocks, stored_long}
use Rattle.card.specs.Length.{object_length}
use Rattle.card.specs.Object.{other}
use Rattle.card.specs.ShapeLaws.{tagged_bits}
use Rattle.card.specs.Size.{normal, compact, scale_of}
use Rattle.card.specs.Card.{Content, content, view_of_card, record_of_card}
use Rattle.card.specs.Stored.{value_out, object90_out}
use Rattle.card.proofs.Laws.Written.{value_long, ShortValue, Short, value_is, value_spells, object90_spells}

-- ---- the sizes

normal_fits : FitsScale normal
normal_fits =
    record { points = (omega arith, tt); c = (omega arith, tt); b = (omega arith, tt); k = (omega arith, tt); step = (omega arith, tt); ratio = omega arith; half = (omega arith, tt) }

compact_fits : FitsScale compact
compact_fits =
    record { points = (omega arith, tt); c = (omega arith, tt); b = (omega arith, tt); k = (omega arith, tt); step = (omega arith, tt); ratio = omega arith; half = (omega arith, tt) }

pub scale_fits : (size_number : ℕ) {scale : Scale} → scale_of size_number ≡ some scale → FitsScale scale
scale_fits zero e = subst FitsScale (cc) normal_fits
scale_fits (suc zero) e = subst FitsScale (cc) compact_fits
scale_fits (suc (suc n)) e = let z : ◌≡◌ {A = ℕ} 0 1 = cc in absurd (omega arith)

-- ---- what fits is short

module _ (w : Widths) (c : Content) (h : (content w).Fits c) where
  pub short_value : ShortValue w c
  unfolding content
  short_value = record { width = h.1.0.1.0.0; height = h.1.0.1.0.1; skeleton = h.1.0.1.1.0.0; index = h.1.0.1.1.1.0 }

  abbrev v : List ℕ
  v = value_out w c

  bits_long : length (value_is w c) ≡ 8 * length v
  bits_long = ap length (value_spells w c short_value).bits ∙ length_bits_of v

  value_small : length v < 2 ^ 16
  unfolding content object_length
  value_small = omega (arith, h.1.0.0.1, bits_long)

  -- the template holds 90 and whatever follows
  pub short : Short w c
  unfolding content object_length
  short =
      let a = object90_spells w c short_value value_small in
      let n : length (tagged_bits (bits_of_number 8 0x90) (value_is w c)) ≡ 8 * length (object90_out v) = ap length a.bits ∙ length_bits_of (object90_out v) in
      let m = length-append (tagged_bits (bits_of_number 8 0x90) (value_is w c)) (enc_all other c.behind) in
      record { value = short_value; inner = omega (arith, h.0.1, n, m) }

  -- bytes that read as the value are the value's bytes
  pub value_bytes_lem : (bytes : List ℕ) → All Byte bytes → bits_of bytes ≡ value_is w c → bytes ≡ v
  value_bytes_lem bytes b e =
      let s = value_spells w c short_value in
      sym (in_bits bytes b) ∙ ap in_bytes (e ∙ s.bits) ∙ in_bits v s.bytes

-- ---- the record that it makes

no_segments : length (in_bytes (segments.enc [])) ≡ 0
unfolding segments bytes_of
no_segments = refl

module _ (scale : Scale) (c : Content) where
  abbrev w : Widths
  w = scale.widths

  out_long : length (record_out (record_of_card scale c)) ≡ 24 + length (view_out w (view_of_card c))
  unfolding record_of_card record_out
  out_long =
      let x : List ℕ = view_out w (view_of_card c) in
      let h : Header = record { device = 0; scale = scale } in
      length-append (header_out (size (record_of_card scale c)) h 1) (x ++ []) ∙ ap (λ (n : ℕ). 24 + n) (length-append x [] ∙ add-zero (length x))

  -- 24 bytes of header, 4 of zeros before the value and 2 behind it
  pub record_size : size (record_of_card scale c) ≡ 30 + length (value_out w c)
  record_size = sym (stored_long (record_of_card scale c)) ∙ omega (arith, out_long, view_blocks w (view_of_card c), no_segments, value_long w c)

  pub record_allowed : FitsScale scale → (content w).Fits c → size (record_of_card scale c) ≤ most_bytes → Allowed (record_of_card scale c)
  unfolding record_of_card content view view_header segments
  record_allowed f h l =
      let x = h.1.0.1 in
      record {
        fits = record {
          head = record { device = omega arith; scale = f };
          count = (omega arith, tt);
          views = (
            (
              ((record { number = omega arith; position = omega arith; impression = omega arith; quality = omega arith; right = refl; width = x.0.0; height = x.0.1 }, x.1.0.0), x.1.0.1),
              ((x.1.1.0, x.1.1.1), (omega arith, tt)),
            ),
            tt,
          );
        };
        small = l;
      }
