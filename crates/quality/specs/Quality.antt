-- The two calls of local quality: the values of a segment's payload, and the record with that payload rewritten from values.
-- "Refusals: 24, a segment of another type, or a payload or values to be written that break these rules, after 23; then 19, 20."
use Rattle.std.proofs.Common.{ap}
use Rattle.std.specs.Prelude.{ℕ, List, T}
use Rattle.bits.specs.Codec.{value_of}
use Rattle.bits.specs.Bytes.{bits_of}
use Rattle.bits.specs.BlockBytes.{value_some, value_bytes_lem}
use Rattle.outcome.specs.Refusals.{bad_quality}
use Rattle.outcome.specs.Outcome.{Outcome}
use Rattle.format.specs.Segments.{local_quality}
use Rattle.format.specs.declared.ViewName.{ViewName}
use Rattle.rewrite.specs.Format.{PayloadFormat}
use Rattle.rewrite.specs.Called.{read_payload, set_payload}
use Rattle.quality_parts.specs.Parts.{values_right}
use Rattle.quality.specs.Payload.{quality_block, payload_for, values_lent}
use Rattle.quality.specs.PayloadLaws.{payload_there, payload_back, lent_there, lent_back}

-- its payloads go by the image of their view; a host has the values as they are, a byte each
abbrev pub quality_format : PayloadFormat (List ℕ)
quality_format =
    record {
      kind = local_quality;
      bad = bad_quality;
      Right = λ f vs. T (values_right f.image vs);
      payload = λ f vs. payload_for f.image vs;
      says = λ f p. value_of ((quality_block f.image).dec (bits_of p));
      elements = λ vs. vs;
      in_bytes = λ xs. xs;
      lent = λ f vs. values_lent f.image vs;
      bytes = λ f vs. value_bytes_lem (quality_block f.image) vs;
      there = λ f vs t. ap value_of (payload_there f.image vs t);
      back = λ f p vs b e. let (rest, q) = value_some ((quality_block f.image).dec (bits_of p)) vs e in payload_back f.image p vs rest b q;
      lent_there = λ f vs t. lent_there f.image vs t;
      lent_back = λ f vs us b e. lent_back f.image vs us e;
    }

abbrev pub quality : ViewName → (place : ℕ) → List ℕ → Outcome ℕ
quality = read_payload quality_format

abbrev pub set_quality : ViewName → (place : ℕ) → (values : List ℕ) → List ℕ → Outcome ℕ
set_quality = set_payload quality_format
