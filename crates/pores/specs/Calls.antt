-- The two calls of pores: the distances of a segment's payload, and the record with that payload rewritten from distances. "Distances
-- (resolution, e, then per line a count and that many, 32 bits each) read and rewritten as in [3]. Refusals: 26, as 24 for pores, also
-- for a distance 0 or another number of lines."
use Rattle.std.specs.Prelude.{ℕ, List}
use Rattle.outcome.specs.Refusals.{bad_pores}
use Rattle.outcome.specs.Outcome.{Outcome}
use Rattle.put_bytes.specs.HighFirst.{four, joined}
use Rattle.format.specs.Segments.{sweat_pores}
use Rattle.format.specs.declared.ViewName.{ViewName}
use Rattle.rewrite.specs.Format.{PayloadFormat}
use Rattle.rewrite.specs.Called.{read_payload, set_payload}
use Rattle.pores_parts.specs.Parts.{Pores, FitsPores}
use Rattle.pores.specs.Payload.{pores_in, payload_of}
use Rattle.pores.specs.PayloadLaws.{payload_bytes, payload_read, payload_written}
use Rattle.pores.specs.Numbers.{numbers_of, pores_from}
use Rattle.pores.specs.NumbersLaws.{bytes_read, bytes_written}

abbrev pub pores_format : PayloadFormat Pores
pores_format =
    record {
      kind = sweat_pores;
      bad = bad_pores;
      Right = λ f p. FitsPores f.lines p;
      payload = λ f p. payload_of p;
      says = λ f payload. pores_in f.lines payload;
      elements = numbers_of;
      in_bytes = joined four;
      lent = λ f bytes. pores_from f.lines bytes;
      bytes = λ f p. payload_bytes p;
      there = λ f p h. payload_read f.lines p h;
      back = λ f s p b h. payload_written f.lines s p b h;
      lent_there = λ f p h. bytes_read f.lines p h;
      lent_back = λ f b p y h. bytes_written f.lines b p y h;
    }

abbrev pub pores : ViewName → (place : ℕ) → List ℕ → Outcome ℕ
pores view place = read_payload pores_format view place

-- values: the host's bytes, four for each number
abbrev pub set_pores : ViewName → (place : ℕ) → (values : List ℕ) → List ℕ → Outcome ℕ
set_pores view place values = set_payload pores_format view place values
