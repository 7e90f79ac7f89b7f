-- A payload's pores in parts and its numbers go over into each other: what the payload's codec cites as evidence.
use Rattle.std.specs.Prelude.{◌≡◌, refl, ℕ, ◌%◌, length}
use Rattle.std.proofs.Common.{arith, length-append}
use Rattle.bits.specs.ChoiceLaws.{within_low, within_high, within_yes}
use Rattle.bits.specs.ListsLaws.{all_to}
use Rattle.bits.specs.BitsLaws.{length_bits}
use Rattle.bits.specs.CodecLaws.{Matches}
use Rattle.bits.specs.SizedLaws.{ahead}
use Rattle.pores_parts.specs.Parts.{FitsPores, make_pores, parts_of_pores}
use Rattle.pores_parts.specs.Lines.{front, lines}

pub front_whole : (t : ℕ × ℕ) → length (front.enc t) % 8 ≡ 0
front_whole t = simp (length-append, length_bits)

pub pores_match : (n : ℕ) → Matches (ahead front front_whole (λ t. lines t.1 n)).Fits make_pores parts_of_pores (FitsPores n)
pores_match n =
    record {
      fits = λ p h. (
        (h.resolution, (omega (arith, h.high), within_yes 2 8 p.e h.low h.high)),
        (h.count, all_to _ _ p.lines (λ ds. all_to _ _ ds (λ d l. record { bits = h.low; some = l })) h.distances),
      );
      same = λ p h. refl;
      allowed = λ t h. record {
        resolution = h.0.0;
        low = within_low 2 8 t.0.1 h.0.1.1;
        high = within_high 2 8 t.0.1 h.0.1.1;
        count = h.1.0;
        distances = all_to _ _ t.1 (λ ds. all_to _ _ ds (λ d f. f.some)) h.1.1;
      };
      again = λ t h. refl;
    }
