-- How much room values take: eight times the payload's bytes suffice, and so eight times the record's.
use mathlib.Core.Path.{◌≡◌, ap}
use Prim.Native.Nat.{ℕ, ◌+◌, ◌*◌, ◌≤◌}
use native.Mathlib.Omega.{arith}
use mathlib.Core.List.{List, [], ◌∷◌}
use lib.ListN.{length, length-append}
use lib.Dec.{T}
use Rattle.bits.specs.ChoiceLaws.{within_low}
use Rattle.bits.specs.ListsLaws.{all_true_lem}
use Rattle.bits.specs.Bits.{bits_of_number, zeros, pad}
use Rattle.bits.specs.BitsLaws.{length_bits}
use Rattle.bits.specs.BytesLaws.{length_in}
use Rattle.bits.specs.CodecLaws.{enc_all, field}
use Rattle.outcome.specs.Refusals.{bad_quality}
use Rattle.outcome.specs.Outcome.{given}
use Rattle.format.specs.Places.{image_of}
use Rattle.format.specs.declared.Image.{Image}
use Rattle.format.specs.declared.ViewName.{ViewName}
use Rattle.format.proofs.Laws.Record.{read_is}
use Rattle.rewrite.specs.Accepted.{its_view}
use Rattle.rewrite.proofs.Laws.Bytes.{rewritten_size}
use Rattle.rewrite.proofs.Laws.Payload.{read_given}
use Rattle.quality_parts.specs.Parts.{values_right}
use Rattle.quality_parts.proofs.PartsLaws.{tests}
use Rattle.quality.specs.Payload.{values, quality_block, payload_for}
use Rattle.quality.specs.Quality.{quality_format, quality}

-- a cell has a bit at least
cells_long : (e b : ℕ) (vs : List ℕ) → 1 ≤ b → length vs ≤ length (enc_all (field e b) vs)
cells_long e b [] l = omega arith
cells_long e b (v ∷ vs) l = omega (arith, cells_long e b vs l, length-append (bits_of_number b v) (enc_all (field e b) vs), length_bits b v)

pub payload_room : (image : Image) (vs : List ℕ) → T (values_right image vs) → length vs ≤ 8 * length (payload_for image vs)
unfolding quality_block values
payload_room image [] t = elim t [ ]
payload_room image (width ∷ []) t = elim t [ ]
payload_room image (width ∷ (height ∷ [])) t = elim t [ ]
payload_room image (width ∷ height ∷ bits ∷ vs) t =
    let (_, (_, (b, _))) = all_true_lem (tests image width height bits vs) t in
    let n = cells_long bad_quality bits vs (within_low 1 8 bits b) in
    let s = (values image).enc (width ∷ height ∷ bits ∷ vs) in
    let m : length s ≡ 24 + length (enc_all (field bad_quality bits) vs) = simp length-append (omega (arith, length_bits 8 width, length_bits 8 height, length_bits 8 bits)) in
    omega (arith, n, m, length_in ((quality_block image).enc (width ∷ height ∷ bits ∷ vs)), (quality_block image).bytes (width ∷ height ∷ bits ∷ vs), length-append s (zeros (pad (length s))))

-- a payload is no longer than its record
pub quality_room : (view : ViewName) (place : ℕ) (bytes vs : List ℕ) → quality view place bytes ≡ given vs → length vs ≤ 8 * length bytes
quality_room view place bytes vs h =
    read_given quality_format view place bytes vs h λ t us k right p e.
    let (_, n, _, _) = read_is bytes t.value [] t.reads in
    omega (arith, payload_room (image_of (its_view t)) us right, ap length p, ap length e, n, rewritten_size t.i place [] t.value t.means.there t.there)
