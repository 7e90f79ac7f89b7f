-- A segment that is found, its type and the values as they are judged: what the call then answers, and that what code lays is the
-- payload.
use mathlib.Core.Path.{◌≡◌, sym, ap, ◌∙◌}
use mathlib.Core.Logic.{◌≢◌}
use Prim.Native.Nat.{ℕ, ◌+◌, ◌*◌, ◌/◌, ◌^◌, ◌≤◌}
use native.Mathlib.Omega.{arith}
use mathlib.Core.Bool.{false, not}
use mathlib.Core.Option.{Option}
use mathlib.Core.List.{List}
use lib.ListN.{length, length-append, length-replicate}
use lib.Dec.{T}
use Rattle.std.specs.Prelude.{Result}
use Rattle.bits.specs.ChoiceLaws.{pick_no, within_high}
use Rattle.bits.specs.Bits.{Bits, zeros, pad, filled}
use Rattle.bits.specs.BytesLaws.{length_in}
use Rattle.bits.specs.BlockBytes.{value_bytes_lem}
use Rattle.outcome.specs.Refusals.{bad_quality}
use Rattle.outcome.specs.Outcome.{Answers}
use Rattle.outcome.specs.Why.{answer_of}
use Rattle.outcome.specs.declared.refusal.Refused.{Refused}
use Rattle.outcome.proofs.Laws.{answer_refused}
use Rattle.format.specs.Segments.{local_quality}
use Rattle.format.specs.declared.Image.{Image}
use Rattle.format.specs.declared.ViewName.{ViewName}
use Rattle.find_segment.specs.Found.{SegmentStands, SegmentRefuses}
use Rattle.find_segment.specs.declared.Spot.{Spot}
use Rattle.find_segment.proofs.Laws.{small_image}
use Rattle.rewrite.specs.Rewrite.{rewriting}
use Rattle.rewrite.specs.Called.{values_set, set_in, set_payload}
use Rattle.rewrite.proofs.Laws.Payload.{setting_is, setting_other}
use Rattle.rewrite_put.specs.Put.{PayloadPut, RecordPut}
use Rattle.rewrite_put.proofs.Laws.Answered.{found_there}
use Rattle.quality_parts.specs.Parts.{values_right}
use Rattle.quality.specs.Payload.{quality_block, payload_for, values_lent}
use Rattle.quality.specs.PayloadLaws.{lent_there}
use Rattle.quality.specs.Quality.{quality_format, set_quality}
use Rattle.quality_cells.specs.Grid.{SmallImage}
use Rattle.quality_cells.specs.declared.Grid.{Grid}
use Rattle.quality_cells.proofs.Laws.Start.{few_bits_lem}
use Rattle.quality_cells.proofs.Laws.Written.{payload_bits, payload_is, payload_long, right_cells}
use Rattle.quality_payload.specs.Payload.{RightValues, PayloadRoom, PayloadLaid}

-- ---- how long the payload is that right values make

pub payload_size : {image : Image} {vs : List ℕ} {g : Grid} → RightValues image vs g → length (payload_for image vs) ≡ 3 + (g.cells * g.bits + 7) / 8
payload_size {image} {vs} {g} h =
    let b : Bits = payload_bits g.bits vs in
    let n : length b ≡ 24 + g.cells * g.bits = payload_long g.bits vs ∙ ap (λ (m : ℕ). 24 + m * g.bits) (right_cells h.start h.right).0 in
    let f : length (filled b) ≡ length b + pad (length b) = length-append b (zeros (pad (length b))) ∙ ap (λ (m : ℕ). length b + m) (length-replicate (pad (length b)) false) in
    let e : length (payload_for image vs) ≡ length (filled b) / 8 = length_in ((quality_block image).enc vs) ∙ ap (λ (s : Bits). length s / 8) (payload_is h.start) in
    let p : 24 + g.cells * g.bits + pad (24 + g.cells * g.bits) ≡ 8 * (3 + (g.cells * g.bits + 7) / 8) = omega arith in
    omega (arith, e, f, n, p, ap pad n)

-- right values have few cells of few bits
pub few : {image : Image} {vs : List ℕ} {g : Grid} → RightValues image vs g → (g.cells ≤ 65535 * 65535) × (g.bits ≤ 8) × (3 + (g.cells * g.bits + 7) / 8 ≤ 2 ^ 32)
few {g = g} h =
    let b : g.bits ≤ 8 = within_high 1 8 g.bits h.start.narrow in
    (h.start.few, b, omega (arith, few_bits_lem g.cells g.bits h.start.few b))

-- ---- refused before a segment is found

pub not_found : (vs before : List ℕ) {s : List ℕ} {view : ViewName} {place e p : ℕ} → SegmentRefuses s view place e p
    → Answers (set_quality view place vs s) before before (record { number = e; place = p; length = 0 })
unfolding set_payload
not_found vs before {place = place} h = answer_refused (λ xs. xs) (length before) before (h.is (set_in quality_format place vs))

-- ---- the segment at x

pub image_small : {s : List ℕ} {view : ViewName} {place : ℕ} {x : Spot} → SegmentStands s view place x → SmallImage x.image
image_small t = let (w, h) = small_image t in record { width = w; height = h }

module _ {s : List ℕ} {view : ViewName} {place : ℕ} {x : Spot} (vs before : List ℕ) (h : SegmentStands s view place x) where
  pub other_type : x.kind ≢ local_quality → Answers (set_quality view place vs s) before before (record { number = bad_quality; place = 0; length = 0 })
  other_type n = answer_refused (λ xs. xs) (length before) before (setting_other quality_format (found_there h) (λ e. n (h.at.kind ∙ e)) vs)

  module _ (q : x.kind ≡ local_quality) where
    -- the outcome is what the values say
    says : {o : Option (List ℕ)} → values_lent x.image vs ≡ o → set_quality view place vs s ≡ values_set quality_format place h.i h.value o
    says e =
        let a = h.at in
        setting_is quality_format (found_there h) (sym a.kind ∙ q) vs
        ∙ ap (values_set quality_format place h.i h.value) (ap (λ (i : Image). values_lent i vs) (sym a.image) ∙ e)

    pub broken : T (not (values_right x.image vs)) → Answers (set_quality view place vs s) before before (record { number = bad_quality; place = 0; length = 0 })
    broken t = answer_refused (λ xs. xs) (length before) before (says (pick_no (values_right x.image vs) _ _ t))

    -- the type is right, and the values are
    goes_on : {g : Grid} → RightValues x.image vs g → set_quality view place vs s ≡ rewriting h.i place (payload_for x.image vs) h.value
    goes_on R = says (lent_there x.image vs R.right) ∙ ap (λ (i : Image). rewriting h.i place (payload_for i vs) h.value) (sym h.at.image)

    pub put : {g : Grid} {k : ℕ} {gives : List ℕ → ℕ → List ℕ → Type 0} {after : List ℕ} {r : Result ℕ Refused} → RightValues x.image vs g
        → PayloadPut k gives (payload_for x.image vs) → RecordPut s x k gives before after r → Answers (set_quality view place vs s) before after (answer_of r)
    put R P D = rw (goes_on R) (D.is (payload_for x.image vs) P view place h)

-- ---- the payload of right values, as code counts and lays it

module _ {image : Image} {vs : List ℕ} {g : Grid} {k : ℕ} (R : RightValues image vs g) (z : k ≡ 3 + (g.cells * g.bits + 7) / 8) where
  pub right_room : {rest : List ℕ} → k ≤ 32768 → k ≤ length rest → PayloadRoom vs g rest
  right_room m l = record { image = image; right = R; small = omega (arith, z); room = omega (arith, z) }

  pub right_put : {gives : List ℕ → ℕ → List ℕ → Type 0} → ((rest left : List ℕ) (n : ℕ) → gives rest n left → PayloadLaid vs g rest left n) → PayloadPut k gives (payload_for image vs)
  right_put f =
      record {
        bytes = value_bytes_lem (quality_block image) vs;
        least = omega (arith, z, payload_size R);
        exact = λ m. z ∙ sym (payload_size R);
        lays = λ rest left n h. (f rest left n h).is image R;
      }
