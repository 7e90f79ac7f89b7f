-- A segment that is found, its type and the numbers as they are judged: what the call then answers, and that what code lays is the
-- payload.
use mathlib.Core.Path.{◌≡◌, sym, ap, ◌∙◌}
use mathlib.Core.Logic.{◌≢◌}
use Prim.Native.Nat.{ℕ, ◌*◌, ◌≤◌}
use native.Mathlib.Nat.{mul-le-mul}
use native.Mathlib.Omega.{arith}
use mathlib.Core.List.{List}
use lib.ListN.{length}
use Rattle.std.specs.Prelude.{Result}
use lib.Dec.{eqb}
use mir.Facts.{yes_eqb, no_eqb}
use Rattle.bits.specs.ChoiceLaws.{pick_yes, pick_no, split}
use Rattle.outcome.specs.Refusals.{bad_pores}
use Rattle.outcome.specs.Outcome.{Answers}
use Rattle.outcome.specs.declared.Answer.{Answer}
use Rattle.outcome.specs.Why.{answer_of}
use Rattle.outcome.specs.declared.refusal.Refused.{Refused}
use Rattle.outcome.proofs.Laws.{answer_refused}
use Rattle.format.specs.Segments.{sweat_pores}
use Rattle.format.specs.Places.{view_at, segment_at}
use Rattle.format.specs.declared.ViewName.{ViewName}
use Rattle.format.proofs.Laws.Call.{on_segment_lem}
use Rattle.find_segment.specs.Found.{SegmentStands, SegmentRefuses, LinesOf}
use Rattle.find_segment.specs.declared.Spot.{Spot}
use Rattle.rewrite.specs.Rewrite.{rewriting}
use Rattle.rewrite.specs.Called.{values_set, set_in, set_payload}
use Rattle.rewrite_put.specs.Put.{PayloadPut, RecordPut}
use Rattle.pores.specs.Payload.{payload_of}
use Rattle.pores.specs.PayloadLaws.{payload_bytes}
use Rattle.pores.specs.Numbers.{pores_from}
use Rattle.pores.specs.Size.{element_count}
use Rattle.pores.specs.Calls.{pores_format, set_pores}
use Rattle.pores.proofs.Laws.Size.{payload_long}
use Rattle.pores_numbers.specs.Judged.{most_counted, NumbersRight, NumbersBroken}
use Rattle.pores_payload.specs.Payload.{PayloadRoom, PayloadLaid}
use Rattle.pores_payload.proofs.Laws.Listed.{all_listed}
use Rattle.pores_setting.specs.Setting.{counted_size, FewElements}

-- what rewriting the payload of the segment at x answers, whatever name the call has for it
pub record PayloadSet (s : List ℕ) (x : Spot) (vs before after : List ℕ) (a : Answer) : Type 0 where
  pub is : (view : ViewName) (place : ℕ) → SegmentStands s view place x → Answers (set_pores view place vs s) before after a

-- ---- how long the payload is that right numbers make

-- the elements' bits are few
pub few_bits_lem : {e u : ℕ} → FewElements e u → u * e ≤ most_counted * 8
few_bits_lem h = mul-le-mul h.few h.narrow

module _ {lines : ℕ} {vs : List ℕ} {e u : ℕ} (R : NumbersRight lines vs e u) where
  e_right : (2 ≤ e) × (e ≤ 8)
  e_right = let f = (all_listed lines vs R.value R.is).fits in (omega (arith, R.bits, f.low), omega (arith, R.bits, f.high))

  pub few : FewElements e u
  few = record { narrow = e_right.1; few = omega (arith, R.elements) }

  long : length (payload_of R.value) ≡ counted_size e (element_count R.value)
  long = payload_long R.value ∙ ap (λ (b : ℕ). counted_size b (element_count R.value)) (sym R.bits)

  -- it is as long as counted, or longer
  at_least : counted_size e u ≤ length (payload_of R.value)
  at_least =
      let c : ℕ = element_count R.value in
      let l : u ≤ c = omega (arith, R.elements) in
      let k : e ≤ e = omega arith in
      omega (arith, long, mul-le-mul l k)

  -- and a size that a record has room for is right
  pub exact : counted_size e u ≤ 32768 → counted_size e u ≡ length (payload_of R.value)
  exact s =
      split (element_count R.value) most_counted
      (λ l. let z : u ≡ element_count R.value = omega (arith, R.elements) in ap (counted_size e) z ∙ sym long)
      (λ l. let z : most_counted ≤ u = omega (arith, R.elements) in absurd (omega (arith, mul-le-mul z e_right.0)))

-- ---- refused before a segment is found

pub not_found : (vs before : List ℕ) {s : List ℕ} {view : ViewName} {place e p : ℕ} → SegmentRefuses s view place e p
    → Answers (set_pores view place vs s) before before (record { number = e; place = p; length = 0 })
unfolding set_payload
not_found vs before {place = place} h = answer_refused (λ xs. xs) (length before) before (h.is (set_in pores_format place vs))

-- ---- the segment at x

module _ {s : List ℕ} {x : Spot} (vs before : List ℕ) where
  pub other_type : x.kind ≢ sweat_pores → PayloadSet s x vs before before (record { number = bad_pores; place = 0; length = 0 })
  unfolding set_payload
  other_type n =
      record {
        is = λ view place h.
            let a = h.at in
            answer_refused (λ xs. xs) (length before) before
            (on_segment_lem view place (set_in pores_format place vs) s h.reads h.means a.below
            ∙ pick_no (eqb (segment_at (view_at h.value h.i) place).kind sweat_pores) _ _ (no_eqb (λ e. n (a.kind ∙ e))));
      }

  module _ (q : x.kind ≡ sweat_pores) {lines : ℕ} (N : LinesOf s x lines) where
    right_type : {view : ViewName} {place : ℕ} (h : SegmentStands s view place x)
        → set_pores view place vs s ≡ values_set pores_format place h.i h.value (pores_from lines vs)
    unfolding set_payload
    right_type {view} {place} h =
        let a = h.at in
        on_segment_lem view place (set_in pores_format place vs) s h.reads h.means a.below
        ∙ pick_yes (eqb (segment_at (view_at h.value h.i) place).kind sweat_pores) _ _ (yes_eqb (sym a.kind ∙ q))
        ∙ ap (λ (n : ℕ). values_set pores_format place h.i h.value (pores_from n vs)) (sym (N.is h.value h.i place a))

    pub broken : NumbersBroken lines vs → PayloadSet s x vs before before (record { number = bad_pores; place = 0; length = 0 })
    broken B =
        record {
          is = λ view place h.
              answer_refused (λ xs. xs) (length before) before (right_type h ∙ ap (values_set pores_format place h.i h.value) B.is);
        }

    -- ---- accepted so far: the type is right, and the numbers are

    module _ {e u : ℕ} (R : NumbersRight lines vs e u) where
      goes_on : {view : ViewName} {place : ℕ} (h : SegmentStands s view place x) → set_pores view place vs s ≡ rewriting h.i place (payload_of R.value) h.value
      goes_on {place = place} h = right_type h ∙ ap (values_set pores_format place h.i h.value) R.is

      pub put : {k : ℕ} {gives : List ℕ → ℕ → List ℕ → Type 0} {after : List ℕ} {r : Result ℕ Refused} → PayloadPut k gives (payload_of R.value)
          → RecordPut s x k gives before after r → PayloadSet s x vs before after (answer_of r)
      put P D = record { is = λ view place h. rw (goes_on h) (D.is (payload_of R.value) P view place h) }

-- ---- the payload of right numbers, as code counts and lays it

module _ {lines : ℕ} {vs : List ℕ} {e u k : ℕ} (R : NumbersRight lines vs e u) (z : k ≡ counted_size e u) where
  size_right : k ≤ 32768 → k ≡ length (payload_of R.value)
  size_right m = z ∙ exact R (omega (arith, z))

  pub right_room : {rest : List ℕ} → k ≤ 32768 → k ≤ length rest → PayloadRoom lines vs e rest
  right_room m l = record { value = R.value; is = R.is; bits = R.bits; small = omega (arith, size_right m); room = omega (arith, size_right m) }

  pub right_put : {gives : List ℕ → ℕ → List ℕ → Type 0} → ((rest left : List ℕ) (n : ℕ) → gives rest n left → PayloadLaid lines vs rest left n) → PayloadPut k gives (payload_of R.value)
  right_put f =
      record { bytes = payload_bytes R.value; least = omega (arith, z, at_least R); exact = size_right; lays = λ rest left n h. (f rest left n h).is R.value R.is }
