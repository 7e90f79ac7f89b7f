-- A segment that is found, its type, its payload as it is judged, and the room: what the call then answers.
use mathlib.Core.Path.{◌≡◌, sym, ap, ap₂, ◌∙◌}
use mathlib.Core.Logic.{◌≢◌}
use Prim.Native.Nat.{ℕ, ◌-◌, ◌*◌, ◌/◌, ◌≤◌, ◌<◌}
use native.Mathlib.Omega.{arith}
use mathlib.Core.Option.{none}
use mathlib.Core.List.{List}
use lib.ListN.{length}
use lib.Dec.{eqb}
use mir.Facts.{yes_eqb, no_eqb}
use Rattle.bits.specs.ChoiceLaws.{pick_yes, pick_no}
use Rattle.bits.proofs.Laws.Parts.{part, part_length}
use Rattle.put_bytes.specs.Laid.{Laid}
use Rattle.put_bytes.specs.HighFirst.{four, joined}
use Rattle.outcome.specs.Refusals.{bad_pores, no_room}
use Rattle.outcome.specs.Outcome.{given, AnswersInFours}
use Rattle.outcome.specs.declared.Answer.{Answer}
use Rattle.outcome.proofs.Laws.{answer_refused, answer_full, answer_given}
use Rattle.format.specs.Segments.{sweat_pores}
use Rattle.format.specs.Places.{view_at, segment_at}
use Rattle.format.specs.declared.ViewName.{ViewName}
use Rattle.format.proofs.Laws.Call.{on_segment_lem}
use Rattle.find_segment.specs.Found.{SegmentStands, SegmentRefuses, SpotThere, LinesOf}
use Rattle.find_segment.specs.declared.Spot.{Spot}
use Rattle.find_segment.proofs.Laws.{bounds}
use Rattle.rewrite.specs.Called.{values_given, read_in, read_payload}
use Rattle.pores.specs.Payload.{pores_in}
use Rattle.pores.specs.Numbers.{numbers_of}
use Rattle.pores.specs.NumbersLaws.{fours_long}
use Rattle.pores.specs.Calls.{pores_format, pores}
use Rattle.pores_judge.specs.Judged.{PayloadThere, RightPayload}
use Rattle.pores_values.specs.Put.{NumbersLaid}

-- what reading the numbers of the segment at x answers, whatever name the call has for it
pub record NumbersGiven (s : List ℕ) (x : Spot) (before after : List ℕ) (a : Answer) : Type 0 where
  pub is : (view : ViewName) (place : ℕ) → SegmentStands s view place x → AnswersInFours (pores view place s) before after a

-- ---- refused before a segment is found

pub not_found : {s : List ℕ} {view : ViewName} {place e p : ℕ} (before : List ℕ) → SegmentRefuses s view place e p
    → AnswersInFours (pores view place s) before before (record { number = e; place = p; length = 0 })
unfolding read_payload
not_found {place = place} before h = answer_refused (joined four) (length before / 4) before (h.is (read_in pores_format place))

-- ---- the segment at x

-- its payload, as code cuts it out
abbrev pub payload : List ℕ → Spot → List ℕ
payload s x = part s x.payload.from (x.payload.to - x.payload.from)

module _ {s : List ℕ} {x : Spot} where
  pub payload_there : SpotThere s x → PayloadThere (payload s x)
  payload_there t =
      let b = bounds t.stands in
      record { short = omega (arith, b, part_length s x.payload.from (x.payload.to - x.payload.from) (omega (arith, b))) }

  module _ (before : List ℕ) where
    pub other_type : x.kind ≢ sweat_pores → NumbersGiven s x before before (record { number = bad_pores; place = 0; length = 0 })
    unfolding read_payload
    other_type n =
        record {
          is = λ view place h.
              let a = h.at in
              answer_refused (joined four) (length before / 4) before
              (on_segment_lem view place (read_in pores_format place) s h.reads h.means a.below
              ∙ pick_no (eqb (segment_at (view_at h.value h.i) place).kind sweat_pores) _ _ (no_eqb (λ e. n (a.kind ∙ e))));
        }

    module _ (k : x.kind ≡ sweat_pores) {n : ℕ} (N : LinesOf s x n) where
      -- the outcome is what its payload says
      says : {view : ViewName} {place : ℕ} → SegmentStands s view place x → pores view place s ≡ values_given pores_format (pores_in n (payload s x))
      unfolding read_payload
      says {view} {place} h =
          let a = h.at in
          on_segment_lem view place (read_in pores_format place) s h.reads h.means a.below
          ∙ pick_yes (eqb (segment_at (view_at h.value h.i) place).kind sweat_pores) _ _ (yes_eqb (sym a.kind ∙ k))
          ∙ ap₂ (λ (m : ℕ) (p : List ℕ). values_given pores_format (pores_in m p)) (sym (N.is h.value h.i place a)) (sym a.is)

      pub broken : pores_in n (payload s x) ≡ none → NumbersGiven s x before before (record { number = bad_pores; place = 0; length = 0 })
      broken e = record { is = λ view place h. answer_refused (joined four) (length before / 4) before (says h ∙ ap (values_given pores_format) e) }

      module _ {e numbers : ℕ} (R : RightPayload n (payload s x) e numbers) where
        gives : {view : ViewName} {place : ℕ} → SegmentStands s view place x → pores view place s ≡ given (numbers_of R.value)
        gives h = says h ∙ ap (values_given pores_format) R.says

        pub no_room_lem : length before / 4 < numbers → NumbersGiven s x before before (record { number = no_room; place = 0; length = 0 })
        no_room_lem l = record { is = λ view place h. answer_full (joined four) (length before / 4) before (gives h) (omega (arith, R.count)) }

        pub numbers_given : {after : List ℕ} {m : ℕ} → numbers ≤ length before / 4 → NumbersLaid n (payload s x) before after m
            → NumbersGiven s x before after (record { number = 0; place = 0; length = m })
        numbers_given {after} {m} l D =
            let L : Laid (joined four (numbers_of R.value)) before after (4 * m) = D.is R.value R.says in
            record {
              is = λ view place h.
                  answer_given (joined four) (length before / 4) before (gives h) after m (omega (arith, R.count))
                  (omega (arith, L.count, fours_long (numbers_of R.value))) L.is;
            }
