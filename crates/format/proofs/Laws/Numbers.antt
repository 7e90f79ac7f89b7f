-- The numbers and the places of a call on a record, on one of its views, and on a segment of a view: 1 to 12 at the record's places,
-- 13, 23, and those of the call's own outcome.
use mathlib.Core.Path.{◌≡◌, refl}
use Prim.Native.Nat.{ℕ, ◌-◌, ◌*◌, ◌≤◌}
use native.Mathlib.Omega.{arith}
use mathlib.Core.Bool.{Bool}
use mathlib.Core.List.{List}
use lib.ListN.{length}
use lib.Dec.{T, ltb}
use Rattle.bits.specs.ChoiceLaws.{pick_case, within_low, within_high}
use Rattle.bits.specs.Codec.{Read}
use Rattle.bits.specs.Codec as C
use Rattle.outcome.specs.Refusals.{no_view, no_segment}
use Rattle.outcome.specs.Numbers.{among}
use Rattle.outcome.specs.Outcome.{Outcome}
use Rattle.outcome.specs.Placed.{Placed}
use Rattle.outcome.proofs.Refusing.{Refused}
use Rattle.outcome.proofs.Numbers.{RefusedBy}
use Rattle.format.specs.Record.{Record, read}
use Rattle.format.specs.Places.{view_at}
use Rattle.format.specs.Named.{place_in}
use Rattle.format.specs.declared.ViewName.{ViewName}
use Rattle.format.specs.Call.{from_read, on_record, in_view, on_view, in_segment, on_segment}
use Rattle.format.proofs.Laws.Refuses.{read_refuses}

-- ---- what holds of the record's refusals and of the call's holds of all

module _ (P : ℕ → ℕ → Type 0) {A : Type 0} (bytes : List ℕ) (own : (e left : ℕ) → read bytes ≡ C.refused e left → P e (8 * length bytes - left)) where
  on_record_refused : (f : Record → Outcome A) → ((r : Record) → Refused P (f r)) → Refused P (on_record f bytes)
  unfolding on_record
  on_record_refused f h = go (read bytes) refl
    where
      go : (o : Read Bool Record) → read bytes ≡ o → Refused P (from_read (8 * length bytes) f o)
      go (C.got r rest) e = h r
      go (C.refused n left) e = own n left e

-- ---- numbers; the record's are among those of the call

module _ (ranges : List (ℕ × ℕ)) {A : Type 0} where
  pub record_numbers : ((e : ℕ) → 1 ≤ e → e ≤ 12 → T (among ranges e)) → (f : Record → Outcome A) → ((r : Record) → RefusedBy ranges (f r))
      → (bytes : List ℕ) → RefusedBy ranges (on_record f bytes)
  record_numbers own f h bytes =
      on_record_refused (λ e p. T (among ranges e)) bytes
      (λ e left q. let (t, _, _) = read_refuses bytes e left q in own e (within_low 1 12 e t) (within_high 1 12 e t)) f h

  pub view_numbers : ((e : ℕ) → 1 ≤ e → e ≤ 13 → T (among ranges e)) → (view : ViewName) (f : ℕ → Record → Outcome A)
      → ((i : ℕ) (r : Record) → RefusedBy ranges (f i r)) → (bytes : List ℕ) → RefusedBy ranges (on_view view f bytes)
  unfolding on_view
  view_numbers own view f h =
      record_numbers (λ e l k. own e l (omega arith)) (in_view view f) λ r.
      pick_case (RefusedBy ranges) (ltb (place_in view r.views) (length r.views)) _ _ (λ u. h (place_in view r.views) r)
      (λ u. own no_view (omega arith) (omega arith))

  pub segment_numbers_lem : ((e : ℕ) → 1 ≤ e → e ≤ 13 → T (among ranges e)) → T (among ranges no_segment) → (view : ViewName) (place : ℕ) (f : ℕ → Record → Outcome A)
      → ((i : ℕ) (r : Record) → RefusedBy ranges (f i r)) → (bytes : List ℕ) → RefusedBy ranges (on_segment view place f bytes)
  unfolding on_segment
  segment_numbers_lem own none view place f h =
      view_numbers own view (in_segment place f) λ i r. pick_case (RefusedBy ranges) (ltb place (length (view_at r i).segments)) _ _ (λ u. h i r) (λ u. none)

-- ---- places

module _ (bytes : List ℕ) where
  abbrev PlacedHere : ℕ → ℕ → Type 0
  PlacedHere = Placed (8 * length bytes)

  at_record : (e left : ℕ) → read bytes ≡ C.refused e left → PlacedHere e (8 * length bytes - left)
  at_record e left q = (read_refuses bytes e left q).2

  pub record_placed : {A : Type 0} (f : Record → Outcome A) → ((r : Record) → Refused PlacedHere (f r)) → Refused PlacedHere (on_record f bytes)
  record_placed f h = on_record_refused PlacedHere bytes at_record f h

  pub view_placed : {A : Type 0} (view : ViewName) (f : ℕ → Record → Outcome A) → ((i : ℕ) (r : Record) → Refused PlacedHere (f i r))
      → Refused PlacedHere (on_view view f bytes)
  unfolding on_view
  view_placed view f h =
      record_placed (in_view view f) λ r.
      pick_case (Refused PlacedHere) (ltb (place_in view r.views) (length r.views)) _ _ (λ u. h (place_in view r.views) r) (λ u. tt)

  pub segment_placed : {A : Type 0} (view : ViewName) (place : ℕ) (f : ℕ → Record → Outcome A) → ((i : ℕ) (r : Record) → Refused PlacedHere (f i r))
      → Refused PlacedHere (on_segment view place f bytes)
  unfolding on_segment
  segment_placed view place f h =
      view_placed view (in_segment place f) λ i r. pick_case (Refused PlacedHere) (ltb place (length (view_at r i).segments)) _ _ (λ u. h i r) (λ u. tt)
