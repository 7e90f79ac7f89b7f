-- A call on a record, on one of its views, and on a segment of a view: an accepted record that has what is named has the call's own
-- outcome, and whatever is given comes of such a record.
use mathlib.Core.Path.{◌≡◌, refl, sym, ap, ◌∙◌}
use mathlib.Core.Logic.{◌≢◌}
use Prim.Native.Nat.{ℕ, ◌*◌, ◌≤◌, ◌<◌}
use native.Mathlib.Omega.{arith}
use mathlib.Core.Bool.{Bool}
use mathlib.Core.List.{List}
use lib.ListN.{length}
use lib.Dec.{ltb, ltb→lt}
use mir.Facts.{yes_ltb, no_ltb}
use Rattle.bits.specs.ChoiceLaws.{pick_yes, pick_no, pick_split, within_high}
use Rattle.bits.specs.Bits.{Bits}
use Rattle.bits.specs.Codec.{Read}
use Rattle.bits.specs.Codec as C
use Rattle.outcome.specs.Refusals.{no_view, no_segment}
use Rattle.outcome.specs.Outcome.{Outcome, refused, given}
use Rattle.format.specs.Record.{Record, read}
use Rattle.format.specs.Places.{view_at}
use Rattle.format.specs.Named.{place_in, Means}
use Rattle.format.specs.declared.ViewName.{ViewName}
use Rattle.format.specs.Call.{from_read, on_record, in_view, on_view, in_segment, on_segment}
use Rattle.format.proofs.Laws.Named.{here}
use Rattle.format.proofs.Laws.Refuses.{read_refuses}

pub on_record_lem : {A : Type 0} (f : Record → Outcome A) (bytes : List ℕ) (r : Record) (rest : Bits) → read bytes ≡ C.got r rest → on_record f bytes ≡ f r
unfolding on_record
on_record_lem f bytes r rest p = ap (from_read (8 * length bytes) f) p

pub given_record : {A P : Type 0} (f : Record → Outcome A) (bytes : List ℕ) (xs : List A) → on_record f bytes ≡ given xs
    → ((r : Record) (rest : Bits) → read bytes ≡ C.got r rest → f r ≡ given xs → P) → P
unfolding on_record
given_record {A} {P} f bytes xs p k = go (read bytes) refl p
  where
    go : (o : Read Bool Record) → read bytes ≡ o → from_read (8 * length bytes) f o ≡ given xs → P
    go (C.got r rest) e h = k r rest e h
    go (C.refused n l) e h = let z : ◌≡◌ {A = ℕ} 0 1 = cc in absurd (omega arith)

-- a refusal with another number than 1 to 12 is the call's own
pub own_record : {A P : Type 0} (f : Record → Outcome A) (bytes : List ℕ) (e p : ℕ) → 12 < e → on_record f bytes ≡ refused e p
    → ((r : Record) (rest : Bits) → read bytes ≡ C.got r rest → f r ≡ refused e p → P) → P
unfolding on_record
own_record {A} {P} f bytes e p l h k = go (read bytes) refl h
  where
    go : (o : Read Bool Record) → read bytes ≡ o → from_read (8 * length bytes) f o ≡ refused e p → P
    go (C.got r rest) q g = k r rest q g
    go (C.refused m left) q g =
        let z : m ≡ e = cc in
        let (t, _, _) = read_refuses bytes m left q in
        absurd (omega (arith, within_high 1 12 m t))

-- two calls that say the same of the record that is read say the same of the bytes
pub same_record : {A : Type 0} (f g : Record → Outcome A) (bytes : List ℕ) → ((r : Record) (rest : Bits) → read bytes ≡ C.got r rest → f r ≡ g r)
    → on_record f bytes ≡ on_record g bytes
unfolding on_record
same_record f g bytes h = go (read bytes) refl
  where
    go : (o : Read Bool Record) → read bytes ≡ o → from_read (8 * length bytes) f o ≡ from_read (8 * length bytes) g o
    go (C.got r rest) e = h r rest e
    go (C.refused n left) e = refl

-- ---- a call on a view

module _ {A : Type 0} (view : ViewName) (f : ℕ → Record → Outcome A) (bytes : List ℕ) where
  module _ {r : Record} {rest : Bits} (p : read bytes ≡ C.got r rest) where
    pub on_view_lem : {i : ℕ} → Means view r i → on_view view f bytes ≡ f i r
    unfolding on_view
    on_view_lem m =
        let k : ℕ = place_in view r.views in
        on_record_lem (in_view view f) bytes r rest p ∙ pick_yes (ltb k (length r.views)) _ _ (yes_ltb {a = k} (omega (arith, m.is, m.there)))
        ∙ ap (λ (i : ℕ). f i r) m.is

    pub no_view_lem : length r.views ≤ place_in view r.views → on_view view f bytes ≡ refused no_view 0
    unfolding on_view
    no_view_lem l =
        let k : ℕ = place_in view r.views in
        on_record_lem (in_view view f) bytes r rest p ∙ pick_no (ltb k (length r.views)) _ _ (no_ltb {a = k} l)

  pub given_view : {P : Type 0} (xs : List A) → on_view view f bytes ≡ given xs
      → ((r : Record) (rest : Bits) (i : ℕ) → read bytes ≡ C.got r rest → Means view r i → f i r ≡ given xs → P) → P
  unfolding on_view
  given_view xs h k =
      given_record (in_view view f) bytes xs h λ r rest e g.
      let i : ℕ = place_in view r.views in
      pick_split (ltb i (length r.views)) _ _ g (λ t q. k r rest i e (here view r (ltb→lt i (length r.views) t)) q)
      (λ t q. let z : ◌≡◌ {A = ℕ} 0 1 = cc in absurd (omega arith))

  -- a refusal with another number than 1 to 13 is the call's own
  pub own_view : {P : Type 0} (e p : ℕ) → 13 < e → on_view view f bytes ≡ refused e p
      → ((r : Record) (rest : Bits) (i : ℕ) → read bytes ≡ C.got r rest → Means view r i → f i r ≡ refused e p → P) → P
  unfolding on_view
  own_view e p l h k =
      own_record (in_view view f) bytes e p (omega arith) h λ r rest q g.
      let i : ℕ = place_in view r.views in
      pick_split (ltb i (length r.views)) _ _ g (λ t y. k r rest i q (here view r (ltb→lt i (length r.views) t)) y)
      (λ t y. let z : no_view ≡ e = cc in absurd (omega arith))

-- ---- a call on a segment

module _ {A : Type 0} (view : ViewName) (place : ℕ) (f : ℕ → Record → Outcome A) (bytes : List ℕ) where
  module _ {r : Record} {rest : Bits} (p : read bytes ≡ C.got r rest) {i : ℕ} (m : Means view r i) where
    pub on_segment_lem : place < length (view_at r i).segments → on_segment view place f bytes ≡ f i r
    unfolding on_segment
    on_segment_lem k = on_view_lem view (in_segment place f) bytes p m ∙ pick_yes (ltb place (length (view_at r i).segments)) _ _ (yes_ltb {a = place} k)

    pub no_segment_lem : length (view_at r i).segments ≤ place → on_segment view place f bytes ≡ refused no_segment 0
    unfolding on_segment
    no_segment_lem k = on_view_lem view (in_segment place f) bytes p m ∙ pick_no (ltb place (length (view_at r i).segments)) _ _ (no_ltb {a = place} k)

  pub given_segment : {P : Type 0} (xs : List A) → on_segment view place f bytes ≡ given xs
      → ((r : Record) (rest : Bits) (i : ℕ) → read bytes ≡ C.got r rest → Means view r i → place < length (view_at r i).segments
      → f i r ≡ given xs → P) → P
  unfolding on_segment
  given_segment xs h k =
      given_view view (in_segment place f) bytes xs h λ r rest i e m g.
      pick_split (ltb place (length (view_at r i).segments)) _ _ g (λ t q. k r rest i e m (ltb→lt place (length (view_at r i).segments) t) q)
      (λ t q. let z : ◌≡◌ {A = ℕ} 0 1 = cc in absurd (omega arith))

  -- a refusal with another number than 1 to 13 and 23 is the call's own
  pub own_segment : {P : Type 0} (e p : ℕ) → 13 < e → e ≢ no_segment → on_segment view place f bytes ≡ refused e p
      → ((r : Record) (rest : Bits) (i : ℕ) → read bytes ≡ C.got r rest → Means view r i → place < length (view_at r i).segments
      → f i r ≡ refused e p → P) → P
  unfolding on_segment
  own_segment e p l n h k =
      own_view view (in_segment place f) bytes e p l h λ r rest i q m g.
      pick_split (ltb place (length (view_at r i).segments)) _ _ g (λ t y. k r rest i q m (ltb→lt place (length (view_at r i).segments) t) y)
      (λ t y. let z : no_segment ≡ e = cc in absurd (n (sym z)))
