-- The views of an accepted record by finger: no two have the same name, so that naming a view by finger is naming it by place. And 13: a
-- call on a view gives it exactly where the bytes read as a record of which no view has the name.
use mathlib.Core.Path.{◌≡◌, refl, ap, ◌∙◌}
use mathlib.Core.Logic.{◌≢◌}
use Prim.Native.Nat.{ℕ, ◌*◌, ◌<◌}
use native.Mathlib.Omega.{arith}
use mathlib.Core.Bool.{Bool}
use mathlib.Core.List.{List, []}
use lib.ListN.{length}
use lib.Dec.{ltb}
use mir.Facts.{ltb_yes, ltb_no}
use Rattle.bits.specs.ChoiceLaws.{pick_case, within_high}
use Rattle.bits.specs.Codec.{Read}
use Rattle.bits.specs.Codec as C
use Rattle.outcome.specs.Refusals.{no_view}
use Rattle.outcome.specs.Outcome.{Outcome, refused}
use Rattle.outcome.proofs.Refusing.{Refused, refused_map}
use Rattle.format.specs.Record.{Record, read}
use Rattle.format.specs.Places.{view_at}
use Rattle.format.specs.Named.{name_of, place_in, NoViewNamed, Means}
use Rattle.format.specs.Call.{from_read, on_record, in_view, on_view, in_segment, on_segment}
use Rattle.format.specs.declared.ViewName.{ViewName}
use Rattle.format.proofs.Laws.Named.{here, none_named, some_named, name_means, unique}
use Rattle.format.proofs.Laws.Record.{read_is}
use Rattle.format.proofs.Laws.Refuses.{read_refuses}
use Rattle.format.proofs.Laws.Call.{on_view_lem, no_view_lem}

module _ (bytes : List ℕ) (r : Record) (e : read bytes ≡ C.got r []) where
  pub names_unique : (i j : ℕ) → i < length r.views → j < length r.views → name_of (view_at r i) ≡ name_of (view_at r j) → i ≡ j
  names_unique = unique r (read_is bytes r [] e).0

  pub by_finger : {A : Type 0} (f : ℕ → Record → Outcome A) (i : ℕ) → i < length r.views → on_view (name_of (view_at r i)) f bytes ≡ f i r
  by_finger f i l = on_view_lem (name_of (view_at r i)) f bytes e (name_means r (read_is bytes r [] e).0 i l)

-- ---- 13

-- a call's own refusals are not 13
abbrev pub Other : {A : Type 0} → Outcome A → Type 0
Other = Refused (λ e p. e ≢ no_view)

-- a refusal with 13 says that no view has the name
abbrev pub SaysNone : {A : Type 0} → ViewName → List ℕ → Outcome A → Type 0
SaysNone view bytes = Refused (λ e p. e ≡ no_view → NoViewNamed view bytes)

module _ {A : Type 0} (view : ViewName) (f : ℕ → Record → Outcome A) (bytes : List ℕ) where
  pub unnamed_refused : NoViewNamed view bytes → on_view view f bytes ≡ refused no_view 0
  unnamed_refused h = no_view_lem view f bytes h.reads (omega (arith, none_named view h.value.views h.none))

  -- the record's refusals are 1 to 12
  pub refused_unnamed : ((i : ℕ) (r : Record) → read bytes ≡ C.got r [] → Means view r i → Other (f i r)) → SaysNone view bytes (on_view view f bytes)
  unfolding on_view on_record
  refused_unnamed own = go (read bytes) refl
    where
      P : ℕ → ℕ → Type 0
      P e p = e ≡ no_view → NoViewNamed view bytes

      go : (o : Read Bool Record) → read bytes ≡ o → Refused P (from_read (8 * length bytes) (in_view view f) o)
      go (C.got r rest) q =
          let k : ℕ = place_in view r.views in
          let d : read bytes ≡ C.got r [] = q ∙ ap (C.got r) (read_is bytes r rest q).3 in
          pick_case (Refused P) (ltb k (length r.views)) _ _
          (λ t. refused_map (λ e p. e ≢ no_view) P (λ e p n z. absurd (n z)) (f k r) (own k r d (here view r (ltb_yes {a = k} t))))
          (λ t _. record {
            value = r;
            reads = d;
            none = λ i l e. absurd (omega (arith, ltb_no {a = k} t, some_named view r.views i l e));
          })
      go (C.refused e left) q = λ z. let (t, _, _) = read_refuses bytes e left q in absurd (omega (arith, within_high 1 12 e t))

-- a call on a segment is one on its view
segment_other : {A : Type 0} (place : ℕ) (f : ℕ → Record → Outcome A) → ((i : ℕ) (r : Record) → Other (f i r))
    → (i : ℕ) (r : Record) → Other (in_segment place f i r)
segment_other place f own i r = pick_case Other (ltb place (length (view_at r i).segments)) _ _ (λ t. own i r) (λ t z. absurd (omega arith))

module _ {A : Type 0} (view : ViewName) (place : ℕ) (f : ℕ → Record → Outcome A) (bytes : List ℕ) where
  pub unnamed_segment : NoViewNamed view bytes → on_segment view place f bytes ≡ refused no_view 0
  unfolding on_segment
  unnamed_segment = unnamed_refused view (in_segment place f) bytes

  pub segment_unnamed : ((i : ℕ) (r : Record) → Other (f i r)) → SaysNone view bytes (on_segment view place f bytes)
  unfolding on_segment
  segment_unnamed own = refused_unnamed view (in_segment place f) bytes (λ i r _ _. segment_other place f own i r)
