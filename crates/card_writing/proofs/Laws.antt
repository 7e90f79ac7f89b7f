-- From the parts of an object to the object, and from a view that is found to the outcome of the call.
use mathlib.Core.Path.{◌≡◌, refl, sym, ap, subst, ◌∙◌}
use Prim.Native.Nat.{ℕ, ◌+◌, ◌-◌, ◌/◌, ◌%◌, ◌≤◌, ◌<◌}
use native.Mathlib.Omega.{arith}
use mathlib.Core.Bool.{true, false}
use mathlib.Core.Option.{some}
use mathlib.Core.List.{List, [], ◌∷◌, ◌++◌}
use lib.ListN.{length, set}
use Rattle.bits.specs.ChoiceLaws.{pick_yes, pick_no}
use Rattle.bits.specs.Lists.{All}
use Rattle.bits.specs.Bytes.{Byte}
use Rattle.put_bytes.specs.Laid.{Laid}
use Rattle.put_bytes.specs.HighFirst.{two, start}
use Rattle.put_bytes.proofs.Laws.{stored}
use Rattle.outcome.specs.Refusals.{other_scale}
use Rattle.outcome.specs.Outcome.{refused, given}
use Rattle.format.specs.Record.{Record}
use Rattle.format.specs.Places.{view_at}
use Rattle.format.specs.declared.Scale.{Scale}
use Rattle.format.specs.declared.ViewName.{ViewName}
use Rattle.format.proofs.Laws.Call.{on_view_lem}
use Rattle.format.proofs.Laws.Record.{read_back}
use Rattle.find_parts.specs.declared.view.Blocks.{Blocks}
use Rattle.find_parts.proofs.Laws.Blocks.{cut}
use Rattle.find_view.specs.Found.{Stands, Refuses}
use Rattle.card.specs.Size.{scale_of, same_scale}
use Rattle.card.specs.Card.{card_of_view, object_of, object_given, card_write}
use Rattle.card.specs.Stored.{length_out, object90_out, object_out}
use Rattle.card.proofs.Laws.Written.{short_out, middle_out, long_out, inner_long, object_written}
use Rattle.card.proofs.Laws.Views.{same_scale_is, object_long, view_short, value_stands}
use Rattle.card.proofs.Laws.Calls.{write_in}
use Rattle.card_writing.specs.Writing.{LengthLaid, TaggedBytes, ObjectLaid}

-- ---- a length

module _ (n : ℕ) {d : List ℕ} where
  pub short_laid : n < 128 → 1 ≤ length d → LengthLaid n d (set d 0 (n % 256)) 1
  short_laid l r =
      let e : n % 256 ≡ n = omega arith in
      record { laid = rw (short_out n l) (record { count = refl; is = stored d (n ∷ []) (n % 256 ∷ []) r (ap (λ (x : ℕ). x ∷ []) e) }) }

  module _ {after : List ℕ} {r : ℕ} where
    pub middle_laid : 128 ≤ n → n < 256 → Laid (two (0x8100 + n)) d after r → LengthLaid n d after r
    middle_laid l h k =
        let a : (0x8100 + n) / 256 ≡ 0x81 = omega arith in
        let b : (0x8100 + n) % 256 ≡ n = omega arith in
        record { laid = rw (middle_out n l h) (rw (a, b) at k) }

    pub long_laid : 256 ≤ n → Laid (start 0x82 n) d after r → LengthLaid n d after r
    long_laid l k = record { laid = rw (long_out n l) k }

-- ---- the object with this value

module _ (value : List ℕ) {m : ℕ} (a : TaggedBytes 1 (length value) m) where
  pub inner_is : m ≡ length (object90_out value)
  inner_is = a.is ∙ sym (inner_long value)

  pub template_long : length (object_out value) ≡ 2 + length (length_out m) + length (object90_out value)
  template_long = object_long value ∙ ap (λ (k : ℕ). 2 + length (length_out k) + length (object90_out value)) (sym inner_is)

  pub whole_is : {r : ℕ} → TaggedBytes 2 m r → r ≡ length (object_out value)
  whole_is b = omega (arith, b.is, inner_is, template_long)

  pub object_laid : {d after : List ℕ} {r : ℕ} → Laid ((two 0x7F2E ++ length_out m) ++ object90_out value) d after r → ObjectLaid value d after r
  object_laid {d} {after} {r} h = record { laid = subst (λ (k : ℕ). Laid ((two 0x7F2E ++ length_out k) ++ object90_out value) d after r) inner_is h }

-- ---- a view that is found

module _ {s : List ℕ} {view : ViewName} {c : Scale} {x : Blocks} (h : Stands s view c x) where
  object_is : All Byte s → object_of h.value.head.scale.widths (card_of_view (view_at h.value h.place)) ≡ object_out (cut s (x.skeleton.from - 6) x.index.to)
  object_is bytes =
      let r : Record = h.value in
      let (a, _, _) = read_back s r [] bytes h.reads in
      object_written r.head.scale.widths (card_of_view (view_at r h.place)) (view_short r h.place h.means.there a) refl
      ∙ ap object_out (sym (value_stands r h.place h.means.there bytes h.reads h.blocks))

-- ---- the outcome of the call

module _ (size : ℕ) (view : ViewName) (s : List ℕ) {t : Scale} (e : scale_of size ≡ some t) where
  pub refused_is : {number place : ℕ} → Refuses s view number place → card_write size view s ≡ refused number place
  refused_is h = write_in size e view s ∙ h.is (object_given t)

  module _ {c : Scale} {x : Blocks} (h : Stands s view c x) where
    found_is : card_write size view s ≡ object_given t h.place h.value
    found_is = write_in size e view s ∙ on_view_lem view (object_given t) s h.reads h.means

    pub other_is : same_scale c t ≡ false → card_write size view s ≡ refused other_scale 0
    other_is n = found_is ∙ pick_no (same_scale h.value.head.scale t) _ _ (rw (← h.scale, n) tt)

    pub given_is : All Byte s → same_scale c t ≡ true → card_write size view s ≡ given (object_out (cut s (x.skeleton.from - 6) x.index.to))
    given_is bytes y =
        let z : t ≡ h.value.head.scale = sym (same_scale_is c t y) ∙ h.scale in
        found_is ∙ pick_yes (same_scale h.value.head.scale t) _ _ (rw (← h.scale, y) tt)
        ∙ ap (λ (k : Scale). given (object_of k.widths (card_of_view (view_at h.value h.place)))) z ∙ ap given (object_is h bytes)
