-- When the calls on a card's object answer 0, 27 and 28.
use mathlib.Core.Path.{◌≡◌, refl, sym, ap, ◌∙◌, subst}
use mathlib.Core.Logic.{inl, inr}
use Prim.Native.Nat.{ℕ, ◌*◌}
use native.Mathlib.Omega.{arith}
use mathlib.Core.Option.{Option, none, some}
use mathlib.Core.Bool.{Bool}
use mathlib.Core.List.{List}
use lib.ListN.{length}
use lib.Dec.{T, leb}
use mir.Facts.{T_not}
use Rattle.bits.specs.ChoiceLaws.{pick_split, within_high}
use Rattle.bits.specs.Bytes.{bits_of}
use Rattle.bits.specs.Codec.{Read, got}
use Rattle.bits.specs.Codec as C
use Rattle.bits.proofs.Laws.Refuses.{refused_by}
use Rattle.bits.proofs.Laws.Nested.{sifted_out}
use Rattle.outcome.specs.Refusals.{bad_object, other_scale}
use Rattle.outcome.specs.Outcome.{Outcome, refused, room, number_of, Answers}
use Rattle.outcome.specs.declared.Answer.{Answer}
use Rattle.outcome.proofs.Laws.{not_given, room_zero, zero_room, own_number}
use Rattle.format.specs.Limits.{most_bytes}
use Rattle.format.specs.Record.{size}
use Rattle.format.specs.Call.{from_read}
use Rattle.format.specs.declared.Scale.{Scale}
use Rattle.format.specs.declared.ViewName.{ViewName}
use Rattle.format.proofs.Laws.Size.{write_long}
use Rattle.format.proofs.Laws.Record.{read_is}
use Rattle.format.proofs.Laws.Call.{own_view}
use Rattle.card.specs.Object.{Card}
use Rattle.card.specs.Size.{scale_of, same_scale}
use Rattle.card.specs.Card.{Content, shape, content, card, record_of_card, record_given, card_read, object_given, card_write}
use Rattle.card.specs.Accepted.{its_record, AcceptedCardRead, WrongObject, AcceptedCardWrite, OtherScale}
use Rattle.card.proofs.Laws.Calls.{read_none, read_in_lem, write_none, write_in, read_given, reads_given, same_itself, write_given, written_given, other_given}
use Rattle.card.proofs.Laws.Numbers.{read_never, write_never, shape_refuses, RefusedObject, by_shape, by_block, card_refusal}

module _ {before after : List ℕ} {a : Answer} where
  -- ---- reading

  pub read_accepted : (size_number : ℕ) (object : List ℕ) → Answers (card_read size_number object) before after a → a.number ≡ 0 → AcceptedCardRead size_number object (length before)
  read_accepted size_number object h z =
      room_zero (length before) (read_never size_number object) (sym h.number ∙ z) λ xs g l.
      let (x, e) = read_given size_number object xs g in
      record { at = x; room = omega (arith, ap length e, write_long (its_record x)) }

  pub accepted_read : (size_number : ℕ) (object : List ℕ) → Answers (card_read size_number object) before after a → AcceptedCardRead size_number object (length before) → a.number ≡ 0
  accepted_read size_number object h x =
      h.number ∙ zero_room (length before) (reads_given x.at) (omega (arith, x.room, write_long (its_record x.at)))

  -- ---- writing

  pub write_accepted : (size_number : ℕ) (view : ViewName) (bytes : List ℕ) → Answers (card_write size_number view bytes) before after a → a.number ≡ 0
      → AcceptedCardWrite size_number view bytes (length before)
  write_accepted size_number view bytes h z =
      room_zero (length before) (write_never size_number view bytes) (sym h.number ∙ z) λ xs g l.
      let (x, same, e) = write_given size_number view bytes xs g in
      record { at = x; same = same; room = omega (arith, ap length e) }

  pub accepted_write : (size_number : ℕ) (view : ViewName) (bytes : List ℕ) → Answers (card_write size_number view bytes) before after a
      → AcceptedCardWrite size_number view bytes (length before) → a.number ≡ 0
  accepted_write size_number view bytes h x = h.number ∙ zero_room (length before) (written_given x.at x.same) x.room

  -- ---- 27

  pub read_wrong : (size_number : ℕ) (object : List ℕ) → Answers (card_read size_number object) before after a → a.number ≡ bad_object → WrongObject size_number object
  read_wrong size_number object h z =
      let (p, q) = own_number (λ y. absurd (omega arith)) (λ y. absurd (omega arith)) (length before) _ (sym h.number ∙ z) in
      sized (scale_of size_number) refl q
    where
      at : (scale : Scale) {p : ℕ} (o : Read Bool Content) → (card scale.widths).dec (bits_of object) ≡ o
          → from_read (8 * length object) (record_given scale) o ≡ refused bad_object p → WrongObject size_number object
      at scale (got c r) d g =
          pick_split (leb (size (record_of_card scale c)) most_bytes) _ _ g (λ t y. not_given (sym y)) (λ t y. let k : ◌≡◌ {A = ℕ} 19 27 = cc in absurd (omega arith))
      at scale (C.refused e l) d g = of_refusal (card_refusal scale.widths object d) (cc)
        where
          of_refusal : RefusedObject object e l → e ≡ bad_object → WrongObject size_number object
          of_refusal (by_shape x y n) k = inr n
          of_refusal (by_block t y) k = absurd (omega (arith, within_high 8 10 e t))

      sized : (o : Option Scale) → scale_of size_number ≡ o → {p : ℕ} → card_read size_number object ≡ refused bad_object p → WrongObject size_number object
      sized none e q = inl e
      sized (some scale) e q = at scale ((card scale.widths).dec (bits_of object)) refl (sym (read_in_lem size_number e object) ∙ q)

  pub wrong_read : (size_number : ℕ) (object : List ℕ) → Answers (card_read size_number object) before after a → WrongObject size_number object → a.number ≡ bad_object
  unfolding card
  wrong_read size_number object h (inl e) = h.number ∙ ap (λ (o : Outcome ℕ). number_of (room (length before) o)) (read_none size_number object e)
  wrong_read size_number object h (inr n) = h.number ∙ sized (scale_of size_number) refl
    where
      shapeless : (o : Read Bool (Card (List ℕ) (List ℕ))) → shape.dec (bits_of object) ≡ o → {scale : Scale} → scale_of size_number ≡ some scale
          → number_of (room (length before) (card_read size_number object)) ≡ bad_object
      shapeless (got c r) d e = absurd (n c r d)
      shapeless (C.refused x l) d {scale} e =
          let k : bad_object ≡ x = (refused_by (shape_refuses.at (bits_of object)) d).0 in
          ap (λ (o : Outcome ℕ). number_of (room (length before) o)) (read_in_lem size_number e object ∙ ap (from_read (8 * length object) (record_given scale)) (sifted_out shape (content scale.widths) d)) ∙ sym k

      sized : (o : Option Scale) → scale_of size_number ≡ o → number_of (room (length before) (card_read size_number object)) ≡ bad_object
      sized none e = ap (λ (o : Outcome ℕ). number_of (room (length before) o)) (read_none size_number object e)
      sized (some scale) e = shapeless (shape.dec (bits_of object)) refl e

  -- ---- 28

  pub write_other : (size_number : ℕ) (view : ViewName) (bytes : List ℕ) → Answers (card_write size_number view bytes) before after a → a.number ≡ other_scale → OtherScale size_number view bytes
  write_other size_number view bytes h z =
      let (p, q) = own_number (λ y. absurd (omega arith)) (λ y. absurd (omega arith)) (length before) _ (sym h.number ∙ z) in
      sized (scale_of size_number) refl q
    where
      sized : (o : Option Scale) → scale_of size_number ≡ o → {p : ℕ} → card_write size_number view bytes ≡ refused other_scale p → OtherScale size_number view bytes
      sized none e {p} q =
          let k : ◌≡◌ {A = Outcome ℕ} (refused bad_object 0) (refused other_scale p) = sym (write_none size_number view bytes e) ∙ q in
          let z : ◌≡◌ {A = ℕ} 27 28 = cc in absurd (omega arith)
      sized (some scale) e {p} q =
          own_view view (object_given scale) bytes other_scale p (omega arith) (sym (write_in size_number e view bytes) ∙ q) λ r rest i d m g.
          pick_split (same_scale r.head.scale scale) _ _ g (λ t y. not_given (sym y))
          (λ t y. record {
            at = record { scale = scale; known = e; value = r; reads = d ∙ ap (got r) (read_is bytes r rest d).3; i = i; means = m };
            other = λ same. T_not (same_scale r.head.scale scale) (subst (λ (s : Scale). T (same_scale s scale)) (sym same) (same_itself scale)) t;
          })

  pub other_write : (size_number : ℕ) (view : ViewName) (bytes : List ℕ) → Answers (card_write size_number view bytes) before after a → OtherScale size_number view bytes → a.number ≡ other_scale
  other_write size_number view bytes h x = h.number ∙ ap (λ (o : Outcome ℕ). number_of (room (length before) o)) (other_given x.at x.other)
