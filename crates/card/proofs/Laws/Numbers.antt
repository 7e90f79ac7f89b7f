-- The numbers and the places of the calls on a card's object: an object is refused with 27 at place 0, or by a block of it, within it; and
-- 27 is for a wrong size or shape alone.
use mathlib.Core.Path.{◌≡◌, refl, sym, ap, ◌∙◌, subst}
use mathlib.Core.Logic.{◌≢◌}
use Prim.Native.Nat.{ℕ, ◌-◌, ◌*◌, ◌≤◌}
use native.Mathlib.Omega.{arith}
use native.Mathlib.Nat.{sub_self}
use mathlib.Core.Bool.{Bool}
use mathlib.Core.Option.{Option, none, some}
use mathlib.Core.List.{List}
use lib.ListN.{length, drop}
use lib.Dec.{T, leb, le→leb}
use Rattle.bits.specs.Choice.{within}
use Rattle.bits.specs.ChoiceLaws.{pick_case, within_low, within_high, within_yes, T_true}
use Rattle.bits.specs.Bits.{Bits}
use Rattle.bits.specs.Bytes.{bits_of}
use Rattle.bits.specs.BytesLaws.{length_bits_of}
use Rattle.bits.specs.Codec.{Read, got}
use Rattle.bits.specs.Codec as C
use Rattle.bits.specs.Block.{Block}
use Rattle.bits.proofs.Laws.Refuses.{Refuses, refused_by, refusing}
use Rattle.bits.proofs.Laws.Nested.{sifted_out, sifted_on}
use Rattle.outcome.specs.Refusals.{bad_object, too_long, other_scale}
use Rattle.outcome.specs.Numbers.{among, Gives, card_read_numbers, card_write_numbers}
use Rattle.outcome.specs.Placed.{Placed}
use Rattle.outcome.specs.Outcome.{refused, given, Answers}
use Rattle.outcome.specs.declared.Answer.{Answer}
use Rattle.outcome.proofs.Refusing.{Refused, refused_map}
use Rattle.outcome.proofs.Numbers.{RefusedBy, answer_number, never_zero, among_first}
use Rattle.outcome.proofs.Placed.{answer_place, no_place}
use Rattle.format.specs.Limits.{most_bytes}
use Rattle.format.specs.Line.{skeleton}
use Rattle.format.specs.Index.{index_block}
use Rattle.format.specs.Record.{Record, write, size}
use Rattle.format.specs.Call.{from_read}
use Rattle.format.specs.declared.Widths.{Widths}
use Rattle.format.specs.declared.Scale.{Scale}
use Rattle.format.specs.declared.ViewName.{ViewName}
use Rattle.format.proofs.Laws.Refuses.{skeleton_refuses, index_block_refuses}
use Rattle.format.proofs.Laws.Numbers.{view_numbers, view_placed}
use Rattle.card.specs.Length.{object_length}
use Rattle.card.specs.Object.{Card, other}
use Rattle.card.specs.Size.{scale_of, same_scale}
use Rattle.card.specs.Card.{Content, shape, content, card, record_of_card, record_given, card_read, object_given, card_write}
use Rattle.card.specs.Accepted.{NoShape}
use Rattle.card.proofs.Laws.Sifted.{Settled, right, wrong, card_settled}
use Rattle.card.proofs.Laws.Calls.{read_none, read_in_lem, write_none, write_in}

-- ---- who refuses with which number

abbrev pub OfBlocks : ℕ → Type 0
OfBlocks e = T (within 8 10 e)

length_refuses : (P : ℕ → Type 0) → P bad_object → Refuses P object_length.dec
unfolding object_length
length_refuses P p = search refusing depth 12

other_refuses : (P : ℕ → Type 0) → P bad_object → Refuses P other.dec
unfolding other
other_refuses P p = search (refusing, length_refuses) depth 12

pub shape_refuses : Refuses (λ e. bad_object ≡ e) shape.dec
unfolding shape
shape_refuses = search (refusing, length_refuses, other_refuses, refl) depth 20

-- a block is read to its end, or refuses
block_settled : {A : Type 0} (b : Block A) {Q : ℕ → Type 0} → Refuses Q b.dec → (x : Bits) → Settled Q (b.dec x)
block_settled b {Q} h x = go (b.dec x) refl
  where
    go : (o : Read Bool _) → b.dec x ≡ o → Settled Q o
    go (got a r) e = subst (λ (q : Bits). Settled Q (got a q)) (sym (b.all x a r e)) right
    go (C.refused e l) d = wrong (refused_by (h.at x) d).0

content_refuses : (w : Widths) → Refuses (λ e. Unit {0}) (content w).dec
unfolding content
content_refuses w = search (refusing, length_refuses, other_refuses, skeleton_refuses, index_block_refuses) depth 20

-- ---- a refused object

-- by its shape, at its start; or by a block of it
pub data RefusedObject (object : List ℕ) (e left : ℕ) : Type 0 where
  by_shape : e ≡ bad_object → left ≡ 8 * length object → NoShape object → RefusedObject object e left
  by_block : OfBlocks e → left ≤ 8 * length object → RefusedObject object e left

module _ (w : Widths) (object : List ℕ) where
  abbrev z : Bits
  z = bits_of object

  content_settled : {c : Card (List ℕ) (List ℕ)} {r : Bits} → shape.dec z ≡ got c r → Settled OfBlocks ((content w).dec z)
  unfolding shape content
  content_settled {c} {r} d =
      card_settled OfBlocks (skeleton w) (λ lines. index_block (length lines))
      (λ x l. block_settled (skeleton w) (skeleton_refuses OfBlocks w tt tt) x)
      (λ lines y l. block_settled (index_block (length lines)) (index_block_refuses OfBlocks (length lines) tt) y)
      z c (omega (arith, length_bits_of object)) (d ∙ ap (got c) (shape.all z c r d))

  settled_number : {A : Type 0} {o : Read Bool A} {e l : ℕ} → Settled OfBlocks o → o ≡ C.refused e l → OfBlocks e
  settled_number {A} {e = e} {l = l} h d = go (subst (Settled OfBlocks) d h)
    where
      go : Settled {A = A} OfBlocks (C.refused e l) → OfBlocks e
      go (wrong q) = q

  pub card_refusal : {e left : ℕ} → (card w).dec z ≡ C.refused e left → RefusedObject object e left
  unfolding card
  card_refusal {e} {left} d = go (shape.dec z) refl
    where
      go : (o : Read Bool (Card (List ℕ) (List ℕ))) → shape.dec z ≡ o → RefusedObject object e left
      go (got c r) s =
          let k : (content w).dec z ≡ C.refused e left = sym (sifted_on shape (content w) s) ∙ d in
          by_block (settled_number (content_settled s) k) (rw (← length_bits_of object) (refused_by ((content_refuses w).at z) k).1)
      go (C.refused x y) s =
          let k : C.refused x (length z) ≡ C.refused e left = sym (sifted_out shape (content w) s) ∙ d in
          by_shape (sym (refused_number k) ∙ sym (refused_by (shape_refuses.at z) s).0) (sym (refused_left k) ∙ length_bits_of object)
          (λ c r h. never (sym s ∙ h))
        where
          refused_number : {m n p q : ℕ} → ◌≡◌ {A = Read Bool Content} (C.refused m p) (C.refused n q) → m ≡ n
          refused_number h = cc

          refused_left : {m n p q : ℕ} → ◌≡◌ {A = Read Bool Content} (C.refused m p) (C.refused n q) → p ≡ q
          refused_left h = cc

          never : {c : Card (List ℕ) (List ℕ)} {r : Bits} → C.refused x y ≡ got c r → ⊥
          never h = let t : ◌≡◌ {A = ℕ} 0 1 = cc in omega arith

-- ---- the calls

-- a number of card_read, with its place in the object
abbrev ReadPlaced : List ℕ → ℕ → ℕ → Type 0
ReadPlaced object e p = T (among card_read_numbers e) × Placed (8 * length object) e p

placed_refusal : (object : List ℕ) (e left : ℕ) → RefusedObject object e left → ReadPlaced object e (8 * length object - left)
placed_refusal object e left (by_shape x y n) =
    let p : 8 * length object - left ≡ 0 = rw y (sub_self (8 * length object)) in
    rw (x, p) (tt, no_place (8 * length object) bad_object)
placed_refusal object e left (by_block t l) =
    let low = within_low 8 10 e t in
    let high = within_high 8 10 e t in
    (among_first 8 10 (drop 1 card_read_numbers) e low high, rw (T_true (within 2 12 e) (within_yes 2 12 e (omega arith) (omega arith))) (le→leb (8 * length object - left) (8 * length object) (omega arith)))

record_placed : (object : List ℕ) (scale : Scale) (c : Content) → Refused (ReadPlaced object) (record_given scale c)
record_placed object scale c =
    pick_case (Refused (ReadPlaced object)) (leb (size (record_of_card scale c)) most_bytes) (given (write (record_of_card scale c))) (refused too_long 0) (λ t. tt)
    (λ t. (tt, no_place (8 * length object) too_long))

pub read_refused : (size_number : ℕ) (object : List ℕ) → Refused (ReadPlaced object) (card_read size_number object)
read_refused size_number object = sized (scale_of size_number) refl
  where
    at : (scale : Scale) (o : Read Bool Content) → (card scale.widths).dec (bits_of object) ≡ o → Refused (ReadPlaced object) (from_read (8 * length object) (record_given scale) o)
    at scale (got c r) d = record_placed object scale c
    at scale (C.refused e l) d = placed_refusal object e l (card_refusal scale.widths object d)

    sized : (o : Option Scale) → scale_of size_number ≡ o → Refused (ReadPlaced object) (card_read size_number object)
    sized none e = subst (Refused (ReadPlaced object)) (sym (read_none size_number object e)) (tt, no_place (8 * length object) bad_object)
    sized (some scale) e = subst (Refused (ReadPlaced object)) (sym (read_in_lem size_number e object)) (at scale ((card scale.widths).dec (bits_of object)) refl)

read_by : (size_number : ℕ) (object : List ℕ) → RefusedBy card_read_numbers (card_read size_number object)
read_by size_number object = refused_map (ReadPlaced object) (λ e p. T (among card_read_numbers e)) (λ e p h. h.0) (card_read size_number object) (read_refused size_number object)

pub read_never : (size_number : ℕ) (object : List ℕ) (e p : ℕ) → card_read size_number object ≡ refused e p → e ≢ 0
read_never size_number object = never_zero card_read_numbers tt (read_by size_number object)

-- a view is refused as in every call, or with 28
object_by : (scale : Scale) (i : ℕ) (r : Record) → RefusedBy card_write_numbers (object_given scale i r)
object_by scale i r = pick_case (RefusedBy card_write_numbers) (same_scale r.head.scale scale) _ _ (λ t. tt) (λ t. tt)

write_by : (size_number : ℕ) (view : ViewName) (bytes : List ℕ) → RefusedBy card_write_numbers (card_write size_number view bytes)
write_by size_number view bytes = sized (scale_of size_number) refl
  where
    sized : (o : Option Scale) → scale_of size_number ≡ o → RefusedBy card_write_numbers (card_write size_number view bytes)
    sized none e = subst (RefusedBy card_write_numbers) (sym (write_none size_number view bytes e)) tt
    sized (some scale) e =
        subst (RefusedBy card_write_numbers) (sym (write_in size_number e view bytes))
        (view_numbers card_write_numbers (λ n low high. among_first 1 13 (drop 1 card_write_numbers) n low high) view (object_given scale) (object_by scale) bytes)

pub write_never : (size_number : ℕ) (view : ViewName) (bytes : List ℕ) (e p : ℕ) → card_write size_number view bytes ≡ refused e p → e ≢ 0
write_never size_number view bytes = never_zero card_write_numbers tt (write_by size_number view bytes)

write_placed : (size_number : ℕ) (view : ViewName) (bytes : List ℕ) → Refused (Placed (8 * length bytes)) (card_write size_number view bytes)
write_placed size_number view bytes = sized (scale_of size_number) refl
  where
    sized : (o : Option Scale) → scale_of size_number ≡ o → Refused (Placed (8 * length bytes)) (card_write size_number view bytes)
    sized none e = subst (Refused (Placed (8 * length bytes))) (sym (write_none size_number view bytes e)) (no_place (8 * length bytes) bad_object)
    sized (some scale) e =
        subst (Refused (Placed (8 * length bytes))) (sym (write_in size_number e view bytes))
        (view_placed bytes view (object_given scale) λ i r.
        pick_case (Refused (Placed (8 * length bytes))) (same_scale r.head.scale scale) _ _ (λ t. tt) (λ t. no_place (8 * length bytes) other_scale))

-- ---- the answers

module _ {before after : List ℕ} {a : Answer} where
  pub read_numbers_lem : (size_number : ℕ) (object : List ℕ) → Answers (card_read size_number object) before after a → Gives card_read_numbers a.number
  read_numbers_lem size_number object = answer_number card_read_numbers tt (read_by size_number object)

  pub read_place : (size_number : ℕ) (object : List ℕ) → Answers (card_read size_number object) before after a → Placed (8 * length object) a.number a.place
  read_place size_number object =
      answer_place (8 * length object) (refused_map (ReadPlaced object) (Placed (8 * length object)) (λ e p h. h.1) (card_read size_number object) (read_refused size_number object))

  pub write_numbers_lem : (size_number : ℕ) (view : ViewName) (bytes : List ℕ) → Answers (card_write size_number view bytes) before after a → Gives card_write_numbers a.number
  write_numbers_lem size_number view bytes = answer_number card_write_numbers tt (write_by size_number view bytes)

  pub write_place : (size_number : ℕ) (view : ViewName) (bytes : List ℕ) → Answers (card_write size_number view bytes) before after a → Placed (8 * length bytes) a.number a.place
  write_place size_number view bytes = answer_place (8 * length bytes) (write_placed size_number view bytes)
