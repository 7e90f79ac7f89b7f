-- What the calls on a card's object give: reading and writing give each other back, and each size has objects of its own.
use mathlib.Core.Path.{◌≡◌, refl, sym, ap, ◌∙◌, subst}
use mathlib.Core.Logic.{◌≢◌}
use Prim.Native.Nat.{ℕ, zero, suc, ◌+◌, ◌*◌, ◌/◌, ◌^◌, ◌≤◌, ◌<◌}
use native.Mathlib.Omega.{arith}
use mathlib.Core.Bool.{Bool, true, false, not}
use mathlib.Core.Option.{Option, none, some}
use mathlib.Core.List.{List, [], ◌++◌, append-nil}
use lib.ListN.{length}
use lib.Dec.{T, leb, leb→le, le→leb}
use Rattle.bits.specs.ChoiceLaws.{pick_yes, pick_no, pick_split, T_true, eqb_true}
use Rattle.bits.specs.Lists.{All}
use Rattle.bits.specs.ListsLaws.{along_at}
use Rattle.bits.specs.Bits.{Bits, bits_of_number}
use Rattle.bits.specs.Bytes.{Byte, bits_of}
use Rattle.bits.specs.BytesLaws.{length_bits_of}
use Rattle.bits.specs.Codec.{Read, got}
use Rattle.bits.specs.Codec as C
use Rattle.bits.specs.BlockBytes.{value_there, value_back}
use Rattle.outcome.specs.Refusals.{bad_object, other_scale}
use Rattle.outcome.specs.Outcome.{Outcome, refused, given}
use Rattle.outcome.proofs.Laws.{not_given, given_is}
use Rattle.format.specs.Limits.{most_bytes}
use Rattle.format.specs.View.{View, view_header, view}
use Rattle.format.specs.Record.{Record, tell_seen, read, write, size, Allowed}
use Rattle.format.specs.Places.{no_view_there, view_at}
use Rattle.format.specs.Named.{named, Means}
use Rattle.format.specs.Call.{from_read, on_view}
use Rattle.format.specs.declared.Widths.{Widths}
use Rattle.format.specs.declared.Scale.{Scale}
use Rattle.format.specs.declared.ViewName.{ViewName}
use Rattle.format.proofs.Laws.Record.{read_there, read_is}
use Rattle.format.proofs.Laws.Call.{on_view_lem, given_view}
use Rattle.format.proofs.Laws.Named.{name_means}
use Rattle.card.specs.Length.{object_length}
use Rattle.card.specs.Object.{Other}
use Rattle.card.specs.ShapeLaws.{tagged_bits}
use Rattle.card.specs.Size.{scale_of, same_scale, in_size}
use Rattle.card.specs.Card.{Content, content, card, view_of_card, record_of_card, record_given, card_read, card_of_view, object_of, object_given, card_write}
use Rattle.card.specs.Stored.{value_out, object90_out, object_out}
use Rattle.card.specs.Accepted.{ReadsAt, its_record, Alone, ViewAtSize, its_card, its_object}
use Rattle.card.proofs.Laws.Written.{inner_long, object_written, value_is, object90_spells, value_spells}
use Rattle.card.proofs.Laws.Views.{same_scale_is, value_small, object_small, view_short}
use Rattle.card.proofs.Laws.Fits.{scale_fits, record_size, record_allowed}

-- ---- the size

module _ {A : Type 0} (f : Scale → Outcome A) {o : Option Scale} where
  in_none : o ≡ none → in_size o f ≡ refused bad_object 0
  in_none e = ap (λ (x : Option Scale). in_size x f) e

  in_known : {scale : Scale} → o ≡ some scale → in_size o f ≡ f scale
  in_known e = ap (λ (x : Option Scale). in_size x f) e

module _ (size_number : ℕ) where
  pub read_none : (object : List ℕ) → scale_of size_number ≡ none → card_read size_number object ≡ refused bad_object 0
  unfolding card_read
  read_none object e = in_none _ e

  pub write_none : (view : ViewName) (bytes : List ℕ) → scale_of size_number ≡ none → card_write size_number view bytes ≡ refused bad_object 0
  unfolding card_write
  write_none view bytes e = in_none _ e

  module _ {scale : Scale} (known : scale_of size_number ≡ some scale) where
    pub read_in_lem : (object : List ℕ) → card_read size_number object ≡ from_read (8 * length object) (record_given scale) ((card scale.widths).dec (bits_of object))
    unfolding card_read
    read_in_lem object = in_known _ known

    pub write_in : (view : ViewName) (bytes : List ℕ) → card_write size_number view bytes ≡ on_view view (object_given scale) bytes
    unfolding card_write
    write_in view bytes = in_known _ known

-- ---- what is given

pub read_given : (size_number : ℕ) (object bytes : List ℕ) → card_read size_number object ≡ given bytes → (x : ReadsAt size_number object) × (bytes ≡ write (its_record x))
unfolding card
read_given size_number object bytes h = sized (scale_of size_number) refl
  where
    at : {scale : Scale} → scale_of size_number ≡ some scale → (o : Read Bool Content) → (card scale.widths).dec (bits_of object) ≡ o
        → from_read (8 * length object) (record_given scale) o ≡ given bytes → (x : ReadsAt size_number object) × (bytes ≡ write (its_record x))
    at known (C.refused e l) d g = not_given g
    at {scale} known (C.got c r) d g =
        pick_split (leb (size (record_of_card scale c)) most_bytes) _ _ g
        (λ t q. (record { scale = scale; known = known; value = c; reads = d ∙ ap (got c) ((card scale.widths).all (bits_of object) c r d); small = leb→le (size (record_of_card scale c)) most_bytes t }, sym (given_is q)))
        (λ t q. not_given q)

    sized : (o : Option Scale) → scale_of size_number ≡ o → (x : ReadsAt size_number object) × (bytes ≡ write (its_record x))
    sized none e = not_given (sym (read_none size_number object e) ∙ h)
    sized (some scale) e = at e ((card scale.widths).dec (bits_of object)) refl (sym (read_in_lem size_number e object) ∙ h)

-- an object is the object of what it reads as
module _ {size_number : ℕ} {object : List ℕ} (x : ReadsAt size_number object) where
  abbrev w : Widths
  w = x.scale.widths

  content_fits : (content w).Fits x.value
  unfolding card
  content_fits = ((card w).back (bits_of object) x.value (omega (arith, length_bits_of object)) x.reads).0

  pub record_right : Allowed (its_record x)
  record_right = record_allowed x.scale x.value (scale_fits size_number x.known) content_fits x.small

  pub reads_given : card_read size_number object ≡ given (write (its_record x))
  reads_given =
      read_in_lem size_number x.known object ∙ ap (from_read (8 * length object) (record_given x.scale)) x.reads
      ∙ pick_yes (leb (size (its_record x)) most_bytes) _ _ (le→leb (size (its_record x)) most_bytes x.small)

  -- the record reads as itself: it is one that document 01 describes
  pub record_read : read (write (its_record x)) ≡ got (its_record x) []
  record_read = read_there (its_record x) record_right

-- ---- writing what was read

pub same_itself : (s : Scale) → T (same_scale s s)
same_itself s = rw (eqb_true s.points s.points refl, eqb_true s.widths.c s.widths.c refl, eqb_true s.widths.b s.widths.b refl, eqb_true s.widths.k s.widths.k refl, eqb_true s.step s.step refl, eqb_true s.ratio s.ratio refl, eqb_true s.half s.half refl) tt

-- the content without what follows 90
abbrev pub by90 : Content → Content
by90 c = card_of_view (view_of_card c)

pub write_after : {size_number : ℕ} {object : List ℕ} (x : ReadsAt size_number object)
    → card_write size_number (named 0 0) (write (its_record x)) ≡ given (object_of x.scale.widths (by90 x.value))
unfolding record_of_card
write_after {size_number} x =
    let means : Means (named 0 0) (its_record x) 0 = name_means (its_record x) (record_right x) 0 (omega arith) in
    write_in size_number x.known (named 0 0) (write (its_record x)) ∙ on_view_lem (named 0 0) (object_given x.scale) (write (its_record x)) (record_read x) means
    ∙ pick_yes (same_scale x.scale x.scale) _ _ (same_itself x.scale)

pub write_back : {size_number : ℕ} {object : List ℕ} (x : ReadsAt size_number object) → All Byte object → Alone x
    → card_write size_number (named 0 0) (write (its_record x)) ≡ given object
unfolding object_of
write_back {object = object} x bytes alone =
    let c : Content = x.value in
    let same : by90 c ≡ c = ap (λ (xs : List Other). record { width = c.width; height = c.height; skeleton = c.skeleton; index = c.index; behind = xs }) (sym alone) in
    write_after x ∙ ap given (ap (object_of x.scale.widths) same ∙ sym (value_back (card x.scale.widths) object c [] bytes x.reads).1)

-- ---- reading what was written

module _ (r : Record) (i : ℕ) (l : i < length r.views) (a : Allowed r) where
  abbrev v : View
  v = view_at r i

  abbrev widths : Widths
  widths = r.head.scale.widths

  -- its content fits
  view_content : (content widths).Fits (card_of_view v)
  unfolding content object_length view view_header
  view_content =
      let (seen, f) = along_at tell_seen (λ t z. (view widths t).Fits z) no_view_there [] r.views i l a.fits.views in
      let s = view_short r i l a in
      let short : length (value_out widths (card_of_view v)) < 2 ^ 16 = omega (arith, s.inner, inner_long (value_out widths (card_of_view v))) in
      let p = value_spells widths (card_of_view v) s.value in
      let q = object90_spells widths (card_of_view v) s.value short in
      let n : length (value_is widths (card_of_view v)) / 8 < 2 ^ 16 = omega (arith, ap length p.bits, length_bits_of (value_out widths (card_of_view v))) in
      let t : Bits = tagged_bits (bits_of_number 8 0x90) (value_is widths (card_of_view v)) in
      let m : length (t ++ []) / 8 < 2 ^ 16 = rw (append-nil t) (omega (arith, s.inner, ap length q.bits, length_bits_of (object90_out (value_out widths (card_of_view v))))) in (
        (omega arith, m),
        (((omega arith, n), ((f.0.0.0.width, f.0.0.0.height), ((f.0.0.1, f.0.1), (f.1.0.0, f.1.0.1)))), tt),
      )

pub write_given : (size_number : ℕ) (view : ViewName) (bytes object : List ℕ) → card_write size_number view bytes ≡ given object
    → (x : ViewAtSize size_number view bytes) × (x.value.head.scale ≡ x.scale) × (object ≡ its_object x)
write_given size_number view bytes object h = sized (scale_of size_number) refl
  where
    sized : (o : Option Scale) → scale_of size_number ≡ o → (x : ViewAtSize size_number view bytes) × (x.value.head.scale ≡ x.scale) × (object ≡ its_object x)
    sized none e = not_given (sym (write_none size_number view bytes e) ∙ h)
    sized (some scale) e =
        given_view view (object_given scale) bytes object (sym (write_in size_number e view bytes) ∙ h) λ r rest i d m g.
        pick_split (same_scale r.head.scale scale) _ _ g
        (λ t q. (
          record { scale = scale; known = e; value = r; reads = d ∙ ap (got r) (read_is bytes r rest d).3; i = i; means = m },
          same_scale_is r.head.scale scale (T_true _ t),
          sym (given_is q),
        ))
        (λ t q. not_given q)

module _ {size_number : ℕ} {view : ViewName} {bytes : List ℕ} (x : ViewAtSize size_number view bytes) (same : x.value.head.scale ≡ x.scale) where
  allowed : Allowed x.value
  allowed = (read_is bytes x.value [] x.reads).0

  fits_there : (content x.scale.widths).Fits (its_card x)
  fits_there = subst (λ (s : Scale). (content s.widths).Fits (its_card x)) same (view_content x.value x.i x.means.there allowed)

  -- what is written is read, as the record of that one view
  pub written_reads : (y : ReadsAt size_number (its_object x)) × (its_record y ≡ record_of_card x.scale (its_card x))
  unfolding object_of card
  written_reads =
      let small : 30 + length (value_out x.scale.widths (its_card x)) ≤ size x.value =
      subst (λ (s : Scale). 30 + length (value_out s.widths (its_card x)) ≤ size x.value) same (value_small x.value x.i x.means.there) in (
        record {
          scale = x.scale;
          known = x.known;
          value = its_card x;
          reads = value_there (card x.scale.widths) (its_card x) fits_there;
          small = omega (arith, record_size x.scale (its_card x), allowed.small);
        },
        refl,
      )

  pub written_given : card_write size_number view bytes ≡ given (its_object x)
  written_given =
      write_in size_number x.known view bytes ∙ on_view_lem view (object_given x.scale) bytes x.reads x.means
      ∙ pick_yes (same_scale x.value.head.scale x.scale) _ _ (subst (λ (s : Scale). T (same_scale s x.scale)) (sym same) (same_itself x.scale))

pub other_given : {size_number : ℕ} {view : ViewName} {bytes : List ℕ} (x : ViewAtSize size_number view bytes) → x.value.head.scale ≢ x.scale
    → card_write size_number view bytes ≡ refused other_scale 0
other_given {size_number} {view} {bytes} x other =
    write_in size_number x.known view bytes ∙ on_view_lem view (object_given x.scale) bytes x.reads x.means
    ∙ pick_no (same_scale x.value.head.scale x.scale) _ _ (differs (same_scale x.value.head.scale x.scale) (same_scale_is x.value.head.scale x.scale))
  where
    differs : (b : Bool) → (b ≡ true → x.value.head.scale ≡ x.scale) → T (not b)
    differs true f = absurd (other (f refl))
    differs false f = tt

-- ---- each size has its own

points_same : {t u : Scale} → ◌≡◌ {A = Option Scale} (some t) (some u) → t.points ≡ u.points
points_same q = cc

scales_apart : (m n : ℕ) {s : Scale} → m ≢ n → scale_of m ≡ some s → scale_of n ≢ some s
scales_apart zero zero d e f = d refl
scales_apart zero (suc zero) d e f = let a : ◌≡◌ {A = ℕ} 200 100 = points_same e ∙ sym (points_same f) in absurd (omega arith)
scales_apart zero (suc (suc n)) d e f = let z : ◌≡◌ {A = ℕ} 0 1 = cc in absurd (omega arith)
scales_apart (suc zero) zero d e f = let a : ◌≡◌ {A = ℕ} 100 200 = points_same e ∙ sym (points_same f) in absurd (omega arith)
scales_apart (suc zero) (suc zero) d e f = d refl
scales_apart (suc zero) (suc (suc n)) d e f = let z : ◌≡◌ {A = ℕ} 0 1 = cc in absurd (omega arith)
scales_apart (suc (suc m)) n d e f = let z : ◌≡◌ {A = ℕ} 0 1 = cc in absurd (omega arith)

-- a record that has the one size's scale is refused with 28 at the other
pub other_size : (m n : ℕ) (view : ViewName) (bytes object : List ℕ) {s : Scale} → m ≢ n → scale_of n ≡ some s → card_write m view bytes ≡ given object
    → card_write n view bytes ≡ refused other_scale 0
other_size m n view bytes object {s} d known h =
    let (x, same, _) = write_given m view bytes object h in
    other_given (record { scale = s; known = known; value = x.value; reads = x.reads; i = x.i; means = x.means })
    (λ e. scales_apart m n d (x.known ∙ ap some (sym same ∙ e)) known)

-- ---- the format, and what the calls give, in the words of the promises

pub object_read : (w : Widths) (c : Content) → (card w).Fits c → (card w).dec (bits_of (object_of w c)) ≡ got c []
unfolding object_of
object_read w c h = value_there (card w) c h

pub object_right : (w : Widths) (object : List ℕ) (c : Content) (rest : Bits) → All Byte object → (card w).dec (bits_of object) ≡ got c rest
    → (card w).Fits c × (object ≡ object_of w c)
unfolding object_of
object_right w object c rest b d = value_back (card w) object c rest b d

pub read_makes : (size_number : ℕ) (object bytes : List ℕ) → card_read size_number object ≡ given bytes
    → (x : ReadsAt size_number object) × (bytes ≡ write (its_record x)) × (read bytes ≡ got (its_record x) [])
read_makes size_number object bytes h =
    let (x, e) = read_given size_number object bytes h in
    (x, e, ap read e ∙ record_read x)

pub write_makes : (size_number : ℕ) (view : ViewName) (bytes object : List ℕ) → card_write size_number view bytes ≡ given object
    → (x : ViewAtSize size_number view bytes) × (x.value.head.scale ≡ x.scale) × (object ≡ its_object x) × (length object ≤ length bytes)
write_makes size_number view bytes object h =
    let (x, same, e) = write_given size_number view bytes object h in
    let (a, n, _, _) = read_is bytes x.value [] x.reads in
    let l = x.means.there in
    let w = x.value.head.scale.widths in
    let o : object_of w (its_card x) ≡ object_out (value_out w (its_card x)) = object_written w (its_card x) (view_short x.value x.i l a) refl in
    let k : object ≡ object_out (value_out w (its_card x)) = e ∙ ap (λ (s : Scale). object_of s.widths (its_card x)) (sym same) ∙ o in
    (x, same, e, omega (arith, ap length k, object_small x.value x.i l, n))

pub read_after_write : (size_number : ℕ) (view : ViewName) (bytes object : List ℕ) → card_write size_number view bytes ≡ given object
    → (x : ViewAtSize size_number view bytes) × (card_read size_number object ≡ given (write (record_of_card x.scale (its_card x))))
read_after_write size_number view bytes object h =
    let (x, same, e) = write_given size_number view bytes object h in
    let (y, r) = written_reads x same in
    (x, ap (card_read size_number) e ∙ reads_given y ∙ ap (λ (q : Record). given (write q)) r)
