-- A view of an accepted record, and its object: the value of object 90 stands in the record as it is, and the object is never longer than
-- the record, so that writing it has no 19.
use mathlib.Core.Path.{◌≡◌, sym, ap, ◌∙◌, subst}
use Prim.Native.Nat.{ℕ, ◌+◌, ◌-◌, ◌≤◌, ◌<◌}
use native.Mathlib.Omega.{arith}
use mathlib.Core.Bool.{Bool, true, ◌&&◌, and_assoc, and-true}
use mathlib.Core.List.{List, [], ◌∷◌, ◌++◌, append_assoc}
use lib.ListN.{length, take, drop, length-append}
use lib.Seq.{take_at, drop_at}
use lib.Dec.{T, eqb, eqb→eq}
use Rattle.bits.specs.Lists.{All}
use Rattle.bits.specs.ListsLaws.{all_true_lem, along_at}
use Rattle.bits.specs.Bytes.{Byte}
use Rattle.bits.specs.Codec.{got}
use Rattle.put_bytes.specs.HighFirst.{two}
use Rattle.format.specs.Limits.{most_bytes}
use Rattle.format.specs.Line.{skeleton}
use Rattle.format.specs.Index.{index_block}
use Rattle.format.specs.Segments.{segments}
use Rattle.format.specs.View.{View, view_header, view}
use Rattle.format.specs.Record.{Record, tell_seen, read, size, Allowed}
use Rattle.format.specs.Places.{no_view_there, view_at}
use Rattle.format.specs.declared.Widths.{Widths}
use Rattle.format.specs.declared.Scale.{Scale}
use Rattle.format.proofs.Laws.Record.{read_back}
use Rattle.find_parts.specs.Stored.{sized_out, view_out, record_out}
use Rattle.find_parts.specs.Stands.{BlocksIn}
use Rattle.find_parts.specs.declared.view.Blocks.{Blocks}
use Rattle.find_parts.proofs.Laws.Blocks.{cut, block_bits, block_long}
use Rattle.find_parts.proofs.Laws.Written.{written, stored_long}
use Rattle.find_parts.proofs.Laws.Apart.{ahead, behind, ahead_long, apart}
use Rattle.card.specs.LengthLaws.{forms}
use Rattle.card.specs.Size.{same_scale}
use Rattle.card.specs.Card.{card_of_view}
use Rattle.card.specs.Stored.{length_out, value_out, object90_out, object_out}
use Rattle.card.proofs.Laws.Written.{short_out, middle_out, long_out, value_long, Short, inner_long}

-- ---- scales

-- two that have all seven numbers in common are one
pub same_scale_is : (s t : Scale) → same_scale s t ≡ true → s ≡ t
same_scale_is s t e =
    let tests : List Bool =
    eqb s.points t.points ∷ eqb s.widths.c t.widths.c ∷ eqb s.widths.b t.widths.b ∷ eqb s.widths.k t.widths.k
    ∷ eqb s.step t.step ∷ eqb s.ratio t.ratio ∷ eqb s.half t.half ∷ [] in
    let h : All T tests = all_true_lem tests (subst T (sym e) tt) in
    let points = eqb→eq s.points t.points h.0 in
    let c = eqb→eq s.widths.c t.widths.c h.1.0 in
    let b = eqb→eq s.widths.b t.widths.b h.1.1.0 in
    let k = eqb→eq s.widths.k t.widths.k h.1.1.1.0 in
    let step = eqb→eq s.step t.step h.1.1.1.1.0 in
    let ratio = eqb→eq s.ratio t.ratio h.1.1.1.1.1.0 in
    let half = eqb→eq s.half t.half h.1.1.1.1.1.1.0 in
    λ i. record { points = points i; widths = record { c = c i; b = b i; k = k i }; step = step i; ratio = ratio i; half = half i }

-- the derived equality, to which the widths are one part, compares the same seven numbers
pub same_scale_derived : (s t : Scale)
    → (eqb s.points t.points
    && ((eqb s.widths.c t.widths.c && (eqb s.widths.b t.widths.b && eqb s.widths.k t.widths.k)) && (eqb s.step t.step && (eqb s.ratio t.ratio && eqb s.half t.half))))
    ≡ same_scale s t
same_scale_derived s t = simp (and_assoc, and-true)

-- ---- how long an object is

pub length_few : (n : ℕ) → length (length_out n) ≤ 3
length_few n = forms n (λ h. rw (short_out n h) (omega arith)) (λ l h. rw (middle_out n l h) (omega arith)) (λ l. rw (long_out n l) (omega arith))

pub inner_few : (value : List ℕ) → length (object90_out value) ≤ 4 + length value
inner_few value = omega (arith, inner_long value, length_few (length value))

pub object_long : (value : List ℕ) → length (object_out value) ≡ 2 + length (length_out (length (object90_out value))) + length (object90_out value)
object_long value = omega (arith, length-append (two 0x7F2E ++ length_out (length (object90_out value))) (object90_out value))

pub object_few : (value : List ℕ) → length (object_out value) ≤ 9 + length value
object_few value = omega (arith, object_long value, length_few (length (object90_out value)), inner_few value)

-- ---- a view's bytes: four of its header, the value, and its segments

module _ (w : Widths) (v : View) where
  abbrev value : List ℕ
  value = value_out w (card_of_view v)

  abbrev front : List ℕ
  front = v.head.number ∷ v.head.position ∷ v.head.impression ∷ v.head.quality ∷ []

  view_parts_lem : view_out w v ≡ front ++ (value ++ sized_out segments v.segments)
  view_parts_lem = simp append_assoc

-- ---- a view of a record

regroup : (a b c d e : List ℕ) → a ++ ((b ++ (c ++ d)) ++ e) ≡ (a ++ b) ++ (c ++ (d ++ e))
regroup a b c d e = simp append_assoc

module _ (r : Record) (i : ℕ) (l : i < length r.views) where
  abbrev w : Widths
  w = r.head.scale.widths

  abbrev v : View
  v = view_at r i

  record_parts : record_out r ≡ (ahead r i (size r) ++ front w v) ++ (value w v ++ (sized_out segments v.segments ++ behind r i))
  record_parts = apart r i l ∙ ap (λ (xs : List ℕ). ahead r i (size r) ++ (xs ++ behind r i)) (view_parts_lem w v)
      ∙ regroup (ahead r i (size r)) (front w v) (value w v) (sized_out segments v.segments) (behind r i)

  -- the record of that view alone is no longer than this one
  pub value_small : 30 + length (value_out w (card_of_view v)) ≤ size r
  value_small =
      let front_long : 24 ≤ length (ahead r i (size r)) = omega (arith, ahead_long r i (size r)) in
      omega (arith, stored_long r, value_long w (card_of_view v), simp length-append at (ap length record_parts))

  -- "each before 19 and 20": there is no 19 here
  pub object_small : length (object_out (value_out w (card_of_view v))) ≤ size r
  object_small = omega (arith, object_few (value w v), value_small)

  pub view_short : Allowed r → Short w (card_of_view v)
  unfolding most_bytes view view_header
  view_short a =
      let (seen, f) = along_at tell_seen (λ t z. (view w t).Fits z) no_view_there [] r.views i l a.fits.views in
      let m : length (value w v) ≤ 32768 = omega (arith, value_small, a.small) in
      record {
        value = record { width = f.0.0.0.width; height = f.0.0.0.height; skeleton = f.0.0.1; index = f.1.0.0 };
        inner = omega (arith, inner_few (value w v));
      }

  -- from the width up to the end of the index
  pub value_stands : {s : List ℕ} {x : Blocks} → All Byte s → read s ≡ got r [] → BlocksIn r s i x
      → cut s (x.skeleton.from - 6) x.index.to ≡ value_out w (card_of_view v)
  value_stands {s} {x} bytes e b =
      let (a, z, _) = read_back s r [] bytes e in
      let from : ℕ = x.skeleton.from - 6 in
      let n : ℕ = x.index.to - from in
      let first : List ℕ = ahead r i (size r) ++ front w v in
      let last : List ℕ = sized_out segments v.segments ++ behind r i in
      let f : length first ≡ from = omega (arith, length-append (ahead r i (size r)) (front w v), ahead_long r i (size r), b.before) in
      let m : length (value w v) ≡ n =
      omega (arith, value_long w (card_of_view v), block_bits b.lines, block_long (skeleton w) v.lines, block_bits b.index, block_long (index_block (length v.lines)) v.index, b.lines.from, b.index.from, b.next, b.before) in
      ap (λ (xs : List ℕ). take n (drop from xs)) (z ∙ written r a ∙ record_parts)
      ∙ ap (take n) (drop_at first (value w v ++ last) from f) ∙ take_at (value w v) last n m
