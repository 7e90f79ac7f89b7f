-- Putting the payload of values: the bits of those before are put, the others' are still to come; and all of them are the payload.
use mathlib.Core.Path.{◌≡◌, refl, sym, ap, ap₂, subst, ◌∙◌}
use Prim.Native.Nat.{ℕ, ◌+◌, ◌*◌, ◌/◌, ◌^◌, ◌≤◌, ◌<◌}
use native.Mathlib.Numerals.{add-one}
use native.Mathlib.Omega.{arith}
use mathlib.Core.List.{List, [], ◌∷◌, ◌++◌}
use lib.ListN.{length, drop, get_or, drop_of_length-le, length-append}
use lib.Seq.{drop-cons}
use Rattle.bits.specs.ListsLaws.{all_at}
use Rattle.bits.specs.Bits.{bits_of_number}
use Rattle.bits.specs.BitsLaws.{length_bits}
use Rattle.format.specs.declared.Image.{Image}
use Rattle.put_bits.specs.Put.{PutMore, Puts, Room, CanPut}
use Rattle.put_bits.proofs.Laws.{put_none, put_laid}
use Rattle.put_bits.proofs.Chain.{puts_one, ◌then◌, Putting, putting_more, putting_room, putting_all}
use Rattle.quality_parts.proofs.PartsLaws.{small_values}
use Rattle.quality_cells.specs.declared.Grid.{Grid}
use Rattle.quality_cells.proofs.Laws.Written.{cell_bits, cells_long, payload_bits, payload_is, right_cells}
use Rattle.quality_payload.specs.Payload.{RightValues, PayloadRoom, PayloadLaid}
use Rattle.quality_payload.proofs.Laws.Judging.{cell_values, cell_values_are}

module _ {image : Image} {vs : List ℕ} {g : Grid} (R : RightValues image vs g) where
  cells_count : length (cell_bits g.bits (cell_values vs)) ≡ g.cells * g.bits
  cells_count = rw (cell_values_are vs) (cells_long g.bits (drop 3 vs) ∙ ap (λ (n : ℕ). n * g.bits) (right_cells R.start R.right).0)

  -- each fits
  pub value_small : (i : ℕ) → i < length (cell_values vs) → get_or (cell_values vs) i 0 < 2 ^ g.bits
  value_small = rw (cell_values_are vs) (λ i l. all_at (λ v. v < 2 ^ g.bits) 0 (drop 3 vs) i l (small_values g.bits (drop 3 vs) (right_cells R.start R.right).1))

-- behind the first three there is room for those of the cells
pub cells_room : {vs : List ℕ} {g : Grid} {out now : List ℕ} {at : ℕ} → PayloadRoom vs g out → length now ≡ length out → at ≡ 24 → Room now at (length (cell_bits g.bits (cell_values vs)))
cells_room p e z = let n = cells_count p.right in record { room = omega (arith, p.room, n); near = omega (arith, p.small, n) }

-- of the bits of the cells' values, cs, those from value i on are still to come
abbrev pub ToPut : ℕ → List ℕ → ℕ → List ℕ → ℕ → List ℕ → ℕ → Type 0
ToPut b cs i old at now q = Putting (cell_bits b (drop i cs)) (cell_bits b cs) old at now q

module _ (b : ℕ) (cs : List ℕ) (i : ℕ) {old : List ℕ} {at : ℕ} {now : List ℕ} {q x : ℕ} (h : ToPut b cs i old at now q) (l : i < length cs) (e : x ≡ get_or cs i 0) where
  next_value : Putting (bits_of_number b x ++ cell_bits b (drop (i + 1) cs)) (cell_bits b cs) old at now q
  next_value =
      let z : drop i cs ≡ x ∷ drop (i + 1) cs = drop-cons cs i 0 l ∙ ap₂ (λ (y n : ℕ). y ∷ drop n cs) (sym e) (sym (add-one i)) in
      subst (λ (r : List ℕ). Putting (cell_bits b r) (cell_bits b cs) old at now q) z h

  pub next_fits : Room old at (length (cell_bits b cs)) → get_or cs i 0 < 2 ^ b → b ≤ 8 → CanPut now q x b
  next_fits r v w =
      let k = putting_room (bits_of_number b x) (cell_bits b (drop (i + 1) cs)) next_value r in
      let n = length_bits b x in
      record { below = rw e v; narrow = omega arith; room = omega (arith, k.room, n); near = omega (arith, k.near, n) }

  pub next_put : {next : List ℕ} {r : ℕ} → PutMore now q x b next r → ToPut b cs (i + 1) old at next r
  next_put p = putting_more (bits_of_number b x) (cell_bits b (drop (i + 1) cs)) next_value (puts_one p)

pub put_near : (b : ℕ) (cs : List ℕ) (i : ℕ) {old : List ℕ} {at : ℕ} {now : List ℕ} {q : ℕ} → ToPut b cs i old at now q → Room old at (length (cell_bits b cs)) → q ≤ 8 * 65535
put_near b cs i h r = omega (arith, h.puts.place, ap length h.whole, length-append h.done (cell_bits b (drop i cs)), r.near)

-- the first three values and then all cells' are put: the payload is laid
pub put_done : {vs : List ℕ} {g : Grid} {i : ℕ} {old o₁ o₂ o₃ now : List ℕ} {x y z a₁ a₂ a₃ q : ℕ} → PutMore old 0 x 8 o₁ a₁ → x ≡ get_or vs 0 0 → PutMore o₁ a₁ y 8 o₂ a₂
    → y ≡ get_or vs 1 0 → PutMore o₂ a₂ z 8 o₃ a₃ → z ≡ get_or vs 2 0 → ToPut g.bits (cell_values vs) i o₃ a₃ now q → length (cell_values vs) ≤ i → PayloadLaid vs g old now ((q + 7) / 8)
put_done {vs} {g} {i} {old} {o₃ = o₃} {now = now} {a₃ = a₃} {q = q} p ex k ey m ez h l =
    let none : Putting [] (cell_bits g.bits (drop 3 vs)) o₃ a₃ now q = rw (drop_of_length-le (cell_values vs) l, cell_values_are vs) at h in
    let all : Puts (payload_bits g.bits vs) old 0 now q = rw (← ex, ← ey, ← ez) (puts_one p then (puts_one k then (puts_one m then putting_all none))) in
    record { is = λ image R. rw (payload_is R.start) (put_laid (all.is [] old (put_none old)) refl) }
