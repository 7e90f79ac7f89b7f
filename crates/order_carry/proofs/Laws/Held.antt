-- A record held against 32,768 bytes and the room that is lent: by its size, and what is then left of it.
use mathlib.Core.Path.{◌≡◌, refl, sym, ap, ◌∙◌}
use mathlib.Core.Logic.{◌≢◌}
use Prim.Native.Nat.{ℕ, ◌≤◌, ◌<◌}
use native.Mathlib.Omega.{arith}
use lib.Dec.{leb, eqb}
use mir.Facts.{yes_leb, no_leb, leb_yes, yes_eqb, no_eqb}
use Rattle.bits.specs.ChoiceLaws.{pick_yes, pick_no, pick_split, eq_split}
use Rattle.outcome.specs.Refusals.{too_long, no_room}
use Rattle.outcome.specs.Outcome.{refused, given, room}
use Rattle.outcome.proofs.Laws.{room_enough}
use Rattle.format.specs.Limits.{most_bytes}
use Rattle.format.specs.Record.{Record, size, write}
use Rattle.format.proofs.Laws.Size.{write_long}
use Rattle.order_carry.specs.Carried.{size_number, held_to}

-- ---- its size

module _ (lent bytes : ℕ) where
  pub size_long : 32768 < bytes → too_long ≡ size_number lent bytes
  unfolding size_number most_bytes
  size_long l = sym (pick_no (leb bytes most_bytes) _ _ (no_leb l))

  pub size_over : bytes ≤ 32768 → lent < bytes → no_room ≡ size_number lent bytes
  unfolding size_number most_bytes
  size_over l k = sym (pick_yes (leb bytes most_bytes) _ _ (yes_leb l) ∙ pick_no (leb bytes lent) _ _ (no_leb k))

  pub size_within : bytes ≤ 32768 → bytes ≤ lent → 0 ≡ size_number lent bytes
  unfolding size_number most_bytes
  size_within l k = sym (pick_yes (leb bytes most_bytes) _ _ (yes_leb l) ∙ pick_yes (leb bytes lent) _ _ (yes_leb k))

  pub size_zero : size_number lent bytes ≡ 0 → (bytes ≤ 32768) × (bytes ≤ lent)
  unfolding size_number most_bytes
  size_zero z =
      pick_split (leb bytes most_bytes) _ _ z
      (λ t y. pick_split (leb bytes lent) _ _ y (λ u x. (leb_yes t, leb_yes u)) (λ u x. absurd (omega arith))) (λ t y. absurd (omega arith))

-- ---- what is left of it

module _ (place lent : ℕ) (new : Record) where
  pub held_given : size_number lent (size new) ≡ 0 → held_to place lent new ≡ given (write new)
  unfolding held_to
  held_given z = pick_yes (eqb (size_number lent (size new)) 0) _ _ (yes_eqb z)

  pub held_refused : {n : ℕ} → n ≡ size_number lent (size new) → n ≢ 0 → held_to place lent new ≡ refused n place
  unfolding held_to
  held_refused e d = pick_no (eqb (size_number lent (size new)) 0) _ _ (no_eqb (λ z. d (e ∙ z))) ∙ ap (λ (n : ℕ). refused n place) (sym e)

  -- it is within the room
  pub held_room : room lent (held_to place lent new) ≡ held_to place lent new
  held_room =
      eq_split (size_number lent (size new)) 0
      (λ z. let (a, b) = size_zero lent (size new) z in
      ap (room lent) (held_given z) ∙ room_enough lent (write new) (omega (arith, write_long new, b)) ∙ sym (held_given z))
      (λ d. ap (room lent) (held_refused refl d) ∙ sym (held_refused refl d))
