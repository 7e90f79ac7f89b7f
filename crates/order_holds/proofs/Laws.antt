-- Which of the two records holds, by the tests that the code makes; and that the answer in numbers says where `holds` stands.
use mathlib.Core.Path.{◌≡◌, refl, sym, subst}
use mathlib.Core.Logic.{◌≢◌, ◌⊎◌, inl, inr}
use Prim.Native.Nat.{ℕ, ◌≤◌, ◌<◌}
use mathlib.Core.Bool.{Bool, true, false, ◌&&◌}
use mathlib.Core.List.{List}
use lib.ListN.{length, take}
use lib.Dec.{T, eqb, leb, leb→le}
use mir.Facts.{yes_leb, no_leb, and_yes}
use Rattle.bits.specs.Choice.{pick}
use Rattle.bits.specs.ChoiceLaws.{T_true, T_false, eqb_true, eqb_false}
use Rattle.order_holds.specs.declared.Held.{Held}
use Rattle.orders.specs.Order.{second_holds, holds}
use Rattle.order_holds.specs.Held.{held}

module _ {A : Type 0} (x y : A) (number n m : ℕ) where
  refused : number ≢ 0 → pick (eqb number 0 && leb n m) x y ≡ y
  refused d = rw (eqb_false number 0 d) refl

  fits : number ≡ 0 → n ≤ m → pick (eqb number 0 && leb n m) x y ≡ x
  fits e l = rw (eqb_true number 0 e, T_true (leb n m) (yes_leb l)) refl

  too_long_lem : number ≡ 0 → m < n → pick (eqb number 0 && leb n m) x y ≡ y
  too_long_lem e l = rw (eqb_true number 0 e, T_false (leb n m) (no_leb l)) refl

module _ (old second : List ℕ) (number n : ℕ) where
  pub refused_holds : number ≢ 0 → holds old second number n ≡ old
  unfolding holds
  refused_holds d = refused (take n second) old number n (length second) d

  pub new_holds : number ≡ 0 → n ≤ length second → holds old second number n ≡ take n second
  unfolding holds
  new_holds e l = fits (take n second) old number n (length second) e l

  pub old_holds : number ≡ 0 → length second < n → holds old second number n ≡ old
  unfolding holds
  old_holds e l = too_long_lem (take n second) old number n (length second) e l

  abbrev new : Held
  new = record { second = 1; length = n }

  abbrev whole : Held
  whole = record { second = 0; length = length old }

  pub refused_held : number ≢ 0 → held old second number n ≡ whole
  unfolding held
  refused_held d = refused new whole number n (length second) d

  pub new_held : number ≡ 0 → n ≤ length second → held old second number n ≡ new
  unfolding held
  new_held e l = fits new whole number n (length second) e l

  pub old_held : number ≡ 0 → length second < n → held old second number n ≡ whole
  unfolding held
  old_held e l = too_long_lem new whole number n (length second) e l

  -- ---- what the answer means

  abbrev Says : List ℕ → Held → Type 0
  Says now h =
      ((h.second ≡ 1) × (h.length ≤ length second) × (now ≡ take h.length second)) ⊎ ((h.second ≡ 0) × (h.length ≡ length old) × (now ≡ old))

  says : (b : Bool) → (T b → n ≤ length second) → Says (pick b (take n second) old) (pick b new whole)
  says true l = inl (refl, l tt, refl)
  says false l = inr (refl, refl, refl)

  held_says : Says (holds old second number n) (held old second number n)
  unfolding holds held
  held_says = says (second_holds second number n) (λ t. leb→le n (length second) (and_yes (eqb number 0) (leb n (length second)) t).1)

  pub held_holds : (h : Held) → h ≡ held old second number n
      → ((h.second ≡ 1) × (h.length ≤ length second) × (holds old second number n ≡ take h.length second))
      ⊎ ((h.second ≡ 0) × (h.length ≡ length old) × (holds old second number n ≡ old))
  held_holds h e = subst (Says (holds old second number n)) (sym e) held_says
