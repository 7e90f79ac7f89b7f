-- The first width that holds a number, looked for from 1 on.
use mathlib.Core.Path.{◌≡◌, refl, sym, ap, ap₂, ◌∙◌}
use Prim.Native.Nat.{ℕ, suc, ◌+◌, ◌-◌, ◌*◌, ◌%◌, ◌^◌, ◌≤◌, ◌<◌}
use native.Mathlib.Omega.{arith}
use native.Mathlib.Numerals.{add-one}
use lib.Dec.{ltb}
use lib.Pow.{pow_mono}
use mir.Facts.{yes_ltb, no_ltb}
use Rattle.bits.specs.ChoiceLaws.{pick_yes, pick_no}
use Rattle.orders.specs.Least.{find}

-- no width before w holds it
pub record Looking (most w : ℕ) : Type 0 where
  pub low : 1 ≤ w
  pub high : w ≤ 16
  pub is : find 15 1 most ≡ find (16 - w) w most

pub looking_first : (most : ℕ) → Looking most 1
looking_first most = record { low = omega arith; high = omega arith; is = refl }

-- the first number that w bits do not hold, as code shifts it there
abbrev limit : ℕ → ℕ
limit w = 1 * 2 ^ w % 18446744073709551616

module _ {most w : ℕ} (h : Looking most w) (l : w < 16) where
  power : limit w ≡ 2 ^ w
  power = let z : 2 ^ w ≤ 2 ^ 16 = pow_mono h.high in omega arith

  one_more : find (16 - w) w most ≡ find (suc (15 - w)) w most
  one_more = let z : 16 - w ≡ suc (15 - w) = omega arith in ap (λ (f : ℕ). find f w most) z

  pub looking_holds : most < limit w → w ≡ find 15 1 most
  looking_holds k = sym (h.is ∙ one_more ∙ pick_yes (ltb most (2 ^ w)) _ _ (yes_ltb (rw power at k)))

  pub looking_next : limit w ≤ most → Looking most (w + 1)
  looking_next k =
      let z : 15 - w ≡ 16 - (w + 1) = omega arith in
      record {
        low = omega arith;
        high = omega arith;
        is = h.is ∙ one_more ∙ pick_no (ltb most (2 ^ w)) _ _ (no_ltb (rw power at k)) ∙ ap₂ (λ (f n : ℕ). find f n most) z (sym (add-one w));
      }

pub looking_last : {most w : ℕ} → Looking most w → 16 ≤ w → 16 ≡ find 15 1 most
looking_last {most} {w} h l = let z : w ≡ 16 = omega (arith, h.high) in sym (rw z at h.is)
