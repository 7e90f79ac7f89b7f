-- The first three bytes of right values, and how many cells there can be.
use mathlib.Core.Path.{◌≡◌, ◌∙◌}
use Prim.Native.Nat.{ℕ, ◌+◌, ◌-◌, ◌*◌, ◌/◌, ◌%◌, ◌≤◌, ◌<◌}
use Rattle.std.specs.Prelude.{min}
use Rattle.std.specs.Int.{div_ceil}
use Rattle.std.proofs.lemmas.Grind.{div_ceil_times}
use Rattle.std.proofs.lemmas.Nat.{mul-le}
use native.Mathlib.Nat.{add-mul, div-lt_iff_lt-mul, le-div_iff_mul-le, mul-le-mul}
use native.Mathlib.Omega.{arith}
use mathlib.Core.List.{List, [], ◌∷◌}
use lib.ListN.{length, get_or}
use Rattle.bits.specs.ChoiceLaws.{within_yes}
use Rattle.format.specs.declared.Image.{Image}
use Rattle.quality_parts.specs.Parts.{rounded_up, cells}
use Rattle.quality_cells.specs.Grid.{SmallImage, Started}

-- ---- how many

-- as code divides
rounded_is : (n d : ℕ) → 1 ≤ d → n / d + min 1 (n % d) ≡ rounded_up n d
rounded_is n d l =
    let q : ℕ = n / d + min 1 (n % d) in
    let (low, high) = div_ceil_times n d l in
    let a : q ≤ rounded_up n d = (le-div_iff_mul-le {k = d} {x = q} {y = n + (d - 1)} (omega arith)).1 (omega arith) in
    let b : rounded_up n d < q + 1 = (div-lt_iff_lt-mul {k = d} {x = n + (d - 1)} {y = q + 1} (omega arith)).1 (omega (arith, add-mul q 1 d)) in
    omega arith

rounded_few : (n d : ℕ) → n < 65536 → 1 ≤ d → rounded_up n d ≤ 65535
rounded_few n d h l = omega (arith, (div-lt_iff_lt-mul {k = d} {x = n + (d - 1)} {y = 65536} (omega arith)).1 (omega arith))

pub few_bits_lem : (n b : ℕ) → n ≤ 65535 * 65535 → b ≤ 8 → n * b ≤ 65535 * 65535 * 8
few_bits_lem n b h k = mul-le-mul {n₁ = n} {m₁ = b} {n₂ = 65535 * 65535} {m₂ = 8} h k

-- ---- the start

-- by the bytes' numbers, w, h and b, and by the columns and rows, c and r, as code divides
pub started : (image : Image) (s : List ℕ) → SmallImage image → 3 ≤ length s → {w h b c r : ℕ} → w ≡ get_or s 0 0 → h ≡ get_or s 1 0 → b ≡ get_or s 2 0
    → (1 ≤ w) × (w ≤ 255) → (1 ≤ h) × (h ≤ 255) → (1 ≤ b) × (b ≤ 8) → c ≡ div_ceil image.width w → r ≡ div_ceil image.height h
    → Started image s (record { cells = c * r; bits = b })
unfolding cells
started image [] small l ew eh eb kw kh kb ec er = absurd (omega arith)
started image (x ∷ []) small l ew eh eb kw kh kb ec er = absurd (omega arith)
started image (x ∷ y ∷ []) small l ew eh eb kw kh kb ec er = absurd (omega arith)
started image (x ∷ y ∷ z ∷ s) small l {w} {h} {b} {c} {r} ew eh eb kw kh kb ec er =
    let m : c ≡ rounded_up image.width w = ec ∙ rounded_is image.width w kw.0 in
    let n : r ≡ rounded_up image.height h = er ∙ rounded_is image.height h kh.0 in
    record {
      width = w;
      height = h;
      rest = s;
      is = cc;
      wide = within_yes 1 255 w kw.0 kw.1;
      high = within_yes 1 255 h kh.0 kh.1;
      narrow = within_yes 1 8 b kb.0 kb.1;
      cells = cc;
      few = mul-le c r 65535 65535 (omega (arith, m, rounded_few image.width w small.width kw.0)) (omega (arith, n, rounded_few image.height h small.height kh.0));
    }
