-- The numbers of pores, one by one: the resolution, e, and of each line how many distances it has, and these.
use mathlib.Core.Path.{◌≡◌, refl, ap, ◌∙◌}
use Prim.Native.Nat.{ℕ, suc, ◌+◌}
use native.Mathlib.Omega.{arith}
use mathlib.Core.List.{List, [], ◌∷◌}
use lib.ListN.{length, length-append}
use lib.Dec.{leb}
use Rattle.bits.specs.Lists.{total}
use Rattle.bits.specs.CodecLaws.{enc_each, enc_all, only}
use Rattle.outcome.specs.Refusals.{bad_pores}
use Rattle.pores_parts.specs.Parts.{Pores}
use Rattle.pores.specs.Numbers.{number, line_numbers, numbers, numbers_of}

distances_are : (ds : List ℕ) → enc_all (only number bad_pores (leb 1)) ds ≡ ds
distances_are [] = refl
distances_are (d ∷ ds) = ap (λ (xs : List ℕ). d ∷ xs) (distances_are ds)

lines_are : (ls : List (List ℕ)) → enc_all line_numbers ls ≡ enc_each (λ ds. length ds ∷ ds) ls
lines_are [] = refl
lines_are (ds ∷ ls) = rw (distances_are ds, lines_are ls)

pub numbers_are : (p : Pores) → numbers_of p ≡ p.resolution ∷ p.e ∷ enc_each (λ ds. length ds ∷ ds) p.lines
unfolding numbers
numbers_are p = ap (λ (xs : List ℕ). p.resolution ∷ p.e ∷ xs) (lines_are p.lines)

-- how many numbers a line has
abbrev pub line_size : List ℕ → ℕ
line_size ds = suc (length ds)

lines_long : (ls : List (List ℕ)) → length (enc_each (λ ds. length ds ∷ ds) ls) ≡ total line_size ls
lines_long [] = refl
lines_long (ds ∷ ls) = ap suc (length-append ds (enc_each (λ ds. length ds ∷ ds) ls)) ∙ omega (arith, lines_long ls)

pub numbers_long : (p : Pores) → length (numbers_of p) ≡ 2 + total line_size p.lines
numbers_long p = ap length (numbers_are p) ∙ omega (arith, lines_long p.lines)
