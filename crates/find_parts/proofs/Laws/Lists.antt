-- How many bits the lists of an index take, and the lines of a skeleton: the sums of what each takes.
use mathlib.Core.Path.{◌≡◌, refl, ap, ◌∙◌}
use Prim.Native.Nat.{ℕ, suc, ◌+◌, ◌*◌}
use native.Mathlib.Nat.{add-mul}
use native.Mathlib.Omega.{arith}
use mathlib.Core.Bool.{Bool}
use mathlib.Core.List.{List, [], ◌∷◌, ◌++◌}
use lib.ListN.{length, length-append}
use Rattle.bits.specs.Lists.{total}
use Rattle.bits.specs.Bits.{Bits, bits_of_number}
use Rattle.bits.specs.BitsLaws.{length_bits}
use Rattle.bits.specs.Codec.{Codec}
use Rattle.bits.specs.CodecLaws.{enc_all, enc_along, field}
use Rattle.outcome.specs.Refusals.{bad_index}
use Rattle.differences.specs.Differences.{diffs, diff, tell_difference}
use Rattle.differences.proofs.DifferencesLaws.{length_diffs}
use Rattle.format.specs.Index.{up, neighbours}
use Rattle.find_parts.proofs.Laws.Line.{codes_long}

-- values one behind the other
pub all_long : {A : Type 0} (c : Codec Bool A) (xs : List A) → length (enc_all c xs) ≡ total (λ x. length (c.enc x)) xs
all_long c [] = refl
all_long c (x ∷ xs) = length-append (c.enc x) (enc_all c xs) ∙ ap (λ (n : ℕ). length (c.enc x) + n) (all_long c xs)

-- where each is told of those before it, but takes as many bits whatever it is told
pub along_long : {T A : Type 0} (c : T → Codec Bool A) (tell_difference : T → A → T) (f : A → ℕ) → ((t : T) (x : A) → length ((c t).enc x) ≡ f x) → (t : T) (xs : List A)
    → length (enc_along c tell_difference t xs) ≡ total f xs
along_long c tell_difference f h t [] = refl
along_long c tell_difference f h t (x ∷ xs) =
    length-append ((c t).enc x) (enc_along c tell_difference (tell_difference t x) xs) ∙ omega (arith, h t x, along_long c tell_difference f h (tell_difference t x) xs)

-- what a difference is allowed to be does not change its bits
diffs_bits : (w : ℕ) (t : ℕ × ℕ) (ds : List ℕ) → enc_along (diff w) tell_difference t ds ≡ enc_all (field bad_index w) ds
diffs_bits w t [] = refl
diffs_bits w t (d ∷ ds) = ap (λ (s : Bits). bits_of_number w d ++ s) (diffs_bits w (tell_difference t d) ds)

pub list_is : (w l : ℕ) (ns : List ℕ) → (neighbours w l).enc ns ≡ bits_of_number w (length ns) ++ enc_all (field bad_index w) (diffs l ns)
list_is w l ns = ap (λ (s : Bits). bits_of_number w (length ns) ++ s) (diffs_bits w (0, l) (diffs l ns))

pub list_bits_lem : (w l : ℕ) (ns : List ℕ) → length ((neighbours w l).enc ns) ≡ w + length ns * w
list_bits_lem w l ns =
    ap length (list_is w l ns) ∙ length-append (bits_of_number w (length ns)) (enc_all (field bad_index w) (diffs l ns))
    ∙ omega (arith, length_bits w (length ns), codes_long bad_index w (diffs l ns) ∙ ap (λ (n : ℕ). n * w) (length_diffs l ns))

-- the bits of the lists: w for the count and for each difference of each
entries_long : (w : ℕ) (ls : List (List ℕ)) → total (λ ns. w + length ns * w) ls ≡ (length ls + total length ls) * w
entries_long w [] = omega arith
entries_long w (ns ∷ ls) =
    let x : ℕ = length ls + total length ls in
    let z : suc (length ls) + (length ns + total length ls) ≡ suc (length ns) + x = omega arith in
    omega (arith, entries_long w ls, ap (λ (n : ℕ). n * w) z, add-mul (suc (length ns)) x w, add-mul 1 (length ns) w)

pub lists_long : (w : ℕ) (ls : List (List ℕ)) → length (enc_along (neighbours w) up 0 ls) ≡ (length ls + total length ls) * w
lists_long w ls = along_long (neighbours w) up (λ ns. w + length ns * w) (list_bits_lem w) 0 ls ∙ entries_long w ls
