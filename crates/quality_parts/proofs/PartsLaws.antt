-- The evidence that the values of local quality and their parts agree: what the codec of a payload cites.
use Rattle.std.specs.Prelude.{◌≡◌, refl, ℕ, ◌^◌, ◌<◌, Bool, List, [], ◌∷◌, length, T, eqb, ltb}
use Rattle.std.proofs.Common.{arith, eqb→eq}
use Rattle.std.proofs.Math.Facts.{yes_eqb, yes_ltb, ltb_yes}
use Rattle.bits.specs.Choice.{within}
use Rattle.bits.specs.ChoiceLaws.{within_high}
use Rattle.bits.specs.Lists.{All, every}
use Rattle.bits.specs.ListsLaws.{every_yes, yes_every, true_all, all_true_lem}
use Rattle.bits.specs.CodecLaws.{Matches}
use Rattle.format.specs.declared.Image.{Image}
use Rattle.quality_parts.specs.Parts.{cells, values_right, parts_of_values, make_values, value_parts}

-- every value fits the bits
pub small_values : (bits : ℕ) (vs : List ℕ) → T (every (λ v. ltb v (2 ^ bits)) vs) → All (λ v. v < 2 ^ bits) vs
small_values bits [] h = tt
small_values bits (v ∷ vs) h = let (a, b) = yes_every (λ x. ltb x (2 ^ bits)) (v ∷ vs) h in (ltb_yes {a = v} a, small_values bits vs (every_yes (λ x. ltb x (2 ^ bits)) vs b))

pub values_small : (bits : ℕ) (vs : List ℕ) → All (λ v. v < 2 ^ bits) vs → T (every (λ v. ltb v (2 ^ bits)) vs)
values_small bits [] h = tt
values_small bits (v ∷ vs) h =
    every_yes (λ x. ltb x (2 ^ bits)) (v ∷ vs) (yes_ltb {a = v} h.0, yes_every (λ x. ltb x (2 ^ bits)) vs (values_small bits vs h.1))

module _ (image : Image) where
  -- the five tests
  abbrev pub tests : (width height bits : ℕ) → List ℕ → List Bool
  tests width height bits vs =
      within 1 255 width ∷ within 1 255 height ∷ within 1 8 bits ∷ eqb (length vs) (cells image width height) ∷ every (λ v. ltb v (2 ^ bits)) vs ∷ []

  right_parts : (vs : List ℕ) → T (values_right image vs) → (value_parts image).Fits (parts_of_values vs)
  right_parts [] t = elim t [ ]
  right_parts (width ∷ []) t = elim t [ ]
  right_parts (width ∷ (height ∷ [])) t = elim t [ ]
  right_parts (width ∷ height ∷ bits ∷ vs) t =
      let (w, (d, (b, (n, (s, _))))) = all_true_lem (tests width height bits vs) t in (
        (omega (arith, within_high 1 255 width w), w),
        ((omega (arith, within_high 1 255 height d), d), ((omega (arith, within_high 1 8 bits b), b), (eqb→eq (length vs) (cells image width height) n, small_values bits vs s))),
      )

  same_values : (vs : List ℕ) → T (values_right image vs) → make_values (parts_of_values vs) ≡ vs
  same_values [] t = elim t [ ]
  same_values (width ∷ []) t = elim t [ ]
  same_values (width ∷ (height ∷ [])) t = elim t [ ]
  same_values (width ∷ height ∷ bits ∷ vs) t = refl

  parts_right_lem : (t : ℕ × (ℕ × (ℕ × List ℕ))) → (value_parts image).Fits t → T (values_right image (make_values t))
  parts_right_lem (width, (height, (bits, vs))) ((_, w), ((_, d), ((_, b), (n, s)))) =
      true_all (tests width height bits vs) (w, (d, (b, (yes_eqb n, (values_small bits vs s, tt)))))

  pub quality_matches : Matches (value_parts image).Fits make_values parts_of_values (λ vs. T (values_right image vs))
  quality_matches = record { fits = right_parts; same = same_values; allowed = parts_right_lem; again = λ t f. refl }
