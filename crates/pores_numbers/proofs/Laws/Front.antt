-- The first two numbers of a list, resolution and e, and from what the lines say to what the whole list says.
use mathlib.Core.Path.{◌≡◌, refl, sym, ap, ap₂, ◌∙◌}
use mathlib.Core.Logic.{◌≢◌}
use Prim.Native.Nat.{ℕ, ◌+◌, ◌*◌, ◌%◌, ◌^◌, ◌≤◌, ◌<◌}
use native.Mathlib.Omega.{arith}
use mathlib.Core.Bool.{true, false}
use mathlib.Core.Option.{none}
use mathlib.Core.List.{List, [], ◌∷◌}
use lib.ListN.{length, drop}
use lib.Dec.{ltb, eqb}
use mir.Facts.{yes_ltb, no_ltb, yes_eqb, no_eqb}
use Rattle.bits.specs.Choice.{within}
use Rattle.bits.specs.ChoiceLaws.{split, T_true, T_false, pick_yes, pick_no, within_yes, within_not_low, within_not_high}
use Rattle.bits.specs.Codec.{Read, got, refused, next, then_dec, times_dec, via_dec, only_dec}
use Rattle.pores_parts.specs.Parts.{Pores}
use Rattle.pores.specs.Numbers.{line_numbers, make_of_numbers, numbers, used_up, pores_of, fours_in, pores_from}
use Rattle.pores_numbers.specs.Judged.{LinesJudged, NumbersBroken, NumbersJudged}
use Rattle.pores_numbers.specs.declared.JudgedNumbers.{JudgedNumbers}
use Rattle.std.specs.Prelude.{Option, Some, None}
use Rattle.pores_numbers.proofs.Laws.Fours.{four_at, fours_from}

-- the pores of what is read of the lines
abbrev with_lines : (resolution e : ℕ) → Read ℕ (List (List ℕ)) → Read ℕ Pores
with_lines resolution e o = next o (λ ls q. got (record { resolution = resolution; e = e; lines = ls }) q)

module _ (lines resolution : ℕ) where
  resolution_large : (xs : List ℕ) → ltb resolution (2 ^ 16) ≡ false → pores_of lines (resolution ∷ xs) ≡ none
  unfolding numbers pores_of via_dec then_dec only_dec
  resolution_large xs h = rw h refl

  e_none : pores_of lines (resolution ∷ []) ≡ none
  unfolding numbers pores_of via_dec then_dec only_dec
  e_none =
      split (2 ^ 16) resolution (λ l. resolution_large [] (T_false (ltb resolution (2 ^ 16)) (no_ltb {a = resolution} {b = 2 ^ 16} l)))
      (λ l. rw (T_true (ltb resolution (2 ^ 16)) (yes_ltb {a = resolution} {b = 2 ^ 16} l)) refl)

  module _ (e : ℕ) (xs : List ℕ) (h : ltb resolution (2 ^ 16) ≡ true) where
    e_wrong : within 2 8 e ≡ false → pores_of lines (resolution ∷ e ∷ xs) ≡ none
    unfolding numbers pores_of via_dec then_dec only_dec
    e_wrong k = rw (h, k) refl

    both_right : within 2 8 e ≡ true → pores_of lines (resolution ∷ e ∷ xs) ≡ used_up (with_lines resolution e (times_dec line_numbers lines xs))
    unfolding numbers pores_of via_dec then_dec only_dec
    both_right k = rw (h, k) (go (times_dec line_numbers lines xs))
      where
        go : (o : Read ℕ (List (List ℕ)))
            → used_up (next {A = ℕ × (ℕ × List (List ℕ))} (next {A = ℕ × List (List ℕ)} (next o (λ b q. got (e, b) q)) (λ b q. got (resolution, b) q)) (λ a r. got (make_of_numbers a) r))
            ≡ used_up (with_lines resolution e o)
        go (got ls q) = refl
        go (refused d l) = refl

-- fewer than two numbers
too_few : (lines : ℕ) (vs : List ℕ) → length vs % 4 ≡ 0 → length vs < 8 → pores_of lines (fours_in vs) ≡ none
unfolding numbers pores_of via_dec then_dec only_dec
too_few lines [] w l = refl
too_few lines (a ∷ []) w l = absurd (omega arith)
too_few lines (a ∷ b ∷ []) w l = absurd (omega arith)
too_few lines (a ∷ b ∷ c ∷ []) w l = absurd (omega arith)
too_few lines (a ∷ b ∷ c ∷ d ∷ []) w l = e_none lines ((a * 256 + b) * 65536 + (c * 256 + d))
too_few lines (a ∷ b ∷ c ∷ d ∷ x ∷ vs) w l = absurd (omega arith)

-- lines that do not use the list up, or are not there
not_used_up : (resolution e : ℕ) (o : Read ℕ (List (List ℕ))) → ((ls : List (List ℕ)) → o ≡ got ls [] → ⊥) → used_up (with_lines resolution e o) ≡ none
not_used_up resolution e (got ls []) f = absurd (f ls refl)
not_used_up resolution e (got ls (x ∷ q)) f = refl
not_used_up resolution e (refused d l) f = refl

module _ (lines : ℕ) (vs : List ℕ) where
  pub not_whole : length vs % 4 ≢ 0 → NumbersBroken lines vs
  not_whole n = record { is = pick_no (eqb (length vs % 4) 0) _ _ (no_eqb n) }

  module _ (w : length vs % 4 ≡ 0) where
    whole : pores_from lines vs ≡ pores_of lines (fours_in vs)
    whole = pick_yes (eqb (length vs % 4) 0) _ _ (yes_eqb w)

    pub no_front : length vs < 8 → NumbersBroken lines vs
    no_front l = record { is = whole ∙ too_few lines vs w l }

    module _ (l : 8 ≤ length vs) where
      first_two : pores_from lines vs ≡ pores_of lines (four_at vs 0 ∷ four_at vs 4 ∷ fours_in (drop 8 vs))
      first_two = whole ∙ ap (pores_of lines) (fours_from 0 vs (omega arith) ∙ ap (λ (xs : List ℕ). four_at vs 0 ∷ xs) (fours_from 4 vs (omega arith)))

      pub large_resolution : {x : ℕ} → x ≡ four_at vs 0 → 65535 < x → NumbersBroken lines vs
      large_resolution {x} ex k =
          record { is = first_two ∙ resolution_large lines (four_at vs 0) _ (T_false (ltb (four_at vs 0) (2 ^ 16)) (no_ltb {a = four_at vs 0} {b = 2 ^ 16} (omega (arith, ex)))) }

      module _ {x e : ℕ} (ex : x ≡ four_at vs 0) (ee : e ≡ four_at vs 4) (k : x ≤ 65535) where
        right_resolution : ltb (four_at vs 0) (2 ^ 16) ≡ true
        right_resolution = T_true (ltb (four_at vs 0) (2 ^ 16)) (yes_ltb {a = four_at vs 0} {b = 2 ^ 16} (omega (arith, ex)))

        pub e_low : e < 2 → NumbersBroken lines vs
        e_low m =
            record { is = first_two ∙ e_wrong lines (four_at vs 0) (four_at vs 4) (fours_in (drop 8 vs)) right_resolution (T_false (within 2 8 (four_at vs 4)) (within_not_low 2 8 (four_at vs 4) (omega (arith, ee)))) }

        pub e_high : 8 < e → NumbersBroken lines vs
        e_high m =
            record { is = first_two ∙ e_wrong lines (four_at vs 0) (four_at vs 4) (fours_in (drop 8 vs)) right_resolution (T_false (within 2 8 (four_at vs 4)) (within_not_high 2 8 (four_at vs 4) (omega (arith, ee)))) }

        module _ (low : 2 ≤ e) (high : e ≤ 8) where
          from_lines : pores_from lines vs ≡ used_up (with_lines x e (times_dec line_numbers lines (fours_in (drop 8 vs))))
          from_lines =
              first_two ∙ both_right lines (four_at vs 0) (four_at vs 4) (fours_in (drop 8 vs)) right_resolution (T_true (within 2 8 (four_at vs 4)) (within_yes 2 8 (four_at vs 4) (omega (arith, ee)) (omega (arith, ee))))
              ∙ ap₂ (λ (y z : ℕ). used_up (with_lines y z (times_dec line_numbers lines (fours_in (drop 8 vs))))) (sym ex) (sym ee)

          pub numbers_judged : (r : Option JudgedNumbers) → LinesJudged lines vs e r → NumbersJudged lines vs r
          numbers_judged (Some n) R =
              record {
                value = record { resolution = x; e = e; lines = R.value };
                is = from_lines ∙ ap (λ (o : Read ℕ (List (List ℕ))). used_up (with_lines x e o)) R.is;
                bits = R.bits;
                elements = R.elements;
              }
          numbers_judged None B = record { is = from_lines ∙ not_used_up x e (times_dec line_numbers lines (fours_in (drop 8 vs))) B.is }
