-- Pores as the host has them: "resolution, e, then per line a count and that many, 32 bits each". Reading a list refuses a number
-- outside its range, a distance 0, and a list that is cut or has numbers over.
use Rattle.std.specs.Prelude.{◌≡◌, refl, ℕ, ◌+◌, ◌*◌, ◌%◌, ◌^◌, List, [], ◌∷◌, ◌++◌, length, leb, ltb, eqb}
use Rattle.std.proofs.Math.Option.{Option, none, some}
use Rattle.std.proofs.Common.{leb→le, le→leb, ltb→lt}
use Rattle.std.proofs.Math.Facts.{yes_ltb}
use Rattle.bits.specs.Choice.{pick, within}
use Rattle.bits.specs.ChoiceLaws.{within_low, within_high, within_yes}
use Rattle.bits.specs.Lists.{empty?}
use Rattle.bits.specs.ListsLaws.{all_to}
use Rattle.bits.specs.Codec.{Read, got, refused, Codec}
use Rattle.bits.specs.CodecLaws.{not_got, then, Matches, via, only, times, counted}
use Rattle.outcome.specs.Refusals.{bad_pores}
use Rattle.pores_parts.specs.Parts.{Pores, FitsPores}

-- ---- a number of a list

abbrev pub number_dec : List ℕ → Read ℕ ℕ
number_dec [] = refused bad_pores 0
number_dec (x ∷ r) = got x r

pub number_back : (s : List ℕ) (x : ℕ) (r : List ℕ) → number_dec s ≡ got x r → Unit {0} × (s ≡ (x ∷ []) ++ r)
number_back [] x r p = not_got p
number_back (y ∷ s) x r p = (tt, cc)

abbrev pub number : Codec ℕ ℕ
number = record { Fits = λ x. Unit {0}; enc = λ x. x ∷ []; dec = number_dec; there = λ x r h. refl; back = number_back }

-- ---- the pores of n lines

-- a line: how many distances, and these
abbrev pub line_numbers : Codec ℕ (List ℕ)
line_numbers = counted number (only number bad_pores (leb 1))

abbrev pub number_parts : ℕ → Codec ℕ (ℕ × (ℕ × List (List ℕ)))
number_parts n = then (only number bad_pores (λ x. ltb x (2 ^ 16))) λ _. then (only number bad_pores (within 2 8)) λ _. times line_numbers n

abbrev pub make_of_numbers : ℕ × (ℕ × List (List ℕ)) → Pores
make_of_numbers t = record { resolution = t.0; e = t.1.0; lines = t.1.1 }

abbrev pub parts_for_numbers : Pores → ℕ × (ℕ × List (List ℕ))
parts_for_numbers p = (p.resolution, (p.e, p.lines))

pub numbers_match : (n : ℕ) → Matches (number_parts n).Fits make_of_numbers parts_for_numbers (FitsPores n)
numbers_match n =
    record {
      fits = λ p h. (
        (tt, yes_ltb h.resolution),
        (
          (tt, within_yes 2 8 p.e h.low h.high),
          (h.count, all_to _ _ p.lines (λ ds a. (tt, all_to _ _ ds (λ d y. (tt, le→leb 1 d y)) a)) h.distances),
        ),
      );
      same = λ p h. refl;
      allowed = λ t h. record {
        resolution = ltb→lt t.0 (2 ^ 16) h.0.1;
        low = within_low 2 8 t.1.0 h.1.0.1;
        high = within_high 2 8 t.1.0 h.1.0.1;
        count = h.1.1.0;
        distances = all_to _ _ t.1.1 (λ ds a. all_to _ _ ds (λ d y. leb→le 1 d y.1) a.1) h.1.1.1;
      };
      again = λ t h. refl;
    }

unfoldable pub numbers : ℕ → Codec ℕ Pores
numbers n = via (number_parts n) make_of_numbers parts_for_numbers (FitsPores n) (numbers_match n)

-- what a list says, used up; or nothing where it breaks the rules
abbrev pub used_up : Read ℕ Pores → Option Pores
used_up (got p r) = pick (empty? r) (some p) none
used_up (refused e l) = none

unfoldable pub pores_of : ℕ → List ℕ → Option Pores
pores_of n xs = used_up ((numbers n).dec xs)

-- the list of these pores
abbrev pub numbers_of : Pores → List ℕ
numbers_of p = (numbers 0).enc p

-- ---- the host's bytes: "32 bits each", high byte first

-- four bytes each; what is left at the end by itself is no number
abbrev pub fours_in : List ℕ → List ℕ
fours_in [] = []
fours_in (a ∷ []) = []
fours_in (a ∷ b ∷ []) = []
fours_in (a ∷ b ∷ c ∷ []) = []
fours_in (a ∷ b ∷ c ∷ d ∷ bs) = ((a * 256 + b) * 65536 + (c * 256 + d)) ∷ fours_in bs

-- a length that is no multiple of 4 breaks the rules too
abbrev pub pores_from : ℕ → List ℕ → Option Pores
pores_from n bytes = pick (eqb (length bytes % 4) 0) (pores_of n (fours_in bytes)) none
