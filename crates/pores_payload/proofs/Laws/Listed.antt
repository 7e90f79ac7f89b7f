-- The numbers of a list that is right, as code comes to them: at byte a stands the first of those that are left.
use mathlib.Core.Path.{◌≡◌, refl, sym, ap, ◌∙◌}
use Prim.Native.Nat.{ℕ, suc, ◌+◌, ◌%◌, ◌≤◌, ◌<◌}
use native.Mathlib.Omega.{arith}
use mathlib.Core.Option.{some}
use mathlib.Core.List.{List, [], ◌∷◌, append-nil}
use lib.ListN.{length, drop, length-drop}
use lib.Dec.{eqb, leb→le}
use Rattle.bits.specs.ChoiceLaws.{pick_split, split}
use Rattle.bits.specs.Codec.{got, times_dec, via_dec, then_dec, Codec}
use Rattle.bits.specs.CodecLaws.{not_got, next_got, enc_all, times}
use Rattle.pores_parts.specs.Parts.{Pores, FitsPores}
use Rattle.pores.specs.Numbers.{line_numbers, numbers_match, numbers, numbers_of, fours_in, pores_from}
use Rattle.pores.specs.NumbersLaws.{numbers_written}
use Rattle.pores_numbers.proofs.Laws.Fours.{four_at, fours_from}
use Rattle.pores_numbers.proofs.Laws.Judging.{distance_number, line_is}

-- ---- a number

-- fewer than four bytes are no number
fours_few : (bs : List ℕ) → length bs < 4 → fours_in bs ≡ []
fours_few [] l = refl
fours_few (a ∷ []) l = refl
fours_few (a ∷ b ∷ []) l = refl
fours_few (a ∷ b ∷ c ∷ []) l = refl
fours_few (a ∷ b ∷ c ∷ d ∷ bs) l = absurd (omega arith)

pub record NumberAt (vs : List ℕ) (a x : ℕ) (xs : List ℕ) : Type 0 where
  pub within : a + 4 ≤ length vs
  pub is : four_at vs a ≡ x
  pub others : fours_in (drop (a + 4) vs) ≡ xs

pub number_here : (vs : List ℕ) (a x : ℕ) (xs : List ℕ) → fours_in (drop a vs) ≡ x ∷ xs → NumberAt vs a x xs
number_here vs a x xs e =
    split (a + 4) (length vs)
    (λ l. let f = fours_from a vs l in
    let g : four_at vs a ≡ x = cc in
    let h : fours_in (drop (a + 4) vs) ≡ xs = cc in
    record { within = l; is = g; others = h })
    (λ l. let f = fours_few (drop a vs) (omega (arith, length-drop a vs)) in
    let z : ◌≡◌ {A = ℕ} 0 1 = cc in
    absurd (omega arith))

-- ---- several values, of which the first is read

pub record FirstOf {S A : Type 0} (c : Codec S A) (n : ℕ) (s : List S) (xs : List A) (r : List S) : Type 0 where
  pub first : A
  pub behind : List S
  pub others : List A
  pub reads : c.dec s ≡ got first behind
  pub further : times_dec c n behind ≡ got others r
  pub is : xs ≡ first ∷ others

pub times_first : {S A : Type 0} (c : Codec S A) (n : ℕ) (s : List S) (xs : List A) (r : List S) → times_dec c (suc n) s ≡ got xs r → FirstOf c n s xs r
times_first c n s xs r h =
    next_got (c.dec s) _ h λ x q e h1.
    next_got (times_dec c n q) _ h1 λ ys v e2 h2.
    let u : (x ∷ ys) ≡ xs = cc in
    let w : v ≡ r = cc in
    record { first = x; behind = q; others = ys; reads = e; further = e2 ∙ ap (got ys) w; is = sym u }

-- ---- a line: its count, then its distances

pub record LineAt (vs : List ℕ) (a : ℕ) (ds r : List ℕ) : Type 0 where
  pub within : a + 4 ≤ length vs
  pub further : times_dec distance_number (four_at vs a) (fours_in (drop (a + 4) vs)) ≡ got ds r

no_number : (r : List ℕ) (ds : List ℕ) → line_numbers.dec [] ≡ got ds r → ⊥
unfolding via_dec then_dec
no_number r ds h = not_got h

pub line_at_lem : (vs : List ℕ) (a : ℕ) (ds r : List ℕ) → line_numbers.dec (fours_in (drop a vs)) ≡ got ds r → LineAt vs a ds r
line_at_lem vs a ds r h = go (fours_in (drop a vs)) refl
  where
    go : (xs : List ℕ) → fours_in (drop a vs) ≡ xs → LineAt vs a ds r
    go [] e = absurd (no_number r ds (rw e at h))
    go (x ∷ xs) e =
        let N = number_here vs a x xs e in
        record { within = N.within; further = rw (N.is, N.others) (sym (line_is x xs) ∙ rw e at h) }

-- ---- a distance

pub record DistanceAt (vs : List ℕ) (n a : ℕ) (ds r : List ℕ) : Type 0 where
  pub within : a + 4 ≤ length vs
  pub some : 1 ≤ four_at vs a
  pub others : List ℕ
  pub is : ds ≡ four_at vs a ∷ others
  pub further : times_dec distance_number n (fours_in (drop (a + 4) vs)) ≡ got others r

pub distance_at : (vs : List ℕ) (n a : ℕ) (ds r : List ℕ) → times_dec distance_number (suc n) (fours_in (drop a vs)) ≡ got ds r → DistanceAt vs n a ds r
distance_at vs n a ds r h =
    let F = times_first distance_number n (fours_in (drop a vs)) ds r h in
    let (f, g) = distance_number.back (fours_in (drop a vs)) F.first F.behind F.reads in
    let N = number_here vs a F.first F.behind g in
    record {
      within = N.within;
      some = rw N.is (leb→le 1 F.first f.1);
      others = F.others;
      is = rw N.is F.is;
      further = rw N.others F.further;
    }

-- ---- all numbers

pub record AllListed (lines : ℕ) (vs : List ℕ) (p : Pores) : Type 0 where
  pub fits : FitsPores lines p
  pub within : 8 ≤ length vs
  pub resolution : four_at vs 0 ≡ p.resolution
  pub further : times_dec line_numbers lines (fours_in (drop 8 vs)) ≡ got p.lines []

numbers_are : (p : Pores) → numbers_of p ≡ p.resolution ∷ p.e ∷ enc_all line_numbers p.lines
unfolding numbers
numbers_are p = refl

lines_fit : (n : ℕ) (p : Pores) → FitsPores n p → (times line_numbers n).Fits p.lines
lines_fit n p h = ((numbers_match n).fits p h).1.1

pub all_listed : (lines : ℕ) (vs : List ℕ) (p : Pores) → pores_from lines vs ≡ some p → AllListed lines vs p
all_listed lines vs p h =
    pick_split (eqb (length vs % 4) 0) _ _ h
    (λ t e. let (f, g) = numbers_written lines (fours_in vs) p e in
    let ls : List ℕ = enc_all line_numbers p.lines in
    let M = number_here vs 0 p.resolution (p.e ∷ ls) (g ∙ numbers_are p) in
    let N = number_here vs 4 p.e ls M.others in
    record {
      fits = f;
      within = N.within;
      resolution = M.is;
      further = ap (times_dec line_numbers lines) (N.others ∙ sym (append-nil ls)) ∙ (times line_numbers lines).there p.lines [] (lines_fit lines p f);
    })
    (λ t e. let z : ◌≡◌ {A = ℕ} 0 1 = cc in absurd (omega arith))
