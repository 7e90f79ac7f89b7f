-- Lists of numbers of pores: a list says pores exactly if it is theirs; and the host's bytes are such a list, four bytes each.
use Rattle.std.specs.Prelude.{◌≡◌, refl, ℕ, ◌+◌, ◌*◌, ◌/◌, ◌%◌, ◌<◌, List, [], ◌∷◌, ◌++◌, length, eqb}
use Rattle.std.proofs.Common.{sym, ap, ap₂, ◌∙◌, arith, append-nil, eqb→eq}
use Rattle.std.proofs.Math.Option.{none, some}
use Rattle.std.proofs.Math.Facts.{yes_eqb}
use Rattle.bits.specs.ChoiceLaws.{T_true, pick_yes, pick_split}
use Rattle.bits.specs.Lists.{All, empty?}
use Rattle.bits.specs.ListsLaws.{empty_is}
use Rattle.bits.specs.Bytes.{Byte}
use Rattle.bits.specs.Codec.{Read, got, refused}
use Rattle.put_bytes.specs.HighFirst.{four, joined}
use Rattle.pores_parts.specs.Parts.{Pores, FitsPores}
use Rattle.pores.specs.Numbers.{numbers, used_up, pores_of, numbers_of, fours_in, pores_from}

-- ---- lists

-- a list that says something was read to its end
used_up_lem : {X : Type 0} (o : Read ℕ Pores) (p : Pores) → used_up o ≡ some p → (o ≡ got p [] → X) → X
used_up_lem (got q r) p h k =
    pick_split (empty? r) (some q) none h
    (λ t e. let u : q ≡ p = cc in
    k (ap₂ (λ (x : Pores) (y : List ℕ). got x y) u (empty_is r (T_true (empty? r) t))))
    (λ t e. let z : ◌≡◌ {A = ℕ} 0 1 = cc in absurd (omega arith))
used_up_lem (refused e l) p h k = let z : ◌≡◌ {A = ℕ} 0 1 = cc in absurd (omega arith)

-- how many lines there are is not written
enc_same : (n : ℕ) (p : Pores) → (numbers n).enc p ≡ numbers_of p
unfolding numbers
enc_same n p = refl

fits_to : (n : ℕ) (p : Pores) → FitsPores n p → (numbers n).Fits p
unfolding numbers
fits_to n p h = h

to_fits : (n : ℕ) (p : Pores) → (numbers n).Fits p → FitsPores n p
unfolding numbers
to_fits n p h = h

pub numbers_read : (n : ℕ) (p : Pores) → FitsPores n p → pores_of n (numbers_of p) ≡ some p
unfolding pores_of
numbers_read n p h =
    let e : (numbers n).dec (numbers_of p) ≡ got p [] =
    ap (numbers n).dec (sym (append-nil (numbers_of p)) ∙ ap (λ (xs : List ℕ). xs ++ []) (sym (enc_same n p))) ∙ (numbers n).there p [] (fits_to n p h) in
    ap used_up e

pub numbers_written : (n : ℕ) (xs : List ℕ) (p : Pores) → pores_of n xs ≡ some p → FitsPores n p × (xs ≡ numbers_of p)
unfolding pores_of
numbers_written n xs p h =
    used_up_lem ((numbers n).dec xs) p h λ e.
    let (f, g) = (numbers n).back xs p [] e in
    (to_fits n p f, g ∙ append-nil ((numbers n).enc p) ∙ enc_same n p)

-- ---- the host's bytes

pub fours_there : (xs : List ℕ) → fours_in (joined four xs) ≡ xs
fours_there [] = refl
fours_there (x ∷ xs) =
    let e : (x / 65536 / 256 * 256 + x / 65536 % 256) * 65536 + (x % 65536 / 256 * 256 + x % 65536 % 256) ≡ x = omega arith in
    ap₂ (λ (y : ℕ) (ys : List ℕ). y ∷ ys) e (fours_there xs)

pub fours_long : (xs : List ℕ) → length (joined four xs) ≡ 4 * length xs
fours_long [] = refl
fours_long (x ∷ xs) = omega (arith, fours_long xs)

four_is : (a b c d : ℕ) → a < 256 → b < 256 → c < 256 → d < 256 → four ((a * 256 + b) * 65536 + (c * 256 + d)) ≡ a ∷ b ∷ c ∷ d ∷ []
four_is a b c d ha hb hc hd =
    let n : ℕ = (a * 256 + b) * 65536 + (c * 256 + d) in
    let e : n / 65536 / 256 ≡ a = omega arith in
    let f : n / 65536 % 256 ≡ b = omega arith in
    let g : n % 65536 / 256 ≡ c = omega arith in
    let h : n % 65536 % 256 ≡ d = omega arith in
    rw (e, f, g, h) refl

pub fours_back : (bytes : List ℕ) → All Byte bytes → length bytes % 4 ≡ 0 → bytes ≡ joined four (fours_in bytes)
fours_back [] y l = refl
fours_back (a ∷ []) y l = absurd (omega arith)
fours_back (a ∷ b ∷ []) y l = absurd (omega arith)
fours_back (a ∷ b ∷ c ∷ []) y l = absurd (omega arith)
fours_back (a ∷ b ∷ c ∷ d ∷ bs) (ha, (hb, (hc, (hd, y)))) l =
    ap₂ (λ (u v : List ℕ). u ++ v) (sym (four_is a b c d ha hb hc hd)) (fours_back bs y (omega arith))

pub bytes_read : (n : ℕ) (p : Pores) → FitsPores n p → pores_from n (joined four (numbers_of p)) ≡ some p
bytes_read n p h =
    pick_yes (eqb (length (joined four (numbers_of p)) % 4) 0) _ _ (yes_eqb {a = length (joined four (numbers_of p)) % 4} {b = 0} (omega (arith, fours_long (numbers_of p))))
    ∙ ap (pores_of n) (fours_there (numbers_of p)) ∙ numbers_read n p h

pub bytes_written : (n : ℕ) (bytes : List ℕ) (p : Pores) → All Byte bytes → pores_from n bytes ≡ some p → FitsPores n p × (bytes ≡ joined four (numbers_of p))
bytes_written n bytes p y h =
    pick_split (eqb (length bytes % 4) 0) _ _ h
    (λ t e. let (f, g) = numbers_written n (fours_in bytes) p e in
    (f, fours_back bytes y (eqb→eq (length bytes % 4) 0 t) ∙ ap (joined four) g))
    (λ t e. let z : ◌≡◌ {A = ℕ} 0 1 = cc in absurd (omega arith))
