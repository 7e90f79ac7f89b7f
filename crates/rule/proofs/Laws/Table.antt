-- Any table of rules: the row with a number is found by going over the rows one by one; a number stands for nothing exactly where no row
-- has it; and where numbers and least b rise from row to row, which is one test over the table, a rule wants no less than those with
-- lower numbers.
use mathlib.Core.Path.{◌≡◌, refl, ◌∙◌}
use mathlib.Core.Logic.{◌≢◌}
use Prim.Native.Nat.{ℕ, ◌≤◌, ◌<◌}
use native.Mathlib.Omega.{arith}
use mathlib.Core.Bool.{Bool, true}
use mathlib.Core.Option.{Option, none, some}
use mathlib.Core.List.{List, [], ◌∷◌}
use lib.ListN.{drop}
use lib.Dec.{T, eqb, leb, ltb, eqb→eq, leb→le, ltb→lt}
use mir.Facts.{no_eqb, eqb_no}
use Rattle.bits.specs.ChoiceLaws.{pick_no, pick_split}
use Rattle.bits.specs.Lists.{All, all_true}
use Rattle.bits.specs.ListsLaws.{all_true_lem}
use Rattle.rule.specs.Rules.{least_in}
use Rattle.rule.specs.declared.Rule.{Rule}

-- ---- row by row

-- the rows from i on say what all of them say
pub record Looking (rows : List Rule) (rule i : ℕ) : Type 0 where
  pub is : least_in (drop i rows) rule ≡ least_in rows rule

-- ---- numbers that no row has

module _ (rule : ℕ) where
  pub none_without : (rows : List Rule) → least_in rows rule ≡ none → All (λ row. row.number ≢ rule) rows
  none_without [] e = tt
  none_without (row ∷ rows) e =
      pick_split (eqb row.number rule) _ _ e (λ t q. let z : ◌≡◌ {A = ℕ} 0 1 = cc in absurd (omega arith)) (λ t q. (eqb_no t, none_without rows q))

  pub without_none : (rows : List Rule) → All (λ row. row.number ≢ rule) rows → least_in rows rule ≡ none
  without_none [] h = refl
  without_none (row ∷ rows) h = pick_no (eqb row.number rule) _ _ (no_eqb h.0) ∙ without_none rows h.1

-- ---- a table that rises

-- each row has a higher number than the one before it, and wants no less; number and least are those of the row before all of these
abbrev pub rises : (number least : ℕ) → List Rule → Bool
rises number least [] = true
rises number least (row ∷ rows) = all_true (ltb number row.number ∷ leb least row.least ∷ rises row.number row.least rows ∷ [])

module _ (number least : ℕ) (row : Rule) (rows : List Rule) (t : T (rises number least (row ∷ rows))) where
  row_rises : (number < row.number) × (least ≤ row.least) × T (rises row.number row.least rows)
  row_rises =
      let (a, (b, (u, _))) = all_true_lem (ltb number row.number ∷ leb least row.least ∷ rises row.number row.least rows ∷ []) t in
      (ltb→lt number row.number a, leb→le least row.least b, u)

pub some_is : {a b : ℕ} → ◌≡◌ {A = Option ℕ} (some a) (some b) → a ≡ b
some_is h = cc

-- a row of such a table is above the one before all of it
above : (number least : ℕ) (rows : List Rule) → T (rises number least rows) → (n : ℕ) {more : ℕ} → least_in rows n ≡ some more → (number < n) × (least ≤ more)
above number least [] t n e = let z : ◌≡◌ {A = ℕ} 0 1 = cc in absurd (omega arith)
above number least (row ∷ rows) t n e =
    let (a, b, u) = row_rises number least row rows t in
    pick_split (eqb row.number n) _ _ e
    (λ k q. (omega (arith, a, eqb→eq row.number n k), omega (arith, b, some_is q)))
    (λ k q. let (c, d) = above row.number row.least rows u n q in (omega (arith, a, c), omega (arith, b, d)))

-- and a higher number wants no less
pub rising : (number least : ℕ) (rows : List Rule) → T (rises number least rows) → (m n : ℕ) → m ≤ n → {less more : ℕ} → least_in rows m ≡ some less → least_in rows n ≡ some more
    → less ≤ more
rising number least [] t m n l d e = let z : ◌≡◌ {A = ℕ} 0 1 = cc in absurd (omega arith)
rising number least (row ∷ rows) t m n l {less} {more} d e =
    let (_, _, u) = row_rises number least row rows t in
    pick_split (eqb row.number m) _ _ d
    (λ j p. pick_split (eqb row.number n) _ _ e (λ k q. omega (arith, some_is p, some_is q))
    (λ k q. let (_, y) = above row.number row.least rows u n q in omega (arith, some_is p, y)))
    (λ j p. pick_split (eqb row.number n) _ _ e
    (λ k q. let (x, _) = above row.number row.least rows u m p in absurd (omega (arith, x, eqb→eq row.number n k)))
    (λ k q. rising row.number row.least rows u m n l p q))
