-- What the code that judges numbers for pores asks and answers: vs are the bytes that are lent.
use Rattle.std.specs.Prelude.{◌≡◌, ℕ, ◌+◌, ◌%◌, ◌≤◌, min, List, [], length, drop, Option, Some, None}
use Rattle.std.proofs.Math.Option.{none, some}
use Rattle.bits.specs.Lists.{total}
use Rattle.bits.specs.Codec.{got, value_of, times_dec}
use Rattle.pores_parts.specs.Parts.{Pores}
use Rattle.pores.specs.Numbers.{line_numbers, fours_in, pores_from}
use Rattle.pores.specs.Size.{line_elements, element_count}
use Rattle.pores_numbers.specs.declared.JudgedNumbers.{JudgedNumbers}
use Rattle.pores_numbers.specs.declared.JudgedLine.{JudgedLine}

-- Elements are counted up to so many. Of two bits each they take 65,536 bytes, and no record has more than 32,768.
abbrev pub most_counted : ℕ
most_counted = 262144

abbrev pub counted : ℕ → ℕ
counted elements = min elements most_counted

-- ---- a line, whose count stands at byte at; there are t elements before it

pub record LineThere (vs : List ℕ) (at e t : ℕ) : Type 0 where
  pub whole : length vs % 4 ≡ 0
  pub start : at % 4 ≡ 0
  pub within : at ≤ length vs
  pub low : 2 ≤ e
  pub high : e ≤ 8
  pub few : t ≤ most_counted

-- the list goes on at byte b, with u elements before it
pub record LineRight (vs : List ℕ) (at e t b u : ℕ) : Type 0 where
  pub value : List ℕ
  pub is : line_numbers.dec (fours_in (drop at vs)) ≡ got value (fours_in (drop b vs))
  pub elements : u ≡ counted (t + line_elements e value)
  pub start : b % 4 ≡ 0
  pub within : b ≤ length vs

pub record LineBroken (vs : List ℕ) (at : ℕ) : Type 0 where
  pub is : value_of (line_numbers.dec (fours_in (drop at vs))) ≡ none

abbrev pub LineJudged : List ℕ → (at e t : ℕ) → Option JudgedLine → Type 0
LineJudged vs at e t (Some l) = LineRight vs at e t l.next l.elements
LineJudged vs at e t None = LineBroken vs at

-- ---- all lines, behind the first two numbers, and nothing behind them

pub record LinesThere (vs : List ℕ) (e : ℕ) : Type 0 where
  pub whole : length vs % 4 ≡ 0
  pub front : 8 ≤ length vs
  pub low : 2 ≤ e
  pub high : e ≤ 8

pub record LinesRight (lines : ℕ) (vs : List ℕ) (e k u : ℕ) : Type 0 where
  pub value : List (List ℕ)
  pub is : times_dec line_numbers lines (fours_in (drop 8 vs)) ≡ got value []
  pub bits : k ≡ e
  pub elements : u ≡ counted (total (line_elements e) value)

pub record LinesBroken (lines : ℕ) (vs : List ℕ) : Type 0 where
  pub is : (value : List (List ℕ)) → times_dec line_numbers lines (fours_in (drop 8 vs)) ≡ got value [] → ⊥

abbrev pub LinesJudged : (lines : ℕ) → List ℕ → (e : ℕ) → Option JudgedNumbers → Type 0
LinesJudged lines vs e (Some n) = LinesRight lines vs e n.e n.elements
LinesJudged lines vs e None = LinesBroken lines vs

-- ---- all numbers

-- they are right for a view of that many lines: k bits have their elements, and there are u, as far as they are counted
pub record NumbersRight (lines : ℕ) (vs : List ℕ) (k u : ℕ) : Type 0 where
  pub value : Pores
  pub is : pores_from lines vs ≡ some value
  pub bits : k ≡ value.e
  pub elements : u ≡ counted (element_count value)

pub record NumbersBroken (lines : ℕ) (vs : List ℕ) : Type 0 where
  pub is : pores_from lines vs ≡ none

abbrev pub NumbersJudged : (lines : ℕ) → List ℕ → Option JudgedNumbers → Type 0
NumbersJudged lines vs (Some n) = NumbersRight lines vs n.e n.elements
NumbersJudged lines vs None = NumbersBroken lines vs
