-- What the code that looks through the words of a list asks and answers: the word at a place, the last word about two lines, the next
-- line that a word names beside another, and the next line that is the higher one of a word.
use Rattle.std.specs.Prelude.{◌≡◌, ℕ, suc, ◌+◌, ◌≤◌, ◌<◌, min, max, Bool, Option, unwrap_or, IfSome, List, [], ◌∷◌, T}
use Rattle.orders.specs.Act.{Word}
use Rattle.orders.specs.Listed.{words, shape_ok}
use Rattle.orders.specs.History.{said}
use Rattle.order_words.specs.After.{heard_in, Quiet, Silent}
use Rattle.order_words.specs.declared.Pair.{Pair}
use Rattle.order_words.specs.declared.About.{About}

-- ---- a list of one word

pub record OneThere (a b : ℕ) : Type 0 where
  pub first : a < 65536
  pub second : b < 65536

pub record OneWord (a b : ℕ) (joins : Bool) (list : List ℕ) : Type 0 where
  pub is : words list ≡ record { one = a; other = b; joins = joins } ∷ []
  pub shape : T (shape_ok list)

-- ---- the word at a place

-- as code has it: the higher line first
abbrev pub paired : Word → Pair
paired w = record { high = max w.one w.other; low = min w.one w.other; joins = w.joins }

-- ---- the last word about two lines

-- where there is none, what was so before all words; start is that
pub record Says (list : List ℕ) (high low : ℕ) (r : Option Bool) : Type 0 where
  pub is : (start : Bool) → said (heard_in list) high low start ≡ unwrap_or r start

-- ---- the next line beside another

-- lines from `before` on do not count
pub record Bound (list : List ℕ) (high before r : ℕ) : Type 0 where
  pub within : r ≤ before
  pub quiet : Quiet (heard_in list) high r before

-- ---- the next higher line

pub record NextHigh (list : List ℕ) (from : ℕ) (r : Option ℕ) : Type 0 where
  pub up : IfSome r (λ l. from ≤ l)
  pub silent : Silent (heard_in list) from r

-- ---- line l's turn, where the lines come one behind the other

pub record TurnThere (list : List ℕ) (l : ℕ) (named : Option ℕ) : Type 0 where
  pub few : l < 65536
  pub next : NextHigh list l named

pub record TurnTold (list : List ℕ) (l : ℕ) (r : About) : Type 0 where
  pub bound : Bound list l (suc l) r.bound
  pub next : NextHigh list (l + 1) r.next
