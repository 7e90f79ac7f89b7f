-- The words of a list looked through from the first on: for the highest line beside another, and for the next line that is the higher
-- one of a word.
use mathlib.Core.Path.{◌≡◌, refl, ◌∙◌}
use mathlib.Core.Logic.{◌≢◌}
use Prim.Native.Nat.{ℕ, suc, ◌+◌, ◌/◌, ◌≤◌, ◌<◌, min, max}
use native.Mathlib.Omega.{arith}
use native.Mathlib.Numerals.{add-one}
use Rattle.std.specs.Prelude.{Option, Some, None, IfSome}
use mathlib.Core.List.{List}
use lib.ListN.{length}
use Rattle.orders.specs.Act.{Word}
use Rattle.orders.specs.Listed.{words}
use Rattle.order_words.specs.After.{word_at, heard, heard_in, Quiet, Before, Silent}
use Rattle.order_words.specs.Looked.{paired, Bound, NextHigh}
use Rattle.order_words.specs.declared.Pair.{Pair}
use Rattle.order_words.proofs.Laws.Said.{said_other_high, said_other_low}

-- ---- the highest line beside another

-- none of the first i words is about line high and a line from the bound on
pub record Bounding (list : List ℕ) (high before i bound : ℕ) : Type 0 where
  pub within : bound ≤ before
  pub quiet : Quiet (heard (words list) i) high bound before

module _ {list : List ℕ} {high before : ℕ} where
  pub bounding_start : Bounding list high before 0 0
  bounding_start = record { within = omega arith; quiet = λ x k l start. refl }

  module _ {i bound : ℕ} {p : Pair} (t : Bounding list high before i bound) (o : before ≤ suc high)
      (P : p ≡ paired (word_at (words list) i)) where
    -- the next word, and those before it
    abbrev w : Word
    w = word_at (words list) i

    abbrev hs : List Word
    hs = heard (words list) i

    pub bounding_other : p.high ≢ high → Bounding list high before (i + 1) bound
    bounding_other d =
        rw (add-one i) (record {
          within = t.within;
          quiet = λ x k l start. said_other_high w P hs (omega arith) start d ∙ t.quiet x k l start;
        })

    apart : (b : ℕ) → bound ≤ b → b ≤ before → ((x : ℕ) → b ≤ x → x < before → p.low ≢ x) → Bounding list high before (i + 1) b
    apart b u h f =
        rw (add-one i) (record {
          within = h;
          quiet = λ x k l start. said_other_low w P hs (omega arith) start (f x k l) ∙ t.quiet x (omega arith) l start;
        })

    pub bounding_above : before ≤ p.low → Bounding list high before (i + 1) bound
    bounding_above h = apart bound (omega arith) t.within (λ x k l e. omega arith)

    pub bounding_raised : {b : ℕ} → b ≡ max bound (p.low + 1) → p.low < before → Bounding list high before (i + 1) b
    bounding_raised {b} e h = apart b (omega arith) (omega (arith, t.within)) (λ x k l z. omega arith)

  -- all words are passed
  pub bounding_done : {i bound : ℕ} → Bounding list high before i bound → i ≡ length list / 6 → Bound list high before bound
  unfolding heard_in
  bounding_done t e = record { within = t.within; quiet = rw (← e) t.quiet }

-- ---- the next higher line

-- none of the first i words has its higher line from `from` on and before `next`
pub record Seeking (list : List ℕ) (from i : ℕ) (next : Option ℕ) : Type 0 where
  pub up : IfSome next (λ l. from ≤ l)
  pub silent : Silent (heard (words list) i) from next

module _ {list : List ℕ} {from : ℕ} where
  pub seeking_start : Seeking list from 0 None
  seeking_start = record { up = tt; silent = λ l k m x a b start. refl }

  module _ {i : ℕ} {next : Option ℕ} {p : Pair} (t : Seeking list from i next) (P : p ≡ paired (word_at (words list) i)) where
    -- the same
    abbrev v : Word
    v = word_at (words list) i

    abbrev ks : List Word
    ks = heard (words list) i

    aside : (n : Option ℕ) → IfSome n (λ l. from ≤ l) → ((l : ℕ) → from ≤ l → Before l n → (p.high ≢ l) × Before l next) → Seeking list from (i + 1) n
    aside n u f =
        rw (add-one i) (record {
          up = u;
          silent = λ l k m x a b start. let (d, o) = f l k m in said_other_high v P ks (omega arith) start d ∙ t.silent l k o x a b start;
        })

    pub seeking_before : p.high < from → Seeking list from (i + 1) next
    seeking_before h = aside next t.up (λ l k m. (λ e. omega arith, m))

    pub seeking_first : next ≡ None → from ≤ p.high → Seeking list from (i + 1) (Some p.high)
    seeking_first e h = aside (Some p.high) h (λ l k m. (λ z. omega arith, rw e tt))

    pub seeking_lower : {n m : ℕ} → next ≡ Some n → m ≡ min n p.high → from ≤ p.high → Seeking list from (i + 1) (Some m)
    seeking_lower {n} {m} e z h =
        let u : from ≤ n = rw e at t.up in
        aside (Some m) (omega arith) (λ l k o. (λ y. omega arith, rw e (omega arith)))

  pub seeking_done : {i : ℕ} {next : Option ℕ} → Seeking list from i next → i ≡ length list / 6 → NextHigh list from next
  unfolding heard_in
  seeking_done t e = record { up = t.up; silent = rw (← e) t.silent }
