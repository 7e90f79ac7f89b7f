-- The words of a list looked through from the last back, for the last one about two lines.
use mathlib.Core.Path.{◌≡◌, refl, sym, ap, ◌∙◌}
use mathlib.Core.Logic.{◌≢◌, ◌⊎◌, inl, inr}
use Prim.Native.Nat.{ℕ, suc, ◌-◌, ◌/◌, ◌≤◌, ◌<◌, min, max}
use native.Mathlib.Omega.{arith}
use Rattle.std.specs.Prelude.{Some, None}
use mathlib.Core.Bool.{Bool, true, false, ◌&&◌}
use mathlib.Core.List.{List, ◌∷◌}
use lib.ListN.{length}
use lib.Dec.{eqb}
use mir.Facts.{yes_eqb, no_eqb, yes_and}
use Rattle.bits.specs.Choice.{pick}
use Rattle.bits.specs.ChoiceLaws.{T_true, T_false, not_first, not_second}
use Rattle.orders.specs.Act.{Word}
use Rattle.orders.specs.Listed.{words}
use Rattle.orders.specs.History.{about, said}
use Rattle.order_words.specs.After.{word_at, heard, heard_in}
use Rattle.order_words.specs.Looked.{paired, Says}
use Rattle.order_words.specs.declared.Pair.{Pair}

-- ---- one word, as code has it, and two lines

module _ (w : Word) {p : Pair} (P : p ≡ paired w) (hs : List Word) {high low : ℕ} (k : low ≤ high) (start : Bool) where
  -- the word is about them
  abbrev both : Bool
  both = eqb high p.high && eqb low p.low

  said_by : (b : Bool) → both ≡ b → said (w ∷ hs) high low start ≡ pick b w.joins (said hs high low start)
  said_by b e =
      let x : max high low ≡ high = omega arith in
      let y : min high low ≡ low = omega arith in
      let z : about w.one w.other high low ≡ both = rw (P, x, y) in
      ap (λ (t : Bool). pick t w.joins (said hs high low start)) (z ∙ e)

  pub said_here : p.high ≡ high → p.low ≡ low → said (w ∷ hs) high low start ≡ p.joins
  said_here e f =
      said_by true (T_true both (yes_and (eqb high p.high) (eqb low p.low) (yes_eqb (sym e)) (yes_eqb (sym f))))
      ∙ sym (ap (λ (q : Pair). q.joins) P)

  pub said_other_high : p.high ≢ high → said (w ∷ hs) high low start ≡ said hs high low start
  said_other_high d = said_by false (T_false both (not_first (eqb high p.high) (eqb low p.low) (no_eqb (λ e. d (sym e)))))

  pub said_other_low : p.low ≢ low → said (w ∷ hs) high low start ≡ said hs high low start
  said_other_low d = said_by false (T_false both (not_second (eqb high p.high) (eqb low p.low) (no_eqb (λ e. d (sym e)))))

-- ---- back from the last

-- what all words say, the first i say
pub record Back (list : List ℕ) (high low i : ℕ) : Type 0 where
  pub within : i ≤ length list / 6
  pub is : (start : Bool) → said (heard_in list) high low start ≡ said (heard (words list) i) high low start

module _ {list : List ℕ} {high low : ℕ} where
  pub back_start : Back list high low (length list / 6)
  unfolding heard_in
  back_start = record { within = omega arith; is = λ start. refl }

  pub back_done : {i : ℕ} → Back list high low i → i ≤ 0 → Says list high low None
  back_done {i} t l =
      let z : i ≡ 0 = omega arith in
      record { is = λ start. t.is start ∙ ap (λ (j : ℕ). said (heard (words list) j) high low start) z }

  module _ {i : ℕ} {p : Pair} (t : Back list high low i) (k : 0 < i) (o : low ≤ high)
      (P : p ≡ paired (word_at (words list) (i - 1))) where
    -- the last of the first i words, and those before it
    abbrev w : Word
    w = word_at (words list) (i - 1)

    abbrev hs : List Word
    hs = heard (words list) (i - 1)

    last_word : (start : Bool) → said (heard_in list) high low start ≡ said (w ∷ hs) high low start
    last_word start =
        let z : i ≡ suc (i - 1) = omega arith in
        t.is start ∙ ap (λ (j : ℕ). said (heard (words list) j) high low start) z

    back_other : ((start : Bool) → said (w ∷ hs) high low start ≡ said hs high low start) → Back list high low (i - 1)
    back_other f = record { within = omega (arith, t.within); is = λ start. last_word start ∙ f start }

    pub back_next : (p.high ≡ high × (p.low ≢ low)) ⊎ (p.high ≢ high) → Back list high low (i - 1)
    back_next (inl (e, d)) = back_other (λ start. said_other_low w P hs o start d)
    back_next (inr d) = back_other (λ start. said_other_high w P hs o start d)

    pub back_found : p.high ≡ high → p.low ≡ low → Says list high low (Some p.joins)
    back_found e f = record { is = λ start. last_word start ∙ said_here w P hs o start e f }
