-- The words of a list in its bytes: the one at place i is in bytes 6 i to 6 i + 5, and the first bytes of a list are its first words.
use mathlib.Core.Path.{◌≡◌, refl, ap, ap₂, ◌∙◌}
use Prim.Native.Nat.{ℕ, zero, suc, ◌+◌, ◌*◌, ◌/◌, ◌%◌, ◌≤◌, min, max}
use native.Mathlib.Omega.{arith}
use mathlib.Core.Bool.{Bool, true, false, not}
use Rattle.std.specs.Int.{from_bool}
use mathlib.Core.List.{List, [], ◌∷◌}
use lib.ListN.{length, take, get_or}
use lib.Seq.{length-take-le, get_or-take}
use lib.Dec.{eqb}
use Rattle.bits.proofs.Laws.Parts.{part}
use Rattle.orders.specs.Act.{Word}
use Rattle.orders.specs.Listed.{words, shape_ok}
use Rattle.order_words.specs.After.{no_word, word_at, heard, heard_in}
use Rattle.order_words.specs.Looked.{OneWord, paired}

-- the number of 16 bits at byte a
abbrev pub two : List ℕ → ℕ → ℕ
two bs a = get_or bs a 0 * 256 + get_or bs (a + 1) 0

-- ---- words and bytes

pub words_long : (bs : List ℕ) → length (words bs) ≡ length bs / 6
words_long [] = refl
words_long (a ∷ []) = refl
words_long (a ∷ b ∷ []) = refl
words_long (a ∷ b ∷ c ∷ []) = refl
words_long (a ∷ b ∷ c ∷ d ∷ []) = refl
words_long (a ∷ b ∷ c ∷ d ∷ e ∷ []) = refl
words_long (a ∷ b ∷ c ∷ d ∷ e ∷ f ∷ bs) = omega (arith, words_long bs)

abbrev six : ℕ → ℕ
six n = suc (suc (suc (suc (suc (suc n)))))

pub word_at_lem : (bs : List ℕ) (i : ℕ) → 6 * i + 6 ≤ length bs
    → word_at (words bs) i ≡ record { one = two bs (6 * i + 2); other = two bs (6 * i + 4); joins = eqb (two bs (6 * i)) 0 }
word_at_lem [] i l = absurd (omega arith)
word_at_lem (a ∷ []) i l = absurd (omega arith)
word_at_lem (a ∷ b ∷ []) i l = absurd (omega arith)
word_at_lem (a ∷ b ∷ c ∷ []) i l = absurd (omega arith)
word_at_lem (a ∷ b ∷ c ∷ d ∷ []) i l = absurd (omega arith)
word_at_lem (a ∷ b ∷ c ∷ d ∷ e ∷ []) i l = absurd (omega arith)
word_at_lem (a ∷ b ∷ c ∷ d ∷ e ∷ f ∷ bs) zero l = refl
word_at_lem (a ∷ b ∷ c ∷ d ∷ e ∷ f ∷ bs) (suc i) l =
    let z : 6 * suc i ≡ six (6 * i) = omega arith in
    let x : six (6 * i) + 2 ≡ six (6 * i + 2) = omega arith in
    let y : six (6 * i) + 4 ≡ six (6 * i + 4) = omega arith in
    rw (z, x, y, behind (6 * i), behind (6 * i + 2), behind (6 * i + 4)) (word_at_lem bs i (omega arith))
  where
    behind : (n : ℕ) → two (a ∷ b ∷ c ∷ d ∷ e ∷ f ∷ bs) (six n) ≡ two bs n
    behind n = let z : six n + 1 ≡ six (n + 1) = omega arith in rw z

-- ---- the first words

pub words_part : (i : ℕ) (bs : List ℕ) → words (take (6 * i) bs) ≡ take i (words bs)
words_part zero bs = refl
words_part (suc i) bs = let z : 6 * suc i ≡ six (6 * i) = omega arith in rw z (go bs (words_part i))
  where
    go : (bs : List ℕ) → ((cs : List ℕ) → words (take (6 * i) cs) ≡ take i (words cs))
        → words (take (six (6 * i)) bs) ≡ take (suc i) (words bs)
    go [] h = refl
    go (a ∷ []) h = refl
    go (a ∷ b ∷ []) h = refl
    go (a ∷ b ∷ c ∷ []) h = refl
    go (a ∷ b ∷ c ∷ d ∷ []) h = refl
    go (a ∷ b ∷ c ∷ d ∷ e ∷ []) h = refl
    go (a ∷ b ∷ c ∷ d ∷ e ∷ f ∷ bs) h =
        ap (λ (ws : List Word). record { one = c * 256 + d; other = e * 256 + f; joins = eqb (a * 256 + b) 0 } ∷ ws) (h bs)

heard_take : (ws : List Word) (n i : ℕ) → i ≤ n → heard (take n ws) i ≡ heard ws i
heard_take ws n zero l = refl
heard_take ws n (suc i) l =
    ap₂ (λ (w : Word) (hs : List Word). w ∷ hs) (get_or-take n ws i no_word (omega arith)) (heard_take ws n i (omega arith))

-- the first n bytes, as code cuts them out, are the first i words
pub heard_part : (list : List ℕ) (i n : ℕ) → n ≡ 6 * i → n ≤ length list → heard_in (part list 0 n) ≡ heard (words list) i
unfolding heard_in
heard_part list i n e l =
    let z : length (take (6 * i) list) / 6 ≡ i = omega (arith, length-take-le (6 * i) list (omega arith)) in
    rw e (ap₂ (λ (ws : List Word) (j : ℕ). heard ws j) (words_part i list) z ∙ heard_take (words list) i i (omega arith))

-- ---- all words

pub heard_all : (list : List ℕ) → heard_in list ≡ heard (words list) (length (words list))
unfolding heard_in
heard_all list = rw (words_long list)

pub heard_none : heard_in [] ≡ []
unfolding heard_in
heard_none = refl

pub heard_one : (list : List ℕ) (w : Word) → words list ≡ w ∷ [] → heard_in list ≡ w ∷ []
heard_one list w e = heard_all list ∙ ap (λ (ws : List Word). heard ws (length ws)) e

heard_long : (ws : List Word) (i : ℕ) → length (heard ws i) ≡ i
heard_long ws zero = refl
heard_long ws (suc i) = ap suc (heard_long ws i)

pub heard_count : (list : List ℕ) → length (heard_in list) ≡ length list / 6
unfolding heard_in
heard_count list = heard_long (words list) (length list / 6)

-- ---- the word at a place, as code reads it

module _ (list : List ℕ) (i : ℕ) {k a b : ℕ} (l : 6 * i + 6 ≤ length list)
    (ek : k ≡ two list (6 * i)) (ea : a ≡ two list (6 * i + 2)) (eb : b ≡ two list (6 * i + 4)) where
  is_read : word_at (words list) i ≡ record { one = a; other = b; joins = eqb k 0 }
  is_read = rw (ek, ea, eb) (word_at_lem list i l)

  pub pair_read : {high low : ℕ} → high ≡ max a b → low ≡ min a b
      → record { high = high; low = low; joins = eqb k 0 } ≡ paired (word_at (words list) i)
  pair_read h m = rw (h, m, is_read)

-- ---- the list of one word

-- the first number
abbrev kind : Bool → ℕ
kind joins = from_bool (not joins)

abbrev pub bytes_of : ℕ → ℕ → ℕ → List ℕ
bytes_of k a b = 0 ∷ k ∷ a / 256 ∷ a % 256 ∷ b / 256 ∷ b % 256 ∷ []

pub one_word : (a b : ℕ) (joins : Bool) {k : ℕ} → k ≡ kind joins → OneWord a b joins (bytes_of k a b)
unfolding shape_ok
one_word a b joins e =
    let x : a / 256 * 256 + a % 256 ≡ a = omega arith in
    let y : b / 256 * 256 + b % 256 ≡ b = omega arith in
    rw e (go joins x y)
  where
    go : (j : Bool) → a / 256 * 256 + a % 256 ≡ a → b / 256 * 256 + b % 256 ≡ b → OneWord a b j (bytes_of (kind j) a b)
    go true x y = record { is = rw (x, y); shape = tt }
    go false x y = record { is = rw (x, y); shape = tt }
