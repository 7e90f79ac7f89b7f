-- Going over values that there is one of for each line, in a block, under a removal: line l comes next, and what the lines before it
-- left is done. `At l p xs` says that the values xs of the lines from l on stand at place p; `Rest ys` says what is still to be
-- done with ys, which is what they become.
use mathlib.Core.Path.{◌≡◌}
use Prim.Native.Nat.{ℕ, ◌+◌, ◌≤◌, ◌<◌}
use native.Mathlib.Omega.{arith}
use native.Mathlib.Numerals.{add-one}
use mathlib.Core.Bool.{true, false}
use mathlib.Core.List.{List, [], ◌∷◌}
use lib.ListN.{length}
use Rattle.orders.specs.Survive.{elem}
use Rattle.order_removal.specs.Kept.{kept}

pub record Going {A B : Type 0} (g : ℕ → A → B) (rs : List ℕ) (count : ℕ) (At : ℕ → ℕ → List A → Type 0) (Rest : List B → Type 0) (l p : ℕ) : Type 0 where
  pub more : List A
  pub at : At l p more
  pub left : l + length more ≡ count
  pub rest : Rest (kept g rs l more)

-- line l's value, which comes next: its line is gone, or it stays
pub record Turn {A B : Type 0} (g : ℕ → A → B) (rs : List ℕ) (count : ℕ) (At : ℕ → ℕ → List A → Type 0) (Rest : List B → Type 0) (l p : ℕ) : Type 0 where
  pub value : A
  pub others : List A
  pub at : At l p (value ∷ others)
  pub left : l + 1 + length others ≡ count
  pub gone : elem l rs ≡ true → Rest (kept g rs (l + 1) others)
  pub stays : elem l rs ≡ false → Rest (g l value ∷ kept g rs (l + 1) others)

module _ {A B : Type 0} {g : ℕ → A → B} {rs : List ℕ} {count : ℕ} {At : ℕ → ℕ → List A → Type 0} {Rest : List B → Type 0} {l p : ℕ} where
  pub turn : Going g rs count At Rest l p → l < count → Turn g rs count At Rest l p
  turn h k = go h.more h.at h.left h.rest
    where
      go : (xs : List A) → At l p xs → l + length xs ≡ count → Rest (kept g rs l xs) → Turn g rs count At Rest l p
      go [] a c r = absurd (omega arith)
      go (x ∷ xs) a c r =
          record { value = x; others = xs; at = a; left = omega arith; gone = λ e. rw (add-one l) (rw e at r); stays = λ e. rw (add-one l) (rw e at r) }

  -- to the next line
  pub gone_on : {q : ℕ} → (t : Turn g rs count At Rest l p) → elem l rs ≡ true → At (l + 1) q t.others → Going g rs count At Rest (l + 1) q
  gone_on t e a = record { more = t.others; at = a; left = t.left; rest = t.gone e }

  pub stays_on : {Next : List B → Type 0} {q : ℕ} → (t : Turn g rs count At Rest l p) → At (l + 1) q t.others → Next (kept g rs (l + 1) t.others)
      → Going g rs count At Next (l + 1) q
  stays_on t a r = record { more = t.others; at = a; left = t.left; rest = r }

  -- behind the last line
  pub all_gone_over : Going g rs count At Rest l p → count ≤ l → Rest []
  all_gone_over h k = go h.more h.left h.rest
    where
      go : (xs : List A) → l + length xs ≡ count → Rest (kept g rs l xs) → Rest []
      go [] c r = r
      go (x ∷ xs) c r = absurd (omega arith)
