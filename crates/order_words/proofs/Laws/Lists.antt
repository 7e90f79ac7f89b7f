-- The lists of neighbours after some words: each line's is what the words make of its old one, and each word adds at most one entry.
use mathlib.Core.Path.{◌≡◌, refl, ap, ◌∙◌}
use Prim.Native.Nat.{ℕ, zero, suc, ◌+◌, ◌≤◌, ◌<◌, min, max}
use native.Mathlib.Omega.{arith}
use mathlib.Core.Bool.{Bool, true, false}
use mathlib.Core.Option.{some}
use mathlib.Core.List.{List, [], ◌∷◌}
use lib.ListN.{length, get_or, set, length-set}
use lib.Dec.{eqb, ltb}
use Rattle.bits.specs.Choice.{pick}
use Rattle.bits.specs.ChoiceLaws.{pick_case}
use Rattle.bits.specs.Lists.{total}
use Rattle.format.specs.View.{View}
use Rattle.format.specs.Places.{count}
use Rattle.orders.specs.Survive.{elem}
use Rattle.orders.specs.Act.{Word, lists, near, insert, delete}
use Rattle.orders.specs.History.{said}
use Rattle.orders.proofs.Laws.Right.{Right}
use Rattle.order_words.specs.After.{word_lists, lists_after, Passed, list_after}
use Rattle.order_words.proofs.Laws.Falls.{list_is}
use Rattle.order_words.proofs.Laws.After.{these_lists, right_lists, near_after}

-- ---- line by line

pub length_after : (hs : List Word) (ls : List (List ℕ)) → length (lists_after hs ls) ≡ length ls
length_after [] ls = refl
length_after (w ∷ hs) ls = length-set (lists_after hs ls) (max w.one w.other) _ ∙ length_after hs ls

module _ (v : View) (ls : List (List ℕ)) (e : lists v ≡ some ls) (r : Right v) (hs : List Word) (h : Passed hs v) where
  -- what is in line l's list
  pub elem_after : (l x : ℕ) → x ≤ l → elem x (get_or (lists_after hs ls) l []) ≡ said hs l x (elem x (get_or ls l []))
  unfolding near
  elem_after l x k =
      let hi : max l x ≡ l = omega arith in
      let lo : min l x ≡ x = omega arith in
      rw (these_lists v ls e hs, e, hi, lo) at (near_after v ls e r hs h l x)

  pub list_after_lem : (l : ℕ) → l < count v → get_or (lists_after hs ls) l [] ≡ list_after hs l (get_or ls l [])
  list_after_lem l k =
      list_is hs l (get_or ls l []) (get_or (lists_after hs ls) l []) ((right_lists v ls e r hs h).falls l k) (λ x o. elem_after l x o)

-- ---- how many entries there are

insert_long : (x : ℕ) (ns : List ℕ) → length (insert x ns) ≡ suc (length ns)
insert_long x [] = refl
insert_long x (n ∷ ns) =
    pick_case (λ (l : List ℕ). length l ≡ suc (suc (length ns))) (ltb n x) _ _ (λ t. refl) (λ t. ap suc (insert_long x ns))

delete_long : (x : ℕ) (ns : List ℕ) → length (delete x ns) ≤ length ns
delete_long x [] = omega arith
delete_long x (n ∷ ns) =
    let ih : length (delete x ns) ≤ length ns = delete_long x ns in
    pick_case (λ (l : List ℕ). length l ≤ suc (length ns)) (eqb x n) _ _ (λ t. omega arith) (λ t. omega arith)

-- another list in the place of one
total_set : (ls : List (List ℕ)) (i : ℕ) (ns : List ℕ)
    → total length (set ls i ns) + length (get_or ls i []) ≤ total length ls + length ns
total_set [] i ns = omega arith
total_set (l ∷ ls) zero ns = omega arith
total_set (l ∷ ls) (suc i) ns = omega (arith, total_set ls i ns)

word_entries : (w : Word) (ls : List (List ℕ)) → total length (word_lists w ls) ≤ suc (total length ls)
word_entries w ls = go w.joins
  where
    hi : ℕ
    hi = max w.one w.other

    lo : ℕ
    lo = min w.one w.other

    go : (j : Bool) → total length (set ls hi (pick j (insert lo) (delete lo) (get_or ls hi []))) ≤ suc (total length ls)
    go true = omega (arith, total_set ls hi (insert lo (get_or ls hi [])), insert_long lo (get_or ls hi []))
    go false = omega (arith, total_set ls hi (delete lo (get_or ls hi [])), delete_long lo (get_or ls hi []))

pub entries_after : (hs : List Word) (ls : List (List ℕ)) → total length (lists_after hs ls) ≤ total length ls + length hs
entries_after [] ls = omega arith
entries_after (w ∷ hs) ls = omega (arith, word_entries w (lists_after hs ls), entries_after hs ls)
