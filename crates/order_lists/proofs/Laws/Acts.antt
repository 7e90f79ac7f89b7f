-- The lists that the code walks along are those of the definitions: of a removal, and of words that have passed their tests.
use mathlib.Core.Path.{◌≡◌, refl, sym, ap, ◌∙◌}
use Prim.Native.Nat.{ℕ, zero, suc, ◌+◌, ◌-◌, ◌<◌}
use native.Mathlib.Omega.{arith}
use native.Mathlib.Nat.{zero-add}
use mathlib.Core.Bool.{Bool, true, false}
use mathlib.Core.Option.{none, some}
use mathlib.Core.List.{List, [], ◌∷◌}
use lib.ListN.{length, get_or}
use lib.Seq.{ext_get_or}
use Rattle.bits.specs.Choice.{pick}
use Rattle.differences.specs.Differences.{Falls}
use Rattle.format.specs.View.{View}
use Rattle.orders.specs.Survive.{elem, survivors, cons?, renumber, RisesFrom}
use Rattle.orders.specs.Act.{Word, remove, lists, new_lists}
use Rattle.orders.proofs.Laws.Right.{RightLists, Right}
use Rattle.order_removal.specs.Rank.{below}
use Rattle.order_removal.specs.Kept.{kept}
use Rattle.order_removal.proofs.Laws.Place.{place_is}
use Rattle.order_removal.proofs.Laws.Kept.{kept_same, kept_survivors}
use Rattle.order_words.specs.After.{list_after, lists_after, Passed}
use Rattle.order_words.proofs.Laws.Falls.{list_none}
use Rattle.order_words.proofs.Laws.Lists.{length_after, list_after_lem}
use Rattle.order_lists.specs.List.{stayed}
use Rattle.order_lists.specs.Lists.{new_list, new_from}

-- ---- a removal: no word is said

picked : (b : Bool) (x : ℕ) {S R : List ℕ} → S ≡ R → pick b S (x ∷ S) ≡ cons? (pick b none (some x)) R
picked true x e = e
picked false x e = ap (λ (ys : List ℕ). x ∷ ys) e

stayed_renumber : (rs : List ℕ) → RisesFrom 0 rs → (n m b : ℕ) (ns : List ℕ) → b < n → Falls m b ns → stayed rs ns ≡ renumber (survivors n rs) ns
stayed_renumber rs h n m b [] l f = refl
stayed_renumber rs h n m b (x ∷ ns) l f =
    let ih = stayed_renumber rs h n 1 x ns (omega (arith, f.0)) f.1 in
    rw (place_is rs h n x (omega (arith, f.0))) (picked (elem x rs) (x - below rs x) ih)

pub remove_lists : (rs : List ℕ) → RisesFrom 0 rs → (ls : List (List ℕ)) → RightLists (length ls) ls → new_from rs [] 0 ls ≡ new_lists (remove rs) (length ls) ls
remove_lists rs h ls r =
    kept_same (new_list rs []) (λ l ns. renumber (survivors (length ls) rs) ns) rs 0 [] ls
    (λ i l. rw (zero-add i) (ap (stayed rs) (list_none i (get_or ls i []) (r.falls i l)) ∙ stayed_renumber rs h (length ls) 0 i (get_or ls i []) l (r.falls i l)))
    ∙ kept_survivors (renumber (survivors (length ls) rs)) [] rs ls

-- ---- words: no line is removed

stayed_all : (ns : List ℕ) → stayed [] ns ≡ ns
stayed_all [] = refl
stayed_all (n ∷ ns) = let z : n - 0 ≡ n = omega arith in rw z (ap (λ (ys : List ℕ). n ∷ ys) (stayed_all ns))

module _ {A B : Type 0} (g : ℕ → A → B) where
  kept_long : (l : ℕ) (xs : List A) → length (kept g [] l xs) ≡ length xs
  kept_long l [] = refl
  kept_long l (x ∷ xs) = ap suc (kept_long (suc l) xs)

  kept_at : (a : A) (b : B) (l : ℕ) (xs : List A) (i : ℕ) → i < length xs → get_or (kept g [] l xs) i b ≡ g (l + i) (get_or xs i a)
  kept_at a b l [] i k = absurd (omega arith)
  kept_at a b l (x ∷ xs) zero k = let z : l + 0 ≡ l = omega arith in rw z
  kept_at a b l (x ∷ xs) (suc i) k = let z : l + suc i ≡ suc l + i = omega arith in rw z (kept_at a b (suc l) xs i (omega arith))

pub words_lists : (hs : List Word) (v : View) (ls : List (List ℕ)) → lists v ≡ some ls → Right v → Passed hs v → new_from [] hs 0 ls ≡ lists_after hs ls
words_lists hs v ls e r p =
    ext_get_or [] (new_from [] hs 0 ls) (lists_after hs ls) (kept_long (new_list [] hs) 0 ls ∙ sym (length_after hs ls))
    (λ l k. let i : l < length ls = omega (arith, kept_long (new_list [] hs) 0 ls) in
    kept_at (new_list [] hs) [] [] 0 ls l i ∙ ap (λ (n : ℕ). new_list [] hs n (get_or ls l [])) (zero-add l)
    ∙ stayed_all (list_after hs l (get_or ls l [])) ∙ sym (list_after_lem v ls e r hs p l (omega (arith, (r ls e).count))))
