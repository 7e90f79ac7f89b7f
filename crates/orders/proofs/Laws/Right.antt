-- Orders keep lists of neighbours right: one for each line, falling, its first number at most the line's own. So what they leave
-- can be written.
use mathlib.Core.Path.{◌≡◌, sym, ◌∙◌}
use mathlib.Core.Logic.{◌≢◌}
use Prim.Native.Nat.{ℕ, ◌+◌, ◌≤◌, ◌<◌, min, max}
use native.Mathlib.Omega.{arith}
use mathlib.Core.Bool.{not, ◌&&◌}
use mathlib.Core.Option.{some}
use mathlib.Core.List.{List, [], ◌∷◌}
use lib.ListN.{length, get_or, length-set, length-map}
use lib.Dec.{T, ltb, eqb, ltb→lt, nltb→le}
use lib.Seq.{get_or-set_same, get_or-set_other}
use mir.Facts.{or_no, eqb_no}
use Rattle.bits.specs.ChoiceLaws.{pick_case, split, eq_split}
use Rattle.bits.specs.ListsLaws.{all_at, map_at, mapped}
use Rattle.differences.specs.Differences.{Falls}
use Rattle.format.specs.View.{View}
use Rattle.format.specs.Places.{count}
use Rattle.orders.specs.Survive.{elem, at, survivors, renumber, RisesFrom}
use Rattle.orders.specs.Act.{Act, remove, join, part, lists, near, insert, delete, change, new_lists, new_lines, after}
use Rattle.orders.specs.Order.{tests, Pass}
use Rattle.orders.proofs.Laws.Survive.{rises_lt, rises_le, place_at, survivors_rise, survivors_below}
use Rattle.orders.proofs.Laws.Near.{lines_after, lists_after_lem}
use Rattle.orders.proofs.Laws.Accept.{both_lines}

-- a list for each of n lines, each falling from at most its line's number
pub record RightLists (n : ℕ) (ls : List (List ℕ)) : Type 0 where
  pub count : length ls ≡ n
  pub falls : (i : ℕ) → i < n → Falls 0 i (get_or ls i [])

-- where the view has an index, its lists are right
abbrev pub Right : View → Type 0
Right v = (ls : List (List ℕ)) → lists v ≡ some ls → RightLists (count v) ls

-- ---- a renumbered list falls

-- the first left out
falls_skip : (m l n : ℕ) (ns : List ℕ) → n + m ≤ l → Falls 1 n ns → Falls m l ns
falls_skip m l n [] k h = tt
falls_skip m l n (x ∷ ns) k h = (omega arith, h.1)

renumber_falls : (ks : List ℕ) (m b c : ℕ) (ns : List ℕ) → RisesFrom 0 ks → ((j : ℕ) → j < length ks → at ks j + m ≤ b → j + m ≤ c)
    → Falls m b ns → Falls m c (renumber ks ns)
renumber_falls ks m b c [] h f g = tt
renumber_falls ks m b c (n ∷ ns) h f g =
    place_at ks n (λ p d. rw p (renumber_falls ks m b c ns h f (falls_skip m b n ns g.0 g.1)))
    (λ j p l e. rw p (
      f j l (omega arith),
      renumber_falls ks 1 n j ns h (λ i k o. split j i (λ z. absurd (omega (arith, rises_le 0 ks h j i z k))) (λ z. omega arith)) g.1,
    ))

remove_right : (n : ℕ) (rs : List ℕ) (ls : List (List ℕ)) → RightLists n ls → RightLists (length (survivors n rs)) (new_lists (remove rs) n ls)
remove_right n rs ls r =
    let ks : List ℕ = survivors n rs in
    let h : RisesFrom 0 ks = survivors_rise n rs in
    record {
      count = length-map ks (λ i. renumber ks (get_or ls i []));
      falls = λ p l. rw (map_at (λ i. renumber ks (get_or ls i [])) ks p 0 [] l)
          (renumber_falls ks 0 (at ks p) p (get_or ls (at ks p) []) h
          (λ j k o. split j p (λ z. omega arith) (λ z. absurd (omega (arith, rises_lt 0 ks p j h z k))))
          (r.falls (at ks p) (all_at (λ x. x < n) 0 ks p l (survivors_below n rs))));
    }

-- ---- a list with one more, or one less, falls

insert_falls : (m l x : ℕ) (ns : List ℕ) → x + m ≤ l → T (not (elem x ns)) → Falls m l ns → Falls m l (insert x ns)
insert_falls m l x [] b t h = (b, tt)
insert_falls m l x (n ∷ ns) b t h =
    let (d, u) = or_no (eqb x n) (elem x ns) t in
    let ne : x ≢ n = eqb_no d in
    pick_case (Falls m l) (ltb n x) _ _ (λ k. (b, (omega (arith, ltb→lt n x k), h.1)))
    (λ k. (h.0, insert_falls 1 n x ns (omega (arith, nltb→le n x k)) u h.1))

delete_falls : (m l x : ℕ) (ns : List ℕ) → Falls m l ns → Falls m l (delete x ns)
delete_falls m l x [] h = tt
delete_falls m l x (n ∷ ns) h =
    let ih : Falls 1 n (delete x ns) = delete_falls 1 n x ns h.1 in
    pick_case (Falls m l) (eqb x n) _ _ (λ t. falls_skip m l n (delete x ns) h.0 ih) (λ t. (h.0, ih))

-- the list of a pair's higher line changed by f
change_right : (f : List ℕ → List ℕ) (a b n : ℕ) (ls : List (List ℕ)) → T (ltb a n && ltb b n)
    → (Falls 0 (max a b) (get_or ls (max a b) []) → Falls 0 (max a b) (f (get_or ls (max a b) []))) → RightLists n ls → RightLists n (change f (max a b) ls)
change_right f a b n ls t g r =
    let hi : ℕ = max a b in
    let (la, lb) = both_lines a b n t in
    record {
      count = length-set ls hi (f (get_or ls hi [])) ∙ r.count;
      falls = λ i l. eq_split i hi
          (λ e. rw (e, get_or-set_same ls hi (f (get_or ls hi [])) [] (omega (arith, r.count))) (g (r.falls hi (omega arith))))
          (λ d. rw (get_or-set_other ls hi i (f (get_or ls hi [])) [] d) (r.falls i l));
    }

-- ---- every order

new_right : (a : Act) (v : View) (ls : List (List ℕ)) → lists v ≡ some ls → Pass (tests a v) → RightLists (count v) ls
    → RightLists (length (new_lines a v)) (new_lists a (count v) ls)
unfolding tests near
new_right (remove rs) v ls e p r = rw length-map (remove_right (count v) rs ls r)
new_right (join a b) v ls e p r =
    change_right (insert (min a b)) a b (count v) ls p.1.0
    (insert_falls 0 (max a b) (min a b) (get_or ls (max a b) []) (omega arith) (rw e at p.1.1.0)) r
new_right (part a b) v ls e p r =
    change_right (delete (min a b)) a b (count v) ls p.1.0 (delete_falls 0 (max a b) (min a b) (get_or ls (max a b) [])) r

pub after_right : (a : Act) (v : View) → Pass (tests a v) → Right v → Right (after a v)
after_right a v p r ks e =
    mapped (new_lists a (count v)) (lists v) ks (sym (lists_after_lem a v) ∙ e)
    (λ ls q z. rw (← z, lines_after a v) (new_right a v ls q p (r ls q)))
