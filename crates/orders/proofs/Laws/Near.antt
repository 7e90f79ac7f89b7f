-- What each order does to who is near whom: survivors of a removal are near exactly if they were, and a pair order decides its own
-- pair and no other. And what every order leaves: header, segments, whether there is an index.
use mathlib.Core.Path.{◌≡◌, refl, sym, ap, ◌∙◌}
use Prim.Native.Nat.{ℕ, ◌<◌, min, max}
use native.Mathlib.Omega.{arith}
use mathlib.Core.Bool.{Bool, true, false, ◌||◌, ◌&&◌}
use mathlib.Core.Option
use mathlib.Core.Option.{Option, none, some}
use mathlib.Core.List.{List, [], ◌∷◌, map}
use lib.ListN.{length, get_or}
use lib.Dec.{eqb, ltb, eqb→eq}
use lib.Seq.{get_or-set_same, get_or-set_other}
use mir.Facts.{eqb_no}
use Rattle.bits.specs.Choice.{pick, some?}
use Rattle.bits.specs.ChoiceLaws.{pick_case, eqb_true, eqb_false, eq_split}
use Rattle.bits.specs.ListsLaws.{map_at, mapped}
use Rattle.format.specs.Index.{Index}
use Rattle.format.specs.View.{View}
use Rattle.format.specs.Places.{count}
use Rattle.orders.specs.Survive.{elem, at, survivors, renumber, RisesFrom}
use Rattle.orders.specs.Least.{least_width, index_of}
use Rattle.orders.specs.Act.{Act, remove, join, part, lists, indexed?, list_at, near, insert, delete, change, new_lists, new_lines, new_segments, after}
use Rattle.orders.specs.History.{about}
use Rattle.orders.proofs.Laws.Survive.{at_ends, renumber_elem, survivors_rise}

-- ---- what every order leaves

pub head_after : (a : Act) (v : View) → (after a v).head ≡ v.head
unfolding after
head_after a v = refl

pub segments_after : (a : Act) (v : View) → (after a v).segments ≡ new_segments a v
unfolding after
segments_after a v = refl

pub lines_after : (a : Act) (v : View) → (after a v).lines ≡ new_lines a v
unfolding after
lines_after a v = refl

-- the index that is left if f makes the lists
abbrev made : (List (List ℕ) → List (List ℕ)) → Option Index → Option Index
made f o = Option.map (λ ls. index_of (f ls)) (Option.map (λ i. i.lists) o)

-- it is there if there was one, has the lists that f makes, and is what they call for
made_is : (f : List (List ℕ) → List (List ℕ)) (o : Option Index) → (some? (made f o) ≡ some? o)
    × (Option.map (λ i. i.lists) (made f o) ≡ Option.map f (Option.map (λ i. i.lists) o))
    × (made f o ≡ Option.map index_of (Option.map (λ i. i.lists) (made f o)))
made_is f none = (refl, refl, refl)
made_is f (some i) = (refl, refl, refl)

pub index_after : (a : Act) (v : View) → (after a v).index ≡ Option.map index_of (lists (after a v))
unfolding after
index_after a v = (made_is (new_lists a (count v)) v.index).2

pub lists_after_lem : (a : Act) (v : View) → lists (after a v) ≡ Option.map (new_lists a (count v)) (lists v)
unfolding after
lists_after_lem a v = (made_is (new_lists a (count v)) v.index).1

pub indexed_after : (a : Act) (v : View) → indexed? (after a v) ≡ indexed? v
unfolding after
indexed_after a v = (made_is (new_lists a (count v)) v.index).0

-- an index that is left has its least width
pub least_after : (a : Act) (v : View) (i : Index) → (after a v).index ≡ some i → i.width ≡ least_width i.lists
least_after a v i e = mapped index_of (lists (after a v)) i (sym (index_after a v) ∙ e) (λ ls q z. rw (← z))

-- ---- removal

list_remove : (o : Option (List (List ℕ))) (ks : List ℕ) (x i : ℕ) → RisesFrom 0 ks → x < length ks → i < length ks
    → elem x (list_at (Option.map (λ ls. map (λ i. renumber ks (get_or ls i [])) ks) o) i) ≡ elem (at ks x) (list_at o (at ks i))
list_remove none ks x i h k l = refl
list_remove (some ls) ks x i h k l =
    ap (elem x) (map_at (λ i. renumber ks (get_or ls i [])) ks i 0 [] l) ∙ renumber_elem 0 ks x (get_or ls (at ks i) []) h k

pub near_remove : (v : View) (rs : List ℕ) (p q : ℕ) → p < length (survivors (count v) rs) → q < length (survivors (count v) rs)
    → near (after (remove rs) v) p q ≡ near v (at (survivors (count v) rs) p) (at (survivors (count v) rs) q)
unfolding near
near_remove v rs p q k l =
    let ks : List ℕ = survivors (count v) rs in
    let h : RisesFrom 0 ks = survivors_rise (count v) rs in
    let (hi, lo) = at_ends 0 ks h p q k l in
    rw (lists_after_lem (remove rs) v, hi, lo) (list_remove (lists v) ks (min p q) (max p q) h (omega arith) (omega arith))

-- ---- a number put in, a number taken out

or_pick : (a b c : Bool) → a || pick b true c ≡ pick b true (a || c)
or_pick true true c = refl
or_pick true false c = refl
or_pick false b c = refl

pick_or : (b c : Bool) → b || c ≡ pick b true c
pick_or true c = refl
pick_or false c = refl

elem_insert : (x m : ℕ) (ns : List ℕ) → elem x (insert m ns) ≡ pick (eqb x m) true (elem x ns)
elem_insert x m [] = pick_or (eqb x m) false
elem_insert x m (n ∷ ns) =
    pick_case (λ (l : List ℕ). elem x l ≡ pick (eqb x m) true (elem x (n ∷ ns))) (ltb n m) _ _ (λ t. pick_or (eqb x m) (elem x (n ∷ ns)))
    (λ t. ap (λ (b : Bool). eqb x n || b) (elem_insert x m ns) ∙ or_pick (eqb x n) (eqb x m) (elem x ns))

pick_own : (b c : Bool) → pick b false c ≡ pick b false (b || c)
pick_own true c = refl
pick_own false c = refl

elem_delete : (x m : ℕ) (ns : List ℕ) → elem x (delete m ns) ≡ pick (eqb x m) false (elem x ns)
elem_delete x m [] = pick_case (λ (b : Bool). false ≡ b) (eqb x m) _ _ (λ t. refl) (λ t. refl)
elem_delete x m (n ∷ ns) =
    pick_case (λ (l : List ℕ). elem x l ≡ pick (eqb x m) false (elem x (n ∷ ns))) (eqb m n) _ _
    (λ t. elem_delete x m ns ∙ rw (← eqb→eq m n t) (pick_own (eqb x m) (elem x ns)))
    (λ t. rw (elem_delete x m ns)
    (eq_split x m (λ e. rw (eqb_true x m e, eqb_false x n (λ z. eqb_no t (sym e ∙ z)))) (λ d. rw (eqb_false x m d))))

-- ---- one list changed: a pair order decides about its pair

-- f decides whether lo is in a list, as j says, and leaves the others
elem_change : (f : List ℕ → List ℕ) (hi lo : ℕ) (j : Bool) → ((x : ℕ) (ns : List ℕ) → elem x (f ns) ≡ pick (eqb x lo) j (elem x ns))
    → (ls : List (List ℕ)) (i x : ℕ) → hi < length ls → elem x (get_or (change f hi ls) i []) ≡ pick (eqb i hi && eqb x lo) j (elem x (get_or ls i []))
elem_change f hi lo j decides ls i x k =
    eq_split i hi (λ e. rw (e, get_or-set_same ls hi (f (get_or ls hi [])) [] k, decides, eqb_true hi hi refl))
    (λ n. rw (get_or-set_other ls hi i (f (get_or ls hi [])) [] n, eqb_false i hi n))

module _ (v : View) (a b : ℕ) (ls : List (List ℕ)) (e : lists v ≡ some ls) (k : max a b < length ls) (p q : ℕ) where
  pub near_join : near (after (join a b) v) p q ≡ pick (about a b p q) true (near v p q)
  unfolding near
  near_join =
      rw (lists_after_lem (join a b) v, e)
      (elem_change (insert (min a b)) (max a b) (min a b) true (λ x. elem_insert x (min a b)) ls (max p q) (min p q) k)

  pub near_part : near (after (part a b) v) p q ≡ pick (about a b p q) false (near v p q)
  unfolding near
  near_part =
      rw (lists_after_lem (part a b) v, e)
      (elem_change (delete (min a b)) (max a b) (min a b) false (λ x. elem_delete x (min a b)) ls (max p q) (min p q) k)
