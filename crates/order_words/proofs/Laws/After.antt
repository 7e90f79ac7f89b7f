-- A view after some words: header, lines and segments are what they were, the lists of neighbours are the old ones with the words
-- applied and stay right, and two lines are near as the last word about them says.
use mathlib.Core.Path.{◌≡◌, refl, ap, ◌∙◌}
use Prim.Native.Nat.{ℕ, ◌<◌, min, max}
use native.Mathlib.Omega.{arith}
use mathlib.Core.Bool.{Bool, true, false}
use mathlib.Core.Option.{Option, none, some, map}
use mathlib.Core.List.{List, [], ◌∷◌}
use lib.ListN.{length}
use lib.Dec.{T}
use Rattle.bits.specs.Choice.{pick}
use Rattle.format.specs.View.{View}
use Rattle.format.specs.Places.{count}
use Rattle.orders.specs.Act.{Word, lists, indexed?, near, insert, delete, change, new_lists, new_lines, new_segments, after}
use Rattle.orders.specs.Order.{Pass, tests}
use Rattle.orders.specs.Called.{pair_act, word_act}
use Rattle.orders.specs.History.{about, said}
use Rattle.orders.proofs.Laws.Near.{head_after, segments_after, lines_after, lists_after_lem, indexed_after, near_join, near_part}
use Rattle.orders.proofs.Laws.Accept.{both_lines}
use Rattle.orders.proofs.Laws.Right.{RightLists, Right, after_right}
use Rattle.order_words.specs.After.{view_after, word_lists, lists_after, Passed}

-- ---- one word

module _ (w : Word) where
  word_lists_lem : (n : ℕ) (ls : List (List ℕ)) → new_lists (word_act w) n ls ≡ word_lists w ls
  word_lists_lem n ls = go w.joins
    where
      go : (j : Bool) → new_lists (pair_act j w.one w.other) n ls
          ≡ change (pick j (insert (min w.one w.other)) (delete (min w.one w.other))) (max w.one w.other) ls
      go true = refl
      go false = refl

  word_lines : (v : View) → new_lines (word_act w) v ≡ v.lines
  word_lines v = go w.joins
    where
      go : (j : Bool) → new_lines (pair_act j w.one w.other) v ≡ v.lines
      go true = refl
      go false = refl

  word_segments : (v : View) → new_segments (word_act w) v ≡ v.segments
  word_segments v = go w.joins
    where
      go : (j : Bool) → new_segments (pair_act j w.one w.other) v ≡ v.segments
      go true = refl
      go false = refl

  -- what its tests have in common
  pub word_passes : (v : View) → Pass (tests (word_act w) v) → T (indexed? v) × (w.one < count v) × (w.other < count v)
  unfolding tests
  word_passes v p = go w.joins p
    where
      go : (j : Bool) → Pass (tests (pair_act j w.one w.other) v) → T (indexed? v) × (w.one < count v) × (w.other < count v)
      go true p = let (a, b) = both_lines w.one w.other (count v) p.1.0 in (p.0, a, b)
      go false p = let (a, b) = both_lines w.one w.other (count v) p.1.0 in (p.0, a, b)

  word_near : (v : View) (ls : List (List ℕ)) → lists v ≡ some ls → max w.one w.other < length ls → (p q : ℕ)
      → near (after (word_act w) v) p q ≡ pick (about w.one w.other p q) w.joins (near v p q)
  word_near v ls e k p q = go w.joins
    where
      go : (j : Bool) → near (after (pair_act j w.one w.other) v) p q ≡ pick (about w.one w.other p q) j (near v p q)
      go true = near_join v w.one w.other ls e k p q
      go false = near_part v w.one w.other ls e k p q

-- ---- some words, the last first

map_then : {A : Type 0} (f g : A → A) (o : Option A) → map f (map g o) ≡ map (λ x. f (g x)) o
map_then f g none = refl
map_then f g (some x) = refl

map_same : {A : Type 0} (f g : A → A) (o : Option A) → ((x : A) → f x ≡ g x) → map f o ≡ map g o
map_same f g none h = refl
map_same f g (some x) h = ap some (h x)

pub head_words : (hs : List Word) (v : View) → (view_after hs v).head ≡ v.head
head_words [] v = refl
head_words (w ∷ hs) v = head_after (word_act w) (view_after hs v) ∙ head_words hs v

pub segments_words : (hs : List Word) (v : View) → (view_after hs v).segments ≡ v.segments
segments_words [] v = refl
segments_words (w ∷ hs) v = segments_after (word_act w) (view_after hs v) ∙ word_segments w (view_after hs v) ∙ segments_words hs v

pub lines_words : (hs : List Word) (v : View) → (view_after hs v).lines ≡ v.lines
lines_words [] v = refl
lines_words (w ∷ hs) v = lines_after (word_act w) (view_after hs v) ∙ word_lines w (view_after hs v) ∙ lines_words hs v

pub count_words : (hs : List Word) (v : View) → count (view_after hs v) ≡ count v
count_words hs v = ap length (lines_words hs v)

pub indexed_words : (hs : List Word) (v : View) → indexed? (view_after hs v) ≡ indexed? v
indexed_words [] v = refl
indexed_words (w ∷ hs) v = indexed_after (word_act w) (view_after hs v) ∙ indexed_words hs v

pub lists_words : (hs : List Word) (v : View) → lists (view_after hs v) ≡ map (lists_after hs) (lists v)
lists_words [] v = go (lists v)
  where
    go : (o : Option (List (List ℕ))) → o ≡ map (λ ls. ls) o
    go none = refl
    go (some ls) = refl
lists_words (w ∷ hs) v =
    let u : View = view_after hs v in
    lists_after_lem (word_act w) u ∙ map_same (new_lists (word_act w) (count u)) (word_lists w) (lists u) (word_lists_lem w (count u))
    ∙ ap (map (word_lists w)) (lists_words hs v) ∙ map_then (word_lists w) (lists_after hs) (lists v)

pub right_after : (hs : List Word) (v : View) → Right v → Passed hs v → Right (view_after hs v)
right_after [] v r h = r
right_after (w ∷ hs) v r h = after_right (word_act w) (view_after hs v) h.0 (right_after hs v r h.1)

-- ---- a view with an index

module _ (v : View) (ls : List (List ℕ)) (e : lists v ≡ some ls) where
  pub these_lists : (hs : List Word) → lists (view_after hs v) ≡ some (lists_after hs ls)
  these_lists hs = lists_words hs v ∙ ap (map (lists_after hs)) e

  module _ (r : Right v) where
    pub right_lists : (hs : List Word) → Passed hs v → RightLists (count v) (lists_after hs ls)
    right_lists hs h = rw (count_words hs v) at (right_after hs v r h (lists_after hs ls) (these_lists hs))

    -- as the last word about them says, and as it was if there is none
    pub near_after : (hs : List Word) → Passed hs v → (p q : ℕ) → near (view_after hs v) p q ≡ said hs p q (near v p q)
    near_after [] h p q = refl
    near_after (w ∷ hs) h p q =
        let u : View = view_after hs v in
        let (t, a, b) = word_passes w u h.0 in
        word_near w u (lists_after hs ls) (these_lists hs) (omega (arith, (right_lists hs h.1).count, count_words hs v)) p q
        ∙ ap (pick (about w.one w.other p q) w.joins) (near_after hs h.1 p q)
