-- The record that code puts together is the one that the definitions leave: of a removal, which says no words, and of words about pairs
-- that have passed their tests, which remove no line. And the lists of the view stay right.
use mathlib.Core.Path.{◌≡◌, refl, sym, ap, ◌∙◌, subst}
use Prim.Native.Nat.{ℕ, ◌≤◌, ◌<◌}
use native.Mathlib.Nat.{zero-add}
use native.Mathlib.Omega.{arith}
use mathlib.Core.Option.{Option, none, some, map}
use mathlib.Core.List.{List, [], ◌∷◌}
use lib.ListN.{length, length-map}
use Rattle.bits.specs.Lists.{All, Along}
use Rattle.bits.specs.ListsLaws.{up_along}
use Rattle.differences.specs.Differences.{Falls}
use Rattle.format.specs.Index.{Index, up}
use Rattle.format.specs.Segments.{FitsSegment}
use Rattle.format.specs.View.{View}
use Rattle.format.specs.Record.{Record}
use Rattle.format.specs.Places.{line_at, view_at, with_view, count}
use Rattle.orders.specs.Survive.{survivors}
use Rattle.orders.specs.Listed.{removal_lines}
use Rattle.orders.specs.Least.{index_of}
use Rattle.orders.specs.Act.{Word, remove, lists, new_lists, after}
use Rattle.orders.specs.Order.{edited, tests, Pass}
use Rattle.orders.specs.Called.{word_act}
use Rattle.orders.proofs.Laws.Survive.{survivors_le}
use Rattle.orders.proofs.Laws.Near.{head_after, segments_after, lines_after, index_after, lists_after_lem}
use Rattle.orders.proofs.Laws.Right.{RightLists, Right, after_right}
use Rattle.order_removal.specs.Rank.{Rising}
use Rattle.order_removal.proofs.Laws.Kept.{kept_all}
use Rattle.order_words.specs.After.{heard_in, view_after, record_after, lists_after, Passed}
use Rattle.order_words.proofs.Laws.Listed.{heard_none, heard_count}
use Rattle.order_words.proofs.Laws.After.{head_words, segments_words, lines_words, lists_words, right_lists}
use Rattle.order_words.proofs.Laws.Record.{record_words}
use Rattle.order_lists.specs.Lists.{new_from}
use Rattle.order_lists.specs.Index.{left}
use Rattle.order_lists.proofs.Laws.Acts.{remove_lists, words_lists}
use Rattle.order_lines.proofs.Laws.Lines.{remove_lines}
use Rattle.order_record.specs.Blocks.{new_index, Keeps}
use Rattle.order_record.proofs.Laws.Extended.{same_segments}
use Rattle.order_record.specs.Rebuilt.{new_view, new_record}

-- ---- a view and its lists

-- a view is told by its parts
same_view : {u v : View} → u.head ≡ v.head → u.lines ≡ v.lines → u.index ≡ v.index → u.segments ≡ v.segments → u ≡ v
same_view a b c d = λ i. record { head = a i; lines = b i; index = c i; segments = d i }

lists_of : (v : View) {i : Index} → v.index ≡ some i → lists v ≡ some i.lists
lists_of v e = ap (map (λ j. j.lists)) e

-- none stays none; of one that is there, f makes the lists
new_index_lem : (removal words : List ℕ) (f : List (List ℕ) → List (List ℕ)) (o : Option Index) → ((i : Index) → o ≡ some i → left removal words i ≡ f i.lists)
    → new_index removal words o ≡ map index_of (map f (map (λ i. i.lists) o))
new_index_lem removal words f none k = refl
new_index_lem removal words f (some i) k = ap (λ (ls : List (List ℕ)). some (index_of ls)) (k i refl)

abbrev Kept : List (List ℕ) → Type 0
Kept ls = Along up (Falls 0) 0 ls × (length ls ≤ 1024)

lists_kept : {n : ℕ} {ls : List (List ℕ)} → RightLists n ls → n ≤ 1024 → Kept ls
lists_kept {ls = ls} g few = (up_along (Falls 0) [] 0 ls λ j l. rw zero-add (g.falls j (omega (arith, g.count))), omega (arith, g.count))

-- ---- a removal

module _ (removal : List ℕ) (h : Rising removal) (v : View) (r : Right v) where
  removal_left : (i : Index) → v.index ≡ some i → left removal [] i ≡ new_lists (remove (removal_lines removal)) (count v) i.lists
  removal_left i e =
      let rs : List ℕ = removal_lines removal in
      let g : RightLists (count v) i.lists = r i.lists (lists_of v e) in
      ap (λ (hs : List Word). new_from rs hs 0 i.lists) heard_none ∙ remove_lists rs h.rises i.lists (rw g.count g)
      ∙ ap (λ (m : ℕ). new_lists (remove rs) m i.lists) g.count

  pub removal_view : new_view removal [] v ≡ after (remove (removal_lines removal)) v
  unfolding new_view
  removal_view =
      let rs : List ℕ = removal_lines removal in
      let i = new_index_lem removal [] (new_lists (remove rs) (count v)) v.index removal_left in
      same_view (sym (head_after (remove rs) v)) (remove_lines rs v ∙ sym (lines_after (remove rs) v))
      (i ∙ sym (index_after (remove rs) v ∙ ap (map index_of) (lists_after_lem (remove rs) v))) (sym (segments_after (remove rs) v))

  pub removal_keeps : count v ≤ 1024 → Pass (tests (remove (removal_lines removal)) v) → Keeps removal [] v.index
  removal_keeps few p i e =
      let rs : List ℕ = removal_lines removal in
      let q : lists (after (remove rs) v) ≡ some (new_lists (remove rs) (count v) i.lists) = lists_after_lem (remove rs) v ∙ ap (map (new_lists (remove rs) (count v))) (lists_of v e) in
      let g = after_right (remove rs) v p r (new_lists (remove rs) (count v) i.lists) q in
      let k : count (after (remove rs) v) ≤ 1024 =
      omega (arith, ap length (lines_after (remove rs) v), length-map (survivors (count v) rs) (line_at v), survivors_le (count v) rs) in
      subst Kept (sym (removal_left i e)) (lists_kept g k)

pub record_removed : (i : ℕ) (removal : List ℕ) (r : Record) → Rising removal → Right (view_at r i)
    → new_record removal [] i r ≡ edited i (remove (removal_lines removal)) r
unfolding new_record edited
record_removed i removal r h k = ap (with_view r i) (removal_view removal h (view_at r i) k)

-- ---- words

-- after at least one, the index is what its lists call for
index_words : (hs : List Word) (v : View) → 0 < length hs → (view_after hs v).index ≡ map index_of (map (lists_after hs) (lists v))
index_words [] v l = absurd (omega arith)
index_words (w ∷ hs) v l = index_after (word_act w) (view_after hs v) ∙ ap (map index_of) (lists_words (w ∷ hs) v)

module _ (words : List ℕ) (v : View) (r : Right v) (p : Passed (heard_in words) v) where
  -- the lists that code leaves
  pub words_left : (i : Index) → v.index ≡ some i → left [] words i ≡ lists_after (heard_in words) i.lists
  words_left i e = words_lists (heard_in words) v i.lists (lists_of v e) r p

  pub words_view : All FitsSegment v.segments → 6 ≤ length words → new_view [] words v ≡ view_after (heard_in words) v
  unfolding new_view
  words_view f l =
      let hs : List Word = heard_in words in
      let i = new_index_lem [] words (lists_after hs) v.index words_left in
      same_view (sym (head_words hs v)) (kept_all 0 v.lines ∙ sym (lines_words hs v)) (i ∙ sym (index_words hs v (omega (arith, heard_count words))))
      (same_segments (length v.lines) [] v.segments f refl ∙ sym (segments_words hs v))

  pub words_keeps : count v ≤ 1024 → Keeps [] words v.index
  words_keeps few i e = subst Kept (sym (words_left i e)) (lists_kept (right_lists v i.lists (lists_of v e) r (heard_in words) p) few)

pub record_worded : (i : ℕ) (words : List ℕ) (r : Record) → i < length r.views → All FitsSegment (view_at r i).segments → Right (view_at r i) → Passed (heard_in words) (view_at r i) → 6 ≤ length words
    → new_record [] words i r ≡ record_after i (heard_in words) r
unfolding new_record
record_worded i words r t f k p l =
    ap (with_view r i) (words_view words (view_at r i) k p f l) ∙ sym (go (heard_in words) (omega (arith, heard_count words)))
  where
    go : (hs : List Word) → 0 < length hs → record_after i hs r ≡ with_view r i (view_after hs (view_at r i))
    go [] m = absurd (omega arith)
    go (w ∷ hs) m = record_words i r t w hs
