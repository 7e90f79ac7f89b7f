-- Going over the lists of an index: where each stands in the block, what the words say about its line, and the lists after the order,
-- so far and still to come.
use mathlib.Core.Path.{◌≡◌, ◌∙◌}
use Prim.Native.Nat.{ℕ, suc, ◌+◌, ◌≤◌, ◌<◌, max}
use native.Mathlib.Omega.{arith}
use native.Mathlib.Numerals.{add-one}
use mathlib.Core.Bool.{true, false}
use mathlib.Core.List.{List, ◌∷◌}
use lib.ListN.{length}
use Rattle.bits.specs.Lists.{Along, total}
use Rattle.bits.specs.Bits.{Bits}
use Rattle.differences.specs.Differences.{Falls, diffs}
use Rattle.differences.proofs.DifferencesLaws.{falls_count}
use Rattle.format.specs.Index.{up}
use Rattle.orders.specs.Survive.{elem}
use Rattle.orders.specs.Least.{max_of, numbers_from}
use Rattle.orders.specs.Listed.{removal_lines}
use Rattle.order_removal.proofs.Laws.Going.{Going, Turn, turn, gone_on, stays_on, all_gone_over}
use Rattle.order_words.specs.After.{heard_in}
use Rattle.order_words.specs.Looked.{Bound}
use Rattle.order_walk.specs.Walk.{ListsAt, ListHere, EntryAt}
use Rattle.order_walk.specs.declared.walk.ListWalk.{ListWalk}
use Rattle.order_walk.specs.declared.walk.Entry.{Entry}
use Rattle.order_walk.proofs.Laws.Block.{rest, first_here, others_at}
use Rattle.order_walk.proofs.Laws.Merge.{merge_start}
use Rattle.order_lists.specs.List.{become, ListAt, Numbered}
use Rattle.order_lists.specs.Lists.{new_list, new_from, ListsNumbered}
use Rattle.order_lists.specs.declared.list.OldList.{OldList}
use Rattle.order_lists.specs.declared.list.Numbers.{Numbers}

-- ---- line l's list, which comes next

abbrev pub Stand : ℕ → List ℕ → Bits → ℕ → ℕ → List (List ℕ) → Type 0
Stand w s u l p ls = ListsAt w s l p ls u

-- as code has it: the walk k along it, the bound of the words about its line, and the line's new number
abbrev pub under : ℕ → ListWalk → (bound own : ℕ) → OldList
under l k bound own = record { from = record { walk = k; bound = bound }; line = l; own = own }

module _ {g : ℕ → List ℕ → List ℕ} {w : ℕ} {s rs : List ℕ} {lines : ℕ} {u : Bits} {Rest : List (List ℕ) → Type 0} {l p : ℕ} (t : Turn g rs lines (Stand w s u) Rest l p) where
  abbrev pub next_behind : Bits
  next_behind = rest w s l p t.value t.others t.at

  pub next_here : ListHere w s p l t.value next_behind
  next_here = first_here w s l p t.value t.others t.at

  module _ {e : Entry} (E : EntryAt w s p l e) where
    pub next_at : ListsAt w s (l + 1) e.next t.others u
    next_at = rw (E.is t.value next_behind next_here).1 (others_at w s l p t.value t.others t.at)

    -- all of it, merged with the words
    pub next_list : {words : List ℕ} {bound : ℕ} (own : ℕ) → Bound words l (suc l) bound → ListAt s words (under l e.walk bound own) t.value next_behind
    next_list own B = merge_start (E.is t.value next_behind next_here).0 next_here.fits.falls B.within B.quiet

-- ---- measuring: of all lists after the order, those before are measured, and ys are still to come

pub record Measured (all : List (List ℕ)) (lists entries most : ℕ) (ys : List (List ℕ)) : Type 0 where
  pub falls : Along up (Falls 0) lists ys
  pub counts : lists + length ys ≡ length all
  pub sums : entries + total length ys ≡ total length all
  pub largest : max most (max_of (numbers_from lists ys)) ≡ max_of (numbers_from 0 all)

max_in : (a b c d : ℕ) → max (max a (max b c)) d ≡ max a (max b (max c d))
max_in a b c d = omega arith

measured_more : {all : List (List ℕ)} {lists entries most n m : ℕ} (y : List ℕ) (ys : List (List ℕ)) → Measured all lists entries most (y ∷ ys)
    → n ≡ length y → m ≡ max_of (diffs lists y) → Measured all (lists + 1) (entries + n) (max most (max n m)) ys
measured_more {lists = lists} {most = most} y ys h i j =
    record {
      falls = rw (add-one lists) h.falls.1;
      counts = omega (arith, h.counts);
      sums = omega (arith, h.sums, i);
      largest = rw (add-one lists, i, j) (max_in most (length y) _ _ ∙ h.largest);
    }

-- line l's list comes next, at place p
abbrev pub GoingAll : (w : ℕ) (s words removal : List ℕ) (lines l p lists entries most : ℕ) → Type 0
GoingAll w s words removal lines l p lists entries most =
    (ls : List (List ℕ)) (u : Bits) → ListsAt w s 0 8 ls u → length ls ≡ lines → Along up (Falls 0) 0 (new_from (removal_lines removal) (heard_in words) 0 ls)
    → Going (new_list (removal_lines removal) (heard_in words)) (removal_lines removal) lines (Stand w s u) (Measured (new_from (removal_lines removal) (heard_in words) 0 ls) lists entries most) l p

module _ (w : ℕ) (s words removal : List ℕ) (lines : ℕ) where
  pub going_first : GoingAll w s words removal lines 0 8 0 0 0
  going_first ls u a c f =
      record { more = ls; at = a; left = omega arith; rest = record { falls = f; counts = omega arith; sums = omega arith; largest = omega arith } }

  module _ {l p lists entries most : ℕ} {e : Entry} (G : GoingAll w s words removal lines l p lists entries most) (k : l < lines) (E : EntryAt w s p l e) where
    pub going_gone : elem l (removal_lines removal) ≡ true → GoingAll w s words removal lines (l + 1) e.next lists entries most
    going_gone z ls u a c f = let t = turn (G ls u a c f) k in gone_on t z (next_at t E)

    module _ {bound : ℕ} (n : elem l (removal_lines removal) ≡ false) (B : Bound words l (suc l) bound) where
      -- the list that stays, as the code asks for it
      pub list_falls : {all : List (List ℕ)} {u : Bits} → (t : Turn (new_list (removal_lines removal) (heard_in words)) (removal_lines removal) lines (Stand w s u) (Measured all lists entries most) l p)
          → Falls 0 lists (become (under l e.walk bound lists) words removal t.value)
      list_falls t = (t.stays n).falls.0

      pub count_few : {all : List (List ℕ)} {u : Bits} {r : Numbers} → (t : Turn (new_list (removal_lines removal) (heard_in words)) (removal_lines removal) lines (Stand w s u) (Measured all lists entries most) l p)
          → Numbered s (under l e.walk bound lists) words removal r → r.count ≤ lists + 1
      count_few t N =
          let f = list_falls t in
          let (y, v) = N.is t.value (next_behind t) (next_list t E lists B) f in
          omega (arith, y, falls_count 0 lists (become (under l e.walk bound lists) words removal t.value) (omega arith) f)

      pub going_stays : {r : Numbers} {bigger : ℕ} → Numbered s (under l e.walk bound lists) words removal r → bigger ≡ max most (max r.count r.most)
          → GoingAll w s words removal lines (l + 1) e.next (lists + 1) (entries + r.count) bigger
      going_stays N z ls u a c f =
          let t = turn (G ls u a c f) k in
          let (y, v) = N.is t.value (next_behind t) (next_list t E lists B) (list_falls t) in
          stays_on t (next_at t E) (rw z (measured_more (new_list (removal_lines removal) (heard_in words) l t.value) (new_from (removal_lines removal) (heard_in words) (l + 1) t.others) (t.stays n) y v))

  pub going_done : {l p lists entries most : ℕ} → GoingAll w s words removal lines l p lists entries most → lines ≤ l
      → ListsNumbered w s lines words removal (record { lists = lists; entries = entries; most = most })
  going_done G k =
      record { is = λ ls u a c f. let r = all_gone_over (G ls u a c f) k in (omega (arith, r.counts), omega (arith, r.sums), omega (arith, r.largest)) }
