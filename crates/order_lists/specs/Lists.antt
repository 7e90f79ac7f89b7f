-- The lists of an index after an order, and what the code that goes over them asks and answers.
use Rattle.std.specs.Prelude.{◌≡◌, ℕ, ◌≤◌, List, length}
use Rattle.bits.specs.Lists.{Along, total}
use Rattle.bits.specs.Bits.{Bits}
use Rattle.bits.specs.CodecLaws.{enc_along}
use Rattle.differences.specs.Differences.{Falls}
use Rattle.format.specs.Index.{FitsList, neighbours, up}
use Rattle.put_bits.specs.Put.{Puts, Room}
use Rattle.orders.specs.Act.{Word}
use Rattle.orders.specs.Least.{max_of, numbers_from}
use Rattle.orders.specs.Listed.{removal_lines}
use Rattle.order_removal.specs.Rank.{Rising}
use Rattle.order_removal.specs.Kept.{kept}
use Rattle.order_words.specs.After.{heard_in, list_after}
use Rattle.order_walk.specs.Walk.{ListsAt}
use Rattle.order_lists.specs.List.{stayed}
use Rattle.order_lists.specs.declared.lists.Totals.{Totals}

-- ---- the lists after an order

-- line l's list; hs are the words, the last first, and rs the lines that are removed
abbrev pub new_list : List ℕ → List Word → ℕ → List ℕ → List ℕ
new_list rs hs l ns = stayed rs (list_after hs l ns)

-- those of the lines from l on that stay
abbrev pub new_from : List ℕ → List Word → ℕ → List (List ℕ) → List (List ℕ)
new_from rs hs l ls = kept (new_list rs hs) rs l ls

-- ---- all lists

pub record ListsThere (w : ℕ) (s : List ℕ) (lines : ℕ) (words removal : List ℕ) : Type 0 where
  pub narrow : w ≤ 16
  pub short : length s ≤ 65535
  pub rising : Rising removal
  pub few : lines ≤ 1024
  pub value : List (List ℕ)
  pub behind : Bits
  pub at : ListsAt w s 0 8 value behind
  pub count : length value ≡ lines
  pub falls : Along up (Falls 0) 0 (new_from (removal_lines removal) (heard_in words) 0 value)

pub record ListsNumbered (w : ℕ) (s : List ℕ) (lines : ℕ) (words removal : List ℕ) (r : Totals) : Type 0 where
  pub is : (ls : List (List ℕ)) (u : Bits) → ListsAt w s 0 8 ls u → length ls ≡ lines → Along up (Falls 0) 0 (new_from (removal_lines removal) (heard_in words) 0 ls)
      → (r.lists ≡ length (new_from (removal_lines removal) (heard_in words) 0 ls)) × (r.entries ≡ total length (new_from (removal_lines removal) (heard_in words) 0 ls))
      × (r.most ≡ max_of (numbers_from 0 (new_from (removal_lines removal) (heard_in words) 0 ls)))

-- ---- all lists put at a width, behind the byte that says it

pub record ListsPutThere (w : ℕ) (s : List ℕ) (lines : ℕ) (words removal : List ℕ) (width : ℕ) (out : List ℕ) : Type 0 where
  pub there : ListsThere w s lines words removal
  pub narrow : width ≤ 16
  pub fits : Along up (FitsList width) 0 (new_from (removal_lines removal) (heard_in words) 0 there.value)
  pub room : Room out 8 (length (enc_along (neighbours width) up 0 (new_from (removal_lines removal) (heard_in words) 0 there.value)))

pub record ListsPut (w : ℕ) (s : List ℕ) (lines : ℕ) (words removal : List ℕ) (width : ℕ) (old now : List ℕ) (r : ℕ) : Type 0 where
  pub is : (ls : List (List ℕ)) (u : Bits) → ListsAt w s 0 8 ls u → length ls ≡ lines → Along up (FitsList width) 0 (new_from (removal_lines removal) (heard_in words) 0 ls)
      → Puts (enc_along (neighbours width) up 0 (new_from (removal_lines removal) (heard_in words) 0 ls)) old 8 now r
