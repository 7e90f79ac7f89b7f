-- Putting the lists of an index after an order: those of the lines before are put, the others are still to come.
use mathlib.Core.Path.{◌≡◌}
use Prim.Native.Nat.{ℕ, suc, ◌+◌, ◌≤◌, ◌<◌}
use native.Mathlib.Omega.{arith}
use native.Mathlib.Numerals.{add-one}
use mathlib.Core.Bool.{true, false}
use mathlib.Core.List.{List, ◌++◌}
use lib.ListN.{length}
use Rattle.bits.specs.Lists.{Along}
use Rattle.bits.specs.Bits.{Bits}
use Rattle.bits.specs.CodecLaws.{enc_along}
use Rattle.format.specs.Index.{FitsList, neighbours, up}
use Rattle.put_bits.specs.Put.{Room}
use Rattle.put_bits.proofs.Chain.{Putting, putting_none, putting_more, putting_room, putting_all}
use Rattle.orders.specs.Survive.{elem}
use Rattle.orders.specs.Listed.{removal_lines}
use Rattle.order_removal.proofs.Laws.Going.{Going, Turn, turn, gone_on, stays_on, all_gone_over}
use Rattle.order_words.specs.After.{heard_in}
use Rattle.order_words.specs.Looked.{Bound}
use Rattle.order_walk.specs.Walk.{ListsAt, EntryAt}
use Rattle.order_walk.specs.declared.walk.Entry.{Entry}
use Rattle.order_lists.specs.List.{become, ListPut}
use Rattle.order_lists.specs.Lists.{new_list, new_from, ListsPut}
use Rattle.order_lists.proofs.Laws.Lists.{Stand, under, next_behind, next_at, next_list}

-- of all lists after the order, those before are put, and ys are still to come
pub record ToPut (width : ℕ) (all : List (List ℕ)) (lists : ℕ) (old now : List ℕ) (q : ℕ) (ys : List (List ℕ)) : Type 0 where
  pub fits : Along up (FitsList width) lists ys
  pub bits : Putting (enc_along (neighbours width) up lists ys) (enc_along (neighbours width) up 0 all) old 8 now q

-- line l's list comes next, at place p
abbrev pub PutAll : (w : ℕ) (s words removal : List ℕ) (width lines l p lists : ℕ) (old now : List ℕ) (q : ℕ) → Type 0
PutAll w s words removal width lines l p lists old now q =
    (ls : List (List ℕ)) (u : Bits) → ListsAt w s 0 8 ls u → length ls ≡ lines → Along up (FitsList width) 0 (new_from (removal_lines removal) (heard_in words) 0 ls)
    → Going (new_list (removal_lines removal) (heard_in words)) (removal_lines removal) lines (Stand w s u) (ToPut width (new_from (removal_lines removal) (heard_in words) 0 ls) lists old now q) l p

module _ (w : ℕ) (s words removal : List ℕ) (width lines : ℕ) where
  pub put_first : (old : List ℕ) → PutAll w s words removal width lines 0 8 0 old old 8
  put_first old ls u a c f = record { more = ls; at = a; left = omega arith; rest = record { fits = f; bits = putting_none _ old 8 } }

  module _ {l p lists : ℕ} {old now : List ℕ} {q : ℕ} {e : Entry} (G : PutAll w s words removal width lines l p lists old now q) (k : l < lines) (E : EntryAt w s p l e) where
    pub put_gone : elem l (removal_lines removal) ≡ true → PutAll w s words removal width lines (l + 1) e.next lists old now q
    put_gone z ls u a c f = let t = turn (G ls u a c f) k in gone_on t z (next_at t E)

    module _ {bound : ℕ} (n : elem l (removal_lines removal) ≡ false) (B : Bound words l (suc l) bound) where
      -- what the code asks for, of the list that comes next
      module _ {all : List (List ℕ)} {u : Bits} (t : Turn (new_list (removal_lines removal) (heard_in words)) (removal_lines removal) lines (Stand w s u) (ToPut width all lists old now q) l p) where
        abbrev bits_behind_lem : Bits
        bits_behind_lem = enc_along (neighbours width) up (lists + 1) (new_from (removal_lines removal) (heard_in words) (l + 1) t.others)

        next_bits : Putting ((neighbours width lists).enc (new_list (removal_lines removal) (heard_in words) l t.value) ++ bits_behind_lem) (enc_along (neighbours width) up 0 all) old 8 now q
        next_bits = rw (add-one lists) (t.stays n).bits

        pub put_list_fits : FitsList width lists (become (under l e.walk bound lists) words removal t.value)
        put_list_fits = (t.stays n).fits.0

        pub put_list_room : Room old 8 (length (enc_along (neighbours width) up 0 all))
            → Room now q (length ((neighbours width lists).enc (become (under l e.walk bound lists) words removal t.value)))
        put_list_room r = putting_room ((neighbours width lists).enc (new_list (removal_lines removal) (heard_in words) l t.value)) bits_behind_lem next_bits r

      pub put_stays : {next : List ℕ} {r : ℕ} → ListPut s (under l e.walk bound lists) words removal width now q next r
          → PutAll w s words removal width lines (l + 1) e.next (lists + 1) old next r
      put_stays P ls u a c f =
          let t = turn (G ls u a c f) k in
          let y = P.is t.value (next_behind t) (next_list t E lists B) (put_list_fits t) in
          stays_on t (next_at t E) (record {
            fits = rw (add-one lists) (t.stays n).fits.1;
            bits = putting_more ((neighbours width lists).enc (new_list (removal_lines removal) (heard_in words) l t.value)) (bits_behind_lem t) (next_bits t) y;
          })

  pub put_done : {l p lists : ℕ} {old now : List ℕ} {q : ℕ} → PutAll w s words removal width lines l p lists old now q → lines ≤ l
      → ListsPut w s lines words removal width old now q
  put_done G k = record { is = λ ls u a c f. putting_all (all_gone_over (G ls u a c f) k).bits }
