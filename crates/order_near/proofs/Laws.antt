-- Looking through one list, passing lists up to a line's own, and what the last word about two lines settles.
use mathlib.Core.Path.{◌≡◌, refl, sym, ap, ◌∙◌}
use mathlib.Core.Logic.{◌≢◌}
use Prim.Native.Nat.{ℕ, suc, ◌+◌, ◌*◌, ◌≤◌, ◌<◌}
use native.Mathlib.Omega.{arith}
use native.Mathlib.Numerals.{add-one}
use mathlib.Core.Bool.{Bool, true, false, ◌||◌}
use mathlib.Core.List.{List, [], ◌∷◌}
use lib.ListN.{length, drop, get_or}
use lib.Dec.{eqb}
use lib.Seq.{drop-cons}
use Rattle.bits.specs.ChoiceLaws.{eqb_true, eqb_false}
use Rattle.bits.specs.Bits.{Bits}
use Rattle.bits.specs.Codec.{field_dec}
use Rattle.bits.specs.Reads.{found, Reads}
use Rattle.outcome.specs.Refusals.{bad_index}
use Rattle.orders.specs.Survive.{elem}
use Rattle.find_parts.proofs.Laws.Index.{width_is_lem}
use Rattle.order_walk.specs.Walk.{WalkAt, NextLine, ListsAt, ListHere, EntryThere, EntryAt}
use Rattle.order_walk.specs.declared.walk.ListWalk.{ListWalk}
use Rattle.order_walk.specs.declared.walk.LineStep.{LineStep}
use Rattle.order_walk.specs.declared.walk.Entry.{Entry}
use Rattle.order_walk.proofs.Laws.Walk.{walk_end}
use Rattle.order_walk.proofs.Laws.Block.{first_here, others_at, before, as_many, lists_stand}
use Rattle.order_near.specs.Near.{Has, FindThere, FoundAt, Near}

-- ---- one list

-- the line is in the list if it is in what is still to come
pub record Looking (s : List ℕ) (low : ℕ) (ns : List ℕ) (u : Bits) (k : ListWalk) : Type 0 where
  pub ms : List ℕ
  pub at : WalkAt s k ms u
  pub is : elem low ns ≡ elem low ms

abbrev pub LookingAll : (s : List ℕ) (low : ℕ) (from k : ListWalk) → Type 0
LookingAll s low from k = (ns : List ℕ) (u : Bits) → WalkAt s from ns u → Looking s low ns u k

module _ (s : List ℕ) (low : ℕ) where
  pub looking_first : (from : ListWalk) → LookingAll s low from from
  looking_first from ns u h = record { ms = ns; at = h; is = refl }

  module _ {from k : ListWalk} {r : LineStep} (L : LookingAll s low from k) (N : NextLine s k r) where
    -- the list's next line, and those behind it
    record Next (ns : List ℕ) (u : Bits) : Type 0 where
      ms : List ℕ
      at : WalkAt s r.next ms u
      is : elem low ns ≡ (eqb low r.line || elem low ms)

    next : (ns : List ℕ) (u : Bits) → WalkAt s from ns u → Next ns u
    next ns u h =
        let g = L ns u h in
        let t = N.is g.ms u g.at in
        record { ms = t.more; at = t.at; is = g.is ∙ ap (elem low) t.is }

    pub looking_found : r.line ≡ low → Has s from low true
    looking_found e =
        record {
          is = λ ns u h.
              let x = next ns u h in
              sym (x.is ∙ ap (λ (b : Bool). b || elem low x.ms) (eqb_true low r.line (sym e)));
        }

    pub looking_next : r.line ≢ low → LookingAll s low from r.next
    looking_next d ns u h =
        let x = next ns u h in
        let y : eqb low r.line ≡ false = eqb_false low r.line (λ e. d (sym e)) in
        record { ms = x.ms; at = x.at; is = x.is ∙ ap (λ (b : Bool). b || elem low x.ms) y }

  pub looking_done : {from k : ListWalk} → LookingAll s low from k → k.left ≤ 0 → Has s from low false
  looking_done L l = record { is = λ ns u h. let g = L ns u h in sym (g.is ∙ ap (elem low) (walk_end g.ms g.at (omega arith))) }

-- ---- a line's list

-- the lists of the lines from l on stand at place p
pub record Passing (w : ℕ) (s : List ℕ) (ls : List (List ℕ)) (u : Bits) (l p : ℕ) : Type 0 where
  pub more : List (List ℕ)
  pub at : ListsAt w s l p more u
  pub is : more ≡ drop l ls

abbrev pub PassingAll : (w : ℕ) (s : List ℕ) (line l p : ℕ) → Type 0
PassingAll w s line l p = (ls : List (List ℕ)) (u : Bits) → ListsAt w s 0 8 ls u → line < length ls → Passing w s ls u l p

-- line l's list comes next
pub record NextList (w : ℕ) (s : List ℕ) (ls : List (List ℕ)) (u : Bits) (l p : ℕ) : Type 0 where
  pub after : Bits
  pub here : ListHere w s p l (get_or ls l []) after
  pub next : Passing w s ls u (l + 1) (p + (w + length (get_or ls l []) * w))

pub next_list : {w : ℕ} {s : List ℕ} {ls : List (List ℕ)} {u : Bits} {l p : ℕ} → Passing w s ls u l p → l < length ls
    → NextList w s ls u l p
next_list {w} {s} {ls} {u} {l} {p} g k = go g.more g.at (g.is ∙ drop-cons ls l [] k)
  where
    go : (xs : List (List ℕ)) → ListsAt w s l p xs u → xs ≡ get_or ls l [] ∷ drop (suc l) ls → NextList w s ls u l p
    go [] a e = absurd (omega (arith, ap length e))
    go (x ∷ xs) a e =
        let y : x ≡ get_or ls l [] = cc in
        let z : xs ≡ drop (suc l) ls = cc in
        record {
          after = _;
          here = rw y at (first_here w s l p x xs a);
          next = record { more = xs; at = rw y at (others_at w s l p x xs a); is = z ∙ ap (λ (n : ℕ). drop n ls) (sym (add-one l)) };
        }

module _ (w : ℕ) (s : List ℕ) (line : ℕ) where
  pub passing_first : PassingAll w s line 0 8
  passing_first ls u h k = record { more = ls; at = h; is = refl }

  -- the list of line l is there
  pub passing_there : FindThere w s line → {l p : ℕ} → PassingAll w s line l p → l ≤ line → EntryThere w s p l
  passing_there t P k =
      let x = next_list (P t.value t.behind t.at t.there) (omega (arith, t.there)) in
      record { narrow = t.narrow; short = t.short; value = _; behind = x.after; here = x.here }

  pub passing_next : {l p : ℕ} {e : Entry} → PassingAll w s line l p → l < line → EntryAt w s p l e
      → PassingAll w s line (l + 1) e.next
  passing_next P k E ls u h b =
      let x = next_list (P ls u h b) (omega arith) in
      rw (E.is _ x.after x.here).1 x.next

  pub passing_done : {l p : ℕ} {e : Entry} → PassingAll w s line l p → l ≡ line → EntryAt w s p line e → FoundAt w s line e.walk
  passing_done P z E =
      record {
        width = E.width;
        is = λ ls u h b. let x = next_list (rw z at P ls u h b) b in (x.after, (E.is _ x.after x.here).0);
      }

-- ---- the index block

pub near_is : (s : List ℕ) (high low : ℕ) {w q : ℕ} {k : ListWalk} {r : Bool} → Reads (field_dec bad_index 8) s 0 (found w q)
    → FoundAt w s high k → Has s k low r → Near s high low r
near_is s high low h F H =
    record {
      is = λ lines i u e l.
          let z = width_is_lem lines s e h in
          let (v, a) = F.is i.lists (before s lines e).after (rw z (lists_stand s lines e)) (omega (arith, as_many s lines e)) in
          H.is (get_or i.lists high []) v a;
    }

-- ---- after the words
