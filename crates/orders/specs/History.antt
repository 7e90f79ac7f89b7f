-- A sequence of orders. "Feeding each result to the next order is how a sequence is meant." A history tells what the accepted
-- orders on one view say: which of its first lines are left, and what was last ordered about a pair of them.
use Rattle.std.specs.Prelude.{◌≡◌, ℕ, suc, ◌<◌, min, max, Bool, true, false, ◌&&◌, List, [], ◌∷◌, map, length, T, eqb}
use Rattle.bits.specs.Choice.{pick}
use Rattle.outcome.specs.Outcome.{Outcome, refused, given, room, number_of}
use Rattle.format.specs.View.{View}
use Rattle.format.specs.Places.{count, line_at}
use Rattle.format.specs.Named.{same_name}
use Rattle.format.specs.declared.ViewName.{ViewName}
use Rattle.pores.specs.Keep.{keep_segments, all_pores_right}
use Rattle.orders.specs.Survive.{at, up_from, survivors, RisesFrom}
use Rattle.orders.specs.Act.{Act, remove, join, part, Word, near, indexed?, LeastWide}
use Rattle.orders.specs.Order.{Order, order}

-- ---- a sequence, in bytes

-- an order with the length of the second buffer that is lent for it
pub record Call : Type 0 where
  pub order : Order
  pub lent : ℕ

unfoldable pub outcome : Call → List ℕ → Outcome ℕ
outcome c bytes = room c.lent (order c.order bytes)

-- what then holds: the new record, or the old one where the order was refused
abbrev pub now_holds : List ℕ → Outcome ℕ → List ℕ
now_holds old (refused e p) = old
now_holds old (given new) = new

abbrev pub run : List Call → List ℕ → List ℕ
run [] bytes = bytes
run (c ∷ cs) bytes = run cs (now_holds bytes (outcome c bytes))

-- ---- what the accepted orders on a view say

-- left: the lines that are left, by their numbers at the start; words: the accepted orders about pairs, by these numbers too, the
-- last first; accepted: how many orders on the view were accepted
pub record History : Type 0 where
  pub left : List ℕ
  pub words : List Word
  pub accepted : ℕ

abbrev pub fresh : View → History
fresh v = record { left = up_from 0 (count v); words = []; accepted = 0 }

-- an accepted order, told to the history
abbrev pub tell : Act → History → History
tell (remove rs) h = record { left = map (at h.left) (survivors (length h.left) rs); words = h.words; accepted = suc h.accepted }
tell (join a b) h = record { left = h.left; words = record { one = at h.left a; other = at h.left b; joins = true } ∷ h.words; accepted = suc h.accepted }
tell (part a b) h = record { left = h.left; words = record { one = at h.left a; other = at h.left b; joins = false } ∷ h.words; accepted = suc h.accepted }

-- the history of the view with that name through a sequence
abbrev pub history : ViewName → List Call → List ℕ → History → History
history view [] bytes h = h
history view (c ∷ cs) bytes h =
    let o : Outcome ℕ = outcome c bytes in
    history view cs (now_holds bytes o) (pick (eqb (number_of o) 0 && same_name c.order.view view) (tell c.order.act h) h)

-- ---- what a view is that follows its history

-- the pair p, q is the pair a, b
abbrev pub about : ℕ → ℕ → ℕ → ℕ → Bool
about a b p q = eqb (max p q) (max a b) && eqb (min p q) (min a b)

-- what the last word about the pair says, and what was so at the start if there is none
abbrev pub said : List Word → ℕ → ℕ → Bool → Bool
said [] x y start = start
said (w ∷ ws) x y start = pick (about w.one w.other x y) w.joins (said ws x y start)

-- v is what the history makes of v₀
pub record Follows (v₀ v : View) (h : History) : Type 0 where
  -- the header is what it was, and an index stays or stays absent
  pub head : v.head ≡ v₀.head
  pub indexed : indexed? v ≡ indexed? v₀
  -- a view on which no order was accepted is as it was; any other has its least width
  pub spared : h.accepted ≡ 0 → v ≡ v₀
  pub least : 0 < h.accepted → LeastWide v
  -- the lines are those that are left, in their order
  pub counts : length h.left ≡ count v
  pub rises : RisesFrom 0 h.left
  pub below : (p : ℕ) → p < length h.left → at h.left p < count v₀
  pub same : (p : ℕ) → p < length h.left → line_at v p ≡ line_at v₀ (at h.left p)
  -- each has its pores, in every segment of pores, and any other segment is what it was
  pub segments : v.segments ≡ keep_segments (count v₀) h.left v₀.segments
  -- where a line is gone, these segments said pores of all lines
  pub right : length h.left < count v₀ → T (all_pores_right (count v₀) v₀.segments)
  -- two are neighbours as the last accepted order about them says
  pub told : (p q : ℕ) → p < length h.left → q < length h.left
      → near v p q ≡ said h.words (at h.left p) (at h.left q) (near v₀ (at h.left p) (at h.left q))
