-- TWO REMOVALS ARE ONE: behind an accepted removal, a second one has the outcome that one removal of both their lines has; and every
-- removal behind it is such a second one.
use mathlib.Core.Path.{◌≡◌, refl, sym, ap, ◌∙◌, subst}
use Prim.Native.Nat.{ℕ}
use mathlib.Core.Bool.{Bool, ◌&&◌}
use mathlib.Core.List.{List, [], ◌∷◌}
use lib.Dec.{T}
use Rattle.outcome.specs.Outcome.{given}
use Rattle.format.specs.Segments.{Segment}
use Rattle.format.specs.View.{View}
use Rattle.format.specs.Record.{Record, write, Allowed}
use Rattle.format.specs.Places.{view_at, with_view, count}
use Rattle.format.specs.declared.ViewName.{ViewName}
use Rattle.format.proofs.Laws.Record.{read_there, read_is}
use Rattle.pores.specs.Keep.{keep_segments, all_pores_right}
use Rattle.pores.proofs.Laws.Keep.{right_after}
use Rattle.orders.specs.Survive.{survivors}
use Rattle.orders.specs.Act.{remove, after}
use Rattle.orders.specs.Order.{edited, lines_ok, carried, all_carried, tests, Pass, order}
use Rattle.orders.specs.Called.{removing}
use Rattle.orders.specs.Split.{count_after, renumbered, Together}
use Rattle.orders.proofs.Laws.Survive.{survivors_below}
use Rattle.orders.proofs.Laws.Near.{segments_after}
use Rattle.orders.proofs.Laws.Keep.{edited_is, edited_here, edited_twice, edited_means, order_keeps}
use Rattle.orders.proofs.Laws.Twice.{count_removed, removed_twice}
use Rattle.orders.proofs.Laws.Renumber.{renumbered_ok, second_list}
use Rattle.orders.proofs.Laws.Gives.{limited, order_limited, given_on, given_order}

-- ---- what the tests of a removal say

module _ (v : View) (rs : List ℕ) (p : Pass (tests (remove rs) v)) where
  lines_passed : T (lines_ok (count v) rs)
  unfolding tests
  lines_passed = p.0

  pores_passed : T (all_pores_right (count v) v.segments)
  unfolding tests
  pores_passed = p.1.1.0

-- ---- the tests of the second

-- keeping pores keeps every segment's type
carried_kept : (n : ℕ) (ks : List ℕ) (gs : List Segment) → all_carried (keep_segments n ks gs) ≡ all_carried gs
unfolding keep_segments
carried_kept n ks [] = refl
carried_kept n ks (g ∷ gs) = ap (λ (b : Bool). carried g && b) (carried_kept n ks gs)

module _ (v : View) (rs ss both : List ℕ) (t : Together (count v) rs ss both) (p : Pass (tests (remove rs) v)) where
  second_passes : Pass (tests (remove (renumbered (count v) rs ss)) (after (remove rs) v))
  unfolding tests
  second_passes =
      rw (count_removed v rs, segments_after (remove rs) v) (
        renumbered_ok (count v) rs ss both t,
        (
          rw (carried_kept (count v) (survivors (count v) rs) v.segments) p.1.0,
          (right_after (count v) (survivors (count v) rs) v.segments (survivors_below (count v) rs) p.1.1.0, tt),
        ),
      )

  once_passes : Pass (tests (remove both) v)
  unfolding tests
  once_passes = (t.once, p.1)

-- ---- the theorems

pub two_removals : (view : ViewName) (n : ℕ) (rs ss both bytes first : List ℕ) → Together n rs ss both → order (removing view n rs) bytes ≡ given first
    → order (removing view (count_after n rs) (renumbered n rs ss)) first ≡ order (removing view n both) bytes
two_removals view n rs ss both bytes first t h =
    given_order (removing view n rs) bytes h λ r i e a w.
    let v : View = view_at r i in
    let x : Record = edited i (remove rs) r in
    let allowed : Allowed x = order_keeps (removing view n rs) i r (read_is bytes r [] e).0 a in
    let here : view_at x i ≡ after (remove rs) v = edited_here i (remove rs) r a.means.there in
    let y : Together (count v) rs ss both = rw a.count t in
    let same : edited i (remove (renumbered (count v) rs ss)) x ≡ edited i (remove both) r =
    edited_twice i (remove rs) (remove (renumbered (count v) rs ss)) r a.means.there
    ∙ ap (with_view r i) (removed_twice v rs ss both y.has (pores_passed v rs a.passes)) ∙ sym (edited_is i (remove both) r) in
    rw (w, ← a.count)
    (order_limited (removing view (count_after (count v) rs) (renumbered (count v) rs ss)) (write x) (read_there x allowed) (edited_means i (remove rs) r a.means)
    (ap count here ∙ count_removed v rs) (rw here (second_passes v rs ss both y a.passes))
    ∙ ap limited same ∙ sym (order_limited (removing view (count v) both) bytes e a.means refl (once_passes v rs ss both y a.passes)))

pub second_removal : (view : ViewName) (n m : ℕ) (rs cs bytes first new : List ℕ) → order (removing view n rs) bytes ≡ given first
    → order (removing view m cs) first ≡ given new → (ss : List ℕ) × (both : List ℕ) × Together n rs ss both × (m ≡ count_after n rs) × (cs ≡ renumbered n rs ss)
second_removal view n m rs cs bytes first new h k =
    given_order (removing view n rs) bytes h λ r i e a w.
    let v : View = view_at r i in
    let x : Record = edited i (remove rs) r in
    let allowed : Allowed x = order_keeps (removing view n rs) i r (read_is bytes r [] e).0 a in
    given_on (removing view m cs) (write x) (read_there x allowed) (edited_means i (remove rs) r a.means) (subst (λ (s : List ℕ). order (removing view m cs) s ≡ given new) w k) λ b _.
    let c : count (view_at x i) ≡ count_after n rs =
    ap count (edited_here i (remove rs) r a.means.there) ∙ count_removed v rs ∙ ap (λ (l : ℕ). count_after l rs) a.count in
    let (ss, both, t, z) = second_list n rs cs (rw a.count at (lines_passed v rs a.passes)) (rw c at (lines_passed (view_at x i) cs b.passes)) in
    (ss, both, t, sym b.count ∙ c, sym z)
