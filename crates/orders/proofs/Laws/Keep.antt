-- An accepted order leaves a record that is allowed, with the same header and as many views, and every view that it does not name
-- is as it was, to the bit.
use mathlib.Core.Path.{◌≡◌, refl, ap, ◌∙◌}
use mathlib.Core.Logic.{◌≢◌}
use Prim.Native.Nat.{ℕ, ◌≤◌, ◌<◌}
use native.Mathlib.Nat.{zero-add}
use native.Mathlib.Omega.{arith}
use mathlib.Core.Bool.{Bool}
use mathlib.Core.Option.{Option, none, some, map}
use mathlib.Core.List.{List, []}
use lib.ListN.{length, length-map}
use lib.Seq.{set-set}
use Rattle.bits.specs.Lists.{Along}
use Rattle.bits.specs.ListsLaws.{all_at, all_map, along_at, along_up, up_along, mapped}
use Rattle.bits.specs.Codec.{Codec}
use Rattle.bits.proofs.BlockLaws.{ManyFits}
use Rattle.format.specs.Limits.{most_lines, most_bytes}
use Rattle.format.specs.Line.{Line, line, skeleton}
use Rattle.differences.specs.Differences.{Falls}
use Rattle.format.specs.Index.{Index, FitsList, FitsIndex, up, index, index_block}
use Rattle.format.specs.Segments.{segment, segments}
use Rattle.format.specs.View.{View, view, view_header}
use Rattle.format.specs.Record.{Record, tell_seen, Allowed}
use Rattle.format.specs.declared.Widths.{Widths}
use Rattle.format.proofs.Laws.Size.{view_length}
use Rattle.format.proofs.Laws.Changed.{FitsAs, changed_count, changed_here, changed_other, changed_place, changed_means, changed_allowed}
use Rattle.format.specs.Places.{count, no_line, line_at, no_view_there, view_at, with_view}
use Rattle.format.specs.Named.{place_in, Means}
use Rattle.format.specs.declared.ViewName.{ViewName}
use Rattle.orders.specs.Survive.{survivors}
use Rattle.orders.specs.Least.{index_of}
use Rattle.orders.specs.Act.{Act, remove, join, part, lists, new_lines, new_segments, after}
use Rattle.orders.specs.Order.{Order, edited, tests, Pass, Accepted}
use Rattle.orders.proofs.Laws.Survive.{survivors_le, survivors_below}
use Rattle.orders.proofs.Laws.Near.{head_after, segments_after, lines_after, index_after}
use Rattle.orders.proofs.Laws.Pores.{segments_fit}
use Rattle.orders.proofs.Laws.Least.{least_fits}
use Rattle.orders.proofs.Laws.Right.{RightLists, Right, after_right}

-- ---- what fits is right, and what is right fits

index_right : (n : ℕ) (o : Option Index) → (index_block n).Fits o → (ls : List (List ℕ)) → map (λ i. i.lists) o ≡ some ls
    → RightLists n ls
unfolding index_block index
index_right n o h ls e =
    mapped (λ i. i.lists) o ls e λ i q z.
    let f : FitsIndex n i = rw q at h in
    rw (← z) (record {
      count = f.count;
      falls = λ p l. (rw zero-add at (along_up (FitsList i.width) [] 0 i.lists p (omega (arith, f.count)) f.lists)).falls;
    })

right_index : (n : ℕ) (o : Option (List (List ℕ))) → n ≤ most_lines → ((ls : List (List ℕ)) → o ≡ some ls → RightLists n ls)
    → (index_block n).Fits (map index_of o)
unfolding index_block index
right_index n none l h = tt
right_index n (some ls) l h =
    let r = h ls refl in
    let falls : Along up (Falls 0) 0 ls = up_along (Falls 0) [] 0 ls λ p k. rw zero-add (r.falls p (omega (arith, r.count))) in
    rw r.count at (least_fits ls (omega (arith, r.count)) falls)

lines_keep : (c : Codec Bool Line) (n : ℕ) (a : Act) (v : View) → ManyFits c n v.lines → ManyFits c n (new_lines a v)
lines_keep c n (remove rs) v h =
    let ks : List ℕ = survivors (count v) rs in
    record {
      most = omega (arith, h.most, survivors_le (count v) rs, length-map ks (line_at v));
      all = all_map c.Fits (λ x. x < count v) (line_at v) ks (λ x l. all_at c.Fits no_line v.lines x l h.all)
          (survivors_below (count v) rs);
    }
lines_keep c n (join a b) v h = h
lines_keep c n (part a b) v h = h

new_segments_lem : (a : Act) (v : View) → segments.Fits v.segments → segments.Fits (new_segments a v)
unfolding segments segment
new_segments_lem (remove rs) v f = segments_fit (count v) rs v.segments f
new_segments_lem (join a b) v f = f
new_segments_lem (part a b) v f = f

-- ---- a view

view_right_lem : (w : Widths) (seen : List ℕ) (v : View) → (view w seen).Fits v → Right v
unfolding view
view_right_lem w seen v f = index_right (count v) v.index f.1.0.1

view_keep : (w : Widths) (a : Act) (v : View) → Pass (tests a v) → FitsAs w (after a v) v
unfolding view view_header skeleton most_bytes
view_keep w a v p seen f small =
    let u : View = after a v in
    let z = view_length w seen u in
    let m : ManyFits (line w) most_lines u.lines = rw (lines_after a v) (lines_keep (line w) most_lines a v f.0.1) in
    let r : Right u = after_right a v p (view_right_lem w seen v f) in
    let i : (index_block (count u)).Fits u.index = rw (index_after a v) (right_index (count u) (lists u) m.most r) in
    (((rw (head_after a v) f.0.0.0, omega (arith, z)), m), ((omega (arith, z), i), (omega (arith, z), rw (segments_after a v) (new_segments_lem a v f.1.1.1))))

-- ---- the record

module _ (i : ℕ) (a : Act) (r : Record) where
  pub edited_is : edited i a r ≡ with_view r i (after a (view_at r i))
  unfolding edited
  edited_is = refl

  pub edited_head : (edited i a r).head ≡ r.head
  unfolding edited
  edited_head = refl

  pub edited_count : length (edited i a r).views ≡ length r.views
  unfolding edited
  edited_count = changed_count r i (after a (view_at r i))

  pub edited_here : i < length r.views → view_at (edited i a r) i ≡ after a (view_at r i)
  unfolding edited
  edited_here l = changed_here r i (after a (view_at r i)) l

  -- changed once more, at the same place
  pub edited_again : (u : View) → with_view (edited i a r) i u ≡ with_view r i u
  unfolding edited
  edited_again u = ap (λ (vs : List View). record { head = r.head; views = vs }) (set-set r.views i (after a (view_at r i)) u)

  pub edited_other : (j : ℕ) → j ≢ i → view_at (edited i a r) j ≡ view_at r j
  unfolding edited
  edited_other j n = changed_other r i (after a (view_at r i)) j n

  -- orders never touch a view's name
  pub edited_place : (view : ViewName) → place_in view (edited i a r).views ≡ place_in view r.views
  unfolding edited
  edited_place view = changed_place r i (after a (view_at r i)) (head_after a (view_at r i)) view

  pub edited_means : {view : ViewName} {j : ℕ} → Means view r j → Means view (edited i a r) j
  unfolding edited
  edited_means {view} m = changed_means r i (after a (view_at r i)) (head_after a (view_at r i)) view m

-- two orders on one view
pub edited_twice : (i : ℕ) (a b : Act) (r : Record) → i < length r.views → edited i b (edited i a r) ≡ with_view r i (after b (after a (view_at r i)))
edited_twice i a b r l =
    edited_is i b (edited i a r) ∙ ap (λ (v : View). with_view (edited i a r) i (after b v)) (edited_here i a r l)
    ∙ edited_again i a r (after b (after a (view_at r i)))

pub order_keeps : (o : Order) (i : ℕ) (r : Record) → Allowed r → Accepted o i r → Allowed (edited i o.act r)
unfolding edited
order_keeps o i r f a =
    let w : Widths = r.head.scale.widths in
    let v : View = view_at r i in
    changed_allowed r i (after o.act v) a.means.there (head_after o.act v) (view_keep w o.act v a.passes) a.small f

-- the lists of an allowed record's views are right
pub allowed_right : (r : Record) → Allowed r → (i : ℕ) → i < length r.views → Right (view_at r i)
allowed_right r a i l =
    let w : Widths = r.head.scale.widths in
    let (s, f) = along_at tell_seen (λ s v. (view w s).Fits v) no_view_there [] r.views i l a.fits.views in
    view_right_lem w s (view_at r i) f

-- ---- a view that is not named keeps its bits

-- what a view writes does not hang on the views before it
same_bits : (w : Widths) (s t : List ℕ) (v : View) → (view w s).enc v ≡ (view w t).enc v
unfolding view view_header
same_bits w s t v = refl

-- s and t: the positions before the view, in the new record and in the old
pub edited_bits : (i : ℕ) (a : Act) (r : Record) (j : ℕ) (s t : List ℕ) → j ≢ i
    → (view (edited i a r).head.scale.widths s).enc (view_at (edited i a r) j) ≡ (view r.head.scale.widths t).enc (view_at r j)
edited_bits i a r j s t n = rw (edited_head i a r, edited_other i a r j n) (same_bits r.head.scale.widths s t (view_at r j))
