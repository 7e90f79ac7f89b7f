-- An accepted order and its history: what a view was, told one more order, is what the view is. Lines are followed through
-- renumbering by their numbers at the start.
use mathlib.Core.Path.{◌≡◌, refl, sym, ap₂, ◌∙◌}
use Prim.Native.Nat.{ℕ, suc, ◌≤◌, ◌<◌, min, max}
use native.Mathlib.Omega.{arith}
use mathlib.Core.Bool.{Bool, true, false, ◌&&◌}
use mathlib.Core.Option
use mathlib.Core.Option.{Option, none, some}
use mathlib.Core.List.{List, [], ◌∷◌, map}
use lib.ListN.{length, length-map}
use lib.Dec.{T, leb, ltb, eqb, ltb→lt}
use mir.Facts.{and_yes}
use Rattle.bits.specs.Choice.{pick, some?}
use Rattle.bits.specs.ChoiceLaws.{split}
use Rattle.bits.specs.Lists.{All}
use Rattle.bits.specs.ListsLaws.{all_at, at_all, map_at}
use Rattle.format.specs.Index.{Index}
use Rattle.format.specs.Segments.{Segment, FitsSegment}
use Rattle.format.specs.View.{View}
use Rattle.format.specs.Places.{count, no_line, line_at, no_segment_there, segment_at}
use Rattle.pores.specs.Keep.{keep_in, keep_segments, all_pores_right}
use Rattle.pores.proofs.Laws.Keep.{keep_every, keep_twice, right_before}
use Rattle.orders.specs.Survive.{at, up_from, survivors, RisesFrom}
use Rattle.orders.specs.Act.{Act, remove, join, part, lists, indexed?, near, new_lines, new_segments, after}
use Rattle.orders.specs.Order.{rises_ok, tests, Pass}
use Rattle.orders.specs.History.{History, fresh, tell, about, Follows}
use Rattle.orders.proofs.Laws.Survive.{map_rises, rises_length, rises_all, at_ends, at_eqb, up_from_rises, length_up_from, at_up, survivors_rise, survivors_below, survivors_lt}
use Rattle.orders.proofs.Laws.Near.{head_after, segments_after, lines_after, indexed_after, least_after, near_remove, near_join, near_part}
use Rattle.orders.proofs.Laws.Accept.{both_lines}
use Rattle.orders.proofs.Laws.Right.{Right}

-- ---- at the start

pub follows_fresh : (v : View) → All FitsSegment v.segments → Follows v v (fresh v)
follows_fresh v g =
    let n : ℕ = count v in
    record {
      head = refl;
      segments = sym (keep_every n (up_from 0 n) v.segments (length_up_from 0 n) (λ p l. at_up n p (omega (arith, length_up_from 0 n))) g);
      right = λ l. absurd (omega (arith, length_up_from 0 n));
      indexed = refl;
      spared = λ e. refl;
      least = λ l. absurd (omega arith);
      counts = length_up_from 0 n;
      rises = up_from_rises 0 n;
      below = λ p h. omega (arith, at_up n p h, length_up_from 0 n);
      same = λ p h. rw (at_up n p h);
      told = λ p q h k. rw (at_up n p h, at_up n q k);
    }

-- ---- a removal

module _ (v₀ v : View) (h : History) (f : Follows v₀ v h) (rs : List ℕ) (ok : T (all_pores_right (count v) v.segments)) where
  -- the survivors, by their numbers before the removal; at h.left takes these to the numbers at the start
  abbrev ks : List ℕ
  ks = survivors (length h.left) rs

  short : {p : ℕ} → p < length (map (at h.left) ks) → p < length ks
  short l = rw (← length-map ks (at h.left)) l

  in_left : (p : ℕ) → p < length ks → at ks p < length h.left
  in_left p l = all_at (λ x. x < length h.left) 0 ks p l (survivors_below (length h.left) rs)

  left_at : (p : ℕ) → p < length ks → at (map (at h.left) ks) p ≡ at h.left (at ks p)
  left_at p l = map_at (at h.left) ks p 0 0 l

  near_ks : (p q : ℕ) → p < length ks → q < length ks → near (after (remove rs) v) p q ≡ near v (at ks p) (at ks q)
  near_ks p q = rw f.counts (near_remove v rs p q)

  line_ks : (p : ℕ) → p < length ks → line_at (after (remove rs) v) p ≡ line_at v (at ks p)
  line_ks p = rw (f.counts, lines_after (remove rs) v) (λ l. map_at (line_at v) (survivors (count v) rs) p 0 no_line l)

  count_ks : length (map (at h.left) ks) ≡ count (after (remove rs) v)
  count_ks = rw (lines_after (remove rs) v, length-map ks (at h.left), f.counts) (sym (length-map (survivors (count v) rs) (line_at v)))

  -- the segments before it, which say pores of all lines that were left
  still_right : T (all_pores_right (length h.left) (keep_segments (count v₀) h.left v₀.segments))
  still_right = rw (f.counts, ← f.segments) ok

  left_below : All (λ x. x < count v₀) h.left
  left_below = at_all (λ x. x < count v₀) 0 h.left f.below

  first_right : T (all_pores_right (count v₀) v₀.segments)
  first_right =
      split (count v₀) (length h.left) (λ l. right_before (length h.left) (count v₀) h.left v₀.segments (omega (arith, rises_length 0 (count v₀) h.left (omega arith) f.rises f.below)) still_right)
      (λ l. f.right l)

  pores_ks : (after (remove rs) v).segments ≡ keep_segments (count v₀) (map (at h.left) ks) v₀.segments
  pores_ks =
      segments_after (remove rs) v
      ∙ ap₂ (λ (n : ℕ) (gs : List Segment). keep_segments n (survivors n rs) gs) (sym f.counts) f.segments
      ∙ keep_twice (count v₀) h.left ks v₀.segments left_below (survivors_below (length h.left) rs) first_right

  follows_remove : Follows v₀ (after (remove rs) v) (tell (remove rs) h)
  follows_remove =
      record {
        head = head_after (remove rs) v ∙ f.head;
        segments = pores_ks;
        right = λ l. first_right;
        indexed = indexed_after (remove rs) v ∙ f.indexed;
        spared = λ e. absurd (omega arith);
        least = λ l. least_after (remove rs) v;
        counts = count_ks;
        rises = map_rises h.left ks f.rises (survivors_rise (length h.left) rs) (survivors_below (length h.left) rs);
        below = λ p l. rw (left_at p (short l)) (f.below (at ks p) (in_left p (short l)));
        same = λ p l. rw (left_at p (short l)) (line_ks p (short l) ∙ f.same (at ks p) (in_left p (short l)));
        told = λ p q k l. rw (left_at p (short k), left_at q (short l))
            (near_ks p q (short k) (short l) ∙ f.told (at ks p) (at ks q) (in_left p (short k)) (in_left q (short l)));
      }

-- ---- a join or a part

-- a pair of places is a pair exactly if the numbers there are
about_at : (xs : List ℕ) (a b p q : ℕ) → RisesFrom 0 xs → a < length xs → b < length xs → p < length xs → q < length xs
    → about (at xs a) (at xs b) (at xs p) (at xs q) ≡ about a b p q
about_at xs a b p q h ka kb kp kq =
    let (x, y) = at_ends 0 xs h p q kp kq in
    let (z, w) = at_ends 0 xs h a b ka kb in
    let hi : eqb (at xs (max p q)) (at xs (max a b)) ≡ eqb (max p q) (max a b) = at_eqb 0 xs h (max p q) (max a b) (omega arith) (omega arith) in
    let lo : eqb (at xs (min p q)) (at xs (min a b)) ≡ eqb (min p q) (min a b) = at_eqb 0 xs h (min p q) (min a b) (omega arith) (omega arith) in
    rw (x, y, z, w, hi, lo)

pub indexed_lists : {X : Type 0} (o : Option Index) → T (some? o) → ((ls : List (List ℕ)) → Option.map (λ i. i.lists) o ≡ some ls → X) → X
indexed_lists none t k = absurd t
indexed_lists (some i) t k = k i.lists refl

-- an order that leaves the lines, and makes two of them near, or not, as j says
follows_pair : (v₀ v : View) (h : History) (c : Act) (a b : ℕ) (j : Bool) → new_lines c v ≡ v.lines → new_segments c v ≡ v.segments
    → ((ls : List (List ℕ)) → lists v ≡ some ls → max a b < length ls → (p q : ℕ) → near (after c v) p q ≡ pick (about a b p q) j (near v p q))
    → Right v → T (indexed? v) → T (ltb a (count v) && ltb b (count v)) → Follows v₀ v h
    → Follows v₀ (after c v) (record { left = h.left; words = record { one = at h.left a; other = at h.left b; joins = j } ∷ h.words; accepted = suc h.accepted })
follows_pair v₀ v h c a b j e g n r t u f =
    indexed_lists v.index t λ ls d.
    let (ka, kb) = both_lines a b (count v) u in
    let z = lines_after c v ∙ e in
    record {
      head = head_after c v ∙ f.head;
      segments = segments_after c v ∙ g ∙ f.segments;
      right = f.right;
      indexed = indexed_after c v ∙ f.indexed;
      spared = λ e. absurd (omega arith);
      least = λ l. least_after c v;
      counts = rw z f.counts;
      rises = f.rises;
      below = f.below;
      same = λ p l. rw z (f.same p l);
      told = λ p q k l. n ls d (omega (arith, (r ls d).count)) p q
          ∙ ap₂ (λ (x y : Bool). pick x j y) (sym (about_at h.left a b p q f.rises (rw f.counts ka) (rw f.counts kb) k l)) (f.told p q k l);
    }

-- ---- every order

pub follows_act : (v₀ v : View) (h : History) (a : Act) → Right v → Pass (tests a v) → Follows v₀ v h → Follows v₀ (after a v) (tell a h)
unfolding tests
follows_act v₀ v h (remove rs) r p f = follows_remove v₀ v h f rs p.1.1.0
follows_act v₀ v h (join a b) r p f = follows_pair v₀ v h (join a b) a b true refl refl (near_join v a b) r p.0 p.1.0 f
follows_act v₀ v h (part a b) r p f = follows_pair v₀ v h (part a b) a b false refl refl (near_part v a b) r p.0 p.1.0 f

-- ---- counts

-- no line comes back
pub follows_count : (v₀ v : View) (h : History) → Follows v₀ v h → count v ≤ count v₀
follows_count v₀ v h f = omega (arith, rises_length 0 (count v₀) h.left (omega arith) f.rises f.below, f.counts)

-- ---- segments, by places

pub segment_kept : {v₀ v : View} {h : History} → Follows v₀ v h → (place : ℕ) → place < length v₀.segments
    → (place < length v.segments) × (segment_at v place ≡ keep_in (count v₀) h.left (segment_at v₀ place))
unfolding keep_segments
segment_kept {v₀ = v₀} {h = h} f place l =
    rw f.segments (omega (arith, length-map v₀.segments (keep_in (count v₀) h.left)), map_at (keep_in (count v₀) h.left) v₀.segments place no_segment_there no_segment_there l)

-- where no line is gone, they are what they were
pub segments_stay : {v₀ v : View} {h : History} → Follows v₀ v h → All FitsSegment v₀.segments → length h.left ≡ count v₀ → v.segments ≡ v₀.segments
segments_stay {v₀ = v₀} {h = h} f g e =
    f.segments ∙ keep_every (count v₀) h.left v₀.segments e (λ q l. rises_all 0 (count v₀) h.left f.rises f.below (omega arith) q (omega arith) ∙ omega arith) g

-- ---- a removal that is accepted names a line, which goes
pub removal_shortens : (rs : List ℕ) (v : View) → Pass (tests (remove rs) v) → count (after (remove rs) v) < count v
unfolding tests
removal_shortens [] v p = absurd p.0
removal_shortens (r ∷ rs) v p =
    let (c, d) = and_yes (leb 0 r && ltb r (count v)) (rises_ok (suc r) (count v) rs) p.0 in
    let l : r < count v = ltb→lt r (count v) (and_yes (leb 0 r) (ltb r (count v)) c).1 in
    rw (lines_after (remove (r ∷ rs)) v, length-map (survivors (count v) (r ∷ rs)) (line_at v)) (survivors_lt (count v) r rs l)
