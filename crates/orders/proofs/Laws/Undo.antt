-- JOIN AND PART UNDO EACH OTHER: behind an accepted order about a pair, its opposite is accepted too, and leaves the record whose view
-- has its least width and is otherwise as it was.
use mathlib.Core.Path.{◌≡◌, refl, sym, ap, ◌∙◌}
use Prim.Native.Nat.{ℕ, zero, suc, ◌+◌, ◌≤◌, ◌<◌, min, max}
use native.Mathlib.Nat.{mul-le-mul_left}
use native.Mathlib.Omega.{arith}
use mathlib.Core.Bool.{Bool, true, false, not, ◌&&◌}
use mathlib.Core.Option.{Option, none, some, map}
use mathlib.Core.List.{List, [], ◌∷◌}
use lib.ListN.{length, get_or, set}
use lib.Dec.{T, leb, ltb, eqb, le→leb, lt→ltb, eqb_refl, T_not}
use lib.Seq.{get_or-set_same, set-get_or, set-set}
use mir.Facts.{or_no, yes_and, yes_eqb, no_eqb, no_ltb}
use Rattle.bits.specs.Choice.{pick}
use Rattle.bits.specs.ChoiceLaws.{pick_yes, pick_no, pick_case, eqb_true, eqb_false, split, eq_split}
use Rattle.bits.specs.Lists.{All, total}
use Rattle.bits.specs.ListsLaws.{along_at}
use Rattle.bits.specs.Bytes.{Byte}
use Rattle.bits.specs.Codec.{got}
use Rattle.bits.specs.CodecLaws.{enc_along}
use Rattle.outcome.specs.Outcome.{given}
use Rattle.format.specs.Limits.{most_bytes}
use Rattle.differences.specs.Differences.{Falls}
use Rattle.format.specs.Index.{Index, index, index_block}
use Rattle.format.specs.View.{View, view, view_header}
use Rattle.format.specs.Record.{Record, tell_seen, read, size, write, Allowed}
use Rattle.format.specs.Places.{no_view_there, view_at, with_view, count}
use Rattle.format.specs.Named.{Means}
use Rattle.format.specs.declared.Widths.{Widths}
use Rattle.format.specs.declared.ViewName.{ViewName}
use Rattle.format.proofs.Laws.Size.{view_length, views_length}
use Rattle.format.proofs.Laws.Record.{read_there, read_is, read_back}
use Rattle.find_parts.proofs.Laws.Lists.{along_long, lists_long}
use Rattle.find_parts.proofs.Laws.Index.{index_long}
use Rattle.find_parts.proofs.Laws.Written.{view_long}
use Rattle.find_parts.proofs.Laws.Apart.{same_record}
use Rattle.orders.specs.Survive.{elem}
use Rattle.orders.specs.Least.{least_width, index_of}
use Rattle.orders.specs.Act.{Act, join, part, lists, LeastWide, near, insert, delete, change, new_lists, after}
use Rattle.orders.specs.Order.{edited, tests, Pass, order}
use Rattle.orders.specs.Called.{pair_act, pair_order}
use Rattle.orders.specs.History.{about}
use Rattle.orders.specs.Split.{narrowed}
use Rattle.orders.proofs.Laws.Least.{least_least}
use Rattle.orders.proofs.Laws.Near.{head_after, index_after, lists_after_lem, indexed_after, near_join, near_part}
use Rattle.orders.proofs.Laws.Accept.{both_lines}
use Rattle.orders.proofs.Laws.Right.{Right}
use Rattle.orders.proofs.Laws.Keep.{edited_here, edited_twice, edited_means, order_keeps, allowed_right}
use Rattle.orders.proofs.Laws.Story.{indexed_lists}
use Rattle.orders.proofs.Laws.Pairs.{word_tests_lem, pair_lines, pair_segments}
use Rattle.orders.proofs.Laws.Twice.{equal_views}
use Rattle.orders.proofs.Laws.Gives.{limited, order_limited, given_on}

-- ---- one number put in and taken out, in a list that falls

delete_none : (m : ℕ) (ns : List ℕ) → T (not (elem m ns)) → delete m ns ≡ ns
delete_none m [] t = refl
delete_none m (n ∷ ns) t =
    let (d, u) = or_no (eqb m n) (elem m ns) t in
    pick_no (eqb m n) _ _ d ∙ ap (λ (xs : List ℕ). n ∷ xs) (delete_none m ns u)

delete_insert : (m : ℕ) (ns : List ℕ) → T (not (elem m ns)) → delete m (insert m ns) ≡ ns
delete_insert m [] t = rw (eqb_true m m refl)
delete_insert m (n ∷ ns) t =
    let (d, u) = or_no (eqb m n) (elem m ns) t in
    pick_case (λ (xs : List ℕ). delete m xs ≡ n ∷ ns) (ltb n m) _ _ (λ k. rw (eqb_true m m refl) (delete_none m (n ∷ ns) t))
    (λ k. pick_no (eqb m n) _ _ d ∙ ap (λ (xs : List ℕ). n ∷ xs) (delete_insert m ns u))

-- behind its place there is no further one
falls_out : (m l x : ℕ) (ns : List ℕ) → Falls m l ns → l < x + m → T (not (elem x ns))
falls_out m l x [] h k = tt
falls_out m l x (n ∷ ns) h k = rw (eqb_false x n (λ e. omega (arith, h.0))) (falls_out 1 n x ns h.1 (omega (arith, h.0)))

falls_in : (m l x : ℕ) (ns : List ℕ) → Falls m l ns → T (elem x ns) → x + m ≤ l
falls_in m l x ns h t = split (x + m) l (λ k. k) (λ k. absurd (T_not (elem x ns) (falls_out m l x ns h k) t))

insert_first : (x : ℕ) (ns : List ℕ) → Falls 1 x ns → insert x ns ≡ x ∷ ns
insert_first x [] h = refl
insert_first x (n ∷ ns) h = pick_yes (ltb n x) _ _ (lt→ltb n x (omega (arith, h.0)))

insert_delete : (m l x : ℕ) (ns : List ℕ) → Falls m l ns → T (elem x ns) → insert x (delete x ns) ≡ ns
insert_delete m l x [] h t = absurd t
insert_delete m l x (n ∷ ns) h t =
    eq_split x n
    (λ e. let out : T (not (elem x ns)) = falls_out 1 n x ns h.1 (omega arith) in
    ap (insert x) (pick_yes (eqb x n) _ _ (yes_eqb e) ∙ delete_none x ns out) ∙ rw e (insert_first n ns h.1))
    (λ d. let u : T (elem x ns) = rw (eqb_false x n d) at t in
    ap (insert x) (pick_no (eqb x n) _ _ (no_eqb d))
    ∙ pick_no (ltb n x) _ _ (no_ltb {a = n} (omega (arith, falls_in 1 n x ns h.1 u)))
    ∙ ap (λ (xs : List ℕ). n ∷ xs) (insert_delete 1 n x ns h.1 u))

-- ---- the lists of a view

-- a list changed and changed back
change_back : (f g : List ℕ → List ℕ) (i : ℕ) (ls : List (List ℕ)) → i < length ls → g (f (get_or ls i [])) ≡ get_or ls i [] → change g i (change f i ls) ≡ ls
change_back f g i ls l e =
    let new : List ℕ = f (get_or ls i []) in
    ap (λ (xs : List ℕ). set (set ls i new) i (g xs)) (get_or-set_same ls i new [] l) ∙ set-set ls i new (g new) ∙ ap (set ls i) e ∙ set-get_or ls i []

-- two orders, of which f and g say what becomes of the list of line i
lists_undone : (x y : Act) (f g : List ℕ → List ℕ) (i : ℕ) → ((n : ℕ) (ls : List (List ℕ)) → new_lists x n ls ≡ change f i ls)
    → ((n : ℕ) (ls : List (List ℕ)) → new_lists y n ls ≡ change g i ls) → (v : View)
    → ((ls : List (List ℕ)) → lists v ≡ some ls → (i < length ls) × (g (f (get_or ls i [])) ≡ get_or ls i [])) → lists (after y (after x v)) ≡ lists v
lists_undone x y f g i p q v h =
    lists_after_lem y (after x v) ∙ ap (map (new_lists y (count (after x v)))) (lists_after_lem x v) ∙ go (lists v) h
  where
    go : (o : Option (List (List ℕ))) → ((ls : List (List ℕ)) → o ≡ some ls → (i < length ls) × (g (f (get_or ls i [])) ≡ get_or ls i []))
        → map (new_lists y (count (after x v))) (map (new_lists x (count v)) o) ≡ o
    go none k = refl
    go (some ls) k =
        let (l, e) = k ls refl in
        ap some (q (count (after x v)) (new_lists x (count v) ls) ∙ ap (change g i) (p (count v) ls) ∙ change_back f g i ls l e)

-- the order, and then its opposite
lists_back : (joins : Bool) (a b : ℕ) (v : View) → Right v → Pass (tests (pair_act joins a b) v)
    → lists (after (pair_act (not joins) a b) (after (pair_act joins a b) v)) ≡ lists v
unfolding tests near
lists_back true a b v r p =
    lists_undone (join a b) (part a b) (insert (min a b)) (delete (min a b)) (max a b) (λ n ls. refl) (λ n ls. refl) v λ ls e.
    let (k, l) = both_lines a b (count v) p.1.0 in
    (omega (arith, (r ls e).count), delete_insert (min a b) (get_or ls (max a b) []) (rw e at p.1.1.0))
lists_back false a b v r p =
    lists_undone (part a b) (join a b) (delete (min a b)) (insert (min a b)) (max a b) (λ n ls. refl) (λ n ls. refl) v λ ls e.
    let (k, l) = both_lines a b (count v) p.1.0 in (
      omega (arith, (r ls e).count),
      insert_delete 0 (max a b) (min a b) (get_or ls (max a b) []) ((r ls e).falls (max a b) (omega arith)) (rw e at p.1.1.0),
    )

-- ---- the view

module _ (joins : Bool) (a b : ℕ) (v : View) (r : Right v) (p : Pass (tests (pair_act joins a b) v)) where
  abbrev u : View
  u = after (pair_act joins a b) v

  abbrev opposite : Act
  opposite = pair_act (not joins) a b

  pair_back : after opposite u ≡ narrowed v
  pair_back =
      equal_views (after opposite u) (narrowed v) (head_after opposite u ∙ head_after (pair_act joins a b) v)
      (pair_lines (not joins) a b u ∙ pair_lines joins a b v)
      (index_after opposite u ∙ ap (map index_of) (lists_back joins a b v r p))
      (pair_segments (not joins) a b u ∙ pair_segments joins a b v)

  -- the pair is as the order says, so that the opposite passes its tests
  near_told : near u a b ≡ joins
  unfolding tests
  near_told = go joins p
    where
      there : (ls : List (List ℕ)) → lists v ≡ some ls → T (ltb a (count v) && ltb b (count v)) → max a b < length ls
      there ls e t = let (k, l) = both_lines a b (count v) t in omega (arith, (r ls e).count)

      about_same : T (about a b a b)
      about_same = yes_and (eqb (max a b) (max a b)) (eqb (min a b) (min a b)) (eqb_refl (max a b)) (eqb_refl (min a b))

      go : (j : Bool) → Pass (tests (pair_act j a b) v) → near (after (pair_act j a b) v) a b ≡ j
      go true q = indexed_lists v.index q.0 λ ls e. near_join v a b ls e (there ls e q.1.0) a b ∙ pick_yes (about a b a b) _ _ about_same
      go false q = indexed_lists v.index q.0 λ ls e. near_part v a b ls e (there ls e q.1.0) a b ∙ pick_yes (about a b a b) _ _ about_same

  opposite_passes : Pass (tests opposite u)
  opposite_passes =
      let q = rw (word_tests_lem joins a b v) at p in
      rw (word_tests_lem (not joins) a b u) (rw (indexed_after (pair_act joins a b) v) q.0, (rw (pair_lines joins a b v) q.1.0, (rw near_told (told joins), tt)))
    where
      told : (j : Bool) → T (pick (not j) (not j) j)
      told true = tt
      told false = tt

-- ---- how long it is

-- a list whose element is exchanged for one that counts no more
total_set : {A : Type 0} (f : A → ℕ) (d : A) (xs : List A) (i : ℕ) (y : A) → f y ≤ f (get_or xs i d) → total f (set xs i y) ≤ total f xs
total_set f d [] i y h = omega arith
total_set f d (x ∷ xs) zero y h = omega arith
total_set f d (x ∷ xs) (suc i) y h = omega (arith, total_set f d xs i y h)

-- the least width is no wider
index_short : (n : ℕ) (o : Option Index) → (index_block n).Fits o
    → length ((index_block n).enc (map index_of (map (λ i. i.lists) o))) ≤ length ((index_block n).enc o)
unfolding index_block index
index_short n none f = omega arith
index_short n (some x) f =
    let w : ℕ = least_width x.lists in
    let less : w ≤ x.width = least_least x.lists x.width f.low f.lists in
    omega (arith, index_long n (index_of x.lists), index_long n x, lists_long w x.lists, lists_long x.width x.lists, mul-le-mul_left (length x.lists + total length x.lists) less)

view_short : (w : Widths) (seen : List ℕ) (v : View) → (view w seen).Fits v → length ((view w []).enc (narrowed v)) ≤ length ((view w []).enc v)
unfolding view view_header
view_short w seen v f = omega (arith, view_length w [] (narrowed v), view_length w [] v, index_short (count v) v.index f.1.0.1)

narrowed_small : (r : Record) → Allowed r → (i : ℕ) → i < length r.views → size (with_view r i (narrowed (view_at r i))) ≤ most_bytes
narrowed_small r a i l =
    let w : Widths = r.head.scale.widths in
    let u : View = narrowed (view_at r i) in
    let (s, f) = along_at tell_seen (λ s v. (view w s).Fits v) no_view_there [] r.views i l a.fits.views in
    let bits : View → ℕ = λ v. length ((view w []).enc v) in
    let long : (vs : List View) → length (enc_along (view w) tell_seen [] vs) ≡ total bits vs =
    λ vs. along_long (view w) tell_seen bits (λ seen v. view_long w seen v ∙ sym (view_long w [] v)) [] vs in
    omega (
      arith,
      a.small,
      views_length r,
      views_length (with_view r i u),
      long r.views,
      long (set r.views i u),
      total_set bits no_view_there r.views i u (view_short w s (view_at r i) f),
    )

-- ---- the theorem

module _ (view : ViewName) (n a b : ℕ) (joins : Bool) (bytes first : List ℕ) (r : Record) (i : ℕ) (e : read bytes ≡ got r []) (m : Means view r i)
    (h : order (pair_order view n a b joins) bytes ≡ given first) where
  pub pair_undone : order (pair_order view n a b (not joins)) first ≡ given (write (with_view r i (narrowed (view_at r i))))
  pair_undone =
      given_on (pair_order view n a b joins) bytes e m h λ g w.
      let v : View = view_at r i in
      let act : Act = pair_act joins a b in
      let opposite : Act = pair_act (not joins) a b in
      let x : Record = edited i act r in
      let allowed : Allowed r = (read_is bytes r [] e).0 in
      let right : Right v = allowed_right r allowed i m.there in
      let here : view_at x i ≡ after act v = edited_here i act r m.there in
      let same : edited i opposite x ≡ with_view r i (narrowed v) = edited_twice i act opposite r m.there ∙ ap (with_view r i) (pair_back joins a b v right g.passes) in
      rw w
      (order_limited (pair_order view n a b (not joins)) (write x) (read_there x (order_keeps (pair_order view n a b joins) i r allowed g)) (edited_means i act r m)
      (ap count here ∙ ap length (pair_lines joins a b v) ∙ g.count) (rw here (opposite_passes joins a b v right g.passes))
      ∙ ap limited same ∙ pick_yes (leb (size (with_view r i (narrowed v))) most_bytes) _ _ (le→leb _ most_bytes (narrowed_small r allowed i m.there)))

  -- a view that had its least width is what it was
  pub pair_undone_same : All Byte bytes → LeastWide (view_at r i) → order (pair_order view n a b (not joins)) first ≡ given bytes
  pair_undone_same f least =
      let v : View = view_at r i in
      let same : narrowed v ≡ v = ap (λ (o : Option Index). record { head = v.head; lines = v.lines; index = o; segments = v.segments }) (already v.index least) in
      pair_undone ∙ ap (λ (x : Record). given (write x)) (ap (with_view r i) same ∙ same_record r i) ∙ ap given (sym (read_back bytes r [] f e).1)
    where
      already : (o : Option Index) → ((x : Index) → o ≡ some x → x.width ≡ least_width x.lists) → map index_of (map (λ x. x.lists) o) ≡ o
      already none k = refl
      already (some x) k = ap (λ (w : ℕ). some (record { width = w; lists = x.lists })) (sym (k x refl))
