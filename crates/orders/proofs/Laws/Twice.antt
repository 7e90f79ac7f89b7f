-- A removal behind another: which lines are left, by their numbers before both; how neighbours are numbered twice; and what the two
-- leave of a view, which is what one removal of all their lines leaves.
use mathlib.Core.Path.{◌≡◌, refl, sym, ap, ap₂, ◌∙◌}
use mathlib.Core.Logic.{◌≢◌}
use Prim.Native.Nat.{ℕ, suc, ◌+◌, ◌<◌}
use native.Mathlib.Omega.{arith}
use mathlib.Core.Bool.{Bool, true, false, ◌||◌}
use mathlib.Core.Option
use mathlib.Core.Option.{Option, none, some}
use mathlib.Core.List.{List, [], ◌∷◌, map}
use lib.ListN.{length, get_or, length-map}
use lib.Dec.{T}
use Rattle.bits.specs.Choice.{pick}
use Rattle.bits.specs.ChoiceLaws.{eqb_false}
use Rattle.bits.specs.Lists.{All}
use Rattle.bits.specs.ListsLaws.{map_at}
use Rattle.format.specs.Line.{Line}
use Rattle.format.specs.Segments.{Segment}
use Rattle.format.specs.View.{View}
use Rattle.format.specs.Places.{count, no_line, line_at}
use Rattle.pores.specs.Keep.{keep_segments, all_pores_right}
use Rattle.pores.proofs.Laws.Keep.{maps_twice, keep_twice}
use Rattle.orders.specs.Survive.{elem, at, up_from, without, survivors, place, cons?, renumber, RisesFrom}
use Rattle.orders.specs.Least.{index_of}
use Rattle.orders.specs.Act.{remove, lists, new_lists, new_lines, new_segments, after}
use Rattle.orders.proofs.Laws.Survive.{at_eqb, survivors_rise, survivors_below, place_at, renumber_elem}
use Rattle.orders.proofs.Laws.Near.{head_after, segments_after, lines_after, index_after, lists_after_lem}

-- ---- the lines that are left

without_both : (rs ss both : List ℕ) → ((line : ℕ) → elem line both ≡ elem line rs || elem line ss) → (is : List ℕ)
    → without ss (without rs is) ≡ without both is
without_both rs ss both h [] = refl
without_both rs ss both h (i ∷ is) = rw (h i) (go (without_both rs ss both h is) (elem i rs))
  where
    go : without ss (without rs is) ≡ without both is → (a : Bool)
        → without ss (pick a (without rs is) (i ∷ without rs is)) ≡ pick (a || elem i ss) (without both is) (i ∷ without both is)
    go ih true = ih
    go ih false = ap (λ (xs : List ℕ). pick (elem i ss) xs (i ∷ xs)) ih

-- numbers from p on, of which f tells the elements of a list: those without some are the elements without theirs
without_told : (f : ℕ → ℕ) (rs ss : List ℕ) (p : ℕ) (xs : List ℕ) → ((q : ℕ) → q < length xs → f (p + q) ≡ at xs q)
    → ((q : ℕ) → q < length xs → elem (p + q) rs ≡ elem (at xs q) ss) → map f (without rs (up_from p (length xs))) ≡ without ss xs
without_told f rs ss p [] h e = refl
without_told f rs ss p (x ∷ xs) h e =
    let z : p + 0 ≡ p = omega arith in
    let first : f p ≡ x = rw z at (h 0 (omega arith)) in
    let named : elem p rs ≡ elem x ss = rw z at (e 0 (omega arith)) in
    let ih : map f (without rs (up_from (suc p) (length xs))) ≡ without ss xs =
    without_told f rs ss (suc p) xs (λ q l. let y : p + suc q ≡ suc p + q = omega arith in rw y at (h (suc q) (omega arith)))
    (λ q l. let y : p + suc q ≡ suc p + q = omega arith in rw y at (e (suc q) (omega arith))) in
    rw named (go first ih (elem x ss))
  where
    go : f p ≡ x → map f (without rs (up_from (suc p) (length xs))) ≡ without ss xs → (b : Bool)
        → map f (pick b (without rs (up_from (suc p) (length xs))) (p ∷ without rs (up_from (suc p) (length xs)))) ≡ pick b (without ss xs) (x ∷ without ss xs)
    go d ih true = ih
    go d ih false = ap₂ (λ (y : ℕ) (ys : List ℕ). y ∷ ys) d ih

-- behind both, by their numbers before the first
left_twice : (n : ℕ) (rs ss both : List ℕ) → ((line : ℕ) → elem line both ≡ elem line rs || elem line ss)
    → map (at (survivors n rs)) (survivors (length (survivors n rs)) (renumber (survivors n rs) ss)) ≡ survivors n both
left_twice n rs ss both h =
    let ks : List ℕ = survivors n rs in
    without_told (at ks) (renumber ks ss) ss 0 ks (λ q l. let z : 0 + q ≡ q = omega arith in rw z)
    (λ q l. let z : 0 + q ≡ q = omega arith in rw z (renumber_elem 0 ks q ss (survivors_rise n rs) l))
    ∙ without_both rs ss both h (up_from 0 n)

-- ---- neighbours

module _ (ks js : List ℕ) (rises : RisesFrom 0 ks) where
  place_twice : (xs : List ℕ) (j : ℕ) → All (λ x. x < length ks) xs → j < length ks → place (map (at ks) xs) (at ks j) ≡ place xs j
  place_twice [] j l k = refl
  place_twice (x ∷ xs) j l k = rw (at_eqb 0 ks rises x j l.0 k, place_twice xs j l.1 k)

  place_gone : (xs : List ℕ) (n : ℕ) → All (λ x. x < length ks) xs → ((q : ℕ) → q < length ks → at ks q ≢ n) → place (map (at ks) xs) n ≡ none
  place_gone [] n l d = refl
  place_gone (x ∷ xs) n l d = rw (eqb_false (at ks x) n (d x l.0), place_gone xs n l.1 d)

  module _ (less : All (λ x. x < length ks) js) where
    renumber_twice : (ns : List ℕ) → renumber js (renumber ks ns) ≡ renumber (map (at ks) js) ns
    renumber_twice [] = refl
    renumber_twice (n ∷ ns) =
        let ih : renumber js (renumber ks ns) ≡ renumber (map (at ks) js) ns = renumber_twice ns in
        place_at ks n (λ p d. rw (p, place_gone js n less d) ih)
        (λ j p k e. rw (p, ← e, place_twice js j less k) (ap (cons? (place js j)) ih))

    lists_twice : (ls : List (List ℕ)) → map (λ i. renumber js (get_or (map (λ i. renumber ks (get_or ls i [])) ks) i [])) js
        ≡ map (λ i. renumber (map (at ks) js) (get_or ls i [])) (map (at ks) js)
    lists_twice ls =
        maps_twice (λ i. renumber js (get_or (map (λ i. renumber ks (get_or ls i [])) ks) i [])) (λ i. renumber (map (at ks) js) (get_or ls i []))
        (at ks) (length ks) js less
        (λ j k. ap (renumber js) (map_at (λ i. renumber ks (get_or ls i [])) ks j 0 [] k) ∙ renumber_twice (get_or ls (at ks j) []))

-- ---- the view

pub equal_views : (u v : View) → u.head ≡ v.head → u.lines ≡ v.lines → u.index ≡ v.index → u.segments ≡ v.segments → u ≡ v
equal_views u v h l x g = λ i. record { head = h i; lines = l i; index = x i; segments = g i }

pub count_removed : (v : View) (rs : List ℕ) → count (after (remove rs) v) ≡ length (survivors (count v) rs)
count_removed v rs = ap length (lines_after (remove rs) v) ∙ length-map (survivors (count v) rs) (line_at v)

module _ (v : View) (rs ss both : List ℕ) (h : (line : ℕ) → elem line both ≡ elem line rs || elem line ss) where
  abbrev n : ℕ
  n = count v

  abbrev ks : List ℕ
  ks = survivors n rs

  abbrev cs : List ℕ
  cs = renumber ks ss

  abbrev js : List ℕ
  js = survivors (length ks) cs

  -- after the first
  abbrev u : View
  u = after (remove rs) v

  lines_two : new_lines (remove cs) u ≡ new_lines (remove both) v
  lines_two =
      ap (λ (xs : List Line). map (λ i. get_or xs i no_line) (survivors (length xs) cs)) (lines_after (remove rs) v)
      ∙ ap (λ (k : ℕ). map (λ i. get_or (map (line_at v) ks) i no_line) (survivors k cs)) (length-map ks (line_at v))
      ∙ maps_twice (λ i. get_or (map (line_at v) ks) i no_line) (line_at v) (at ks) (length ks) js (survivors_below (length ks) cs)
      (λ j k. map_at (line_at v) ks j 0 no_line k)
      ∙ ap (map (line_at v)) (left_twice n rs ss both h)

  new_twice : (ls : List (List ℕ)) → new_lists (remove cs) (length ks) (new_lists (remove rs) n ls) ≡ new_lists (remove both) n ls
  new_twice ls =
      lists_twice ks js (survivors_rise n rs) (survivors_below (length ks) cs) ls
      ∙ ap (λ (xs : List ℕ). map (λ i. renumber xs (get_or ls i [])) xs) (left_twice n rs ss both h)

  lists_two : lists (after (remove cs) u) ≡ lists (after (remove both) v)
  lists_two =
      lists_after_lem (remove cs) u
      ∙ ap₂ (λ (k : ℕ) (o : Option (List (List ℕ))). Option.map (new_lists (remove cs) k) o) (count_removed v rs) (lists_after_lem (remove rs) v)
      ∙ go (lists v) ∙ sym (lists_after_lem (remove both) v)
    where
      go : (o : Option (List (List ℕ))) → Option.map (new_lists (remove cs) (length ks)) (Option.map (new_lists (remove rs) n) o) ≡ Option.map (new_lists (remove both) n) o
      go none = refl
      go (some ls) = ap some (new_twice ls)

  segments_two : T (all_pores_right n v.segments) → new_segments (remove cs) u ≡ new_segments (remove both) v
  segments_two right =
      ap₂ (λ (k : ℕ) (gs : List Segment). keep_segments k (survivors k cs) gs) (count_removed v rs) (segments_after (remove rs) v)
      ∙ keep_twice n ks js v.segments (survivors_below n rs) (survivors_below (length ks) cs) right
      ∙ ap (λ (xs : List ℕ). keep_segments n xs v.segments) (left_twice n rs ss both h)

  -- two removals leave what one leaves
  pub removed_twice : T (all_pores_right n v.segments) → after (remove cs) u ≡ after (remove both) v
  removed_twice right =
      equal_views (after (remove cs) u) (after (remove both) v) (head_after (remove cs) u ∙ head_after (remove rs) v ∙ sym (head_after (remove both) v))
      (lines_after (remove cs) u ∙ lines_two ∙ sym (lines_after (remove both) v))
      (index_after (remove cs) u ∙ ap (Option.map index_of) lists_two ∙ sym (index_after (remove both) v))
      (segments_after (remove cs) u ∙ segments_two right ∙ sym (segments_after (remove both) v))
