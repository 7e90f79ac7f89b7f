-- The lists of removals, renumbered. Of lines that are left, a list is right again by the places that they then have; and every right
-- list of these places comes of such lines. So a second removal is one of the first numbers.
use mathlib.Core.Path.{◌≡◌, refl, sym, ap, ◌∙◌}
use Prim.Native.Nat.{ℕ, zero, suc, ◌+◌, ◌≤◌, ◌<◌}
use native.Mathlib.Omega.{arith}
use mathlib.Core.Bool.{Bool, true, false, not, ◌&&◌, ◌||◌}
use mathlib.Core.List.{List, [], ◌∷◌, ◌++◌, map}
use lib.ListN.{length}
use lib.Dec.{T, leb, ltb, eqb, leb→le, le→leb, ltb→lt, lt→ltb, eqb→eq, T_not, not_T}
use mir.Facts.{and_yes, yes_and, yes_eqb}
use Rattle.bits.specs.ChoiceLaws.{pick_case, eqb_true, eqb_false, split, eq_split}
use Rattle.bits.specs.Lists.{All, empty?}
use Rattle.bits.specs.ListsLaws.{all_at, all_map, all_append}
use Rattle.orders.specs.Survive.{elem, at, up_from, without, survivors, renumber, RisesFrom}
use Rattle.orders.specs.Order.{rises_ok, lines_ok}
use Rattle.orders.specs.Split.{count_after, renumbered, Together}
use Rattle.orders.proofs.Laws.Survive.{rises_le, at_eqb, map_rises, survivors_rise, survivors_below, place_at}

-- ---- what a list has

elem_first : (x : ℕ) (xs : List ℕ) → T (elem x (x ∷ xs))
elem_first x xs = rw (eqb_true x x refl) tt

some_there : (x : ℕ) (xs : List ℕ) → T (elem x xs) → T (not (empty? xs))
some_there x [] v = absurd v
some_there x (y ∷ ys) v = tt

elem_found : {X : Type 0} (x : ℕ) (xs : List ℕ) → T (elem x xs) → ((q : ℕ) → q < length xs → at xs q ≡ x → X) → X
elem_found x [] t k = absurd t
elem_found x (y ∷ ys) t k =
    eq_split x y (λ e. k 0 (omega arith) (sym e)) (λ d. elem_found x ys (rw (eqb_false x y d) at t) (λ q l e. k (suc q) (omega arith) e))

elem_all : (P : ℕ → Type 0) (x : ℕ) (xs : List ℕ) → All P xs → T (elem x xs) → P x
elem_all P x [] h t = absurd t
elem_all P x (y ∷ ys) h t = eq_split x y (λ e. rw e h.0) (λ d. elem_all P x ys h.1 (rw (eqb_false x y d) at t))

elem_append : (x : ℕ) (rs ss : List ℕ) → elem x (rs ++ ss) ≡ elem x rs || elem x ss
elem_append x [] ss = refl
elem_append x (a ∷ rs) ss = ap (λ (b : Bool). eqb x a || b) (elem_append x rs ss) ∙ go (eqb x a)
  where
    go : (b : Bool) → b || (elem x rs || elem x ss) ≡ (b || elem x rs) || elem x ss
    go true = refl
    go false = refl

elem_up : (x i n : ℕ) → i ≤ x → x < i + n → T (elem x (up_from i n))
elem_up x i zero l h = absurd (omega arith)
elem_up x i (suc n) l h = eq_split x i (λ e. rw (eqb_true x i e) tt) (λ d. rw (eqb_false x i d) (elem_up x (suc i) n (omega arith) (omega arith)))

without_out : (rs xs : List ℕ) → All (λ x. T (not (elem x rs))) (without rs xs)
without_out rs [] = tt
without_out rs (x ∷ xs) = pick_case (All (λ x. T (not (elem x rs)))) (elem x rs) _ _ (λ t. without_out rs xs) (λ t. (t, without_out rs xs))

without_in : (x : ℕ) (rs xs : List ℕ) → T (elem x xs) → T (not (elem x rs)) → T (elem x (without rs xs))
without_in x rs [] t u = absurd t
without_in x rs (y ∷ xs) t u =
    eq_split x y
    (λ e. pick_case (λ (w : List ℕ). T (elem x w)) (elem y rs) _ _ (λ v. absurd (T_not (elem x rs) u (rw e v))) (λ v. rw (eqb_true x y e) tt))
    (λ d. let ih : T (elem x (without rs xs)) = without_in x rs xs (rw (eqb_false x y d) at t) u in
    pick_case (λ (w : List ℕ). T (elem x w)) (elem y rs) _ _ (λ v. ih) (λ v. rw (eqb_false x y d) ih))

not_not : (b : Bool) → (T (not b) → ⊥) → T b
not_not true f = tt
not_not false f = absurd (f tt)

same_test : (a b : Bool) → (T a → T b) → (T b → T a) → a ≡ b
same_test true true f g = refl
same_test true false f g = absurd (f tt)
same_test false true f g = absurd (g tt)
same_test false false f g = refl

-- ---- a right list: it has a line, rises, and is below n

rises_ok_lem : (m n : ℕ) (rs : List ℕ) → RisesFrom m rs → All (λ r. r < n) rs → T (rises_ok m n rs)
rises_ok_lem m n [] h l = tt
rises_ok_lem m n (r ∷ rs) h l =
    yes_and (leb m r && ltb r n) (rises_ok (suc r) n rs) (yes_and (leb m r) (ltb r n) (le→leb m r h.0) (lt→ltb r n l.0)) (rises_ok_lem (suc r) n rs h.1 l.1)

ok_rises : (m n : ℕ) (rs : List ℕ) → T (rises_ok m n rs) → RisesFrom m rs × All (λ r. r < n) rs
ok_rises m n [] t = (tt, tt)
ok_rises m n (r ∷ rs) t =
    let (a, b) = and_yes (leb m r && ltb r n) (rises_ok (suc r) n rs) t in
    let (c, d) = and_yes (leb m r) (ltb r n) a in
    let (h, l) = ok_rises (suc r) n rs b in
    ((leb→le m r c, h), (ltb→lt r n d, l))

lines_ok_lem : (n : ℕ) (rs : List ℕ) → T (not (empty? rs)) → RisesFrom 0 rs → All (λ r. r < n) rs → T (lines_ok n rs)
lines_ok_lem n rs t h l = yes_and (not (empty? rs)) (rises_ok 0 n rs) t (rises_ok_lem 0 n rs h l)

pub ok_lines : (n : ℕ) (rs : List ℕ) → T (lines_ok n rs) → T (not (empty? rs)) × RisesFrom 0 rs × All (λ r. r < n) rs
ok_lines n rs t = let (a, b) = and_yes (not (empty? rs)) (rises_ok 0 n rs) t in (a, (ok_rises 0 n rs b).0, (ok_rises 0 n rs b).1)

-- ---- lines by the places that they have among the ones that are left

renumber_rises : (ks : List ℕ) → RisesFrom 0 ks → (b m : ℕ) (ns : List ℕ) → ((j : ℕ) → j < length ks → b ≤ at ks j → m ≤ j) → RisesFrom b ns
    → RisesFrom m (renumber ks ns)
renumber_rises ks h b m [] f g = tt
renumber_rises ks h b m (n ∷ ns) f g =
    place_at ks n (λ p d. rw p (renumber_rises ks h (suc n) m ns (λ j l o. f j l (omega (arith, g.0))) g.1))
    (λ j p l e. rw p (
      f j l (omega (arith, g.0)),
      renumber_rises ks h (suc n) (suc j) ns (λ i k o. split i j (λ z. absurd (omega (arith, rises_le 0 ks h i j z l))) (λ z. z)) g.1,
    ))

renumber_below : (ks ns : List ℕ) → All (λ r. r < length ks) (renumber ks ns)
renumber_below ks [] = tt
renumber_below ks (n ∷ ns) = place_at ks n (λ p d. rw p (renumber_below ks ns)) (λ j p l e. rw p (l, renumber_below ks ns))

renumber_some : (n : ℕ) (rs ss : List ℕ) → T (not (empty? ss)) → All (λ r. r < n) ss → ((line : ℕ) → T (elem line rs) → T (not (elem line ss)))
    → T (not (empty? (renumber (survivors n rs) ss)))
renumber_some n rs [] t l d = absurd t
renumber_some n rs (b ∷ ss) t l d =
    let ks : List ℕ = survivors n rs in
    let out : T (not (elem b rs)) = not_T (elem b rs) (λ u. T_not (elem b (b ∷ ss)) (d b u) (elem_first b ss)) in
    place_at ks b (λ p e. elem_found b ks (without_in b rs (up_from 0 n) (elem_up b 0 n (omega arith) (omega (arith, l.0))) out) (λ q k y. absurd (e q k y))) (λ j p k e. rw p tt)

-- the list of a second removal is right
pub renumbered_ok : (n : ℕ) (rs ss both : List ℕ) → Together n rs ss both → T (lines_ok (count_after n rs) (renumbered n rs ss))
renumbered_ok n rs ss both t =
    let ks : List ℕ = survivors n rs in
    let (some, rises, below) = ok_lines n ss t.second in
    lines_ok_lem (length ks) (renumber ks ss) (renumber_some n rs ss some below t.apart)
    (renumber_rises ks (survivors_rise n rs) 0 0 ss (λ j l o. omega arith) rises) (renumber_below ks ss)

-- ---- every right list of the lines that are left is one of these

renumber_back : (ks cs : List ℕ) → RisesFrom 0 ks → All (λ c. c < length ks) cs → renumber ks (map (at ks) cs) ≡ cs
renumber_back ks [] h l = refl
renumber_back ks (c ∷ cs) h l =
    place_at ks (at ks c) (λ p d. absurd (d c l.0 refl)) λ j p k e.
    let z : j ≡ c = eqb→eq j c (rw (at_eqb 0 ks h j c k l.0) at (yes_eqb {a = at ks j} {b = at ks c} e)) in
    rw (p, z, renumber_back ks cs h l.1)

-- of n lines, those that stand in a list of some: the ones that a removal of the others leaves
abbrev in_order : ℕ → List ℕ → List ℕ
in_order n xs = survivors n (survivors n xs)

in_order_has : (n : ℕ) (xs : List ℕ) → All (λ x. x < n) xs → (x : ℕ) → elem x (in_order n xs) ≡ elem x xs
in_order_has n xs below x =
    same_test (elem x (in_order n xs)) (elem x xs)
    (λ t. let l : x < n = elem_all (λ y. y < n) x (in_order n xs) (survivors_below n (survivors n xs)) t in
    let u : T (not (elem x (survivors n xs))) = elem_all _ x (in_order n xs) (without_out (survivors n xs) (up_from 0 n)) t in
    not_not (elem x xs) (λ v. T_not (elem x (survivors n xs)) u (without_in x xs (up_from 0 n) (elem_up x 0 n (omega arith) (omega arith)) v)))
    (λ t. let l : x < n = elem_all (λ y. y < n) x xs below t in
    without_in x (survivors n xs) (up_from 0 n) (elem_up x 0 n (omega arith) (omega arith))
    (not_T (elem x (survivors n xs)) (λ u. T_not (elem x xs) (elem_all _ x (survivors n xs) (without_out xs (up_from 0 n)) u) t)))

pub second_list : (n : ℕ) (rs cs : List ℕ) → T (lines_ok n rs) → T (lines_ok (count_after n rs) cs)
    → (ss : List ℕ) × (both : List ℕ) × Together n rs ss both × (renumbered n rs ss ≡ cs)
second_list n [] cs t u = absurd t
second_list n (a ∷ rs) [] t u = absurd u
second_list n (a ∷ rs) (c ∷ cs) t u = (ss, in_order n ((a ∷ rs) ++ ss), together, renumber_back ks (c ∷ cs) rises right.2)
  where
    ks : List ℕ
    ks = survivors n (a ∷ rs)

    ss : List ℕ
    ss = map (at ks) (c ∷ cs)

    rises : RisesFrom 0 ks
    rises = survivors_rise n (a ∷ rs)

    right : T (not (empty? (c ∷ cs))) × RisesFrom 0 (c ∷ cs) × All (λ r. r < length ks) (c ∷ cs)
    right = ok_lines (length ks) (c ∷ cs) u

    below : All (λ r. r < n) ss
    below = all_map (λ r. r < n) (λ r. r < length ks) (at ks) (c ∷ cs) (λ x l. all_at (λ r. r < n) 0 ks x l (survivors_below n (a ∷ rs))) right.2

    out : All (λ r. T (not (elem r (a ∷ rs)))) ss
    out = all_map (λ r. T (not (elem r (a ∷ rs)))) (λ r. r < length ks) (at ks) (c ∷ cs) (λ x l. all_at (λ r. T (not (elem r (a ∷ rs)))) 0 ks x l (without_out (a ∷ rs) (up_from 0 n))) right.2

    all_below : All (λ r. r < n) ((a ∷ rs) ++ ss)
    all_below = all_append (λ r. r < n) (a ∷ rs) ss (ok_lines n (a ∷ rs) t).2 below

    together : Together n (a ∷ rs) ss (in_order n ((a ∷ rs) ++ ss))
    together =
        record {
          second = lines_ok_lem n ss tt (map_rises ks (c ∷ cs) rises right.1 right.2) below;
          once = lines_ok_lem n (in_order n ((a ∷ rs) ++ ss)) (some_there a (in_order n ((a ∷ rs) ++ ss)) (rw (in_order_has n ((a ∷ rs) ++ ss) all_below a) (elem_first a (rs ++ ss))))
              (survivors_rise n (survivors n ((a ∷ rs) ++ ss))) (survivors_below n (survivors n ((a ∷ rs) ++ ss)));
          apart = λ x s. not_T (elem x ss) (λ v. T_not (elem x (a ∷ rs)) (elem_all _ x ss out v) s);
          has = λ x. in_order_has n ((a ∷ rs) ++ ss) all_below x ∙ elem_append x (a ∷ rs) ss;
        }
