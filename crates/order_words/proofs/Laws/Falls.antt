-- A falling list is told by what is in it: it is the numbers, from the highest down, that it has. So a line's list after some words
-- falls, and after none it is the old one.
use mathlib.Core.Path.{◌≡◌, refl, sym, ap, ◌∙◌}
use Prim.Native.Nat.{ℕ, zero, suc, ◌+◌, ◌≤◌, ◌<◌}
use native.Mathlib.Omega.{arith}
use mathlib.Core.Bool.{Bool, false, ◌||◌}
use mathlib.Core.List.{List, [], ◌∷◌}
use lib.Dec.{eqb}
use Rattle.bits.specs.ChoiceLaws.{pick_case, eqb_true, eqb_false, eq_split}
use Rattle.differences.specs.Differences.{Falls}
use Rattle.orders.specs.Act.{Word}
use Rattle.orders.specs.Survive.{elem}
use Rattle.orders.specs.History.{said}
use Rattle.order_words.specs.After.{down_from, lines_below, list_after}

-- ---- the numbers below b that pass

-- only what the test says of these counts
pub down_same : (b : ℕ) (f g : ℕ → Bool) → ((x : ℕ) → x < b → f x ≡ g x) → down_from b f ≡ down_from b g
down_same zero f g h = refl
down_same (suc b) f g h =
    let ih : down_from b f ≡ down_from b g = down_same b f g (λ x l. h x (omega arith)) in
    rw (h b (omega arith), ih)

-- those that do not pass are passed over
pub down_skip : (c d : ℕ) (f : ℕ → Bool) → ((x : ℕ) → c ≤ x → x < c + d → f x ≡ false) → down_from (c + d) f ≡ down_from c f
down_skip c zero f h = let e : c + 0 ≡ c = omega arith in rw e
down_skip c (suc d) f h =
    let e : c + suc d ≡ suc (c + d) = omega arith in
    rw (e, h (c + d) (omega arith) (omega arith)) (down_skip c d f (λ x l k. h x l (omega arith)))

pub falls_up : (c : ℕ) (ns : List ℕ) → Falls 1 c ns → Falls 1 (suc c) ns
falls_up c [] h = tt
falls_up c (n ∷ ns) h = (omega arith, h.1)

down_falls : (b : ℕ) (f : ℕ → Bool) → Falls 1 b (down_from b f)
down_falls zero f = tt
down_falls (suc b) f =
    let ih : Falls 1 b (down_from b f) = down_falls b f in
    pick_case (Falls 1 (suc b)) (f b) _ _ (λ t. (omega arith, ih)) (λ t. falls_up b (down_from b f) ih)

-- ---- a falling list

pub not_in : (b x : ℕ) (ns : List ℕ) → Falls 1 b ns → b ≤ x → elem x ns ≡ false
not_in b x [] h l = refl
not_in b x (n ∷ ns) h l = rw (eqb_false x n (omega arith)) (not_in n x ns h.1 (omega arith))

falls_down : (b : ℕ) (ns : List ℕ) → Falls 1 b ns → down_from b (λ x. elem x ns) ≡ ns
falls_down zero [] h = refl
falls_down zero (n ∷ ns) h = absurd (omega arith)
falls_down (suc b) [] h = falls_down b [] tt
falls_down (suc b) (n ∷ ns) h =
    eq_split n b
    (λ e. rw (eqb_true b n (sym e))
    (ap (λ (l : List ℕ). b ∷ l) (down_same b (λ x. eqb x n || elem x ns) (λ x. elem x ns) (λ x l. rw (eqb_false x n (omega arith)))
    ∙ falls_down b ns (rw e at h.1)) ∙ rw e))
    (λ d. rw (not_in b b (n ∷ ns) (omega arith, h.1) (omega arith)) (falls_down b (n ∷ ns) (omega arith, h.1)))

-- ---- line l's list

-- it falls from l on, which is as one below l + 1
pub falls_suc : (l : ℕ) (ns : List ℕ) → Falls 0 l ns → Falls 1 (suc l) ns
falls_suc l [] h = tt
falls_suc l (n ∷ ns) h = (omega arith, h.1)

suc_falls : (l : ℕ) (ns : List ℕ) → Falls 1 (suc l) ns → Falls 0 l ns
suc_falls l [] h = tt
suc_falls l (n ∷ ns) h = (omega arith, h.1)

-- by the test that says what is in it
pub falls_is : (l : ℕ) (ns : List ℕ) (f : ℕ → Bool) → Falls 0 l ns → ((x : ℕ) → x ≤ l → elem x ns ≡ f x) → ns ≡ down_from (suc l) f
falls_is l ns f h e =
    sym (falls_down (suc l) ns (falls_suc l ns h)) ∙ down_same (suc l) (λ x. elem x ns) f (λ x k. e x (omega arith))

module _ (hs : List Word) (l : ℕ) (ns : List ℕ) where
  -- after the words
  pub list_falls : Falls 0 l (list_after hs l ns)
  unfolding list_after
  list_falls = suc_falls l (lines_below hs l (suc l) ns) (down_falls (suc l) (λ x. said hs l x (elem x ns)))

  pub list_is : (ms : List ℕ) → Falls 0 l ms → ((x : ℕ) → x ≤ l → elem x ms ≡ said hs l x (elem x ns)) → ms ≡ list_after hs l ns
  unfolding list_after
  list_is ms f e = falls_is l ms (λ x. said hs l x (elem x ns)) f e

-- no words leave it as it is
pub list_none : (l : ℕ) (ns : List ℕ) → Falls 0 l ns → list_after [] l ns ≡ ns
list_none l ns f = sym (list_is [] l ns ns f (λ x k. refl))
