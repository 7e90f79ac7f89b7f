-- The laws of All, Along, every and sums: how what holds of a list is taken apart and put together, also by places.
use Rattle.std.specs.Prelude.{◌≡◌, refl, ℕ, zero, suc, ◌+◌, ◌-◌, ◌<◌, Bool, true, false, List, [], ◌∷◌, ◌++◌, map, length, take, drop, get_or, set, T}
use Rattle.std.proofs.Common.{sym, ap, ◌∙◌, arith, add-one, length-drop, take-suc, drop-cons}
use Rattle.std.proofs.Math.Option
use Rattle.std.proofs.Math.Option.{Option, none, some}
use Rattle.std.proofs.Math.Facts.{and_yes, yes_and}
use Rattle.bits.specs.Lists.{All, Along, all_true, empty?, every, total}

-- ---- All

pub all_front : {A : Type 0} (P : A → Type 0) (xs ys : List A) → All P (xs ++ ys) → All P xs
all_front P [] ys h = tt
all_front P (x ∷ xs) ys h = (h.0, all_front P xs ys h.1)

pub all_rest : {A : Type 0} (P : A → Type 0) (xs ys : List A) → All P (xs ++ ys) → All P ys
all_rest P [] ys h = h
all_rest P (x ∷ xs) ys h = all_rest P xs ys h.1

pub all_append : {A : Type 0} (P : A → Type 0) (xs ys : List A) → All P xs → All P ys → All P (xs ++ ys)
all_append P [] ys a b = b
all_append P (x ∷ xs) ys a b = (a.0, all_append P xs ys a.1 b)

pub all_at : {A : Type 0} (P : A → Type 0) (d : A) (xs : List A) (p : ℕ) → p < length xs → All P xs → P (get_or xs p d)
all_at P d [] p l h = absurd (omega arith)
all_at P d (x ∷ xs) zero l h = h.0
all_at P d (x ∷ xs) (suc p) l h = all_at P d xs p (omega arith) h.1

-- and what holds at each place holds of all
pub at_all : {A : Type 0} (P : A → Type 0) (d : A) (xs : List A) → ((p : ℕ) → p < length xs → P (get_or xs p d)) → All P xs
at_all P d [] f = tt
at_all P d (x ∷ xs) f = (f 0 (omega arith), at_all P d xs (λ p l. f (suc p) (omega arith)))

pub all_set : {A : Type 0} (P : A → Type 0) (xs : List A) (p : ℕ) (y : A) → P y → All P xs → All P (set xs p y)
all_set P [] p y h a = tt
all_set P (x ∷ xs) zero y h a = (h, a.1)
all_set P (x ∷ xs) (suc p) y h a = (a.0, all_set P xs p y h a.1)

pub all_map : {A B : Type 0} (P : B → Type 0) (Q : A → Type 0) (f : A → B) (xs : List A) → ((x : A) → Q x → P (f x)) → All Q xs → All P (map f xs)
all_map P Q f [] h a = tt
all_map P Q f (x ∷ xs) h a = (h x a.0, all_map P Q f xs h a.1)

pub map_all : {A B : Type 0} (P : A → Type 0) (Q : B → Type 0) (f : A → B) (xs : List A) → ((x : A) → Q (f x) → P x) → All Q (map f xs) → All P xs
map_all P Q f [] h a = tt
map_all P Q f (x ∷ xs) h a = (h x a.0, map_all P Q f xs h a.1)

pub map_at : {A B : Type 0} (f : A → B) (l : List A) (n : ℕ) (d : A) (e : B) → n < length l → get_or (map f l) n e ≡ f (get_or l n d)
map_at f [] n d e h = absurd (omega arith)
map_at f (x ∷ xs) zero d e h = refl
map_at f (x ∷ xs) (suc n) d e h = map_at f xs n d e (omega arith)

-- changed element by element
pub all_to : {A : Type 0} (P Q : A → Type 0) (xs : List A) → ((x : A) → P x → Q x) → All P xs → All Q xs
all_to P Q [] f h = tt
all_to P Q (x ∷ xs) f h = (f x h.0, all_to P Q xs f h.1)

pub all_both : {A : Type 0} (P Q R : A → Type 0) (xs : List A) → ((x : A) → P x → Q x → R x) → All P xs → All Q xs → All R xs
all_both P Q R [] f h k = tt
all_both P Q R (x ∷ xs) f h k = (f x h.0 k.0, all_both P Q R xs f h.1 k.1)

-- ---- Along

module _ {I A : Type 0} (m : I → A → I) where
  pub along_map : (P Q : I → A → Type 0) (i : I) (xs : List A) → ((j : I) (x : A) → P j x → Q j x) → Along m P i xs → Along m Q i xs
  along_map P Q i [] f h = tt
  along_map P Q i (x ∷ xs) f h = (f i x h.0, along_map P Q (m i x) xs f h.1)

  pub along_both : (P Q R : I → A → Type 0) (i : I) (xs : List A) → ((j : I) (x : A) → P j x → Q j x → R j x) → Along m P i xs → Along m Q i xs → Along m R i xs
  along_both P Q R i [] f h k = tt
  along_both P Q R i (x ∷ xs) f h k = (f i x h.0 k.0, along_both P Q R (m i x) xs f h.1 k.1)

  -- where nothing is said, it is All
  pub all_along : (P : A → Type 0) (i : I) (xs : List A) → All P xs → Along m (λ j x. P x) i xs
  all_along P i [] h = tt
  all_along P i (x ∷ xs) h = (h.0, all_along P (m i x) xs h.1)

  pub along_all : (P : A → Type 0) (i : I) (xs : List A) → Along m (λ j x. P x) i xs → All P xs
  along_all P i [] h = tt
  along_all P i (x ∷ xs) h = (h.0, along_all P (m i x) xs h.1)

-- what holds along a list holds at each place, for what the elements before it say
pub along_at : {I A : Type 0} (m : I → A → I) (P : I → A → Type 0) (d : A) (i : I) (xs : List A) (p : ℕ) → p < length xs → Along m P i xs
    → (j : I) × P j (get_or xs p d)
along_at m P d i [] p l h = absurd (omega arith)
along_at m P d i (x ∷ xs) zero l h = (i, h.0)
along_at m P d i (x ∷ xs) (suc p) l h = along_at m P d (m i x) xs p (omega arith) h.1

-- along a list that counts up from n
module _ {A : Type 0} (P : ℕ → A → Type 0) (d : A) where
  pub along_up : (n : ℕ) (xs : List A) (p : ℕ) → p < length xs → Along (λ i x. suc i) P n xs → P (n + p) (get_or xs p d)
  along_up n [] p l h = absurd (omega arith)
  along_up n (x ∷ xs) zero l h = let e : n + 0 ≡ n = omega arith in rw e h.0
  along_up n (x ∷ xs) (suc p) l h = let e : n + suc p ≡ suc n + p = omega arith in rw e (along_up (suc n) xs p (omega arith) h.1)

  pub up_along : (n : ℕ) (xs : List A) → ((p : ℕ) → p < length xs → P (n + p) (get_or xs p d)) → Along (λ i x. suc i) P n xs
  up_along n [] f = tt
  up_along n (x ∷ xs) f =
      let e : n + 0 ≡ n = omega arith in
      (rw e at (f 0 (omega arith)), up_along (suc n) xs (λ p l. let z : n + suc p ≡ suc n + p = omega arith in rw z at (f (suc p) (omega arith))))

-- ---- every

pub every_yes : {A : Type 0} (t : A → Bool) (xs : List A) → All (λ x. T (t x)) xs → T (every t xs)
every_yes t [] h = tt
every_yes t (x ∷ xs) h = yes_and (t x) (every t xs) h.0 (every_yes t xs h.1)

pub yes_every : {A : Type 0} (t : A → Bool) (xs : List A) → T (every t xs) → All (λ x. T (t x)) xs
yes_every t [] h = tt
yes_every t (x ∷ xs) h = let (a, b) = and_yes (t x) (every t xs) h in (a, yes_every t xs b)

pub true_all : (ts : List Bool) → All T ts → T (all_true ts)
true_all ts h = every_yes (λ t. t) ts h

pub all_true_lem : (ts : List Bool) → T (all_true ts) → All T ts
all_true_lem ts h = yes_every (λ t. t) ts h

-- ---- empty?

pub empty_is : {A : Type 0} (xs : List A) → empty? xs ≡ true → xs ≡ []
empty_is [] e = refl
empty_is (x ∷ xs) e = let z : true ≡ false = cc in cc

-- ---- the rest of a list

-- the first of what is left behind n elements is at place n
pub first_left : {A : Type 0} (xs : List A) (n : ℕ) (d : A) {y : A} {ys : List A} → drop n xs ≡ y ∷ ys → (n < length xs) × (y ≡ get_or xs n d) × (ys ≡ drop (n + 1) xs)
first_left xs n d {y} {ys} e =
    let z : length xs - n ≡ suc (length ys) = sym (length-drop n xs) ∙ ap length e in
    let l : n < length xs = omega arith in
    let k : drop n xs ≡ get_or xs n d ∷ drop (n + 1) xs = drop-cons xs n d l ∙ ap (λ (j : ℕ). get_or xs n d ∷ drop j xs) (sym (add-one n)) in
    (l, cc, cc)

-- ---- total

module _ {A : Type 0} (f : A → ℕ) where
  pub total_append : (xs ys : List A) → total f (xs ++ ys) ≡ total f xs + total f ys
  total_append [] ys = omega arith
  total_append (x ∷ xs) ys = omega (arith, total_append xs ys)

  -- of one element more
  pub total_more : (xs : List A) (n : ℕ) (d : A) → n < length xs → total f (take (n + 1) xs) ≡ total f (take n xs) + f (get_or xs n d)
  total_more xs n d l =
      ap (λ (j : ℕ). total f (take j xs)) (add-one n) ∙ ap (total f) (take-suc xs n d l) ∙ total_append (take n xs) (get_or xs n d ∷ []) ∙ omega arith

-- ---- Option

-- what is mapped to a value was one
pub mapped : {A B X : Type 0} (f : A → B) (o : Option A) (b : B) → Option.map f o ≡ some b → ((a : A) → o ≡ some a → f a ≡ b → X) → X
mapped f none b e k = let z : ◌≡◌ {A = ℕ} 0 1 = cc in absurd (omega arith)
mapped f (some a) b e k = k a refl (cc)
