-- Elements of what is read, counted value by value. Counting up to a bound in each step is counting up to it once.
use mathlib.Core.Path.{◌≡◌, refl, ap, ◌∙◌}
use Prim.Native.Nat.{ℕ, suc, ◌+◌}
use native.Mathlib.Omega.{arith}
use mathlib.Core.Option.{none}
use mathlib.Core.List.{List, ◌∷◌}
use Rattle.bits.specs.Lists.{total}
use Rattle.bits.specs.Codec.{Read, got, refused, next, value_of, times_dec, Codec}
use Rattle.bits.specs.Reads.{keeping}
use Rattle.bits.proofs.Laws.Loops.{keeping_same, keeping_cons}
use Rattle.pores_numbers.specs.Judged.{counted}

-- the elements of values that are read, behind t others
abbrev pub sums : {S A : Type 0} → (A → ℕ) → ℕ → Read S (List A) → Read S ℕ
sums f t o = keeping (λ xs. counted (t + total f xs)) o

module _ {S A : Type 0} (c : Codec S A) (f : A → ℕ) (t n : ℕ) (s : List S) where
  pub sums_next : {x : A} {r : List S} → c.dec s ≡ got x r → sums f t (times_dec c (suc n) s) ≡ sums f (counted (t + f x)) (times_dec c n r)
  sums_next {x} {r} e =
      ap (λ (o : Read S A). sums f t (next o (λ y q. next (times_dec c n q) (λ ys v. got (y ∷ ys) v)))) e ∙ keeping_cons _ x (times_dec c n r)
      ∙ keeping_same _ _ (times_dec c n r) (λ ys. omega arith)

  pub sums_none : value_of (c.dec s) ≡ none → value_of (sums f t (times_dec c (suc n) s)) ≡ none
  sums_none e = go (c.dec s) e
    where
      go : (o : Read S A) → value_of o ≡ none → value_of (sums f t (next o (λ y q. next (times_dec c n q) (λ ys v. got (y ∷ ys) v)))) ≡ none
      go (got y q) h = let z : ◌≡◌ {A = ℕ} 0 1 = cc in absurd (omega arith)
      go (refused d l) h = refl

-- what was counted was read
pub record Counted {S A : Type 0} (f : A → ℕ) (t : ℕ) (o : Read S (List A)) (u : ℕ) (r : List S) : Type 0 where
  pub value : List A
  pub is : o ≡ got value r
  pub elements : u ≡ counted (t + total f value)

pub sums_got : {S A : Type 0} (f : A → ℕ) (t : ℕ) (o : Read S (List A)) {u : ℕ} {r : List S} → sums f t o ≡ got u r → Counted f t o u r
sums_got f t (got xs q) {u} {r} h =
    let a : q ≡ r = cc in
    let b : counted (t + total f xs) ≡ u = cc in
    record { value = xs; is = ap (got xs) a; elements = omega (arith, b) }
sums_got f t (refused e l) h = let z : ◌≡◌ {A = ℕ} 0 1 = cc in absurd (omega arith)

pub none_sums : {S A : Type 0} (f : A → ℕ) (t : ℕ) (o : Read S (List A)) → value_of (sums f t o) ≡ none → value_of o ≡ none
none_sums f t (got xs q) h = let z : ◌≡◌ {A = ℕ} 0 1 = cc in absurd (omega arith)
none_sums f t (refused e l) h = refl
