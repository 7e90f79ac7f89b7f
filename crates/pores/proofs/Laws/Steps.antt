-- What code that walks over elements goes by: reading a list, or a distance, is reading its first part and then the rest in the same
-- way. The bound on how many there are drops out: there are never more than bits.
use mathlib.Core.Path.{◌≡◌, refl, sym, ap, ◌∙◌}
use Prim.Native.Nat.{ℕ, zero, suc, ◌+◌, ◌*◌, ◌≤◌, ◌<◌}
use native.Mathlib.Omega.{arith}
use mathlib.Core.Bool.{Bool, true, false}
use mathlib.Core.List.{List, [], ◌∷◌}
use lib.ListN.{length, length-append}
use lib.Dec.{T, eqb, leb→le, leb-suc-zero}
use Rattle.bits.specs.Choice.{pick}
use Rattle.bits.specs.ChoiceLaws.{pick_yes}
use Rattle.bits.specs.Bits.{Bits, number_of_bits, bits_of_number}
use Rattle.bits.specs.BitsLaws.{length_bits}
use Rattle.bits.specs.Codec.{Read, got, refused, next, Codec, via_dec, only_dec}
use Rattle.outcome.specs.Refusals.{bad_pores}
use Rattle.pores_elements.specs.Before.{until_dec}
use Rattle.pores_elements.specs.Element.{ones, most, element, run_dec, distance_of}
use Rattle.pores_elements.proofs.ElementLaws.{distance}

-- two ways to go on that agree on what is read
pub next_same : {S A B : Type 0} (o : Read S A) (f g : A → List S → Read S B) → ((a : A) (r : List S) → o ≡ got a r → f a r ≡ g a r) → next o f ≡ next o g
next_same (got a r) f g h = h a r refl
next_same (refused e l) f g h = refl

-- ---- until

module _ {A : Type 0} (c : Codec Bool A) (stop : Bits → Bool) (bad : ℕ) (some_bits : (x : A) → c.Fits x → 0 < length (c.enc x)) (ends : T (stop [])) where
  read_less : (s : Bits) (x : A) (r : Bits) → c.dec s ≡ got x r → length r < length s
  read_less s x r e =
      let (f, g) = c.back s x r e in
      omega (arith, ap length g ∙ length-append (c.enc x) r, some_bits x f)

  until_same : (n m : ℕ) (s : Bits) → length s ≤ n → length s ≤ m → until_dec c stop bad n s ≡ until_dec c stop bad m s
  until_same zero zero s l k = refl
  until_same zero (suc m) [] l k = pick_yes (stop []) _ _ ends ∙ sym (pick_yes (stop []) _ _ ends)
  until_same (suc n) zero [] l k = pick_yes (stop []) _ _ ends ∙ sym (pick_yes (stop []) _ _ ends)
  until_same zero (suc m) (b ∷ s) l k = absurd (omega arith)
  until_same (suc n) zero (b ∷ s) l k = absurd (omega arith)
  until_same (suc n) (suc m) s l k =
      ap (pick (stop s) (got [] s))
      (next_same (c.dec s) _ _ λ x r e.
      let h : length r < length s = read_less s x r e in
      ap (λ (o : Read Bool (List A)). next o (λ xs q. got (x ∷ xs) q)) (until_same n m r (omega arith) (omega arith)))

  pub until_step : (s : Bits)
      → until_dec c stop bad (length s) s ≡ pick (stop s) (got [] s) (next (c.dec s) (λ x r. next (until_dec c stop bad (length r) r) (λ xs q. got (x ∷ xs) q)))
  until_step s =
      until_same (length s) (suc (length s)) s (omega arith) (omega arith)
      ∙ ap (pick (stop s) (got [] s))
      (next_same (c.dec s) _ _ λ x r e.
      let h : length r < length s = read_less s x r e in
      ap (λ (o : Read Bool (List A)). next o (λ xs q. got (x ∷ xs) q)) (until_same (length s) (length r) r (omega arith) (omega arith)))

-- ---- distance

element_less : (e : ℕ) (s : Bits) (x : ℕ) (r : Bits) → (element e).dec s ≡ got x r → length r < length s
element_less zero s x r d = let f = ((element 0).back s x r d).0 in absurd (omega (arith, f.0, leb→le 1 x f.1))
element_less (suc e) s x r d = omega (arith, ap length ((element (suc e)).back s x r d).1 ∙ length-append (bits_of_number (suc e) x) r, length_bits (suc e) x)

element_none : (e : ℕ) → (element e).dec [] ≡ refused bad_pores 0
unfolding only_dec number_of_bits
element_none zero = refl
element_none (suc e) = rw (leb-suc-zero e)

-- one element more of all ones
abbrev again : Read Bool (ℕ × ℕ) → Read Bool (ℕ × ℕ)
again o = next o (λ t q. got (suc t.0, t.1) q)

run_same : (e n m : ℕ) (s : Bits) → length s ≤ n → length s ≤ m → run_dec e n s ≡ run_dec e m s
run_same e zero zero s l k = refl
run_same e zero (suc m) [] l k = rw (element_none e)
run_same e (suc n) zero [] l k = rw (element_none e)
run_same e zero (suc m) (b ∷ s) l k = absurd (omega arith)
run_same e (suc n) zero (b ∷ s) l k = absurd (omega arith)
run_same e (suc n) (suc m) s l k =
    next_same ((element e).dec s) _ _ λ x r d.
    let h : length r < length s = element_less e s x r d in
    ap (λ (o : Read Bool (ℕ × ℕ)). pick (eqb x (ones e)) (again o) (got (0, x) r)) (run_same e n m r (omega arith) (omega arith))

run_step : (e : ℕ) (s : Bits) → run_dec e (length s) s ≡ next ((element e).dec s) (λ x r. pick (eqb x (ones e)) (again (run_dec e (length r) r)) (got (0, x) r))
run_step e s =
    run_same e (length s) (suc (length s)) s (omega arith) (omega arith)
    ∙ next_same ((element e).dec s) _ _ λ x r d.
    let h : length r < length s = element_less e s x r d in
    ap (λ (o : Read Bool (ℕ × ℕ)). pick (eqb x (ones e)) (again o) (got (0, x) r)) (run_same e (length s) (length r) r (omega arith) (omega arith))

-- all ones add what passes to the distance that follows them; any other element is the distance
pub distance_step : (e : ℕ) (s : Bits)
    → (distance e).dec s ≡ next ((element e).dec s) (λ x r. pick (eqb x (ones e)) (next ((distance e).dec r) (λ d q. got (most e + d) q)) (got x r))
unfolding via_dec
distance_step e s = ap measured (run_step e s) ∙ go ((element e).dec s)
  where
    measured : Read Bool (ℕ × ℕ) → Read Bool ℕ
    measured o = next o (λ t q. got (distance_of e t) q)

    over : (x : ℕ) (r : Bits) (b : Bool) (o : Read Bool (ℕ × ℕ))
        → measured (pick b (again o) (got (0, x) r)) ≡ pick b (next (measured o) (λ d q. got (most e + d) q)) (got x r)
    over x r true (got t q) = let z : suc t.0 * most e + t.1 ≡ most e + (t.0 * most e + t.1) = omega arith in ap (λ (n : ℕ). got n q) z
    over x r true (refused n l) = refl
    over x r false o = let z : 0 * most e + x ≡ x = omega arith in ap (λ (n : ℕ). got n r) z

    go : (o : Read Bool ℕ)
        → measured (next o (λ x r. pick (eqb x (ones e)) (again (run_dec e (length r) r)) (got (0, x) r)))
        ≡ next o (λ x r. pick (eqb x (ones e)) (next (measured (run_dec e (length r) r)) (λ d q. got (most e + d) q)) (got x r))
    go (got x r) = over x r (eqb x (ones e)) (run_dec e (length r) r)
    go (refused n l) = refl
