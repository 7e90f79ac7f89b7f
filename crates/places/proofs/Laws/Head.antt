-- A fault of a view's header is seen in the bits before its place and 16 from there on: where the number is at fault, it is so by the
-- position, the 8 bits behind it.
use mathlib.Core.Path.{◌≡◌, sym, ap, ◌∙◌}
use Prim.Native.Nat.{ℕ, ◌+◌, ◌^◌, ◌≤◌, ◌<◌}
use native.Mathlib.Omega.{arith}
use mathlib.Core.Bool.{Bool, not}
use mathlib.Core.Option.{Option, none, some}
use mathlib.Core.List.{◌++◌}
use lib.ListN.{length, take}
use lib.Dec.{T, leb, eqb}
use lib.Seq.{take_all, take-append-add}
use Rattle.bits.specs.Choice.{pick}
use Rattle.bits.specs.ChoiceLaws.{pick_yes, pick_no, pick_split}
use Rattle.bits.specs.Bits.{Bits, number_of_bits, bits_of_number}
use Rattle.bits.specs.BitsLaws.{length_bits, number_bits}
use Rattle.bits.specs.Codec.{Codec}
use Rattle.bits.specs.CodecLaws.{field, then}
use Rattle.bits.proofs.Laws.Full.{Full, field_full, then_full}
use Rattle.outcome.specs.Refusals.{bad_view}
use Rattle.format.specs.Parts.{impression_ok, head_fault}
use Rattle.places.specs.Reach.{reach}
use Rattle.places.proofs.Laws.Agree.{append_front, append_rest}
use Rattle.places.proofs.Laws.Shaped.{Seen}

abbrev pub four : ℕ → Codec Bool (ℕ × (ℕ × (ℕ × ℕ)))
four e = then (field e 8) λ _. then (field e 8) λ _. then (field e 8) λ _. field e 8

pub four_full : (e : ℕ) → Full (four e) 32
four_full e =
    then_full (field e 8) _ 8 24 (field_full e 8) λ _.
    then_full (field e 8) _ 8 16 (field_full e 8) λ _.
    then_full (field e 8) _ 8 8 (field_full e 8) λ _. field_full e 8

-- numbers of 8 bits whose bits are the same, and what follows them
first : (x y m : ℕ) (u v : Bits) → x < 2 ^ 8 → y < 2 ^ 8 → take (8 + m) (bits_of_number 8 x ++ u) ≡ take (8 + m) (bits_of_number 8 y ++ v)
    → (x ≡ y) × (take m u ≡ take m v)
first x y m u v f g e =
    let l : length (bits_of_number 8 x) ≡ 8 = length_bits 8 x in
    let k : length (bits_of_number 8 y) ≡ 8 = length_bits 8 y in
    let a : take (8 + m) (bits_of_number 8 x ++ u) ≡ bits_of_number 8 x ++ take m u = rw l at (take-append-add (bits_of_number 8 x) u m) in
    let b : take (8 + m) (bits_of_number 8 y ++ v) ≡ bits_of_number 8 y ++ take m v = rw k at (take-append-add (bits_of_number 8 y) v m) in
    let both : bits_of_number 8 x ++ take m u ≡ bits_of_number 8 y ++ take m v = sym a ∙ e ∙ b in
    let same : bits_of_number 8 x ≡ bits_of_number 8 y = append_front (bits_of_number 8 x) (bits_of_number 8 y) _ _ (l ∙ sym k) both in
    (sym (number_bits 8 x f) ∙ ap number_of_bits same ∙ number_bits 8 y g, append_rest (bits_of_number 8 x) (bits_of_number 8 y) _ _ (l ∙ sym k) both)

-- ---- four numbers, judged in their order by any tests, of which the first sees the second number too

module _ (ta : ℕ → ℕ → Bool) (tb tc td : ℕ → Bool) where
  abbrev first_fault : ℕ × (ℕ × (ℕ × ℕ)) → Option ℕ
  first_fault (n, (p, (i, q))) = pick (ta n p) (pick (tb p) (pick (tc i) (pick (td q) none (some 24)) (some 16)) (some 8)) (some 0)

  -- where the fault is
  data Fault (n p i q : ℕ) : ℕ → Type 0 where
    number : T (not (ta n p)) → Fault n p i q 0
    position : T (ta n p) → T (not (tb p)) → Fault n p i q 8
    impression : T (ta n p) → T (tb p) → T (not (tc i)) → Fault n p i q 16
    quality : T (ta n p) → T (tb p) → T (tc i) → T (not (td q)) → Fault n p i q 24

  fault_of : (n p i q d : ℕ) → first_fault (n, (p, (i, q))) ≡ some d → Fault n p i q d
  fault_of n p i q d e =
      pick_split (ta n p) _ _ e
      (λ a e1. pick_split (tb p) _ _ e1
      (λ b e2. pick_split (tc i) _ _ e2
      (λ c e3. pick_split (td q) _ _ e3
      (λ f e4. let z : ◌≡◌ {A = ℕ} 0 1 = cc in absurd (omega arith))
      (λ f e4. let z : 24 ≡ d = cc in rw (← z) (quality a b c f)))
      (λ c e3. let z : 16 ≡ d = cc in rw (← z) (impression a b c)))
      (λ b e2. let z : 8 ≡ d = cc in rw (← z) (position a b)))
      (λ a e1. let z : 0 ≡ d = cc in rw (← z) (number a))

  fault_is : {n p i q d : ℕ} → Fault n p i q d → first_fault (n, (p, (i, q))) ≡ some d
  fault_is {n} {p} {i} {q} (number a) = pick_no (ta n p) _ _ a
  fault_is {n} {p} {i} {q} (position a b) = pick_yes (ta n p) _ _ a ∙ pick_no (tb p) _ _ b
  fault_is {n} {p} {i} {q} (impression a b c) = pick_yes (ta n p) _ _ a ∙ pick_yes (tb p) _ _ b ∙ pick_no (tc i) _ _ c
  fault_is {n} {p} {i} {q} (quality a b c f) = pick_yes (ta n p) _ _ a ∙ pick_yes (tb p) _ _ b ∙ pick_yes (tc i) _ _ c ∙ pick_no (td q) _ _ f

  fault_near : {n p i q d : ℕ} → Fault n p i q d → d ≤ 32
  fault_near (number a) = omega arith
  fault_near (position a b) = omega arith
  fault_near (impression a b c) = omega arith
  fault_near (quality a b c f) = omega arith

  -- number and position are seen; i, q and those of the other header, as far as d bits show them
  fault_also : {n p i q d : ℕ} (j k : ℕ) → i < 2 ^ 8 → q < 2 ^ 8 → j < 2 ^ 8 → k < 2 ^ 8 → Fault n p i q d
      → take d (bits_of_number 8 i ++ bits_of_number 8 q) ≡ take d (bits_of_number 8 j ++ bits_of_number 8 k) → Fault n p j k d
  fault_also j k fi fq fj fk (number a) e = number a
  fault_also j k fi fq fj fk (position a b) e = position a b
  fault_also {i = i} {q = q} j k fi fq fj fk (impression a b c) e =
      let x : i ≡ j = (first i j 8 (bits_of_number 8 q) (bits_of_number 8 k) fi fj e).0 in
      impression a b (rw x at c)
  fault_also {i = i} {q = q} j k fi fq fj fk (quality a b c f) e =
      let (x, y) = first i j 16 (bits_of_number 8 q) (bits_of_number 8 k) fi fj e in
      let u : bits_of_number 8 q ≡ bits_of_number 8 k =
      sym (take_all 16 (bits_of_number 8 q) (omega (arith, length_bits 8 q))) ∙ y ∙ take_all 16 (bits_of_number 8 k) (omega (arith, length_bits 8 k)) in
      let z : q ≡ k = sym (number_bits 8 q fq) ∙ ap number_of_bits u ∙ number_bits 8 k fk in
      quality a b (rw x at c) (rw z at f)

  first_seen : Seen (four bad_view) bad_view 32 first_fault
  unfolding reach
  first_seen = record { near = λ a d e. fault_near (fault_of a.0 a.1.0 a.1.1.0 a.1.1.1 d e); also = go }
    where
      go : (a b : ℕ × (ℕ × (ℕ × ℕ))) (d : ℕ) → (four bad_view).Fits a → (four bad_view).Fits b → first_fault a ≡ some d
          → take (d + reach bad_view) ((four bad_view).enc a) ≡ take (d + reach bad_view) ((four bad_view).enc b) → first_fault b ≡ some d
      go (n, (p, (i, q))) (m, (o, (j, k))) d (fn, (fp, (fi, fq))) (fm, (fo, (fj, fk))) e same =
          let z : d + reach bad_view ≡ 8 + (8 + d) = omega arith in
          let (x, s) = first n m (8 + d) _ _ fn fm (rw z at same) in
          let (y, r) = first p o d _ _ fp fo s in
          rw (← x, ← y) (fault_is (fault_also j k fi fq fj fk (fault_of n p i q d e) r))

pub head_seen : (earlier : ℕ → ℕ) → Seen (four bad_view) bad_view 32 (head_fault earlier)
head_seen earlier = first_seen (λ n p. eqb n (earlier p)) (λ p. leb p 10) impression_ok (λ q. leb q 100)
