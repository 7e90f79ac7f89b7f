-- The lists of an index: the numbers of a list in its field's bytes, their differences one by one, and the list's bits put.
use mathlib.Core.Path.{◌≡◌, refl, sym, ap, ◌∙◌}
use Prim.Native.Nat.{ℕ, suc, ◌+◌, ◌-◌, ◌*◌, ◌/◌, ◌≤◌, ◌<◌}
use native.Mathlib.Omega.{arith}
use native.Mathlib.Numerals.{add-one}
use mathlib.Core.List.{List, [], ◌∷◌, ◌++◌}
use lib.ListN.{length, take, drop, get_or}
use lib.Seq.{drop-cons, take-suc, take_all, length-take-le, get_or-drop}
use Rattle.bits.specs.Bits.{bits_of_number}
use Rattle.bits.specs.CodecLaws.{enc_all, field}
use Rattle.outcome.specs.Refusals.{bad_index}
use Rattle.put_bytes.specs.HighFirst.{two, joined}
use Rattle.put_bytes.proofs.Laws.{twos_length}
use Rattle.put_bytes.proofs.Numbers as Numbers
use Rattle.differences.specs.Differences.{Falls, diffs}
use Rattle.differences.proofs.DifferencesLaws.{length_diffs}
use Rattle.format.specs.Index.{FitsList}
use Rattle.find_parts.proofs.Laws.Line.{codes_long}
use Rattle.find_parts.proofs.Laws.Lists.{list_is}
use Rattle.put_bits.specs.Put.{PutMore}
use Rattle.put_bits.specs.Put.{Puts}
use Rattle.write_blocks.specs.Lists.{ListWritten}
use Rattle.put_bits.proofs.Chain.{puts_one, puts_none, ◌then◌, puts_as, enc_snoc}

-- ---- the loop over the numbers: i of them are put, and before is the one before the next

pub record ListGoing (w l : ℕ) (ns old : List ℕ) (at : ℕ) (now : List ℕ) (p before i : ℕ) : Type 0 where
  pub puts : Puts (enc_all (field bad_index w) (take i (diffs l ns))) old at now p
  pub left : diffs before (drop i ns) ≡ drop i (diffs l ns)
  pub least : ℕ
  pub falls : Falls least before (drop i ns)

-- whatever list the bytes s are
abbrev pub ListSoFar : (w l : ℕ) (s old : List ℕ) (at : ℕ) (now : List ℕ) (p before i : ℕ) → Type 0
ListSoFar w l s old at now p before i = (ns : List ℕ) → FitsList w l ns → s ≡ joined two ns → ListGoing w l ns old at now p before i

module _ (w l : ℕ) {s : List ℕ} (ns : List ℕ) (e : s ≡ joined two ns) where
  pub numbers : length s / 2 ≡ length ns
  numbers = omega (arith, ap length e, twos_length ns)

  -- number i of the list is at bytes 2i and 2i + 1
  number_at : {i n : ℕ} → i < length ns → n ≡ get_or s (2 * i) 0 * 256 + get_or s (2 * i + 1) 0 → n ≡ get_or ns i 0
  number_at {i} k z =
      z ∙ ap (λ (x : List ℕ). get_or x (2 * i) 0 * 256 + get_or x (2 * i + 1) 0) e
      ∙ sym (Numbers.number_at (joined two ns) i (omega (arith, twos_length ns))) ∙ ap (λ (x : List ℕ). get_or x i 0) (Numbers.numbers_written ns)

  module _ {old now : List ℕ} {at p before i : ℕ} (g : ListGoing w l ns old at now p before i) where
    -- the place, and the buffer's length
    pub list_place : i ≤ length ns → (p ≡ at + i * w) × (length now ≡ length old)
    list_place k =
        let m : length (take i (diffs l ns)) ≡ i = length-take-le i (diffs l ns) (omega (arith, length_diffs l ns)) in
        (g.puts.place ∙ ap (λ (n : ℕ). at + n) (codes_long bad_index w (take i (diffs l ns)) ∙ ap (λ (n : ℕ). n * w) m), g.puts.same)

    -- the next number is at most the one before, and their difference is the list's
    next_is : i < length ns → (get_or ns i 0 ≤ before) × (before - get_or ns i 0 ≡ get_or (diffs l ns) i 0)
    next_is k = go (drop i ns) (drop-cons ns i 0 k) g.left g.falls
      where
        go : (xs : List ℕ) → xs ≡ get_or ns i 0 ∷ drop (suc i) ns → diffs before xs ≡ drop i (diffs l ns) → Falls g.least before xs
            → (get_or ns i 0 ≤ before) × (before - get_or ns i 0 ≡ get_or (diffs l ns) i 0)
        go [] z d f = absurd (omega (arith, ap length z))
        go (x ∷ xs) z d f =
            let a : x ≡ get_or ns i 0 = cc in
            let y : i + 0 ≡ i = omega arith in
            let b : get_or (diffs l ns) i 0 ≡ before - x =
            ap (λ (j : ℕ). get_or (diffs l ns) j 0) (sym y) ∙ sym (get_or-drop i (diffs l ns) 0 0) ∙ ap (λ (ds : List ℕ). get_or ds 0 0) (sym d) in
            (omega (arith, a, f.0), ap (λ (n : ℕ). before - n) (sym a) ∙ sym b)

    -- of the next number n as code reads it: it is one of the list, at most the one before, and their difference is the list's
    pub number_next : i < length s / 2 → {n : ℕ} → n ≡ get_or s (2 * i) 0 * 256 + get_or s (2 * i + 1) 0
        → (i < length ns) × (n ≤ before) × (before - n ≡ get_or (diffs l ns) i 0)
    number_next j z =
        let k : i < length ns = omega (arith, numbers) in
        let y = number_at k z in
        let (a, b) = next_is k in
        (k, omega (arith, y, a), ap (λ (m : ℕ). before - m) y ∙ b)

    -- and so it goes on behind it
    behind_next : i < length ns → (diffs (get_or ns i 0) (drop (i + 1) ns) ≡ drop (i + 1) (diffs l ns)) × Falls 1 (get_or ns i 0) (drop (i + 1) ns)
    behind_next k =
        let z : drop i ns ≡ get_or ns i 0 ∷ drop (i + 1) ns = drop-cons ns i 0 k ∙ ap (λ (j : ℕ). get_or ns i 0 ∷ drop j ns) (sym (add-one i)) in
        let y : drop i (diffs l ns) ≡ get_or (diffs l ns) i 0 ∷ drop (i + 1) (diffs l ns) =
        drop-cons (diffs l ns) i 0 (omega (arith, length_diffs l ns)) ∙ ap (λ (j : ℕ). get_or (diffs l ns) i 0 ∷ drop j (diffs l ns)) (sym (add-one i)) in
        let d : (before - get_or ns i 0) ∷ diffs (get_or ns i 0) (drop (i + 1) ns) ≡ get_or (diffs l ns) i 0 ∷ drop (i + 1) (diffs l ns) = ap (diffs before) (sym z) ∙ g.left ∙ y in
        (cc, (rw z at g.falls).1)

-- ---- its steps

pub list_first : (w l : ℕ) (s old : List ℕ) (at : ℕ) → ListSoFar w l s old at old at l 0
list_first w l s old at ns f e = record { puts = puts_none old at; left = refl; least = 0; falls = f.falls }

pub list_next : (w l : ℕ) {s old now now' : List ℕ} {at p before i n r : ℕ} → i < length s / 2 → n ≡ get_or s (2 * i) 0 * 256 + get_or s (2 * i + 1) 0
    → ListSoFar w l s old at now p before i → PutMore now p (before - n) w now' r → ListSoFar w l s old at now' r n (i + 1)
list_next w l {before = before} {i = i} {n = n} k z G h ns f e =
    let g = G ns f e in
    let j : i < length ns = omega (arith, numbers w l ns e) in
    let y : n ≡ get_or ns i 0 = number_at w l ns e j z in
    let (le, d) = next_is w l ns e g j in
    let x : before - n ≡ get_or (diffs l ns) i 0 = ap (λ (m : ℕ). before - m) y ∙ d in
    let c : take (i + 1) (diffs l ns) ≡ take i (diffs l ns) ++ get_or (diffs l ns) i 0 ∷ [] = ap (λ (m : ℕ). take m (diffs l ns)) (add-one i) ∙ take-suc (diffs l ns) i 0 (omega (arith, length_diffs l ns)) in
    let b : enc_all (field bad_index w) (take (i + 1) (diffs l ns)) ≡ enc_all (field bad_index w) (take i (diffs l ns)) ++ bits_of_number w (get_or (diffs l ns) i 0) =
    ap (enc_all (field bad_index w)) c ∙ enc_snoc (field bad_index w) (take i (diffs l ns)) (get_or (diffs l ns) i 0) in
    record {
      puts = puts_as (sym b) (g.puts then puts_one (rw x at h));
      left = rw y (behind_next w l ns e g j).0;
      least = 1;
      falls = rw y (behind_next w l ns e g j).1;
    }

-- behind the count
pub list_all : (w l : ℕ) {s old mid now : List ℕ} {at n q p before i : ℕ} → n ≡ length s / 2 → PutMore old at n w mid q → length s / 2 ≤ i → ListSoFar w l s mid q now p before i
    → ListWritten w l s old at now p
list_all w l {i = i} m h k G =
    record {
      is = λ ns f e.
          let z : take i (diffs l ns) ≡ diffs l ns = take_all i (diffs l ns) (omega (arith, numbers w l ns e, length_diffs l ns)) in
          puts_as (sym (list_is w l ns)) (puts_one (rw (m ∙ numbers w l ns e) at h) then puts_as (ap (enc_all (field bad_index w)) z) (G ns f e).puts);
    }
