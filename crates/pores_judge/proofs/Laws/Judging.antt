-- The judge's way over a payload of pores: its start, its lines one by one, and what is left behind them. The invariant: what the payload
-- says is counted, with what is still to come.
use mathlib.Core.Path.{◌≡◌, refl, sym, ap, ◌∙◌}
use mathlib.Core.Logic.{◌≢◌}
use Prim.Native.Nat.{ℕ, suc, ◌+◌, ◌-◌, ◌*◌, ◌≤◌, ◌<◌}
use native.Mathlib.Omega.{arith}
use mathlib.Core.Bool.{Bool, true, false}
use mathlib.Core.Option.{Option, none, some, map}
use mathlib.Core.List.{List, [], ◌∷◌}
use lib.ListN.{length, take, drop, length-append}
use Rattle.bits.specs.Choice.{pick}
use Rattle.bits.specs.ChoiceLaws.{pick_yes, pick_no, within_low, within_high}
use Rattle.bits.specs.Lists.{total}
use Rattle.bits.specs.ListsLaws.{mapped}
use Rattle.bits.specs.Bits.{Bits, number_of_bits, bits_of_number, zeros}
use Rattle.bits.specs.BitsLaws.{length_bits}
use Rattle.bits.specs.Bytes.{bits_of}
use Rattle.bits.specs.BytesLaws.{length_bits_of}
use Rattle.bits.specs.Codec.{Read, got, refused, next, value_of, field_dec}
use Rattle.bits.specs.CodecLaws.{field, ranged}
use Rattle.bits.specs.Block.{few, zeros_dec, ahead_dec, recast_dec}
use Rattle.bits.proofs.BlockLaws.{few_yes, few_no, zeros_back}
use Rattle.bits.specs.Reads.{Found, found, fault, placed, Reads, keeping}
use Rattle.bits.proofs.Laws.Reads.{length_rest, field_at, field_got, go_on, mapped as found_as}
use Rattle.bits.proofs.Laws.Loops.{keeping_same, keeping_cons, field_zero}
use Rattle.bits.proofs.Laws.Parts.{drop_end}
use Rattle.outcome.specs.Refusals.{bad_pores}
use Rattle.pores_elements.specs.Before.{row_dec, closed_dec}
use Rattle.pores_elements.proofs.ElementLaws.{take_zeros}
use Rattle.pores_parts.specs.Parts.{Pores, make_pores}
use Rattle.pores.specs.Payload.{pores_block, pores_in}
use Rattle.pores_parts.specs.Lines.{line, lines, front}
use Rattle.pores.specs.Numbers.{numbers_of}
use Rattle.pores_lines.specs.Found.{LineStands}
use Rattle.pores_judge.specs.Judged.{RightPayload}
use Rattle.pores.proofs.Laws.Numbers.{line_size, numbers_long}

-- ---- what a payload says, and what of it is counted

-- by what its first three bytes read as
abbrev saying : ℕ → Read Bool (ℕ × ℕ) → Option Pores
saying n o = value_of (next (next o (λ a r. next ((lines a.1 n).dec r) (λ b q. got (a, b) q))) (λ t r. got (make_pores t) r))

pores_saying : (n : ℕ) (s : List ℕ) → pores_in n s ≡ saying n (front.dec (bits_of s))
unfolding pores_block recast_dec ahead_dec
pores_saying n s = refl

-- e, and how many numbers there are
abbrev pub measure : Pores → ℕ × ℕ
measure p = (p.e, length (numbers_of p))

-- of lines, z numbers before them
abbrev tally : (e z : ℕ) → Read Bool (List (List ℕ)) → Read Bool (ℕ × ℕ)
tally e z o = keeping (λ ls. (e, z + total line_size ls)) o

-- 0 to 7 zero bits behind them
abbrev closing : {A : Type 0} → Read Bool A → Read Bool A
closing o = next o (λ a r. next (zeros_dec bad_pores r) (λ u q. pick (few (length r)) (got a []) (refused bad_pores (length r))))

unmeasured : (o : Option Pores) → map measure o ≡ none → o ≡ none
unmeasured none h = refl
unmeasured (some p) h = let z : ◌≡◌ {A = ℕ} 0 1 = cc in absurd (omega arith)

-- ---- the loop: of n lines i are passed, up to that place

pub record Judging (n : ℕ) (s : List ℕ) (e i place numbers : ℕ) : Type 0 where
  pub is : map measure (pores_in n s) ≡ value_of (closing (tally e numbers (row_dec (line e) (n - i) (drop place (bits_of s)))))
  pub many : 20 + 2 * numbers ≤ place
  pub within : place ≤ 8 * length s

-- ---- the first three bytes

module _ (n : ℕ) (s : List ℕ) where
  pub too_short : length s < 3 → pores_in n s ≡ none
  too_short l = pores_saying n s ∙ go (front.dec (bits_of s)) refl
    where
      go : (o : Read Bool (ℕ × ℕ)) → front.dec (bits_of s) ≡ o → saying n o ≡ none
      go (refused c k) y = refl
      go (got t r) y =
          let z : length (bits_of s) ≡ length (front.enc t) + length r = ap length (front.back (bits_of s) t r y).1 ∙ length-append (front.enc t) r in
          let f : length (front.enc t) ≡ 24 = simp (length-append, length_bits) in
          absurd (omega (arith, length_bits_of s))

  -- what reads the third byte reads all three
  front_reads : 3 ≤ length s → {r : Found ℕ} → Reads (ranged bad_pores 8 2 8).dec s 16 r → front.dec (bits_of s) ≡ placed s (found_as (λ e. (number_of_bits (take 16 (bits_of s)), e)) r)
  front_reads l R = (go_on (field bad_pores 16) {p = 0} (λ _. ranged bad_pores 8 2 8) (field_at bad_pores s 0 16 _ (omega arith) (omega arith) refl) R).is

  -- the third byte is e
  pub third : {e q : ℕ} → 3 ≤ length s → Reads (ranged bad_pores 8 2 8).dec s 16 (found e q) → (q ≡ 24) × (2 ≤ e) × (e ≤ 8)
  third {e} {q} l R =
      let (f, g) = (ranged bad_pores 8 2 8).back (drop 16 (bits_of s)) e (drop q (bits_of s)) R.is in
      let z = ap length g ∙ length-append (bits_of_number 8 e) (drop q (bits_of s)) in
      (omega (arith, length_rest s 16, length_rest s q, length_bits 8 e, R.within), within_low 2 8 e f.1, within_high 2 8 e f.1)

  pub outside : 3 ≤ length s → {c q : ℕ} → Reads (ranged bad_pores 8 2 8).dec s 16 (fault c q) → pores_in n s ≡ none
  outside l R = pores_saying n s ∙ ap (saying n) (front_reads l R)

  pub judging_start : 3 ≤ length s → {e q : ℕ} → Reads (ranged bad_pores 8 2 8).dec s 16 (found e q) → Judging n s e 0 q 2
  unfolding closed_dec
  judging_start l {e} {q} R =
      record {
        is = ap (map measure) (pores_saying n s ∙ ap (saying n) (front_reads l R)) ∙ go (row_dec (line e) n (drop q (bits_of s)))
            ∙ ap (λ (k : ℕ). value_of (closing (tally e 2 (row_dec (line e) k (drop q (bits_of s)))))) (sym none_passed);
        many = omega (arith, (third l R).0);
        within = R.within;
      }
    where
      none_passed : n - 0 ≡ n
      none_passed = omega arith

      v : ℕ
      v = number_of_bits (take 16 (bits_of s))

      ended : (ls : List (List ℕ)) (k : ℕ) (t : Bool) (z : Read Bool (Unit {0}))
          → map measure (value_of (next (next (next z (λ u x. pick t (got ls []) (refused bad_pores k))) (λ b x. got ((v, e), b) x)) (λ y r. got (make_pores y) r)))
          ≡ value_of (next z (λ u x. pick t (got (e, 2 + total line_size ls) []) (refused bad_pores k)))
      ended ls k true (got u x) = ap (λ (m : ℕ). some (e, m)) (numbers_long (make_pores ((v, e), ls)))
      ended ls k false (got u x) = refl
      ended ls k t (refused c y) = refl

      go : (o : Read Bool (List (List ℕ)))
          → map measure (value_of (next (next (closing o) (λ b x. got ((v, e), b) x)) (λ t r. got (make_pores t) r))) ≡ value_of (closing (tally e 2 o))
      go (got ls r) = ended ls (length r) (few (length r)) (zeros_dec bad_pores r)
      go (refused c k) = refl

-- ---- a line

module _ {n : ℕ} {s : List ℕ} {e i place numbers : ℕ} (G : Judging n s e i place numbers) where
  module _ (l : i < n) where
    one_less : n - i ≡ suc (n - (i + 1))
    one_less = omega arith

    pub line_broken : value_of ((line e).dec (drop place (bits_of s))) ≡ none → pores_in n s ≡ none
    line_broken h =
        unmeasured (pores_in n s)
        (G.is ∙ ap (λ (k : ℕ). value_of (closing (tally e numbers (row_dec (line e) k (drop place (bits_of s)))))) one_less ∙ go ((line e).dec (drop place (bits_of s))) h)
      where
        go : (o : Read Bool (List ℕ)) → value_of o ≡ none
            → value_of (closing (tally e numbers (next o (λ x r. next (row_dec (line e) (n - (i + 1)) r) (λ xs q. got (x ∷ xs) q))))) ≡ none
        go (got ds r) z = let y : ◌≡◌ {A = ℕ} 0 1 = cc in absurd (omega arith)
        go (refused c k) z = refl

    pub judging_next : {count q : ℕ} → LineStands s place e count q → Judging n s e (i + 1) q (numbers + (1 + count))
    judging_next {count} {q} L =
        record {
          is = G.is ∙ ap (λ (o : Read Bool (ℕ × ℕ)). value_of (closing o)) step;
          many = omega (arith, G.many, L.after);
          within = L.within;
        }
      where
        step : tally e numbers (row_dec (line e) (n - i) (drop place (bits_of s)))
            ≡ tally e (numbers + (1 + count)) (row_dec (line e) (n - (i + 1)) (drop q (bits_of s)))
        step =
            ap (λ (k : ℕ). tally e numbers (row_dec (line e) k (drop place (bits_of s)))) one_less
            ∙ ap (λ (o : Read Bool (List ℕ)). tally e numbers (next o (λ x r. next (row_dec (line e) (n - (i + 1)) r) (λ xs u. got (x ∷ xs) u)))) L.reads
            ∙ keeping_cons (λ ls. (e, numbers + total line_size ls)) L.distances (row_dec (line e) (n - (i + 1)) (drop q (bits_of s)))
            ∙ keeping_same _ _ (row_dec (line e) (n - (i + 1)) (drop q (bits_of s)))
            (λ ls. let z : numbers + (suc (length L.distances) + total line_size ls) ≡ numbers + (1 + count) + total line_size ls = omega (arith, L.counts) in
            ap (λ (m : ℕ). (e, m)) z)

  -- ---- what is left

  module _ (l : n ≤ i) where
    all_passed : map measure (pores_in n s) ≡ value_of (closing (got (e, numbers) (drop place (bits_of s))))
    all_passed =
        let z : n - i ≡ 0 = omega arith in
        let y : numbers + 0 ≡ numbers = omega arith in
        G.is ∙ ap (λ (k : ℕ). value_of (closing (tally e numbers (row_dec (line e) k (drop place (bits_of s)))))) z
        ∙ ap (λ (m : ℕ). value_of (closing (got (e, m) (drop place (bits_of s))))) y

    pub too_much : 8 ≤ 8 * length s - place → pores_in n s ≡ none
    too_much k = unmeasured (pores_in n s) (all_passed ∙ go (zeros_dec bad_pores (drop place (bits_of s))))
      where
        go : (o : Read Bool (Unit {0}))
            → value_of {A = ℕ × ℕ} (next o (λ u q. pick (few (length (drop place (bits_of s)))) (got (e, numbers) []) (refused bad_pores (length (drop place (bits_of s)))))) ≡ none
        go (got u q) =
            ap (λ (o : Read Bool (ℕ × ℕ)). value_of o)
            (pick_no (few (length (drop place (bits_of s)))) _ _ (few_no (length (drop place (bits_of s))) (omega (arith, length_rest s place))))
        go (refused c m) = refl

    module _ (left : ℕ) {v q : ℕ} (f : Reads (field_dec bad_pores left) s place (found v q)) where
      pub not_zero : v ≢ 0 → pores_in n s ≡ none
      not_zero d = unmeasured (pores_in n s) (all_passed ∙ go (zeros_dec bad_pores (drop place (bits_of s))) refl)
        where
          go : (o : Read Bool (Unit {0})) → zeros_dec bad_pores (drop place (bits_of s)) ≡ o
              → value_of {A = ℕ × ℕ} (next o (λ u q. pick (few (length (drop place (bits_of s)))) (got (e, numbers) []) (refused bad_pores (length (drop place (bits_of s)))))) ≡ none
          go (got u r) y =
              let z : drop place (bits_of s) ≡ zeros (length (drop place (bits_of s))) = (zeros_back bad_pores (drop place (bits_of s)) y).0 in
              absurd (d (sym (field_got bad_pores left (drop place (bits_of s)) f.is).1 ∙ ap (λ (b : Bits). number_of_bits (take left b)) z ∙ take_zeros left (length (drop place (bits_of s)))))
          go (refused c m) y = refl

      pub payload_right : v ≡ 0 → left < 8 → left ≡ 8 * length s - place → q ≡ place + left → RightPayload n s e numbers
      payload_right z k w x = mapped measure (pores_in n s) (e, numbers) (all_passed ∙ whole) λ p y t. record { value = p; says = y; element = sym (ap (λ (x : ℕ × ℕ). x.0) t); count = sym (ap (λ (x : ℕ × ℕ). x.1) t) }
        where
          none_left : drop q (bits_of s) ≡ []
          none_left = drop_end s q (omega (arith, G.within))

          whole : value_of {A = ℕ × ℕ} (closing (got (e, numbers) (drop place (bits_of s)))) ≡ some (e, numbers)
          whole =
              ap (λ (o : Read Bool (Unit {0})). value_of (next o (λ u r. pick (few (length (drop place (bits_of s)))) (got (e, numbers) []) (refused bad_pores (length (drop place (bits_of s)))))))
              (field_zero bad_pores left (drop place (bits_of s)) f.is z ∙ ap (zeros_dec bad_pores) none_left)
              ∙ ap (λ (o : Read Bool (ℕ × ℕ)). value_of o)
              (pick_yes (few (length (drop place (bits_of s)))) _ _ (few_yes (length (drop place (bits_of s))) (omega (arith, length_rest s place))))
