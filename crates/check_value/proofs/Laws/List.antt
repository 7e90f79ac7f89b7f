-- What the judge of a line's neighbours finds. The numbers are always there; the loop holds each against the one before, so what
-- the test of the rest says is what the test of them all says.
use mathlib.Core.Path.{◌≡◌, refl, sym, ap, ◌∙◌}
use Prim.Native.Nat.{ℕ, ◌+◌, ◌-◌, ◌*◌, ◌/◌, ◌%◌, ◌^◌, ◌≤◌, ◌<◌}
use native.Mathlib.Omega.{arith}
use native.Mathlib.Nat.{sub-zero}
use mathlib.Core.Bool.{Bool, true, false, ◌&&◌}
use mathlib.Core.List.{List, [], ◌∷◌}
use lib.ListN.{length, drop}
use lib.Dec.{T, leb, ltb}
use borrow.Author.Tests.{le-leb, lt-leb}
use Rattle.bits.specs.ChoiceLaws.{pick_yes, pick_no}
use Rattle.bits.specs.Lists.{every}
use Rattle.bits.specs.Bytes.{bits_of}
use Rattle.bits.specs.BytesLaws.{length_bits_of}
use Rattle.bits.specs.Codec.{Read, got, field_dec}
use Rattle.bits.specs.CodecLaws.{field}
use Rattle.bits.specs.Block.{fill_dec, pass_dec}
use Rattle.bits.specs.Reads.{Reads, found, keeping}
use Rattle.bits.proofs.Laws.Reads.{keeping_got}
use Rattle.bits.proofs.Laws.Loops.{keeping_same, fill_turn, fill_done, numbers_fill}
use Rattle.bits.proofs.Laws.Parts.{some_left, drop_end}
use Rattle.outcome.specs.Refusals.{bad_value}
use Rattle.differences.specs.Differences.{diffs}
use Rattle.sheet.specs.Values.{falls_ok, list_ok, list_value}
use Rattle.check_value.specs.Worth.{Wrong, Right}

-- ---- the test of neighbours behind the number l, each at least m below the one before

unfoldable pub right : (w m l : ℕ) → List ℕ → Bool
right w m l ns = falls_ok m l ns && every (λ d. ltb d (2 ^ w)) (diffs l ns)

never : (a : Bool) → a && false ≡ false
never true = refl
never false = refl

module _ (w m l n : ℕ) (ns : List ℕ) where
  right_more : n + m ≤ l → ltb (l - n) (2 ^ w) ≡ true → right w m l (n ∷ ns) ≡ right w 1 n ns
  unfolding right
  right_more h e = rw (le-leb (n + m) l h, e)

  not_falling : l < n + m → right w m l (n ∷ ns) ≡ false
  unfolding right
  not_falling h = rw (lt-leb (n + m) l h)

  not_narrow : ltb (l - n) (2 ^ w) ≡ false → right w m l (n ∷ ns) ≡ false
  unfolding right
  not_narrow e = rw e (never (leb (n + m) l && falls_ok 1 n ns))

-- all of line l's neighbours: right, and few enough

module _ (w l : ℕ) (ns : List ℕ) where
  list_ok_lem : right w 0 l ns ≡ true → ltb (length ns) (2 ^ w) ≡ true → T (list_ok w l ns)
  unfolding right
  list_ok_lem e f = rw f (go (falls_ok 0 l ns) (every (λ d. ltb d (2 ^ w)) (diffs l ns)) e)
    where
      go : (a c : Bool) → a && c ≡ true → T (a && (c && true))
      go true true z = tt
      go true false z = let y : ◌≡◌ {A = ℕ} 0 1 = cc in absurd (omega arith)
      go false c z = let y : ◌≡◌ {A = ℕ} 0 1 = cc in absurd (omega arith)

  list_bad : right w 0 l ns ≡ false → list_ok w l ns ≡ false
  unfolding right
  list_bad e = go (falls_ok 0 l ns) (ltb (length ns) (2 ^ w)) (every (λ d. ltb d (2 ^ w)) (diffs l ns)) e
    where
      go : (a b c : Bool) → a && c ≡ false → a && (b && (c && true)) ≡ false
      go true b c z = rw z (never b)
      go false b c z = refl

-- ---- the value s of a list of line l, at width w

module _ (w l : ℕ) (s : List ℕ) where
  -- what is read from the neighbour i on
  abbrev rest : ℕ → Read Bool (List ℕ)
  rest i = fill_dec (field bad_value 16) bad_value (length (bits_of s) - i) (drop (16 * i) (bits_of s))

  -- The first i neighbours are right, and the last of them, or the line, is `before`: the test of the rest is the test of all.
  pub record ListFrom (m before i : ℕ) : Type 0 where
    pub tests : keeping (right w m before) (rest i) ≡ keeping (right w 0 l) (fill_dec (field bad_value 16) bad_value (length (bits_of s)) (bits_of s))

  pub list_first : ListFrom 0 l 0
  list_first =
      record {
        tests = ap (λ (n : ℕ). keeping (right w 0 l) (fill_dec (field bad_value 16) bad_value n (bits_of s))) (sub-zero (length (bits_of s)));
      }

  module _ (even_length : length s % 2 ≡ 0) where
    whole : (ns : List ℕ) × (length ns ≡ length s / 2) × (fill_dec (field bad_value 16) bad_value (length (bits_of s)) (bits_of s) ≡ got ns [])
    whole = numbers_fill bad_value 16 (length s / 2) (length (bits_of s)) (bits_of s) (omega arith) (length_bits_of s ∙ omega arith) (omega (arith, length_bits_of s))

    -- not right as a whole
    wrong : list_ok w l whole.0 ≡ false → Wrong (list_value w l) s
    unfolding list_value pass_dec
    wrong e = record { left = length (bits_of s); refuses = rw whole.2 (pick_no (list_ok w l whole.0) _ _ (rw e tt)) }

    pub too_many : ltb (length s / 2) (2 ^ w) ≡ false → Wrong (list_value w l) s
    too_many e = wrong (rw (whole.1, e) (never (falls_ok 0 l whole.0)))

    pub list_done : {m before i : ℕ} → ListFrom m before i → length s / 2 ≤ i → ltb (length s / 2) (2 ^ w) ≡ true → Right (list_value w l) s (λ ns. length ns ≡ length s / 2)
    unfolding list_value pass_dec right
    list_done {m} {before} {i} g h e =
        let z = fill_done (field bad_value 16) bad_value (length (bits_of s) - i) (drop (16 * i) (bits_of s)) (drop_end s (16 * i) (omega arith)) in
        let y : got true [] ≡ got (right w 0 l whole.0) [] = ap (keeping (right w m before)) (sym z) ∙ g.tests ∙ ap (keeping (right w 0 l)) whole.2 in
        let x : right w 0 l whole.0 ≡ true = cc in
        record {
          value = whole.0;
          reads = rw whole.2 (pick_yes (list_ok w l whole.0) _ _ (list_ok_lem w l whole.0 x (rw whole.1 e)));
          known = whole.1;
        }

    -- the neighbour i is v
    module _ {m before i : ℕ} (g : ListFrom m before i) (h : i < length s / 2) {v q : ℕ} (r : Reads (field_dec bad_value 16) s (16 * i) (found v q)) where
      abbrev behind : Read Bool (List ℕ)
      behind = fill_dec (field bad_value 16) bad_value (length (bits_of s) - (i + 1)) (drop q (bits_of s))

      turn : keeping (right w m before) (rest i) ≡ keeping (λ xs. right w m before (v ∷ xs)) behind
      turn =
          fill_turn (field bad_value 16) bad_value (length (bits_of s)) i (drop (16 * i) (bits_of s)) (right w m before) (omega (arith, length_bits_of s))
          (some_left s (16 * i) (omega arith)) r.is

      pub list_turn : q ≡ 16 * i + 16 → v + m ≤ before → ltb (before - v) (2 ^ w) ≡ true → ListFrom 1 v (i + 1)
      list_turn y a e =
          let d : 16 * (i + 1) ≡ q = omega arith in
          let z = keeping_same (λ xs. right w m before (v ∷ xs)) (right w 1 v) behind (λ xs. right_more w m before v xs a e) in
          record { tests = rw d (sym (turn ∙ z) ∙ g.tests) }

      stops : ((xs : List ℕ) → right w m before (v ∷ xs) ≡ false) → Wrong (list_value w l) s
      stops k =
          keeping_got (λ xs. right w m before (v ∷ xs)) behind (sym turn ∙ g.tests ∙ ap (keeping (right w 0 l)) whole.2) λ xs z e.
          wrong (list_bad w l whole.0 (sym e ∙ k xs))

      pub too_high : before < v + m → Wrong (list_value w l) s
      too_high a = stops (λ xs. not_falling w m before v xs a)

      pub too_far : ltb (before - v) (2 ^ w) ≡ false → Wrong (list_value w l) s
      too_far e = stops (λ xs. not_narrow w m before v xs e)
