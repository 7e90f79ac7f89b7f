-- The objects behind 90, as the loop goes over them: the answer from here on is the whole answer.
use mathlib.Core.Path.{◌≡◌, sym, ap, ◌∙◌}
use Prim.Native.Nat.{ℕ, ◌+◌, ◌-◌, ◌*◌, ◌≤◌, ◌<◌}
use native.Mathlib.Omega.{arith}
use native.Mathlib.Nat.{sub-zero}
use mathlib.Core.Bool.{Bool}
use mathlib.Core.List.{List, []}
use lib.ListN.{length, take, drop, length-append, length-drop}
use lib.Seq.{take_all}
use Rattle.bits.specs.Bits.{Bits}
use Rattle.bits.specs.BitsLaws.{length_bits}
use Rattle.bits.specs.Bytes.{bits_of}
use Rattle.bits.specs.BytesLaws.{length_bits_of}
use Rattle.bits.specs.Codec.{got, Codec, field_dec}
use Rattle.bits.specs.CodecLaws.{field}
use Rattle.bits.specs.Block.{Block, fill_dec}
use Rattle.bits.specs.Reads.{found, fault, Reads, passing}
use Rattle.bits.proofs.Laws.Reads.{up_to, refuses, go_on, keeping_got, keeping_refused}
use Rattle.bits.proofs.Laws.Loops.{fill_turn, fill_stop, fill_done}
use Rattle.bits.proofs.Laws.Parts.{part, some_left, drop_end}
use Rattle.bits.proofs.Laws.Nested.{headed_stop, headed_past, headed_good}
use Rattle.outcome.specs.Refusals.{bad_object}
use Rattle.card.specs.Length.{object_length}
use Rattle.card.specs.Object.{any_bytes, object_head, data_object, Other, other, others}
use Rattle.card_shape.specs.Shape.{Bad, WholeValue, CutValue, length_bad, value_past}
use Rattle.card_shape.proofs.Laws.Value.{any_bytes_lem}
use Rattle.format.specs.declared.Part.{Part}

-- the rest of the bytes, as it is lent
pub rest_is : (s : List ℕ) (a : ℕ) → take (length s - a) (drop a s) ≡ drop a s
rest_is s a = take_all (length s - a) (drop a s) (omega (arith, length-drop a s))

-- ---- one data object: its tag was read up to byte a, where its length is

module _ {T A : Type 0} (tag : Codec Bool T) (value : Block A) (a : ℕ) {s : List ℕ} {p : ℕ} {t : T} (h : Reads tag.dec s p (found t (8 * a))) where
  pub counted_is : (n q : ℕ) → Reads object_length.dec s (8 * a) (found n (8 * q)) → Reads (object_head tag).dec s p (found (t, n) (8 * q))
  counted_is n q r = go_on tag (λ _. object_length) h r

  pub object_cut : CutValue s a → (q : ℕ) × Reads (data_object tag value).dec s p (fault bad_object q)
  object_cut (length_bad r) = (8 * a, headed_stop (object_head tag) value bad_object (go_on tag (λ _. object_length) h r))
  object_cut (value_past n q r l) = (8 * q, headed_past (object_head tag) value bad_object n q (counted_is n q r) (omega (arith, r.within)) l)

  pub object_good : {x : Part} {v : A} {u : Bits} → WholeValue s a x → value.dec (bits_of (part s x.from (x.to - x.from))) ≡ got v u
      → Reads (data_object tag value).dec s p (found (t, v) (8 * x.to))
  object_good {x = x} w d = up_to (omega (arith, w.ordered)) (headed_good (object_head tag) value bad_object (x.to - x.from) x.from (counted_is _ x.from w.counted) (omega (arith, w.ordered, w.within)) d)

-- a length takes a byte at least
pub length_moves : {s : List ℕ} {n : ℕ} (a q : ℕ) → a ≤ length s → Reads object_length.dec s (8 * a) (found n (8 * q)) → a < q
unfolding object_length
length_moves {s} {n} a q i r =
    let e = ap length (object_length.back (drop (8 * a) (bits_of s)) n (drop (8 * q) (bits_of s)) r.is).1 in
    omega (arith, r.within, simp (length-append, length_bits, length-drop, length_bits_of) at e)

-- ---- the loop: n objects are passed, and the next starts at byte a

module _ (s : List ℕ) where
  abbrev pub Passed : ℕ → ℕ → Type 0
  Passed n a = passing (fill_dec other bad_object (8 * length s - n) (drop (8 * a) (bits_of s))) ≡ passing (others.dec (bits_of s))

  pub passed_start : Passed 0 0
  passed_start = ap (λ (k : ℕ). passing (fill_dec other bad_object k (bits_of s))) (sub-zero _ ∙ sym (length_bits_of s))

  module _ (n a : ℕ) (inv : Passed n a) where
    -- another one starts here, and its tag is read
    module _ (few : n ≤ a) (l : a < length s) {x : ℕ} (tag : Reads (field_dec bad_object 8) s (8 * a) (found x (8 * (a + 1)))) where
      pub passed_bad : CutValue s (a + 1) → Bad others.dec s
      unfolding other
      passed_bad h =
          let (q, r) = object_cut (field bad_object 8) any_bytes (a + 1) tag h in
          record {
            place = q;
            reads = refuses _ bad_object q r.within
                (keeping_refused _ _ (sym inv ∙ ap passing (fill_stop other bad_object (8 * length s) n (drop (8 * a) (bits_of s)) (omega arith) (some_left s (8 * a) (omega arith)) r.is)));
          }

      pub passed_next : {y : Part} → WholeValue s (a + 1) y → Passed (n + 1) y.to
      unfolding other
      passed_next {y} h =
          let (xs, d) = any_bytes_lem (part s y.from (y.to - y.from)) in
          let r = object_good (field bad_object 8) any_bytes (a + 1) tag h d in
          sym (fill_turn other bad_object (8 * length s) n (drop (8 * a) (bits_of s)) (λ xs. tt) (omega arith) (some_left s (8 * a) (omega arith)) r.is) ∙ inv

    pub passed_done : length s ≤ a → (xs : List Other) × (others.dec (bits_of s) ≡ got xs [])
    passed_done l =
        keeping_got _ _ (sym inv ∙ ap passing (fill_done other bad_object (8 * length s - n) (drop (8 * a) (bits_of s)) (drop_end s (8 * a) (omega arith)))) λ xs e _. (xs, e)
