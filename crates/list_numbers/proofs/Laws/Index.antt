-- The index of an accepted view, list by list: which lists still stand from a place on, and how many neighbours were counted before
-- it. A list has as many bits as its count says.
use mathlib.Core.Path.{◌≡◌, ap, ◌∙◌}
use Prim.Native.Nat.{ℕ, suc, ◌+◌, ◌*◌, ◌≤◌, ◌<◌}
use native.Mathlib.Omega.{arith}
use native.Mathlib.Nat.{mul-le-mul_left}
use native.Mathlib.Numerals.{add-one}
use mathlib.Core.Option.{Option, some, map}
use mathlib.Core.List.{List, [], ◌∷◌, ◌++◌, append_assoc}
use lib.ListN.{length, drop}
use Rattle.bits.specs.Lists.{Along, total}
use Rattle.bits.specs.Bits.{Bits, bits_of_number}
use Rattle.bits.specs.BitsLaws.{length_bits}
use Rattle.bits.specs.Bytes.{bits_of}
use Rattle.bits.specs.Codec.{got, field_dec}
use Rattle.bits.specs.CodecLaws.{enc_along}
use Rattle.bits.specs.Reads.{found, Reads}
use Rattle.outcome.specs.Refusals.{bad_index}
use Rattle.differences.specs.Differences.{diffs, diff, tell_difference}
use Rattle.format.specs.Index.{FitsList, neighbours, Index, up, FitsIndex, index_block}
use Rattle.find_parts.proofs.Laws.Index.{an_index, index_at, width_is_lem}
use Rattle.find_parts.proofs.Laws.Lists.{list_bits_lem}
use Rattle.find_parts.proofs.Laws.Standing.{stands_behind, stands_within, number_there}

-- ---- the lists from place p on: l lists stand before it, and n neighbours in them

pub record ListsLeft (lines : ℕ) (s : List ℕ) (l p n : ℕ) (i : Index) : Type 0 where
  pub index : FitsIndex lines i
  pub lists : List (List ℕ)
  pub after : Bits
  pub bits : drop p (bits_of s) ≡ enc_along (neighbours i.width) up l lists ++ after
  pub fits : Along up (FitsList i.width) l lists
  pub count : l + length lists ≡ lines
  pub sum : n + total length lists ≡ total length i.lists
  pub within : p ≤ 8 * length s
  pub small : n ≤ p

module _ (lines : ℕ) (s : List ℕ) {i : Index} {u : Bits} (e : (index_block lines).dec (bits_of s) ≡ got (some i) u) where
  lists_first : ListsLeft lines s 0 8 0 i
  lists_first =
      let I = index_at lines s e in
      let w : length (bits_of_number 8 i.width) ≡ 8 = length_bits 8 i.width in
      record {
        index = I.fits;
        lists = i.lists;
        after = I.after;
        bits = stands_behind s 0 (bits_of_number 8 i.width) _ I.bits 8 w;
        fits = I.fits.lists;
        count = omega (arith, I.fits.count);
        sum = omega arith;
        within = omega (arith, stands_within s 0 (bits_of_number 8 i.width) _ I.bits (omega arith));
        small = omega arith;
      }

-- ---- one list

-- line l's list, at place p, and those behind it
record ListNext (lines : ℕ) (s : List ℕ) (l p n : ℕ) (i : Index) : Type 0 where
  pub value : List ℕ
  pub count : {m q : ℕ} → Reads (field_dec bad_index i.width) s p (found m q) → m ≡ length value
  pub further : ListsLeft lines s (l + 1) (p + (i.width + length value * i.width)) (n + length value) i

module _ {lines : ℕ} {s : List ℕ} {l p n : ℕ} {i : Index} (h : ListsLeft lines s l p n i) where
  list_next : l < lines → ListNext lines s l p n i
  list_next k = go h.lists h.bits h.fits h.count h.sum
    where
      go : (ls : List (List ℕ)) → drop p (bits_of s) ≡ enc_along (neighbours i.width) up l ls ++ h.after → Along up (FitsList i.width) l ls
          → l + length ls ≡ lines → n + total length ls ≡ total length i.lists → ListNext lines s l p n i
      go [] b f c t = absurd (omega arith)
      go (ns ∷ ls) b f c t =
          let w : ℕ = i.width in
          let r : Bits = enc_along (neighbours w) up (suc l) ls ++ h.after in
          let b1 : drop p (bits_of s) ≡ (neighbours w l).enc ns ++ r = b ∙ append_assoc ((neighbours w l).enc ns) (enc_along (neighbours w) up (suc l) ls) h.after in
          let b2 : drop p (bits_of s) ≡ bits_of_number w (length ns) ++ (enc_along (diff w) tell_difference (0, l) (diffs l ns) ++ r) = b1 ∙ append_assoc (bits_of_number w (length ns)) (enc_along (diff w) tell_difference (0, l) (diffs l ns)) r in
          record {
            value = ns;
            count = λ d. number_there bad_index w (enc_along (diff w) tell_difference (0, l) (diffs l ns) ++ r) f.0.count b2 d;
            further = record {
              index = h.index;
              lists = ls;
              after = h.after;
              bits = rw add-one (stands_behind s p ((neighbours w l).enc ns) r b1 (w + length ns * w) (list_bits_lem w l ns));
              fits = rw add-one f.1;
              count = omega arith;
              sum = omega arith;
              within = omega (arith, stands_within s p ((neighbours w l).enc ns) r b1 h.within, list_bits_lem w l ns);
              small = omega (arith, h.small, mul-le-mul_left (length ns) h.index.low);
            };
          }

  -- behind the last list all are counted
  all_counted : lines ≤ l → n ≡ total length i.lists
  all_counted k = go h.lists h.count h.sum
    where
      go : (ls : List (List ℕ)) → l + length ls ≡ lines → n + total length ls ≡ total length i.lists → n ≡ total length i.lists
      go [] c t = omega arith
      go (ns ∷ ls) c t = absurd (omega arith)

-- ---- what code has counted, whatever index the block has: l lists are passed, up to place p, and have n neighbours

abbrev pub Counted : (lines : ℕ) (s : List ℕ) (w l p n : ℕ) → Type 0
Counted lines s w l p n = (i : Index) (u : Bits) → (index_block lines).dec (bits_of s) ≡ got (some i) u → (w ≡ i.width) × ListsLeft lines s l p n i

module _ (lines : ℕ) (s : List ℕ) {w : ℕ} where
  pub counted_none : {q : ℕ} → Reads (field_dec bad_index 8) s 0 (found w q) → Counted lines s w 0 8 0
  counted_none h i u e = (width_is_lem lines s e h, lists_first lines s e)

  pub counted_next : {l p n m q : ℕ} → Counted lines s w l p n → l < lines → Reads (field_dec bad_index w) s p (found m q) → Counted lines s w (l + 1) (p + (w + m * w)) (n + m)
  counted_next {m = m} h k d i u e =
      let (z, left) = h i u e in
      let next = list_next left k in
      let y : m ≡ length next.value = next.count (rw z at d) in
      (z, rw (y, z) next.further)

  -- in a block that is not empty
  module _ {o : Option Index} {u : Bits} (c : 0 < length s) (e : (index_block lines).dec (bits_of s) ≡ got o u) where
    pub counted_within : {l p n : ℕ} → Counted lines s w l p n → (n ≤ p) × (p ≤ 8 * length s) × (w ≤ 16)
    counted_within h = an_index lines s c e λ i q. let (z, left) = h i u (e ∙ ap (λ (x : Option Index). got x u) q) in (left.small, left.within, omega (arith, left.index.high))

    pub count_there : {l p n : ℕ} → Counted lines s w l p n → l < lines → p + w ≤ 8 * length s
    count_there h k =
        an_index lines s c e λ i q.
        let (z, left) = h i u (e ∙ ap (λ (x : Option Index). got x u) q) in
        omega (arith, z, (list_next left k).further.within)

    pub counted_all : {l p n : ℕ} → Counted lines s w l p n → lines ≤ l → some n ≡ map (λ (i : Index). total length i.lists) o
    counted_all h k =
        an_index lines s c e λ i q.
        rw q (ap some (all_counted (h i u (e ∙ ap (λ (x : Option Index). got x u) q)).1 k))
