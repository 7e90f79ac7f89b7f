-- The lists of neighbours in an index block: where each stands, and the block's width and lists.
use mathlib.Core.Path.{◌≡◌, ap, ◌∙◌}
use Prim.Native.Nat.{ℕ, suc, ◌+◌, ◌*◌, ◌≤◌}
use native.Mathlib.Omega.{arith}
use native.Mathlib.Numerals.{add-one}
use mathlib.Core.Option.{some}
use mathlib.Core.List.{List, ◌∷◌, ◌++◌, append_assoc}
use lib.ListN.{length, drop}
use lib.Pow.{pow_mono}
use Rattle.bits.specs.Bits.{Bits, bits_of_number}
use Rattle.bits.specs.BitsLaws.{length_bits}
use Rattle.bits.specs.Bytes.{bits_of}
use Rattle.bits.specs.Codec.{got, field_dec}
use Rattle.bits.specs.CodecLaws.{enc_all, enc_along, field}
use Rattle.bits.specs.Reads.{found, Reads}
use Rattle.outcome.specs.Refusals.{bad_index}
use Rattle.differences.specs.Differences.{diffs}
use Rattle.format.specs.Index.{Index, neighbours, up, index_block}
use Rattle.find_parts.proofs.Laws.Standing.{stands_behind, stands_within, number_there}
use Rattle.find_parts.proofs.Laws.Lists.{list_is, list_bits_lem}
use Rattle.find_parts.proofs.Laws.Index.{IndexAt, index_at}
use Rattle.order_walk.specs.Walk.{WalkAt, ListsAt, ListHere}

-- ---- one list in the block

module _ (w : ℕ) (s : List ℕ) (p l : ℕ) (ns : List ℕ) {u : Bits} (h : ListHere w s p l ns u) where
  -- its count, then its differences
  abbrev behind : Bits
  behind = enc_all (field bad_index w) (diffs l ns) ++ u

  count_bits : drop p (bits_of s) ≡ bits_of_number w (length ns) ++ behind
  count_bits =
      h.bits ∙ ap (λ (b : Bits). b ++ u) (list_is w l ns)
      ∙ append_assoc (bits_of_number w (length ns)) (enc_all (field bad_index w) (diffs l ns)) u

  pub count_there : p + w ≤ 8 * length s
  count_there = omega (arith, stands_within s p (bits_of_number w (length ns)) behind count_bits h.within, length_bits w (length ns))

  pub count_is : {m q : ℕ} → Reads (field_dec bad_index w) s p (found m q) → m ≡ length ns
  count_is f = number_there bad_index w behind h.fits.count count_bits f

  pub count_small : w ≤ 16 → length ns ≤ 65535
  count_small n = omega (arith, h.fits.count, pow_mono {i = w} {j = 16} n)

  pub list_there : p + (w + length ns * w) ≤ 8 * length s
  list_there = omega (arith, stands_within s p ((neighbours w l).enc ns) u h.bits h.within, list_bits_lem w l ns)

  pub walk_starts : {m : ℕ} → m ≡ length ns → WalkAt s (record { width = w; at = p + w; left = m; base = l }) ns u
  walk_starts e =
      record {
        left = e;
        bits = stands_behind s p (bits_of_number w (length ns)) behind count_bits w (length_bits w (length ns));
        within = count_there;
        least = 0;
        falls = h.fits.falls;
        small = h.fits.diffs;
      }

-- ---- the first of the lists, and those behind it

module _ (w : ℕ) (s : List ℕ) (l p : ℕ) (ns : List ℕ) (ls : List (List ℕ)) {u : Bits} (h : ListsAt w s l p (ns ∷ ls) u) where
  abbrev pub rest : Bits
  rest = enc_along (neighbours w) up (suc l) ls ++ u

  pub first_here : ListHere w s p l ns rest
  first_here =
      record {
        bits = h.bits ∙ append_assoc ((neighbours w l).enc ns) (enc_along (neighbours w) up (suc l) ls) u;
        fits = h.fits.0;
        within = h.within;
      }

  pub others_at : ListsAt w s (l + 1) (p + (w + length ns * w)) ls u
  others_at =
      rw (add-one l) (record {
        bits = stands_behind s p ((neighbours w l).enc ns) rest first_here.bits (w + length ns * w) (list_bits_lem w l ns);
        fits = h.fits.1;
        within = list_there w s p l ns first_here;
      })

-- ---- the block

module _ (s : List ℕ) (lines : ℕ) {i : Index} {u : Bits} (e : (index_block lines).dec (bits_of s) ≡ got (some i) u) where
  pub before : IndexAt lines s i
  before = index_at lines s e

  abbrev first : Bits
  first = bits_of_number 8 i.width

  pub width_there : 8 ≤ 8 * length s
  width_there = omega (arith, stands_within s 0 first _ before.bits (omega arith), length_bits 8 i.width)

  pub width_narrow : i.width ≤ 16
  width_narrow = before.fits.high

  pub as_many : length i.lists ≡ lines
  as_many = before.fits.count

  pub lists_stand : ListsAt i.width s 0 8 i.lists before.after
  lists_stand =
      record {
        bits = stands_behind s 0 first _ before.bits 8 (length_bits 8 i.width);
        fits = before.fits.lists;
        within = width_there;
      }
