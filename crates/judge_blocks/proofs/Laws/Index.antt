-- The laws of reading a neighbour index in the order of the code: the width, then for each line a count and that many differences,
-- then zero bits up to the end. A loop goes on reading where it stands, so each law says what the answer from there on makes of the
-- answer of the whole index.
use mathlib.Core.Path.{◌≡◌, refl, sym, ap, ap₂, ◌∙◌}
use Prim.Native.Nat.{ℕ, suc, ◌+◌, ◌-◌, ◌*◌, ◌^◌, ◌≤◌, ◌<◌}
use native.Mathlib.Omega.{arith}
use native.Mathlib.Numerals.{add-one}
use native.Mathlib.Nat.{sub-zero}
use mathlib.Core.Bool.{Bool}
use mathlib.Core.Option.{some}
use mathlib.Core.List.{List, [], ◌∷◌}
use lib.ListN.{length, drop}
use lib.Pow.{pow_mono}
use Rattle.bits.specs.ChoiceLaws.{pick_yes, pick_no, within_high}
use Rattle.bits.specs.Bytes.{bits_of}
use Rattle.bits.specs.BytesLaws.{length_bits_of}
use Rattle.bits.specs.Codec.{Read, got, refused, next, field_dec, along_dec}
use Rattle.bits.specs.CodecLaws.{along, along_back, ranged}
use Rattle.bits.specs.Block.{few, zeros_dec, ended_dec}
use Rattle.bits.proofs.BlockLaws.{few_yes, few_no, ended}
use Rattle.bits.specs.Lists.{total}
use Rattle.bits.specs.Reads.{found, fault, Reads, keeping, passing, summed}
use Rattle.bits.proofs.Laws.Reads.{length_rest, gives, refuses, go_on, stop, made, known, stays, ranged_ok, ranged_low, ranged_high, keeping_got, keeping_refused, below}
use Rattle.bits.proofs.Laws.Loops.{sum_more, along_turn, along_stop, along_done}
use Rattle.bits.proofs.Laws.Parts.{drop_end, maybe_more}
use Rattle.outcome.specs.Refusals.{bad_index}
use Rattle.differences.specs.Differences.{undiffs, diff, tell_difference}
use Rattle.differences.proofs.DifferencesLaws.{length_undiffs}
use Rattle.format.specs.Index.{Index, up, neighbours, index, index_block}
use Rattle.format.specs.SheetSize.{list_size, index_size}
use Rattle.judge_blocks.specs.Answers.{index_dec}

-- ---- what the loops read

-- m lists at place p, the first of line l: z and their bytes in the sheet
abbrev lists_from : (w : ℕ) (s : List ℕ) (z m l p : ℕ) → Read Bool ℕ
lists_from w s z m l p = summed list_size z (along_dec (neighbours w) up m l (drop p (bits_of s)))

-- m differences at place p; i is what those before say
abbrev diffs_from : (w : ℕ) (s : List ℕ) (m : ℕ) (i : ℕ × ℕ) (p : ℕ) → Read Bool (Unit {0})
diffs_from w s m i p = passing (along_dec (diff w) tell_difference m i (drop p (bits_of s)))

-- ---- a list of line l at place p: its count is k, and its differences start at place f

module _ (w l : ℕ) {s : List ℕ} {p k f : ℕ} (K : Reads (field_dec bad_index w) s p (found k f)) where
  diffs_stop : (i : ℕ × ℕ) {j q e x : ℕ} → j < k → diffs_from w s (k - j) i q ≡ diffs_from w s k (0, l) f → Reads (diff w i).dec s q (fault e x)
      → Reads (neighbours w l).dec s p (fault e x)
  diffs_stop i {j} {q} {e} {x} t inv h =
      let z : along_dec (diff w) tell_difference k (0, l) (drop f (bits_of s)) ≡ refused e (8 * length s - x) =
      keeping_refused _ _ (sym inv ∙ ap passing (along_stop (diff w) tell_difference k j i (drop q (bits_of s)) t h.is)) in
      made _ _ (go_on _ (λ n. along (diff w) tell_difference n (0, l)) K (refuses _ e x h.within z))

  diffs_turn : (i : ℕ × ℕ) {j q d y : ℕ} → j < k → diffs_from w s (k - j) i q ≡ diffs_from w s k (0, l) f → Reads (diff w i).dec s q (found d y)
      → diffs_from w s (k - (j + 1)) (tell_difference i d) y ≡ diffs_from w s k (0, l) f
  diffs_turn i {j} {q} t inv h = sym (along_turn (diff w) tell_difference k j i (drop q (bits_of s)) (λ ds. tt) t h.is) ∙ inv

  diffs_done : {P : Type 0} (i : ℕ × ℕ) {j q : ℕ} → q ≤ 8 * length s → k ≤ j → diffs_from w s (k - j) i q ≡ diffs_from w s k (0, l) f
      → ((ns : List ℕ) → length ns ≡ k → Reads (neighbours w l).dec s p (found ns q) → P) → P
  diffs_done i {j} {q} t h inv g =
      keeping_got _ _ (sym inv ∙ ap passing (along_done (diff w) tell_difference k j i (drop q (bits_of s)) h)) λ ds z _.
      g (undiffs l ds) (length_undiffs l ds ∙ (along_back (diff w) tell_difference k (0, l) _ ds _ z).0.0)
      (made _ _ (go_on _ (λ n. along (diff w) tell_difference n (0, l)) K (gives _ ds q t z)))

count_small : {s : List ℕ} {w p k f : ℕ} → w ≤ 16 → Reads (field_dec bad_index w) s p (found k f) → k ≤ 65535
count_small {w = w} h K = let z : 2 ^ w ≤ 2 ^ 16 = pow_mono h in omega (arith, below bad_index w K)

-- ---- the index: the block s, of n lines

pub width_most : {s : List ℕ} {w p f : ℕ} → Reads (ranged bad_index 8 1 16).dec s p (found w f) → w ≤ 16
width_most {w = w} h = within_high 1 16 w ((ranged bad_index 8 1 16).back _ w _ h.is).0.1

pub index_none : (n : ℕ) (s : List ℕ) → length s ≡ 0 → Reads (index_dec n) s 0 (found 0 (8 * length s))
unfolding index_dec index_block bits_of
index_none n [] h = record { is = refl; within = omega arith }
index_none n (x ∷ s) h = absurd (omega arith)

module _ (n : ℕ) (s : List ℕ) (some_bytes : 0 < length s) where
  some_bits : 0 < length (bits_of s)
  some_bits = rw (length_bits_of s) (omega arith)

  open_index : index_dec n (bits_of s) ≡ keeping index_size (next (ended_dec (index n) bad_index (bits_of s)) (λ a r. got (some a) r))
  unfolding index_dec index_block
  open_index = ap (keeping index_size) (maybe_more (ended (index n) bad_index) (bits_of s) some_bits)

  index_bad : {e q : ℕ} → Reads (index n).dec s 0 (fault e q) → Reads (index_dec n) s 0 (fault e q)
  unfolding ended_dec
  index_bad h = record { is = open_index ∙ rw h.is; within = h.within }

  pub width_bad : {e q : ℕ} → Reads (ranged bad_index 8 1 16).dec s 0 (fault e q) → Reads (index_dec n) s 0 (fault e q)
  unfolding index
  width_bad h = index_bad (made _ _ (stop _ _ h))

  -- the lists have been read up to place p
  module _ {i : Index} {p : ℕ} (h : Reads (index n).dec s 0 (found i p)) where
    abbrev left : Read Bool Index → Read Bool ℕ
    left o = keeping index_size (next o (λ a r. got (some a) r))

    index_dirt : {q : ℕ} → Reads (zeros_dec bad_index) s p (fault bad_index q) → Reads (index_dec n) s 0 (fault bad_index q)
    unfolding ended_dec
    index_dirt k = record { is = open_index ∙ rw (h.is, k.is); within = k.within }

    index_long : {q : ℕ} → Reads (zeros_dec bad_index) s p (found tt q) → 8 ≤ 8 * length s - p → Reads (index_dec n) s 0 (fault bad_index (p + 7))
    unfolding ended_dec
    index_long k l =
        let m : ℕ = length (drop p (bits_of s)) in
        record {
          is = open_index ∙ rw (h.is, k.is)
              (ap left (pick_no (few m) _ _ (few_no m (rw (length_rest s p) l))) ∙ ap (refused bad_index) (ap (λ (j : ℕ). j - 7) (length_rest s p) ∙ omega arith));
          within = omega arith;
        }

    index_good : {q : ℕ} → Reads (zeros_dec bad_index) s p (found tt q) → 8 * length s - p < 8
        → Reads (index_dec n) s 0 (found (4 + total list_size i.lists) (8 * length s))
    unfolding ended_dec
    index_good k l =
        let m : ℕ = length (drop p (bits_of s)) in
        record {
          is = open_index ∙ rw (h.is, k.is)
              (ap left (pick_yes (few m) _ _ (few_yes m (rw (length_rest s p) l))) ∙ ap (got (index_size (some i))) (sym (drop_end s (8 * length s) (omega arith))));
          within = omega arith;
        }

  -- the width is w, and the lists start at place f
  module _ {w f : ℕ} (W : Reads (ranged bad_index 8 1 16).dec s 0 (found w f)) where
    lists_stop : (z : ℕ) {l p e q : ℕ} → l < n → lists_from w s z (n - l) l p ≡ lists_from w s 4 n 0 f → Reads (neighbours w l).dec s p (fault e q)
        → Reads (index_dec n) s 0 (fault e q)
    unfolding index
    lists_stop z {l} {p} {e} {q} k inv h =
        let y : along_dec (neighbours w) up n 0 (drop f (bits_of s)) ≡ refused e (8 * length s - q) =
        keeping_refused _ _ (sym inv ∙ ap (summed list_size z) (along_stop (neighbours w) up n l l (drop p (bits_of s)) k h.is)) in
        index_bad (made _ _ (go_on _ (λ w. along (neighbours w) up n 0) W (refuses _ e q h.within y)))

    lists_turn : (z y : ℕ) {l p : ℕ} {ns : List ℕ} {q : ℕ} → y ≡ z + list_size ns → l < n → lists_from w s z (n - l) l p ≡ lists_from w s 4 n 0 f
        → Reads (neighbours w l).dec s p (found ns q) → lists_from w s y (n - (l + 1)) (l + 1) q ≡ lists_from w s 4 n 0 f
    lists_turn z y {l} {p} {ns} {q} e k inv h =
        let more : keeping (λ xs. z + total list_size xs) (along_dec (neighbours w) up (n - l) l (drop p (bits_of s))) ≡ lists_from w s (z + list_size ns) (n - (l + 1)) (suc l) q =
        along_turn (neighbours w) up n l l (drop p (bits_of s)) _ k h.is ∙ sum_more list_size z ns (along_dec (neighbours w) up (n - (l + 1)) (suc l) (drop q (bits_of s))) in
        ap₂ (λ (x j : ℕ). lists_from w s x (n - (l + 1)) j q) e (add-one l) ∙ sym more ∙ inv

    lists_done : {P : Type 0} {z l p : ℕ} → p ≤ 8 * length s → n ≤ l → lists_from w s z (n - l) l p ≡ lists_from w s 4 n 0 f
        → ((i : Index) → 4 + total list_size i.lists ≡ z → Reads (index n).dec s 0 (found i p) → P) → P
    unfolding index
    lists_done {z = z} {l} {p} i k inv g =
        keeping_got _ _ (sym inv ∙ ap (summed list_size z) (along_done (neighbours w) up n l l (drop p (bits_of s)) k)) λ ls y e.
        g (record { width = w; lists = ls }) (omega arith) (made _ _ (go_on _ (λ w. along (neighbours w) up n 0) W (gives _ ls p i y)))

-- ---- the loops, each with what it carries: l lists of the block s are read, with z bytes in the sheet, and the next is at place p

pub record Listed (n : ℕ) (s : List ℕ) (w f z l p : ℕ) : Type 0 where
  pub some_bytes : 0 < length s
  pub width : Reads (ranged bad_index 8 1 16).dec s 0 (found w f)
  pub small : z ≤ 4 + 131073 * l
  pub within : p ≤ 8 * length s
  pub is : lists_from w s z (n - l) l p ≡ lists_from w s 4 n 0 f

pub listed_start : (n : ℕ) (s : List ℕ) {w f : ℕ} → 0 < length s → Reads (ranged bad_index 8 1 16).dec s 0 (found w f) → Listed n s w f 4 0 f
listed_start n s {w} {f} b W =
    record { some_bytes = b; width = W; small = omega arith; within = W.within; is = ap (λ (k : ℕ). lists_from w s 4 k 0 f) (sub-zero n) }

-- of the k differences of list l, the first of which is at place f, j are read; the next is at place q, and may be least to most
pub record Differing (s : List ℕ) (w l k f j least most q : ℕ) : Type 0 where
  pub within : q ≤ 8 * length s
  pub is : diffs_from w s (k - j) (least, most) q ≡ diffs_from w s k (0, l) f

module _ {n : ℕ} {s : List ℕ} {w f z l p : ℕ} (L : Listed n s w f z l p) where
  pub narrow : w ≤ 16
  narrow = width_most L.width

  -- a list follows
  module _ (t : l < n) where
    list_bad : {e q : ℕ} → Reads (neighbours w l).dec s p (fault e q) → Reads (index_dec n) s 0 (fault e q)
    list_bad h = lists_stop n s L.some_bytes L.width z t L.is h

    pub count_cut : {q : ℕ} → Reads (field_dec bad_index w) s p (fault bad_index q) → Reads (index_dec n) s 0 (fault bad_index q)
    count_cut h = list_bad (made _ _ (stop _ _ h))

    -- of k numbers
    module _ {k g : ℕ} (K : Reads (field_dec bad_index w) s p (found k g)) where
      pub count_few : k ≤ 65535
      count_few = count_small narrow K

      pub differing_start : Differing s w l k g 0 0 l g
      differing_start = record { within = K.within; is = ap (λ (i : ℕ). diffs_from w s i (0, l) g) (sub-zero k) }

      module _ {j least most q : ℕ} (D : Differing s w l k g j least most q) where
        -- a difference follows
        module _ (u : j < k) where
          diff_bad : {x : ℕ} → Reads (diff w (least, most)).dec s q (fault bad_index x) → Reads (index_dec n) s 0 (fault bad_index x)
          diff_bad h = list_bad (diffs_stop w l K (least, most) u D.is h)

          pub diff_cut : {x : ℕ} → Reads (field_dec bad_index w) s q (fault bad_index x) → Reads (index_dec n) s 0 (fault bad_index x)
          diff_cut h = diff_bad (stays _ bad_index _ h)

          module _ {d y : ℕ} (R : Reads (field_dec bad_index w) s q (found d y)) where
            pub diff_low : d < least → Reads (index_dec n) s 0 (fault bad_index q)
            diff_low h = diff_bad (ranged_low bad_index _ R least most D.within h)

            pub diff_high : most < d → Reads (index_dec n) s 0 (fault bad_index q)
            diff_high h = diff_bad (ranged_high bad_index _ R least most D.within h)

            pub differing_turn : least ≤ d → d ≤ most → Differing s w l k g (j + 1) 1 (most - d) y
            differing_turn h i = record { within = R.within; is = diffs_turn w l K (least, most) u D.is (ranged_ok bad_index _ R least most h i) }

        pub listed_turn : k ≤ j → Listed n s w f (z + (3 + 2 * k)) (l + 1) q
        listed_turn h =
            diffs_done w l K (least, most) D.within h D.is λ ns e r.
            record { some_bytes = L.some_bytes; width = L.width; small = omega (arith, L.small, count_few); within = D.within; is = lists_turn n s L.some_bytes L.width z _ (omega arith) t L.is r }

  -- no list follows
  module _ (t : n ≤ l) where
    pub end_dirt : {q : ℕ} → Reads (zeros_dec bad_index) s p (fault bad_index q) → Reads (index_dec n) s 0 (fault bad_index q)
    end_dirt h = lists_done n s L.some_bytes L.width L.within t L.is λ i e r. index_dirt n s L.some_bytes r h

    module _ {q : ℕ} (Z : Reads (zeros_dec bad_index) s p (found tt q)) where
      pub end_far : 8 ≤ 8 * length s - p → Reads (index_dec n) s 0 (fault bad_index (p + 7))
      end_far h = lists_done n s L.some_bytes L.width L.within t L.is λ i e r. index_long n s L.some_bytes r Z h

      pub end_good : 8 * length s - p < 8 → Reads (index_dec n) s 0 (found z (8 * length s))
      end_good h =
          lists_done n s L.some_bytes L.width L.within t L.is λ i e r.
          known (ap (λ (m : ℕ). found m (8 * length s)) e) (index_good n s L.some_bytes r Z h)
