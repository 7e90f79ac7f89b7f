-- The index, part by part: what the block has where a neighbour, a list, the lists of all lines and the whole index are read. Each
-- record takes one step of reading apart; its law makes it of the answer that the codec gives.
use mathlib.Core.Path.{◌≡◌, refl, sym, ap, ◌∙◌}
use Prim.Native.Nat.{ℕ, suc, ◌+◌, ◌-◌, ◌*◌, ◌≤◌, ◌<◌}
use native.Mathlib.Omega.{arith}
use native.Mathlib.Numerals.{add-one}
use mathlib.Core.Bool.{Bool}
use mathlib.Core.Option.{Option, some}
use mathlib.Core.List.{List, [], ◌∷◌, ◌++◌, append-nil}
use lib.ListN.{length, take, drop}
use lib.Dec.{leb, leb→le}
use lib.Seq.{drop-drop}
use Rattle.bits.specs.Choice.{within}
use Rattle.bits.specs.ChoiceLaws.{within_high}
use Rattle.bits.specs.Lists.{All, total}
use Rattle.bits.specs.Bits.{Bits, bits_of_number}
use Rattle.bits.specs.Bytes.{Byte, bits_of}
use Rattle.bits.specs.BytesLaws.{length_bits_of}
use Rattle.bits.specs.Codec.{Read, got, Codec, field_dec, then_dec, along_dec, via_dec, only_dec}
use Rattle.bits.specs.CodecLaws.{pick_got, next_got, field, field_there, along, along_back, ranged}
use Rattle.bits.specs.Block.{few, ended_dec, zeros_dec}
use Rattle.bits.proofs.BlockLaws.{ended}
use Rattle.bits.specs.Reads.{Reads, found, keeping}
use Rattle.bits.proofs.Laws.Reads.{length_rest, known, go_on, made, keeping_got, unkept}
use Rattle.bits.proofs.Laws.Parts.{maybe_more}
use Rattle.outcome.specs.Refusals.{bad_index}
use Rattle.differences.specs.Differences.{undiffs, diff, tell_difference}
use Rattle.differences.proofs.DifferencesLaws.{length_undiffs, falls_count}
use Rattle.format.specs.Index.{Index, neighbours, up, index, index_block}
use Rattle.read_blocks.specs.ListOuts.{numbers_dec}
use Rattle.find_parts.proofs.Laws.Front.{front}

-- ---- a field

-- a field that is read has its bits there
field_reads : (w : ℕ) {s : List ℕ} {p v : ℕ} {r : Bits} → p ≤ 8 * length s → field_dec bad_index w (drop p (bits_of s)) ≡ got v r
    → Reads (field_dec bad_index w) s p (found v (p + w)) × (r ≡ drop (p + w) (bits_of s))
field_reads w {s} {p} {v} {r} h e =
    let (t, y, z) = pick_got (leb w (length (drop p (bits_of s)))) _ _ bad_index _ e in
    let l : w ≤ 8 * length s - p = rw (length_rest s p) at (leb→le w (length (drop p (bits_of s))) t) in
    let d : r ≡ drop (p + w) (bits_of s) = sym z ∙ drop-drop w p (bits_of s) in
    (record { is = e ∙ ap (got v) d; within = omega arith }, d)

-- two reads of the same find the same
pub one_value : {A : Type 0} {d : Bits → Read Bool A} {s : List ℕ} {p q : ℕ} {a b : A} {r : Bits} → d (drop p (bits_of s)) ≡ got a r → Reads d s p (found b q)
    → (b ≡ a) × (r ≡ drop q (bits_of s))
one_value e h = let k = h.is in (cc, cc)

-- ---- a neighbour

-- values along a state: where one is still to come, it is the first
along_next : {A I P : Type 0} (c : I → Codec Bool A) (m : I → A → I) (n j : ℕ) (i : I) (s : Bits) {xs : List A} {u : Bits} → j < n
    → along_dec c m (n - j) i s ≡ got xs u
    → ((x : A) (ys : List A) (r : Bits) → (c i).dec s ≡ got x r → along_dec c m (n - (j + 1)) (m i x) r ≡ got ys u → xs ≡ x ∷ ys → P) → P
along_next c m n j i s h e f =
    let z : n - j ≡ suc (n - (j + 1)) = omega arith in
    next_got ((c i).dec s) _ (ap (λ (k : ℕ). along_dec c m k i s) (sym z) ∙ e) λ x r d e1.
    next_got (along_dec c m (n - (j + 1)) (m i x) r) _ e1 λ ys q d1 e2. f x ys r d (d1 ∙ ap (got ys) (cc)) (cc)

-- the difference at place p, of n the one behind i others, and the neighbours from it on; number is the neighbour before it
pub record NumberAt (w n i number : ℕ) (s : List ℕ) (p : ℕ) (rest : List ℕ) (left : Bits) : Type 0 where
  pub value : ℕ
  pub fits : value ≤ number
  pub there : Reads (field_dec bad_index w) s p (found value (p + w))
  pub more : List ℕ
  pub is : rest ≡ (number - value) ∷ more
  pub next : numbers_dec w (n - (i + 1)) 1 (number - value) (drop (p + w) (bits_of s)) ≡ got more left

pub number_at : (w n i m number : ℕ) (s : List ℕ) (p : ℕ) {rest : List ℕ} {left : Bits} → i < n → p ≤ 8 * length s
    → numbers_dec w (n - i) m number (drop p (bits_of s)) ≡ got rest left → NumberAt w n i number s p rest left
unfolding only_dec
number_at w n i m number s p h k e =
    keeping_got (undiffs number) (along_dec (diff w) tell_difference (n - i) (m, number) (drop p (bits_of s))) e λ ds e1 e2.
    along_next (diff w) tell_difference n i (m, number) (drop p (bits_of s)) h e1 λ d ds' r e3 e4 e5.
    next_got (field_dec bad_index w (drop p (bits_of s))) _ e3 λ v q e6 e7.
    let (t, y, z) = pick_got (within m number v) v q bad_index _ e7 in
    let (there, behind) = field_reads w k (e6 ∙ ap (λ (x : ℕ). got x q) y) in
    record {
      value = d;
      fits = within_high m number d (rw y at t);
      there = there;
      more = undiffs (number - d) ds';
      is = sym e2 ∙ ap (undiffs number) e5;
      next = ap (numbers_dec w (n - (i + 1)) 1 (number - d)) (sym behind ∙ z) ∙ ap (keeping (undiffs (number - d))) e4;
    }

pub numbers_end : (w n i m number : ℕ) (s : Bits) → n ≤ i → numbers_dec w (n - i) m number s ≡ got [] s
numbers_end w n i m number s h = let z : n - i ≡ 0 = omega arith in ap (λ (k : ℕ). numbers_dec w k m number s) z

pub numbers_length : (w n m l : ℕ) (s : Bits) {ns : List ℕ} {u : Bits} → numbers_dec w n m l s ≡ got ns u → length ns ≡ n
numbers_length w n m l s e =
    keeping_got (undiffs l) (along_dec (diff w) tell_difference n (m, l) s) e λ ds e1 e2.
    ap length (sym e2) ∙ length_undiffs l ds ∙ (along_back (diff w) tell_difference n (m, l) s ds _ e1).0.0

pub twos : (ns : List ℕ) → total (λ n. 2) ns ≡ 2 * length ns
twos [] = refl
twos (n ∷ ns) = omega (arith, twos ns)

-- ---- a list

-- line l's list at place p: its count, then its differences
pub record ListParts (w l : ℕ) (s : List ℕ) (p : ℕ) (ns : List ℕ) (left : Bits) : Type 0 where
  pub count : ℕ
  pub few : count ≤ suc l
  pub there : Reads (field_dec bad_index w) s p (found count (p + w))
  pub numbers : numbers_dec w count 0 l (drop (p + w) (bits_of s)) ≡ got ns left

pub list_parts : (w l : ℕ) (s : List ℕ) (p : ℕ) {ns : List ℕ} {left : Bits} → p ≤ 8 * length s → (neighbours w l).dec (drop p (bits_of s)) ≡ got ns left → ListParts w l s p ns left
unfolding via_dec then_dec
list_parts w l s p {ns} {left} h e =
    let x : Bits = drop p (bits_of s) in
    next_got (then_dec (field bad_index w) (λ n. along (diff w) tell_difference n (0, l)) x) _ e λ t u e1 e2.
    next_got (field_dec bad_index w x) _ e1 λ n r e3 e4.
    next_got (along_dec (diff w) tell_difference n (0, l) r) _ e4 λ ds q e5 e6.
    let (there, behind) = field_reads w h e3 in
    let z : undiffs l ds ≡ ns = cc in
    let y : q ≡ left = cc in
    let numbers : numbers_dec w n 0 l (drop (p + w) (bits_of s)) ≡ got ns left =
    ap (numbers_dec w n 0 l) (sym behind) ∙ rw (e5, z, y) in
    record {
      count = n;
      few = omega (arith, falls_count 0 l ns (omega arith) ((neighbours w l).back x ns left e).0.falls, numbers_length w n 0 l (drop (p + w) (bits_of s)) numbers);
      there = there;
      numbers = numbers;
    }

-- a list is read where its parts are
pub list_reads : (w l : ℕ) {s : List ℕ} {p q r n : ℕ} {ns : List ℕ} → Reads (field_dec bad_index w) s p (found n q) → Reads (numbers_dec w n 0 l) s q (found ns r)
    → Reads (neighbours w l).dec s p (found ns r)
list_reads w l {r = r} {n = n} h k =
    unkept {d = along_dec (diff w) tell_difference n (0, l)} (undiffs l) k λ ds e z.
    known (ap (λ (xs : List ℕ). found xs r) e) (made _ _ (go_on (field bad_index w) (λ n. along (diff w) tell_difference n (0, l)) h z))

-- ---- the lists of all lines

-- line l's list at place p, and those of the lines behind it
pub record ListAt (w lines l : ℕ) (s : List ℕ) (p : ℕ) (rest : List (List ℕ)) (left : Bits) : Type 0 where
  pub value : List ℕ
  pub after : Bits
  pub there : (neighbours w l).dec (drop p (bits_of s)) ≡ got value after
  pub more : List (List ℕ)
  pub is : rest ≡ value ∷ more
  pub next : along_dec (neighbours w) up (lines - (l + 1)) (l + 1) after ≡ got more left

pub list_at_lem : (w lines l : ℕ) (s : List ℕ) (p : ℕ) {rest : List (List ℕ)} {left : Bits} → l < lines
    → along_dec (neighbours w) up (lines - l) l (drop p (bits_of s)) ≡ got rest left → ListAt w lines l s p rest left
list_at_lem w lines l s p h e =
    along_next (neighbours w) up lines l l (drop p (bits_of s)) h e λ ns nss r there more is.
    record { value = ns; after = r; there = there; more = nss; is = is; next = rw (← add-one l) at more }

-- ---- the block

-- the index in the block s: its width is the first byte, and its lists follow
pub record IndexParts (lines : ℕ) (s : List ℕ) (o : Option Index) : Type 0 where
  pub value : Index
  pub is : o ≡ some value
  pub narrow : value.width ≤ 16
  pub there : Reads (field_dec bad_index 8) s 0 (found value.width 8)
  pub copied : take 1 s ≡ value.width ∷ []
  pub left : Bits
  pub lists : along_dec (neighbours value.width) up lines 0 (drop 8 (bits_of s)) ≡ got value.lists left

-- without the block's filling
unfilled : {P : Type 0} (lines : ℕ) (s : Bits) {o : Option Index} {u : Bits} → 0 < length s → (index_block lines).dec s ≡ got o u
    → ((i : Index) (r : Bits) → (index lines).dec s ≡ got i r → o ≡ some i → P) → P
unfolding index_block ended_dec
unfilled lines s {o} h e f =
    next_got (ended_dec (index lines) bad_index s) _ (sym (maybe_more (ended (index lines) bad_index) s h) ∙ e) λ i r e1 e2.
    next_got ((index lines).dec s) _ e1 λ j q e3 e4.
    next_got (zeros_dec bad_index q) _ e4 λ _ _ e5 e6.
    let same : j ≡ i = (pick_got (few (length q)) j [] bad_index _ e6).1 in
    let is : some i ≡ o = cc in
    f j q e3 (sym is ∙ ap some (sym same))

pub index_parts : (lines : ℕ) (s : List ℕ) {o : Option Index} {u : Bits} → All Byte s → 0 < length s → (index_block lines).dec (bits_of s) ≡ got o u
    → IndexParts lines s o
unfolding index via_dec then_dec bits_of
index_parts lines s f h e =
    unfilled lines (bits_of s) (omega (arith, length_bits_of s)) e λ i r e1 is.
    next_got (then_dec (ranged bad_index 8 1 16) (λ w. along (neighbours w) up lines 0) (bits_of s)) _ e1 λ t q e2 e3.
    next_got ((ranged bad_index 8 1 16).dec (bits_of s)) _ e2 λ w y e4 e5.
    next_got (along_dec (neighbours w) up lines 0 y) _ e5 λ nss z e6 e7.
    let whole : record { width = w; lists = nss } ≡ i = cc in
    let (fits, bits) = (ranged bad_index 8 1 16).back (bits_of s) w y e4 in
    let at = front s 0 (w ∷ []) y f (fits.0, tt) (omega arith) (bits ∙ ap (λ (b : Bits). b ++ y) (sym (append-nil (bits_of_number 8 w)))) in
    record {
      value = record { width = w; lists = nss };
      is = is ∙ ap some (sym whole);
      narrow = within_high 1 16 w fits.1;
      there = record { is = ap (field_dec bad_index 8) bits ∙ field_there bad_index 8 w y fits.0 ∙ ap (got w) at.after; within = omega arith };
      copied = at.is;
      left = z;
      lists = ap (along_dec (neighbours w) up lines 0) (sym at.after) ∙ e6;
    }
