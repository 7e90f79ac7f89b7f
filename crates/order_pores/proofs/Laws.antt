-- What a removal leaves of a payload of pores: the bits of the new payload, and going over the old one's lines, where each stands and
-- those that stay, whatever pores it says.
use mathlib.Core.Path.{◌≡◌, refl, sym, ap, subst, ◌∙◌}
use Prim.Native.Nat.{ℕ, ◌+◌, ◌*◌, ◌/◌, ◌≤◌}
use native.Mathlib.Omega.{arith}
use mathlib.Core.Option.{none, some}
use Rattle.std.specs.Prelude.{Option, Some, None, IsSome}
use mathlib.Core.List.{List, [], ◌∷◌, ◌++◌, map, append_assoc}
use lib.ListN.{length, take, drop, length-append}
use lib.Seq.{take_at, drop_at}
use Rattle.bits.specs.Bits.{Bits, bits_of_number, zeros, pad, filled}
use Rattle.bits.specs.BitsLaws.{length_bits}
use Rattle.bits.specs.Bytes.{bits_of, in_bytes}
use Rattle.bits.specs.BytesLaws.{length_bits_of}
use Rattle.bits.specs.Codec.{got, value_of, field_dec}
use Rattle.bits.specs.CodecLaws.{enc_each}
use Rattle.bits.specs.Reads.{found, Reads}
use Rattle.bits.proofs.Laws.Reads.{length_rest}
use Rattle.put_bytes.specs.Laid.{Laid}
use Rattle.put_bits.proofs.Bytes.{filled_behind, filled_length}
use Rattle.put_bits.proofs.Laws.{put_none, put_laid}
use Rattle.put_bits.proofs.Chain.{◌then◌, putting_none}
use Rattle.outcome.specs.Refusals.{bad_pores}
use Rattle.find_parts.proofs.Laws.Standing.{number_there}
use Rattle.find_parts.proofs.Laws.Blocks.{whole_is}
use Rattle.pores_elements.proofs.BeforeLaws.{row_stops}
use Rattle.pores_elements.proofs.ElementLaws.{stop_zero, stop_zeros}
use Rattle.pores_parts.specs.Parts.{Pores, FitsPores}
use Rattle.pores.specs.Payload.{pores_block, pores_in}
use Rattle.pores_parts.proofs.PartsLaws.{pores_match}
use Rattle.pores_parts.specs.Lines.{line, front}
use Rattle.pores.specs.PayloadLaws.{pores_got, pores_fit}
use Rattle.pores.specs.Keep.{distances_at, keep}
use Rattle.pores_lines.specs.Found.{LineStands, LineFound}
use Rattle.pores_lines.specs.declared.PoreLine.{PoreLine}
use Rattle.orders.specs.Survive.{survivors}
use Rattle.orders.specs.Listed.{removal_lines}
use Rattle.order_removal.proofs.Laws.Kept.{kept_survivors}
use Rattle.order_removal.proofs.Laws.Going.{Going}
use Rattle.order_lines.specs.Copy.{Copied}
use Rattle.order_lines.specs.Lines.{kept_from, EachAt}
use Rattle.order_lines.proofs.Laws.Each.{same, Stand, Ends, first_bits, Sized, ToPut, all_sized_lem, all_put}
use Rattle.order_pores.specs.Kept.{kept_payload, PoresSized, PoresPut}

-- ---- the payload: 24 bits ahead, the lines, zero bits

abbrev ahead : Pores → Bits
ahead v = front.enc (v.resolution, v.e)

abbrev line_bits : ℕ → List (List ℕ) → Bits
line_bits e ls = enc_each (line e).enc ls

ahead_long : (v : Pores) → length (ahead v) ≡ 24
ahead_long v = simp (length-append, length_bits)

block_bits : (n : ℕ) (v : Pores) → (pores_block n).enc v ≡ ahead v ++ filled (line_bits v.e v.lines)
unfolding pores_block
block_bits n v = refl

-- the zero bits
abbrev pub filling : ℕ → Pores → Bits
filling e v = zeros (pad (length (line_bits e v.lines)))

-- the bits of the lines that stay
abbrev pub kept_bits : (removal : List ℕ) (e : ℕ) → Pores → Bits
kept_bits removal e v = line_bits e (kept_from (removal_lines removal) 0 v.lines)

module _ (n : ℕ) (s : List ℕ) (v : Pores) (h : pores_in n s ≡ some v) where
  pub fits : FitsPores n v
  fits = pores_fit n s v h

  bits_are : bits_of s ≡ ahead v ++ filled (line_bits v.e v.lines)
  bits_are = pores_got n s v h λ e. (whole_is (pores_block n) s e).1 ∙ block_bits n v

  ahead_is : take 24 (bits_of s) ≡ ahead v
  ahead_is = ap (take 24) bits_are ∙ take_at (ahead v) (filled (line_bits v.e v.lines)) 24 (ahead_long v)

  pub three_bytes : 24 ≤ 8 * length s
  three_bytes = omega (arith, length_bits_of s, ap length bits_are ∙ length-append (ahead v) (filled (line_bits v.e v.lines)), ahead_long v)

  lines_at : EachAt (line v.e).enc (line v.e).Fits s 24 v.lines (filling v.e v)
  lines_at =
      record {
        bits = ap (drop 24) bits_are ∙ drop_at (ahead v) (filled (line_bits v.e v.lines)) 24 (ahead_long v);
        fits = ((pores_match n).fits v fits).1.1;
        within = three_bytes;
      }

  -- what is read as e
  pub e_is : {x q : ℕ} → Reads (field_dec bad_pores 8) s 16 (found x q) → x ≡ v.e
  e_is R =
      let r : Bits = filled (line_bits v.e v.lines) in
      let a : Bits = bits_of_number 16 v.resolution in
      let b : Bits = bits_of_number 8 v.e in
      let z : drop 16 (bits_of s) ≡ b ++ r = ap (drop 16) (bits_are ∙ append_assoc a b r) ∙ drop_at a (b ++ r) 16 (length_bits 16 v.resolution) in
      number_there bad_pores 8 r (omega (arith, fits.high)) z R

  kept_lines : (rs : List ℕ) → map (distances_at v) (survivors n rs) ≡ kept_from rs 0 v.lines
  kept_lines rs = rw (← fits.count) (sym (kept_survivors (λ x. x) [] rs v.lines))

  -- what is left has the same bits ahead, and then those of the lines that stay
  payload_is : (removal : List ℕ) → kept_payload n removal v ≡ in_bytes (filled (take 24 (bits_of s) ++ kept_bits removal v.e v))
  payload_is removal =
      ap in_bytes (block_bits 0 (keep (survivors n (removal_lines removal)) v)
      ∙ ap (λ (ls : List (List ℕ)). ahead v ++ filled (line_bits v.e ls)) (kept_lines (removal_lines removal))
      ∙ sym (filled_behind 3 (ahead v) (kept_bits removal v.e v) (ahead_long v))
      ∙ ap (λ (b : Bits). filled (b ++ kept_bits removal v.e v)) (sym ahead_is))

  payload_long : (removal : List ℕ) → length (kept_payload n removal v) ≡ (24 + length (kept_bits removal v.e v) + 7) / 8
  payload_long removal =
      let a : Bits = take 24 (bits_of s) in
      let b : Bits = kept_bits removal v.e v in
      ap length (payload_is removal) ∙ filled_length (a ++ b) ∙ omega (arith, length-append a b, ap length ahead_is, ahead_long v)

  -- room for it is room for the bits ahead
  pub ahead_room : (removal : List ℕ) {m : ℕ} → length (kept_payload n removal v) ≤ m → 24 ≤ 8 * m
  ahead_room removal r = omega (arith, payload_long removal)

  -- they are copied as they stand
  pub ahead_put : {old now : List ℕ} {r : ℕ} → Copied s 0 24 old 0 now r → (length now ≡ length old) × (r ≡ 24)
  ahead_put C = (C.same, omega (arith, C.place, ap length ahead_is, ahead_long v))

-- ---- a line, which is there

module _ (s : List ℕ) (p e : ℕ) (v : Pores) where
  line_got : (ds : List ℕ) (ls : List (List ℕ)) → EachAt (line e).enc (line e).Fits s p (ds ∷ ls) (filling e v)
      → (line e).dec (drop p (bits_of s)) ≡ got ds (line_bits e ls ++ filling e v)
  line_got ds ls h =
      ap (line e).dec (first_bits h)
      ∙ (line e).there ds (line_bits e ls ++ filling e v) h.fits.0 (row_stops (line e) (λ xs r. rw append_assoc (stop_zero e _)) ls (filling e v) (stop_zeros e (pad (length (line_bits e v.lines)))))

  pub line_ends : {count q : ℕ} → LineStands s p e count q → Ends (line e).enc (line e).Fits s (filling e v) p q
  line_ends {q = q} L ds ls h =
      let r : Bits = line_bits e ls ++ filling e v in
      let g : got L.distances (drop q (bits_of s)) ≡ got ds r = sym L.reads ∙ line_got ds ls h in
      let z : drop q (bits_of s) ≡ r = cc in
      omega (arith, ap length z, length_rest s q, ap length (first_bits h) ∙ length-append ((line e).enc ds) r, length_rest s p, L.within, h.within)

  pub found_there : (ds : List ℕ) (ls : List (List ℕ)) → EachAt (line e).enc (line e).Fits s p (ds ∷ ls) (filling e v) → (r : Option PoreLine) → LineFound s p e r → IsSome r
  found_there ds ls h (Some l) f = refl
  found_there ds ls h None f =
      let z : some ds ≡ none = sym (ap value_of (line_got ds ls h)) ∙ f in
      let y : ◌≡◌ {A = ℕ} 0 1 = cc in absurd (omega arith)

-- ---- those that stay

-- line l comes next, at place p
abbrev pub PoresGoing : (s : List ℕ) (lines : ℕ) (removal : List ℕ) (e : ℕ) → (Bits → List (List ℕ) → Type 0) → (l p : ℕ) → Type 0
PoresGoing s lines removal e Rest l p =
    (v : Pores) → pores_in lines s ≡ some v → Going same (removal_lines removal) lines (Stand (line e).enc (line e).Fits s (filling e v)) (Rest (kept_bits removal e v)) l p

abbrev pub SizingAll : (s : List ℕ) (lines : ℕ) (removal : List ℕ) (e l p bits : ℕ) → Type 0
SizingAll s lines removal e l p bits = PoresGoing s lines removal e (λ all. Sized (line e).enc all 24 bits) l p

abbrev pub PutAll : (s : List ℕ) (lines : ℕ) (removal : List ℕ) (e l p : ℕ) (old : List ℕ) (from : ℕ) (now : List ℕ) (at : ℕ) → Type 0
PutAll s lines removal e l p old from now at = PoresGoing s lines removal e (λ all. ToPut (line e).enc all old from now at) l p

module _ (s : List ℕ) (lines : ℕ) (removal : List ℕ) {e q : ℕ} (R : Reads (field_dec bad_pores 8) s 16 (found e q)) where
  first_at : (v : Pores) → pores_in lines s ≡ some v → EachAt (line e).enc (line e).Fits s 24 v.lines (filling e v)
  first_at v h = subst (λ (x : ℕ). EachAt (line x).enc (line x).Fits s 24 v.lines (filling x v)) (sym (e_is lines s v h R)) (lines_at lines s v h)

  pub sizing_first : SizingAll s lines removal e 0 24 24
  sizing_first v h = record { more = v.lines; at = first_at v h; left = omega (arith, (fits lines s v h).count); rest = record { sums = refl } }

  pub put_first : (old : List ℕ) (from : ℕ) → PutAll s lines removal e 0 24 old from old from
  put_first old from v h =
      record { more = v.lines; at = first_at v h; left = omega (arith, (fits lines s v h).count); rest = putting_none (kept_bits removal e v) old from }

  kept_e : (v : Pores) → pores_in lines s ≡ some v → kept_bits removal e v ≡ kept_bits removal v.e v
  kept_e v h = ap (λ (x : ℕ). kept_bits removal x v) (e_is lines s v h R)

  -- room for the payload is room for them behind the bits ahead
  pub kept_room : (v : Pores) → pores_in lines s ≡ some v → {m : ℕ} → length (kept_payload lines removal v) ≤ m → 24 + length (kept_bits removal e v) ≤ 8 * m
  kept_room v h r = omega (arith, ap length (kept_e v h), payload_long lines s v h removal)

  module _ {l p : ℕ} (k : lines ≤ l) where
    pub sized : {bits : ℕ} → SizingAll s lines removal e l p bits → PoresSized s lines removal ((bits + 7) / 8)
    sized G = record { is = λ v h. omega (arith, all_sized_lem k (G v h), ap length (kept_e v h), payload_long lines s v h removal) }

    pub put_done : {before old now : List ℕ} {from at : ℕ} → Copied s 0 24 before 0 old from → PutAll s lines removal e l p old from now at
        → PoresPut s lines removal before now ((at + 7) / 8)
    put_done {before} {now = now} {at = at} C G =
        record {
          is = λ v h.
              subst (λ (new : List ℕ). Laid new before now ((at + 7) / 8))
              (ap (λ (b : Bits). in_bytes (filled (take 24 (bits_of s) ++ b))) (kept_e v h) ∙ sym (payload_is lines s v h removal))
              (put_laid ((C then all_put k (G v h)).is [] before (put_none before)) refl);
        }
