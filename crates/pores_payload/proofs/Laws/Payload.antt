-- The payload as a whole: its three bytes, then line by line; and that these bits, filled up, are the payload.
use mathlib.Core.Path.{◌≡◌, refl, sym, ap, ap₂, subst, ◌∙◌}
use Prim.Native.Nat.{ℕ, suc, ◌+◌, ◌-◌, ◌*◌, ◌/◌, ◌≤◌, ◌<◌}
use native.Mathlib.Omega.{arith}
use mathlib.Core.Option.{some}
use mathlib.Core.List.{List, [], ◌++◌, append_assoc}
use lib.ListN.{length, drop, length-append}
use Rattle.bits.specs.Bits.{Bits, bits_of_number, filled}
use Rattle.bits.specs.BitsLaws.{length_bits, filled_long}
use Rattle.bits.specs.Bytes.{in_bytes}
use Rattle.bits.specs.BytesLaws.{length_in}
use Rattle.bits.specs.Codec.{got, times_dec}
use Rattle.bits.specs.CodecLaws.{enc_each}
use Rattle.put_bytes.specs.Laid.{Laid}
use Rattle.put_bits.specs.Put.{CanPut, PutMore, Puts, Room}
use Rattle.put_bits.proofs.Laws.{put_none, put_laid}
use Rattle.put_bits.proofs.Bytes.{filled_behind}
use Rattle.put_bits.proofs.Chain.{puts_one, ◌then◌, Putting, putting_none, putting_more, putting_room, putting_all}
use Rattle.pores_parts.specs.Parts.{Pores}
use Rattle.pores.specs.Payload.{pores_block, payload_of}
use Rattle.pores_parts.specs.Lines.{line}
use Rattle.pores.specs.Numbers.{line_numbers, fours_in}
use Rattle.pores_numbers.proofs.Laws.Fours.{four_at}
use Rattle.pores_payload.specs.declared.Reached.{Reached}
use Rattle.pores_payload.specs.Payload.{LineRoom, LinePut, PayloadRoom, PayloadLaid}
use Rattle.pores_payload.proofs.Laws.Listed.{FirstOf, times_first, AllListed, all_listed}

-- ---- the bits

abbrev pub line_bits : ℕ → List (List ℕ) → Bits
line_bits e ls = enc_each (line e).enc ls

front_long : (x e : ℕ) → length (bits_of_number 16 x ++ bits_of_number 8 e) ≡ 24
front_long x e = length-append (bits_of_number 16 x) (bits_of_number 8 e) ∙ omega (arith, length_bits 16 x, length_bits 8 e)

block_is : (p : Pores) → (pores_block 0).enc p ≡ (bits_of_number 16 p.resolution ++ bits_of_number 8 p.e) ++ filled (line_bits p.e p.lines)
unfolding pores_block
block_is p = refl

payload_is : (p : Pores) → payload_of p ≡ in_bytes (filled (bits_of_number 16 p.resolution ++ (bits_of_number 8 p.e ++ line_bits p.e p.lines)))
payload_is p =
    let a : Bits = bits_of_number 16 p.resolution in
    let b : Bits = bits_of_number 8 p.e in
    let s : Bits = line_bits p.e p.lines in
    ap in_bytes (block_is p ∙ sym (filled_behind 3 (a ++ b) s (front_long p.resolution p.e)) ∙ ap filled (append_assoc a b s))

payload_size : (p : Pores) → length (payload_of p) ≡ 3 + (length (line_bits p.e p.lines) + 7) / 8
payload_size p =
    let s : Bits = line_bits p.e p.lines in
    let n = length-append (bits_of_number 16 p.resolution ++ bits_of_number 8 p.e) (filled s) in
    length_in ((pores_block 0).enc p) ∙ ap (λ (k : ℕ). k / 8) (ap length (block_is p)) ∙ omega (arith, n, front_long p.resolution p.e, filled_long s)

-- ---- lines one by one

-- of the lines ls, n are left; the numbers go on at byte a
pub record LinesLeft (vs : List ℕ) (e : ℕ) (ls : List (List ℕ)) (old : List ℕ) (at n : ℕ) (now : List ℕ) (y : Reached) : Type 0 where
  pub left : List (List ℕ)
  pub reads : times_dec line_numbers n (fours_in (drop y.byte vs)) ≡ got left []
  pub puts : Putting (line_bits e left) (line_bits e ls) old at now y.bit

-- whatever they are
pub record Lines (lines : ℕ) (vs : List ℕ) (e : ℕ) (old : List ℕ) (at n : ℕ) (now : List ℕ) (y : Reached) : Type 0 where
  pub is : (ls : List (List ℕ)) → times_dec line_numbers lines (fours_in (drop 8 vs)) ≡ got ls [] → LinesLeft vs e ls old at n now y

pub lines_start : (lines : ℕ) (vs : List ℕ) (e : ℕ) (old : List ℕ) (at : ℕ) → Lines lines vs e old at lines old (record { byte = 8; bit = at })
lines_start lines vs e old at = record { is = λ ls h. record { left = ls; reads = h; puts = putting_none (line_bits e ls) old at } }

pub line_same : {vs : List ℕ} {e : ℕ} {out : List ℕ} {x : Reached} {after : List ℕ} {y : Reached} → LineRoom vs e out x → LinePut vs e out x after y → length after ≡ length out
line_same h P = (P.is h.value h.behind h.reads).0.same

module _ {lines : ℕ} {vs : List ℕ} {e : ℕ} {out : List ℕ} (h : PayloadRoom lines vs e out) where
  listed : AllListed lines vs h.value
  listed = all_listed lines vs h.value h.is

  pub front_there : 8 ≤ length vs
  front_there = listed.within

  narrow : (2 ≤ e) × (e ≤ 8)
  narrow = (omega (arith, h.bits, listed.fits.low), omega (arith, h.bits, listed.fits.high))

  size : length (payload_of h.value) ≡ 3 + (length (line_bits e h.value.lines) + 7) / 8
  size = payload_size h.value ∙ ap (λ (b : ℕ). 3 + (length (line_bits b h.value.lines) + 7) / 8) (sym h.bits)

  -- x is the resolution
  module _ {x : ℕ} (ex : x ≡ four_at vs 0) where
    resolution_is : x ≡ h.value.resolution
    resolution_is = ex ∙ listed.resolution

    pub resolution_fits : CanPut out 0 x 16
    resolution_fits = record { below = omega (arith, resolution_is, listed.fits.resolution); narrow = omega arith; room = omega (arith, h.room, size); near = omega arith }

    module _ {o1 : List ℕ} {a1 : ℕ} (p : PutMore out 0 x 16 o1 a1) where
      pub e_fits : CanPut o1 a1 e 8
      e_fits = record { below = omega (arith, narrow); narrow = omega arith; room = omega (arith, h.room, size, p.place, p.same); near = omega (arith, p.place) }

      module _ {old : List ℕ} {at : ℕ} (k : PutMore o1 a1 e 8 old at) where
        lines_room : Room old at (length (line_bits e h.value.lines))
        lines_room =
            record {
              room = omega (arith, h.room, size, p.place, p.same, k.place, k.same);
              near = omega (arith, h.small, size, p.place, k.place);
            }

        module _ {n : ℕ} {now : List ℕ} {y : Reached} (L : Lines lines vs e old at n now y) where
          pub near_end : y.bit ≤ 8 * 65535
          near_end =
              let l = L.is h.value.lines listed.further in
              omega (arith, l.puts.puts.place, ap length l.puts.whole, length-append l.puts.done (line_bits e l.left), lines_room.near)

          module _ (g : 0 < n) where
            here : {ls : List (List ℕ)} (l : LinesLeft vs e ls old at n now y) → FirstOf line_numbers (n - 1) (fours_in (drop y.byte vs)) l.left []
            here l =
                let j : suc (n - 1) ≡ n = omega arith in
                times_first line_numbers (n - 1) (fours_in (drop y.byte vs)) l.left [] (ap (λ (i : ℕ). times_dec line_numbers i (fours_in (drop y.byte vs))) j ∙ l.reads)

            first_put : {ls : List (List ℕ)} (l : LinesLeft vs e ls old at n now y)
                → Putting ((line e).enc (here l).first ++ line_bits e (here l).others) (line_bits e ls) old at now y.bit
            first_put {ls} l = subst (λ (ys : List (List ℕ)). Putting (line_bits e ys) (line_bits e ls) old at now y.bit) (here l).is l.puts

            pub line_room : LineRoom vs e now y
            line_room =
                let l = L.is h.value.lines listed.further in
                record {
                  value = (here l).first;
                  behind = (here l).behind;
                  reads = (here l).reads;
                  low = narrow.0;
                  high = narrow.1;
                  room = putting_room ((line e).enc (here l).first) (line_bits e (here l).others) (first_put l) lines_room;
                }

            pub lines_next : {o : ℕ} {next : List ℕ} {z : Reached} → o ≡ n - 1 → LinePut vs e now y next z → Lines lines vs e old at o next z
            lines_next eo P =
                rw eo record {
                  is = λ ls q.
                      let l = L.is ls q in
                      let (b, c) = P.is (here l).first (here l).behind (here l).reads in
                      record {
                        left = (here l).others;
                        reads = ap (times_dec line_numbers (n - 1)) c ∙ (here l).further;
                        puts = putting_more ((line e).enc (here l).first) (line_bits e (here l).others) (first_put l) b;
                      };
                }

          pub payload_put : {r : ℕ} → n ≤ 0 → r ≡ (y.bit + 7) / 8 → PayloadLaid lines vs out now r
          payload_put {r} g er =
              record {
                is = λ v q.
                    let A = all_listed lines vs v q in
                    let l = L.is v.lines A.further in
                    let j : n ≡ 0 = omega arith in
                    let s : got [] (fours_in (drop y.byte vs)) ≡ got l.left [] = rw j at l.reads in
                    let none : l.left ≡ [] = sym (cc) in
                    let same : some h.value ≡ some v = sym h.is ∙ q in
                    let is : h.value ≡ v = cc in
                    let ee : e ≡ v.e = h.bits ∙ ap (λ (w : Pores). w.e) is in
                    let all : Puts (bits_of_number 16 x ++ (bits_of_number 8 e ++ line_bits e v.lines)) out 0 now y.bit =
                    puts_one p then (puts_one k then putting_all (subst (λ (ys : List (List ℕ)). Putting (line_bits e ys) (line_bits e v.lines) old at now y.bit) none l.puts)) in
                    let z : in_bytes (filled (bits_of_number 16 x ++ (bits_of_number 8 e ++ line_bits e v.lines))) ≡ payload_of v =
                    ap₂ (λ (a b : ℕ). in_bytes (filled (bits_of_number 16 a ++ (bits_of_number 8 b ++ line_bits b v.lines)))) (ex ∙ A.resolution) ee ∙ sym (payload_is v) in
                    subst (λ (xs : List ℕ). Laid xs out now r) z (put_laid (all.is [] out (put_none out)) er);
              }
