-- Going over values that stand in a block one behind the other, one for each line, under a removal: where the next one ends, and those
-- that stay, sized or put so far. Of a value these laws know only the bits that it is written in, so that they hold of a skeleton's
-- lines and of the pores of a line.
use mathlib.Core.Path.{◌≡◌, refl, ap₂, ◌∙◌}
use Prim.Native.Nat.{ℕ, ◌+◌, ◌-◌, ◌*◌, ◌≤◌, ◌<◌}
use native.Mathlib.Omega.{arith}
use mathlib.Core.Bool.{true, false}
use mathlib.Core.List.{List, ◌∷◌, ◌++◌, append_assoc}
use lib.ListN.{length, take, drop, length-append}
use lib.Seq.{take-append_seam}
use Rattle.bits.specs.Bits.{Bits}
use Rattle.bits.specs.Bytes.{bits_of}
use Rattle.bits.specs.CodecLaws.{enc_each}
use Rattle.put_bits.specs.Put.{Puts}
use Rattle.put_bits.proofs.Chain.{puts_as, Putting, putting_more, putting_within, putting_all}
use Rattle.find_parts.proofs.Laws.Standing.{stands_behind, stands_within}
use Rattle.orders.specs.Survive.{elem}
use Rattle.order_removal.proofs.Laws.Going.{Going, turn, gone_on, stays_on, all_gone_over}
use Rattle.order_lines.specs.Copy.{CopyThere, Copied}
use Rattle.order_lines.specs.Lines.{kept_from, EachAt}

abbrev pub same : {A : Type 0} → ℕ → A → A
same i x = x

abbrev pub Stand : {A : Type 0} → (A → Bits) → (A → Type 0) → List ℕ → Bits → ℕ → ℕ → List A → Type 0
Stand enc Fits s u l p xs = EachAt enc Fits s p xs u

-- ---- the first of the values, and those behind it

module _ {A : Type 0} {enc : A → Bits} {Fits : A → Type 0} {s : List ℕ} {p : ℕ} {x : A} {xs : List A} {u : Bits} (h : EachAt enc Fits s p (x ∷ xs) u) where
  pub first_bits : drop p (bits_of s) ≡ enc x ++ (enc_each enc xs ++ u)
  first_bits = h.bits ∙ append_assoc (enc x) (enc_each enc xs) u

  pub first_within : p + length (enc x) ≤ 8 * length s
  first_within = stands_within s p (enc x) (enc_each enc xs ++ u) first_bits h.within

  module _ {q : ℕ} (e : q ≡ p + length (enc x)) where
    first_copied : take (q - p) (drop p (bits_of s)) ≡ enc x
    first_copied =
        let z : q - p ≡ length (enc x) = omega arith in
        ap₂ (λ (n : ℕ) (b : Bits). take n b) z first_bits ∙ take-append_seam (enc x) (enc_each enc xs ++ u)

    others_at : EachAt enc Fits s q xs u
    others_at = record { bits = rw e (stands_behind s p (enc x) (enc_each enc xs ++ u) first_bits (length (enc x)) refl); fits = h.fits.1; within = omega (arith, first_within) }

-- whichever value stands first at place p, it ends at place q
abbrev pub Ends : {A : Type 0} → (A → Bits) → (A → Type 0) → List ℕ → Bits → ℕ → ℕ → Type 0
Ends {A} enc Fits s u p q = (x : A) (xs : List A) → EachAt enc Fits s p (x ∷ xs) u → q ≡ p + length (enc x)

-- ---- line l, whose value comes next at place p and ends at place q

-- of all the bits that are left, so many are counted, and those of ys are still to come; from: the count before the first of them
pub record Sized {A : Type 0} (enc : A → Bits) (all : Bits) (from bits : ℕ) (ys : List A) : Type 0 where
  pub sums : bits + length (enc_each enc ys) ≡ from + length all

-- of all the bits that are left, those of ys are still to be put; from: the place of the first of them
abbrev pub ToPut : {A : Type 0} → (A → Bits) → Bits → List ℕ → ℕ → List ℕ → ℕ → List A → Type 0
ToPut enc all old from now at ys = Putting (enc_each enc ys) all old from now at

module _ {A : Type 0} {enc : A → Bits} {Fits : A → Type 0} {s rs : List ℕ} {count : ℕ} {u : Bits} {l p q : ℕ} (k : l < count) (E : Ends enc Fits s u p q) where
  pub next_gone : {Rest : List A → Type 0} → Going same rs count (Stand enc Fits s u) Rest l p → elem l rs ≡ true → Going same rs count (Stand enc Fits s u) Rest (l + 1) q
  next_gone G e = let t = turn G k in gone_on t e (others_at t.at (E t.value t.others t.at))

  pub next_sized : {all : Bits} {from bits : ℕ} → Going same rs count (Stand enc Fits s u) (Sized enc all from bits) l p → elem l rs ≡ false
      → Going same rs count (Stand enc Fits s u) (Sized enc all from (bits + (q - p))) (l + 1) q
  next_sized G e =
      let t = turn G k in
      let z = E t.value t.others t.at in
      let n = length-append (enc t.value) (enc_each enc (kept_from rs (l + 1) t.others)) in
      stays_on t (others_at t.at z) (record { sums = omega (arith, z, (t.stays e).sums, n) })

  module _ {all : Bits} {old : List ℕ} {from : ℕ} {now : List ℕ} {at : ℕ} (G : Going same rs count (Stand enc Fits s u) (ToPut enc all old from now at) l p) (e : elem l rs ≡ false) where
    -- room for all of them is room for the next
    pub next_room : length s ≤ 65535 → from + length all ≤ 8 * length old → at ≤ p → CopyThere s p q now at
    next_room short room i =
        let t = turn G k in
        let z = E t.value t.others t.at in
        let w = first_within t.at in
        let h = t.stays e in
        let n = putting_within (enc t.value) (enc_each enc (kept_from rs (l + 1) t.others)) h in
        record {
          short = short;
          order = omega (arith, z);
          there = omega (arith, z, w);
          room = record { room = omega (arith, z, n, h.puts.same); near = omega (arith, z, w) };
        }

    pub next_put : {next : List ℕ} {r : ℕ} → Copied s p q now at next r → Going same rs count (Stand enc Fits s u) (ToPut enc all old from next r) (l + 1) q
    next_put C =
        let t = turn G k in
        let z = E t.value t.others t.at in
        stays_on t (others_at t.at z) (putting_more (enc t.value) (enc_each enc (kept_from rs (l + 1) t.others)) (t.stays e) (puts_as (first_copied t.at z) C))

-- ---- behind the last line

module _ {A : Type 0} {enc : A → Bits} {Fits : A → Type 0} {s rs : List ℕ} {count : ℕ} {u : Bits} {l p : ℕ} {all : Bits} {from : ℕ} (k : count ≤ l) where
  pub all_sized_lem : {bits : ℕ} → Going same rs count (Stand enc Fits s u) (Sized enc all from bits) l p → bits ≡ from + length all
  all_sized_lem G = omega (arith, (all_gone_over G k).sums)

  pub all_put : {old now : List ℕ} {at : ℕ} → Going same rs count (Stand enc Fits s u) (ToPut enc all old from now at) l p → Puts all old from now at
  all_put G = putting_all (all_gone_over G k)
