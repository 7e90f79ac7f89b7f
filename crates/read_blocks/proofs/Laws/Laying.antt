-- Values whose bytes are laid one behind the other: which are laid, which are still to come, and room for these.
use mathlib.Core.Path.{◌≡◌, refl, sym, ap, ◌∙◌}
use Prim.Native.Nat.{ℕ, ◌+◌, ◌≤◌}
use native.Mathlib.Omega.{arith}
use mathlib.Core.List.{List, [], ◌∷◌, ◌++◌, append-nil}
use lib.ListN.{length}
use lib.Seq.{append_snoc}
use Rattle.bits.specs.Lists.{total}
use Rattle.put_bytes.specs.Laid.{Laid}
use Rattle.put_bytes.specs.HighFirst.{joined}
use Rattle.put_bytes.proofs.Laws.{lent, back, laid_none, laid_next, laid_same, joined_snoc}

-- f has a value's bytes, size how many these are
module _ {A : Type 0} (f : A → List ℕ) (size : A → ℕ) where
  pub record Laying (all rest : List A) (before now : List ℕ) (at : ℕ) : Type 0 where
    pub done : List A
    pub whole : done ++ rest ≡ all
    pub laid : Laid (joined f done) before now at
    pub room : at + total size rest ≤ length before

  pub laying_none : {all : List A} {before : List ℕ} → total size all ≤ length before → Laying all all before before 0
  laying_none {before = before} h = record { done = []; whole = refl; laid = laid_none before; room = omega arith }

  module _ {all rest : List A} {before now : List ℕ} {at : ℕ} (L : Laying all rest before now at) where
    pub laying_same : length now ≡ length before
    laying_same = laid_same L.laid (omega (arith, L.room))

    pub laying_all : rest ≡ [] → Laid (joined f all) before now at
    laying_all e = rw (← L.whole, e, append-nil) L.laid

    module _ {x : A} {xs : List A} (e : rest ≡ x ∷ xs) where
      pub laying_room : at + size x + total size xs ≤ length before
      laying_room = omega (arith, L.room, ap (total size) e)

      -- x is laid in the rest of the buffer
      pub laying_more : {ys : List ℕ} {n : ℕ} → length (f x) ≡ size x → Laid (f x) (lent now at) ys n → Laying all xs before (back now at ys) (at + n)
      laying_more z h =
          record {
            done = L.done ++ x ∷ [];
            whole = append_snoc L.done x xs ∙ ap (λ (vs : List A). L.done ++ vs) (sym e) ∙ L.whole;
            laid = rw (joined_snoc f L.done x) (laid_next L.laid h);
            room = omega (arith, laying_room, h.count, z);
          }
