-- A loop that reads values one by one and lays the bytes of each: what it carries, how it starts, takes a turn and ends. Reading
-- is told by two answers: that of the whole, before the loop, and that from here on.
use mathlib.Core.Path.{◌≡◌, ap, ◌∙◌}
use Prim.Native.Nat.{ℕ, ◌+◌, ◌≤◌}
use mathlib.Core.Bool.{Bool}
use mathlib.Core.List.{List, [], ◌∷◌}
use lib.ListN.{length}
use Rattle.bits.specs.Bits.{Bits}
use Rattle.bits.specs.Codec.{Read, got}
use Rattle.bits.specs.Lists.{total}
use Rattle.put_bytes.specs.Laid.{Laid}
use Rattle.put_bytes.specs.HighFirst.{joined}
use Rattle.put_bytes.proofs.Laws.{lent, back}
use Rattle.read_blocks.proofs.Laws.Laying.{Laying, laying_none, laying_same, laying_more, laying_all}

module _ {A : Type 0} (f : A → List ℕ) (size : A → ℕ) where
  pub record Underway (whole still : Read Bool (List A)) (before now : List ℕ) (at : ℕ) : Type 0 where
    pub all : List A
    pub rest : List A
    pub left : Bits
    pub first : whole ≡ got all left
    pub next : still ≡ got rest left
    pub laying : Laying f size all rest before now at

  module _ {whole : Read Bool (List A)} {before : List ℕ} where
    pub at_first : {xs : List A} {u : Bits} → whole ≡ got xs u → total size xs ≤ length before → Underway whole whole before before 0
    at_first {xs} {u} e h = record { all = xs; rest = xs; left = u; first = e; next = e; laying = laying_none f size h }

    module _ {still : Read Bool (List A)} {now : List ℕ} {at : ℕ} (U : Underway whole still before now at) where
      pub same_room : length now ≡ length before
      same_room = laying_same f size U.laying

      -- one value more: x is read, and its bytes are laid in the rest of the buffer
      pub one_more : {still' : Read Bool (List A)} {x : A} {xs : List A} {ys : List ℕ} {n : ℕ}
          → U.rest ≡ x ∷ xs → still' ≡ got xs U.left → length (f x) ≡ size x → Laid (f x) (lent now at) ys n → Underway whole still' before (back now at ys) (at + n)
      one_more {xs = xs} e k z h = record { all = U.all; rest = xs; left = U.left; first = U.first; next = k; laying = laying_more f size U.laying e z h }

      -- none is left: all are read, and laid
      pub at_last : {u : Bits} → still ≡ got [] u → (whole ≡ got U.all u) × Laid (joined f U.all) before now at
      at_last {u} k =
          let e : U.rest ≡ [] = cc U.next in
          let z : U.left ≡ u = cc U.next in
          (U.first ∙ ap (got U.all) z, laying_all f size U.laying e)
