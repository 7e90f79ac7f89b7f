-- What the code that looks at a view's segments before a removal asks and answers.
use Rattle.std.specs.Prelude.{◌≡◌, ℕ, ◌≤◌, Bool, List}
use Rattle.bits.specs.OfBlock.{BlockThere, OfBlock}
use Rattle.format.specs.Segments.{segments}
use Rattle.pores.specs.Keep.{all_pores_right}
use Rattle.orders.specs.Order.{all_carried}

-- whatever segments the extended block s has
abbrev pub KindsSeen : List ℕ → Bool → Type 0
KindsSeen s r = OfBlock segments s (λ gs. r ≡ all_carried gs)

-- of a view with so many lines
pub record PoresThere (s : List ℕ) (lines : ℕ) : Type 0 where
  pub block : BlockThere segments s
  pub few : lines ≤ 1024

abbrev pub PoresSeen : List ℕ → ℕ → Bool → Type 0
PoresSeen s lines r = OfBlock segments s (λ gs. r ≡ all_pores_right lines gs)
