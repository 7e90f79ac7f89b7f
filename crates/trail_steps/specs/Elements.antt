-- What the walk along the codes of a line draws, and what it asks. "The trail is one 16-bit number for each drawn element."
use Rattle.std.specs.Prelude.{ℕ, zero, suc, ◌-◌, ◌*◌, ◌≤◌, ◌<◌, List, [], ◌∷◌, length, take, drop}
use Rattle.bits.specs.Bits.{Bits, number_of_bits}
use Rattle.bits.specs.Bytes.{bits_of}
use Rattle.trail.specs.Trail.{follow}
use Rattle.trail_steps.specs.declared.CodeWalk.{CodeWalk}

-- the n codes of k bits that a list of bits starts with
abbrev pub codes_in : (k n : ℕ) → Bits → List ℕ
codes_in k zero s = []
codes_in k (suc n) s = number_of_bits (take k s) ∷ codes_in k n (drop k s)

-- the trail of the codes that are left
unfoldable pub elements : CodeWalk → List ℕ
elements w = follow w.half w.k w.pen.high w.pen.heading (codes_in w.k w.left (drop w.codes.at (bits_of w.block.now)))

-- the codes that are left, if any, stand in the block
abbrev pub CodesStand : CodeWalk → Type 0
CodesStand w = w.left * w.k ≤ 8 * length w.block.now - w.codes.at

-- What counting asks: the codes are there.
pub record CodesThere (w : CodeWalk) : Type 0 where
  pub low : 1 ≤ w.k
  pub high : w.k ≤ 8
  pub short : length w.block.now ≤ 65535
  pub there : CodesStand w

-- What the walk asks: the codes are there, N is from 1 to 255, and the heading below 2N.
pub record Ready (w : CodeWalk) : Type 0 where
  pub low : 1 ≤ w.k
  pub high : w.k ≤ 8
  pub short : length w.block.now ≤ 65535
  pub there : CodesStand w
  pub some : 1 ≤ w.half
  pub few : w.half ≤ 255
  pub below : w.pen.heading < 2 * w.half

-- What a writer asks besides: room for every element, which takes `each` places of what is lent, one number or two bytes.
pub record CanDraw (each : ℕ) (w : CodeWalk) (room : ℕ) : Type 0 where
  pub ready : Ready w
  pub enough : each * length (elements w) ≤ room
