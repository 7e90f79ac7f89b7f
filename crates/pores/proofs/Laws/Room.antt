-- How much room the numbers of pores take: four times the payload's bytes are enough numbers, since each number but the first two has an
-- element of its own. And each has 32 bits.
use mathlib.Core.Path.{◌≡◌, ap}
use Prim.Native.Nat.{ℕ, ◌*◌, ◌≤◌, ◌<◌, ◌^◌}
use native.Mathlib.Nat.{mul-le-mul_left}
use native.Mathlib.Omega.{arith}
use mathlib.Core.List.{List, [], ◌∷◌}
use lib.ListN.{length}
use Rattle.bits.specs.Lists.{All, total}
use Rattle.bits.specs.ListsLaws.{all_append}
use Rattle.bits.specs.CodecLaws.{enc_each}
use Rattle.outcome.specs.Outcome.{given}
use Rattle.format.specs.declared.ViewName.{ViewName}
use Rattle.format.proofs.Laws.Record.{read_is}
use Rattle.rewrite.proofs.Laws.Payload.{read_given}
use Rattle.rewrite.proofs.Laws.Bytes.{rewritten_size}
use Rattle.rewrite.proofs.Laws.Record.{segment_fits}
use Rattle.pores_parts.specs.Parts.{Pores, FitsPores}
use Rattle.pores.specs.Payload.{payload_of}
use Rattle.pores.specs.Numbers.{numbers_of}
use Rattle.pores.specs.Size.{line_elements, element_count}
use Rattle.pores.specs.Calls.{pores_format, pores}
use Rattle.pores.proofs.Laws.Numbers.{numbers_are, line_size, numbers_long}
use Rattle.pores.proofs.Laws.Size.{payload_long, length_total, SmallNumbers, numbers_small}

-- a line has no more numbers than elements
lines_few : (e : ℕ) (ls : List (List ℕ)) → total line_size ls ≤ total (line_elements e) ls
lines_few e [] = omega arith
lines_few e (ds ∷ ls) = omega (arith, length_total e ds, lines_few e ls)

pub numbers_few : (n : ℕ) (p : Pores) → FitsPores n p → length (numbers_of p) ≤ 4 * length (payload_of p)
numbers_few n p h =
    let m : element_count p * 2 ≤ element_count p * p.e = mul-le-mul_left (element_count p) h.low in
    omega (arith, m, payload_long p, numbers_long p, lines_few p.e p.lines)

-- ---- 32 bits each

all_lines : (ls : List (List ℕ)) → All (λ ds. (length ds < 2 ^ 32) × All (λ d. d < 2 ^ 32) ds) ls → All (λ x. x < 2 ^ 32) (enc_each (λ ds. length ds ∷ ds) ls)
all_lines [] h = tt
all_lines (ds ∷ ls) h = all_append (λ x. x < 2 ^ 32) (length ds ∷ ds) (enc_each (λ es. length es ∷ es) ls) (h.0.0, h.0.1) (all_lines ls h.1)

pub numbers_fit : (p : Pores) → SmallNumbers p → All (λ x. x < 2 ^ 32) (numbers_of p)
numbers_fit p h = rw (numbers_are p) (h.resolution, (h.e, all_lines p.lines h.lines))

-- ---- what reading gives

pub pores_room : (view : ViewName) (place : ℕ) (bytes xs : List ℕ) → pores view place bytes ≡ given xs → (length xs ≤ 4 * length bytes) × All (λ x. x < 2 ^ 32) xs
pores_room view place bytes xs h =
    read_given pores_format view place bytes xs h λ t p kind right is es.
    let (a, n, _, _) = read_is bytes t.value [] t.reads in
    let fits = segment_fits t.i place t.value t.means.there t.there a in
    let s = numbers_small _ p right (omega (arith, fits.length, ap length is)) in (
      omega (arith, numbers_few _ p right, ap length is, ap length es, n, rewritten_size t.i place [] t.value t.means.there t.there),
      rw es at (numbers_fit p s),
    )
