-- What is found, and then its elements, as bytes.
use native.Mathlib.Omega.{arith}
use Rattle.put_bytes.specs.HighFirst.{two, joined}
use Rattle.put_bytes.proofs.Laws.{twos_length}
use Rattle.trailing.proofs.Laws.{given_out}
use Rattle.trailing.proofs.trailed_as_bytes.Goals as goal

pub returns : goal.returns
returns c = given_out (joined two) 2 (λ n m e. omega arith) twos_length c.in_ok-found.ensures c.args.out.now c.if-out-found.false (omega arith) c.trail_bytes.ensures
