-- The first segment that is left, by the length that it states, and what is behind it.
use native.Mathlib.Omega.{arith}
use mathlib.Core.Path.{ap}
use Prim.Native.Nat.{ℕ, ◌≤◌, ◌<◌}
use mathlib.Core.List.{List}
use lib.ListN.{length}
use Rattle.std.proofs.lemmas.Bool.Decides.{nat_tests}
use Rattle.order_segments.specs.Walk.{Whole, segments_in}
use Rattle.order_segments.proofs.Laws.Over.{Step, next_step, four_left, none_left}
use Rattle.order_segments.proofs.SegmentsIterator.next.Goals as goal
use Rattle.order_segments.proofs.SegmentsIterator.next.Goals.{Else-is_empty, After-two_at}

some : (c : Else-is_empty) → 0 < length c.args.self.now.0.now
some c = grind (arith, nat_tests, c.is_empty.ensures, c.if-is_empty.false)

step : (c : After-two_at) → 0 < length c.args.self.now.0.now → Step c.args.self.now.0.now c.two_at.result
step c l = next_step c.requires l c.two_at.ensures

pub returns-then-is_empty-clause-steps : goal.returns-then-is_empty-clause-steps
returns-then-is_empty-clause-steps c =
    let l : length c.args.self.now.0.now ≤ 0 = grind (arith, nat_tests, c.is_empty.ensures, c.if-is_empty.true) in
    let e = none_left c.args.self.now.0.now l in
    (e, e)

pub two_at-requires : goal.two_at-requires
two_at-requires c = four_left c.requires (some (goal.at.two_at-requires c).Else-is_empty)

pub split_at-requires : goal.split_at-requires
split_at-requires c = (step (goal.at.split_at-requires c).After-two_at (some (goal.at.split_at-requires c).Else-is_empty)).there.1

pub returns-clause-steps : goal.returns-clause-steps
returns-clause-steps c =
    let t = step (goal.at.returns-clause-steps c).After-two_at (some (goal.at.returns-clause-steps c).Else-is_empty) in
    rw (c.split_at.ensures.front, c.split_at.ensures.back) t.is

pub returns-clause-goes : goal.returns-clause-goes
returns-clause-goes c =
    let t = step (goal.at.returns-clause-goes c).After-two_at (some (goal.at.returns-clause-goes c).Else-is_empty) in
    let ready : Whole c.split_at.result.1.now = rw c.split_at.ensures.back t.whole in
    let d = ap length t.is in
    let e = ap (λ (x : List ℕ). length (segments_in x)) c.split_at.ensures.back in
    record { on = λ f. (ready, f, omega (arith, d, e)); keeps = ready; rests = λ f. tt }
