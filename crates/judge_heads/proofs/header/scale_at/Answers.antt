-- `judge_heads::header::scale_at` meets its contract: seven bytes, each read behind the one before. A byte that is refused gives its
-- own place.
use native.Mathlib.Omega.{arith}
use Rattle.std.proofs.lemmas.Result.{err_from_is_err_and}
use Rattle.bits.proofs.Laws.Reads.{go_on, stop, made}
use Rattle.judge_heads.proofs.header.scale_at.Goals as goal

pub returns-in_err-points : goal.returns-in_err-points
returns-in_err-points c =
    let p = err_from_is_err_and c.from_residual.result c.from_residual.ensures.1 in
    rw (p.1, p.2) (λ e. made _ _ (stop _ _ (c.in_err-points.ensures e)))

pub ranged_at-requires-2 : goal.ranged_at-requires-2
ranged_at-requires-2 c =
    omega (arith, (c.in_ok-points.ensures 0).within, c.requires)

pub returns-in_err-c : goal.returns-in_err-c
returns-in_err-c c =
    let p = err_from_is_err_and c.from_residual-in_err-c.result c.from_residual-in_err-c.ensures.1 in
    rw (p.1, p.2) (λ e. made _ _ (go_on _ _ (c.in_ok-points.ensures e) (stop _ _ (c.in_err-c.ensures e))))

pub ranged_at-requires-3 : goal.ranged_at-requires-3
ranged_at-requires-3 c =
    omega (arith, (c.in_ok-c.ensures 0).within, c.requires)

pub returns-in_err-b : goal.returns-in_err-b
returns-in_err-b c =
    let p = err_from_is_err_and c.from_residual-in_err-b.result c.from_residual-in_err-b.ensures.1 in
    rw (p.1, p.2) (λ e. made _ _ (go_on _ _ (c.in_ok-points.ensures e) (go_on _ _ (c.in_ok-c.ensures e) (stop _ _ (c.in_err-b.ensures e)))))

pub ranged_at-requires-4 : goal.ranged_at-requires-4
ranged_at-requires-4 c =
    omega (arith, (c.in_ok-b.ensures 0).within, c.requires)

pub returns-in_err-k : goal.returns-in_err-k
returns-in_err-k c =
    let p = err_from_is_err_and c.from_residual-in_err-k.result c.from_residual-in_err-k.ensures.1 in
    rw (p.1, p.2) (λ e. made _ _ (go_on _ _ (c.in_ok-points.ensures e) (go_on _ _ (c.in_ok-c.ensures e) (go_on _ _ (c.in_ok-b.ensures e) (stop _ _ (c.in_err-k.ensures e))))))

pub ranged_at-requires-5 : goal.ranged_at-requires-5
ranged_at-requires-5 c =
    omega (arith, (c.in_ok-k.ensures 0).within, c.requires)

pub returns-in_err-step : goal.returns-in_err-step
returns-in_err-step c =
    let p = err_from_is_err_and c.from_residual-in_err-step.result c.from_residual-in_err-step.ensures.1 in
    rw (p.1, p.2) (λ e. made _ _ (go_on _ _ (c.in_ok-points.ensures e) (go_on _ _ (c.in_ok-c.ensures e) (go_on _ _ (c.in_ok-b.ensures e) (go_on _ _ (c.in_ok-k.ensures e) (stop _ _ (c.in_err-step.ensures e)))))))

pub field-requires : goal.field-requires
field-requires c =
    omega (arith, (c.in_ok-step.ensures 0).within, c.requires)

pub returns-in_err-ratio : goal.returns-in_err-ratio
returns-in_err-ratio c =
    let p = err_from_is_err_and c.from_residual-in_err-ratio.result c.from_residual-in_err-ratio.ensures.1 in
    rw (p.1, p.2) (λ e. made _ _ (go_on _ _ (c.in_ok-points.ensures e) (go_on _ _ (c.in_ok-c.ensures e) (go_on _ _ (c.in_ok-b.ensures e) (go_on _ _ (c.in_ok-k.ensures e) (go_on _ _ (c.in_ok-step.ensures e) (stop _ _ (c.in_err-ratio.ensures e))))))))

pub ranged_at-requires-6 : goal.ranged_at-requires-6
ranged_at-requires-6 c =
    omega (arith, (c.in_ok-ratio.ensures 0).within, c.requires)

pub returns-in_err-half : goal.returns-in_err-half
returns-in_err-half c =
    let p = err_from_is_err_and c.from_residual-in_err-half.result c.from_residual-in_err-half.ensures.1 in
    rw (p.1, p.2) (λ e. made _ _ (go_on _ _ (c.in_ok-points.ensures e) (go_on _ _ (c.in_ok-c.ensures e) (go_on _ _ (c.in_ok-b.ensures e) (go_on _ _ (c.in_ok-k.ensures e) (go_on _ _ (c.in_ok-step.ensures e) (go_on _ _ (c.in_ok-ratio.ensures e) (c.in_err-half.ensures e))))))))

pub returns : goal.returns
returns c =
    λ e. made _ _ (go_on _ _ (c.in_ok-points.ensures e) (go_on _ _ (c.in_ok-c.ensures e) (go_on _ _ (c.in_ok-b.ensures e) (go_on _ _ (c.in_ok-k.ensures e) (go_on _ _ (c.in_ok-step.ensures e) (go_on _ _ (c.in_ok-ratio.ensures e) (c.in_ok-half.ensures e)))))))
