-- The start, the finish, then the codes up to the field's end.
use Prim.Native.Nat.{ℕ, ◌+◌}
use mathlib.Core.Path.{sym, ◌∙◌, subst}
use Rattle.sheet.specs.Values.{end_value}
use Rattle.check_line.specs.Parts.{Passes}
use Rattle.check_line.proofs.Laws.{passed, not_passed, bad_start, bad_finish, line_told}
use Rattle.check_line.proofs.line_value.Goals as goal
use Rattle.check_line.proofs.line_value.Goals.{then-end_right, else-end_right}

pub returns-then-end_right-2 : goal.returns-then-end_right-2
returns-then-end_right-2 c =
    let s = c.args.value.now in
    let e = (end_value c.args.w).dec in
    let first = subst (λ (p : ℕ). Passes e s p (p + 48) c.end_right.result) c.start.ensures c.end_right.ensures in
    elim c.if-end_right.branch [
      | then-end_right w ↦
          let finish = passed e s 48 96 (sym w.value-is ∙ c.if-end_right-2.true) w.end_right-then-end_right.ensures in
          line_told c.args.w (passed e s 0 48 w.if-end_right.true first) finish c.codes_right.result c.codes_right.ensures
      | else-end_right w ↦ cc
    ]

pub returns-else-end_right-2 : goal.returns-else-end_right-2
returns-else-end_right-2 c =
    let s = c.args.value.now in
    let e = (end_value c.args.w).dec in
    let first = subst (λ (p : ℕ). Passes e s p (p + 48) c.end_right.result) c.start.ensures c.end_right.ensures in
    rw c.if-end_right-2.false (elim c.if-end_right.branch [
      | then-end_right w ↦
          let finish = not_passed e s 48 96 (sym w.value-is ∙ c.if-end_right-2.false) w.end_right-then-end_right.ensures in
          bad_finish c.args.w (passed e s 0 48 w.if-end_right.true first) finish
      | else-end_right w ↦ bad_start c.args.w (not_passed e s 0 48 w.if-end_right.false first)
    ])
