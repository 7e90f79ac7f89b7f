-- `heads::view::head_fields` meets its contract: six reads, then the four tests in the format's order. A number that is not right
-- gives its own place.
use native.Mathlib.Omega.{arith}
use native.Mathlib.Nat.{add-zero}
use Prim.Native.Nat.{ℕ, ◌+◌, ◌*◌, ◌≤◌}
use mathlib.Core.Path.{◌≡◌, ap, sym, ◌∙◌}
use mathlib.Core.Bool.{true}
use mathlib.Core.Option.{some}
use mathlib.Core.List.{List}
use lib.ListN.{length}
use Rattle.bits.specs.Reads.{Reads, fault}
use Rattle.bits.proofs.Laws.Reads.{known}
use Rattle.format.specs.View.{head_fields, head_fault, impression_ok}
use Rattle.judge_heads.specs.Answers.{earlier_of}
use Rattle.judge_heads.proofs.Laws.View.{not_is, fields_bad, fields_good, fault_number, fault_position, fault_impression, fault_quality, no_fault}
use Rattle.judge_heads.proofs.view.head_fields.Goals as goal
use Rattle.judge_heads.proofs.view.head_fields.Lts as lts
use Rattle.judge_heads.proofs.view.head_fields.Reads as reads
use Rattle.judge_heads.proofs.view.head_fields.Tie as tie

abbrev At-After-sure-quality : Type 0
At-After-sure-quality = lts.After-sure4 tie.the-claims reads.Pre reads.Post

abbrev At-Else-number-earlier : Type 0
At-Else-number-earlier = lts.Else1 tie.the-claims reads.Pre reads.Post

abbrev At-Else-impression_bad : Type 0
At-Else-impression_bad = lts.Else3 tie.the-claims reads.Pre reads.Post

-- the bytes, the place and the counts lent
abbrev lent : At-After-sure-quality → List ℕ
lent c = c.args.bytes.now

abbrev place : At-After-sure-quality → ℕ
place c = c.args.p.at

abbrev count : At-After-sure-quality → ℕ → ℕ
count c = earlier_of c.args.seen.now

-- the four numbers judged
abbrev number : At-After-sure-quality → ℕ
number c = c.sure-number.result.value

abbrev position : At-After-sure-quality → ℕ
position c = c.sure-position.result.value

abbrev impression : At-After-sure-quality → ℕ
impression c = c.sure-impression.result.value

abbrev quality : At-After-sure-quality → ℕ
quality c = c.sure-quality.result.value

room : (c : At-After-sure-quality) → place c + 64 ≤ 8 * length (lent c)
room c = c.requires.1

-- a fault of the four refuses the header
refuse : (c : At-After-sure-quality) (e k : ℕ) → k ≤ 64 → head_fault (count c) (number c, (position c, (impression c, quality c))) ≡ some k
    → Reads (head_fields e (count c)).dec (lent c) (place c) (fault e (place c + k))
refuse c e k l z =
    fields_bad (count c) (lent c) (place c) e (room c) (c.sure-number.ensures.0 e) (c.sure-position.ensures.0 e) (c.sure-impression.ensures.0 e)
    (c.sure-quality.ensures.0 e) k l z

same : (c : At-Else-number-earlier) → number c.before.before.before.before.before.before.before ≡ count c.before.before.before.before.before.before.before (position c.before.before.before.before.before.before.before)
same c = c.if-number-earlier.false ∙ c.earlier.ensures

right : (c : At-Else-impression_bad) → impression_ok (impression c.before.before.before.before.before.before.before.before.before.before) ≡ true
right c = not_is (impression_ok (impression c.before.before.before.before.before.before.before.before.before.before)) (sym c.impression_bad.ensures ∙ c.if-impression_bad.false)

pub returns-then-number-earlier : goal.returns-then-number-earlier
returns-then-number-earlier c =
    let m = c.before.before.before.before.before.before in
    let z = fault_number (count m.before.before) (number m.before.before) (position m.before.before) (impression m.before.before) (quality m.before.before) (λ e. c.if-number-earlier.true (e ∙ sym c.earlier.ensures)) in
    λ e. known (ap (fault e) (add-zero (place m.before.before))) (refuse m.before.before e 0 (omega arith) z)

pub returns-then-finger-gt10 : goal.returns-then-finger-gt10
returns-then-finger-gt10 c =
    let m = c.before.before.before.before.before.before.before.before in
    let z = fault_position (count m.before.before) (number m.before.before) (position m.before.before) (impression m.before.before) (quality m.before.before) (same c.before.before.before) c.if-finger-gt10.true in
    λ e. refuse m.before.before e 8 (omega arith) z

pub returns-then-impression_bad : goal.returns-then-impression_bad
returns-then-impression_bad c =
    let m = c.before.before.before.before.before.before.before.before.before.before in
    let z = fault_impression (count m.before.before) (number m.before.before) (position m.before.before) (impression m.before.before) (quality m.before.before) (same c.before.before.before.before.before) c.if-finger-gt10.false
    (not_is (impression_ok (impression m.before.before)) (sym c.impression_bad.ensures ∙ c.if-impression_bad.true)) in
    λ e. refuse m.before.before e 16 (omega arith) z

pub returns-then-quality-gt100 : goal.returns-then-quality-gt100
returns-then-quality-gt100 c =
    let m = c.before.before.before.before.before.before.before.before.before.before.before.before in
    let z = fault_quality (count m.before.before) (number m.before.before) (position m.before.before) (impression m.before.before) (quality m.before.before) (same c.before.before.before.before.before.before.before) c.if-finger-gt10.false (right c.before.before.before.before) c.if-quality-gt100.true in
    λ e. refuse m.before.before e 24 (omega arith) z

pub returns : goal.returns
returns c =
    let m = c.before.before.before.before.before.before.before.before.before.before.before.before in
    let n = c.before.before.before.before.before.before.before.before.before.before in
    let z = no_fault (count m.before.before) (number m.before.before) (position m.before.before) (impression m.before.before) (quality m.before.before) (same c.before.before.before.before.before.before.before) c.if-finger-gt10.false (right c.before.before.before.before) c.if-quality-gt100.false in
    λ e. fields_good (count m.before.before) (lent m.before.before) (place m.before.before) e (room m.before.before) (c.sure-number.ensures.0 e) (c.sure-position.ensures.0 e) (c.sure-impression.ensures.0 e)
    (m.sure-quality.ensures.0 e) z (n.sure-width.ensures.0 e) (n.sure-height.ensures.0 e)
