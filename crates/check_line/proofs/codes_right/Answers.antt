-- Each byte behind the ends is tested, and what the tests come to is what reading the codes finds.
use Rattle.std.proofs.Common.{ℕ, ◌≡◌, ◌-◌, ◌<◌, ◌^◌, take, drop, length, get_or, arith, rules, tests}
use Rattle.std.proofs.lemmas.Iterator.{YieldsList-from_slice}
use Rattle.std.proofs.lemmas.Iterator.Search.{all_from_yields_List}
use lib.Seq.{take_all}
use lib.ListN.{length-drop}
use Rattle.sheet_codes.specs.Code.{code_ok}
use Rattle.check_line.proofs.Laws.{codes_told}
use Rattle.check_line.proofs.codes_right.Goals as goal

pub returns : goal.returns
returns c =
    let s = c.args.value.now in
    let e = all_from_yields_List (code_ok c.args.k) _ _ c.all.result c.all.ensures.ran (YieldsList-from_slice (take (length s - 12) (drop 12 s)) cc) (λ x b q k. search (rules, tests)) in
    let z : take (length s - 12) (drop 12 s) ≡ drop 12 s = take_all (length s - 12) (drop 12 s) (omega (arith, length-drop 12 s)) in
    let small : (i : ℕ) → get_or s i 0 < 2 ^ 8 = λ i. (c.type_inv.value i).fits in
    rw (e, z) (codes_told c.args.k s small c.requires.0)
