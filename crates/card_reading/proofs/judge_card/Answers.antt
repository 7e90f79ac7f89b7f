-- The shape, then the lines, then the index: the first that refuses is the answer.
use native.Mathlib.Omega.{arith}
use Rattle.bits.proofs.Laws.Place.{all_bytes}
use Rattle.card_shape.proofs.Laws.Object.{skeleton_before, index_before}
use Rattle.card_reading.proofs.Laws.{shapeless, skeleton_long, index_long, lines_bad, lines_few, index_bad, carded, object_bounds}
use Rattle.card_reading.proofs.judge_card.Goals as goal

pub returns-in_default : goal.returns-in_default
returns-in_default c = rw c.into.ensures (shapeless c.args.w c.in_default.ensures, omega arith)

pub judge_lines-requires : goal.judge_lines-requires
judge_lines-requires c =
    let h = c.in-Some.ensures in
    omega (arith, skeleton_long c.args.w h, skeleton_before h, index_before h, (object_bounds h).1, c.requires)

pub overflow_mul-result : goal.overflow_mul-result
overflow_mul-result c =
    let h = c.in-Some.ensures in
    omega (arith, (lines_bad c.args.w h c.in-Err.ensures).1, (object_bounds h).0)

pub overflow_add-result : goal.overflow_add-result
overflow_add-result c =
    let h = c.in-Some.ensures in
    omega (arith, (lines_bad c.args.w h c.in-Err.ensures).1, (object_bounds h).0)

pub overflow_cast-result : goal.overflow_cast-result
overflow_cast-result c =
    let h = c.in-Some.ensures in
    omega (arith, (lines_bad c.args.w h c.in-Err.ensures).1, (object_bounds h).0)

pub returns-in-Err : goal.returns-in-Err
returns-in-Err c = lines_bad c.args.w c.in-Some.ensures c.in-Err.ensures

pub judge_index-requires : goal.judge_index-requires
judge_index-requires c =
    let h = c.in-Some.ensures in
    omega (arith, index_long c.args.w h, skeleton_before h, index_before h, (object_bounds h).1, lines_few c.args.w h c.in-Ok.ensures)

pub overflow_mul-result-in-Err-judge_index : goal.overflow_mul-result-in-Err-judge_index
overflow_mul-result-in-Err-judge_index c =
    let h = c.in-Some.ensures in
    omega (arith, (index_bad c.args.w h c.in-Ok.ensures c.in-Err-judge_index.ensures).1, (object_bounds h).0)

pub overflow_add-result-in-Err-judge_index : goal.overflow_add-result-in-Err-judge_index
overflow_add-result-in-Err-judge_index c =
    let h = c.in-Some.ensures in
    omega (arith, (index_bad c.args.w h c.in-Ok.ensures c.in-Err-judge_index.ensures).1, (object_bounds h).0)

pub overflow_cast-result-in-Err-judge_index : goal.overflow_cast-result-in-Err-judge_index
overflow_cast-result-in-Err-judge_index c =
    let h = c.in-Some.ensures in
    omega (arith, (index_bad c.args.w h c.in-Ok.ensures c.in-Err-judge_index.ensures).1, (object_bounds h).0)

pub returns-in-Err-judge_index : goal.returns-in-Err-judge_index
returns-in-Err-judge_index c = index_bad c.args.w c.in-Some.ensures c.in-Ok.ensures c.in-Err-judge_index.ensures

pub returns : goal.returns
returns c =
    carded c.args.w c.in-Some.ensures c.in-Ok.ensures (all_bytes c.args.object.now (λ i. (c.type_inv.object i).fits)) c.in_default-judge_index.ensures
