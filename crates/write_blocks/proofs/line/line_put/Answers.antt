-- The value has the line's ends and codes where the code takes them, and put one behind the other they are the line.
use native.Mathlib.Omega.{arith}
use Rattle.write_blocks.proofs.Laws.Line.{held_long, held_start, held_finish, held_codes, line_room, start_put, start_place, codes_behind, line_put}
use Rattle.write_blocks.proofs.line.line_put.Goals as goal

pub end_put-p-requires : goal.end_put-p-requires
end_put-p-requires c =
    let pre = c.requires in
    let k = c.args.w.k in
    let (a, b) = line_room c.args.w pre.value pre.room in
    record { narrow = pre.narrow; there = omega (arith, held_long k pre.value pre.held); value = pre.value.start; fits = pre.fits.start; held = held_start k pre.value pre.held; room = record { room = omega (arith, a); near = omega (arith, b) } }

pub put_bits-p-requires : goal.put_bits-p-requires
put_bits-p-requires c =
    let pre = c.requires in
    let (a, b) = line_room c.args.w pre.value pre.room in
    let S = c.end_put-p.ensures in
    let place = start_place c.args.w pre.value pre.fits pre.held S in
    record {
      below = omega (arith, held_long c.args.w.k pre.value pre.held, pre.fits.count);
      narrow = omega arith;
      room = omega (arith, a, place, (start_put c.args.w pre.value pre.fits pre.held S).same);
      near = omega (arith, b, place);
    }

pub codes_put-p-requires : goal.codes_put-p-requires
codes_put-p-requires c =
    let pre = c.requires in
    let (a, b) = line_room c.args.w pre.value pre.room in
    let S = c.end_put-p.ensures in
    let N = c.put_bits-p.ensures in
    let place = start_place c.args.w pre.value pre.fits pre.held S in
    record {
      low = pre.narrow.low;
      high = pre.narrow.k;
      value = pre.value.codes;
      fits = pre.fits.codes;
      held = held_codes c.args.w.k pre.value pre.held;
      room = record { room = omega (arith, a, place, N.place, N.same, (start_put c.args.w pre.value pre.fits pre.held S).same); near = omega (arith, b, place, N.place) };
    }

pub end_put-requires : goal.end_put-requires
end_put-requires c =
    let pre = c.requires in
    let k = c.args.w.k in
    let (a, b) = line_room c.args.w pre.value pre.room in
    let (place, same) = codes_behind c.args.w pre.value pre.fits pre.held c.end_put-p.ensures c.put_bits-p.ensures c.codes_put-p.ensures in
    record { narrow = pre.narrow; there = omega (arith, held_long k pre.value pre.held); value = pre.value.finish; fits = pre.fits.finish; held = held_finish k pre.value pre.held; room = record { room = omega (arith, a, place, same); near = omega (arith, b, place) } }

pub returns : goal.returns
returns c =
    record { is = λ l f h. line_put c.args.w l f h c.end_put-p.ensures c.put_bits-p.ensures c.codes_put-p.ensures c.end_put.ensures }
