-- From header to header. The invariant is that the views before have other names, whatever record the bytes are; the measure is how
-- many bytes are left.
use native.Mathlib.Omega.{arith}
use Rattle.bits.proofs.Laws.Place.{all_bytes}
use Rattle.find_parts.proofs.Laws.Record.{record_apart}
use Rattle.find_parts.proofs.Laws.Blocks.{blocks_there}
use Rattle.find_parts.proofs.Laws.Views.{view_in_lem}
use Rattle.find_parts.proofs.Laws.Named.{seeking_start, seeking_none, more, header_within, seeking_found, seeking_on, seeking_less}
use Rattle.find_parts.proofs.view.view_named.Goals as goal

pub loop-a-init : goal.loop-a-init
loop-a-init c = λ r e. seeking_start c.args.view c.args.bytes.now e

pub has_name-requires : goal.has_name-requires
has_name-requires c =
    let pre = c.requires in omega (arith, header_within (c.loop-a.invariant pre.value pre.reads) c.loop-a-test.true)

pub returns-then-has_name : goal.returns-then-has_name
returns-then-has_name c =
    let l = c.loop-a-test.true in
    let bytes = all_bytes c.args.bytes.now (λ i. (c.type_inv.bytes i).fits) in
    record { within = l; there = λ r e. seeking_found (c.loop-a.invariant r e) l bytes c.has_name.ensures c.if-has_name.true }

pub blocks_at-blocks-requires : goal.blocks_at-blocks-requires
blocks_at-blocks-requires c =
    let pre = c.requires in
    let h = c.loop-a.invariant pre.value pre.reads in
    blocks_there (record_apart _ pre.reads).short (view_in_lem h.sought (more h c.loop-a-test.true)).at

pub loop-a-smaller : goal.loop-a-smaller
loop-a-smaller c =
    let pre = c.requires in
    omega (arith, seeking_less (c.loop-a.invariant pre.value pre.reads) c.loop-a-test.true c.blocks_at-blocks.ensures, c.loop-a-test.true)

pub loop-a-preserved : goal.loop-a-preserved
loop-a-preserved c =
    let bytes = all_bytes c.args.bytes.now (λ i. (c.type_inv.bytes i).fits) in
    λ r e. seeking_on (c.loop-a.invariant r e) c.loop-a-test.true bytes c.has_name.ensures c.blocks_at-blocks.ensures c.if-has_name.false

pub returns : goal.returns
returns c = λ r e. seeking_none (c.loop-a.invariant r e) c.loop-a-test.false
