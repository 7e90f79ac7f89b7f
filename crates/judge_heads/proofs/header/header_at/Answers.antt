-- `judge_heads::header::header_at` meets its contract: the fields after one another, the scale by `scale_at`, each judged where it is
-- read.
use native.Mathlib.Omega.{arith}
use Rattle.judge_heads.proofs.Laws.Opening.{identified, no_identifier, versioned, no_version, sized, no_length, counted, no_views, scale_bad, behind_scale, not_reserved, header_good}
use Rattle.judge_heads.proofs.header.header_at.Goals as goal

pub returns-then-id-ne1179863808 : goal.returns-then-id-ne1179863808
returns-then-id-ne1179863808 c =
    rw c.at.ensures (no_identifier c.start.ensures c.halves-id.ensures _ c.if-id-ne1179863808.true)

pub returns-then-version-ne808529920 : goal.returns-then-version-ne808529920
returns-then-version-ne808529920 c =
    let i = identified c.start.ensures c.halves-id.ensures c.if-id-ne1179863808.false in
    rw c.at-then-version-ne808529920.ensures (no_version i c.halves-version.ensures _ c.if-version-ne808529920.true)

pub returns-then-len-bytes : goal.returns-then-len-bytes
returns-then-len-bytes c =
    let i = identified c.start.ensures c.halves-id.ensures c.if-id-ne1179863808.false in
    let j = versioned i c.halves-version.ensures c.if-version-ne808529920.false in
    rw c.at-then-len-bytes.ensures (no_length j c.halves-len.ensures _ c.if-len-bytes.true)

pub returns-then-views-lt1 : goal.returns-then-views-lt1
returns-then-views-lt1 c =
    let i = identified c.start.ensures c.halves-id.ensures c.if-id-ne1179863808.false in
    let j = versioned i c.halves-version.ensures c.if-version-ne808529920.false in
    let k = sized j c.halves-len.ensures _ c.if-len-bytes.false in
    rw c.at-then-views-lt1.ensures (no_views k c.sure-device.ensures c.sure-views.ensures c.if-views-lt1.true)

pub sure-reserved-requires : goal.sure-reserved-requires
sure-reserved-requires c =
    let i = identified c.start.ensures c.halves-id.ensures c.if-id-ne1179863808.false in
    let j = versioned i c.halves-version.ensures c.if-version-ne808529920.false in
    let k = sized j c.halves-len.ensures _ c.if-len-bytes.false in
    let m = counted k c.sure-device.ensures c.sure-views.ensures c.if-views-lt1.false in
    omega (arith, behind_scale m (c.in-Ok.ensures 5), c.requires)

pub returns-then-reserved-ne0 : goal.returns-then-reserved-ne0
returns-then-reserved-ne0 c =
    let i = identified c.start.ensures c.halves-id.ensures c.if-id-ne1179863808.false in
    let j = versioned i c.halves-version.ensures c.if-version-ne808529920.false in
    let k = sized j c.halves-len.ensures _ c.if-len-bytes.false in
    let m = counted k c.sure-device.ensures c.sure-views.ensures c.if-views-lt1.false in
    rw c.at-then-reserved-ne0.ensures (not_reserved m (c.in-Ok.ensures 5) c.sure-reserved.ensures c.if-reserved-ne0.true)

pub returns-in-Err : goal.returns-in-Err
returns-in-Err c =
    let i = identified c.start.ensures c.halves-id.ensures c.if-id-ne1179863808.false in
    let j = versioned i c.halves-version.ensures c.if-version-ne808529920.false in
    let k = sized j c.halves-len.ensures _ c.if-len-bytes.false in
    let m = counted k c.sure-device.ensures c.sure-views.ensures c.if-views-lt1.false in
    rw c.at-in-Err.ensures (scale_bad m (c.in-Err.ensures 5))

pub returns : goal.returns
returns c =
    let i = identified c.start.ensures c.halves-id.ensures c.if-id-ne1179863808.false in
    let j = versioned i c.halves-version.ensures c.if-version-ne808529920.false in
    let k = sized j c.halves-len.ensures _ c.if-len-bytes.false in
    let m = counted k c.sure-device.ensures c.sure-views.ensures c.if-views-lt1.false in
    header_good m (c.in-Ok.ensures 5) c.sure-reserved.ensures c.if-reserved-ne0.false
