-- Pores read behind orders: each line that is left has the pores that it had, by the numbers that reading gives. Behind one removal, and
-- behind any sequence.
use mathlib.Core.Path.{◌≡◌, sym, ap, ◌∙◌}
use Prim.Native.Nat.{ℕ, ◌<◌}
use native.Mathlib.Omega.{arith}
use mathlib.Core.Option.{some}
use mathlib.Core.List.{List, []}
use lib.ListN.{length, get_or, length-map}
use Rattle.bits.specs.ChoiceLaws.{eqb_true}
use Rattle.bits.specs.Lists.{All}
use Rattle.bits.specs.ListsLaws.{at_all, map_at}
use Rattle.bits.specs.Bytes.{Byte}
use Rattle.bits.specs.Codec.{got}
use Rattle.outcome.specs.Outcome.{given}
use Rattle.format.specs.Segments.{Segment, sweat_pores}
use Rattle.format.specs.View.{View}
use Rattle.format.specs.Record.{Record, read, write, Allowed}
use Rattle.format.specs.Places.{count, line_at, view_at, no_segment_there, segment_at}
use Rattle.format.specs.Named.{Means}
use Rattle.format.specs.declared.ViewName.{ViewName}
use Rattle.format.proofs.Laws.Record.{read_there, read_is}
use Rattle.rewrite.specs.Accepted.{SegmentThere, its_segment}
use Rattle.rewrite.proofs.Laws.Payload.{read_given, reading_gives}
use Rattle.pores_parts.specs.Parts.{Pores, FitsPores}
use Rattle.pores.specs.Payload.{pores_in, payload_of}
use Rattle.pores.specs.PayloadLaws.{payload_read}
use Rattle.pores.specs.Numbers.{numbers_of}
use Rattle.pores.specs.Keep.{keep, keep_in, keep_segments}
use Rattle.pores.specs.Calls.{pores_format, pores}
use Rattle.pores.proofs.Laws.Keep.{keep_fits, kept_pores}
use Rattle.orders.specs.Survive.{survivors}
use Rattle.orders.specs.Act.{Act, remove, after}
use Rattle.orders.specs.Order.{Order, edited, order}
use Rattle.orders.specs.History.{Call, run, Follows}
use Rattle.orders.specs.Kept.{history_of, Kept}
use Rattle.orders.proofs.Laws.Survive.{survivors_below}
use Rattle.orders.proofs.Laws.Near.{lines_after, segments_after}
use Rattle.orders.proofs.Laws.Keep.{edited_here, edited_means, order_keeps}
use Rattle.orders.proofs.Laws.Story.{segment_kept}
use Rattle.orders.proofs.Laws.Sequence.{orders_follow}
use Rattle.orders.proofs.Laws.Gives.{given_on}

-- the segment of pores that is kept is read: ks are the lines that are left, of n
kept_reads : (view : ViewName) (place : ℕ) (bytes : List ℕ) (t : SegmentThere view place bytes) (n : ℕ) (ks : List ℕ) (g : Segment) (p : Pores)
    → its_segment t ≡ keep_in n ks g → g.kind ≡ sweat_pores → FitsPores n p → g.payload ≡ payload_of p → All (λ k. k < n) ks → length ks ≡ count (view_at t.value t.i)
    → pores view place bytes ≡ given (numbers_of (keep ks p))
kept_reads view place bytes t n ks g p e k f y low c =
    let s : pores_in n g.payload ≡ some p = ap (pores_in n) y ∙ payload_read n p f in
    let h = e ∙ kept_pores n ks g (eqb_true g.kind sweat_pores k) p s in
    reading_gives pores_format t (ap (λ (x : Segment). x.kind) h) (rw c at (keep_fits n ks p low f)) (ap (λ (x : Segment). x.payload) h)

-- ---- behind a removal

-- of the view that the removal names
removed_reads : (i : ℕ) (rs : List ℕ) (r : Record) (view : ViewName) (place : ℕ) (p : Pores) → Means view r i → Allowed (edited i (remove rs) r) → place < length (view_at r i).segments
    → (segment_at (view_at r i) place).kind ≡ sweat_pores → FitsPores (count (view_at r i)) p → (segment_at (view_at r i) place).payload ≡ payload_of p
    → pores view place (write (edited i (remove rs) r)) ≡ given (numbers_of (keep (survivors (count (view_at r i)) rs) p))
unfolding keep_segments
removed_reads i rs r view place p m a l kind right is =
    let v : View = view_at r i in
    let n : ℕ = count v in
    let ks : List ℕ = survivors n rs in
    let x : Record = edited i (remove rs) r in
    let here : view_at x i ≡ after (remove rs) v = edited_here i (remove rs) r m.there in
    let gs : (view_at x i).segments ≡ keep_segments n ks v.segments = ap (λ (u : View). u.segments) here ∙ segments_after (remove rs) v in
    let e : segment_at (view_at x i) place ≡ keep_in n ks (segment_at v place) =
    ap (λ (ss : List Segment). get_or ss place no_segment_there) gs ∙ map_at (keep_in n ks) v.segments place no_segment_there no_segment_there l in
    let c : length ks ≡ count (view_at x i) = sym (ap (λ (u : View). length u.lines) here ∙ ap length (lines_after (remove rs) v) ∙ length-map ks (line_at v)) in
    kept_reads view place (write x)
    (record { value = x; reads = read_there x a; i = i; means = edited_means i (remove rs) r m; there = rw gs (omega (arith, length-map v.segments (keep_in n ks))) })
    n ks (segment_at v place) p e kind right is (survivors_below n rs) c

pub removal_pores : {P : Type 0} (o : Order) (rs : List ℕ) (bytes : List ℕ) (place : ℕ) (xs new : List ℕ) → o.act ≡ remove rs → order o bytes ≡ given new
    → pores o.view place bytes ≡ given xs
    → ((r : Record) (i : ℕ) (p : Pores) → read bytes ≡ got r [] → Means o.view r i → xs ≡ numbers_of p
    → pores o.view place new ≡ given (numbers_of (keep (survivors (count (view_at r i)) rs) p)) → P) → P
removal_pores o rs bytes place xs new act h g k =
    read_given pores_format o.view place bytes xs g λ t p kind right is es.
    let r : Record = t.value in
    let i : ℕ = t.i in
    given_on o bytes t.reads t.means h λ a n.
    let w : Allowed (edited i o.act r) = order_keeps o i r (read_is bytes r [] t.reads).0 a in
    k r i p t.reads t.means (sym es)
    (ap (pores o.view place) (n ∙ ap (λ (c : Act). write (edited i c r)) act)
    ∙ removed_reads i rs r o.view place p t.means (rw act at w) t.there kind right is)

-- ---- behind any sequence

pub pores_follow : {P : Type 0} (cs : List Call) (view : ViewName) (place : ℕ) (bytes xs : List ℕ) → All Byte bytes → pores view place bytes ≡ given xs
    → ((r : Record) (i : ℕ) (p : Pores) → read bytes ≡ got r [] → Means view r i → xs ≡ numbers_of p
    → pores view place (run cs bytes) ≡ given (numbers_of (keep (history_of i cs r bytes).left p)) → P) → P
pores_follow cs view place bytes xs b g k =
    read_given pores_format view place bytes xs g λ t p kind right is es.
    let r : Record = t.value in
    let i : ℕ = t.i in
    let K : Kept cs r bytes (run cs bytes) = orders_follow cs bytes r b t.reads in
    let F : Follows (view_at r i) (view_at K.last i) (history_of i cs r bytes) = K.follows i t.means.there in
    let (j, e) = segment_kept F place t.there in
    let u : SegmentThere view place (run cs bytes) =
    record { value = K.last; reads = K.reads; i = i; means = record { is = K.places view ∙ t.means.is; there = omega (arith, t.means.there, K.count) }; there = j } in
    k r i p t.reads t.means (sym es)
    (kept_reads view place (run cs bytes) u (count (view_at r i)) (history_of i cs r bytes).left (its_segment t) p e kind right is
    (at_all (λ x. x < count (view_at r i)) 0 (history_of i cs r bytes).left F.below) F.counts)
