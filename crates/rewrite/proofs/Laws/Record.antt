-- A record with one payload rewritten is allowed, where it is not too long; the segment has the new payload and the type that it had;
-- and rewriting a payload with itself changes nothing.
use mathlib.Core.Path.{◌≡◌, refl, sym, ap, ◌∙◌}
use Prim.Native.Nat.{ℕ, zero, suc, ◌≤◌, ◌<◌}
use native.Mathlib.Omega.{arith}
use mathlib.Core.List.{List, [], ◌∷◌}
use lib.ListN.{length, set, length-append, length-set}
use lib.Dec.{leb, leb→le, le→leb}
use lib.Seq.{get_or-set_same, set-get_or}
use mir.Facts.{no_leb}
use Rattle.bits.specs.ChoiceLaws.{pick_yes, pick_no, pick_split}
use Rattle.bits.specs.Lists.{All}
use Rattle.bits.specs.ListsLaws.{all_at, all_set, along_at}
use Rattle.bits.specs.Bytes.{Byte}
use Rattle.outcome.specs.Refusals.{too_long}
use Rattle.outcome.specs.Outcome.{refused, given}
use Rattle.outcome.proofs.Laws.{not_given}
use Rattle.format.specs.Limits.{most_bytes}
use Rattle.format.specs.Segments.{Segment, FitsSegment, segment, segment_length, segments}
use Rattle.format.specs.View.{View, view, view_header}
use Rattle.format.specs.Record.{Record, tell_seen, size, write, Allowed}
use Rattle.format.specs.Places.{no_view_there, no_segment_there, view_at, with_view, segment_at}
use Rattle.format.specs.declared.Widths.{Widths}
use Rattle.format.specs.Named.{Means}
use Rattle.format.specs.declared.ViewName.{ViewName}
use Rattle.format.proofs.Laws.Size.{view_length}
use Rattle.format.proofs.Laws.Changed.{FitsAs, changed_count, changed_here, changed_allowed, changed_means}
use Rattle.find_parts.proofs.Laws.Apart.{same_record}
use Rattle.rewrite.specs.Rewrite.{with_payload, rewritten, rewriting}

-- ---- the view

-- a segment is no longer than its block
segment_within : (gs : List Segment) (place : ℕ) (g : Segment) → place < length gs → length (segment.enc g) ≤ length (segments.enc (set gs place g))
unfolding segments
segment_within [] place g l = absurd (omega arith)
segment_within (x ∷ gs) zero g l = simp length-append (omega arith)
segment_within (x ∷ gs) (suc place) g l = simp length-append (omega (arith, segment_within gs place g (omega arith)))

module _ (w : Widths) (v : View) (place : ℕ) (payload : List ℕ) (l : place < length v.segments) (bytes : All Byte payload) where
  payload_fits : FitsAs w (with_payload place payload v) v
  unfolding view view_header segment segments most_bytes
  payload_fits seen f small =
      let g : Segment = record { kind = (segment_at v place).kind; payload = payload } in
      let z = view_length w seen (with_payload place payload v) in
      let long = segment_within v.segments place g l in
      let old : FitsSegment (segment_at v place) = all_at FitsSegment no_segment_there v.segments place l f.1.1.1 in
      let new : FitsSegment g = record { kind = old.kind; length = omega (arith, z, long, segment_length g); payload = bytes } in
      (f.0, (f.1.0, (omega (arith, z), all_set FitsSegment v.segments place g new f.1.1.1)))

-- ---- the record

-- an allowed record's segments fit
pub all_fit : (i : ℕ) (r : Record) → i < length r.views → Allowed r → All FitsSegment (view_at r i).segments
unfolding view segment segments
all_fit i r l f =
    let w : Widths = r.head.scale.widths in
    (along_at tell_seen (λ s v. (view w s).Fits v) no_view_there [] r.views i l f.fits.views).1.1.1.1

pub segment_fits : (i place : ℕ) (r : Record) → i < length r.views → place < length (view_at r i).segments → Allowed r → FitsSegment (segment_at (view_at r i) place)
segment_fits i place r l k f = all_at FitsSegment no_segment_there (view_at r i).segments place k (all_fit i r l f)

module _ (i place : ℕ) (payload : List ℕ) (r : Record) where
  pub rewritten_count : length (rewritten i place payload r).views ≡ length r.views
  unfolding rewritten
  rewritten_count = changed_count r i _

  -- a name means the place that it meant
  pub rewritten_means : (view : ViewName) {j : ℕ} → Means view r j → Means view (rewritten i place payload r) j
  unfolding rewritten
  rewritten_means view m = changed_means r i _ refl view m

  pub rewritten_view : i < length r.views → view_at (rewritten i place payload r) i ≡ with_payload place payload (view_at r i)
  unfolding rewritten
  rewritten_view l = changed_here r i _ l

  -- the segments of a view that is rewritten
  pub as_many : length (with_payload place payload (view_at r i)).segments ≡ length (view_at r i).segments
  as_many = length-set (view_at r i).segments place _

  pub segment_is : place < length (view_at r i).segments
      → segment_at (with_payload place payload (view_at r i)) place ≡ record { kind = (segment_at (view_at r i) place).kind; payload = payload }
  segment_is l = get_or-set_same (view_at r i).segments place _ no_segment_there l

  pub rewritten_allowed : i < length r.views → place < length (view_at r i).segments → All Byte payload
      → size (rewritten i place payload r) ≤ most_bytes → Allowed r → Allowed (rewritten i place payload r)
  unfolding rewritten
  rewritten_allowed l k b small f =
      changed_allowed r i (with_payload place payload (view_at r i)) l refl (payload_fits r.head.scale.widths (view_at r i) place payload k b) small f

  -- ---- the outcome

  pub rewriting_given : (new : List ℕ) → rewriting i place payload r ≡ given new
      → (size (rewritten i place payload r) ≤ most_bytes) × (new ≡ write (rewritten i place payload r))
  unfolding rewriting
  rewriting_given new h =
      pick_split (leb (size (rewritten i place payload r)) most_bytes) _ _ h (λ t e. (leb→le _ most_bytes t, cc)) (λ t e. not_given e)

  pub given_rewriting : size (rewritten i place payload r) ≤ most_bytes → rewriting i place payload r ≡ given (write (rewritten i place payload r))
  unfolding rewriting
  given_rewriting l = pick_yes (leb (size (rewritten i place payload r)) most_bytes) _ _ (le→leb _ most_bytes l)

  pub rewriting_long : most_bytes < size (rewritten i place payload r) → rewriting i place payload r ≡ refused too_long 0
  unfolding rewriting
  rewriting_long l = pick_no (leb (size (rewritten i place payload r)) most_bytes) _ _ (no_leb l)

  -- 19 is the only refusal
  pub rewriting_refused : {e p : ℕ} → rewriting i place payload r ≡ refused e p → e ≡ too_long
  unfolding rewriting
  rewriting_refused h = pick_split (leb (size (rewritten i place payload r)) most_bytes) _ _ h (λ t y. not_given (sym y)) (λ t y. cc)

-- the payload that is there already
pub rewritten_same : (i place : ℕ) (r : Record) → rewritten i place (segment_at (view_at r i) place).payload r ≡ r
unfolding rewritten
rewritten_same i place r =
    let v : View = view_at r i in
    let e : with_payload place (segment_at v place).payload v ≡ v =
    ap (λ (gs : List Segment). record { head = v.head; lines = v.lines; index = v.index; segments = gs }) (set-get_or v.segments place no_segment_there) in
    ap (with_view r i) e ∙ same_record r i
