-- From where a segment stands to the rewritten record: how long it is, and that its bytes are those up to the payload, the payload,
-- and what followed the old one.
use mathlib.Core.Path.{◌≡◌, sym, ap, ap₂, subst, ◌∙◌}
use Prim.Native.Nat.{ℕ, ◌+◌, ◌-◌, ◌*◌, ◌≤◌}
use native.Mathlib.Omega.{arith}
use mathlib.Core.List.{List, [], ◌++◌}
use lib.ListN.{length, drop, set, length-append, length-take, length-drop}
use lib.Seq.{take_all}
use Rattle.bits.specs.Lists.{All}
use Rattle.bits.specs.Bytes.{Byte, in_bytes}
use Rattle.bits.proofs.Laws.Parts.{part, part_length}
use Rattle.put_bytes.specs.Laid.{Laid}
use Rattle.put_bytes.specs.HighFirst.{two}
use Rattle.put_bytes.proofs.Laws.{laid_next, lent, back, room_behind}
use Rattle.format.specs.Segments.{Segment, segments}
use Rattle.format.specs.Record.{Record, size, write, Allowed}
use Rattle.format.specs.Places.{view_at, segment_at}
use Rattle.format.specs.declared.ViewName.{ViewName}
use Rattle.format.proofs.Laws.Record.{read_back}
use Rattle.format.proofs.Laws.Size.{write_long}
use Rattle.find_parts.proofs.Laws.Blocks.{block_bits, block_long}
use Rattle.find_parts.proofs.Laws.Record.{record_apart}
use Rattle.find_parts.proofs.Laws.Written.{written}
use Rattle.put_record.specs.Head.{head_of}
use Rattle.put_record.proofs.Laws.{is_stored}
use Rattle.rewrite.specs.Rewrite.{rewritten}
use Rattle.rewrite.proofs.Laws.Bytes.{extended_size, rewritten_size, rewritten_bytes}
use Rattle.find_segment.specs.Found.{SegmentStands}
use Rattle.find_segment.specs.declared.Spot.{Spot}
use Rattle.rewrite_put.specs.Front.{new_length, new_extended, front_of, SpotIn, FrontRoom}

module _ {s : List ℕ} {view : ViewName} {place : ℕ} {x : Spot} (h : SegmentStands s view place x) where
  pub spot_in : SpotIn s x
  spot_in =
      let a = h.at in
      record {
        from = omega (arith, a.before);
        first = omega (arith, a.before, a.first);
        order = omega (arith, a.end);
        inside = a.inside;
        within = a.extended.within;
        short = (record_apart s h.reads).short;
      }

  -- with that payload
  module _ (bytes : All Byte s) (payload : List ℕ) where
    abbrev r : Record
    r = h.value

    pub size_is : size (rewritten h.i place payload r) ≡ new_length s x (length payload)
    size_is =
        let a = h.at in
        let (_, w, _) = read_back s r [] bytes h.reads in
        omega (arith, rewritten_size h.i place payload r a.there a.below, ap length w, write_long r, a.end, spot_in.order, spot_in.inside, spot_in.within)

    -- in a record of n bytes, with an extended length of m
    abbrev put : (n m from count end : ℕ) → List ℕ
    put n m from count end =
        ((((head_of s (x.extended.from - 2) n ++ two m) ++ part s from count) ++ two (4 + length payload)) ++ payload) ++ drop end s

    pub bytes_are : Allowed (rewritten h.i place payload r) → (front_of s x (length payload) ++ payload) ++ drop x.payload.to s ≡ write (rewritten h.i place payload r)
    bytes_are ok =
        let a = h.at in
        let (old, _, _) = read_back s r [] bytes h.reads in
        let e : ℕ = x.extended.from - 2 in
        let z : e + 2 ≡ x.extended.from = omega (arith, spot_in.from) in
        let others : List Segment = set (view_at r h.i).segments place (record { kind = (segment_at (view_at r h.i) place).kind; payload = payload }) in
        let m = extended_size h.i place payload r a.there a.below in
        let n : length (in_bytes (segments.enc others)) ≡ new_extended x (length payload) =
        omega (arith, m, block_bits a.extended, block_long segments (view_at r h.i).segments, a.end, spot_in.order, spot_in.inside, spot_in.first) in
        let i : x.payload.from + length (segment_at (view_at r h.i) place).payload ≡ x.payload.to = omega (arith, a.end) in
        let b = rewritten_bytes h.i place payload r a.there a.below old ok e x.payload.from (is_stored bytes h.reads) (ap (λ (n : ℕ). 8 * n) z ∙ a.before) a.first in
        sym (written (rewritten h.i place payload r) ok ∙ b
        ∙ ap₂ (λ (g m : ℕ). put g m (e + 2) (x.payload.from - 2 - (e + 2)) (x.payload.from + length (segment_at (view_at r h.i) place).payload)) size_is n
        ∙ ap₂ (λ (d g : ℕ). put (new_length s x (length payload)) (new_extended x (length payload)) d (x.payload.from - 2 - d) g) z i)

-- ---- the bytes up to the payload, part by part

head_count : (s : List ℕ) (to n : ℕ) → 12 ≤ to → to ≤ length s → length (head_of s to n) ≡ to
head_count s to n l k = simp (length-append, length-take, length-drop) (omega arith)

module _ {s : List ℕ} {x : Spot} {k : ℕ} {out : List ℕ} (t : FrontRoom s x k out) where
  -- the bounds, without a difference
  pub bounds : (x.extended.from + 4 ≤ x.payload.from) × (x.payload.from ≤ x.payload.to) × (x.payload.to ≤ x.extended.to) × (x.extended.to ≤ length s)
      × (length s ≤ 32768) × (14 ≤ x.extended.from)
  bounds = let p = t.spot in (p.first, p.order, p.inside, p.within, p.short, p.from)

  pub head_end : {o o1 : List ℕ} {a : ℕ} → Laid (head_of s (x.extended.from - 2) (new_length s x k)) o o1 a → a + 2 ≡ x.extended.from
  head_end h = let z = head_count s (x.extended.from - 2) (new_length s x k) (omega (arith, bounds)) (omega (arith, bounds)) in omega (arith, h.count, z, bounds)

  pub between_long : length (part s x.extended.from (x.payload.from - 2 - x.extended.from)) + 2 + x.extended.from ≡ x.payload.from
  between_long =
      let z = part_length s x.extended.from (x.payload.from - 2 - x.extended.from) (omega (arith, bounds)) in
      omega (arith, z, bounds)

  pub front_end : {o o1 : List ℕ} {a : ℕ} → Laid (front_of s x k) o o1 a → a ≡ x.payload.from
  front_end h =
      let head : List ℕ = head_of s (x.extended.from - 2) (new_length s x k) in
      let rest : List ℕ = part s x.extended.from (x.payload.from - 2 - x.extended.from) in
      let z = head_count s (x.extended.from - 2) (new_length s x k) (omega (arith, bounds)) (omega (arith, bounds)) in
      let y : length (front_of s x k) ≡ length head + 4 + length rest = simp length-append (omega arith) in
      omega (arith, h.count, y, z, between_long, bounds)

  -- ---- the payload, and what stands behind the old one

  pub in_all : x.payload.from + k + (length s - x.payload.to) ≡ new_length s x k
  in_all = omega (arith, bounds)

  tail_is : part s x.payload.to (length s - x.payload.to) ≡ drop x.payload.to s
  tail_is = take_all (length s - x.payload.to) (drop x.payload.to s) (omega (arith, length-drop x.payload.to s))

  pub tail_long : length (part s x.payload.to (length s - x.payload.to)) ≡ length s - x.payload.to
  tail_long = ap length tail_is ∙ length-drop x.payload.to s

  module _ {payload : List ℕ} (n : k ≡ length payload) {o1 o2 : List ℕ} {a b : ℕ} (F : Laid (front_of s x k) out o1 a) (P : Laid payload (lent o1 a) o2 b) where
    both : Laid (front_of s x (length payload) ++ payload) out (back o1 a o2) (a + b)
    both = laid_next (subst (λ (m : ℕ). Laid (front_of s x m) out o1 a) n F) P

    pub tail_fits : length (part s x.payload.to (length s - x.payload.to)) ≤ length (lent (back o1 a o2) (a + b))
    tail_fits =
        room_behind (length (part s x.payload.to (length s - x.payload.to))) both (omega (arith, front_end F, P.count, tail_long, in_all, t.room))

    pub all_put : {o3 : List ℕ} {c : ℕ} → Laid (part s x.payload.to (length s - x.payload.to)) (lent (back o1 a o2) (a + b)) o3 c
        → Laid ((front_of s x (length payload) ++ payload) ++ drop x.payload.to s) out (back (back o1 a o2) (a + b) o3) (a + b + c)
    all_put {o3} {c} C = laid_next both (subst (λ (xs : List ℕ). Laid xs (lent (back o1 a o2) (a + b)) o3 c) tail_is C)
