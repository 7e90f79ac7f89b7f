-- Going over the segments of an extended block s, one by one. `Rest gs more` says, of whatever segments gs the block has, what holds
-- where `more` are still to come.
use mathlib.Core.Path.{◌≡◌, refl, sym, ap, ap₂, ◌∙◌}
use Prim.Native.Nat.{ℕ, zero, suc, ◌+◌, ◌-◌, ◌*◌, ◌≤◌, ◌<◌}
use native.Mathlib.Omega.{arith}
use mathlib.Core.List.{List, [], ◌∷◌, ◌++◌, map}
use lib.ListN.{length, take, drop, get_or, length-append, length-drop}
use lib.Seq.{take_at, drop_at, take_all}
use Rattle.bits.specs.Lists.{All}
use Rattle.bits.specs.Bits.{Bits}
use Rattle.bits.specs.Bytes.{Byte, bits_of, in_bytes}
use Rattle.bits.specs.BytesLaws.{length_bits_of, in_bits}
use Rattle.bits.specs.Codec.{got}
use Rattle.bits.proofs.Laws.Parts.{part}
use Rattle.put_bytes.specs.HighFirst.{joined}
use Rattle.format.specs.Segments.{Segment, FitsSegment, segment, segments}
use Rattle.find_parts.specs.Finds.{segment_stored}
use Rattle.find_parts.proofs.Laws.Segments.{two_there, segments_bytes}
use Rattle.order_segments.specs.Walk.{stated, cut_into, segments_in, Whole}

-- ---- a segment's bytes

module _ (g : Segment) where
  pub stored_long : length (segment_stored g) ≡ 4 + length g.payload
  stored_long = omega arith

  pub stored_kind : {s : List ℕ} → s ≡ segment_stored g → get_or s 0 0 * 256 + get_or s (0 + 1) 0 ≡ g.kind
  stored_kind {s} e = two_there s 0 g.kind (ap (take 2) e)

  -- behind the type and the length
  pub stored_payload : {s : List ℕ} → s ≡ segment_stored g → part s 4 (length s - 4) ≡ g.payload
  stored_payload {s} e = take_all (length s - 4) (drop 4 s) (omega (arith, length-drop 4 s)) ∙ ap (drop 4) e

  -- with others behind them
  module _ (r : List ℕ) where
    states : stated (segment_stored g ++ r) ≡ length (segment_stored g)
    states = two_there (segment_stored g ++ r) 2 (4 + length g.payload) refl ∙ sym stored_long

    first_taken : take (stated (segment_stored g ++ r)) (segment_stored g ++ r) ≡ segment_stored g
    first_taken = take_at (segment_stored g) r (stated (segment_stored g ++ r)) (sym states)

    first_dropped : drop (stated (segment_stored g ++ r)) (segment_stored g ++ r) ≡ r
    first_dropped = drop_at (segment_stored g) r (stated (segment_stored g ++ r)) (sym states)

    first_cut : (n : ℕ) → cut_into (suc n) (segment_stored g ++ r) ≡ segment_stored g ∷ cut_into n r
    first_cut n = ap₂ (λ (x : List ℕ) (y : List ℕ). x ∷ cut_into n y) first_taken first_dropped

-- ---- the segments of the bytes

cut_all : (n : ℕ) (gs : List Segment) → length (joined segment_stored gs) ≤ n → cut_into n (joined segment_stored gs) ≡ map segment_stored gs
cut_all zero [] l = refl
cut_all (suc n) [] l = refl
cut_all zero (g ∷ gs) l = absurd (omega (arith, length-append (segment_stored g) (joined segment_stored gs), stored_long g))
cut_all (suc n) (g ∷ gs) l =
    first_cut g (joined segment_stored gs) n
    ∙ ap (λ (x : List (List ℕ)). segment_stored g ∷ x) (cut_all n gs (omega (arith, length-append (segment_stored g) (joined segment_stored gs), stored_long g)))

pub segments_are : (gs : List Segment) {s : List ℕ} → s ≡ joined segment_stored gs → segments_in s ≡ map segment_stored gs
unfolding segments_in
segments_are gs {s} e = ap (λ (x : List ℕ). cut_into (length x) x) e ∙ cut_all (length (joined segment_stored gs)) gs (omega arith)

-- a step: the first segment, of n bytes, and what is behind it
pub record Step (s : List ℕ) (n : ℕ) : Type 0 where
  pub there : (4 ≤ n) × (n ≤ length s)
  pub is : segments_in s ≡ take n s ∷ segments_in (drop n s)
  pub whole : Whole (drop n s)

first_step : (g : Segment) (gs : List Segment) → FitsSegment g → All FitsSegment gs → {s : List ℕ} → s ≡ segment_stored g ++ joined segment_stored gs
    → {n : ℕ} → n ≡ get_or s 2 0 * 256 + get_or s (2 + 1) 0 → Step s n
first_step g gs f fs {s} e {n} m =
    let r : List ℕ = joined segment_stored gs in
    let z : n ≡ length (segment_stored g) = m ∙ ap stated e ∙ states g r in
    let t : take n s ≡ segment_stored g = ap₂ (λ (k : ℕ) (x : List ℕ). take k x) z e ∙ take_at (segment_stored g) r (length (segment_stored g)) refl in
    let d : drop n s ≡ r = ap₂ (λ (k : ℕ) (x : List ℕ). drop k x) z e ∙ drop_at (segment_stored g) r (length (segment_stored g)) refl in
    record {
      there = (omega (arith, z, stored_long g), omega (arith, z, ap length e, length-append (segment_stored g) r));
      is = segments_are (g ∷ gs) e ∙ ap₂ (λ (x : List ℕ) (y : List (List ℕ)). x ∷ y) (sym t) (sym (segments_are gs d));
      whole = record { values = gs; fit = fs; is = d };
    }

pub next_step : {s : List ℕ} → Whole s → 0 < length s → {n : ℕ} → n ≡ get_or s 2 0 * 256 + get_or s (2 + 1) 0 → Step s n
next_step {s} w l {n} m = go w.values w.fit w.is
  where
    go : (gs : List Segment) → All FitsSegment gs → s ≡ joined segment_stored gs → Step s n
    go [] f e = absurd (omega (arith, ap length e))
    go (g ∷ gs) f e = first_step g gs f.0 f.1 e m

-- where bytes are left, a segment's first four are
pub four_left : {s : List ℕ} → Whole s → 0 < length s → 4 ≤ length s
four_left w l = let t = next_step w l refl in omega (arith, t.there)

pub none_left : (s : List ℕ) → length s ≤ 0 → segments_in s ≡ []
none_left [] l = segments_are [] refl
none_left (x ∷ s) l = absurd (omega arith)

-- ---- of a block

module _ (s : List ℕ) (gs : List Segment) (u : Bits) (h : segments.dec (bits_of s) ≡ got gs u) where
  read_as : All FitsSegment gs × (bits_of s ≡ segments.enc gs)
  unfolding segments segment
  read_as = segments.back (bits_of s) gs (omega (arith, length_bits_of s)) (h ∙ ap (got gs) (segments.all (bits_of s) gs u h))

  pub block_fits : All FitsSegment gs
  block_fits = read_as.0

  pub block_whole : All Byte s → Whole s
  block_whole bytes =
      record { values = gs; fit = block_fits; is = sym (in_bits s bytes) ∙ ap in_bytes read_as.1 ∙ segments_bytes gs block_fits }

-- ps: the bytes of those that are still to come of the segments gs of s
pub record Over (Rest : List Segment → List Segment → Type 0) (s : List ℕ) (gs : List Segment) (ps : List (List ℕ)) : Type 0 where
  pub more : List Segment
  pub fit : All FitsSegment more
  pub are : ps ≡ map segment_stored more
  pub rest : Rest gs more

abbrev pub OverAll : (Rest : List Segment → List Segment → Type 0) (s : List ℕ) (ps : List (List ℕ)) → Type 0
OverAll Rest s ps = (gs : List Segment) (u : Bits) → segments.dec (bits_of s) ≡ got gs u → Over Rest s gs ps

pub over_first : (Rest : List Segment → List Segment → Type 0) (s : List ℕ) → All Byte s → ((gs : List Segment) (u : Bits) → segments.dec (bits_of s) ≡ got gs u → Rest gs gs)
    → OverAll Rest s (segments_in s)
unfolding block_whole
over_first Rest s bytes f gs u h =
    record { more = gs; fit = block_fits s gs u h; are = segments_are gs (block_whole s gs u h bytes).is; rest = f gs u h }

-- the segment with the bytes p comes next, and then those of qs
pub record Here (Rest : List Segment → List Segment → Type 0) (gs : List Segment) (p : List ℕ) (qs : List (List ℕ)) : Type 0 where
  pub value : Segment
  pub more : List Segment
  pub fits : FitsSegment value
  pub is : p ≡ segment_stored value
  pub rest : Rest gs (value ∷ more)
  pub fit : All FitsSegment more
  pub are : qs ≡ map segment_stored more

module _ (Rest : List Segment → List Segment → Type 0) {s : List ℕ} {ps : List (List ℕ)} (S : OverAll Rest s ps) where
  module _ {p : List ℕ} {qs : List (List ℕ)} (e : ps ≡ p ∷ qs) where
    pub segment_here : (gs : List Segment) (u : Bits) → segments.dec (bits_of s) ≡ got gs u → Here Rest gs p qs
    segment_here gs u h = let o = S gs u h in go o.more o.fit (sym e ∙ o.are) o.rest
      where
        go : (more : List Segment) → All FitsSegment more → p ∷ qs ≡ map segment_stored more → Rest gs more → Here Rest gs p qs
        go [] f a r = let z : ◌≡◌ {A = ℕ} 0 1 = cc in absurd (omega arith)
        go (g ∷ more) f a r = record { value = g; more = more; fits = f.0; is = cc; rest = r; fit = f.1; are = cc }

    -- to the next one
    pub over_next : (Next : List Segment → List Segment → Type 0)
        → ((gs : List Segment) (u : Bits) (h : segments.dec (bits_of s) ≡ got gs u) → Next gs (segment_here gs u h).more) → OverAll Next s qs
    over_next Next f gs u h = let t = segment_here gs u h in record { more = t.more; fit = t.fit; are = t.are; rest = f gs u h }

  -- behind the last
  pub over_done : ps ≡ [] → (gs : List Segment) (u : Bits) → segments.dec (bits_of s) ≡ got gs u → Rest gs []
  over_done e gs u h = let o = S gs u h in go o.more (sym e ∙ o.are) o.rest
    where
      go : (more : List Segment) → [] ≡ map segment_stored more → Rest gs more → Rest gs []
      go [] a r = r
      go (g ∷ more) a r = let z : ◌≡◌ {A = ℕ} 0 1 = cc in absurd (omega arith)
