-- The walk to the view that a name means, from view header to view header: the first two bytes of a header are the view's name, and
-- what is passed has another one.
use mathlib.Core.Path.{◌≡◌, refl, sym, ap, ap₂, ◌∙◌}
use mathlib.Core.Logic.{◌≢◌}
use Prim.Native.Nat.{ℕ, suc, ◌+◌, ◌-◌, ◌*◌, ◌≤◌, ◌<◌}
use native.Mathlib.Omega.{arith}
use mathlib.Core.Bool.{Bool, true, false}
use mathlib.Core.List.{List, []}
use lib.ListN.{length, drop, get_or}
use lib.Seq.{get_or-take, get_or-drop, drop-cons}
use lib.Dec.{eqb}
use Rattle.bits.specs.Choice.{pick}
use Rattle.bits.specs.ChoiceLaws.{eqb_true, eqb_false, split}
use Rattle.bits.specs.Lists.{All}
use Rattle.bits.specs.Bytes.{Byte, bits_of}
use Rattle.bits.specs.Codec.{got}
use Rattle.bits.proofs.Laws.Reads.{length_rest}
use Rattle.bits.proofs.Laws.Parts.{part}
use Rattle.outcome.specs.Refusals.{bad_view}
use Rattle.format.specs.View.{View, head_fields}
use Rattle.format.specs.Record.{Record, read}
use Rattle.format.specs.Places.{no_view_there, view_at}
use Rattle.format.specs.Named.{named, name_of, same_name, place_in}
use Rattle.format.specs.declared.Widths.{Widths}
use Rattle.format.specs.declared.ViewName.{ViewName}
use Rattle.find_parts.specs.Stored.{head_bytes}
use Rattle.find_parts.specs.Stands.{ViewAt}
use Rattle.find_parts.specs.Finds.{BlocksFound, MeantAt}
use Rattle.find_parts.specs.declared.view.Blocks.{Blocks}
use Rattle.find_parts.proofs.Laws.Front.{spelled_part}
use Rattle.find_parts.proofs.Laws.Written.{head_spells}
use Rattle.find_parts.proofs.Laws.Views.{ViewsLeft, Sought, sought_first, sought_on, sought_end, view_in_lem, view_end}

-- ---- two names compared, finger first

module _ {position : ℕ} (number : ℕ) (view : ViewName) where
  pub finger_same : position ≡ view.finger → eqb number view.number ≡ same_name (named position number) view
  finger_same e = rw (eqb_true position view.finger e) refl

  pub finger_other : position ≢ view.finger → eqb position view.finger ≡ same_name (named position number) view
  finger_other n = rw (eqb_false position view.finger n) refl

-- ---- the name that stands in a header

module _ {w : Widths} {s : List ℕ} {a : ℕ} {v : View} (x : ViewAt w s a v) (bytes : All Byte s) where
  pub head_part : part s a 8 ≡ head_bytes v.head
  head_part =
      let (f, e) = (head_fields bad_view x.earlier).back (drop (8 * a) (bits_of s)) v.head x.rest x.head in
      spelled_part s a x.rest bytes (head_spells bad_view x.earlier v.head f) e

  byte_there : (i : ℕ) → i < 8 → get_or s (a + i) 0 ≡ get_or (head_bytes v.head) i 0
  byte_there i l = sym (get_or-drop a s i 0) ∙ sym (get_or-take 8 (drop a s) i 0 l) ∙ ap (λ (xs : List ℕ). get_or xs i 0) head_part

  name_there : named (get_or s (a + 1) 0) (get_or s a 0) ≡ name_of v
  name_there =
      let z : a + 0 ≡ a = omega arith in
      ap₂ named (byte_there 1 (omega arith)) (ap (λ (k : ℕ). get_or s k 0) (sym z) ∙ byte_there 0 (omega arith))

-- ---- the walk: the views before byte a have other names

pub record Seeking (view : ViewName) (s : List ℕ) (a : ℕ) (r : Record) : Type 0 where
  pub count : ℕ
  pub sought : Sought r s count a
  pub passed : place_in view r.views ≡ count + place_in view (drop count r.views)

pub seeking_start : (view : ViewName) (s : List ℕ) {r : Record} → read s ≡ got r [] → Seeking view s 24 r
seeking_start view s e = record { count = 0; sought = sought_first s e; passed = omega arith }

-- behind the last view nothing is left
views_end : {w : Widths} {count : ℕ} {s : List ℕ} {i p : ℕ} {vs : List View} → ViewsLeft w count s i p vs → count ≤ i → length s ≤ p
views_end {count = count} {s = s} {i = i} {p = p} h l =
    let z : count - i ≡ 0 = omega arith in
    let n = rw z at h.reads in
    let e : drop (8 * p) (bits_of s) ≡ [] = cc in
    omega (arith, length_rest s (8 * p), ap length e)

module _ {view : ViewName} {s : List ℕ} {a : ℕ} {r : Record} (h : Seeking view s a r) where
  -- at the record's end all have been passed
  pub seeking_none : length s ≤ a → length r.views ≤ place_in view r.views
  seeking_none l =
      split (length r.views) h.count
      (λ k. omega (arith, h.passed))
      (λ k. let b = (view_in_lem h.sought k).at.blocks.lines in absurd (omega (arith, b.from, b.within)))

  module _ (l : a < length s) where
    pub more : h.count < length r.views
    more = split (length r.views) h.count (λ k. absurd (omega (arith, views_end h.sought.left k))) (λ k. k)

    -- there is a header
    pub header_within : a + 10 ≤ length s
    header_within = let b = (view_in_lem h.sought more).at.blocks.lines in omega (arith, b.from, b.within)

    abbrev v : View
    v = view_at r h.count

    abbrev behind : ℕ
    behind = place_in view (drop (suc h.count) r.views)

    module _ (bytes : All Byte s) {same : Bool} (e : same ≡ same_name (named (get_or s (a + 1) 0) (get_or s a 0)) view) where
      -- whether it is the one that stands here
      next_is : place_in view r.views ≡ h.count + pick same 0 (suc behind)
      next_is =
          let q : same_name (name_of v) view ≡ same = ap (λ (name : ViewName). same_name name view) (sym (name_there (view_in_lem h.sought more).at bytes)) ∙ sym e in
          h.passed ∙ ap (λ (vs : List View). h.count + place_in view vs) (drop-cons r.views h.count no_view_there more)
          ∙ ap (λ (b : Bool). h.count + pick b 0 (suc behind)) q

      pub seeking_found : same ≡ true → MeantAt view r s a
      seeking_found t =
          let z = ap (λ (b : Bool). pick b 0 (suc behind)) t in
          record { place = h.count; means = record { is = omega (arith, next_is, z); there = more }; at = view_in_lem h.sought more }

      module _ {x : Blocks} (B : BlocksFound s (a + 8) x) where
        pub seeking_on : same ≡ false → Seeking view s x.extended.to r
        seeking_on t =
            let z = ap (λ (b : Bool). pick b 0 (suc behind)) t in
            let y : suc h.count ≡ h.count + 1 = omega arith in
            let k = ap (λ (n : ℕ). place_in view (drop n r.views)) y in
            record {
              count = h.count + 1;
              sought = rw (sought_end h.sought more B) (sought_on h.sought more);
              passed = omega (arith, next_is, z, k);
            }

    -- the next view starts further on, within the record
    pub seeking_less : {x : Blocks} → BlocksFound s (a + 8) x → (a < x.extended.to) × (x.extended.to ≤ length s)
    seeking_less B =
        let b = (view_in_lem h.sought more).at.blocks in
        let z = view_end h.sought more ∙ sym (sought_end h.sought more B) in
        (omega (arith, b.lines.from, b.index.from, b.segments.from, z), omega (arith, b.segments.within, z))
