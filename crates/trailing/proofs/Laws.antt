-- From where a line stands to its trail, and from there to the statement of the call.
use mathlib.Core.Path.{◌≡◌, sym, ◌∙◌}
use Prim.Native.Nat.{ℕ, ◌-◌, ◌+◌, ◌*◌, ◌≤◌, ◌<◌}
use native.Mathlib.Omega.{arith}
use mathlib.Core.List.{List}
use Rattle.std.proofs.Common.{Bor}
use lib.ListN.{length, drop}
use Rattle.bits.specs.Bytes.{bits_of}
use lib.Dec.{ltb}
use mir.Facts.{yes_ltb, no_ltb}
use Rattle.bits.specs.ChoiceLaws.{pick_yes, pick_no, within_low, within_high}
use Rattle.bits.specs.Codec.{field_dec}
use Rattle.bits.specs.Reads.{found, Reads}
use Rattle.bits.proofs.Laws.Apart.{same}
use Rattle.outcome.specs.Refusals.{bad_line, bad_lines}
use Rattle.outcome.specs.Outcome.{Outcome, refused, given, AnswersAs}
use Rattle.outcome.proofs.Laws.{answer_given}
use Rattle.put_bytes.specs.Laid.{Laid}
use Rattle.format.specs.Line.{Line, end_bits, line}
use Rattle.format.specs.View.{View}
use Rattle.format.specs.Record.{Narrow}
use Rattle.format.specs.Places.{view_at, count, line_at}
use Rattle.format.specs.declared.Scale.{Scale}
use Rattle.format.specs.declared.ViewName.{ViewName}
use Rattle.format.proofs.Laws.Call.{on_view_lem}
use Rattle.trail.specs.Trail.{first_heading, trail, trail_in, trailing}
use Rattle.trail.proofs.Laws.{first_small}
use Rattle.trail_steps.specs.Walk.{start_at}
use Rattle.trail_steps.specs.Elements.{codes_in, elements}
use Rattle.trail_steps.proofs.Laws.{codes_read}
use Rattle.find_parts.specs.declared.view.Blocks.{Blocks}
use Rattle.find_view.specs.Found.{Stands, Refuses}
use Rattle.find_parts.proofs.Laws.Record.{record_apart}
use Rattle.find_parts.proofs.Laws.Line.{LineAt, line_at_lem, direction_at}
use Rattle.trailing.specs.Trace.{Draws, Drawn}
use Rattle.trailing.specs.declared.FoundLine.{FoundLine}

-- ---- the walk along a line: d is the direction that code reads, n the count

module _ (sc : Scale) {s : List ℕ} {p : ℕ} {l : Line} {q : ℕ} (h : Reads (line sc.widths).dec s p (found l q)) where
  at_line : LineAt sc.widths s p l q
  at_line = line_at_lem sc.widths h

  pub direction_there : p + 2 + sc.widths.b ≤ 8 * length s
  direction_there = (direction_at sc.widths at_line.start (omega (arith, at_line.start.within))).within

  pub count_there : p + end_bits sc.widths + 8 ≤ 8 * length s
  count_there = at_line.count.within

  module _ {d z : ℕ} (D : Reads (field_dec bad_line sc.widths.b) s (p + 2) (found d z)) where
    direction_is : d ≡ l.start.direction
    direction_is = (same D (direction_at sc.widths at_line.start (omega (arith, at_line.start.within)))).0

  module _ {n c : ℕ} (N : Reads (field_dec bad_line 8) s (p + end_bits sc.widths) (found n c)) where
    codes_are : (codes_in sc.widths.k n (drop c (bits_of s)) ≡ l.codes) × (n * sc.widths.k ≤ 8 * length s - c)
    codes_are =
        let (e, z) = same N at_line.count in
        let b = codes_read sc.widths.k (length l.codes) (drop (p + end_bits sc.widths + 8) (bits_of s)) at_line.codes.is in
        (rw (e, z) b, rw (e, z) (omega (arith, at_line.codes.within)))

    module _ {d z : ℕ} (D : Reads (field_dec bad_line sc.widths.b) s (p + 2) (found d z)) where
      pub draws : (b : Bor (List ℕ)) → b.now ≡ s → Narrow sc.widths → length s ≤ 65535 → 1 ≤ sc.half → sc.half ≤ 255
          → Draws (record { block = b; codes = record { at = c }; left = n; k = sc.widths.k; half = sc.half; pen = start_at (first_heading sc.half sc.widths.b d) }) (trail sc l)
      unfolding trail elements
      draws b e w i lo hi =
          let (codes, within) = codes_are in
          record {
            ready = record {
              low = w.low;
              high = w.k;
              short = rw e i;
              there = rw e within;
              some = lo;
              few = hi;
              below = first_small sc.half sc.widths.b d (omega arith);
            };
            is = rw (e, codes, direction_is D);
          }

-- ---- the outcome of the call on an accepted record

-- N is from 1 to 255
pub half_is : {s : List ℕ} {view : ViewName} {c : Scale} {x : Blocks} → Stands s view c x → (1 ≤ c.half) × (c.half ≤ 255)
half_is {s} h =
    let n : ℕ = h.value.head.scale.half in
    let f = (record_apart s h.reads).fits.scale.half.1 in
    rw h.scale (within_low 1 255 n f, within_high 1 255 n f)

module _ {view : ViewName} (line : ℕ) {s : List ℕ} where
  pub refused_is : {e p : ℕ} → Refuses s view e p → trailing view line s ≡ refused e p
  unfolding trailing
  refused_is h = h.is (trail_in line)

  module _ {c : Scale} {x : Blocks} (h : Stands s view c x) where
    abbrev v : View
    v = view_at h.value h.place

    pub no_line_lem : count v ≤ line → trailing view line s ≡ refused bad_lines 0
    unfolding trailing
    no_line_lem k = on_view_lem view (trail_in line) s h.reads h.means ∙ pick_no (ltb line (count v)) _ _ (no_ltb {a = line} k)

    pub has_line : line < count v → trailing view line s ≡ given (trail h.value.head.scale (line_at v line))
    unfolding trailing
    has_line k = on_view_lem view (trail_in line) s h.reads h.means ∙ pick_yes (ltb line (count v)) _ _ (yes_ltb {a = line} k)

-- ---- what code answers, in whatever form the elements stand, each in so many places

pub given_out : (form : List ℕ → List ℕ) (each : ℕ) (undo : (n m : ℕ) → each * n ≡ each * m → n ≡ m) (long : (xs : List ℕ) → length (form xs) ≡ each * length xs)
    {o : Outcome ℕ} {x : FoundLine} (D : Drawn o x) (before : List ℕ) {lent : ℕ} {after : List ℕ} {n m : ℕ} → x.drawn ≤ lent → m ≡ each * n → Laid (form (elements x.walk)) before after m
    → AnswersAs form lent o before after (record { number = 0; place = 0; length = n })
given_out form each undo long D before {lent} {after} {n} l e w =
    let y = rw D.draws.is at w in
    answer_given form lent before D.is after n (omega (arith, D.drawn)) (undo n (length D.value) (sym e ∙ y.count ∙ long D.value)) y.is
