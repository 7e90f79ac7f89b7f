-- The list judged, order by order: the loop's invariant and its turns, for every view that stands at the site.
use mathlib.Core.Path.{◌≡◌, refl, sym, ap, ◌∙◌}
use mathlib.Core.Logic.{◌≢◌}
use Prim.Native.Nat.{ℕ, suc, ◌+◌, ◌-◌, ◌*◌, ◌/◌, ◌≤◌, ◌<◌}
use native.Mathlib.Omega.{arith}
use native.Mathlib.Numerals.{add-one}
use mathlib.Core.List.{List, []}
use lib.ListN.{length}
use lib.Dec.{T}
use Rattle.bits.specs.Lists.{All}
use Rattle.bits.specs.Bytes.{Byte}
use Rattle.bits.proofs.Laws.Parts.{part_length}
use Rattle.format.specs.Record.{Record, size}
use Rattle.format.specs.Places.{view_at, count}
use Rattle.format.specs.Named.{name_of}
use Rattle.format.specs.declared.ViewName.{ViewName}
use Rattle.format.proofs.Laws.Named.{name_means}
use Rattle.format.proofs.Laws.Record.{read_is}
use Rattle.orders.specs.Act.{Word}
use Rattle.orders.specs.Order.{first_bad, tests}
use Rattle.orders.specs.Listed.{words, shape_ok}
use Rattle.find_parts.specs.declared.site.Site.{Site}
use Rattle.find_parts.proofs.Laws.Blocks.{cut}
use Rattle.order_words.specs.After.{heard, heard_in, view_after, record_after, Passed}
use Rattle.order_words.proofs.Laws.Listed.{words_long, heard_part}
use Rattle.order_words.proofs.Laws.Shape.{shaped}
use Rattle.order_view.specs.Named.{Named}
use Rattle.order_record.proofs.Laws.Extended.{all_fit}
use Rattle.order_record.proofs.Laws.Acts.{record_worded}
use Rattle.order_carry.specs.Carried.{size_number}
use Rattle.order_pairs.specs.Sizes.{Indexed, SizeThere, SizeSeen}
use Rattle.order_pairs.specs.Judged.{act_at, OrderSeen, AllRight, OneRefused}
use Rattle.order_pairs.proofs.Laws.Word.{site_right}
use Rattle.order_pairs.proofs.Laws.Turn.{Turn, turn_start, turn_refused, turn_passed, turn_allowed, turn_long, turn_next, turn_last}

-- there is an order at place i, and those before it are accepted
pub record Trying (s : List ℕ) (x : Site) (list : List ℕ) (lent i : ℕ) : Type 0 where
  pub place : 6 * i + 6 ≤ length list
  pub turn : (view : ViewName) (n : ℕ) (F : Named s view n x) → Turn s view n list lent F.value F.place i

-- the view as code has it, by its name
abbrev by_name : {s : List ℕ} {x : Site} (I : Indexed s x) → Named s (name_of (view_at I.value I.place)) x.lines x
by_name {s} I =
    record {
      value = I.value;
      reads = I.reads;
      place = I.place;
      means = name_means I.value (read_is s I.value [] I.reads).0 I.place I.at.there;
      at = I.at;
      count = refl;
    }

pub trying_start : {s : List ℕ} (x : Site) {list : List ℕ} (lent : ℕ) → All Byte s → T (shape_ok list) → Trying s x list lent 0
trying_start x {list} lent f h =
    let S = shaped list h in
    record { place = omega (arith, S.whole, S.some); turn = λ view n F. turn_start view n list lent f F.reads }

module _ {s : List ℕ} {x : Site} {list : List ℕ} {lent i : ℕ} (t : Trying s x list lent i) where
  more : i < length (words list)
  more = omega (arith, words_long list, t.place)

  counted : {view : ViewName} {n : ℕ} (F : Named s view n x) → count (view_at F.value F.place) ≡ n
  counted F = sym F.at.count ∙ F.count

  pub trying_refused : {k : ℕ} → OrderSeen s x list i k → k ≢ 0 → OneRefused s x list lent k i
  trying_refused W d =
      record {
        is = λ view n F.
            let h = t.turn view n F in
            turn_refused h F.means (counted F) more (W.is F.value F.place F.reads F.at h.passed) d;
      }

  module _ {k : ℕ} (W : OrderSeen s x list i k) (z : k ≡ 0) where
    module _ {view : ViewName} {n : ℕ} (F : Named s view n x) where
      own : first_bad (tests (act_at list i) (view_after (heard (words list) i) (view_at F.value F.place))) ≡ 0
      own = sym (W.is F.value F.place F.reads F.at (t.turn view n F).passed) ∙ z

      passed : Passed (heard (words list) (suc i)) (view_at F.value F.place)
      passed = turn_passed (t.turn view n F) F.means (counted F) more own

    -- ---- it is the last

    module _ (l : length list ≤ 6 * i + 6) where
      heard_here : heard_in list ≡ heard (words list) (suc i)
      unfolding heard_in
      heard_here = let q : length list / 6 ≡ suc i = omega (arith, t.place) in ap (heard (words list)) q

      pub trying_last : AllRight s x list lent i
      trying_last =
          record {
            passed = λ view n F. rw heard_here (passed F);
            allowed = λ view n F. rw heard_here (turn_allowed (t.turn view n F) F.means (counted F) more (own F));
            is = λ view n F.
                rw heard_here (turn_last (t.turn view n F) F.means (counted F) more (own F) (omega (arith, words_long list)));
          }

    -- ---- it is not: the size that it leaves

    abbrev first : List ℕ
    first = cut list 0 (6 * i + 6)

    heard_first : heard_in first ≡ heard (words list) (suc i)
    heard_first = heard_part list (suc i) (6 * i + 6 - 0) (omega arith) (omega (arith, t.place))

    first_long : length first ≡ 6 * i + 6
    first_long = omega (arith, part_length list 0 (6 * i + 6 - 0) (omega (arith, t.place)))

    pub trying_sized : T (shape_ok list) → Indexed s x → SizeThere s x first
    trying_sized h I =
        let S = shaped list h in
        record { there = I; few = omega (arith, first_long, S.whole, S.few, more); passed = rw heard_first (passed (by_name I)) }

    module _ {m : ℕ} (Z : SizeSeen s x first lent m) where
      size_is : {view : ViewName} {n : ℕ} (F : Named s view n x)
          → m ≡ size_number lent (size (record_after F.place (heard (words list) (suc i)) F.value))
      size_is F =
          let p : Passed (heard_in first) (view_at F.value F.place) = rw heard_first (passed F) in
          let w = record_worded F.place first F.value F.at.there (all_fit _ F.at.segments.value) (site_right F.reads F.at) p (omega (arith, first_long)) in
          Z.is F.value F.place F.reads F.at p
          ∙ ap (λ (r : Record). size_number lent (size r)) (w ∙ ap (λ (hs : List Word). record_after F.place hs F.value) heard_first)

      pub trying_long : m ≢ 0 → OneRefused s x list lent m i
      trying_long d = record { is = λ view n F. turn_long (t.turn view n F) F.means (counted F) more (own F) (size_is F) d }

      pub trying_next : m ≡ 0 → T (shape_ok list) → 6 * i + 6 < length list → Trying s x list lent (i + 1)
      trying_next q h l =
          let S = shaped list h in
          rw (add-one i) (record {
            place = omega (arith, S.whole);
            turn = λ view n F. turn_next (t.turn view n F) F.means (counted F) more (own F) (sym (size_is F) ∙ q);
          })
