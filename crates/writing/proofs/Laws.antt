-- From what judges a sheet's fields, grammar and values to the sheet's record or refusal; and from there to the statement of the
-- call.
use Rattle.std.specs.Prelude.{Option, Some, None, Ok, Err}
use Rattle.std.specs.Option.{ok_or}
use mathlib.Core.Path.{◌≡◌, refl, sym, ap, ◌∙◌, subst}
use Prim.Native.Nat.{ℕ, ◌≤◌, ◌<◌}
use native.Mathlib.Omega.{arith}
use mathlib.Core.Bool.{Bool, true, false}
use mathlib.Core.List.{List, []}
use lib.ListN.{length}
use lib.Dec.{leb, le→leb}
use mir.Facts.{no_leb}
use Rattle.bits.specs.Choice.{pick}
use Rattle.bits.specs.ChoiceLaws.{pick_yes, pick_no}
use Rattle.bits.specs.Lists.{All}
use Rattle.bits.specs.Bytes.{Byte}
use Rattle.bits.specs.Codec.{got, refused, next}
use Rattle.outcome.specs.Refusals.{too_long, no_room, bad_sheet, bad_value}
use Rattle.outcome.specs.Outcome.{given, Answers}
use Rattle.outcome.proofs.Laws.{answer_refused, answer_full, answer_given}
use Rattle.format.specs.Limits.{most_bytes}
use Rattle.format.specs.Record.{Allowed, size}
use Rattle.sheet.specs.Grammar.{sheet_in, grammar}
use Rattle.sheet.specs.Sheet.{record_from, read_sheet, writes, writing}
use Rattle.sheet.proofs.Laws.Sheet.{read_sheet_lem}
use Rattle.sheet.proofs.Laws.Calls.{writing_is}
use Rattle.check_fields.specs.Fields.{Fields, NoFields}
use Rattle.check_shape.specs.Shape.{Shape}
use Rattle.check_values.specs.Sheet.{ValuesThere, RecordRight, RecordWrong}
use Rattle.sheet_bytes.specs.Bytes.{record_bytes}
use Rattle.sheet_bytes.proofs.Laws.Rendered.{rendered}
use Rattle.find_parts.specs.Stored.{record_out}
use Rattle.write_views.specs.Records.{RecordThere, RecordPut}
use Rattle.find_parts.proofs.Laws.Written.{stored_long, written}
use Rattle.writing.specs.JudgedSheet.{SheetRight, SheetRefused, InOrder}

-- ---- an option that an error stands in for

module _ {A E : Type 0} (P : Option A → Type 0) (e : E) where
  pub of_ok : (o : Option A) {x : A} → Ok x ≡ ok_or o e → P o → P (Some x)
  of_ok (Some y) {x} z h = let d : Some y ≡ Some x = cc in subst P d h
  of_ok None z h = cc

  pub of_err : (o : Option A) {d : E} → Err d ≡ ok_or o e → P o → (d ≡ e) × P None
  of_err (Some y) z h = cc
  of_err None {d} z h = (cc, h)

-- ---- the sheet

module _ (s : List ℕ) where
  pub cut : NoFields s → SheetRefused s bad_sheet
  unfolding read_sheet
  cut n = record { left = n.left; refuses = rw n.refuses refl }

  pub in_order_lem : Fields s → (b : Bool) → Shape s b → InOrder s b
  unfolding read_sheet
  in_order_lem f false h = record { left = 0; refuses = rw (f.reads, sym (h.is f.value f.reads)) refl }
  in_order_lem f true h = record { value = f.value; reads = f.reads; stand = f.stand; right = rw (sym (h.is f.value f.reads)) tt }

  module _ (t : ValuesThere s) where
    -- behind the fields and the grammar
    valued : read_sheet s ≡ next (record_from (sheet_in t.value)) (λ r q. pick (leb (size r) most_bytes) (got r []) (refused too_long 0))
    unfolding read_sheet
    valued = rw (t.reads, pick_yes (grammar t.value) (record_from (sheet_in t.value)) (refused bad_sheet 0) t.right) refl

    pub not_right : RecordWrong t.value → SheetRefused s bad_value
    not_right w = record { left = w.left; refuses = valued ∙ rw w.refuses refl }

    module _ {n z : ℕ} (w : RecordRight t.value n z) where
      pub over : 32768 < z → SheetRefused s too_long
      unfolding most_bytes
      over l = record { left = 0; refuses = valued ∙ rw w.reads (pick_no (leb (size w.value) most_bytes) _ _ (no_leb {a = size w.value} {b = most_bytes} (omega (arith, w.all)))) }

      pub right : z ≤ 32768 → SheetRight s n z
      unfolding most_bytes
      right l =
          record {
            value = w.value;
            reads = valued ∙ rw w.reads (pick_yes (leb (size w.value) most_bytes) _ _ (le→leb (size w.value) most_bytes (omega (arith, w.all))));
            count = w.count;
            all = w.all;
          }

-- ---- the call

module _ (s before : List ℕ) where
  pub refuses : {e : ℕ} → SheetRefused s e → Answers (writing s) before before (record { number = e; place = 0; length = 0 })
  unfolding writing
  refuses h = answer_refused (λ xs. xs) (length before) before (ap writes h.refuses)

  module _ {n z : ℕ} (bytes : All Byte s) (h : SheetRight s n z) where
    allowed : Allowed h.value
    allowed = (read_sheet_lem s h.value [] bytes h.reads).0

    stands : s ≡ record_bytes h.value
    stands = (read_sheet_lem s h.value [] bytes h.reads).1 ∙ rendered h.value allowed

    gives : writing s ≡ given (record_out h.value)
    gives = writing_is s h.value [] h.reads ∙ ap given (written h.value allowed)

    long : length (record_out h.value) ≡ z
    long = stored_long h.value ∙ sym h.all

    pub no_room_lem : length before < z → Answers (writing s) before before (record { number = no_room; place = 0; length = 0 })
    no_room_lem l = answer_full (λ xs. xs) (length before) before gives (omega (arith, long))

    pub record_there : z ≤ length before → RecordThere s z n before
    record_there l = record { value = h.value; allowed = allowed; is = stands; size = h.all; count = h.count; room = l }

    pub laid : {after : List ℕ} {k : ℕ} → z ≤ length before → RecordPut s z n before after k
        → Answers (writing s) before after (record { number = 0; place = 0; length = k })
    laid {after} {k} l p =
        let w = p.is h.value allowed stands h.all h.count in
        answer_given (λ xs. xs) (length before) before gives after k (omega (arith, long)) w.count w.is
