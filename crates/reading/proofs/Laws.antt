-- From the judge's verdict, and from what the writer leaves, to the statement of the call.
use mathlib.Core.Path.{◌≡◌, ap, ◌∙◌}
use Prim.Native.Nat.{ℕ, ◌≤◌, ◌<◌}
use native.Mathlib.Omega.{arith}
use mathlib.Core.List.{List, []}
use lib.ListN.{length}
use Rattle.bits.specs.Codec.{got}
use Rattle.outcome.specs.Refusals.{no_room}
use Rattle.outcome.specs.Outcome.{given, Answers}
use Rattle.outcome.proofs.Laws.{answer_refused, answer_full, answer_given}
use Rattle.format.specs.Record.{Record, read}
use Rattle.format.proofs.Laws.Record.{read_is}
use Rattle.std.specs.Prelude.{Ok, Err}
use Rattle.outcome.specs.Why.{number}
use Rattle.outcome.specs.declared.refusal.Refused.{Refused}
use Rattle.format.specs.declared.Header.{Header}
use Rattle.judge.specs.Judge.{Judges}
use Rattle.judge.specs.declared.Accepted.{Accepted}
use Rattle.format.proofs.Laws.Call.{on_record_lem}
use Rattle.judge.proofs.Laws.Calls.{call_refused, record_read}
use Rattle.sheet.specs.Sheet.{sheet_of, reading}
use Rattle.sheet_bytes.specs.Bytes.{record_bytes}
use Rattle.read_views.specs.SheetOuts.{SheetThere, SheetOut}
use Rattle.sheet_bytes.proofs.Laws.Rendered.{rendered}
use Rattle.sheet_bytes.proofs.Laws.Sizes.{rendered_size}

module _ (s before : List ℕ) where
  pub refuses : {r : Refused} → Judges s (Err r) → Answers (reading s) before before (record { number = number r.why; place = r.place; length = 0 })
  unfolding reading
  refuses j = answer_refused (λ xs. xs) (length before) before (call_refused (λ r. given (sheet_of r)) s j)

  gives : (r : Record) → read s ≡ got r [] → reading s ≡ given (record_bytes r)
  unfolding reading
  gives r e = on_record_lem (λ x. given (sheet_of x)) s r [] e ∙ ap given (rendered r (read_is s r [] e).0)

  module _ {a : Accepted} (j : Judges s (Ok a)) where
    pub no_room_lem : length before < a.size → Answers (reading s) before before (record { number = no_room; place = 0; length = 0 })
    no_room_lem l = record_read j λ r e _ _ m. answer_full (λ xs. xs) (length before) before (gives r e) (omega (arith, rendered_size r, m))

    pub there : a.size ≤ length before → SheetThere a.header.scale.widths a.views s (length before)
    there l =
        record_read j λ r e u v m.
        record { value = r; reads = e; widths = ap (λ (x : Header). x.scale.widths) u; views = v; room = omega (arith, m) }

    pub written : {after : List ℕ} {k : ℕ} → a.size ≤ length before → SheetOut s before after k
        → Answers (reading s) before after (record { number = 0; place = 0; length = k })
    written {after} {k} l o =
        record_read j λ r e _ _ m.
        let w = o.is r e in
        answer_given (λ xs. xs) (length before) before (gives r e) after k (omega (arith, rendered_size r, m)) w.count w.is
