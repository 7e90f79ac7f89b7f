-- What the judge's verdict says of a call on a record: refused with its number and place, or the call's own outcome.
use mathlib.Core.Path.{◌≡◌, ap, sym, ◌∙◌}
use Prim.Native.Nat.{ℕ, ◌*◌}
use native.Mathlib.Omega.{arith}
use mathlib.Core.List.{List, []}
use Rattle.std.specs.Prelude.{Ok, Err}
use lib.ListN.{length}
use Rattle.bits.specs.Codec.{got}
use Rattle.bits.proofs.Laws.Reads.{keeping_got, keeping_refused}
use Rattle.bits.proofs.Laws.Parts.{drop_end}
use Rattle.outcome.specs.Outcome.{Outcome, refused}
use Rattle.outcome.specs.Why.{number}
use Rattle.outcome.specs.declared.refusal.Refused.{Refused}
use Rattle.format.specs.Record.{Record, read}
use Rattle.format.specs.SheetSize.{sheet_size}
use Rattle.format.specs.Call.{from_read, on_record}
use Rattle.judge.specs.Judge.{Summary, summary, Judges}
use Rattle.judge.specs.declared.Accepted.{Accepted}

module _ {A : Type 0} (f : Record → Outcome A) (s : List ℕ) where
  pub call_refused : {r : Refused} → Judges s (Err r) → on_record f s ≡ refused (number r.why) r.place
  unfolding on_record
  call_refused {r} j = ap (from_read (8 * length s) f) (keeping_refused summary (read s) j.is) ∙ ap (refused (number r.why)) (omega (arith, j.within))

-- the accepted record
pub record_read : {P : Type 0} {s : List ℕ} {a : Accepted} → Judges s (Ok a)
    → ((r : Record) → read s ≡ got r [] → a.header ≡ r.head → a.views ≡ length r.views → a.size ≡ sheet_size r → P) → P
record_read {s = s} j k =
    keeping_got summary (read s) j.is λ r e q.
    k r (e ∙ ap (got r) (drop_end s (8 * length s) (omega arith)))
    (ap (λ (t : Summary). t.0) (sym q)) (ap (λ (t : Summary). t.1.0) (sym q)) (ap (λ (t : Summary). t.1.1) (sym q))
