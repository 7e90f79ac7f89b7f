-- From the judge's verdict to the view: refused whatever is asked of it, or found; and what a view that is found brings with it.
use Rattle.std.proofs.Common.{None}
use Rattle.std.specs.Prelude.{Ok, Err}
use mathlib.Core.Path.{ap}
use Prim.Native.Nat.{ℕ, ◌+◌, ◌≤◌}
use native.Mathlib.Omega.{arith}
use mathlib.Core.List.{List}
use lib.ListN.{length}
use Rattle.outcome.specs.Refusals.{no_view}
use Rattle.outcome.specs.Why.{number}
use Rattle.outcome.specs.declared.refusal.Refused.{Refused}
use Rattle.format.specs.Line.{skeleton}
use Rattle.format.specs.Places.{view_at}
use Rattle.format.specs.Record.{Narrow}
use Rattle.format.specs.Call.{in_view, on_view}
use Rattle.format.specs.declared.Scale.{Scale}
use Rattle.format.specs.declared.Header.{Header}
use Rattle.format.specs.declared.ViewName.{ViewName}
use Rattle.format.proofs.Laws.Call.{no_view_lem}
use Rattle.format.proofs.Laws.Record.{narrow}
use Rattle.judge.specs.Judge.{Judges}
use Rattle.judge.specs.declared.Accepted.{Accepted}
use Rattle.judge.proofs.Laws.Calls.{call_refused, record_read}
use Rattle.find_parts.specs.Stands.{BlockAt}
use Rattle.find_parts.specs.Finds.{BlocksThere, BlocksFound, ViewsThere, NameAt, NameFound}
use Rattle.find_parts.specs.declared.view.Blocks.{Blocks}
use Rattle.find_parts.proofs.Laws.Blocks.{blocks_in, blocks_there}
use Rattle.find_parts.proofs.Laws.Record.{record_apart}
use Rattle.find_view.specs.Found.{Stands, Refuses}

module _ {s : List ℕ} (view : ViewName) where
  pub judged : {r : Refused} → Judges s (Err r) → Refuses s view (number r.why) r.place
  unfolding on_view
  judged j = record { is = λ f. call_refused (in_view view f) s j }

  module _ {a : Accepted} (j : Judges s (Ok a)) where
    pub views_there : ViewsThere s
    views_there = record_read j λ r e _ _ _. record { value = r; reads = e }

    pub not_there : NameFound s view None → Refuses s view no_view 0
    not_there F = record { is = λ f. record_read j λ r e _ _ _. no_view_lem view f s e (F r e) }

    -- it is found at byte b
    module _ {b : ℕ} (F : NameAt s view b) where
      pub near_start : b ≤ 32768
      near_start = record_read j λ r e _ _ _. omega (arith, (record_apart s e).short, F.within)

      pub its_blocks : BlocksThere s (b + 8)
      its_blocks = record_read j λ r e _ _ _. blocks_there (record_apart s e).short (F.there r e).at.at

      pub stands : {x : Blocks} → BlocksFound s (b + 8) x → Stands s view a.header.scale x
      stands B =
          record_read j λ r e q _ _.
          let I = F.there r e in
          record { value = r; reads = e; place = I.place; means = I.means; scale = ap (λ (y : Header). y.scale) q; blocks = blocks_in I.at B }

-- ---- the lines of a view that is found

module _ {s : List ℕ} {view : ViewName} {c : Scale} {x : Blocks} (h : Stands s view c x) where
  pub short : length s ≤ 32768
  short = (record_apart s h.reads).short

  pub its_lines : BlockAt (skeleton c.widths) s x.skeleton.from x.skeleton.to (view_at h.value h.place).lines
  its_lines = rw h.scale h.blocks.lines

  pub its_widths : Narrow c.widths
  its_widths = rw h.scale (narrow (record_apart s h.reads).fits)
