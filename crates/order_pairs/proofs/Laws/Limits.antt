-- The record after some orders held against 32,768 bytes and the room: by the bound, and measured.
use mathlib.Core.Path.{◌≡◌, refl, ap, ◌∙◌}
use Prim.Native.Nat.{ℕ, ◌/◌, ◌≤◌}
use native.Mathlib.Omega.{arith}
use mathlib.Core.List.{List, []}
use lib.ListN.{length}
use Rattle.format.specs.Record.{size}
use Rattle.format.specs.Places.{view_at, count}
use Rattle.find_parts.specs.declared.site.Site.{Site}
use Rattle.order_record.specs.Rebuilt.{new_record, Placed, Measured}
use Rattle.order_record.specs.declared.measure.Sizes.{Sizes}
use Rattle.order_record.proofs.Laws.Acts.{words_keeps}
use Rattle.order_carry.specs.Carried.{size_number}
use Rattle.order_carry.proofs.Laws.Held.{size_within}
use Rattle.order_pairs.specs.Sizes.{AtMost, SizeThere, SizeSeen}
use Rattle.order_pairs.proofs.Laws.Word.{site_right, site_few}

module _ {s : List ℕ} {x : Site} {words : List ℕ} where
  -- the bound is within both
  pub most_within : {m lent : ℕ} → AtMost s x (length words / 6) m → m ≤ lent → m ≤ 32768 → SizeSeen s x words lent 0
  most_within {lent = lent} A k l =
      record {
        is = λ o i e S p.
            let z = A.is o i words e S (omega arith) p in
            size_within lent (size (new_record [] words i o)) (omega (arith, z)) (omega (arith, z));
      }

  -- it is measured
  pub words_placed : SizeThere s x words → Placed s x words []
  words_placed t =
      let I = t.there in
      let few : count (view_at I.value I.place) ≤ 1024 = omega (arith, I.at.count, site_few I.reads I.at) in
      record {
        value = I.value;
        reads = I.reads;
        place = I.place;
        at = I.at;
        rising = record { even = refl; rises = tt };
        keeps = words_keeps words (view_at I.value I.place) (site_right I.reads I.at) t.passed few;
        right = λ d. absurd (d refl);
      }

  pub size_measured : {m : Sizes} {k lent : ℕ} → Measured s x words [] m → k ≡ size_number lent m.bytes → SizeSeen s x words lent k
  size_measured {lent = lent} M e = record { is = λ o i r S p. e ∙ ap (size_number lent) (M.is o i r S).bytes }
