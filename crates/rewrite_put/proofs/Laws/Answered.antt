-- What a call that rewrites a payload answers, whatever the payload's format, once the segment is found and its outcome is known to be
-- the rewritten record: too long, no room for it, or its bytes.
use mathlib.Core.Path.{◌≡◌, ap, ◌∙◌, subst}
use Prim.Native.Nat.{ℕ, ◌≤◌, ◌<◌}
use native.Mathlib.Omega.{arith}
use mathlib.Core.List.{List, [], ◌++◌}
use lib.ListN.{length, drop}
use Rattle.bits.specs.Lists.{All}
use Rattle.bits.specs.Bytes.{Byte}
use Rattle.put_bytes.specs.Laid.{Laid}
use Rattle.outcome.specs.Refusals.{too_long, no_room}
use Rattle.outcome.specs.Outcome.{Outcome, given, Answers}
use Rattle.outcome.proofs.Laws.{answer_refused, answer_full, answer_given}
use Rattle.format.specs.Limits.{most_bytes}
use Rattle.format.specs.Record.{Record, size, write, Allowed}
use Rattle.format.specs.declared.ViewName.{ViewName}
use Rattle.format.proofs.Laws.Record.{read_is}
use Rattle.format.proofs.Laws.Size.{write_long}
use Rattle.find_segment.specs.Found.{SegmentStands}
use Rattle.find_segment.specs.declared.Spot.{Spot}
use Rattle.rewrite.specs.Rewrite.{rewritten, rewriting}
use Rattle.rewrite.specs.Accepted.{SegmentThere}
use Rattle.rewrite.proofs.Laws.Record.{rewritten_allowed, given_rewriting, rewriting_long}
use Rattle.rewrite_put.specs.Front.{new_length, front_of}
use Rattle.rewrite_put.proofs.Laws.Front.{size_is, bytes_are}

-- a segment that is found is there
abbrev pub found_there : {s : List ℕ} {view : ViewName} {place : ℕ} {x : Spot} → SegmentStands s view place x → SegmentThere view place s
found_there h = record { value = h.value; reads = h.reads; i = h.i; means = h.means; there = h.at.below }

-- o is the call's outcome; the payload has k bytes
module _ {s : List ℕ} {view : ViewName} {place : ℕ} {x : Spot} (h : SegmentStands s view place x) (bytes : All Byte s) (payload : List ℕ) {o : Outcome ℕ}
    (e : o ≡ rewriting h.i place payload h.value) {k : ℕ} (z : length payload ≡ k) (before : List ℕ) where
  abbrev new : Record
  new = rewritten h.i place payload h.value

  long : size new ≡ new_length s x k
  long = size_is h bytes payload ∙ ap (new_length s x) z

  pub too_long_lem : 32768 < new_length s x k → Answers o before before (record { number = too_long; place = 0; length = 0 })
  unfolding most_bytes
  too_long_lem l = answer_refused (λ xs. xs) (length before) before (e ∙ rewriting_long h.i place payload h.value (omega (arith, long)))

  module _ (small : new_length s x k ≤ 32768) where
    gives : o ≡ given (write new)
    unfolding most_bytes
    gives = e ∙ given_rewriting h.i place payload h.value (omega (arith, long))

    pub no_room_lem : length before < new_length s x k → Answers o before before (record { number = no_room; place = 0; length = 0 })
    no_room_lem l = answer_full (λ xs. xs) (length before) before gives (omega (arith, write_long new, long))

    pub put : All Byte payload → {after : List ℕ} {n : ℕ} → new_length s x k ≤ length before
        → Laid ((front_of s x (length payload) ++ payload) ++ drop x.payload.to s) before after n → Answers o before after (record { number = 0; place = 0; length = n })
    unfolding most_bytes
    put b {after} {n} l D =
        let a = h.at in
        let ok : Allowed new = rewritten_allowed h.i place payload h.value a.there a.below b (omega (arith, long)) (read_is s h.value [] h.reads).0 in
        let L : Laid (write new) before after n = subst (λ (xs : List ℕ). Laid xs before after n) (bytes_are h bytes payload ok) D in
        answer_given (λ xs. xs) (length before) before gives after n (omega (arith, write_long new, long)) L.count L.is
