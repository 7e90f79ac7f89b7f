-- What carrying out an order on the view that stands at x asks and answers: the record that it leaves, held against 32,768 bytes and
-- the room, and written if it is within them.
use Rattle.std.specs.Prelude.{◌≡◌, ℕ, ◌≤◌, List, [], length, leb, eqb, Result, Ok, Err, IfErr}
use Rattle.bits.specs.Choice.{pick}
use Rattle.bits.specs.Codec.{got}
use Rattle.outcome.specs.Refusals.{too_long, no_room}
use Rattle.outcome.specs.Outcome.{Outcome, refused, given, Answers}
use Rattle.outcome.specs.Why.{number, answer_of}
use Rattle.outcome.specs.declared.refusal.Refused.{Refused}
use Rattle.format.specs.Limits.{most_bytes}
use Rattle.format.specs.Record.{Record, read, write, size, Allowed}
use Rattle.find_parts.specs.Site.{SiteOf}
use Rattle.find_parts.specs.declared.site.Site.{Site}
use Rattle.order_record.specs.Rebuilt.{new_record}

-- 19, 20, or 0: a record of so many bytes, where so many are lent
unfoldable pub size_number : (lent bytes : ℕ) → ℕ
size_number lent bytes = pick (leb bytes most_bytes) (pick (leb bytes lent) 0 no_room) too_long

-- the same, of code that answers with the refusal
abbrev pub number_in : {A : Type 0} → Result A Refused → ℕ
number_in (Ok x) = 0
number_in (Err r) = number r.why

-- what is refused is refused at this place
abbrev pub RefusedAt : {A : Type 0} → ℕ → Result A Refused → Type 0
RefusedAt place r = IfErr r (λ e. e.place ≡ place)

-- the new record where it is within both, else the refusal at this place
unfoldable pub held_to : (place lent : ℕ) → Record → Outcome ℕ
held_to place lent new = pick (eqb (size_number lent (size new)) 0) (given (write new)) (refused (size_number lent (size new)) place)

pub record CarriedOut (s : List ℕ) (x : Site) (words removal : List ℕ) (place : ℕ) (before after : List ℕ) (a : Result ℕ Refused) : Type 0 where
  pub is : (r : Record) (i : ℕ) → read s ≡ got r [] → SiteOf r s i x
      → (size (new_record removal words i r) ≤ most_bytes → Allowed (new_record removal words i r))
      → Answers (held_to place (length before) (new_record removal words i r)) before after (answer_of a)
