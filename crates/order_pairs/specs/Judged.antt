-- The orders of a list judged on the old record: what the code that does it asks and answers. That each is judged as if it were given
-- singly, to the record that the one before left, is what the answer says.
use Rattle.std.specs.Prelude.{◌≡◌, ℕ, ◌+◌, ◌*◌, ◌≤◌, List, [], length, T, Result, Ok, Err}
use Rattle.bits.specs.Codec.{got}
use Rattle.outcome.specs.Outcome.{refused}
use Rattle.outcome.specs.Why.{number}
use Rattle.outcome.specs.declared.refusal.Refused.{Refused}
use Rattle.format.specs.Limits.{most_bytes}
use Rattle.format.specs.Record.{Record, read, size, Allowed}
use Rattle.format.specs.Places.{view_at}
use Rattle.format.specs.declared.ViewName.{ViewName}
use Rattle.orders.specs.Act.{Act}
use Rattle.orders.specs.Order.{first_bad, tests}
use Rattle.orders.specs.Listed.{words, shape_ok}
use Rattle.orders.specs.Called.{word_act}
use Rattle.orders.specs.Pairs.{singly, in_turn}
use Rattle.find_parts.specs.Site.{SiteOf}
use Rattle.find_parts.specs.declared.site.Site.{Site}
use Rattle.order_words.specs.After.{word_at, heard, heard_in, view_after, record_after, Passed}
use Rattle.order_view.specs.Named.{Named}
use Rattle.order_carry.specs.Carried.{held_to}
use Rattle.order_pairs.specs.Sizes.{Indexed}

-- ---- the order at place i

pub record OrderThere (s : List ℕ) (x : Site) (list : List ℕ) (i : ℕ) : Type 0 where
  pub there : Indexed s x
  pub place : 6 * i + 6 ≤ length list

abbrev pub act_at : List ℕ → ℕ → Act
act_at list i = word_act (word_at (words list) i)

-- its own tests, on the view that those before it leave
pub record OrderSeen (s : List ℕ) (x : Site) (list : List ℕ) (i r : ℕ) : Type 0 where
  pub is : (o : Record) (j : ℕ) → read s ≡ got o [] → SiteOf o s j x → Passed (heard (words list) i) (view_at o j)
      → r ≡ first_bad (tests (act_at list i) (view_after (heard (words list) i) (view_at o j)))

-- ---- all orders

pub record OrdersThere (s : List ℕ) (x : Site) (list : List ℕ) : Type 0 where
  pub there : Indexed s x
  pub shape : T (shape_ok list)

-- all pass their own tests, and only the size that the last one leaves is still to be judged: if it is right, so is what is left
pub record AllRight (s : List ℕ) (x : Site) (list : List ℕ) (lent last : ℕ) : Type 0 where
  pub passed : (view : ViewName) (n : ℕ) (F : Named s view n x) → Passed (heard_in list) (view_at F.value F.place)
  pub allowed : (view : ViewName) (n : ℕ) (F : Named s view n x) → size (record_after F.place (heard_in list) F.value) ≤ most_bytes
      → Allowed (record_after F.place (heard_in list) F.value)
  pub is : (view : ViewName) (n : ℕ) (F : Named s view n x)
      → in_turn 0 (singly (record { view = view; count = n; list = list; lent = lent })) s ≡ held_to last lent (record_after F.place (heard_in list) F.value)

-- one is refused
pub record OneRefused (s : List ℕ) (x : Site) (list : List ℕ) (lent e p : ℕ) : Type 0 where
  pub is : (view : ViewName) (n : ℕ) (F : Named s view n x) → in_turn 0 (singly (record { view = view; count = n; list = list; lent = lent })) s ≡ refused e p

abbrev pub Judging : List ℕ → Site → List ℕ → ℕ → Result ℕ Refused → Type 0
Judging s x list lent (Ok last) = AllRight s x list lent last
Judging s x list lent (Err r) = OneRefused s x list lent (number r.why) r.place
