-- The size of the record after some orders about pairs: what the code that bounds it and measures it asks and answers.
use Rattle.std.specs.Prelude.{◌≡◌, ℕ, ◌/◌, ◌≤◌, ◌<◌, List, [], length}
use Rattle.bits.specs.Codec.{got}
use Rattle.format.specs.Record.{Record, read, size}
use Rattle.format.specs.Places.{view_at}
use Rattle.find_parts.specs.Site.{SiteOf}
use Rattle.find_parts.specs.declared.site.Site.{Site}
use Rattle.order_words.specs.After.{heard_in, Passed}
use Rattle.order_record.specs.Rebuilt.{new_record}
use Rattle.order_carry.specs.Carried.{size_number}

-- s is a record's bytes, and x is where a view with an index stands
pub record Indexed (s : List ℕ) (x : Site) : Type 0 where
  pub value : Record
  pub reads : read s ≡ got value []
  pub place : ℕ
  pub at : SiteOf value s place x
  pub index : x.index.from < x.index.to

-- ---- at most

pub record MostThere (s : List ℕ) (x : Site) (orders : ℕ) : Type 0 where
  pub there : Indexed s x
  pub few : orders ≤ 4294967296

-- whatever the orders are, if they pass their tests
pub record AtMost (s : List ℕ) (x : Site) (orders r : ℕ) : Type 0 where
  pub is : (o : Record) (i : ℕ) (words : List ℕ) → read s ≡ got o [] → SiteOf o s i x → length words / 6 ≤ orders → Passed (heard_in words) (view_at o i)
      → size (new_record [] words i o) ≤ r

-- ---- held against the limits

pub record SizeThere (s : List ℕ) (x : Site) (words : List ℕ) : Type 0 where
  pub there : Indexed s x
  pub few : length words / 6 ≤ 4294967296
  pub passed : Passed (heard_in words) (view_at there.value there.place)

pub record SizeSeen (s : List ℕ) (x : Site) (words : List ℕ) (lent r : ℕ) : Type 0 where
  pub is : (o : Record) (i : ℕ) → read s ≡ got o [] → SiteOf o s i x → Passed (heard_in words) (view_at o i)
      → r ≡ size_number lent (size (new_record [] words i o))
