-- What the first words of a list make of a view: by the definitions of single orders; and as code goes by it, the old lists and the
-- last word about a pair. Words stand with the last first, as `said` takes them (orders/specs/History).
use Rattle.std.specs.Prelude.{ℕ, zero, suc, ◌/◌, ◌≤◌, ◌<◌, min, max, ◌≡◌, Bool, false, Option, Some, None, List, [], ◌∷◌, length, get_or}
use Rattle.bits.specs.Choice.{pick}
use Rattle.format.specs.View.{View}
use Rattle.format.specs.Record.{Record}
use Rattle.orders.specs.Survive.{elem}
use Rattle.orders.specs.Act.{Word, insert, delete, change, after}
use Rattle.orders.specs.Order.{Pass, tests, edited}
use Rattle.orders.specs.Listed.{words}
use Rattle.orders.specs.Called.{word_act}
use Rattle.orders.specs.History.{said}

-- ---- the words of a list

abbrev pub no_word : Word
no_word = record { one = 0; other = 0; joins = false }

abbrev pub word_at : List Word → ℕ → Word
word_at ws i = get_or ws i no_word

-- the first i
abbrev pub heard : List Word → ℕ → List Word
heard ws zero = []
heard ws (suc i) = word_at ws i ∷ heard ws i

-- all whole ones of the bytes of a list
unfoldable pub heard_in : List ℕ → List Word
heard_in list = heard (words list) (length list / 6)

-- ---- by the definitions of single orders

abbrev pub view_after : List Word → View → View
view_after [] v = v
view_after (w ∷ hs) v = after (word_act w) (view_after hs v)

-- the view has place i
abbrev pub record_after : ℕ → List Word → Record → Record
record_after i [] r = r
record_after i (w ∷ hs) r = edited i (word_act w) (record_after i hs r)

-- the list of the higher line gets the lower one, or loses it
abbrev pub word_lists : Word → List (List ℕ) → List (List ℕ)
word_lists w ls = change (pick w.joins (insert (min w.one w.other)) (delete (min w.one w.other))) (max w.one w.other) ls

abbrev pub lists_after : List Word → List (List ℕ) → List (List ℕ)
lists_after [] ls = ls
lists_after (w ∷ hs) ls = word_lists w (lists_after hs ls)

-- each has passed its own tests, on the view that those before it left
abbrev pub Passed : List Word → View → Type 0
Passed [] v = Unit {0}
Passed (w ∷ hs) v = Pass (tests (word_act w) (view_after hs v)) × Passed hs v

-- ---- by the words alone

-- the numbers below b that pass the test, highest first
abbrev pub down_from : ℕ → (ℕ → Bool) → List ℕ
down_from zero f = []
down_from (suc b) f = pick (f b) (b ∷ down_from b f) (down_from b f)

-- the lines below `before` of line l's list; ns are those of the old one
abbrev pub lines_below : List Word → (l before : ℕ) → List ℕ → List ℕ
lines_below hs l before ns = down_from before (λ x. said hs l x (elem x ns))

-- line l's list; ns is the old one
unfoldable pub list_after : List Word → ℕ → List ℕ → List ℕ
list_after hs l ns = lines_below hs l (suc l) ns

-- no word is about line l and one of the lines from `bound` on and below `before`
abbrev pub Quiet : List Word → (l bound before : ℕ) → Type 0
Quiet hs l bound before = (x : ℕ) → bound ≤ x → x < before → (start : Bool) → said hs l x start ≡ start

-- line l is before the line `to`, if there is one
abbrev pub Before : ℕ → Option ℕ → Type 0
Before l None = Unit {0}
Before l (Some to) = l < to

-- no word has its higher line from `from` on and before `to`
abbrev pub Silent : List Word → ℕ → Option ℕ → Type 0
Silent hs from to = (l : ℕ) → from ≤ l → Before l to → Quiet hs l 0 (suc l)
