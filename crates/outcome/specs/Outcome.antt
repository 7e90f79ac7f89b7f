-- The outcome of a call: refused, or the elements it gives; and what its answer then says and leaves in the lent buffer. "Accepted
-- is 0, with the bytes or elements written. Every refusal gives its number and a length of 0 and changes no byte or element of a
-- lent buffer. On acceptance what lies beyond the written length stays."
use Rattle.std.specs.Prelude.{◌≡◌, ℕ, ◌/◌, List, ◌++◌, length, take, drop, leb}
use Rattle.std.proofs.Math.Option.{Option, none, some}
use Rattle.bits.specs.Choice.{pick}
use Rattle.put_bytes.specs.HighFirst.{two, four, joined}
use Rattle.outcome.specs.Refusals.{no_room}
use Rattle.outcome.specs.declared.Answer.{Answer}

pub data Outcome (A : Type 0) : Type 0 where
  -- the refusal's number and its place
  refused : ℕ → ℕ → Outcome A
  given : List A → Outcome A

-- n elements are lent: "the lent output is too short"
abbrev pub room : {A : Type 0} → ℕ → Outcome A → Outcome A
room n (refused e p) = refused e p
room n (given xs) = pick (leb (length xs) n) (given xs) (refused no_room 0)

-- a call that is lent the number of something, of a card's size or of a rule: where it stands for nothing, e comes before all else
abbrev pub only_known : {A B : Type 0} → (e : ℕ) → Option B → (B → Outcome A) → Outcome A
only_known e none f = refused e 0
only_known e (some x) f = f x

abbrev pub number_of : {A : Type 0} → Outcome A → ℕ
number_of (refused e p) = e
number_of (given xs) = 0

abbrev pub place_of : {A : Type 0} → Outcome A → ℕ
place_of (refused e p) = p
place_of (given xs) = 0

abbrev pub length_of : {A : Type 0} → Outcome A → ℕ
length_of (refused e p) = 0
length_of (given xs) = length xs

-- What the lent buffer holds afterwards; form is how the elements stand in it.
abbrev pub laid_as : {A B : Type 0} → (List A → List B) → List B → Outcome A → List B
laid_as form before (refused e p) = before
laid_as form before (given xs) = form xs ++ drop (length (form xs)) before

abbrev pub laid : {A : Type 0} → List A → Outcome A → List A
laid before o = laid_as (λ xs. xs) before o

-- The statement of a call that writes: o is its outcome where there is room enough, lent how many elements the buffer has room for,
-- before and after what it holds, a the answer.
pub record AnswersAs {A B : Type 0} (form : List A → List B) (lent : ℕ) (o : Outcome A) (before after : List B) (a : Answer) : Type 0 where
  pub number : a.number ≡ number_of (room lent o)
  pub place : a.place ≡ place_of (room lent o)
  pub written : a.length ≡ length_of (room lent o)
  pub buffer : after ≡ laid_as form before (room lent o)

-- elements that stand as they are
abbrev pub Answers : {A : Type 0} → Outcome A → (before after : List A) → Answer → Type 0
Answers o before after a = AnswersAs (λ xs. xs) (length before) o before after a

-- numbers that stand as bytes: "Lists and trails of wider numbers cross to it as bytes, high byte first; an output's bytes short of a
-- number stay."
abbrev pub AnswersInBytes : Outcome ℕ → (before after : List ℕ) → Answer → Type 0
AnswersInBytes o before after a = AnswersAs (joined two) (length before / 2) o before after a

-- the same with numbers of 32 bits
abbrev pub AnswersInFours : Outcome ℕ → (before after : List ℕ) → Answer → Type 0
AnswersInFours o before after a = AnswersAs (joined four) (length before / 4) o before after a

-- the elements xs were given: accepted, so many, and they stand, as form has them, in the first n places of the buffer
abbrev pub GaveAs : {A B : Type 0} → (List A → List B) → ℕ → List A → (after : List B) → Answer → Type 0
GaveAs form n xs after a = (a.number ≡ 0) × (a.length ≡ length xs) × (take n after ≡ form xs)

-- as they are
abbrev pub Gave : {A : Type 0} → List A → (after : List A) → Answer → Type 0
Gave xs after a = GaveAs (λ ys. ys) a.length xs after a

-- The answer of a call that writes nothing and says where what it gives stands, which is at place p.
abbrev pub told : {A : Type 0} → ℕ → Outcome A → Answer
told p (refused e q) = record { number = e; place = q; length = 0 }
told p (given xs) = record { number = 0; place = p; length = length xs }
