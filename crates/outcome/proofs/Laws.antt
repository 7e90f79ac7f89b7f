-- The laws of an outcome: what is given fits the lent buffer, and the statement of a call leaves one answer and one buffer;
-- and how code that refuses or writes meets that statement.
use mathlib.Core.Path.{◌≡◌, refl, sym, ap, ◌∙◌}
use mathlib.Core.Logic.{◌≢◌}
use Prim.Native.Nat.{ℕ, ◌≤◌, ◌<◌}
use native.Mathlib.Omega.{arith}
use mathlib.Core.Option.{Option, none, some}
use mathlib.Core.List.{List, ◌++◌}
use lib.ListN.{length, take, drop, length-append}
use lib.Seq.{take_at}
use lib.Dec.{leb, le→leb, leb→le}
use Rattle.bits.specs.ChoiceLaws.{pick_yes, pick_no, pick_case}
use mir.Facts.{no_leb}
use Rattle.outcome.specs.Refusals.{no_room}
use Rattle.outcome.specs.Outcome.{Outcome, refused, given, room, only_known, number_of, place_of, length_of, laid_as, AnswersAs, Answers, GaveAs, Gave, told}
use Rattle.outcome.specs.declared.Answer.{Answer}

-- an equation allows one value: "It is proved that two outcomes allowed by it are equal."
pub one_value : {A : Type 0} {x y₁ y₂ : A} → y₁ ≡ x → y₂ ≡ x → y₁ ≡ y₂
one_value p q = p ∙ sym q

-- two answers with the same three numbers are one
pub same_answer : (a b : Answer) → a.number ≡ b.number → a.place ≡ b.place → a.length ≡ b.length → a ≡ b
same_answer a b p q r = λ i. record { number = p i; place = q i; length = r i }

-- what is refused is not given, and what is given is one list
pub not_given : {A P : Type 0} {e p : ℕ} {xs : List A} → refused e p ≡ given xs → P
not_given h = let z : ◌≡◌ {A = ℕ} 0 1 = cc in absurd (omega arith)

pub given_is : {A : Type 0} {xs ys : List A} → ◌≡◌ {A = Outcome A} (given xs) (given ys) → xs ≡ ys
given_is h = cc

refused_is : {A : Type 0} {e n p q : ℕ} → ◌≡◌ {A = Outcome A} (refused e p) (refused n q) → e ≡ n
refused_is h = cc

-- ---- a number that a call is lent, which stands for nothing, or for x

module _ {A B : Type 0} (e : ℕ) (f : B → Outcome A) where
  pub unknown : {o : Option B} → o ≡ none → only_known e o f ≡ refused e 0
  unknown h = ap (λ (x : Option B). only_known e x f) h

  pub known_is : {o : Option B} {x : B} → o ≡ some x → only_known e o f ≡ f x
  known_is h = ap (λ (y : Option B). only_known e y f) h

  -- what is given comes of what it stands for, and so does another refusal
  pub given_known : {P : Type 0} (o : Option B) {xs : List A} → only_known e o f ≡ given xs → ((x : B) → o ≡ some x → f x ≡ given xs → P) → P
  given_known none h k = not_given h
  given_known (some x) h k = k x refl h

  pub own_known : {P : Type 0} (o : Option B) {n p : ℕ} → e ≢ n → only_known e o f ≡ refused n p → ((x : B) → o ≡ some x → f x ≡ refused n p → P) → P
  own_known none d h k = absurd (d (refused_is h))
  own_known (some x) d h k = k x refl h

-- ---- the room that is lent

-- given room, the outcome is what it is
pub room_enough : {A : Type 0} (n : ℕ) (xs : List A) → length xs ≤ n → room n (given xs) ≡ given xs
room_enough n xs h = pick_yes (leb (length xs) n) _ _ (le→leb (length xs) n h)

-- held against the same room again, it is what it is
pub room_again : {A : Type 0} (n : ℕ) (o : Outcome A) → room n (room n o) ≡ room n o
room_again n (refused e p) = refl
room_again {A} n (given xs) =
    pick_case (λ (x : Outcome A). room n x ≡ x) (leb (length xs) n) _ _ (λ t. pick_yes (leb (length xs) n) _ _ t) (λ t. refl)

-- in the room that is lent the number is 0 exactly where something is given, and fits; no refusal has that number
pub room_zero : {A P : Type 0} (n : ℕ) {o : Outcome A} → ((e p : ℕ) → o ≡ refused e p → e ≢ 0) → number_of (room n o) ≡ 0
    → ((xs : List A) → o ≡ given xs → length xs ≤ n → P) → P
room_zero {A} {P} n {o} never z k = go o refl z
  where
    go : (x : Outcome A) → o ≡ x → number_of (room n x) ≡ 0 → P
    go (refused e p) q z = absurd (never e p q z)
    go (given xs) q z =
        pick_case (λ (x : Outcome A). number_of x ≡ 0 → P) (leb (length xs) n) _ _ (λ t _. k xs q (leb→le (length xs) n t)) (λ t y. absurd (omega arith)) z

pub zero_room : {A : Type 0} (n : ℕ) {o : Outcome A} {xs : List A} → o ≡ given xs → length xs ≤ n → number_of (room n o) ≡ 0
zero_room n {xs = xs} q l = ap (λ x. number_of (room n x)) q ∙ ap number_of (room_enough n xs l)

-- a number that is neither 0 nor 20 is the outcome's own
pub own_number : {A : Type 0} {e : ℕ} → e ≢ 0 → e ≢ no_room → (n : ℕ) (o : Outcome A) → number_of (room n o) ≡ e → (p : ℕ) × (o ≡ refused e p)
own_number a b n (refused d p) h = (p, ap (λ (m : ℕ). refused m p) h)
own_number {A} {e} a b n (given xs) h =
    absurd (pick_case (λ (o : Outcome A). number_of o ≡ e → ⊥) (leb (length xs) n) _ _ (λ t z. a (sym z)) (λ t z. b (sym z)) h)

module _ {A B : Type 0} {form : List A → List B} {lent : ℕ} {o : Outcome A} {before : List B} where
  -- "It is proved that two outcomes allowed by it are equal."
  pub one_answer : {after₁ after₂ : List B} {a₁ a₂ : Answer} → AnswersAs form lent o before after₁ a₁ → AnswersAs form lent o before after₂ a₂
      → (a₁ ≡ a₂) × (after₁ ≡ after₂)
  one_answer {a₁ = a₁} {a₂ = a₂} h k =
      (same_answer a₁ a₂ (h.number ∙ sym k.number) (h.place ∙ sym k.place) (h.written ∙ sym k.written), h.buffer ∙ sym k.buffer)

  -- an answer other than 0 leaves the lent buffer as it was
  pub refusal_writes_nothing : {after : List B} {a : Answer} → AnswersAs form lent o before after a → a.number ≢ 0 → (after ≡ before) × (a.length ≡ 0)
  refusal_writes_nothing h n =
      let (l, z) = go (room lent o) (λ e. n (h.number ∙ e)) in
      (h.buffer ∙ l, h.written ∙ z)
    where
      go : (o : Outcome A) → number_of o ≢ 0 → (laid_as form before o ≡ before) × (length_of o ≡ 0)
      go (refused e p) n = (refl, refl)
      go (given xs) n = absurd (n refl)

-- ---- the answers that code gives

module _ {A B : Type 0} (form : List A → List B) (lent : ℕ) {o : Outcome A} (before : List B) where
  -- the outcome in the room that is lent is x
  answer_is : (x : Outcome A) (after : List B) (n : ℕ) → room lent o ≡ x → n ≡ length_of x → after ≡ laid_as form before x
      → AnswersAs form lent o before after (record { number = number_of x; place = place_of x; length = n })
  answer_is x after n q l b =
      record { number = ap number_of (sym q); place = ap place_of (sym q); written = l ∙ ap length_of (sym q); buffer = b ∙ ap (laid_as form before) (sym q) }

  pub answer_refused : {e p : ℕ} → o ≡ refused e p → AnswersAs form lent o before before (record { number = e; place = p; length = 0 })
  answer_refused {e} {p} q = answer_is (refused e p) before 0 (ap (room lent) q) refl refl

  module _ {xs : List A} (q : o ≡ given xs) where
    pub answer_full : lent < length xs → AnswersAs form lent o before before (record { number = no_room; place = 0; length = 0 })
    answer_full l = answer_is (refused no_room 0) before 0 (ap (room lent) q ∙ pick_no (leb (length xs) lent) _ _ (no_leb l)) refl refl

    pub answer_given : (after : List B) (n : ℕ) → length xs ≤ lent → n ≡ length xs → after ≡ form xs ++ drop (length (form xs)) before
        → AnswersAs form lent o before after (record { number = 0; place = 0; length = n })
    answer_given after n l m b = answer_is (given xs) after n (ap (room lent) q ∙ room_enough lent xs l) m b

-- an outcome that has been held against the room
pub room_answers : {A B : Type 0} {form : List A → List B} {lent : ℕ} {o : Outcome A} {before after : List B} {a : Answer}
    → AnswersAs form lent (room lent o) before after a → AnswersAs form lent o before after a
room_answers {form = form} {lent = lent} {o = o} {before = before} h =
    let e = room_again lent o in
    record {
      number = h.number ∙ ap number_of e;
      place = h.place ∙ ap place_of e;
      written = h.written ∙ ap length_of e;
      buffer = h.buffer ∙ ap (laid_as form before) e;
    }

-- ---- what an answer says

-- given room, what is given is there: n is how many places the elements take in their form
pub answer_laid : {A B : Type 0} {form : List A → List B} {lent : ℕ} {o : Outcome A} {before after : List B} {a : Answer} → AnswersAs form lent o before after a
    → (xs : List A) → o ≡ given xs → length xs ≤ lent → (n : ℕ) → (a.length ≡ length xs → length (form xs) ≡ n) → GaveAs form n xs after a
answer_laid {form = form} {lent = lent} {o = o} {before = before} {after = after} {a = a} h xs e k n w =
    let q : room lent o ≡ given xs = ap (room lent) e ∙ room_enough lent xs k in
    let l : a.length ≡ length xs = h.written ∙ ap length_of q in
    let b : after ≡ form xs ++ drop (length (form xs)) before = h.buffer ∙ ap (laid_as form before) q in
    (h.number ∙ ap number_of q, l, ap (take n) b ∙ take_at (form xs) (drop (length (form xs)) before) n (w l))

-- elements that stand as they are
module _ {A : Type 0} {o : Outcome A} {before after : List A} {a : Answer} (h : Answers o before after a) where
  pub answer_there : (xs : List A) → o ≡ given xs → length xs ≤ length before → Gave xs after a
  answer_there xs e k = answer_laid h xs e k a.length (λ l. sym l)

  -- an answer of 0 is given something, where no refusal has that number
  pub answer_accepted : {P : Type 0} → ((e p : ℕ) → o ≡ refused e p → e ≢ 0) → a.number ≡ 0
      → ((xs : List A) → o ≡ given xs → take a.length after ≡ xs → P) → P
  answer_accepted never z k = room_zero (length before) never (sym h.number ∙ z) λ xs q l. k xs q (answer_there xs q l).2

  -- what it says is written is within the buffer
  pub answer_fits : a.length ≤ length after
  answer_fits = rw (h.written, h.buffer) (go (room (length before) o))
    where
      go : (x : Outcome A) → length_of x ≤ length (laid_as (λ ys. ys) before x)
      go (refused e p) = omega arith
      go (given xs) = omega (arith, length-append xs (drop (length xs) before))

-- ---- the answers that say where something stands

module _ {A : Type 0} {o : Outcome A} (p : ℕ) where
  pub told_refused : {e q : ℕ} → o ≡ refused e q → told p o ≡ record { number = e; place = q; length = 0 }
  told_refused h = ap (told p) h

  pub told_given : {xs : List A} → o ≡ given xs → told p o ≡ record { number = 0; place = p; length = length xs }
  told_given h = ap (told p) h

-- the number is 0 exactly where something is given, since no refusal has it; any other number is the outcome's own
module _ {A : Type 0} (p : ℕ) where
  pub told_zero : {P : Type 0} (o : Outcome A) → ((e q : ℕ) → o ≡ refused e q → e ≢ 0) → (told p o).number ≡ 0 → ((xs : List A) → o ≡ given xs → P) → P
  told_zero (refused e q) never z k = absurd (never e q refl z)
  told_zero (given xs) never z k = k xs refl

  pub told_own : (o : Outcome A) {e : ℕ} → e ≢ 0 → (told p o).number ≡ e → (q : ℕ) × (o ≡ refused e q)
  told_own (refused d q) n h = (q, ap (λ (m : ℕ). refused m q) h)
  told_own (given xs) n h = absurd (n (sym h))
