-- What is said of every refusal of an outcome, by its number and its place: how it goes over to the answers.
use mathlib.Core.Path.{◌≡◌, refl}
use Prim.Native.Nat.{ℕ}
use mathlib.Core.Option.{Option, none, some}
use mathlib.Core.List.{List}
use lib.ListN.{length}
use lib.Dec.{leb}
use Rattle.bits.specs.ChoiceLaws.{pick_case}
use Rattle.outcome.specs.Refusals.{no_room}
use Rattle.outcome.specs.Outcome.{Outcome, refused, given, room, only_known, number_of, place_of, AnswersAs, told}
use Rattle.outcome.specs.declared.Answer.{Answer}

-- P holds of a refusal's number and place; of what is given nothing is said
abbrev pub Refused : {A : Type 0} → (ℕ → ℕ → Type 0) → Outcome A → Type 0
Refused P (refused e p) = P e p
Refused P (given xs) = Unit {0}

module _ (P : ℕ → ℕ → Type 0) {A : Type 0} where
  -- 20, which has no place, comes with the room
  pub room_refused : P no_room 0 → (n : ℕ) (o : Outcome A) → Refused P o → Refused P (room n o)
  room_refused t n (refused e p) h = h
  room_refused t n (given xs) h = pick_case (Refused P) (leb (length xs) n) _ _ (λ u. tt) (λ u. t)

  -- an outcome is refused, and P holds, or something is given
  pub refused_case : {X : Type 0} (o : Outcome A) → Refused P o → ((e p : ℕ) → o ≡ refused e p → P e p → X)
      → ((xs : List A) → o ≡ given xs → X) → X
  refused_case (refused e p) h f g = f e p refl h
  refused_case (given xs) h f g = g xs refl

  pub refused_map : (Q : ℕ → ℕ → Type 0) → ((e p : ℕ) → P e p → Q e p) → (o : Outcome A) → Refused P o → Refused Q o
  refused_map Q f (refused e p) h = f e p h
  refused_map Q f (given xs) h = tt

  -- what is given has the number 0 and no place
  pub refused_shown : P 0 0 → (o : Outcome A) → Refused P o → P (number_of o) (place_of o)
  refused_shown z (refused e p) h = h
  refused_shown z (given xs) h = z

  -- a call that writes
  pub refused_answer : {B : Type 0} {form : List A → List B} {lent : ℕ} {o : Outcome A} {before after : List B} {a : Answer}
      → P no_room 0 → P 0 0 → Refused P o → AnswersAs form lent o before after a → P a.number a.place
  refused_answer {lent = lent} {o = o} t z r h = rw (h.number, h.place) (refused_shown z (room lent o) (room_refused t lent o r))

  -- a call that says where something stands: its number and its place
  pub refused_shown_at : (p : ℕ) (o : Outcome A) → P 0 p → Refused P o → P (told p o).number (told p o).place
  refused_shown_at p (refused e q) z h = h
  refused_shown_at p (given xs) z h = z

  -- a call that is lent the number of something
  pub refused_known : {B : Type 0} (e : ℕ) (f : B → Outcome A) → P e 0 → ((x : B) → Refused P (f x)) → (o : Option B) → Refused P (only_known e o f)
  refused_known e f z h none = z
  refused_known e f z h (some x) = h x

-- a call that says where something stands: its number
pub refused_told : (P : ℕ → Type 0) {A : Type 0} (p : ℕ) (o : Outcome A) → P 0 → Refused (λ e q. P e) o → P (told p o).number
refused_told P p (refused e q) z h = h
refused_told P p (given xs) z h = z
