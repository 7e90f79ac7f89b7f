-- Orders as a host has them carried out: each call is lent the record that holds and a second buffer, and then the record that now
-- holds is asked for, which the next order is about.
use Rattle.std.specs.Prelude.{◌≡◌, ℕ, List, [], ◌∷◌, length}
use Rattle.outcome.specs.Outcome.{Answers}
use Rattle.outcome.specs.declared.Answer.{Answer}
use Rattle.orders.specs.Order.{holds}
use Rattle.orders.specs.AnyCall.{AnyCall, asked, lent_for}

-- one call: before and after are what the second buffer holds
pub record Made (q : AnyCall) (old new : List ℕ) : Type 0 where
  pub before : List ℕ
  pub after : List ℕ
  pub answer : Answer
  pub lent : length before ≡ lent_for q
  pub answers : Answers (asked q old) before after answer
  pub held : new ≡ holds old after answer.number answer.length

abbrev pub MadeAll : List AnyCall → List ℕ → List ℕ → Type 0
MadeAll [] bytes last = last ≡ bytes
MadeAll (q ∷ qs) bytes last = (new : List ℕ) × Made q bytes new × MadeAll qs new last
