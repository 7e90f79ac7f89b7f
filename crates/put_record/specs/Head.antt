-- The first bytes of a record that is put together anew from an old one: those of the old one, but for the record length.
use Rattle.std.specs.Prelude.{ℕ, ◌-◌, ◌≤◌, ◌<◌, List, ◌++◌, length, take, drop}
use Rattle.put_bytes.specs.Laid.{Laid}
use Rattle.put_bytes.specs.HighFirst.{two}

-- those of the record s up to byte `to`, in a record of n bytes: n stands in bytes 10 and 11
abbrev pub head_of : List ℕ → (to n : ℕ) → List ℕ
head_of s to n = (take 10 s ++ two n) ++ take (to - 12) (drop 12 s)

pub record HeadRoom (s : List ℕ) (to n : ℕ) (out : List ℕ) : Type 0 where
  pub from : 12 ≤ to
  pub within : to ≤ length s
  pub small : n < 65536
  pub room : to ≤ length out

abbrev pub HeadLaid : List ℕ → (to n : ℕ) → (before after : List ℕ) → ℕ → Type 0
HeadLaid s to n before after r = Laid (head_of s to n) before after r
