-- The size of a payload of pores, by elements as they are counted.
use Rattle.std.specs.Prelude.{ℕ, ◌+◌, ◌*◌, ◌/◌, ◌≤◌}
use Rattle.pores_numbers.specs.Judged.{most_counted}

abbrev pub counted_size : (e elements : ℕ) → ℕ
counted_size e elements = 3 + (elements * e + 7) / 8

pub record FewElements (e elements : ℕ) : Type 0 where
  pub narrow : e ≤ 8
  pub few : elements ≤ most_counted
