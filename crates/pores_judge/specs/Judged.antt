-- What the code that judges a stored payload of sweat pores asks and answers.
use Rattle.std.specs.Prelude.{◌≡◌, ℕ, ◌≤◌, List, length, Option, Some, None}
use Rattle.std.proofs.Math.Option.{none, some}
use Rattle.pores_parts.specs.Parts.{Pores}
use Rattle.pores.specs.Payload.{pores_in}
use Rattle.pores.specs.Numbers.{numbers_of}
use Rattle.pores_judge.specs.declared.JudgedPayload.{JudgedPayload}

pub record PayloadThere (s : List ℕ) : Type 0 where
  pub short : length s ≤ 65535

-- in a view with so many lines the payload s says pores, with elements of e bits; as the host has them they are so many numbers
pub record RightPayload (lines : ℕ) (s : List ℕ) (e numbers : ℕ) : Type 0 where
  pub value : Pores
  pub says : pores_in lines s ≡ some value
  pub element : e ≡ value.e
  pub count : numbers ≡ length (numbers_of value)

abbrev pub PayloadJudged : (lines : ℕ) → List ℕ → Option JudgedPayload → Type 0
PayloadJudged lines s (Some j) = RightPayload lines s j.e j.numbers
PayloadJudged lines s None = pores_in lines s ≡ none
