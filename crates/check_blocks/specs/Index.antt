-- What the code that goes over a view's index asks and answers: the fields are those that the grammar allows, and the answer is what
-- reading the index gives, and how many bytes its block takes.
use Rattle.std.specs.Prelude.{◌≡◌, ℕ, ◌*◌, ◌≤◌, Option, Some, None, List, [], length, T}
use Rattle.std.proofs.Math.Option as maybe
use Rattle.bits.specs.Codec.{got, refused}
use Rattle.outcome.specs.Refusals.{bad_value}
use Rattle.format.specs.Index.{Index, index_block}
use Rattle.sheet.specs.Fields.{Field}
use Rattle.sheet.specs.Grammar.{index_in, index_rest, index_shape}
use Rattle.sheet.specs.Sheet.{index_from}
use Rattle.check_fields.specs.Fields.{FieldsAt}
use Rattle.check_blocks.specs.Run.{RightAre}
use Rattle.check_blocks.specs.declared.run.Counted.{Counted}

-- the index of a view with `lines` lines
pub record IndexToCheck (s : List ℕ) (p : ℕ) (fs : List Field) : Type 0 where
  pub stand : FieldsAt s p fs
  pub lines : ℕ
  pub few : lines ≤ 1024
  pub right : T (index_shape lines (index_in fs))

pub record IndexRight (s : List ℕ) (fs : List Field) (e z : ℕ) : Type 0 where
  pub behind : FieldsAt s e (index_rest fs)
  pub value : maybe.Option Index
  pub reads : index_from (index_in fs) ≡ got value []
  -- whatever number of lines the block is for
  pub all : (n : ℕ) → length ((index_block n).enc value) ≡ 8 * z

pub record IndexWrong (fs : List Field) : Type 0 where
  pub left : ℕ
  pub refuses : index_from (index_in fs) ≡ refused bad_value left

abbrev pub IndexIs : List ℕ → ℕ → Option Counted → Type 0
IndexIs s p (Some r) = RightAre 67108865 p r.next r.size (IndexToCheck s p) (λ fs. IndexRight s fs r.next r.size)
IndexIs s p None = (fs : List Field) → IndexToCheck s p fs → IndexWrong fs
