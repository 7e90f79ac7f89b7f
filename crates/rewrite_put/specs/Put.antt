-- What rewriting a record with another payload asks and answers. Whoever calls lays the payload: `takes` says of the rest of a buffer that
-- it may be laid there, and `gives` what is then answered and left.
use Rattle.std.specs.Prelude.{◌≡◌, ℕ, ◌^◌, ◌≤◌, List, length, Result}
use Rattle.bits.specs.Lists.{All}
use Rattle.bits.specs.Bytes.{Byte}
use Rattle.put_bytes.specs.Laid.{Laid}
use Rattle.outcome.specs.Outcome.{Answers}
use Rattle.outcome.specs.Why.{answer_of}
use Rattle.outcome.specs.declared.refusal.Refused.{Refused}
use Rattle.format.specs.declared.ViewName.{ViewName}
use Rattle.find_segment.specs.Found.{SegmentStands, SpotThere}
use Rattle.find_segment.specs.declared.Spot.{Spot}
use Rattle.rewrite.specs.Rewrite.{rewriting}

-- the payload is what is laid. It has k bytes, as they are counted: of one that no record has room for not all may be.
pub record PayloadPut (k : ℕ) (gives : List ℕ → ℕ → List ℕ → Type 0) (payload : List ℕ) : Type 0 where
  pub bytes : All Byte payload
  pub least : k ≤ length payload
  pub exact : k ≤ 32768 → k ≡ length payload
  pub lays : (rest left : List ℕ) (n : ℕ) → gives rest n left → Laid payload rest left n

pub record RecordRoom (s : List ℕ) (x : Spot) (k : ℕ) (takes : List ℕ → Type 0) (gives : List ℕ → ℕ → List ℕ → Type 0) : Type 0 where
  pub there : SpotThere s x
  pub few : k ≤ 2 ^ 32
  pub callable : (rest : List ℕ) → k ≤ 32768 → k ≤ length rest → takes rest
  pub payload : List ℕ
  pub put : PayloadPut k gives payload

pub record RecordPut (s : List ℕ) (x : Spot) (k : ℕ) (gives : List ℕ → ℕ → List ℕ → Type 0) (before after : List ℕ) (r : Result ℕ Refused) : Type 0 where
  pub is : (payload : List ℕ) → PayloadPut k gives payload → (view : ViewName) (place : ℕ) (h : SegmentStands s view place x)
      → Answers (rewriting h.i place payload h.value) before after (answer_of r)
