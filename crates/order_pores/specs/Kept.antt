-- The payload of pores that a removal leaves, and what the code that sizes and puts it asks and answers. removal: the list of the
-- removal, as bytes; lines: how many lines the view has before it.
use Rattle.std.specs.Prelude.{◌≡◌, ℕ, ◌≤◌, List, length}
use Rattle.std.proofs.Math.Option.{some}
use Rattle.put_bytes.specs.Laid.{Laid}
use Rattle.pores_parts.specs.Parts.{Pores}
use Rattle.pores.specs.Payload.{pores_in, payload_of}
use Rattle.pores.specs.Keep.{keep}
use Rattle.orders.specs.Survive.{survivors}
use Rattle.orders.specs.Listed.{removal_lines}
use Rattle.order_removal.specs.Rank.{Rising}

abbrev pub kept_payload : (lines : ℕ) → (removal : List ℕ) → Pores → List ℕ
kept_payload lines removal p = payload_of (keep (survivors lines (removal_lines removal)) p)

-- the payload s says pores of so many lines
pub record PoresToKeep (s : List ℕ) (lines : ℕ) (removal : List ℕ) : Type 0 where
  pub short : length s ≤ 65535
  pub few : lines ≤ 1024
  pub rising : Rising removal
  pub value : Pores
  pub says : pores_in lines s ≡ some value

pub record PoresSized (s : List ℕ) (lines : ℕ) (removal : List ℕ) (r : ℕ) : Type 0 where
  pub is : (p : Pores) → pores_in lines s ≡ some p → r ≡ length (kept_payload lines removal p)

pub record PoresPutThere (s : List ℕ) (lines : ℕ) (removal out : List ℕ) : Type 0 where
  pub there : PoresToKeep s lines removal
  pub room : length (kept_payload lines removal there.value) ≤ length out

pub record PoresPut (s : List ℕ) (lines : ℕ) (removal before after : List ℕ) (r : ℕ) : Type 0 where
  pub is : (p : Pores) → pores_in lines s ≡ some p → Laid (kept_payload lines removal p) before after r
