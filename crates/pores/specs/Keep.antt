-- What a removal leaves of the pores of a view: it "drops the removed lines' pores and keeps the others, the resolution and e; a removal
-- changes nothing else of the segments but these lengths". It goes by the survivors' old numbers, as a removal of lines does.
use Rattle.std.specs.Prelude.{ℕ, Bool, true, List, [], map, get_or}
use Rattle.std.proofs.Math.Option.{Option, none, some}
use Rattle.bits.specs.Choice.{pick, some?}
use Rattle.bits.specs.Lists.{every}
use Rattle.format.specs.Segments.{Segment, is_pores}
use Rattle.pores_parts.specs.Parts.{Pores}
use Rattle.pores.specs.Payload.{pores_in, payload_of}

-- the distances of line i
abbrev pub distances_at : Pores → ℕ → List ℕ
distances_at p i = get_or p.lines i []

-- ks: the numbers of the lines that stay
abbrev pub keep : List ℕ → Pores → Pores
keep ks p = record { resolution = p.resolution; e = p.e; lines = map (distances_at p) ks }

-- ---- in segments, of a view of n lines

-- one that says no pores is left as it is; a removal is refused there
abbrev pub kept_payload : List ℕ → List ℕ → Option Pores → List ℕ
kept_payload ks payload none = payload
kept_payload ks payload (some p) = payload_of (keep ks p)

abbrev pub keep_in : (n : ℕ) → List ℕ → Segment → Segment
keep_in n ks g = record { kind = g.kind; payload = pick (is_pores g) (kept_payload ks g.payload (pores_in n g.payload)) g.payload }

unfoldable pub keep_segments : (n : ℕ) → List ℕ → List Segment → List Segment
keep_segments n ks gs = map (keep_in n ks) gs

-- 26 where it is not so: a payload of pores says pores of n lines
abbrev pub pores_right : (n : ℕ) → Segment → Bool
pores_right n g = pick (is_pores g) (some? (pores_in n g.payload)) true

unfoldable pub all_pores_right : (n : ℕ) → List Segment → Bool
all_pores_right n gs = every (pores_right n) gs
