-- A record, byte by byte: what those lay down who write one. That it is the record of the definitions is a law (Written).
use Rattle.std.specs.Prelude.{ℕ, List, [], ◌∷◌, ◌++◌, length}
use Rattle.bits.specs.Bytes.{in_bytes}
use Rattle.bits.specs.Block.{Block}
use Rattle.put_bytes.specs.HighFirst.{two, joined}
use Rattle.format.specs.Line.{skeleton}
use Rattle.format.specs.Index.{index_block}
use Rattle.format.specs.Segments.{segments}
use Rattle.format.specs.View.{View}
use Rattle.format.specs.Record.{Record, size}
use Rattle.format.specs.declared.Widths.{Widths}
use Rattle.format.specs.declared.Header.{Header}
use Rattle.format.specs.declared.Scale.{Scale}
use Rattle.format.specs.declared.ViewHeader.{ViewHeader}

-- ---- headers

-- a view's, without the skeleton's length
abbrev pub head_bytes : ViewHeader → List ℕ
head_bytes h = h.number ∷ h.position ∷ h.impression ∷ h.quality ∷ (two h.width ++ two h.height)

-- record bytes 15 to 21
abbrev pub scale_bytes : Scale → List ℕ
scale_bytes s = s.points ∷ s.widths.c ∷ s.widths.b ∷ s.widths.k ∷ s.step ∷ s.ratio ∷ s.half ∷ []

-- ---- a view

-- behind its length
abbrev pub sized : List ℕ → List ℕ
sized block = two (length block) ++ block

abbrev pub sized_out : {A : Type 0} → Block A → A → List ℕ
sized_out w v = sized (in_bytes (w.enc v))

abbrev pub blocks_out : Widths → View → List ℕ
blocks_out w v = sized_out (skeleton w) v.lines ++ (sized_out (index_block (length v.lines)) v.index ++ sized_out segments v.segments)

abbrev pub view_out : Widths → View → List ℕ
view_out w v = head_bytes v.head ++ blocks_out w v

-- ---- the record

-- its header: it has n bytes and m views
abbrev pub header_out : (n : ℕ) → Header → (m : ℕ) → List ℕ
header_out n h m =
    0x46 ∷ 0x53 ∷ 0x4B ∷ 0x00 ∷ 0x30 ∷ 0x31 ∷ 0x30 ∷ 0x00 ∷ 0x00 ∷ 0x00
    ∷ (two n ++ (two h.device ++ (m ∷ (scale_bytes h.scale ++ (0x00 ∷ 0x00 ∷ [])))))

unfoldable pub record_out : Record → List ℕ
record_out r = header_out (size r) r.head (length r.views) ++ joined (view_out r.head.scale.widths) r.views
