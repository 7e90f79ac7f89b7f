-- A record's sheet: its header's field, made of the record's own bytes, and its views' fields.
use mathlib.Core.Path.{◌≡◌, ◌∙◌}
use Prim.Native.Nat.{ℕ, ◌+◌, ◌≤◌}
use native.Mathlib.Omega.{arith}
use mathlib.Core.List.{List, [], ◌++◌, append_assoc}
use lib.ListN.{length, take, drop, length-append, length-take, length-drop}
use Rattle.bits.specs.Lists.{All, total}
use Rattle.bits.specs.Bits.{Bits, bits_of_number}
use Rattle.bits.specs.BitsLaws.{length_bits}
use Rattle.bits.specs.Bytes.{Byte, bits_of}
use Rattle.bits.specs.Codec.{got}
use Rattle.outcome.specs.Refusals.{bad_header}
use Rattle.put_bytes.specs.Laid.{Laid}
use Rattle.put_bytes.proofs.Laws.{laid_next, lent, back}
use Rattle.format.specs.Record.{Record, FitsHeader, scale, header, read}
use Rattle.format.specs.SheetSize.{view_size, sheet_size}
use Rattle.format.specs.declared.Widths.{Widths}
use Rattle.format.specs.declared.Header.{Header}
use Rattle.put_bytes.specs.HighFirst.{start, two}
use Rattle.sheet_bytes.specs.Bytes.{header_bytes, view_bytes, record_bytes}
use Rattle.find_parts.specs.Stored.{scale_bytes}
use Rattle.read_views.specs.SheetOuts.{header_field, ViewsOut, SheetThere, SheetOut}
use Rattle.find_parts.proofs.Laws.InBytes.{spells_two}
use Rattle.find_parts.proofs.Laws.Written.{scale_spells}
use Rattle.sheet_bytes.proofs.Laws.Sizes.{joined_size, view_size_lem}
use Rattle.find_parts.proofs.Laws.Record.{behind, record_apart}
use Rattle.find_parts.proofs.Laws.Front.{spelled_part}

-- ---- the header

header_field_lem : (s : List ℕ) (n m : ℕ) (h : Header) (t : Bits) → FitsHeader h → bits_of s ≡ (header n).enc (h, m) ++ t → All Byte s
    → header_field s ≡ start 1 9 ++ header_bytes h
unfolding header
header_field_lem s n m h t f g bytes =
    let id : Bits = bits_of_number 32 0x46534B00 in
    let version : Bits = bits_of_number 32 0x30313000 in
    let size : Bits = bits_of_number 32 n in
    let device : Bits = bits_of_number 16 h.device in
    let count : Bits = bits_of_number 8 m in
    let rest : Bits = bits_of_number 16 0 ++ t in
    let e : bits_of s ≡ (id ++ (version ++ size)) ++ (device ++ (count ++ ((scale bad_header).enc h.scale ++ rest))) = g ∙ simp append_assoc in
    let k : bits_of s ≡ (id ++ (version ++ (size ++ (device ++ count)))) ++ ((scale bad_header).enc h.scale ++ rest) = g ∙ simp append_assoc in
    let a : take 2 (drop 12 s) ≡ two h.device = spelled_part s 12 _ bytes (spells_two f.device) (behind (id ++ (version ++ size)) _ 96 e (simp (length-append, length_bits))) in
    let b : take 7 (drop 15 s) ≡ scale_bytes h.scale = spelled_part s 15 rest bytes (scale_spells bad_header h.scale f.scale) (behind (id ++ (version ++ (size ++ (device ++ count)))) _ 120 k (simp (length-append, length_bits))) in
    rw (a, b)

-- ---- its sheet, where the views' fields are laid behind the header's

field_long : (s : List ℕ) → 24 ≤ length s → length (header_field s) ≡ 12
field_long s h = simp (length-append, length-take, length-drop) (omega arith)

module _ {w : Widths} {count : ℕ} {s : List ℕ} {n : ℕ} (h : SheetThere w count s n) where
  pub header_room : (22 ≤ length s) × (12 ≤ n)
  unfolding sheet_size
  header_room = (omega (arith, (record_apart s h.reads).low), omega (arith, h.room))

  pub views_room : {o o1 : List ℕ} {x : ℕ} → Laid (header_field s) o o1 x → x + total view_size h.value.views ≤ n
  unfolding sheet_size
  views_room l = omega (arith, h.room, l.count, field_long s (record_apart s h.reads).low)

pub views_wide : {s o o1 : List ℕ} {x : ℕ} {r : Record} → ViewsOut s o o1 x → read s ≡ got r [] → x ≡ total view_size r.views
views_wide {r = r} l d = let k : ℕ = r.head.scale.widths.k in (l.is r d).count ∙ joined_size (view_bytes k) view_size (view_size_lem k) r.views

pub sheet_laid : {s o o1 o2 : List ℕ} {h x : ℕ} → All Byte s → Laid (header_field s) o o1 h → ViewsOut s (lent o1 h) o2 x → SheetOut s o (back o1 h o2) (h + x)
unfolding record_bytes
sheet_laid {s} bytes k l =
    record {
      is = λ r d.
          let a = record_apart s d in
          laid_next (rw (header_field_lem s (length s) a.count r.head a.tail a.fits a.head bytes) at k) (l.is r d);
    }
