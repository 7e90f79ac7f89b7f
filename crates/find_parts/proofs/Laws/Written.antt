-- A record byte by byte is the record of the definitions: each part spells what its format writes.
use mathlib.Core.Path.{◌≡◌, refl, sym, ap, ◌∙◌}
use Prim.Native.Nat.{ℕ, ◌+◌, ◌*◌, ◌/◌, ◌%◌, ◌^◌, ◌<◌}
use native.Mathlib.Omega.{arith}
use mathlib.Core.List.{List, [], ◌∷◌, ◌++◌, append_assoc}
use lib.ListN.{length, length-append}
use Rattle.bits.specs.Lists.{Along, total}
use Rattle.bits.specs.Bits.{Bits, bits_of_number}
use Rattle.bits.specs.BitsLaws.{bits_mod, bits_split}
use Rattle.bits.specs.Bytes.{bits_of, bytes_of, in_bytes}
use Rattle.bits.specs.BytesLaws.{bytes_bits, bytes_are, bits_in, length_in}
use Rattle.bits.specs.CodecLaws.{enc_along}
use Rattle.bits.specs.Block.{Block}
use Rattle.outcome.specs.Refusals.{bad_header, bad_view}
use Rattle.put_bytes.specs.HighFirst.{two, joined}
use Rattle.format.specs.Limits.{most_bytes}
use Rattle.format.specs.Line.{skeleton}
use Rattle.format.specs.Index.{index_block}
use Rattle.format.specs.Segments.{segments}
use Rattle.format.specs.View.{View, occurs, FitsHead, head_fields, view_header, view}
use Rattle.format.specs.Record.{Record, FitsScale, scale, header, tell_seen, views, record_of, size, write, FitsRecord, Allowed}
use Rattle.format.specs.declared.Widths.{Widths}
use Rattle.format.specs.declared.Scale.{Scale}
use Rattle.format.specs.declared.Header.{Header}
use Rattle.format.specs.declared.ViewHeader.{ViewHeader}
use Rattle.format.proofs.Laws.Size.{view_length, views_length}
use Rattle.find_parts.proofs.Laws.Blocks.{block_long}
use Rattle.find_parts.proofs.Laws.Lists.{along_long}
use Rattle.find_parts.proofs.Laws.InBytes.{Spells, ◌⊕◌, spells_byte, spells_two}
use Rattle.find_parts.specs.Stored.{head_bytes, scale_bytes, sized_out, view_out, header_out, record_out}

-- ---- numbers and blocks

-- a number of 32 bits, as two of 16
spells_four : {n : ℕ} → n < 2 ^ 32 → Spells (two (n / 65536) ++ two (n % 65536)) (bits_of_number 32 n)
spells_four {n} h =
    let a : Spells (two (n / 65536)) (bits_of_number 16 (n / 65536)) = spells_two (omega arith) in
    let b : Spells (two (n % 65536)) (bits_of_number 16 (n % 65536)) = spells_two (omega arith) in
    let c = a ⊕ b in
    record { bytes = c.bytes; bits = bits_split 16 16 n ∙ ap (λ (s : Bits). bits_of_number 16 (n / 65536) ++ s) (sym (bits_mod 16 (n % 65536) n (omega arith))) ∙ c.bits }

-- a block has whole bytes
spells_block : {A : Type 0} (w : Block A) (v : A) → Spells (in_bytes (w.enc v)) (w.enc v)
spells_block w v =
    let s : Bits = w.enc v in
    record { bytes = bytes_are (length s / 8) s (omega (arith, w.bytes v)); bits = sym (bits_in s (w.bytes v)) }

-- behind its length
abbrev sized : {A : Type 0} → Block A → A → Bits
sized w v = bits_of_number 16 (length (w.enc v) / 8) ++ w.enc v

pub spells_sized : {A : Type 0} (w : Block A) (v : A) → length (w.enc v) / 8 < 2 ^ 16 → Spells (sized_out w v) (sized w v)
spells_sized w v h = rw (length_in (w.enc v)) (spells_two h ⊕ spells_block w v)

-- ---- headers; e is the refusal

pub scale_spells : (e : ℕ) (s : Scale) → FitsScale s → Spells (scale_bytes s) ((scale e).enc s)
scale_spells e s f =
    spells_byte f.points.0 ⊕ spells_byte f.c.0 ⊕ spells_byte f.b.0 ⊕ spells_byte f.k.0
    ⊕ spells_byte f.step.0 ⊕ spells_byte f.ratio ⊕ spells_byte f.half.0

pub head_spells : (e : ℕ) (earlier : ℕ → ℕ) (h : ViewHeader) → FitsHead earlier h → Spells (head_bytes h) ((head_fields e earlier).enc h)
head_spells e earlier h f =
    (spells_byte f.number ⊕ spells_byte f.position ⊕ spells_byte f.impression ⊕ spells_byte f.quality)
    ⊕ spells_two f.width ⊕ spells_two f.height

-- ---- a view

module _ (w : Widths) (seen : List ℕ) where
  pub view_spells : (v : View) → (view w seen).Fits v → Spells (view_out w v) ((view w seen).enc v)
  unfolding view view_header
  view_spells v h =
      let earlier : ℕ → ℕ = λ p. occurs p seen in
      let a = head_spells bad_view earlier v.head h.0.0.0 in
      let b = spells_sized (skeleton w) v.lines h.0.0.1 in
      let c = spells_sized (index_block (length v.lines)) v.index h.1.0.0 in
      let d = spells_sized segments v.segments h.1.1.0 in
      let e = a ⊕ (b ⊕ (c ⊕ d)) in
      let z : (view w seen).enc v ≡ (head_fields bad_view earlier).enc v.head ++ (sized (skeleton w) v.lines ++ (sized (index_block (length v.lines)) v.index ++ sized segments v.segments)) = simp append_assoc in
      record { bytes = e.bytes; bits = z ∙ e.bits }

views_spells : (w : Widths) (seen : List ℕ) (vs : List View) → Along tell_seen (λ seen v. (view w seen).Fits v) seen vs → Spells (joined (view_out w) vs) (enc_along (view w) tell_seen seen vs)
unfolding bits_of
views_spells w seen [] h = record { bytes = tt; bits = refl }
views_spells w seen (v ∷ vs) h = view_spells w seen v h.0 ⊕ views_spells w (tell_seen seen v) vs h.1

-- ---- the header

header_spells : (n m : ℕ) (h : Header) → n < 65536 → (header n).Fits (h, m) → Spells (header_out n h m) ((header n).enc (h, m))
unfolding header
header_spells n m h l f =
    let a : Spells (0x46 ∷ 0x53 ∷ 0x4B ∷ 0x00 ∷ []) (bits_of_number 32 0x46534B00) = spells_four (omega arith) in
    let b : Spells (0x30 ∷ 0x31 ∷ 0x30 ∷ 0x00 ∷ []) (bits_of_number 32 0x30313000) = spells_four (omega arith) in
    let y : n / 65536 ≡ 0 = omega arith in
    let z : n % 65536 ≡ n = omega arith in
    let c : Spells (two 0 ++ two n) (bits_of_number 32 n) = rw (y, z) at (spells_four {n = n} (omega arith)) in
    let e = a ⊕ (b ⊕ (c ⊕ (spells_two f.1.device ⊕ (spells_byte f.2.0 ⊕ (scale_spells bad_header h.scale f.1.scale ⊕ spells_two {n = 0} (omega arith)))))) in
    e

-- ---- how long it is

-- a view's header and blocks
pub view_blocks : (w : Widths) (v : View) → length (view_out w v) ≡ 8 + ((2 + length (in_bytes ((skeleton w).enc v.lines))) + ((2 + length (in_bytes ((index_block (length v.lines)).enc v.index))) + (2 + length (in_bytes (segments.enc v.segments)))))
view_blocks w v = simp length-append (omega arith)

pub view_long : (w : Widths) (seen : List ℕ) (v : View) → length ((view w seen).enc v) ≡ 8 * length (view_out w v)
view_long w seen v =
    omega (arith, view_length w seen v, block_long (skeleton w) v.lines, block_long (index_block (length v.lines)) v.index, block_long segments v.segments, view_blocks w v)

-- bits of views, and their bytes
pub views_long : (w : Widths) (vs : List View) → total (λ v. length ((view w []).enc v)) vs ≡ 8 * length (joined (view_out w) vs)
views_long w [] = refl
views_long w (v ∷ vs) = omega (arith, view_long w [] v, views_long w vs, length-append (view_out w v) (joined (view_out w) vs))

pub stored_long : (r : Record) → length (record_out r) ≡ size r
unfolding record_out
stored_long r =
    let w : Widths = r.head.scale.widths in
    omega (arith, views_length r, along_long (view w) tell_seen (λ v. length ((view w []).enc v)) (λ seen v. view_long w seen v ∙ sym (view_long w [] v)) [] r.views, views_long w r.views)

-- ---- the record

header_fits : (n : ℕ) (r : Record) → n < 65536 → FitsRecord r → (header n).Fits (r.head, length r.views)
unfolding header
header_fits n r l f = (omega arith, f.head, f.count)

record_spells : (r : Record) → Allowed r → Spells (record_out r) ((record_of (size r)).enc r)
unfolding record_of views record_out most_bytes
record_spells r a =
    let f = a.fits in
    let l : size r < 65536 = omega (arith, a.small) in
    header_spells (size r) (length r.views) r.head l (header_fits (size r) r l f) ⊕ views_spells r.head.scale.widths [] r.views f.views

pub written : (r : Record) → Allowed r → write r ≡ record_out r
unfolding write
written r a =
    let s = record_spells r a in
    ap (bytes_of (size r)) s.bits ∙ ap (λ (k : ℕ). bytes_of k (bits_of (record_out r))) (sym (stored_long r)) ∙ bytes_bits (record_out r) s.bytes
