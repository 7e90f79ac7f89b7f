-- Reading and writing of a sheet: an allowed record's sheet gives the record back, and a sheet that gives a record is that
-- record's sheet.
use mathlib.Core.Path.{◌≡◌, sym, ap, ◌∙◌}
use Prim.Native.Nat.{ℕ}
use mathlib.Core.Bool.{Bool}
use mathlib.Core.List.{List, []}
use lib.Dec.{T, leb, leb→le, le→leb}
use Rattle.bits.specs.Choice.{pick}
use Rattle.bits.specs.ChoiceLaws.{pick_yes, pick_split}
use Rattle.bits.specs.Lists.{All}
use Rattle.bits.specs.Bits.{Bits}
use Rattle.bits.specs.Bytes.{Byte, bits_of, in_bytes}
use Rattle.bits.specs.Codec.{Read, got, refused}
use Rattle.bits.specs.CodecLaws.{not_got, next_got, pick_got}
use Rattle.bits.specs.BlockBytes.{value_there, value_back}
use Rattle.outcome.specs.Refusals.{bad_sheet, too_long}
use Rattle.format.specs.Limits.{most_bytes}
use Rattle.format.specs.Record.{Record, Allowed, size}
use Rattle.sheet.specs.Fields.{Field, FitsField, tagged, fields}
use Rattle.sheet.specs.Grammar.{sheet_fields, sheet_in, grammar}
use Rattle.sheet.specs.Sheet.{raw_of, sheet_of, record_from, read_sheet}
use Rattle.sheet.proofs.Laws.Grammar.{sheet_there, grammar_there, grammar_back}
use Rattle.sheet.proofs.Laws.Values.{values_there, values_back}
use Rattle.sheet.proofs.Laws.Allowed.{record_right, record_shape, record_fields, record_allowed}

fields_fit : (fs : List Field) → All FitsField fs → fields.Fits fs
unfolding fields tagged
fields_fit fs h = h

fit_fields : (fs : List Field) → fields.Fits fs → All FitsField fs
unfolding fields tagged
fit_fields fs h = h

-- the record of a sheet whose fields are in order
abbrev valued : List Field → Read Bool Record
valued fs = pick (grammar fs) (record_from (sheet_in fs)) (refused bad_sheet 0)

valued_there : (r : Record) → Allowed r → valued (sheet_fields (raw_of r)) ≡ got r []
valued_there r a =
    let g : T (grammar (sheet_fields (raw_of r))) = grammar_there (raw_of r) (record_shape r a.fits) in
    pick_yes (grammar (sheet_fields (raw_of r))) _ _ g ∙ ap record_from (sheet_there (raw_of r)) ∙ values_there r (record_right r a.fits)

pub sheet_read : (r : Record) → Allowed r → read_sheet (sheet_of r) ≡ got r []
unfolding read_sheet sheet_of
sheet_read r a =
    rw (value_there fields (sheet_fields (raw_of r)) (fields_fit (sheet_fields (raw_of r)) (record_fields r a.fits)), valued_there r a)
    (pick_yes (leb (size r) most_bytes) _ _ (le→leb (size r) most_bytes a.small))

pub read_sheet_lem : (sheet : List ℕ) (r : Record) (q : Bits) → All Byte sheet → read_sheet sheet ≡ got r q → Allowed r × (sheet ≡ sheet_of r) × (q ≡ [])
unfolding read_sheet sheet_of
read_sheet_lem sheet r q b p =
    next_got (fields.dec (bits_of sheet)) _ p λ fs q1 e1 h1.
    next_got (valued fs) _ h1 λ x q2 e2 h2.
    let (l, u, z) = pick_got (leb (size x) most_bytes) x [] too_long _ h2 in
    let (f, g) = value_back fields sheet fs q1 b e1 in
    pick_split (grammar fs) _ _ e2
    (λ t k. let (s, sh) = grammar_back fs t in
    let (rv, w) = values_back (sheet_in fs) x q2 (rw s at (fit_fields fs f)) k in
    let a : Allowed x = record_allowed x rv (rw w at sh) (leb→le (size x) most_bytes l) in
    rw (← u) (a, g ∙ ap (λ (y : List Field). in_bytes (fields.enc y)) (s ∙ ap sheet_fields w), sym z))
    (λ t k. not_got k)
