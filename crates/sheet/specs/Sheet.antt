-- A record's sheet, and the record that a sheet gives: fields, grammar over the whole sheet (21), values over the whole sheet
-- (22), the record's length (19). The two calls of the sheet stand at the end.
use Rattle.std.specs.Prelude.{ℕ, Bool, List, [], ◌∷◌, leb}
use Rattle.std.proofs.Math.Option.{Option, none, some, map}
use Rattle.bits.specs.Choice.{pick}
use Rattle.bits.specs.Bytes.{bits_of, in_bytes}
use Rattle.bits.specs.Codec.{Read, got, refused, next}
use Rattle.bits.specs.Block.{Block}
use Rattle.outcome.specs.Refusals.{bad_sheet, too_long}
use Rattle.outcome.specs.Outcome as O
use Rattle.outcome.specs.Outcome.{Outcome}
use Rattle.format.specs.Limits.{most_bytes}
use Rattle.format.specs.Index.{Index, up}
use Rattle.format.specs.View.{View, occurs}
use Rattle.format.specs.Record.{Record, tell_seen, size, write}
use Rattle.format.specs.Call.{on_record}
use Rattle.format.specs.declared.Widths.{Widths}
use Rattle.sheet.specs.Fields.{fields}
use Rattle.sheet.specs.Grammar.{RawView, RawSheet, sheet_fields, sheet_in, grammar}
use Rattle.sheet.specs.Values.{header_value, view_head_value, line_value, width_value, list_value, segment_value}

-- ---- values, each by its block; i is what the values before say, and m tells it one more

module _ {A I : Type 0} (b : I → Block A) (m : I → A → I) where
  abbrev pub each_enc : I → List A → List (List ℕ)
  each_enc i [] = []
  each_enc i (x ∷ xs) = in_bytes ((b i).enc x) ∷ each_enc (m i x) xs

  abbrev pub each_dec : I → List (List ℕ) → Read Bool (List A)
  each_dec i [] = got [] []
  each_dec i (v ∷ vs) = next ((b i).dec (bits_of v)) (λ x r. next (each_dec (m i x) vs) (λ xs q. got (x ∷ xs) q))

-- nothing is told
abbrev pub alike : {A : Type 0} → Unit {0} → A → Unit {0}
alike u x = tt

-- ---- a record's sheet

abbrev pub raw_index : Index → List ℕ × List (List ℕ)
raw_index i = (in_bytes (width_value.enc i.width), each_enc (list_value i.width) up 0 i.lists)

unfoldable pub raw_view : Widths → List ℕ → View → RawView
raw_view w seen v =
    record {
      head = in_bytes ((view_head_value (λ p. occurs p seen)).enc v.head);
      lines = each_enc (λ _. line_value w) alike tt v.lines;
      index = map raw_index v.index;
      segments = each_enc (λ _. segment_value) alike tt v.segments;
    }

abbrev pub raw_views : Widths → List ℕ → List View → List RawView
raw_views w seen [] = []
raw_views w seen (v ∷ vs) = raw_view w seen v ∷ raw_views w (tell_seen seen v) vs

unfoldable pub raw_of : Record → RawSheet
raw_of r = record { head = in_bytes (header_value.enc r.head); views = raw_views r.head.scale.widths [] r.views }

unfoldable pub sheet_of : Record → List ℕ
sheet_of r = in_bytes (fields.enc (sheet_fields (raw_of r)))

-- ---- the record that a sheet gives

abbrev pub index_from : Option (List ℕ × List (List ℕ)) → Read Bool (Option Index)
index_from none = got none []
index_from (some (w, ls)) =
    next (width_value.dec (bits_of w)) (λ n r. next (each_dec (list_value n) up 0 ls) (λ xs q. got (some (record { width = n; lists = xs })) []))

unfoldable pub view_from : Widths → List ℕ → RawView → Read Bool View
view_from w seen v =
    next ((view_head_value (λ p. occurs p seen)).dec (bits_of v.head)) λ h r1.
    next (each_dec (λ _. line_value w) alike tt v.lines) λ ls r2.
    next (index_from v.index) λ i r3.
    next (each_dec (λ _. segment_value) alike tt v.segments) λ gs r4.
    got (record { head = h; lines = ls; index = i; segments = gs }) []

abbrev pub views_from : Widths → List ℕ → List RawView → Read Bool (List View)
views_from w seen [] = got [] []
views_from w seen (v ∷ vs) = next (view_from w seen v) (λ x r. next (views_from w (tell_seen seen x) vs) (λ xs q. got (x ∷ xs) []))

unfoldable pub record_from : RawSheet → Read Bool Record
record_from s =
    next (header_value.dec (bits_of s.head)) λ h r1.
    next (views_from h.scale.widths [] s.views) λ vs r2.
    got (record { head = h; views = vs }) []

-- "A sheet: 21 over the whole sheet, 22 over the whole sheet, 19"
unfoldable pub read_sheet : List ℕ → Read Bool Record
read_sheet sheet =
    next (fields.dec (bits_of sheet)) λ fs r1.
    next (pick (grammar fs) (record_from (sheet_in fs)) (refused bad_sheet 0)) λ r r2.
    pick (leb (size r) most_bytes) (got r []) (refused too_long 0)

-- ---- the calls; 20 comes with the room that is lent

unfoldable pub reading : List ℕ → Outcome ℕ
reading = on_record (λ r. O.given (sheet_of r))

-- no refusal of a sheet has a place
abbrev pub writes : Read Bool Record → Outcome ℕ
writes (got r rest) = O.given (write r)
writes (refused e left) = O.refused e 0

unfoldable pub writing : List ℕ → Outcome ℕ
writing sheet = writes (read_sheet sheet)
