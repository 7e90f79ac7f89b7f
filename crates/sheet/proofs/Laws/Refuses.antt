-- A sheet is refused only by the numbers that document 01 has for it: 21, 22 and 19. The fields, and each value by itself, have
-- this by the kit's laws; of the sheet as a whole only the number is said, since no refusal of a sheet has a place.
use mathlib.Core.Path.{◌≡◌}
use Prim.Native.Nat.{ℕ}
use mathlib.Core.Bool.{Bool, ◌||◌}
use mathlib.Core.Option.{Option, none, some}
use mathlib.Core.List.{List, [], ◌∷◌}
use lib.Dec.{T, leb, eqb}
use Rattle.bits.specs.Bits.{Bits}
use Rattle.bits.specs.Bytes.{bits_of}
use Rattle.bits.specs.Codec.{Read, refused}
use Rattle.bits.specs.Block.{Block}
use Rattle.bits.proofs.Laws.Refuses.{Refusal, accepted, by, Refuses, refused_by, refusal_map, next_refusal, pick_refusal, refusing}
use Rattle.outcome.specs.Refusals.{bad_sheet, bad_value, too_long}
use Rattle.format.specs.Limits.{most_bytes}
use Rattle.format.specs.Index.{up}
use Rattle.format.specs.View.{occurs}
use Rattle.format.specs.Record.{tell_seen, size}
use Rattle.format.specs.declared.Widths.{Widths}
use Rattle.format.proofs.Laws.Refuses.{head_fields_refuses, scale_refuses}
use Rattle.sheet.specs.Fields.{tagged, fields}
use Rattle.sheet.specs.Grammar.{RawView, RawSheet, sheet_in, grammar}
use Rattle.sheet.specs.Values.{header_value, view_head_value, line_value, width_value, list_value, segment_value}
use Rattle.sheet.specs.Sheet.{alike, each_dec, index_from, view_from, views_from, record_from, read_sheet}

abbrev Listed : ℕ → Type 0
Listed e = T (eqb e bad_sheet || eqb e bad_value || eqb e too_long)

-- ---- fields, and each value by itself

fields_refuses : Refuses Listed fields.dec
unfolding fields tagged
fields_refuses = search refusing depth 12

header_refuses : Refuses Listed header_value.dec
unfolding header_value
header_refuses = search (refusing, scale_refuses)

view_head_refuses : (earlier : ℕ → ℕ) → Refuses Listed (view_head_value earlier).dec
unfolding view_head_value
view_head_refuses earlier = search (refusing, head_fields_refuses)

line_refuses : (w : Widths) → Refuses Listed (line_value w).dec
unfolding line_value
line_refuses w = search refusing depth 12

width_refuses : Refuses Listed width_value.dec
unfolding width_value
width_refuses = search refusing

list_refuses : (w l : ℕ) → Refuses Listed (list_value w l).dec
unfolding list_value
list_refuses w l = search refusing

segment_refuses : Refuses Listed segment_value.dec
unfolding segment_value
segment_refuses = search refusing

-- ---- the values of a sheet

-- of a refusal only its number
abbrev Numbered : {A : Type 0} → Read Bool A → Type 0
Numbered o = Refusal (λ e l. Listed e) o

numbered : {A : Type 0} {d : Bits → Read Bool A} → Refuses Listed d → (s : Bits) → Numbered (d s)
numbered h s = refusal_map (λ e l q. q.0) (h.at s)

each_numbered : {A I : Type 0} (b : I → Block A) (m : I → A → I) → ((i : I) → Refuses Listed (b i).dec) → (i : I) (vs : List (List ℕ)) → Numbered (each_dec b m i vs)
each_numbered b m h i [] = accepted
each_numbered b m h i (v ∷ vs) =
    next_refusal (numbered (h i) (bits_of v)) λ x _ _.
    next_refusal (each_numbered b m h (m i x) vs) λ xs _ _. accepted

index_numbered : (o : Option (List ℕ × List (List ℕ))) → Numbered (index_from o)
index_numbered none = accepted
index_numbered (some (w, ls)) =
    next_refusal (numbered width_refuses (bits_of w)) λ n _ _.
    next_refusal (each_numbered (list_value n) up (list_refuses n) 0 ls) λ xs _ _. accepted

view_numbered : (w : Widths) (seen : List ℕ) (v : RawView) → Numbered (view_from w seen v)
unfolding view_from
view_numbered w seen v =
    next_refusal (numbered (view_head_refuses (λ p. occurs p seen)) (bits_of v.head)) λ h _ _.
    next_refusal (each_numbered (λ u. line_value w) alike (λ u. line_refuses w) tt v.lines) λ ls _ _.
    next_refusal (index_numbered v.index) λ i _ _.
    next_refusal (each_numbered (λ u. segment_value) alike (λ u. segment_refuses) tt v.segments) λ gs _ _. accepted

views_numbered : (w : Widths) (seen : List ℕ) (vs : List RawView) → Numbered (views_from w seen vs)
views_numbered w seen [] = accepted
views_numbered w seen (v ∷ vs) =
    next_refusal (view_numbered w seen v) λ x _ _.
    next_refusal (views_numbered w (tell_seen seen x) vs) λ xs _ _. accepted

record_numbered : (s : RawSheet) → Numbered (record_from s)
unfolding record_from
record_numbered s =
    next_refusal (numbered header_refuses (bits_of s.head)) λ h _ _.
    next_refusal (views_numbered h.scale.widths [] s.views) λ vs _ _. accepted

-- ---- the sheet

sheet_numbered : (sheet : List ℕ) → Numbered (read_sheet sheet)
unfolding read_sheet
sheet_numbered sheet =
    next_refusal (numbered fields_refuses (bits_of sheet)) λ fs _ _.
    next_refusal (pick_refusal (grammar fs) (record_numbered (sheet_in fs)) (by tt)) λ r _ _.
    pick_refusal (leb (size r) most_bytes) accepted (by tt)

pub read_sheet_refuses : (sheet : List ℕ) (e left : ℕ) → read_sheet sheet ≡ refused e left → T (eqb e bad_sheet || eqb e bad_value || eqb e too_long)
read_sheet_refuses sheet e left p = refused_by (sheet_numbered sheet) p
