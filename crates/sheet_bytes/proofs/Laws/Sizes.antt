-- How long the parts of a record's sheet are, byte by byte. Each is as long as SheetSize says, so that a judge's count is the
-- room that the sheet takes.
use mathlib.Core.Path.{◌≡◌, refl, ap₂, ◌∙◌}
use Prim.Native.Nat.{ℕ, ◌+◌}
use native.Mathlib.Omega.{arith}
use mathlib.Core.Option.{Option, none, some}
use mathlib.Core.List.{List, [], ◌∷◌}
use lib.ListN.{length, length-append, length-map}
use Rattle.bits.specs.Lists.{total}
use Rattle.format.specs.Line.{Line}
use Rattle.format.specs.Index.{Index}
use Rattle.format.specs.Segments.{Segment}
use Rattle.format.specs.View.{View}
use Rattle.format.specs.Record.{Record}
use Rattle.format.specs.SheetSize.{line_size, list_size, index_size, segment_size, view_size, sheet_size}
use Rattle.sheet_codes.specs.Code.{sign_extended}
use Rattle.put_bytes.proofs.Laws.{twos_length}
use Rattle.put_bytes.specs.HighFirst.{joined}
use Rattle.sheet_bytes.specs.Bytes.{line_bytes, list_bytes, index_bytes, segment_bytes, view_bytes, record_bytes}

pub joined_size : {A : Type 0} (f : A → List ℕ) (g : A → ℕ) → ((x : A) → length (f x) ≡ g x) → (xs : List A) → length (joined f xs) ≡ total g xs
joined_size f g h [] = refl
joined_size f g h (x ∷ xs) = length-append (f x) (joined f xs) ∙ ap₂ (λ (m n : ℕ). m + n) (h x) (joined_size f g h xs)

pub line_size_lem : (k : ℕ) (l : Line) → length (line_bytes k l) ≡ line_size l
line_size_lem k l = omega (arith, length-map l.codes (sign_extended k))

pub list_size_lem : (ns : List ℕ) → length (list_bytes ns) ≡ list_size ns
list_size_lem ns = omega (arith, twos_length ns)

pub index_size_lem : (o : Option Index) → length (index_bytes o) ≡ index_size o
index_size_lem none = refl
index_size_lem (some i) = omega (arith, joined_size list_bytes list_size list_size_lem i.lists)

pub segment_size_lem : (g : Segment) → length (segment_bytes g) ≡ segment_size g
segment_size_lem g = omega arith

pub view_size_lem : (k : ℕ) (v : View) → length (view_bytes k v) ≡ view_size v
view_size_lem k v =
    let ls = joined_size (line_bytes k) line_size (line_size_lem k) v.lines in
    let gs = joined_size segment_bytes segment_size segment_size_lem v.segments in
    let i = index_size_lem v.index in
    simp length-append (omega arith)

pub rendered_size : (r : Record) → length (record_bytes r) ≡ sheet_size r
unfolding record_bytes sheet_size
rendered_size r = omega (arith, joined_size (view_bytes r.head.scale.widths.k) view_size (view_size_lem r.head.scale.widths.k) r.views)
