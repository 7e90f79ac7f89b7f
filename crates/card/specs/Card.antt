-- The two calls on a card's object: the record that it makes, and the object that a view makes. "Reading gives a record of one view: 200
-- points per cm (normal) or 100 (compact), zero in bytes 12-13 and the view fields the card lacks." "Refusals: 27, size number (before all
-- others) or object shape, bytes after it included; then 8 to 10 on skeleton and index (places from its start); 28 ..; each before 19 and
-- 20."
use Rattle.std.specs.Prelude.{ℕ, ◌*◌, List, [], ◌∷◌, length, leb}
use Rattle.std.proofs.Math.Option.{Option}
use Rattle.bits.specs.Choice.{pick}
use Rattle.bits.specs.Bytes.{bits_of, in_bytes}
use Rattle.bits.specs.Block.{Block}
use Rattle.bits.specs.ExactLaws.{sifted}
use Rattle.outcome.specs.Refusals.{too_long, other_scale}
use Rattle.outcome.specs.Outcome.{Outcome, refused, given}
use Rattle.format.specs.Limits.{most_bytes}
use Rattle.format.specs.Line.{Line, skeleton}
use Rattle.format.specs.Index.{Index, index_block}
use Rattle.format.specs.View.{View}
use Rattle.format.specs.Record.{Record, write, size}
use Rattle.format.specs.Places.{view_at}
use Rattle.format.specs.Call.{from_read, on_view}
use Rattle.format.specs.declared.Widths.{Widths}
use Rattle.format.specs.declared.Scale.{Scale}
use Rattle.format.specs.declared.ViewName.{ViewName}
use Rattle.card.specs.Object.{any_bytes, Card, card_block}
use Rattle.card.specs.Size.{scale_of, same_scale, in_size}
use Rattle.card.specs.ShapeLaws.{shape_takes}

-- ---- what stands on a card, at some widths

-- its shape: whatever bytes the blocks have
unfoldable pub shape : Block (Card (List ℕ) (List ℕ))
shape = card_block any_bytes (λ _. any_bytes)

-- with the lines and the index
abbrev pub Content : Type 0
Content = Card (List Line) (Option Index)

unfoldable pub content : Widths → Block Content
content w = card_block (skeleton w) (λ lines. index_block (length lines))

-- the shape is judged whole, at place 0, before the blocks are
unfoldable pub card : Widths → Block Content
unfolding shape content
card w = sifted shape (content w) (shape_takes (skeleton w) (λ lines. index_block (length lines)))

-- ---- reading

-- certificates and device, and the view's number, finger position, impression and quality are not on a card
abbrev pub view_of_card : Content → View
view_of_card c =
    record {
      head = record { number = 0; position = 0; impression = 0; quality = 0; width = c.width; height = c.height };
      lines = c.skeleton;
      index = c.index;
      segments = [];
    }

unfoldable pub record_of_card : Scale → Content → Record
record_of_card scale c = record { head = record { device = 0; scale = scale }; views = view_of_card c ∷ [] }

-- "result over 32,768 bytes": 19; else the record's bytes
abbrev pub record_given : Scale → Content → Outcome ℕ
record_given scale c = pick (leb (size (record_of_card scale c)) most_bytes) (given (write (record_of_card scale c))) (refused too_long 0)

unfoldable pub card_read : (size_number : ℕ) → List ℕ → Outcome ℕ
card_read size_number object =
    in_size (scale_of size_number) λ scale. from_read (8 * length object) (record_given scale) ((card scale.widths).dec (bits_of object))

-- ---- writing

-- segments are left behind, and nothing follows 90
abbrev pub card_of_view : View → Content
card_of_view v = record { width = v.head.width; height = v.head.height; skeleton = v.lines; index = v.index; behind = [] }

unfoldable pub object_of : Widths → Content → List ℕ
object_of w c = in_bytes ((card w).enc c)

-- of view i
abbrev pub object_given : Scale → (i : ℕ) → Record → Outcome ℕ
object_given scale i r = pick (same_scale r.head.scale scale) (given (object_of scale.widths (card_of_view (view_at r i)))) (refused other_scale 0)

unfoldable pub card_write : (size_number : ℕ) → ViewName → List ℕ → Outcome ℕ
card_write size_number view bytes = in_size (scale_of size_number) λ scale. on_view view (object_given scale) bytes
