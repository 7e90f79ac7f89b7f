-- A card's object, byte by byte: what those lay down who write one. That it is the object of the definitions is a law (Written).
use Rattle.std.specs.Prelude.{ℕ, List, [], ◌∷◌, ◌++◌, length}
use Rattle.put_bytes.specs.HighFirst.{two}
use Rattle.format.specs.Line.{skeleton}
use Rattle.format.specs.Index.{index_block}
use Rattle.format.specs.declared.Widths.{Widths}
use Rattle.find_parts.specs.Stored.{sized_out}
use Rattle.card.specs.LengthParts.{by_form}
use Rattle.card.specs.Card.{Content}

-- a length
abbrev pub length_out : ℕ → List ℕ
length_out n = by_form n (n ∷ []) (0x81 ∷ n ∷ []) (0x82 ∷ two n)

-- the value of object 90: so a view's bytes stand in a record, too, from its width up to the end of its index
abbrev pub value_out : Widths → Content → List ℕ
value_out w c = (two c.width ++ two c.height) ++ (sized_out (skeleton w) c.skeleton ++ sized_out (index_block (length c.skeleton)) c.index)

-- object 90 with this value, and the template with it alone
abbrev pub object90_out : List ℕ → List ℕ
object90_out value = (0x90 ∷ length_out (length value)) ++ value

abbrev pub object_out : List ℕ → List ℕ
object_out value = (two 0x7F2E ++ length_out (length (object90_out value))) ++ object90_out value
