-- Names, computed: the place of the view that each means, on a record of five views of which three are of one finger; and 13 for those
-- that no view has.
use mathlib.Core.Path.{◌≡◌, refl}
use Prim.Native.Nat.{ℕ}
use mathlib.Core.List.{List, [], ◌∷◌, ◌++◌, map}
use lib.ListN.{set}
use Rattle.bits.specs.Bits.{number_of_bits, bits_of_number}
use Rattle.bits.specs.Bytes.{bits_of}
use Rattle.bits.specs.Codec.{then_dec, via_dec, only_dec, judged_dec, whole_dec, room_dec}
use Rattle.bits.specs.Block.{ended_dec, sized_dec}
use Rattle.outcome.specs.Outcome.{Outcome, refused, given}
use Rattle.format.specs.Limits.{most_lines, least_bytes, most_bytes}
use Rattle.format.specs.Line.{end, line, skeleton}
use Rattle.format.specs.Index.{index, index_block}
use Rattle.format.specs.Segments.{segment, segments}
use Rattle.format.specs.View.{view, view_header}
use Rattle.format.specs.Record.{header, views, record_of, read}
use Rattle.format.specs.Named.{named}
use Rattle.format.specs.Call.{on_record, on_view}
use Rattle.format.specs.Sample.{header_a}
use Rattle.format.proofs.Verdicts.{bare_view}

-- right index, left index, right index, unknown, right index
abbrev five : List ℕ
five = set (header_a 94 8) 14 5 ++ bare_view 0 2 ++ bare_view 0 7 ++ bare_view 1 2 ++ bare_view 0 0 ++ bare_view 2 2

pub record Row : Type 0 where
  pub finger : ℕ
  pub number : ℕ
  pub gives : Outcome ℕ

abbrev means : (finger number place : ℕ) → Row
means finger number place = record { finger = finger; number = number; gives = given (place ∷ []) }

abbrev none : (finger number : ℕ) → Row
none finger number = record { finger = finger; number = number; gives = refused 13 0 }

abbrev table : List Row
table =
    means 2 0 0 ∷ means 7 0 1 ∷ means 2 1 2 ∷ means 0 0 3 ∷ means 2 2 4
    -- a number too high; a finger that is not there
    ∷ none 2 3 ∷ none 7 1 ∷ none 0 1 ∷ none 3 0 ∷ none 10 0 ∷ none 11 0
    -- finger and number exchanged; the place for the number
    ∷ none 0 7 ∷ none 1 2 ∷ none 0 2 ∷ none 0 3 ∷ none 2 4
    -- more than 8 bits
    ∷ none 258 1 ∷ none 2 257 ∷ none 258 257 ∷ none 1 258 ∷ none 2 4294967295
    ∷ []

abbrev computed : Row → Outcome ℕ
computed r = on_view (named r.finger r.number) (λ i _. given (i ∷ [])) five

abbrev expected : Row → Outcome ℕ
expected r = r.gives

names : map computed table ≡ map expected table
unfolding number_of_bits bits_of_number bits_of then_dec via_dec only_dec judged_dec whole_dec room_dec ended_dec sized_dec most_lines least_bytes most_bytes end line skeleton index index_block segment segments view view_header header views record_of read on_record on_view
names = refl
