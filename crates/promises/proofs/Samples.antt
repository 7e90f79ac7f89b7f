-- P1 to P11, computed.
use mathlib.Core.Path.{◌≡◌, refl}
use mathlib.Core.List.{map}
use Rattle.bits.specs.Bits.{number_of_bits, bits_of_number}
use Rattle.bits.specs.Bytes.{bits_of, bytes_of}
use Rattle.bits.specs.Codec.{then_dec, via_dec, only_dec, judged_dec, whole_dec, room_dec}
use Rattle.bits.specs.Block.{ended_dec, sized_dec, ahead_dec, pass_dec, recast_dec}
use Rattle.format.specs.Limits.{most_lines, least_bytes, most_bytes}
use Rattle.format.specs.Line.{end, line, skeleton}
use Rattle.format.specs.Index.{index, index_block}
use Rattle.format.specs.Segments.{segment, segments}
use Rattle.format.specs.View.{view, view_header}
use Rattle.format.specs.Record.{header, views, record_of, read, size, write}
use Rattle.format.specs.Call.{on_record, on_view}
use Rattle.sheet.specs.Fields.{tagged, fields}
use Rattle.sheet.specs.Grammar.{grammar}
use Rattle.sheet_codes.specs.Code.{sign_extended}
use Rattle.sheet.specs.Values.{header_value, view_head_value, line_value, width_value, list_value, segment_value}
use Rattle.sheet.specs.Sheet.{raw_view, raw_of, sheet_of, view_from, record_from, read_sheet, reading, writing}
use Rattle.trail.specs.Trail.{trail, trailing}
use Rattle.pores.specs.Keep.{keep_segments, all_pores_right}
use Rattle.orders.specs.Least.{least_width}
use Rattle.orders.specs.Act.{near, after}
use Rattle.orders.specs.Order.{edited, tests, all_tests, verdict, order}
use Rattle.promises.specs.Samples.{result, expected, computed, table}

pub samples : map computed table ≡ map expected table
unfolding number_of_bits bits_of_number bits_of bytes_of then_dec via_dec only_dec judged_dec whole_dec room_dec ended_dec sized_dec ahead_dec pass_dec recast_dec most_lines least_bytes most_bytes end line skeleton index index_block segment segments view view_header header views record_of read size write on_record on_view tagged fields grammar header_value view_head_value line_value width_value list_value segment_value raw_view raw_of sheet_of view_from record_from read_sheet reading writing trail trailing least_width near after edited keep_segments all_pores_right tests all_tests verdict order sign_extended result
samples = refl
