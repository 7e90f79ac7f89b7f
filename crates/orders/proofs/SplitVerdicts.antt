-- The laws of split work, computed on one record: both ways come to the same, and to these bytes. The two facts stand apart, so that of
-- a wrong definition it is seen which law it breaks.
use mathlib.Core.Path.{◌≡◌, refl}
use lib.Dec.{T}
use Rattle.bits.specs.Bits.{number_of_bits, bits_of_number}
use Rattle.bits.specs.Bytes.{bits_of, bytes_of}
use Rattle.bits.specs.Codec.{then_dec, via_dec, only_dec, judged_dec, whole_dec, room_dec}
use Rattle.bits.specs.Block.{ended_dec, sized_dec, ahead_dec, recast_dec}
use Rattle.outcome.specs.Outcome.{given}
use Rattle.format.specs.Limits.{most_lines, least_bytes, most_bytes}
use Rattle.format.specs.Line.{end, line, skeleton}
use Rattle.format.specs.Index.{index, index_block}
use Rattle.format.specs.Segments.{segment, segments}
use Rattle.format.specs.View.{view, view_header}
use Rattle.format.specs.Record.{header, views, record_of, read, size, write}
use Rattle.format.specs.Call.{on_record, on_view}
use Rattle.pores_elements.specs.Before.{marked_dec, closed_dec}
use Rattle.pores.specs.Payload.{pores_block}
use Rattle.pores.specs.Keep.{keep_segments, all_pores_right}
use Rattle.orders.specs.Least.{least_width}
use Rattle.orders.specs.Act.{near, after}
use Rattle.orders.specs.Order.{edited, tests, all_tests, verdict, order}
use Rattle.orders.specs.Listed.{shape_ok}
use Rattle.orders.specs.History.{outcome}
use Rattle.orders.specs.Pairs.{pairs_tests, pairs_verdict, pairs}
use Rattle.orders.specs.Split.{view_bytes}
use Rattle.orders.specs.SplitSample.{same, in_two, at_once, thinned, first_then_second, second_then_first, both_done, undone, at_least_width, undone_again, joined_again, thinned_here, thinned_there, thinned_first}

pub removals_same : T (same in_two at_once)
unfolding number_of_bits bits_of_number bits_of bytes_of then_dec via_dec only_dec judged_dec whole_dec room_dec ended_dec sized_dec ahead_dec recast_dec marked_dec closed_dec pores_block keep_segments all_pores_right most_lines least_bytes most_bytes end line skeleton index index_block segment segments view view_header header views record_of read size write on_record on_view least_width near after edited tests all_tests verdict order shape_ok outcome pairs_tests pairs_verdict pairs view_bytes
removals_same = tt

pub removals_give : in_two ≡ given thinned
unfolding number_of_bits bits_of_number bits_of bytes_of then_dec via_dec only_dec judged_dec whole_dec room_dec ended_dec sized_dec ahead_dec recast_dec marked_dec closed_dec pores_block keep_segments all_pores_right most_lines least_bytes most_bytes end line skeleton index index_block segment segments view view_header header views record_of read size write on_record on_view least_width near after edited tests all_tests verdict order shape_ok outcome pairs_tests pairs_verdict pairs view_bytes
removals_give = refl

pub views_same : T (same first_then_second second_then_first)
unfolding number_of_bits bits_of_number bits_of bytes_of then_dec via_dec only_dec judged_dec whole_dec room_dec ended_dec sized_dec ahead_dec recast_dec marked_dec closed_dec pores_block keep_segments all_pores_right most_lines least_bytes most_bytes end line skeleton index index_block segment segments view view_header header views record_of read size write on_record on_view least_width near after edited tests all_tests verdict order shape_ok outcome pairs_tests pairs_verdict pairs view_bytes
views_same = tt

pub views_give : first_then_second ≡ given both_done
unfolding number_of_bits bits_of_number bits_of bytes_of then_dec via_dec only_dec judged_dec whole_dec room_dec ended_dec sized_dec ahead_dec recast_dec marked_dec closed_dec pores_block keep_segments all_pores_right most_lines least_bytes most_bytes end line skeleton index index_block segment segments view view_header header views record_of read size write on_record on_view least_width near after edited tests all_tests verdict order shape_ok outcome pairs_tests pairs_verdict pairs view_bytes
views_give = refl

pub pair_gives : undone ≡ given at_least_width
unfolding number_of_bits bits_of_number bits_of bytes_of then_dec via_dec only_dec judged_dec whole_dec room_dec ended_dec sized_dec ahead_dec recast_dec marked_dec closed_dec pores_block keep_segments all_pores_right most_lines least_bytes most_bytes end line skeleton index index_block segment segments view view_header header views record_of read size write on_record on_view least_width near after edited tests all_tests verdict order shape_ok outcome pairs_tests pairs_verdict pairs view_bytes
pair_gives = refl

pub pair_same : undone_again ≡ given at_least_width
unfolding number_of_bits bits_of_number bits_of bytes_of then_dec via_dec only_dec judged_dec whole_dec room_dec ended_dec sized_dec ahead_dec recast_dec marked_dec closed_dec pores_block keep_segments all_pores_right most_lines least_bytes most_bytes end line skeleton index index_block segment segments view view_header header views record_of read size write on_record on_view least_width near after edited tests all_tests verdict order shape_ok outcome pairs_tests pairs_verdict pairs view_bytes
pair_same = refl

pub pair_joined : joined_again ≡ given at_least_width
unfolding number_of_bits bits_of_number bits_of bytes_of then_dec via_dec only_dec judged_dec whole_dec room_dec ended_dec sized_dec ahead_dec recast_dec marked_dec closed_dec pores_block keep_segments all_pores_right most_lines least_bytes most_bytes end line skeleton index index_block segment segments view view_header header views record_of read size write on_record on_view least_width near after edited tests all_tests verdict order shape_ok outcome pairs_tests pairs_verdict pairs view_bytes
pair_joined = refl

pub view_same : T (same thinned_here thinned_there)
unfolding number_of_bits bits_of_number bits_of bytes_of then_dec via_dec only_dec judged_dec whole_dec room_dec ended_dec sized_dec ahead_dec recast_dec marked_dec closed_dec pores_block keep_segments all_pores_right most_lines least_bytes most_bytes end line skeleton index index_block segment segments view view_header header views record_of read size write on_record on_view least_width near after edited tests all_tests verdict order shape_ok outcome pairs_tests pairs_verdict pairs view_bytes
view_same = tt

pub view_gives : thinned_here ≡ given thinned_first
unfolding number_of_bits bits_of_number bits_of bytes_of then_dec via_dec only_dec judged_dec whole_dec room_dec ended_dec sized_dec ahead_dec recast_dec marked_dec closed_dec pores_block keep_segments all_pores_right most_lines least_bytes most_bytes end line skeleton index index_block segment segments view view_header header views record_of read size write on_record on_view least_width near after edited tests all_tests verdict order shape_ok outcome pairs_tests pairs_verdict pairs view_bytes
view_gives = refl
