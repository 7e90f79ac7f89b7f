-- The numbers a call gives, with the words of documents 01 and 02. Every definition that refuses uses the name that stands here.
use Rattle.std.specs.Prelude.{ℕ}

-- 1: under 24 or over 32,768 bytes
abbrev pub bad_size : ℕ
bad_size = 1

-- 2: identifier
abbrev pub bad_identifier : ℕ
bad_identifier = 2

-- 3: version
abbrev pub bad_version : ℕ
bad_version = 3

-- 4: stated length is not the lent length
abbrev pub bad_length : ℕ
bad_length = 4

-- 5: another header field outside its range
abbrev pub bad_header : ℕ
bad_header = 5

-- 6: a view header, a length field or a block passes the end
abbrev pub past : ℕ
past = 6

-- 7: a view header's value
abbrev pub bad_view : ℕ
bad_view = 7

-- 8: a line doesn't fit its block, or padding isn't zero
abbrev pub bad_line : ℕ
bad_line = 8

-- 9: 1,024 lines read and 8 or more bits left
abbrev pub too_many_lines : ℕ
too_many_lines = 9

-- 10: an index rule broken
abbrev pub bad_index : ℕ
bad_index = 10

-- 11: a segment length under 4 or past its block, or 1 to 3 bytes over
abbrev pub bad_segment : ℕ
bad_segment = 11

-- 12: bytes after the last view
abbrev pub bytes_over : ℕ
bytes_over = 12

-- 13: no view has that finger position and view number
abbrev pub no_view : ℕ
no_view = 13

-- 14: line count differs
abbrev pub other_count : ℕ
other_count = 14

-- 15: removal list empty, not rising, or a line number not below the count
abbrev pub bad_lines : ℕ
bad_lines = 15

-- 16: removal in a view that has a segment of another type than local quality and pores
abbrev pub extended : ℕ
extended = 16

-- 17: pair order in a view without an index
abbrev pub no_index : ℕ
no_index = 17

-- 18: join of neighbours, part of two that are not
abbrev pub already_so : ℕ
already_so = 18

-- 19: result over 32,768 bytes
abbrev pub too_long : ℕ
too_long = 19

-- 20: the lent output is too short
abbrev pub no_room : ℕ
no_room = 20

-- 21: sheet: tag, order or length of a field; no views or over 255; over 1,024 lines; field cut; number of 05s
abbrev pub bad_sheet : ℕ
bad_sheet = 21

-- 22: sheet: a value not right
abbrev pub bad_value : ℕ
bad_value = 22

-- 23: no segment with that place
abbrev pub no_segment : ℕ
no_segment = 23

-- 24: a segment of another type than local quality, or a payload or values to be written that break its rules
abbrev pub bad_quality : ℕ
bad_quality = 24

-- 25: a list of pairs that is empty or has another shape
abbrev pub bad_pairs : ℕ
bad_pairs = 25

-- 26: a segment of another type than pores, or a payload or numbers to be written that break their rules; a removal that meets such a
-- payload
abbrev pub bad_pores : ℕ
bad_pores = 26

-- 27: card: a size number other than 0 and 1, or bytes that are no template 7F2E with object 90 first in it
abbrev pub bad_object : ℕ
bad_object = 27

-- 28: card: points per cm, widths, steps or N of the record are not the size's
abbrev pub other_scale : ℕ
other_scale = 28

-- 29: a run that falls, starts above 255, rises by over 255 in a step or has an odd length; or low bytes of which a coordinate would pass
-- 65,535
abbrev pub bad_run : ℕ
bad_run = 29

-- 30: rule number not 1 or 2
abbrev pub no_rule : ℕ
no_rule = 30

-- 31: b below the rule
abbrev pub below_rule : ℕ
below_rule = 31
