-- WHAT THE LIBRARY PROMISES OF SPLIT WORK: that what operators make of a record does not depend on how they split it. Two removals are
-- one; calls on different views may change places; a join and a part undo each other; and what becomes of a view hangs on nothing
-- outside it but the header's widths. Promises is the front page. The laws are about outcomes, `order` of a removal, a join or a part
-- and `asked` of any call that orders: what is given is the new record's bytes, as they stand in the buffer (`call_gives`), and equal
-- outcomes are, in the same buffer, equal answers and equal buffers (`one_answer` on the front page). They hold whatever else the
-- view holds: an index or none, local quality, pores. Each has an example, computed. The names in statements stand in specs/:
--   bits/specs/Lists, Bytes, Codec   All; Byte; got
--   outcome/specs/Outcome      given, Answers
--   format/specs/Record        Record, read, write
--   format/specs/Places, Named  view_at, with_view; Means
--   orders/specs/Act, Order    LeastWide; Order, order
--   orders/specs/Called        removing, pair_order
--   orders/specs/AnyCall       AnyCall, asked, run_any, AllAccepted
--   orders/specs/Split         count_after, renumbered, Together; view_of, AllOn; narrowed; view_bytes, width_bytes
--   orders/specs/SplitSample   the record of the examples, and what comes of it either way
-- `Answer` is the struct of outcome/src, `ViewName` that of format/src, `take`, `T` and the signs are the toolchain's.
use mathlib.Core.Path.{◌≡◌}
use mathlib.Core.Logic.{◌≢◌}
use Prim.Native.Nat.{ℕ}
use mathlib.Core.Bool.{Bool, not}
use mathlib.Core.List.{List, [], ◌++◌}
use lib.ListN.{take}
use lib.Dec.{T}
use Rattle.bits.specs.Lists.{All}
use Rattle.bits.specs.Bytes.{Byte}
use Rattle.bits.specs.Codec.{got}
use Rattle.outcome.specs.Outcome.{given, Answers}
use Rattle.outcome.specs.declared.Answer.{Answer}
use Rattle.format.specs.Record.{Record, read, write}
use Rattle.format.specs.Places.{view_at, with_view}
use Rattle.format.specs.Named.{Means}
use Rattle.format.specs.declared.ViewName.{ViewName}
use Rattle.orders.specs.Act.{LeastWide}
use Rattle.orders.specs.Order.{Order, order}
use Rattle.orders.specs.Called.{removing, pair_order}
use Rattle.orders.specs.AnyCall.{AnyCall, asked, run_any, AllAccepted}
use Rattle.orders.specs.Split.{count_after, renumbered, Together, view_of, AllOn, narrowed, view_bytes, width_bytes}
use Rattle.orders.specs.SplitSample.{same, in_two, at_once, thinned, first_then_second, second_then_first, both_done, undone, undone_again, joined_again, at_least_width, thinned_here, thinned_there, thinned_first}
use Rattle.orders.proofs.Laws.Calls as CallLaws
use Rattle.orders.proofs.Laws.Removals as RemovalLaws
use Rattle.orders.proofs.Laws.Commute as CommuteLaws
use Rattle.orders.proofs.Laws.Undo as UndoLaws
use Rattle.orders.proofs.Laws.Alone as AloneLaws
use Rattle.orders.proofs.SplitVerdicts as Computed

-- ---- THE CALLS: an accepted call leaves in its buffer what is asked of it
-- (`asked` of a single order is its `order`)

pub call_gives : (q : AnyCall) (bytes : List ℕ) {before after : List ℕ} {a : Answer} → Answers (asked q bytes) before after a → a.number ≡ 0
    → asked q bytes ≡ given (take a.length after)
call_gives = CallLaws.call_gives

-- ---- TWO REMOVALS ARE ONE: set A is the lines rs, set B the lines ss, both by the numbers that they have in the record

-- the removal of rs is accepted. Then that of ss, renumbered, has the outcome of removing both at once: the same bytes, or the same
-- refusal
pub two_removals : (view : ViewName) (n : ℕ) (rs ss both bytes first : List ℕ) → Together n rs ss both → order (removing view n rs) bytes ≡ given first
    → order (removing view (count_after n rs) (renumbered n rs ss)) first ≡ order (removing view n both) bytes
two_removals = RemovalLaws.two_removals

-- and every second removal is such a one: whichever is accepted behind the first, its count is that of the lines that were left, and
-- its lines are some of the record's, renumbered
pub second_removal : (view : ViewName) (n m : ℕ) (rs cs bytes first new : List ℕ) → order (removing view n rs) bytes ≡ given first
    → order (removing view m cs) first ≡ given new → (ss : List ℕ) × (both : List ℕ) × Together n rs ss both × (m ≡ count_after n rs) × (cs ≡ renumbered n rs ss)
second_removal = RemovalLaws.second_removal

-- of five lines: line 1, and then lines 0 and 3, which are 0 and 2 by then; or 0, 1 and 3 at once
pub two_removals_sample : T (same in_two at_once) × (in_two ≡ given thinned)
two_removals_sample = (Computed.removals_same, Computed.removals_give)

-- ---- DIFFERENT VIEWS: one operator is at the view u, another at the view v

-- calls for orders and for lists of pairs, as many as they like: where both ways are accepted throughout, the same bytes hold at the
-- end, whoever came first
pub views_commute : (u v : ViewName) (ps qs : List AnyCall) (bytes : List ℕ) → All Byte bytes → u ≢ v → AllOn u ps → AllOn v qs
    → AllAccepted (ps ++ qs) bytes → AllAccepted (qs ++ ps) bytes → run_any (ps ++ qs) bytes ≡ run_any (qs ++ ps) bytes
views_commute = CommuteLaws.views_commute

-- of two single orders, each accepted on the record: the second has the same outcome either way, the same bytes or the same refusal
pub orders_commute : (o p : Order) (bytes x y : List ℕ) → o.view ≢ p.view → order o bytes ≡ given x → order p bytes ≡ given y → order p x ≡ order o y
orders_commute = CommuteLaws.orders_commute

-- a removal in the first scan; a list of pairs and a removal in the second
pub views_commute_sample : T (same first_then_second second_then_first) × (first_then_second ≡ given both_done)
views_commute_sample = (Computed.views_same, Computed.views_give)

-- ---- JOIN AND PART UNDO EACH OTHER: a join where joins is true, else a part; and then the other of the two, about the same pair

-- an accepted join was of two lines that were not neighbours, an accepted part of two that were. Behind it its opposite is accepted,
-- and gives the record whose view has its least width and is otherwise as it was
pub pair_undone : (view : ViewName) (n a b : ℕ) (joins : Bool) (bytes first : List ℕ) (r : Record) (i : ℕ) → read bytes ≡ got r [] → Means view r i
    → order (pair_order view n a b joins) bytes ≡ given first
    → order (pair_order view n a b (not joins)) first ≡ given (write (with_view r i (narrowed (view_at r i))))
pair_undone = UndoLaws.pair_undone

-- where it had its least width before, the same bytes
pub pair_undone_same : (view : ViewName) (n a b : ℕ) (joins : Bool) (bytes first : List ℕ) (r : Record) (i : ℕ) → read bytes ≡ got r [] → Means view r i
    → order (pair_order view n a b joins) bytes ≡ given first → All Byte bytes → LeastWide (view_at r i)
    → order (pair_order view n a b (not joins)) first ≡ given bytes
pair_undone_same = UndoLaws.pair_undone_same

-- lines 1 and 3 joined and parted, at a width of 3, which becomes 2, and again, where it is 2; lines 2 and 4 parted and joined
pub pair_undone_sample : (undone ≡ given at_least_width) × (undone_again ≡ given at_least_width) × (joined_again ≡ given at_least_width)
pair_undone_sample = (Computed.pair_gives, Computed.pair_same, Computed.pair_joined)

-- ---- A VIEW BY ITSELF: its new bytes depend only on its old bytes, the order and the header's widths

-- two records with equal widths hold the same bytes, `old`, under the name; the same call is accepted on both. Then both hold the same
-- bytes there, `new`, whatever else the records hold, and wherever the views stand
pub view_alone : (q : AnyCall) (a b old x y : List ℕ) → All Byte a → All Byte b → width_bytes a ≡ width_bytes b
    → view_bytes (view_of q) a ≡ given old → view_bytes (view_of q) b ≡ given old → asked q a ≡ given x → asked q b ≡ given y
    → (new : List ℕ) × (view_bytes (view_of q) x ≡ given new) × (view_bytes (view_of q) y ≡ given new)
view_alone = AloneLaws.view_alone

-- the first scan, thinned in its record, and behind a view of the left thumb in another
pub view_alone_sample : T (same thinned_here thinned_there) × (thinned_here ≡ given thinned_first)
view_alone_sample = (Computed.view_same, Computed.view_gives)
