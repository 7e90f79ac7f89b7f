-- A record that was read, taken apart: its header's bits, and its views behind them.
use mathlib.Core.Path.{◌≡◌, ap, ◌∙◌, subst}
use Prim.Native.Nat.{ℕ, ◌≤◌}
use mathlib.Core.List.{List, [], ◌++◌}
use lib.ListN.{length, drop, length-append}
use lib.Seq.{drop_at}
use Rattle.bits.specs.Choice.{within}
use Rattle.bits.specs.ChoiceLaws.{pick_split, within_low, within_high}
use Rattle.bits.specs.Bits.{Bits}
use Rattle.bits.specs.BitsLaws.{length_bits}
use Rattle.bits.specs.Bytes.{bits_of}
use Rattle.bits.specs.Codec.{got, along_dec}
use Rattle.bits.specs.CodecLaws.{not_got, next_got, along_back}
use Rattle.bits.specs.ExactLaws.{used_up_lem}
use Rattle.bits.proofs.Laws.Apart.{then_got, via_got}
use Rattle.outcome.specs.Refusals.{bytes_over}
use Rattle.format.specs.Limits.{least_bytes, most_bytes}
use Rattle.format.specs.View.{view}
use Rattle.format.specs.Record.{Record, FitsHeader, header, tell_seen, views, record_of, read}
use Rattle.format.specs.declared.Header.{Header}

-- behind x, which starts the bits
pub behind : {s : Bits} (x r : Bits) (n : ℕ) → s ≡ x ++ r → length x ≡ n → drop n s ≡ r
behind x r n e l = ap (drop n) e ∙ drop_at x r n l

header_long : (n m : ℕ) (h : Header) → length ((header n).enc (h, m)) ≡ 192
unfolding header
header_long n m h = simp (length-append, length_bits)

header_fits : (n m : ℕ) (h : Header) → (header n).Fits (h, m) → FitsHeader h
unfolding header
header_fits n m h f = f.1

pub record RecordAt (s : List ℕ) (r : Record) : Type 0 where
  pub low : 24 ≤ length s
  pub short : length s ≤ 32768
  pub fits : FitsHeader r.head
  pub count : ℕ
  pub tail : Bits
  pub head : bits_of s ≡ (header (length s)).enc (r.head, count) ++ tail
  pub views : along_dec (view r.head.scale.widths) tell_seen (length r.views) [] (drop 192 (bits_of s)) ≡ got r.views []

-- what record_of reads, where nothing is left
record_got : (s : List ℕ) {r : Record} → 24 ≤ length s → length s ≤ 32768 → (record_of (length s)).dec (bits_of s) ≡ got r [] → RecordAt s r
unfolding record_of views
record_got s {r} low short d =
    via_got _ _ d λ x d1 e.
    then_got _ _ d1 λ t d2 d3.
    let h : Header = x.0.0 in
    let (f, g) = (header (length s)).back (bits_of s) x.0 t d2 in
    let z : drop 192 (bits_of s) ≡ t = behind ((header (length s)).enc x.0) t 192 g (header_long (length s) x.0.1 h) in
    let m : length x.1 ≡ x.0.1 = (along_back (view h.scale.widths) tell_seen x.0.1 [] t x.1 [] d3).0.0 in
    subst (RecordAt s) e
    (record {
      low = low;
      short = short;
      fits = header_fits (length s) x.0.1 h f;
      count = x.0.1;
      tail = t;
      head = g;
      views = rw (m, z) d3;
    })

pub record_apart : (s : List ℕ) {r : Record} → read s ≡ got r [] → RecordAt s r
unfolding read least_bytes most_bytes
record_apart s {r} p =
    let n : ℕ = length s in
    pick_split (within least_bytes most_bytes n) _ _ p
    (λ t k. next_got ((record_of n).dec (bits_of s)) _ k λ a u e m.
    let (x, y, _) = used_up_lem bytes_over u m in
    record_got s (within_low least_bytes most_bytes n t) (within_high least_bytes most_bytes n t) (rw (x, y) at e))
    (λ t k. not_got k)
