-- The new record's bytes around the new part: both records have the same before it, but for the record length, and the same behind it.
use mathlib.Core.Path.{◌≡◌, sym, ap, ap₂, ◌∙◌}
use Prim.Native.Nat.{ℕ, ◌+◌, ◌-◌}
use native.Mathlib.Omega.{arith}
use mathlib.Core.List.{List, [], ◌++◌, append_assoc}
use lib.ListN.{length, take, drop, length-append}
use lib.Seq.{take_at, drop_at}
use Rattle.bits.specs.Lists.{All}
use Rattle.bits.specs.Bytes.{Byte}
use Rattle.bits.specs.Codec.{got}
use Rattle.put_bytes.specs.HighFirst.{two}
use Rattle.format.specs.Record.{Record, read}
use Rattle.format.proofs.Laws.Record.{read_back}
use Rattle.find_parts.specs.Stored.{record_out}
use Rattle.find_parts.proofs.Laws.Apart.{ahead}
use Rattle.find_parts.proofs.Laws.Written.{written}
use Rattle.put_record.specs.Head.{head_of}

-- an accepted record is what is stored of it
pub is_stored : {s : List ℕ} {r : Record} → All Byte s → read s ≡ got r [] → s ≡ record_out r
is_stored {s} {r} f e = let (a, b, _) = read_back s r [] f e in b ∙ written r a

-- s is a record of m bytes: what stands before its view i, then x, b and c; `from` is where b starts, `to` where it ends
pub record Around (r : Record) (i m : ℕ) (s x b c : List ℕ) (from to : ℕ) : Type 0 where
  pub is : s ≡ ahead r i m ++ (x ++ (b ++ c))
  pub start : length (ahead r i m) + length x ≡ from
  pub end : from + length b ≡ to

module _ {r : Record} {i m : ℕ} {s x b c : List ℕ} {from to : ℕ} (p : Around r i m s x b c from to) where
  -- its first bytes, in a record of n bytes
  pub head_same : (n : ℕ) → head_of s from n ≡ ahead r i n ++ x
  head_same n =
      -- from the device to b
      let middle : List ℕ = drop 12 (ahead r i m) ++ x in
      let l : length middle ≡ from - 12 = omega (arith, length-append (drop 12 (ahead r i m)) x, p.start) in
      let e : drop 12 s ≡ middle ++ (b ++ c) = ap (drop 12) p.is ∙ sym (append_assoc (drop 12 (ahead r i m)) x (b ++ c)) in
      ap₂ (λ (h k : List ℕ). (h ++ two n) ++ take (from - 12) k) (ap (take 10) p.is) e
      ∙ ap (λ (k : List ℕ). (take 10 (ahead r i m) ++ two n) ++ k) (take_at middle (b ++ c) (from - 12) l)

  pub head_long : (n : ℕ) → length (head_of s from n) ≡ from
  head_long n = ap length (head_same n) ∙ length-append (ahead r i n) x ∙ p.start

  pub tail_same : drop to s ≡ c
  tail_same =
      let front : List ℕ = (ahead r i m ++ x) ++ b in
      let e : s ≡ front ++ c = p.is ∙ sym (append_assoc (ahead r i m) x (b ++ c)) ∙ sym (append_assoc (ahead r i m ++ x) b c) in
      let l : length front ≡ to = omega (arith, length-append (ahead r i m ++ x) b, length-append (ahead r i m) x, p.start, p.end) in
      ap (drop to) e ∙ drop_at front c to l

  -- with y for b
  pub spliced : (n : ℕ) (y : List ℕ) → ahead r i n ++ (x ++ (y ++ c)) ≡ (head_of s from n ++ y) ++ drop to s
  spliced n y =
      sym (append_assoc (ahead r i n) x (y ++ c)) ∙ sym (append_assoc (ahead r i n ++ x) y c)
      ∙ ap₂ (λ (h k : List ℕ). (h ++ y) ++ k) (sym (head_same n)) (sym tail_same)
