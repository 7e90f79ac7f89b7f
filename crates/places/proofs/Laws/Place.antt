-- What the place of a refused record shows: whatever is as long and agrees up to the reach behind the place is refused alike.
use mathlib.Core.Path.{◌≡◌, sym, ap, ◌∙◌}
use Prim.Native.Nat.{ℕ, suc, ◌+◌, ◌-◌, ◌*◌}
use native.Mathlib.Omega.{arith}
use native.Mathlib.Nat.{le_refl}
use mathlib.Core.Bool.{Bool}
use mathlib.Core.List.{List, [], ◌∷◌}
use lib.ListN.{length}
use Rattle.bits.specs.Choice.{within}
use Rattle.bits.specs.ChoiceLaws.{pick_yes, pick_no, pick_split}
use Rattle.bits.specs.Bits.{Bits}
use Rattle.bits.specs.Bytes.{bits_of}
use Rattle.bits.specs.BytesLaws.{length_bits_of}
use Rattle.bits.specs.Codec as C
use Rattle.bits.proofs.Laws.Refuses.{Refusal, accepted, by, refused_by}
use Rattle.outcome.specs.Refusals.{bytes_over}
use Rattle.format.specs.Limits.{least_bytes, most_bytes}
use Rattle.format.specs.Record.{record_of, all_of, read}
use Rattle.places.specs.Reach.{reach, Agree, RefusedAlike}
use Rattle.places.proofs.Laws.Settles.{Settled, Settles, same_alike, path_alike, next_settles}
use Rattle.places.proofs.Laws.Format.{record_settles}

-- nothing may be left: that goes by how much there is
all_settles : {A : Type 0} (a : A) → Settles (all_of a)
all_settles a = record { at = go }
  where
    over : (s t : Bits) → suc (length s) ≡ length t → all_of a t ≡ C.refused bytes_over (suc (length s))
    over s [] k = absurd (omega arith)
    over s (b ∷ t) k = ap (C.refused bytes_over) (sym k)

    go : (s : Bits) → Refusal (Settled (all_of a) s) (all_of a s)
    go [] = accepted
    go (b ∷ s) = by {l = suc (length s)} (record { inside = le_refl (suc (length s)); alike = λ t n k same far. same_alike (over s t k) })

pub read_alike : (a b : List ℕ) (e left : ℕ) → read a ≡ C.refused e left → Agree (8 * length a - left + reach e) a b → RefusedAlike e left (read b)
unfolding read
read_alike a b e left p same =
    let n : ℕ = length a in
    let t : Bool = within least_bytes most_bytes n in
    let k : length b ≡ n = sym same.long in
    rw k (pick_split t _ _ p
    (λ y q.
    let x = refused_by ((next_settles (record_of n) (record_settles n) (λ r _. all_settles r)).at (bits_of a)) q in
    let u : length (bits_of a) ≡ 8 * n = length_bits_of a in
    let v : length (bits_of a) ≡ length (bits_of b) = u ∙ ap (λ (m : ℕ). 8 * m) same.long ∙ sym (length_bits_of b) in
    path_alike (pick_yes t _ _ y) (x.alike (bits_of b) (8 * n - left + reach e) v same.bits (omega (arith, x.inside))))
    (λ y q. same_alike (pick_no t _ _ y ∙ q)))
