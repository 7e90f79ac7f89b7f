-- The laws of what is laid: bytes one by one, and blocks one behind the other.
use mathlib.Core.Path.{◌≡◌, refl, sym, ap, ◌∙◌}
use mathlib.Core.List.{List, [], ◌∷◌, ◌++◌, append_assoc, append-nil}
use Prim.Native.Nat.{ℕ, suc, ◌+◌, ◌-◌, ◌*◌, ◌≤◌, ◌<◌}
use native.Mathlib.Nat.{zero-add}
use native.Mathlib.Numerals.{add-one}
use native.Mathlib.Omega.{arith}
use lib.ListN.{length, take, drop, get_or, set, length-append, length-take, length-drop, drop_of_length-le, take-append-drop}
use lib.Seq.{set_split, paste-suc, sets, sets-eq, take_at, drop_at, drop-drop, take_all, length-take-le}
use Rattle.put_bytes.specs.Laid.{Laid}
use Rattle.put_bytes.specs.HighFirst.{two, joined}

-- one more byte of a copy
pub copied_more : (d s : List ℕ) (i : ℕ) → i < length d → i < length s
    → set (take i s ++ drop i d) i (get_or s i 0) ≡ take (i + 1) s ++ drop (i + 1) d
copied_more d s i h k = rw add-one (simp zero-add at (paste-suc d 0 s i 0 (rw zero-add h) k))

-- bytes stored one by one, from the first on; us are the numbers that were meant
pub stored : (d us vs : List ℕ) → length vs ≤ length d → vs ≡ us → sets d 0 vs ≡ us ++ drop (length us) d
stored d us vs h e = sets-eq vs d 0 (omega arith) ∙ rw e (ap (λ (n : ℕ). us ++ drop n d) (zero-add (length us)))

-- ---- one behind the other

-- nothing laid
pub laid_none : (d : List ℕ) → Laid [] d d 0
laid_none d = record { count = refl; is = refl }

-- one number more, stored behind those that are laid
pub laid_one : {d done xs : List ℕ} {a : ℕ} (x : ℕ) → Laid done d xs a → a < length xs → Laid (done ++ x ∷ []) d (set xs a x) (a + 1)
laid_one {d} {done} {xs} {a} x h l =
    let e1 : take a xs ≡ done = ap (take a) h.is ∙ take_at done (drop (length done) d) a (sym h.count) in
    let e2 : drop (suc a) xs ≡ drop (length done + 1) d =
    ap (λ (j : ℕ). drop j xs) (sym (add-one a)) ∙ sym (drop-drop 1 a xs)
    ∙ ap (drop 1) (ap (drop a) h.is ∙ drop_at done (drop (length done) d) a (sym h.count)) ∙ drop-drop 1 (length done) d in
    record {
      count = simp length-append (omega (arith, h.count));
      is = set_split xs a x l ∙ rw (e1, e2) (simp (append_assoc, length-append));
    }

-- a buffer keeps its length
pub laid_same : {new d xs : List ℕ} {a : ℕ} → Laid new d xs a → a ≤ length d → length xs ≡ length d
laid_same h l = ap length h.is ∙ simp (length-append, length-drop) (omega (arith, h.count))

-- the rest of a buffer from a on, lent and given back
abbrev pub lent : List ℕ → ℕ → List ℕ
lent xs a = take (length xs - a) (drop a xs)

abbrev pub back : List ℕ → ℕ → List ℕ → List ℕ
back xs a ys = take a xs ++ (ys ++ drop (length xs - a) (drop a xs))

-- behind what is laid there is room for m more
pub room_behind : {done d xs : List ℕ} {a : ℕ} (m : ℕ) → Laid done d xs a → a + m ≤ length d → m ≤ length (lent xs a)
room_behind {xs = xs} {a = a} m h l =
    let n : length (lent xs a) ≡ length xs - a = simp (length-take, length-drop) (omega arith) in
    omega (arith, n, laid_same h (omega arith))

-- The rest of the buffer is lent from a on, where done ends, and comes back with new at its start: then both are laid. xs is the
-- buffer when it is lent, ys its lent part afterwards.
pub laid_next : {d done new xs ys : List ℕ} {a n : ℕ} → Laid done d xs a → Laid new (lent xs a) ys n
    → Laid (done ++ new) d (back xs a ys) (a + n)
laid_next {d} {done} {new} {xs} {ys} {a} {n} h k =
    let e1 : take a xs ≡ done = ap (take a) h.is ∙ take_at done (drop (length done) d) a (sym h.count) in
    let e2 : drop a xs ≡ drop (length done) d = ap (drop a) h.is ∙ drop_at done (drop (length done) d) a (sym h.count) in
    let l : length (drop a xs) ≤ length xs - a = omega (arith, length-drop a xs) in
    let e3 : drop (length xs - a) (drop a xs) ≡ [] = drop_of_length-le (drop a xs) l in
    let e4 : take (length xs - a) (drop a xs) ≡ drop a xs = take_all (length xs - a) (drop a xs) l in
    record {
      count = simp length-append (omega (arith, h.count, k.count));
      is = rw (e3, k.is, e4, e1, e2) (simp (append-nil, append_assoc, length-append, drop-drop));
    }

-- ---- what is laid last stands between

lent_is : (xs : List ℕ) (a : ℕ) → lent xs a ≡ drop a xs
lent_is xs a = take_all (length xs - a) (drop a xs) (omega (arith, length-drop a xs))

back_is : (xs : List ℕ) (a : ℕ) (ys : List ℕ) → back xs a ys ≡ take a xs ++ ys
back_is xs a ys =
    let l : length (drop a xs) ≤ length xs - a = omega (arith, length-drop a xs) in
    ap (λ (r : List ℕ). take a xs ++ (ys ++ r)) (drop_of_length-le (drop a xs) l) ∙ ap (λ (r : List ℕ). take a xs ++ r) (append-nil ys)

-- New is laid from b on, and then t in front of it, behind what is done: a length that is known only when the rest is laid.
pub laid_between : (t : List ℕ) {d done new xs ys zs : List ℕ} {a b n m : ℕ} → Laid done d xs a → b ≡ a + length t → b ≤ length d → Laid new (lent xs b) ys n
    → Laid t (lent (back xs b ys) a) zs m → Laid (done ++ (t ++ new)) d (back (back xs b ys) a zs) (b + n)
laid_between t {d} {done} {new} {xs} {ys} {zs} {a} {b} {n} h e l k j =
    let r : List ℕ = drop a d in
    let gap : List ℕ = take (length t) r in
    let at : drop (length done) d ≡ r = ap (λ (i : ℕ). drop i d) (sym h.count) in
    let x : xs ≡ done ++ r = h.is ∙ ap (λ (u : List ℕ). done ++ u) at in
    let x2 : xs ≡ (done ++ gap) ++ drop (length t) r = x ∙ ap (λ (u : List ℕ). done ++ u) (sym (take-append-drop (length t) r)) ∙ sym (append_assoc done gap (drop (length t) r)) in
    let g : length gap ≡ length t = length-take-le (length t) r (omega (arith, length-drop a d)) in
    let c : length (done ++ gap) ≡ b = simp length-append (omega (arith, h.count, g)) in
    let y : drop b xs ≡ drop b d = ap (drop b) x2 ∙ drop_at (done ++ gap) (drop (length t) r) b c ∙ drop-drop (length t) a d ∙ ap (λ (i : ℕ). drop i d) (sym e) in
    let z : ys ≡ new ++ drop (length new) (drop b d) = k.is ∙ ap (λ (u : List ℕ). new ++ drop (length new) u) (lent_is xs b ∙ y) in
    let w : back xs b ys ≡ done ++ (gap ++ ys) =
    back_is xs b ys ∙ ap (λ (u : List ℕ). u ++ ys) (ap (take b) x2 ∙ take_at (done ++ gap) (drop (length t) r) b c) ∙ append_assoc done gap ys in
    let v : zs ≡ t ++ ys =
    j.is ∙ ap (λ (u : List ℕ). t ++ drop (length t) u) (lent_is (back xs b ys) a ∙ ap (drop a) w ∙ drop_at done (gap ++ ys) a (sym h.count))
    ∙ ap (λ (u : List ℕ). t ++ u) (drop_at gap ys (length t) g) in
    record {
      count = simp length-append (omega (arith, h.count, k.count));
      is = back_is (back xs b ys) a zs ∙ ap (λ (u : List ℕ). u ++ zs) (ap (take a) w ∙ take_at done (gap ++ ys) a (sym h.count))
          ∙ ap (λ (u : List ℕ). done ++ u) (v ∙ ap (λ (u : List ℕ). t ++ u) z) ∙ last_part done t new h.count e;
    }
  where
    last_part : (done t new : List ℕ) → a ≡ length done → b ≡ a + length t → done ++ (t ++ (new ++ drop (length new) (drop b d))) ≡ (done ++ (t ++ new)) ++ drop (length (done ++ (t ++ new))) d
    last_part done t new p q =
        let i : length (done ++ (t ++ new)) ≡ b + length new = simp length-append (omega arith) in
        rw i (ap (λ (u : List ℕ). done ++ (t ++ (new ++ u))) (drop-drop (length new) b d) ∙ simp append_assoc)

-- ---- lists, one element behind the other

pub joined_append : {A : Type 0} (f : A → List ℕ) (xs ys : List A) → joined f (xs ++ ys) ≡ joined f xs ++ joined f ys
joined_append f [] ys = refl
joined_append f (x ∷ xs) ys = rw (append_assoc, joined_append f xs ys)

pub joined_snoc : {A : Type 0} (f : A → List ℕ) (xs : List A) (x : A) → joined f (xs ++ x ∷ []) ≡ joined f xs ++ f x
joined_snoc f xs x = joined_append f xs (x ∷ []) ∙ ap (λ (r : List ℕ). joined f xs ++ r) (append-nil (f x))

pub twos_length : (ns : List ℕ) → length (joined two ns) ≡ 2 * length ns
twos_length [] = refl
twos_length (n ∷ ns) = omega (arith, twos_length ns)
