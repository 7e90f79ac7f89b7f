-- Lists that agree in their first elements: what follows a front that they share.
use mathlib.Core.Path.{◌≡◌, refl, sym, ap, ◌∙◌}
use Prim.Native.Nat.{ℕ, zero, suc, ◌+◌, ◌-◌, ◌≤◌}
use native.Mathlib.Omega.{arith}
use mathlib.Core.List.{List, [], ◌∷◌, ◌++◌}
use lib.ListN.{length, take, drop, length-append, take-append-drop}
use lib.Seq.{take-nil, take_at, drop_at, take-add, take-append-add, length-take-le}

module _ {A : Type 0} where
  -- fronts that are as long are equal, and so is what follows
  pub append_front : (p q u v : List A) → length p ≡ length q → p ++ u ≡ q ++ v → p ≡ q
  append_front p q u v l e = sym (take_at p u (length q) l) ∙ ap (take (length q)) e ∙ take_at q v (length q) refl

  pub append_rest : (p q u v : List A) → length p ≡ length q → p ++ u ≡ q ++ v → u ≡ v
  append_rest p q u v l e = sym (drop_at p u (length q) l) ∙ ap (drop (length q)) e ∙ drop_at q v (length q) refl

  -- t starts with p too; behind it the two agree in m elements
  pub record Shares (p r t : List A) (m : ℕ) : Type 0 where
    pub rest : List A
    pub is : t ≡ p ++ rest
    pub long : length r ≡ length rest
    pub same : take m r ≡ take m rest

  pub shares : (p r t : List A) (n : ℕ) → length p ≤ n → length (p ++ r) ≡ length t → take n (p ++ r) ≡ take n t → Shares p r t (n - length p)
  shares p r t n h l e =
      let k : ℕ = length p in
      let m : ℕ = n - k in
      let z : n ≡ k + m = omega arith in
      let all : k + length r ≡ length t = sym (length-append p r) ∙ l in
      let front : length (take k t) ≡ k = length-take-le k t (omega arith) in
      let both : p ++ take m r ≡ take k t ++ take m (drop k t) = sym (take-append-add p r m) ∙ rw z at e ∙ take-add k m t in
      let is : t ≡ p ++ drop k t =
      sym (take-append-drop k t) ∙ ap (λ (x : List A). x ++ drop k t) (sym (append_front p (take k t) _ _ (sym front) both)) in
      record {
        rest = drop k t;
        is = is;
        long = let y : length t ≡ k + length (drop k t) = ap length is ∙ length-append p (drop k t) in omega arith;
        same = append_rest p (take k t) _ _ (sym front) both;
      }

  pub take_both : (n m : ℕ) (s : List A) → take n (take m s) ≡ take m (take n s)
  take_both zero m s = sym (take-nil m)
  take_both (suc n) zero s = refl
  take_both (suc n) (suc m) [] = refl
  take_both (suc n) (suc m) (x ∷ s) = ap (λ (l : List A). x ∷ l) (take_both n m s)
