-- What an array's `map` makes, where the closure computes a function and stays as it is.
use Rattle.std.proofs.Common.{◌≡◌, ℕ, zero, suc, ◌+◌, ◌<◌, List, get_or, map, length, refl, sym, ap, ◌∙◌, subst, arith, add-zero, zero-add}
use lib.ListN.{length-map}
use Rattle.std.proofs.lemmas.List.{same_lists, get_or-map}
use Rattle.std.specs.Array.{MapsFrom, IsMapOf}
use denote.Param.Members.{Mut, Called}

module _ {F A B : Type 0} (g : Mut F (A × Unit {0}) B) (h : A → B) (f : F) (step : (x : A) (y : B) (q : F) → Called g f (x, tt) y q → (q ≡ f) × (y ≡ h x)) (d : A) (xs : List A) (ys : List B) where
  each_is : (n i : ℕ) (p : F) → p ≡ f → MapsFrom g p xs ys i n → (k : ℕ) (e : B) → k < n → get_or ys (i + k) e ≡ h (get_or xs (i + k) d)
  each_is zero i p same is k e l = absurd (omega arith)
  each_is (suc n) i p same (q, x, y, at_x, at_y, call, rest) zero e l =
      let called = step x y q (subst (λ r. Called g r (x, tt) y q) same call) in
      let here : get_or ys i e ≡ h (get_or xs i d) = at_y.1 e ∙ called.1 ∙ ap h (sym (at_x.1 d)) in
      subst (λ j. get_or ys j e ≡ h (get_or xs j d)) (sym (add-zero i)) here
  each_is (suc n) i p same (q, x, y, at_x, at_y, call, rest) (suc k) e l =
      let called = step x y q (subst (λ r. Called g r (x, tt) y q) same call) in
      let next : (i + 1) + k ≡ i + suc k = omega arith in
      subst (λ j. get_or ys j e ≡ h (get_or xs j d)) next (each_is n (i + 1) q called.0 rest k e (omega arith))

  pub mapped : (n : ℕ) → length xs ≡ n → IsMapOf g f xs ys n → ys ≡ map h xs
  mapped n long is =
      same_lists ys (map h xs) (is.long ∙ sym long ∙ sym (length-map xs h))
      (λ k e l. subst (λ j. get_or ys j e ≡ h (get_or xs j d)) (zero-add k) (each_is n 0 f refl is.each k e (omega (arith, is.long))) ∙ sym (get_or-map h xs k d e (omega (arith, is.long))))
