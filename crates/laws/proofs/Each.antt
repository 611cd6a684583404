-- A property of every element of a list: of lists joined, kept, mapped; and a sum where two values agree on every element.
use mathlib.Core.Path.{◌≡◌, refl, ap₂}
use mathlib.Core.Bool.{Bool, true, false}
use mathlib.Core.List.{List, [], ◌∷◌, ◌++◌}
use Prim.Native.Nat.{ℕ, zero, suc}
use Rattle.laws.specs.Received.{concat_n, keep, flat}
use Rattle.laws.specs.Sums.{CMon, sum_l}
use Rattle.laws.specs.Acyclic.{Each}

module _ {A : Type 0} (P : A → Type 0) where
  pub each_map : (Q : A → Type 0) (xs : List A) → ((x : A) → P x → Q x) → Each P xs → Each Q xs
  each_map Q [] h e = tt
  each_map Q (x ∷ xs) h e = (h x e.0, each_map Q xs h e.1)

  pub each_all : (xs : List A) → ((x : A) → P x) → Each P xs
  each_all [] h = tt
  each_all (x ∷ xs) h = (h x, each_all xs h)

  pub each_append : (xs ys : List A) → Each P xs → Each P ys → Each P (xs ++ ys)
  each_append [] ys a b = b
  each_append (x ∷ xs) ys a b = (a.0, each_append xs ys a.1 b)

  pub each-concat : (k : ℕ) (f : ℕ → List A) → ((i : ℕ) → Each P (f i)) → Each P (concat_n k f)
  each-concat zero f h = tt
  each-concat (suc k) f h = each_append (concat_n k f) (f k) (each-concat k f h) (h k)

  pub each_keep : (b : Bool) (xs : List A) → Each P xs → Each P (keep b xs)
  each_keep true xs h = h
  each_keep false xs h = tt

  pub each_flat : {B : Type 0} (Q : B → Type 0) (f : B → List A) → ((x : B) → Q x → Each P (f x))
      → (xs : List B) → Each Q xs → Each P (flat f xs)
  each_flat Q f h [] e = tt
  each_flat Q f h (x ∷ xs) e = each_append (f x) (flat f xs) (h x e.0) (each_flat Q f h xs e.1)

pub each_ext : {A : Type 0} (M : CMon) (φ ψ : A → M.Car) (xs : List A) → Each (λ x. φ x ≡ ψ x) xs → sum_l M φ xs ≡ sum_l M ψ xs
each_ext M φ ψ [] e = refl
each_ext M φ ψ (x ∷ xs) e = ap₂ M.op e.0 (each_ext M φ ψ xs e.1)
