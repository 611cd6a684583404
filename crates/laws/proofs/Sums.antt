-- Laws of sums in a commutative monoid, of sums of numbers, and of maps between monoids.
use mathlib.Core.Path.{◌≡◌, refl, sym, ap, ap₂, ◌∙◌}
use mathlib.Core.Bool.{Bool, true, false}
use mathlib.Core.List.{List, [], ◌∷◌, ◌++◌}
use Prim.Native.Nat.{ℕ, zero, suc, ◌+◌, ◌*◌, ◌<◌, ◌≤◌}
use native.Mathlib.Omega.{arith}
use lib.Dec.{eqb}
use lib.ListN.{length}
use borrow.Author.Tests.{ne_eqb, eqb-true, eqb-false}
use Rattle.laws.specs.Received.{concat_n, keep, flat}
use Rattle.laws.specs.Below.{bit}
use Rattle.laws.specs.Sums.{CMon, pick, sum_n, sum_l, nat_mon, counted, Hom}
use Rattle.laws.proofs.Below.{eqb_sym}

module _ (M : CMon) where
  open M use {Car, op as ◌⊕◌, unit as ε, assoc, comm, unit_l}

  infixl 60 ◌⊕◌
  pub unit_r : (a : Car) → a ⊕ ε ≡ a
  unit_r a = comm a ε ∙ unit_l a

  pub left_comm : (a b c : Car) → a ⊕ (b ⊕ c) ≡ b ⊕ (a ⊕ c)
  left_comm a b c = rw (← (assoc a b c), comm a b, assoc b a c)

  pub mid : (a b c d : Car) → (a ⊕ b) ⊕ (c ⊕ d) ≡ (a ⊕ c) ⊕ (b ⊕ d)
  mid a b c d = simp (assoc, left_comm)

  pub pick_op : (b : Bool) (x y : Car) → pick M b (x ⊕ y) ≡ pick M b x ⊕ pick M b y
  pick_op true x y = refl
  pick_op false x y = sym (unit_l ε)

  pub pick_unit : (b : Bool) → pick M b ε ≡ ε
  pick_unit true = refl
  pick_unit false = refl

  pub pick_swap : (a b : Bool) (x : Car) → pick M a (pick M b x) ≡ pick M b (pick M a x)
  pick_swap true b x = refl
  pick_swap false b x = sym (pick_unit b)

  pub sum_ext : (n : ℕ) (f g : ℕ → Car) → ((i : ℕ) → i < n → f i ≡ g i) → sum_n M n f ≡ sum_n M n g
  sum_ext zero f g h = refl
  sum_ext (suc n) f g h = ap₂ ◌⊕◌ (sum_ext n f g (λ i l. h i (omega arith))) (h n (omega arith))

  pub sum_op : (n : ℕ) (f g : ℕ → Car) → sum_n M n (λ i. f i ⊕ g i) ≡ sum_n M n f ⊕ sum_n M n g
  sum_op zero f g = sym (unit_l ε)
  sum_op (suc n) f g = ap (λ z. z ⊕ (f n ⊕ g n)) (sum_op n f g) ∙ mid (sum_n M n f) (sum_n M n g) (f n) (g n)

  pub sum_unit : (n : ℕ) → sum_n M n (λ i. ε) ≡ ε
  sum_unit zero = refl
  sum_unit (suc n) = ap (λ z. z ⊕ ε) (sum_unit n) ∙ unit_l ε

  pub sum_swap : (n k : ℕ) (f : ℕ → ℕ → Car) → sum_n M n (λ i. sum_n M k (f i)) ≡ sum_n M k (λ j. sum_n M n (λ i. f i j))
  sum_swap zero k f = sym (sum_unit k)
  sum_swap (suc n) k f =
      ap (λ z. z ⊕ sum_n M k (f n)) (sum_swap n k f) ∙ sym (sum_op k (λ j. sum_n M n (λ i. f i j)) (f n))

  pub sum_pick : (n : ℕ) (b : Bool) (f : ℕ → Car) → sum_n M n (λ i. pick M b (f i)) ≡ pick M b (sum_n M n f)
  sum_pick n true f = refl
  sum_pick n false f = sum_unit n

  -- of the picked terms only one is left
  sum_none : (n t : ℕ) (f : ℕ → Car) → n ≤ t → sum_n M n (λ i. pick M (eqb t i) (f i)) ≡ ε
  sum_none zero t f h = refl
  sum_none (suc n) t f h =
      ap₂ (λ z b. z ⊕ pick M b (f n)) (sum_none n t f (omega arith)) (ne_eqb t n (omega arith)) ∙ unit_l ε

  pub sum_at : (n t : ℕ) (f : ℕ → Car) → t < n → sum_n M n (λ i. pick M (eqb t i) (f i)) ≡ f t
  sum_at zero t f h = absurd (omega arith)
  sum_at (suc n) t f h = go (eqb t n) refl (sum_at n t f)
    where
      go : (b : Bool) → eqb t n ≡ b → (t < n → sum_n M n (λ i. pick M (eqb t i) (f i)) ≡ f t)
          → sum_n M n (λ i. pick M (eqb t i) (f i)) ⊕ pick M (eqb t n) (f n) ≡ f t
      go true e k = let q : t ≡ n = eqb-true t n e in rw (e, sum_none n t f (omega arith), unit_l (f n), q)
      go false e k = let d : t ≡ n → ⊥ = eqb-false t n e in rw (e, k (omega arith)) (unit_r (f t))

  pub sum_at' : (n t : ℕ) (f : ℕ → Car) → t < n → sum_n M n (λ i. pick M (eqb i t) (f i)) ≡ f t
  sum_at' n t f h = sum_ext n _ _ (λ i l. ap (λ b. pick M b (f i)) (eqb_sym i t)) ∙ sum_at n t f h

  -- ---- sums of picked terms
  module _ (n : ℕ) (b : ℕ → Bool) where
    pub picked_ext : (f g : ℕ → Car) → ((i : ℕ) → i < n → f i ≡ g i)
        → sum_n M n (λ i. pick M (b i) (f i)) ≡ sum_n M n (λ i. pick M (b i) (g i))
    picked_ext f g h =
        sum_ext n (λ i. pick M (b i) (f i)) (λ i. pick M (b i) (g i)) (λ i l. ap (pick M (b i)) (h i l))

    pub picked_op : (f g : ℕ → Car)
        → sum_n M n (λ i. pick M (b i) (f i ⊕ g i))
        ≡ sum_n M n (λ i. pick M (b i) (f i)) ⊕ sum_n M n (λ i. pick M (b i) (g i))
    picked_op f g = sum_ext n _ _ (λ i l. pick_op (b i) (f i) (g i))
        ∙ sum_op n (λ i. pick M (b i) (f i)) (λ i. pick M (b i) (g i))

  pub picked_swap : (n k : ℕ) (a b : ℕ → Bool) (h : ℕ → ℕ → Car)
      → sum_n M n (λ i. pick M (a i) (sum_n M k (λ j. pick M (b j) (h i j))))
      ≡ sum_n M k (λ j. pick M (b j) (sum_n M n (λ i. pick M (a i) (h i j))))
  picked_swap n k a b h =
      sum_ext n _ _ (λ i l. sym (sum_pick k (a i) (λ j. pick M (b j) (h i j))))
      ∙ sum_swap n k (λ i j. pick M (a i) (pick M (b j) (h i j)))
      ∙ sum_ext k _ _
      (λ j l. sum_ext n _ _ (λ i l'. pick_swap (a i) (b j) (h i j))
      ∙ sum_pick n (b j) (λ i. pick M (a i) (h i j)))

  -- ---- sums over a list
  module _ {A : Type 0} where
    pub sum_l-append : (φ : A → Car) (xs ys : List A) → sum_l M φ (xs ++ ys) ≡ sum_l M φ xs ⊕ sum_l M φ ys
    sum_l-append φ [] ys = sym (unit_l _)
    sum_l-append φ (x ∷ xs) ys = ap (λ z. φ x ⊕ z) (sum_l-append φ xs ys) ∙ sym (assoc _ _ _)

    pub sum_l_one : (φ : A → Car) (x : A) → sum_l M φ (x ∷ []) ≡ φ x
    sum_l_one φ x = unit_r (φ x)

    pub sum_l_ext : (φ ψ : A → Car) (xs : List A) → ((x : A) → φ x ≡ ψ x) → sum_l M φ xs ≡ sum_l M ψ xs
    sum_l_ext φ ψ [] h = refl
    sum_l_ext φ ψ (x ∷ xs) h = ap₂ ◌⊕◌ (h x) (sum_l_ext φ ψ xs h)

    pub sum_l_op : (φ ψ : A → Car) (xs : List A) → sum_l M (λ x. φ x ⊕ ψ x) xs ≡ sum_l M φ xs ⊕ sum_l M ψ xs
    sum_l_op φ ψ [] = sym (unit_l ε)
    sum_l_op φ ψ (x ∷ xs) = ap (λ z. (φ x ⊕ ψ x) ⊕ z) (sum_l_op φ ψ xs) ∙ mid _ _ _ _

    pub sum_l_unit : (xs : List A) → sum_l M (λ x. ε) xs ≡ ε
    sum_l_unit [] = refl
    sum_l_unit (x ∷ xs) = ap (λ z. ε ⊕ z) (sum_l_unit xs) ∙ unit_l ε

    pub sum_l_pick : (b : Bool) (φ : A → Car) (xs : List A) → sum_l M (λ x. pick M b (φ x)) xs ≡ pick M b (sum_l M φ xs)
    sum_l_pick true φ xs = refl
    sum_l_pick false φ xs = sum_l_unit xs

    pub sum_l_keep : (b : Bool) (φ : A → Car) (xs : List A) → sum_l M φ (keep b xs) ≡ pick M b (sum_l M φ xs)
    sum_l_keep true φ xs = refl
    sum_l_keep false φ xs = refl

    -- a sum of sums
    pub sum_l-sum : (n : ℕ) (f : ℕ → A → Car) (xs : List A)
        → sum_l M (λ x. sum_n M n (λ i. f i x)) xs ≡ sum_n M n (λ i. sum_l M (f i) xs)
    sum_l-sum n f [] = sym (sum_unit n)
    sum_l-sum n f (x ∷ xs) =
        ap (λ z. sum_n M n (λ i. f i x) ⊕ z) (sum_l-sum n f xs) ∙ sym (sum_op n (λ i. f i x) (λ i. sum_l M (f i) xs))

    pub sum_l-concat : (φ : A → Car) (n : ℕ) (f : ℕ → List A) → sum_l M φ (concat_n n f) ≡ sum_n M n (λ i. sum_l M φ (f i))
    sum_l-concat φ zero f = refl
    sum_l-concat φ (suc n) f = sum_l-append φ (concat_n n f) (f n) ∙ ap (λ z. z ⊕ sum_l M φ (f n)) (sum_l-concat φ n f)

  -- of lists joined, some of them dropped, as of the inputs of one task among all channels
  pub sum_l_kept : {A : Type 0} (φ : A → Car) (n : ℕ) (b : ℕ → Bool) (f : ℕ → List A)
      → sum_l M φ (concat_n n (λ i. keep (b i) (f i))) ≡ sum_n M n (λ i. pick M (b i) (sum_l M φ (f i)))
  sum_l_kept φ n b f = sum_l-concat φ n (λ i. keep (b i) (f i)) ∙ sum_ext n _ _ (λ i l. sum_l_keep (b i) φ (f i))

  pub sum_l_flat : {A B : Type 0} (φ : B → Car) (f : A → List B) (xs : List A)
      → sum_l M φ (flat f xs) ≡ sum_l M (λ x. sum_l M φ (f x)) xs
  sum_l_flat φ f [] = refl
  sum_l_flat φ f (x ∷ xs) = sum_l-append φ (f x) (flat f xs) ∙ ap (λ z. sum_l M φ (f x) ⊕ z) (sum_l_flat φ f xs)

module _ (M N : CMon) (h : Hom M N) where
  pub hom_pick : (b : Bool) (x : M.Car) → h.map (pick M b x) ≡ pick N b (h.map x)
  hom_pick true x = refl
  hom_pick false x = h.map_unit

  pub hom_sum : (n : ℕ) (f : ℕ → M.Car) → h.map (sum_n M n f) ≡ sum_n N n (λ i. h.map (f i))
  hom_sum zero f = h.map_unit
  hom_sum (suc n) f = h.map_op (sum_n M n f) (f n) ∙ ap (λ z. N.op z (h.map (f n))) (hom_sum n f)

  pub hom_sum_l : {A : Type 0} (φ : A → M.Car) (xs : List A) → h.map (sum_l M φ xs) ≡ sum_l N (λ x. h.map (φ x)) xs
  hom_sum_l φ [] = h.map_unit
  hom_sum_l φ (x ∷ xs) = h.map_op (φ x) (sum_l M φ xs) ∙ ap (λ z. N.op (h.map (φ x)) z) (hom_sum_l φ xs)

pub sum_ge : (n i : ℕ) (f : ℕ → ℕ) → i < n → f i ≤ sum_n nat_mon n f
sum_ge zero i f l = absurd (omega arith)
sum_ge (suc n) i f l = go (eqb i n) refl (sum_ge n i f)
  where
    go : (b : Bool) → eqb i n ≡ b → (i < n → f i ≤ sum_n nat_mon n f) → f i ≤ sum_n nat_mon n f + f n
    go true e k = omega (arith, ap f (eqb-true i n e))
    go false e k = let ne : i ≡ n → ⊥ = eqb-false i n e in omega (arith, k (omega arith))

-- a sum of numbers of which one goes down by one
pub sum_down : (n t : ℕ) (f f' : ℕ → ℕ) → t < n → ((v : ℕ) → v < n → f v ≡ bit (eqb t v) + f' v)
    → sum_n nat_mon n f ≡ suc (sum_n nat_mon n f')
sum_down n t f f' l h =
    let e : sum_n nat_mon n f ≡ sum_n nat_mon n (λ v. bit (eqb t v)) + sum_n nat_mon n f' =
    sum_ext nat_mon n f (λ v. bit (eqb t v) + f' v) h ∙ sum_op nat_mon n (λ v. bit (eqb t v)) f' in
    let one : sum_n nat_mon n (λ v. bit (eqb t v)) ≡ 1 =
    sum_ext nat_mon n _ _ (λ v lv. as_pick (eqb t v)) ∙ sum_at nat_mon n t (λ v. 1) l in
    omega arith
  where
    as_pick : (b : Bool) → bit b ≡ pick nat_mon b 1
    as_pick true = refl
    as_pick false = refl

pub sum_le : (n : ℕ) (f g : ℕ → ℕ) → ((i : ℕ) → i < n → f i ≤ g i) → sum_n nat_mon n f ≤ sum_n nat_mon n g
sum_le zero f g h = omega arith
sum_le (suc n) f g h = omega (arith, sum_le n f g (λ i l. h i (omega arith)), h n (omega arith))

pub pick_le : (b : Bool) (x y : ℕ) → x ≤ y → pick nat_mon b x ≤ pick nat_mon b y
pick_le true x y h = h
pick_le false x y h = omega arith

module _ {R : Type 0} where
  pub sum_l_le : (φ ψ : R → ℕ) (xs : List R) → ((x : R) → φ x ≤ ψ x) → sum_l nat_mon φ xs ≤ sum_l nat_mon ψ xs
  sum_l_le φ ψ [] h = omega arith
  sum_l_le φ ψ (x ∷ xs) h = omega (arith, h x, sum_l_le φ ψ xs h)

  -- a count is a length
  pub sum_l-length : (xs : List R) → counted xs ≡ length xs
  sum_l-length [] = refl
  sum_l-length (x ∷ xs) = omega (arith, sum_l-length xs)

-- where f gives at most one for each
pub counted_flat : {A B : Type 0} (f : A → List B) → ((x : A) → counted (f x) ≤ 1) → (xs : List A)
    → counted (flat f xs) ≤ counted xs
counted_flat f h xs = omega (arith, sum_l_flat nat_mon (λ r. 1) f xs, sum_l_le (λ x. counted (f x)) (λ r. 1) xs h)

pub sum_const : (n k : ℕ) → sum_n nat_mon n (λ i. k) ≡ n * k
sum_const zero k = omega arith
sum_const (suc n) k = omega (arith, sum_const n k)

bit_le : (a b : Bool) → (a ≡ true → b ≡ true) → bit a ≤ bit b
bit_le true b k = omega (arith, ap bit (k refl))
bit_le false b k = omega arith

-- counts: more at one place and no fewer elsewhere
count_le : (n : ℕ) (f g : ℕ → Bool) → ((i : ℕ) → i < n → f i ≡ true → g i ≡ true)
    → sum_n nat_mon n (λ i. bit (f i)) ≤ sum_n nat_mon n (λ i. bit (g i))
count_le zero f g h = omega arith
count_le (suc n) f g h = omega (arith, count_le n f g (λ i l. h i (omega arith)), bit_le (f n) (g n) (h n (omega arith)))

pub count_lt : (n : ℕ) (f g : ℕ → Bool) → ((i : ℕ) → i < n → f i ≡ true → g i ≡ true) → (j : ℕ) → j < n
    → f j ≡ false → g j ≡ true → sum_n nat_mon n (λ i. bit (f i)) < sum_n nat_mon n (λ i. bit (g i))
count_lt zero f g h j l p q = absurd (omega arith)
count_lt (suc n) f g h j l p q = go (eqb j n) refl (count_lt n f g (λ i l. h i (omega arith)) j)
  where
    go : (x : Bool) → eqb j n ≡ x
        → (j < n → f j ≡ false → g j ≡ true → sum_n nat_mon n (λ i. bit (f i)) < sum_n nat_mon n (λ i. bit (g i)))
        → sum_n nat_mon n (λ i. bit (f i)) + bit (f n) < sum_n nat_mon n (λ i. bit (g i)) + bit (g n)
    go true e k = let q₁ : j ≡ n = eqb-true j n e in
        omega (
          arith,
          count_le n f g (λ i l. h i (omega arith)),
          ap (λ x. bit (f x)) q₁,
          ap bit p,
          ap (λ x. bit (g x)) q₁,
          ap bit q,
        )
    go false e k = let ne : j ≡ n → ⊥ = eqb-false j n e in
        omega (arith, k (omega arith) p q, bit_le (f n) (g n) (h n (omega arith)))

pub sum_ones : (k : ℕ) → sum_n nat_mon k (λ i. 1) ≡ k
sum_ones k = omega (arith, sum_const k 1)
