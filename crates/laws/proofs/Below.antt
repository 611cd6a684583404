-- Laws of the small things: equality and order tests, flags as numbers, tests of all numbers below n, tables.
use mathlib.Core.Path.{◌≡◌, refl, sym, ap, ap₂, ◌∙◌}
use mathlib.Core.Bool.{Bool, true, false, cond, true≢false, false≢true}
use mathlib.Core.List.{List, [], ◌∷◌, ◌++◌}
use mathlib.Core.Logic.{◌⊎◌, inl, inr}
use Prim.Native.Nat.{ℕ, zero, suc, ◌-◌, ◌<◌, ◌≤◌}
use native.Mathlib.Omega.{arith}
use lib.Dec.{eqb, ltb}
use lib.ListN.{length}
use borrow.Author.Tests.{eq-eqb, ne_eqb, eqb-true, eqb-false, lt-ltb, le-ltb, ltb-true, ltb-false}
use Rattle.laws.specs.Below.{bit, both, either, all_n, any_n, tab}

pub eqb_sym : (a b : ℕ) → eqb a b ≡ eqb b a
eqb_sym a b = go (eqb a b) refl
  where
    go : (x : Bool) → eqb a b ≡ x → x ≡ eqb b a
    go true e = sym (eq-eqb b a (sym (eqb-true a b e)))
    go false e = sym (ne_eqb b a (λ q. eqb-false a b e (sym q)))

-- the others move up
pub ltb_up : (i st : ℕ) → 0 < st → ltb i (st - 1) ≡ ltb (suc i) st
ltb_up i st h = go (ltb (suc i) st) refl
  where
    go : (x : Bool) → ltb (suc i) st ≡ x → ltb i (st - 1) ≡ x
    go true e = let a : suc i < st = ltb-true (suc i) st e in lt-ltb i (st - 1) (omega arith)
    go false e = let a : st ≤ suc i = ltb-false (suc i) st e in le-ltb i (st - 1) (omega arith)

pub bit_one : (b : Bool) → bit b ≤ 1
bit_one true = omega arith
bit_one false = omega arith

pub all_true : (n : ℕ) (b : ℕ → Bool) → all_n n b ≡ true → (i : ℕ) → i < n → b i ≡ true
all_true zero b h i l = absurd (omega arith)
all_true (suc n) b h i l = go (b n) refl (eqb i n) refl (all_true n b)
  where
    go : (x : Bool) → b n ≡ x → (y : Bool) → eqb i n ≡ y → (all_n n b ≡ true → (j : ℕ) → j < n → b j ≡ true)
        → b i ≡ true
    go true e true q k = ap b (eqb-true i n q) ∙ e
    go true e false q k = let ne : i ≡ n → ⊥ = eqb-false i n q in k (rw e at h) i (omega arith)
    go false e y q k = absurd (false≢true (rw e at h))

pub all_false : (n : ℕ) (b : ℕ → Bool) → all_n n b ≡ false → (i : ℕ) × (i < n) × (b i ≡ false)
all_false zero b h = absurd (true≢false h)
all_false (suc n) b h = go (b n) refl (all_false n b)
  where
    up : (i : ℕ) × (i < n) × (b i ≡ false) → (i : ℕ) × (i < suc n) × (b i ≡ false)
    up p = (p.0, omega arith, p.2)

    go : (x : Bool) → b n ≡ x → (all_n n b ≡ false → (i : ℕ) × (i < n) × (b i ≡ false))
        → (i : ℕ) × (i < suc n) × (b i ≡ false)
    go true e k = up (k (rw e at h))
    go false e k = (n, omega arith, e)

pub both_false : (a b : Bool) → cond a b false ≡ false → (a ≡ false) ⊎ (b ≡ false)
both_false true b e = inr e
both_false false b e = inl refl

pub all_of : (n : ℕ) (b : ℕ → Bool) → ((i : ℕ) → i < n → b i ≡ true) → all_n n b ≡ true
all_of zero b h = refl
all_of (suc n) b h = ap (λ x. cond x (all_n n b) false) (h n (omega arith)) ∙ all_of n b (λ i l. h i (omega arith))

-- a test that matters only where b holds
pub cond_true : (b x : Bool) → cond b x true ≡ true → b ≡ true → x ≡ true
cond_true true x h e = h
cond_true false x h e = absurd (false≢true e)

pub cond_of : (b x : Bool) → (b ≡ true → x ≡ true) → cond b x true ≡ true
cond_of true x h = h refl
cond_of false x h = refl

pub cond_false : (b x : Bool) → cond b x true ≡ false → (b ≡ true) × (x ≡ false)
cond_false true x h = (refl, h)
cond_false false x h = absurd (true≢false h)

pub cond_back : (b x : Bool) → cond b true x ≡ false → (b ≡ false) × (x ≡ false)
cond_back true x h = absurd (true≢false h)
cond_back false x h = (refl, h)

pub both_true : (a b : Bool) → both a b ≡ true → (a ≡ true) × (b ≡ true)
both_true true b e = (refl, e)
both_true false b e = absurd (false≢true e)

pub both_of : (a b : Bool) → a ≡ true → b ≡ true → both a b ≡ true
both_of true b p q = q
both_of false b p q = p

pub either_true : (a b : Bool) → either a b ≡ true → (a ≡ true) ⊎ (b ≡ true)
either_true true b e = inl refl
either_true false b e = inr e

pub either_l : (a b : Bool) → a ≡ true → either a b ≡ true
either_l true b e = refl
either_l false b e = absurd (false≢true e)

pub either_r : (a b : Bool) → b ≡ true → either a b ≡ true
either_r true b e = refl
either_r false b e = e

pub any_true : (n : ℕ) (b : ℕ → Bool) → any_n n b ≡ true → (i : ℕ) × (i < n) × (b i ≡ true)
any_true zero b h = absurd (false≢true h)
any_true (suc n) b h = go (either_true (b n) (any_n n b) h) (any_true n b)
  where
    up : (i : ℕ) × (i < n) × (b i ≡ true) → (i : ℕ) × (i < suc n) × (b i ≡ true)
    up p = (p.0, omega arith, p.2)

    go : (b n ≡ true) ⊎ (any_n n b ≡ true) → (any_n n b ≡ true → (i : ℕ) × (i < n) × (b i ≡ true))
        → (i : ℕ) × (i < suc n) × (b i ≡ true)
    go (inl e) k = (n, omega arith, e)
    go (inr e) k = up (k e)

pub any_of : (n : ℕ) (b : ℕ → Bool) (i : ℕ) → i < n → b i ≡ true → any_n n b ≡ true
any_of zero b i l e = absurd (omega arith)
any_of (suc n) b i l e = go (eqb i n) refl (any_of n b i)
  where
    go : (x : Bool) → eqb i n ≡ x → (i < n → b i ≡ true → any_n n b ≡ true) → either (b n) (any_n n b) ≡ true
    go true q k = either_l (b n) (any_n n b) (ap b (sym (eqb-true i n q)) ∙ e)
    go false q k = let ne : i ≡ n → ⊥ = eqb-false i n q in either_r (b n) (any_n n b) (k (omega arith) e)

pub open_edge : (b x : Bool) → cond b false x ≡ true → (b ≡ false) × (x ≡ true)
open_edge true x e = absurd (false≢true e)
open_edge false x e = (refl, e)

pub all_ext : (n : ℕ) (f g : ℕ → Bool) → ((i : ℕ) → i < n → f i ≡ g i) → all_n n f ≡ all_n n g
all_ext zero f g h = refl
all_ext (suc n) f g h = ap₂ (λ x y. cond x y false) (h n (omega arith)) (all_ext n f g (λ i l. h i (omega arith)))

pub all_yes : (n : ℕ) → all_n n (λ i. true) ≡ true
all_yes zero = refl
all_yes (suc n) = all_yes n

-- ---- choices
pub cond_same : {A : Type 0} (b : Bool) (x : A) → cond b x x ≡ x
cond_same true x = refl
cond_same false x = refl

-- what holds at d holds at c where the two are the same number
pub same_place : {A : Type 0} (f : ℕ → A) (d c : ℕ) {x : A} → f d ≡ x → eqb d c ≡ true → f c ≡ x
same_place f d c h e = ap f (sym (eqb-true d c e)) ∙ h

-- ---- tables
module _ {A : Type 0} where
  pub tab_ext : (n : ℕ) (f g : ℕ → A) → ((i : ℕ) → i < n → f i ≡ g i) → tab n f ≡ tab n g
  tab_ext zero f g h = refl
  tab_ext (suc n) f g h =
      ap₂ {C = List A} (λ x l. x ∷ l) (h 0 (omega arith))
      (tab_ext n (λ i. f (suc i)) (λ i. g (suc i)) (λ i l. h (suc i) (omega arith)))

  -- one more at the end
  pub tab_snoc : (n : ℕ) (f : ℕ → A) → tab (suc n) f ≡ tab n f ++ (f n ∷ [])
  tab_snoc zero f = refl
  tab_snoc (suc n) f = ap {B = List A} (λ l. f 0 ∷ l) (tab_snoc n (λ i. f (suc i)))

  pub length_tab : (n : ℕ) (f : ℕ → A) → length (tab n f) ≡ n
  length_tab zero f = refl
  length_tab (suc n) f = ap suc (length_tab n (λ i. f (suc i)))
