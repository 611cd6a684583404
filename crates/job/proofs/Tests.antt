-- Laws of the tests over the numbers below n: one turn of a loop that tests, or fills a list, and what a test's answer says of each number.
use mathlib.Core.Path.{◌≡◌, refl, ap, ap₂, ◌∙◌, sym}
use mathlib.Core.Bool.{Bool, true, false, ◌||◌, ◌&&◌, true≢false, false≢true}
use mathlib.Core.List.{List, [], ◌∷◌, ◌++◌}
use Prim.Native.Nat.{ℕ, zero, suc, ◌+◌, ◌-◌, ◌<◌, ◌≤◌}
use native.Mathlib.Numerals.{add-one}
use native.Mathlib.Omega.{arith}
use borrow.Author.Tests.{eqb-true, eqb-false}
use lib.Dec.{eqb}
use lib.ListN.{length, get_or, set, replicate, take, drop, length-set, length-replicate}
use lib.Seq.{get_or-set_same, get_or-set_other, take-suc, take-length}
use Rattle.std.proofs.lemmas.List.{append_assoc, length-take-le, drop-set, drop-set-add, set-append_right}
use Rattle.job.specs.Tests.{some, every, filled, sweep, sweeps}
use Rattle.job.proofs.Bools.{both_true, neither}

-- ---- one turn of a loop that has looked at the numbers below i
pub some_more : (p : ℕ → Bool) (i : ℕ) {found x : Bool} → found ≡ some p i → x ≡ p i → found || x ≡ some p (i + 1)
unfolding some
some_more p i f e = rw add-one (ap₂ ◌||◌ f e)

-- ---- one turn of a loop that fills, or sweeps over, a list
module _ {A : Type 0} where
  pub filled_more : (size : ℕ) (d : A) (f : ℕ → A) (i : ℕ) {l : List A} {x : A} → l ≡ filled size d f i → x ≡ f i
      → set l i x ≡ filled size d f (i + 1)
  unfolding filled
  filled_more size d f i e q = rw add-one (ap₂ (λ l x. set l i x) e q)

  pub sweep_more : (anew : List A → ℕ → A) (l₀ : List A) (t : ℕ) {l : List A} {x : A} → l ≡ sweep anew l₀ t → x ≡ anew l t
      → set l t x ≡ sweep anew l₀ (t + 1)
  unfolding sweep
  sweep_more anew l₀ t e q = rw add-one (ap₂ (λ l x. set l t x) e (q ∙ ap (λ l. anew l t) e))

  pub sweeps_more : (anew : List A → ℕ → A) (l₀ : List A) (n k : ℕ) {l r : List A} → l ≡ sweeps anew l₀ n k → r ≡ sweep anew l n
      → r ≡ sweeps anew l₀ n (k + 1)
  unfolding sweeps
  sweeps_more anew l₀ n k e q = rw add-one (q ∙ ap (λ l. sweep anew l n) e)

-- ---- what an answer says of each number
pub some_none : (p : ℕ → Bool) (n : ℕ) → some p n ≡ false → (i : ℕ) → i < n → p i ≡ false
unfolding some
some_none p zero e i l = absurd (omega arith)
some_none p (suc n) e i l = go (eqb i n) refl (neither (some p n) (p n) e) (some_none p n)
  where
    go : (b : Bool) → eqb i n ≡ b → (some p n ≡ false) × (p n ≡ false) → (some p n ≡ false → (i : ℕ) → i < n → p i ≡ false) → p i ≡ false
    go true q f ih = ap p (eqb-true i n q) ∙ f.1
    go false q f ih = let ne : i ≡ n → ⊥ = eqb-false i n q in ih f.0 i (omega arith)

pub some_one : (p : ℕ → Bool) (n : ℕ) → some p n ≡ true → (i : ℕ) × (i < n) × (p i ≡ true)
unfolding some
some_one p zero e = absurd (false≢true e)
some_one p (suc n) e = go (p n) refl (some p n) refl (some_one p n)
  where
    up : (i : ℕ) × (i < n) × (p i ≡ true) → (i : ℕ) × (i < suc n) × (p i ≡ true)
    up w = (w.0, omega arith, w.2)

    go : (x : Bool) → p n ≡ x → (y : Bool) → some p n ≡ y → (some p n ≡ true → (i : ℕ) × (i < n) × (p i ≡ true))
        → (i : ℕ) × (i < suc n) × (p i ≡ true)
    go true q y r ih = (n, omega arith, q)
    go false q true r ih = up (ih r)
    go false q false r ih = absurd (false≢true (ap₂ ◌||◌ (sym r) (sym q) ∙ e))

pub one_some : (p : ℕ → Bool) (n i : ℕ) → i < n → p i ≡ true → some p n ≡ true
one_some p n i l e = go (some p n) refl
  where
    go : (b : Bool) → some p n ≡ b → b ≡ true
    go true q = refl
    go false q = absurd (true≢false (sym e ∙ some_none p n q i l))

pub every_all : (p : ℕ → Bool) (n : ℕ) → every p n ≡ true → (i : ℕ) → i < n → p i ≡ true
unfolding every
every_all p zero e i l = absurd (omega arith)
every_all p (suc n) e i l = go (eqb i n) refl (both_true (every p n) (p n) e) (every_all p n)
  where
    go : (b : Bool) → eqb i n ≡ b → (every p n ≡ true) × (p n ≡ true) → (every p n ≡ true → (i : ℕ) → i < n → p i ≡ true) → p i ≡ true
    go true q f ih = ap p (eqb-true i n q) ∙ f.1
    go false q f ih = let ne : i ≡ n → ⊥ = eqb-false i n q in ih f.0 i (omega arith)

pub all_every : (p : ℕ → Bool) (n : ℕ) → ((i : ℕ) → i < n → p i ≡ true) → every p n ≡ true
unfolding every
all_every p zero h = refl
all_every p (suc n) h = ap₂ ◌&&◌ (all_every p n (λ i l. h i (omega arith))) (h n (omega arith))

-- ---- what a filled list holds
module _ {A : Type 0} where
  pub length_filled : (size : ℕ) (d : A) (f : ℕ → A) (n : ℕ) → length (filled size d f n) ≡ size
  unfolding filled
  length_filled size d f zero = length-replicate size d
  length_filled size d f (suc n) = length-set (filled size d f n) n (f n) ∙ length_filled size d f n

  pub filled_at : (size : ℕ) (d : A) (f : ℕ → A) (n : ℕ) → n ≤ size → (i : ℕ) → i < n → get_or (filled size d f n) i d ≡ f i
  unfolding filled
  filled_at size d f zero h i l = absurd (omega arith)
  filled_at size d f (suc n) h i l = go (eqb i n) refl (filled_at size d f n (omega arith) i)
    where
      go : (b : Bool) → eqb i n ≡ b → (i < n → get_or (filled size d f n) i d ≡ f i) → get_or (set (filled size d f n) n (f n)) i d ≡ f i
      go true q ih =
          let e : i ≡ n = eqb-true i n q in
          ap (λ k. get_or (set (filled size d f n) n (f n)) k d) e
          ∙ get_or-set_same (filled size d f n) n (f n) d (omega (arith, length_filled size d f n)) ∙ ap f (sym e)
      go false q ih =
          let ne : i ≡ n → ⊥ = eqb-false i n q in
          get_or-set_other (filled size d f n) n i (f n) d ne ∙ ih (omega arith)

  same_past : (size : ℕ) (d : A) (i : ℕ) → get_or (replicate size d) i d ≡ d
  same_past zero d i = refl
  same_past (suc n) d zero = refl
  same_past (suc n) d (suc i) = same_past n d i

  pub filled_past : (size : ℕ) (d : A) (f : ℕ → A) (n i : ℕ) → n ≤ i → get_or (filled size d f n) i d ≡ d
  unfolding filled
  filled_past size d f zero i h = same_past size d i
  filled_past size d f (suc n) i h =
      get_or-set_other (filled size d f n) n i (f n) d (omega arith) ∙ filled_past size d f n i (omega arith)

  -- the numbers of a list, in the first places of a longer one
  filled_front : (size : ℕ) (d : A) (l : List A) (n : ℕ) → n ≤ length l → n ≤ size
      → take n l ++ drop n (replicate size d) ≡ filled size d (λ i. get_or l i d) n
  unfolding filled
  filled_front size d l zero h k = refl
  filled_front size d l (suc n) h k =
      let r = replicate size d in
      let x = get_or l n d in
      let long : n < length r = omega (arith, length-replicate size d) in
      let next : n + 1 ≡ suc n = omega arith in
      let here : n + 0 ≡ n = omega arith in
      let none : n - n ≡ 0 = omega arith in
      let at : set (drop n r) 0 x ≡ x ∷ drop (suc n) r =
      sym (drop-set-add n r 0 x) ∙ ap (λ i. drop n (set r i x)) here ∙ drop-set r n x long ∙ ap (λ k. x ∷ drop k r) next in
      let stored : set (take n l ++ drop n r) n x ≡ take n l ++ x ∷ drop (suc n) r =
      set-append_right (take n l) (drop n r) n n x (length-take-le n l (omega arith)) (omega arith)
      ∙ ap (λ i. take n l ++ set (drop n r) i x) none ∙ ap (λ ys. take n l ++ ys) at
      in
      ap (λ xs. xs ++ drop (suc n) r) (take-suc l n d (omega arith)) ∙ append_assoc (take n l) (x ∷ []) (drop (suc n) r)
      ∙ sym stored ∙ ap (λ xs. set xs n x) (filled_front size d l n (omega arith) (omega arith))

  pub filled_whole : (size : ℕ) (d : A) (l : List A) → length l ≤ size → l ++ drop (length l) (replicate size d) ≡ filled size d (λ i. get_or l i d) (length l)
  filled_whole size d l h = ap (λ xs. xs ++ drop (length l) (replicate size d)) (sym (take-length l)) ∙ filled_front size d l (length l) (omega arith) h
