-- A chain's test over a range of numbers answers the rules' words for it: `any` is `some`, `all` is `every`.
use mathlib.Core.Path.{◌≡◌, refl, ap, ap₂, ◌∙◌}
use mathlib.Core.Bool.{Bool, true, false, ◌||◌, ◌&&◌}
use mathlib.Core.List.{List, [], ◌∷◌}
use Prim.Native.Nat.{ℕ, zero, suc, ◌+◌, ◌≤◌}
use lib.ListN.{length, take, get_or}
use native.Mathlib.Omega.{arith}
use denote.Param.Members.{Mut}
use Rattle.std.specs.declared.ops.Range.{Range}
use Rattle.std.specs.List.{FoldsTo, range_with_len, list_any, list_all}
use Rattle.std.specs.Fn.{Called}
use Rattle.std.specs.Iterator.{YieldsThen}
use Rattle.std.specs.Prelude.{Option}
use Rattle.std.specs.Option.{MatchOption}
use denote.Ref.{Bor}
use lib.Seq.{take-suc}
use Rattle.std.specs.declared.slice.Iter.{Iter}
use Rattle.std.specs.Slice.Iter.{iter_rest}
use Rattle.std.proofs.iter.Yields.{fronts, nat_range_steps}
use Rattle.std.proofs.lemmas.List.Folds.{list_all-append, list_any-append}
use Rattle.std.proofs.lemmas.Iterator.{YieldsList-from_range, YieldsList-from_slice}
use Rattle.std.proofs.lemmas.Iterator.Search.{any_from_yields_List, all_from_yields_List}
use Rattle.job.specs.Tests.{some, every}

or_last : (x y' z : Bool) {y : Bool} → y ≡ y' || z → x || y ≡ x || y' || z
or_last true y' z e = refl
or_last false y' z e = e

and_last : (x y' z : Bool) {y : Bool} → y ≡ y' && z → x && y ≡ x && y' && z
and_last true y' z e = e
and_last false y' z e = refl

or_none : (x : Bool) → x || false ≡ x
or_none true = refl
or_none false = refl

and_all : (x : Bool) → x && true ≡ x
and_all true = refl
and_all false = refl

any_last : (p : ℕ → Bool) (a n k : ℕ) → a + n ≡ k → list_any p (range_with_len a (suc n)) ≡ list_any p (range_with_len a n) || p k
any_last p a zero k e = or_none (p a) ∙ ap p (omega arith)
any_last p a (suc n) k e = or_last (p a) _ _ (any_last p (a + 1) n k (omega arith))

all_last : (p : ℕ → Bool) (a n k : ℕ) → a + n ≡ k → list_all p (range_with_len a (suc n)) ≡ list_all p (range_with_len a n) && p k
all_last p a zero k e = and_all (p a) ∙ ap p (omega arith)
all_last p a (suc n) k e = and_last (p a) _ _ (all_last p (a + 1) n k (omega arith))

pub any_some : (p : ℕ → Bool) (n : ℕ) → list_any p (range_with_len 0 n) ≡ some p n
unfolding some
any_some p zero = refl
any_some p (suc n) = any_last p 0 n n (omega arith) ∙ ap (λ b. b || p n) (any_some p n)

pub all_every : (p : ℕ → Bool) (n : ℕ) → list_all p (range_with_len 0 n) ≡ every p n
unfolding every
all_every p zero = refl
all_every p (suc n) = all_last p 0 n n (omega arith) ∙ ap (λ b. b && p n) (all_every p n)

-- what such a call's clause `ran` says of its answer, where the closure computes the test
module _ {F : Type 0} {g : Mut F (ℕ × Unit {0}) Bool} {s : Range ℕ} (p : ℕ → Bool) (n : ℕ) (u : Range ℕ) (f : F) (r : Bool) where
  pub any_over : (xs : List ℕ) × (o : Option ℕ) × (j : F) × YieldsThen nat_range_steps s xs o u × FoldsTo (λ p x q. Called g p (x, tt) false q) f xs j
      × MatchOption o (r ≡ false) (λ x. (r ≡ true) × ((h : F) × Called g j (x, tt) true h))
      → s ≡ record { start = 0; end = n } → ((x : ℕ) (b : Bool) (q : F) → Called g f (x, tt) b q → (q ≡ f) × (b ≡ p x)) → r ≡ some p n
  any_over ran e k = any_from_yields_List p u f r ran (YieldsList-from_range 0 n n e (omega arith)) k ∙ any_some p n

  pub all_over : (xs : List ℕ) × (o : Option ℕ) × (j : F) × YieldsThen nat_range_steps s xs o u × FoldsTo (λ p x q. Called g p (x, tt) true q) f xs j
      × MatchOption o (r ≡ true) (λ x. (r ≡ false) × ((h : F) × Called g j (x, tt) false h))
      → s ≡ record { start = 0; end = n } → ((x : ℕ) (b : Bool) (q : F) → Called g f (x, tt) b q → (q ≡ f) × (b ≡ p x)) → r ≡ every p n
  all_over ran e k = all_from_yields_List p u f r ran (YieldsList-from_range 0 n n e (omega arith)) k ∙ all_every p n

-- the same of the first n of a list
all_first : {A : Type 0} (p : A → Bool) (l : List A) (d : A) (n : ℕ) → n ≤ length l → list_all p (take n l) ≡ every (λ j. p (get_or l j d)) n
unfolding every
all_first p l d zero h = refl
all_first p l d (suc n) h =
    ap (list_all p) (take-suc l n d (omega arith)) ∙ list_all-append p (take n l) (get_or l n d ∷ [])
    ∙ ap₂ ◌&&◌ (all_first p l d n (omega arith)) (and_all (p (get_or l n d)))

pub all_within : {A F : Type 0} {g : Mut F (Bor A × Unit {0}) Bool} {s : Iter A} (p : A → Bool) (l : List A) (d : A) (n : ℕ) (u : Iter A) (f : F) (r : Bool)
    → (xs : List (Bor A)) × (o : Option (Bor A)) × (j : F) × YieldsThen fronts s xs o u × FoldsTo (λ p x q. Called g p (x, tt) true q) f xs j
    × MatchOption o (r ≡ true) (λ x. (r ≡ false) × ((h : F) × Called g j (x, tt) false h))
    → iter_rest s ≡ take n l → n ≤ length l → ((x : Bor A) (b : Bool) (q : F) → Called g f (x, tt) b q → (q ≡ f) × (b ≡ p x.now)) → r ≡ every (λ j. p (get_or l j d)) n
all_within p l d n u f r ran e h k = all_from_yields_List p u f r ran (YieldsList-from_slice (take n l) e) k ∙ all_first p l d n h

any_first : {A : Type 0} (p : A → Bool) (l : List A) (d : A) (n : ℕ) → n ≤ length l → list_any p (take n l) ≡ some (λ j. p (get_or l j d)) n
unfolding some
any_first p l d zero h = refl
any_first p l d (suc n) h =
    ap (list_any p) (take-suc l n d (omega arith)) ∙ list_any-append p (take n l) (get_or l n d ∷ [])
    ∙ ap₂ ◌||◌ (any_first p l d n (omega arith)) (or_none (p (get_or l n d)))

pub any_within : {A F : Type 0} {g : Mut F (Bor A × Unit {0}) Bool} {s : Iter A} (p : A → Bool) (l : List A) (d : A) (n : ℕ) (u : Iter A) (f : F) (r : Bool)
    → (xs : List (Bor A)) × (o : Option (Bor A)) × (j : F) × YieldsThen fronts s xs o u × FoldsTo (λ p x q. Called g p (x, tt) false q) f xs j
    × MatchOption o (r ≡ false) (λ x. (r ≡ true) × ((h : F) × Called g j (x, tt) true h))
    → iter_rest s ≡ take n l → n ≤ length l → ((x : Bor A) (b : Bool) (q : F) → Called g f (x, tt) b q → (q ≡ f) × (b ≡ p x.now)) → r ≡ some (λ j. p (get_or l j d)) n
any_within p l d n u f r ran e h k = any_from_yields_List p u f r ran (YieldsList-from_slice (take n l) e) k ∙ any_first p l d n h
