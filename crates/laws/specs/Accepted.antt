-- What an accepted job without back channels has: the bounds of document 01 (16 tasks, 32 channels, worst counts of at most
-- 1,048,576), totals that count records, and no returning walk. The promises for it stand in proofs/Promise.antt.
use Rattle.std.specs.Prelude.{◌≡◌, false, List, ◌∷◌, ℕ, zero, suc, ◌+◌, ◌<◌, ◌≤◌, eqb, length}
use Rattle.laws.specs.Received.{Graph}
use Rattle.laws.specs.Sums.{pick, sum_n, nat_mon, Hom}
use Rattle.laws.specs.Items.{Item, rec}
use Rattle.laws.specs.Run.{Run, Job, Plain}
use Rattle.laws.specs.Invariant.{Inv}

-- THE WORST COUNT, over walks of fewer than k channels, where b t are put in at task t: "For a source it is b. For any other task it is
-- the sum, over its input channels, of the from-task's worst count."
abbrev pub worst : {R : Type 0} → Graph R → (ℕ → ℕ) → ℕ → ℕ → ℕ
worst g b zero u = 0
worst g b (suc k) u = b u + sum_n nat_mon g.m (λ c. pick nat_mon (eqb u (g.to c)) (worst g b k (g.from c)))

pub record Accepted (J : Job) : Type 0 where
  pub some_task : 0 < J.g.n
  pub few_tasks : J.g.n ≤ 16
  pub few_channels : J.g.m ≤ 32
  pub few_under_way : J.cap ≤ 4
  pub plain : Plain J
  -- totals have a count, each record counts one, and 17 looks at the count
  pub count : Hom J.M nat_mon
  pub counts_one : (r : J.R) → count.map (J.φ r) ≡ 1
  pub full_is : (x : J.M.Car) → J.full x ≡ eqb (count.map x) 1_048_576
  -- for one record a task sends at most one on each output
  pub sends_one : (c : ℕ) (r : J.R) → length (J.g.sends c r) ≤ 1
  pub worst_ok : (u : ℕ) → u < J.g.n → worst J.g (λ t. length (J.part t)) J.g.depth u ≤ 1_048_576

-- where a record is to be delivered, its task's count is not at its bound (an accepted job has this)
abbrev pub NeverFull : Job → Type 0
NeverFull J =
    (s : Run J.R J.M.Car) → Inv J s
    → (d : ℕ) (r : J.R) (rest : List (Item J.R)) → d < J.g.m → s.chan d ≡ rec r ∷ rest
    → J.full (s.live (J.g.to d)) ≡ false
