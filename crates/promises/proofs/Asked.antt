-- The tests of the step rules, read: an output that holds 8 items, inputs that are all marked, tasks that have all stored; a place of the
-- run's totals after a record; and what the fit and the order of barriers say of every place.
use mathlib.Core.Path.{◌≡◌, refl, sym, ap, ap₂, ◌∙◌}
use mathlib.Core.Bool.{Bool, true, false, cond, not, ◌&&◌, ◌||◌, false≢true}
use mathlib.Core.List.{List, [], ◌∷◌}
use Prim.Native.Nat.{ℕ, zero, suc, ◌+◌, ◌<◌, ◌≤◌}
use native.Mathlib.Omega.{arith}
use borrow.Author.Tests.{eqb-true, eq-eqb, ne_eqb, leb-true, leb-false, ltb-true, ltb-false, lt-ltb, le-ltb}
use lib.Dec.{eqb, ltb, leb}
use lib.IntN.{ℤ}
use lib.ListN.{length, get_or, set, replicate, drop, drop_of_length-le, get_or-eq_default}
use Rattle.laws.specs.Below.{bit, all_n, tab}
use Rattle.laws.specs.Sums.{pick}
use Rattle.laws.specs.Totals.{tot_mon, one_total}
use Rattle.laws.specs.Invariant.{Order}
use Rattle.laws.specs.Step.{room_b}
use Rattle.run.specs.declared.Run.{Run}
use Rattle.laws.proofs.Below.{eqb_sym, all_ext, length_tab}
use Rattle.laws.proofs.Sums.{unit_r}
use Rattle.tally.specs.declared.Totals.{Totals}
use Rattle.tally.specs.Totals.{no_totals, with_value}
use Rattle.tally.proofs.Fold.{encode, encode_with}
use Rattle.job.specs.declared.Job.{Job}
use Rattle.job.specs.Tests.{some, every}
use Rattle.job.specs.Jobs.{from_of, to_of, is_source, is_input, is_output}
use Rattle.job.specs.Fits.{JobFits}
use Rattle.run.specs.Runs.{no_channel}
use Rattle.run.specs.Fit.{totals_at, flag_at, count_at, Fits}
use Rattle.outputs.specs.Outputs.{is_full, some_full, all_marked, all_stored, unmarked}
use Rattle.outputs.proofs.Places.{place_at, place_past}
use Rattle.step.specs.Step.{is_no_source}
use Rattle.step.proofs.Fitting.{replicate_has}
use Rattle.drain.proofs.Possible.{ltb_not}
use Rattle.promises.proofs.Reading.{end_of, to_at, end_is, end_out, source_of, source_is, offset_in, at, read_job, Sized}
use Rattle.promises.proofs.Held.{set_at, Queues, chans_of, held-length}

-- ---- lists
-- what stands anywhere in a list of one value, or past it
pub same_at : {A : Type 0} (n i : ℕ) (x : A) → get_or (replicate n x) i x ≡ x
same_at n i x = replicate_has (λ y. y ≡ x) n x x i refl refl

-- what stands at the places that the job lacks, and past the list's end
pub far_at : {A : Type 0} (l : List A) (d : A) (size from i : ℕ) → length l ≡ size → ((i : ℕ) → from ≤ i → i < size → get_or l i d ≡ d)
    → from ≤ i → get_or l i d ≡ d
far_at l d size from i e h out = go (ltb i size) refl
  where
    go : (b : Bool) → ltb i size ≡ b → get_or l i d ≡ d
    go true q = h i out (ltb-true i size q)
    go false q = get_or-eq_default l d (omega (arith, ltb-false i size q))

-- a table from its place k on
pub tab_more : {A : Type 0} (n k : ℕ) (f : ℕ → A) → k < n → drop k (tab n f) ≡ f k ∷ drop (suc k) (tab n f)
tab_more zero k f h = absurd (omega arith)
tab_more (suc n) zero f h = refl
tab_more (suc n) (suc k) f h = tab_more n k (λ i. f (suc i)) (omega arith)

pub tab_out : {A : Type 0} (n k : ℕ) (f : ℕ → A) → n ≤ k → drop k (tab n f) ≡ []
tab_out n k f h = drop_of_length-le (tab n f) {i = k} (omega (arith, length_tab n f))

-- ---- tests of all numbers below n
every_all : (p : ℕ → Bool) (n : ℕ) → every p n ≡ all_n n p
unfolding every
every_all p zero = refl
every_all p (suc n) = ap (λ b. b && p n) (every_all p n) ∙ swap (all_n n p) (p n)
  where
    swap : (x y : Bool) → x && y ≡ cond y x false
    swap true true = refl
    swap true false = refl
    swap false true = refl
    swap false false = refl

none_all : (p : ℕ → Bool) (n : ℕ) → not (some p n) ≡ all_n n (λ i. not (p i))
unfolding some
none_all p zero = refl
none_all p (suc n) = swap (some p n) (p n) ∙ ap (λ b. cond (not (p n)) b false) (none_all p n)
  where
    swap : (x y : Bool) → not (x || y) ≡ cond (not y) (not x) false
    swap true true = refl
    swap true false = refl
    swap false true = refl
    swap false false = refl

pub guarded : {A : Type 0} (a b : Bool) (x y : A) → cond (a && b) x y ≡ cond a (cond (a && b) x y) y
guarded true b x y = refl
guarded false b x y = refl

pub no_source : (job : Job) (t : ℕ) → is_no_source job t ≡ not (source_of job t)
unfolding is_no_source
no_source job t = go (leb job.tasks t) (is_source job t) ∙ ap (λ b. not (b && is_source job t)) (sym (ltb_not t job.tasks))
  where
    go : (x y : Bool) → x || not y ≡ not (not x && y)
    go true y = refl
    go false y = refl

-- a count that fits is the greatest where it is no less
pub full_eq : (n : ℕ) → n ≤ 1048576 → eqb n 1048576 ≡ leb 1048576 n
full_eq n h = go (leb 1048576 n) refl
  where
    go : (b : Bool) → leb 1048576 n ≡ b → eqb n 1048576 ≡ b
    go true e = eq-eqb n 1048576 (omega (arith, leb-true 1048576 n e))
    go false e = ne_eqb n 1048576 (λ q. omega (arith, leb-false 1048576 n e))

-- a mark stands above what is stored
pub over : (n : ℕ) (b : Bool) → ltb n (n + bit b) ≡ b
over n true = lt-ltb n (n + 1) (omega arith)
over n false = le-ltb n (n + 0) (omega arith)

module _ (job : Job) (cylinders values : List ℤ) (J : JobFits job (length cylinders)) where
  -- "some output channel of the task holds 8 items"
  pub room_is : (run : Run) → Queues run.channels → (t : ℕ)
      → room_b (read_job job cylinders values J) (at job run) t ≡ not (some_full job run.channels t)
  unfolding some_full
  room_is run Q t =
      all_ext job.channels _ (λ c. not (is_output job t c && is_full (get_or run.channels c no_channel))) (λ c h. one c h)
      ∙ sym (none_all (λ c. is_output job t c && is_full (get_or run.channels c no_channel)) job.channels)
    where
      go : (b y : Bool) → cond b (not y) true ≡ not (b && y)
      go true y = refl
      go false y = refl

      one : (c : ℕ) → c < job.channels
          → cond (eqb (end_of job (from_of job) c) t) (ltb (length (chans_of run.channels c)) 8) true
          ≡ not (is_output job t c && is_full (get_or run.channels c no_channel))
      one c h =
          let lc : c < 32 = omega (arith, J.sends.sized.few_channels) in
          ap₂ (λ u n. cond (eqb u t) (ltb n 8) true) (end_is job (from_of job) c h)
          (held-length (get_or run.channels c no_channel) (Q.places c lc) (Q.few c lc))
          ∙ ap (λ b. cond (is_output job t c) b true) (ltb_not (get_or run.channels c no_channel).count 8)
          ∙ go (is_output job t c) (is_full (get_or run.channels c no_channel))

  -- "all inputs of the task are marked"
  pub marked_is : (stored : List ℕ) (gone : ℕ → ℕ) (marks : List Bool) (t : ℕ)
      → ((c : ℕ) → to_at job c ≡ t → ltb (get_or stored t 0) (gone c) ≡ flag_at marks c)
      → all_n job.channels (λ c. cond (eqb (to_at job c) t) (ltb (get_or stored t 0) (gone c)) true) ≡ all_marked job marks t
  unfolding all_marked
  marked_is stored gone marks t same =
      all_ext job.channels _ (λ c. not (is_input job t c) || flag_at marks c) one
      ∙ sym (every_all (λ c. not (is_input job t c) || flag_at marks c) job.channels)
    where
      one : (c : ℕ) → c < job.channels
          → cond (eqb (to_at job c) t) (ltb (get_or stored t 0) (gone c)) true ≡ not (is_input job t c) || flag_at marks c
      one c h = go (eqb (to_at job c) t) refl
          ∙ ap (λ u. not (eqb u t) || flag_at marks c) (end_is job (to_of job) c h)
        where
          go : (b : Bool) → eqb (to_at job c) t ≡ b → cond b (ltb (get_or stored t 0) (gone c)) true ≡ not b || flag_at marks c
          go true e = same c (eqb-true (to_at job c) t e)
          go false e = refl

-- "every task has stored"
pub stored_is : (job : Job) (l : List ℕ) → all_stored job l ≡ all_n job.tasks (λ t. ltb 0 (count_at l t))
unfolding all_stored
stored_is job l = every_all (λ t. ltb 0 (count_at l t)) job.tasks

-- "clears these marks": those of the task's inputs
pub unmarked_at : (job : Job) (l : List Bool) (t : ℕ) → job.channels ≤ length l → t < job.tasks → (c : ℕ)
    → flag_at (unmarked job l t) c ≡ cond (eqb (to_at job c) t) false (flag_at l c)
unfolding unmarked
unmarked_at job l t few lt c = go (ltb c job.channels) refl
  where
    cleared : (b x : Bool) → x && not b ≡ cond b false x
    cleared true true = refl
    cleared true false = refl
    cleared false true = refl
    cleared false false = refl

    go : (b : Bool) → ltb c job.channels ≡ b
        → flag_at (unmarked job l t) c ≡ cond (eqb (to_at job c) t) false (flag_at l c)
    go true e =
        let lc : c < job.channels = ltb-true c job.channels e in
        place_at false (λ c mark. mark && not (is_input job t c)) l job.channels c lc few
        ∙ cleared (is_input job t c) (flag_at l c) ∙ ap (λ u. cond (eqb u t) false (flag_at l c)) (sym (end_is job (to_of job) c lc))
    go false e =
        let out : job.channels ≤ c = ltb-false c job.channels e in
        place_past false (λ c mark. mark && not (is_input job t c)) l job.channels c out
        ∙ ap (λ b. cond b false (flag_at l c)) (sym (ne_eqb (to_at job c) t (λ q. omega (arith, end_out job (to_of job) c out))))

-- ---- totals
-- a value counted at t
pub counted_at : (l : List Totals) (t : ℕ) (x : ℤ) → t < length l → (v : ℕ)
    → encode (totals_at (set l t (with_value (totals_at l t) x)) v) ≡ tot_mon.op (encode (totals_at l v)) (pick tot_mon (eqb v t) (one_total x))
counted_at l t x h v = ap encode (set_at l t (with_value (totals_at l t) x) no_totals h v) ∙ go (eqb v t) refl
  where
    go : (b : Bool) → eqb v t ≡ b
        → encode (cond b (with_value (totals_at l t) x) (totals_at l v)) ≡ tot_mon.op (encode (totals_at l v)) (pick tot_mon b (one_total x))
    go true e =
        encode_with (totals_at l t) x ∙ ap (λ u. tot_mon.op (encode (totals_at l u)) (one_total x)) (sym (eqb-true v t e))
    go false e = sym (unit_r tot_mon (encode (totals_at l v)))

-- a source that reads is one further
pub offset_more : (job : Job) (l : List Totals) (t : ℕ) (x : ℤ) → t < length l → source_of job t ≡ true → (v : ℕ)
    → offset_in job (set l t (with_value (totals_at l t) x)) v ≡ offset_in job l v + bit (eqb t v)
offset_more job l t x h src v =
    ap (λ (y : Totals). cond (source_of job v) y.count 0) (set_at l t (with_value (totals_at l t) x) no_totals h v)
    ∙ ap (λ b. cond (source_of job v) (cond b (with_value (totals_at l t) x) (totals_at l v)).count 0) (eqb_sym v t) ∙ go (eqb t v) refl
  where
    go : (b : Bool) → eqb t v ≡ b
        → cond (source_of job v) (cond b (with_value (totals_at l t) x) (totals_at l v)).count 0 ≡ offset_in job l v + bit b
    go true e =
        let same : t ≡ v = eqb-true t v e in
        let on : source_of job v ≡ true = ap (source_of job) (sym same) ∙ src in
        ap (λ b. cond b ((totals_at l t).count + 1) 0) on
        ∙ ap (λ u. (totals_at l u).count + 1) same ∙ ap (λ b. cond b (totals_at l v).count 0 + 1) (sym on)
    go false e = omega arith

-- a task that is no source has no offset
pub offset_same : (job : Job) (l : List Totals) (t : ℕ) (x : Totals) → t < length l → source_of job t ≡ false → (v : ℕ)
    → offset_in job (set l t x) v ≡ offset_in job l v
offset_same job l t x h src v = ap (λ (y : Totals). cond (source_of job v) y.count 0) (set_at l t x no_totals h v) ∙ go (eqb v t) refl
  where
    go : (b : Bool) → eqb v t ≡ b → cond (source_of job v) (cond b x (totals_at l v)).count 0 ≡ offset_in job l v
    go true e =
        let off : source_of job v ≡ false = ap (source_of job) (eqb-true v t e) ∙ src in
        ap (λ b. cond b x.count 0) off ∙ ap (λ b. cond b (totals_at l v).count 0) (sym off)
    go false e = refl

-- ---- what the fit says of every place, and the order of barriers of its counts
module _ (job : Job) (run : Run) (F : Fits job run) (S : Sized run) where
  stored_far : (v : ℕ) → job.tasks ≤ v → count_at run.stored v ≡ 0
  stored_far v = far_at run.stored 0 16 job.tasks v S.stored (λ i h l. (F.no_task i h l).stored)

  wait_far : (v : ℕ) → job.tasks ≤ v → count_at run.waiting v ≡ 0
  wait_far v = far_at run.waiting 0 16 job.tasks v S.waiting (λ i h l. (F.no_task i h l).waiting)

  pub mark_far : (c : ℕ) → job.channels ≤ c → flag_at run.marked c ≡ false
  mark_far c = far_at run.marked false 32 job.channels c S.marked (λ i h l. (F.no_channel i h l).1)

  pub wait_other : (v : ℕ) → v < job.tasks → is_source job v ≡ false → count_at run.waiting v ≡ 0
  wait_other v lv e = go (ltb 0 (count_at run.waiting v)) refl
    where
      go : (b : Bool) → ltb 0 (count_at run.waiting v) ≡ b → count_at run.waiting v ≡ 0
      go true q = absurd (false≢true (sym e ∙ F.waits v lv (ltb-true 0 (count_at run.waiting v) q)))
      go false q = omega (arith, ltb-false 0 (count_at run.waiting v) q)

module _ (job : Job) (cylinders values : List ℤ) (J : JobFits job (length cylinders)) (run : Run) (F : Fits job run) (S : Sized run)
    (O : Order (read_job job cylinders values J) (at job run)) where
  pub idle : (v : ℕ) → count_at run.stored v ≤ run.under_way
  idle v = go (ltb v job.tasks) refl
    where
      go : (b : Bool) → ltb v job.tasks ≡ b → count_at run.stored v ≤ run.under_way
      go true q = O.idle v (ltb-true v job.tasks q)
      go false q = omega (arith, stored_far job run F S v (ltb-false v job.tasks q))

  pub wait_most : (v : ℕ) → count_at run.waiting v ≤ run.under_way
  wait_most v = go (ltb v job.tasks) refl (is_source job v) refl
    where
      go : (b : Bool) → ltb v job.tasks ≡ b → (x : Bool) → is_source job v ≡ x → count_at run.waiting v ≤ run.under_way
      go true q true e = let lv = ltb-true v job.tasks q in omega (arith, O.wait_eq v lv (source_is job v lv ∙ e))
      go true q false e = omega (arith, wait_other job run F S v (ltb-true v job.tasks q) e)
      go false q x e = omega (arith, wait_far job run F S v (ltb-false v job.tasks q))
