-- Direct evaluation of the product is direct evaluation of `laws` (`direct_is`), and an accepted job is one for which `laws` makes its
-- promises (`accepted`): the graph that is read differs from the job's list of channels only in channels that the job lacks.
use mathlib.Core.Path.{◌≡◌, refl, sym, ap, ap₂, ◌∙◌}
use mathlib.Core.Bool.{Bool, true, false, cond}
use mathlib.Core.List.{List, [], ◌∷◌, ◌++◌, map}
use Prim.Native.Nat.{ℕ, zero, suc, ◌+◌, ◌<◌, ◌≤◌}
use native.Mathlib.Omega.{arith}
use borrow.Author.Tests.{ltb-true, ltb-false}
use lib.Dec.{eqb, ltb}
use lib.IntN.{ℤ, nat_abs}
use lib.ListN.{length, get_or, take}
use lib.Seq.{ext_get_or, take-nil}
use Rattle.laws.specs.Received.{concat_n, keep, flat, received}
use Rattle.laws.specs.Below.{tab}
use Rattle.laws.specs.Sums.{nat_mon, pick, sum_l}
use Rattle.laws.specs.Totals.{tot_mon, one_total}
use Rattle.laws.specs.Invariant.{direct_at}
use Rattle.laws.specs.Accepted.{worst, Accepted}
use Rattle.laws.proofs.Below.{length_tab}
use Rattle.laws.proofs.Sums.{sum_ext}
use Rattle.tally.specs.declared.Record.{Record}
use Rattle.tally.specs.declared.Totals.{Totals}
use Rattle.tally.specs.Totals.{no_totals}
use Rattle.tally.proofs.Fold.{encode, decode, Empty0, decode_encode, encode_totals}
use Rattle.job.specs.declared.Job.{Job}
use Rattle.job.specs.Tests.{filled}
use Rattle.job.specs.Columns.{record_at}
use Rattle.job.specs.Jobs.{a_of, b_of, from_of, to_of, is_source}
use Rattle.job.specs.Graph.{graph_of, over_channel, part_length}
use Rattle.job.specs.Fits.{JobFits}
use Rattle.job.proofs.Tests.{length_filled, filled_at, filled_past}
use Rattle.direct.specs.Direct.{count_of, records_from, read_by, received_by, direct_totals, totals_of_all}
use Rattle.direct.proofs.Sending.{at_most_one}
use Rattle.direct.proofs.Walked.{empty_0, sum-map}
use Rattle.promises.proofs.Reading.{read_job, read_graph, part_of, end_of, end_is, source_is, from_ok, ranked}

-- the first k of a table
pub take_tab : {A : Type 0} (k n : ℕ) (f : ℕ → A) → k ≤ n → take k (tab n f) ≡ tab k f
take_tab zero n f h = refl
take_tab (suc k) zero f h = absurd (omega arith)
take_tab {A} (suc k) (suc n) f h = ap {B = List A} (λ l. f 0 ∷ l) (take_tab k n (λ i. f (suc i)) (omega arith))

concat_ext : {A : Type 0} (n : ℕ) (f g : ℕ → List A) → ((i : ℕ) → i < n → f i ≡ g i) → concat_n n f ≡ concat_n n g
concat_ext zero f g h = refl
concat_ext {A} (suc n) f g h = ap₂ {C = List A} ◌++◌ (concat_ext n f g (λ i l. h i (omega arith))) (h n (omega arith))

-- ---- the graph
module _ (job : Job) (cylinders values : List ℤ) (J : JobFits job (length cylinders)) where
  received_same : (E E' : ℕ → List Record) → ((t : ℕ) → t < job.tasks → E t ≡ E' t) → (k u : ℕ) → u < job.tasks
      → received (read_graph job) k E u ≡ received (graph_of job) k E' u
  received_same E E' h zero u l = refl
  received_same E E' h (suc k) u l =
      ap₂ {C = List Record} ◌++◌ (h u l)
      (concat_ext job.channels _ _
      (λ c lc.
      ap₂ (λ (d : ℕ) (xs : List Record). keep (eqb u d) (flat (over_channel job c) xs)) (end_is job (to_of job) c lc)
      (received_same E E' h k (end_of job (from_of job) c) (from_ok job cylinders values J c lc)
      ∙ ap (received (graph_of job) k E') (end_is job (from_of job) c lc))))

  worst_same : (b b' : ℕ → ℕ) → ((t : ℕ) → t < job.tasks → b t ≡ b' t) → (k u : ℕ) → u < job.tasks
      → worst (read_graph job) b k u ≡ worst (graph_of job) b' k u
  worst_same b b' h zero u l = refl
  worst_same b b' h (suc k) u l =
      ap₂ ◌+◌ (h u l)
      (sum_ext nat_mon job.channels _ _
      (λ c lc.
      ap₂ (λ (d : ℕ) (x : ℕ). pick nat_mon (eqb u d) x) (end_is job (to_of job) c lc)
      (worst_same b b' h k (end_of job (from_of job) c) (from_ok job cylinders values J c lc)
      ∙ ap (worst (graph_of job) b' k) (end_is job (from_of job) c lc))))

  pub part_long : (t : ℕ) → t < job.tasks → length (part_of job cylinders values t) ≡ part_length job t
  part_long t l = ap (λ b. length (cond b whole [])) (source_is job t l) ∙ go (is_source job t)
    where
      whole : List Record
      whole = records_from cylinders values (nat_abs (a_of job t)) (nat_abs (b_of job t))

      go : (b : Bool) → length (cond b whole []) ≡ cond b (nat_abs (b_of job t)) 0
      go true = length_tab (nat_abs (b_of job t)) (λ i. record_at cylinders values (nat_abs (a_of job t) + i))
      go false = refl

  -- AN ACCEPTED JOB of `laws`
  pub accepted : Accepted (read_job job cylinders values J)
  accepted = record {
    some_task = J.some_task;
    few_tasks = J.sends.sized.few_tasks;
    few_channels = J.sends.sized.few_channels;
    few_under_way = omega arith;
    plain = record { no_back = λ c l. refl; ranked = ranked job cylinders values J };
    count = record { map = λ x. x.0; map_op = λ a b. refl; map_unit = refl };
    counts_one = λ r. refl;
    full_is = λ x. refl;
    sends_one = at_most_one job;
    worst_ok = λ u l. omega (
      arith,
      J.worst_count u l,
      worst_same (λ t. length (part_of job cylinders values t)) (part_length job) part_long job.tasks u l,
    );
  }

  -- ---- what is read
  module _ (counts : List ℕ) (few : (t : ℕ) → t < job.tasks → is_source job t ≡ true → count_of counts t ≤ nat_abs (b_of job t)) where
    pub read_same : (offs : ℕ → ℕ) → ((t : ℕ) → t < job.tasks → is_source job t ≡ true → offs t ≡ count_of counts t)
        → (t : ℕ) → t < job.tasks → take (offs t) (part_of job cylinders values t) ≡ read_by job cylinders values counts t
    unfolding read_by
    read_same offs h t l =
        ap (λ b. take (offs t) (cond b (records_from cylinders values (nat_abs (a_of job t)) (nat_abs (b_of job t))) [])) (source_is job t l)
        ∙ go (is_source job t) refl
      where
        go : (b : Bool) → is_source job t ≡ b
            → take (offs t) (cond b (records_from cylinders values (nat_abs (a_of job t)) (nat_abs (b_of job t))) [])
            ≡ cond b (records_from cylinders values (nat_abs (a_of job t)) (count_of counts t)) []
        go true e =
            ap (λ k. take k (records_from cylinders values (nat_abs (a_of job t)) (nat_abs (b_of job t)))) (h t l e)
            ∙ take_tab (count_of counts t) (nat_abs (b_of job t)) (λ i. record_at cylinders values (nat_abs (a_of job t) + i)) (few t l e)
        go false e = take-nil (offs t)

    -- what a task receives
    pub received_is : (E : ℕ → List Record) → ((t : ℕ) → t < job.tasks → E t ≡ read_by job cylinders values counts t) → (u : ℕ)
        → u < job.tasks → received (read_graph job) job.tasks E u ≡ received_by job cylinders values counts u
    unfolding received_by
    received_is E h u l = received_same E (read_by job cylinders values counts) h job.tasks u l

    -- DIRECT EVALUATION
    pub direct_is : (offs : ℕ → ℕ) → ((t : ℕ) → t < job.tasks → is_source job t ≡ true → offs t ≡ count_of counts t) → (u : ℕ)
        → u < job.tasks
        → direct_at (read_job job cylinders values J) offs u ≡ encode (direct_totals job cylinders values counts u)
    unfolding direct_totals
    direct_is offs h u l =
        let got = received_by job cylinders values counts u in
        ap (sum_l tot_mon (λ r. one_total r.value)) (received_is _ (read_same offs h) u l)
        ∙ sym (sum-map tot_mon one_total got) ∙ sym (encode_totals (map (λ r. r.value) got))

    -- totals at all 16 places that are direct evaluation's, and zeros past the tasks
    pub totals_are : (l : List Totals) → length l ≡ 16
        → ((u : ℕ) → u < job.tasks → encode (get_or l u no_totals) ≡ encode (direct_totals job cylinders values counts u))
        → ((u : ℕ) → u < job.tasks → Empty0 (get_or l u no_totals))
        → ((u : ℕ) → job.tasks ≤ u → u < 16 → get_or l u no_totals ≡ no_totals)
        → totals_of_all job cylinders values counts ≡ l
    unfolding totals_of_all direct_totals
    totals_are l n same zeros past =
        ext_get_or no_totals (filled 16 no_totals (direct_totals job cylinders values counts) job.tasks) l
        (length_filled 16 no_totals (direct_totals job cylinders values counts) job.tasks ∙ sym n)
        (λ u h.
        at u (omega (arith, length_filled 16 no_totals (direct_totals job cylinders values counts) job.tasks)) (ltb u job.tasks) refl)
      where
        at : (u : ℕ) → u < 16 → (b : Bool) → ltb u job.tasks ≡ b
            → get_or (filled 16 no_totals (direct_totals job cylinders values counts) job.tasks) u no_totals ≡ get_or l u no_totals
        at u l₁₆ true e =
            let lt : u < job.tasks = ltb-true u job.tasks e in
            filled_at 16 no_totals (direct_totals job cylinders values counts) job.tasks J.sends.sized.few_tasks u lt
            ∙ sym (decode_encode (direct_totals job cylinders values counts u)
            (empty_0 (map (λ r. r.value) (received_by job cylinders values counts u))))
            ∙ ap decode (sym (same u lt))
            ∙ decode_encode (get_or l u no_totals) (zeros u lt)
        at u l₁₆ false e =
            let le : job.tasks ≤ u = ltb-false u job.tasks e in
            filled_past 16 no_totals (direct_totals job cylinders values counts) job.tasks u le ∙ sym (past u le l₁₆)
