-- Statement 4, the step formula: the account of `laws` in the product's numbers. A drain that answers 0 does the same with any higher
-- limit, so the formula holds for every limit with which it answers 0.
use mathlib.Core.Path.{◌≡◌, refl, sym, ap, ap₂, ◌∙◌}
use mathlib.Core.Bool.{Bool, true, false, cond}
use mathlib.Core.List.{List}
use Prim.Native.Nat.{ℕ, ◌+◌, ◌*◌, ◌<◌, ◌≤◌}
use native.Mathlib.Omega.{arith}
use lib.Dec.{eqb}
use lib.ListN.{length}
use Rattle.laws.specs.Received.{flat, received}
use Rattle.laws.specs.Below.{bit}
use Rattle.laws.specs.Sums.{nat_mon, sum_n, counted}
use Rattle.laws.specs.Step.{if_done, step_f, exec, done_in, begun, begun_in}
use Rattle.laws.specs.StepsLeft.{left, sources}
use Rattle.laws.specs.Drain.{drain_f}
use Rattle.laws.proofs.Below.{cond_same}
use Rattle.laws.proofs.Sums.{sum_ext, sum_l-length}
use Rattle.laws.proofs.Promise.{steps_promise, fresh_steps}
use Rattle.tally.specs.declared.Record.{Record}
use Rattle.job.specs.Columns.{Columns}
use Rattle.job.specs.Jobs.{job_of, from_of}
use Rattle.job.specs.Graph.{over_channel, part_length}
use Rattle.job.specs.Rules.{job_answer}
use Rattle.direct.specs.Direct.{received_by}
use Rattle.run.specs.Runs.{fresh_run}
use Rattle.drain.specs.declared.Drained.{Drained}
use Rattle.lists.specs.Lists.{is_done}
use Rattle.station.specs.Entries.{step_on, drain_on}
use Rattle.promises.specs.Grown.{grown, steps_done, snapshots_begun, whole_parts, records_read, records_sent, sources_of}
use Rattle.promises.specs.Promises.{StepFormula}
use Rattle.promises.proofs.Reading.{end_is, source_is, from_ok}
use Rattle.promises.proofs.Grows.{the_job, law_job, at_run, on_drain, fresh_law, done_at, goes_fresh, goes_grown, exec_at, counts_at}
use Rattle.promises.proofs.Evaluated.{part_long, read_same, received_is}
use Rattle.promises.proofs.Counted.{source_at, law_accepted}
use Rattle.promises.proofs.Emptied.{drain_more}
use Rattle.promises.proofs.Twins.{twins}
use Rattle.promises.proofs.Finished.{whole, few_whole}

module _ (J : Columns) (ok : job_answer J ≡ 0) where
  -- ---- steps done and snapshots begun
  done_is : (ks : List ℕ) → steps_done J ks ≡ done_in (law_job J ok) ks (at_run J ok fresh_run)
  done_is ks =
      counts_at J ok (λ run k. 1) (λ s k. if_done (step_f (law_job J ok) s k) 1) (done_in (law_job J ok)) (λ s. refl) (λ s k ks. refl)
      (λ run k A. sym (done_at J ok run A k 1)) fresh_run ks (goes_fresh J ok)

  begun_is : (ks : List ℕ) → snapshots_begun J ks ≡ begun_in (law_job J ok) ks (at_run J ok fresh_run)
  begun_is ks =
      counts_at J ok (λ run k. bit (eqb k 64)) (λ s k. begun (law_job J ok) k (step_f (law_job J ok) s k)) (begun_in (law_job J ok))
      (λ s. refl) (λ s k ks. refl) (λ run k A. one (is_done (step_on J run k).answer) (eqb k 64) _ (done_at J ok run A k 1)) fresh_run ks
      (goes_fresh J ok)
    where
      one : (a b : Bool) (x : ℕ) → x ≡ cond a 1 0 → cond a (bit b) 0 ≡ cond b x 0
      one a true x e = sym e
      one a false x e = cond_same a 0

  -- ---- records read and records sent
  read_is : sum_n nat_mon (job_of J).tasks (λ t. counted ((law_job J ok).part t)) ≡ records_read J
  read_is =
      sum_ext nat_mon (job_of J).tasks _ _
      (λ t l. sum_l-length ((law_job J ok).part t) ∙ part_long (job_of J) J.cylinders J.values (the_job J ok) t l)

  got_is : (u : ℕ) → u < (job_of J).tasks
      → received (law_job J ok).g (job_of J).tasks (law_job J ok).part u
      ≡ received_by (job_of J) J.cylinders J.values (whole_parts J) u
  got_is u l =
      let at = source_at J ok (part_length (job_of J)) (few_whole J ok) in
      received_is (job_of J) J.cylinders J.values (the_job J ok) (whole_parts J)
      (λ t lt e. omega (arith, at t lt e, few_whole J ok t lt e)) (law_job J ok).part
      (λ t lt. sym (whole J ok t)
      ∙ read_same (job_of J) J.cylinders J.values (the_job J ok) (whole_parts J)
      (λ t lt e. omega (arith, at t lt e, few_whole J ok t lt e)) (part_length (job_of J)) (λ t lt e. sym (at t lt e)) t lt)
      u l

  sent_is : sum_n nat_mon (job_of J).channels
      (λ c. counted (flat ((law_job J ok).g.sends c)
      (received (law_job J ok).g (job_of J).tasks (law_job J ok).part ((law_job J ok).g.from c))))
      ≡ records_sent J
  sent_is =
      sum_ext nat_mon (job_of J).channels _ _
      (λ c l.
      sum_l-length (flat (over_channel (job_of J) c)
      (received (law_job J ok).g (job_of J).tasks (law_job J ok).part ((law_job J ok).g.from c)))
      ∙ ap (λ (xs : List Record). length (flat (over_channel (job_of J) c) xs))
      (got_is ((law_job J ok).g.from c) (from_ok (job_of J) J.cylinders J.values (the_job J ok) c l)
      ∙ ap (received_by (job_of J) J.cylinders J.values (whole_parts J)) (end_is (job_of J) (from_of (job_of J)) c l)))

  sources_is : sources (law_job J ok) ≡ sources_of J
  sources_is = sum_ext nat_mon (job_of J).tasks _ _ (λ t l. ap bit (source_is (job_of J) t l))

  first_left : left (law_job J ok) (at_run J ok fresh_run) ≡ records_read J + records_sent J
  first_left =
      ap (left (law_job J ok)) (fresh_law J ok)
      ∙ fresh_steps (law_job J ok) (law_accepted J ok)
      ∙ ap₂ ◌+◌ read_is sent_is

  -- ---- the drain's steps
  drain_count : (ks : List ℕ) (limit : ℕ) → (drain_on J (grown J ks) limit).answer ≡ 0
      → (drain_on J (grown J ks) limit).steps
      ≡ (drain_f (law_job J ok) (limit + 67_108_864) 0 (exec (law_job J ok) ks (at_run J ok fresh_run))).count
  drain_count ks limit e =
      let G = goes_grown J ok ks in
      let is = on_drain J ok (grown J ks) G.fits limit in
      let more : limit ≤ limit + 67_108_864 = omega arith in
      ap (λ (d : Drained). d.steps)
      (is ∙ sym (drain_more (job_of J) J.cylinders J.values limit 0 (grown J ks) (ap (λ (d : Drained). d.answer) (sym is) ∙ e)
      (limit + 67_108_864) more))
      ∙ sym (twins J ok (limit + 67_108_864) 0 (grown J ks) G).count
      ∙ ap (λ s. (drain_f (law_job J ok) (limit + 67_108_864) 0 s).count) (sym (exec_at J ok fresh_run ks (goes_fresh J ok)))

-- THE STEP FORMULA
pub step_formula : (J : Columns) → job_answer J ≡ 0 → (ks : List ℕ) (limit : ℕ) → StepFormula J ks limit
step_formula J ok ks limit nc e =
    let factor : 1 + sources_of J + (job_of J).channels ≡ 1 + (sources (law_job J ok) + (job_of J).channels) = omega (arith, sources_is J ok) in
    ap₂ ◌+◌ (done_is J ok ks) (drain_count J ok ks limit e)
    ∙ steps_promise (law_job J ok) (law_accepted J ok) (at_run J ok fresh_run) (goes_fresh J ok).good ks
    (limit + 67_108_864) nc (omega arith)
    ∙ ap₂ ◌+◌ (first_left J ok) (ap₂ ◌*◌ (sym (begun_is J ok ks)) (sym factor))
