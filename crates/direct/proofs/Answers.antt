-- What `direct` hands back, by what the check gives and by line 35.
use mathlib.Core.Path.{◌≡◌, sym, ap, subst, ◌∙◌}
use mathlib.Core.Bool.{Bool, true, false}
use mathlib.Core.List.{List}
use Prim.Native.Nat.{ℕ}
use native.Mathlib.Omega.{arith}
use borrow.Author.Tests.{eq-eqb, ne_eqb}
use Rattle.tally.specs.declared.Totals.{Totals}
use Rattle.job.specs.declared.Job.{Job}
use Rattle.job.specs.declared.fault.Fault.{Fault}
use Rattle.job.specs.Columns.{Columns}
use Rattle.job.specs.Jobs.{job_of, JobSized}
use Rattle.job.specs.Faults.{line_of}
use Rattle.job.specs.Rules.{job_answer}
use Rattle.job.proofs.Checks.{Accepted, Refused}
use Rattle.job.proofs.Fine.{fine4}
use Rattle.job.proofs.Exact.{all_off, fine_of}
use Rattle.job.proofs.Fits.{accepted_fits}
use Rattle.direct.specs.Direct.{fault35, refused_with, totals_of_all, directed_of}
use Rattle.direct.specs.Walked.{Readable}

pub check_refused : (J : Columns) (fault : Fault) (counts : List ℕ) → Refused J fault → refused_with (line_of fault) ≡ directed_of J counts
unfolding directed_of
check_refused J fault counts r = ap refused_with r.line_is ∙ simp (ne_eqb (job_answer J) 0 r.not_zero)

pub handed_sized : (J : Columns) (job : Job) → Accepted J job → JobSized job
handed_sized J job h = subst JobSized (sym h.job_is) (accepted_fits J h.zero_is).sends.sized

module _ (J : Columns) (job : Job) (h : Accepted J job) (counts : List ℕ) where
  fault_is : (b : Bool) → fault35 job counts ≡ b → fault35 (job_of J) counts ≡ b
  fault_is b q = ap (λ j. fault35 j counts) (sym h.job_is) ∙ q

  pub counts_refused : fault35 job counts ≡ true → refused_with 35 ≡ directed_of J counts
  unfolding directed_of
  counts_refused q = simp (eq-eqb (job_answer J) 0 h.zero_is, fault_is true q)

  pub readable : fault35 job counts ≡ false → Readable job J.cylinders J.values counts
  readable q =
      let o = all_off J h.zero_is in
      subst (λ (j : Job). Readable j J.cylinders J.values counts) (sym h.job_is) record {
        job_fits = accepted_fits J h.zero_is;
        records_fit = fine4 J.cylinders J.values (fine_of J (λ j l. o j (omega arith))).line4;
        counts_fine = fault_is false q;
      }

  pub evaluated : fault35 job counts ≡ false → (totals : List Totals)
      → totals ≡ totals_of_all job J.cylinders J.values counts
      → record { totals = totals; answer = 0 } ≡ directed_of J counts
  unfolding directed_of
  evaluated q totals e =
      simp (
        eq-eqb (job_answer J) 0 h.zero_is,
        fault_is false q,
        e ∙ ap (λ j. totals_of_all j J.cylinders J.values counts) h.job_is,
      )
