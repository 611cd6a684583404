-- What is promised of grown runs, in document 01's words and over the definitions that the contracts of `station` cite. J are the lent
-- columns of an accepted job, ks the numbers of the steps by which the run was grown: any numbers, refused ones, snapshots and cuts among
-- them. Each statement is proved for all of them in proofs/Promised.antt, under the name that stands with it.
use Rattle.std.specs.Prelude.{◌≡◌, true, List, [], ◌∷◌, ◌++◌, ◌⊎◌, ℕ, ◌+◌, ◌*◌, ◌<◌, ◌≤◌, nat_abs, length, get_or}
use Rattle.laws.specs.Step.{NoCut}
use Rattle.job.specs.Columns.{Columns}
use Rattle.job.specs.Jobs.{job_of, b_of, is_source}
use Rattle.direct.specs.Direct.{directed_of}
use Rattle.run.specs.declared.Run.{Run}
use Rattle.run.specs.Fit.{Fits, channel_at, totals_at, count_at}
use Rattle.step.specs.Step.{offset_of, last_or_none}
use Rattle.drain.specs.declared.Drained.{Drained}
use Rattle.station.specs.Entries.{step_on, steps_on, drain_on}
use Rattle.promises.specs.Grown.{grown, notes_at, counts_for, whole_parts, steps_done, snapshots_begun}
use Rattle.promises.specs.Grown.{sent_on, delivered_from, records_in, records_read, records_sent, sources_of}

-- "nothing is left (parts read out, channels empty, no barrier waiting, no snapshot under way)"
pub record NothingLeft (J : Columns) (run : Run) : Type 0 where
  pub read_out : (s : ℕ) → s < (job_of J).tasks → is_source (job_of J) s ≡ true → offset_of run s ≡ nat_abs (b_of (job_of J) s)
  pub empty : (c : ℕ) → c < (job_of J).channels → (channel_at run c).count ≡ 0
  pub none_waits : (s : ℕ) → s < (job_of J).tasks → count_at run.waiting s ≡ 0
  pub none_under_way : run.under_way ≡ 0

module _ (J : Columns) (ks : List ℕ) where
  -- a drain of the grown run, and the steps of 0 to 63 that it is, all of them done
  abbrev pub drained : ℕ → Drained
  drained limit = drain_on J (grown J ks) limit

  pub record DrainSteps (limit : ℕ) : Type 0 where
    pub numbers : List ℕ
    pub early : (i : ℕ) → i < length numbers → get_or numbers i 0 < 64
    pub leads : (drained limit).run ≡ grown J (ks ++ numbers)
    pub many : (drained limit).steps ≡ length numbers
    pub done : steps_done J (ks ++ numbers) ≡ steps_done J ks + length numbers

  -- 1 (`grown_runs`). "a run grown from a fresh one by one accepted job on unchanged records": it fits, so that no call answers 16; and
  -- whatever calls a host mixes, step, list or drain, the run is again a grown one
  pub record GrownRun : Type 0 where
    pub fits : Fits (job_of J) (grown J ks)
    pub step_not_16 : (k : ℕ) → (step_on J (grown J ks) k).answer ≡ 16 → ⊥
    pub step_grown : (k : ℕ) → (step_on J (grown J ks) k).run ≡ grown J (ks ++ (k ∷ []))
    -- "A list of steps is done in order .. The answer is 0, with the number done and the number refused."
    pub list_answer : (more : List ℕ) → (steps_on J (grown J ks) more).answer ≡ 0
    pub list_grown : (more : List ℕ) → (steps_on J (grown J ks) more).run ≡ grown J (ks ++ more)
    pub list_done : (more : List ℕ) → steps_done J ks + (steps_on J (grown J ks) more).done ≡ steps_done J (ks ++ more)
    pub drain_not_16 : (limit : ℕ) → (drained limit).answer ≡ 16 → ⊥
    pub drain_grown : (limit : ℕ) → DrainSteps limit

  -- 2 (`snapshots`). Demand 3: each complete snapshot holds, for every task, direct evaluation's totals at the offsets where its sources
  -- sent that snapshot's barrier. Its sources' counts are the onlooker's notes, so that "a snapshot that stores zero offsets" is refused;
  -- the call `direct` at these notes answers 0 with its totals. Where no 20 was seen there is none, and a cut would restore all zeros
  pub record Snapshots : Type 0 where
    pub seen : (grown J ks).complete ≡ (notes_at J ks).any
    pub offsets : (s : ℕ) → s < (job_of J).tasks → is_source (job_of J) s ≡ true
        → (totals_at (last_or_none (grown J ks)) s).count ≡ (notes_at J ks).complete s
    pub totals : directed_of J (counts_for J (notes_at J ks).complete) ≡ record { totals = last_or_none (grown J ks); answer = 0 }

  -- 3 (`drain_ends`). "On a run grown .., with cuts or without, one of the two always comes, and it is 0 whenever the limit is 67,108,864
  -- or more." After a 0 nothing is left, a snapshot that was under way is complete, and the live totals are direct evaluation's over every
  -- record that the sources are to read, as if no cut had been made
  pub record DrainEnds (limit : ℕ) : Type 0 where
    pub answers : ((drained limit).answer ≡ 0) ⊎ ((drained limit).answer ≡ 18)
    pub enough : 67_108_864 ≤ limit → (drained limit).answer ≡ 0
    pub nothing_left : (drained limit).answer ≡ 0 → NothingLeft J (drained limit).run
    pub completes : (drained limit).answer ≡ 0 → 0 < (grown J ks).under_way → (drained limit).run.complete ≡ true
    pub totals : (drained limit).answer ≡ 0 → directed_of J (whole_parts J) ≡ record { totals = (drained limit).run.live; answer = 0 }
    -- "18 when the limit is spent and something is left, with the steps done"
    pub spent : (drained limit).answer ≡ 18 → (drained limit).steps ≡ limit

  -- 4 (`step_formula`). "Without cuts, on a run so grown: steps done before plus the steps of a drain that answers 0 equal (records read
  -- in all) + (records that direct evaluation sends over all channels) + (snapshots begun) x (1 + sources + channels)."
  abbrev pub StepFormula : ℕ → Type 0
  StepFormula limit =
      NoCut ks → (drained limit).answer ≡ 0
      → steps_done J ks + (drained limit).steps
      ≡ records_read J + records_sent J + snapshots_begun J ks * (1 + sources_of J + (job_of J).channels)

  -- 5 (`conserved`). "At every moment of such a run, records sent on a channel equal records delivered from it plus those in it."
  abbrev pub Conserved : Type 0
  Conserved = NoCut ks → (c : ℕ) → c < (job_of J).channels → sent_on J ks c ≡ delivered_from J ks c + records_in (grown J ks) c

  -- 6 (`silent`). Request m: 17 and 19 are never answered on a grown run
  pub record Silent : Type 0 where
    pub step_not_17 : (k : ℕ) → (step_on J (grown J ks) k).answer ≡ 17 → ⊥
    pub drain_not_19 : (limit : ℕ) → (drained limit).answer ≡ 19 → ⊥
