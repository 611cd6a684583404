-- The conditions of step/specs/Handlers.antt and the tests of the step rules say the same, on a run that fits; what a delivery finds at
-- the head; and when a call is admitted.
use mathlib.Core.Path.{◌≡◌, refl, sym, ap, ◌∙◌}
use mathlib.Core.Bool.{Bool, true, false, not, ◌&&◌, ◌||◌, true≢false}
use mathlib.Core.List.{List, [], ◌∷◌}
use mathlib.Core.Logic.{◌↔◌}
use Prim.Native.Nat.{ℕ, ◌+◌, ◌-◌, ◌<◌, ◌≤◌}
use native.Mathlib.Omega.{arith}
use borrow.Author.Tests.{eqb-true, eqb-false, eq-eqb, ne_eqb, lt-ltb, le-ltb, le-leb, lt-leb, leb-true}
use lib.Dec.{eqb}
use lib.IntN.{ℤ}
use lib.ListN.{length, get_or, set}
use lib.Seq.{length-take-le, get_or-set_same, get_or-set_other}
use Rattle.channel.specs.declared.Cargo.{Cargo}
use Rattle.channel.specs.declared.Channel.{Channel}
use Rattle.channel.specs.Channels.{held, barrier, without_head}
use Rattle.channel.proofs.Queues.{taken_0, taken_13, taken_holds}
use Rattle.job.specs.declared.Job.{Job}
use Rattle.job.specs.Columns.{Columns}
use Rattle.job.specs.Jobs.{JobSized, job_of, to_of, from_of, is_input, is_output}
use Rattle.job.specs.Rules.{job_answer}
use Rattle.job.proofs.Fits.{accepted_fits}
use Rattle.job.proofs.Tests.{some_one, one_some, every_all, all_every}
use Rattle.job.proofs.Bools.{both_true}
use Rattle.run.specs.declared.Run.{Run}
use Rattle.run.specs.Runs.{no_channel}
use Rattle.run.specs.Fit.{Fits, run_fits, channel_at, flag_at}
use Rattle.run.proofs.Clauses.{and_of, fits_exact}
use Rattle.outputs.specs.Outputs.{is_full, some_full, all_marked}
use Rattle.step.specs.Algorithm.{answered}
use Rattle.step.specs.Step.{with_cargo, delivered, is_no_source, source_read, barrier_sent, begun, cut_off, stepped}
use Rattle.step.proofs.Sources.{opened, given, not_given, source_is}
use Rattle.step.specs.Handlers.{Sized, Head, Source, Open, Full, Completes}
use Rattle.station.specs.Entries.{entry}
use Rattle.station.proofs.Admission.{entry_by}

-- a test that does not pass where the condition does not hold
pub fails : {P : Type 0} (b : Bool) → (b ≡ true → P) → (P → ⊥) → b ≡ false
fails true f n = absurd (n (f refl))
fails false f n = refl

module _ (job : Job) (Z : JobSized job) (run : Run) (F : Fits job run) (S : Sized run) where
  -- ---- "some output channel of the task holds 8 items"
  pub full_is : (t : ℕ) → some_full job run.channels t ≡ true → Full job run t
  unfolding some_full
  full_is t e =
      let w = some_one (λ c. is_output job t c && is_full (get_or run.channels c no_channel)) job.channels e in
      let b = both_true (is_output job t w.0) (is_full (channel_at run w.0)) w.2 in
      let l : w.0 < 32 = omega (arith, Z.few_channels, w.1) in
      let least : 8 ≤ (channel_at run w.0).count = leb-true 8 (channel_at run w.0).count b.1 in
      let eight : (channel_at run w.0).count ≡ 8 = omega (arith, least, (F.channels w.0 l).room) in
      (w.0, w.1, eqb-true (from_of job w.0) t b.0, eight)

  pub is_full_lem : (t : ℕ) → Full job run t → some_full job run.channels t ≡ true
  unfolding some_full
  is_full_lem t (d, l, e, q) =
      one_some (λ c. is_output job t c && is_full (get_or run.channels c no_channel)) job.channels d l
      (and_of _ _ (eq-eqb (from_of job d) t e) (le-leb 8 (channel_at run d).count (omega arith)))

  pub not_full : (t : ℕ) → (Full job run t → ⊥) → some_full job run.channels t ≡ false
  not_full t = fails (some_full job run.channels t) (full_is t)

  pub no_full : (t : ℕ) → some_full job run.channels t ≡ false → Full job run t → ⊥
  no_full t e f = true≢false (sym (is_full_lem t f) ∙ e)

  -- ---- "a barrier that completes the task's marks"
  module _ (n : ℕ) (l : n < job.channels) where
    mark_at : (d : ℕ) (b : Bool) → eqb d n ≡ b → ((d ≡ n → ⊥) → flag_at run.marked d ≡ true)
        → get_or (set run.marked n true) d false ≡ true
    mark_at d true q h =
        ap (λ i. get_or (set run.marked n true) i false) (eqb-true d n q)
        ∙ get_or-set_same run.marked n true false (omega (arith, S.marked, Z.few_channels))
    mark_at d false q h = let ne = eqb-false d n q in get_or-set_other run.marked n d true false ne ∙ h ne

    pub is_completing : Completes job run n → all_marked job (set run.marked n true) (to_of job n) ≡ true
    unfolding all_marked
    is_completing h = all_every (λ c. not (is_input job (to_of job n) c) || get_or (set run.marked n true) c false) job.channels one
      where
        go : (d : ℕ) → d < job.channels → (b : Bool) → eqb (to_of job d) (to_of job n) ≡ b
            → not b || get_or (set run.marked n true) d false ≡ true
        go d ld true q = mark_at d (eqb d n) refl (h d ld (eqb-true (to_of job d) (to_of job n) q))
        go d ld false q = refl

        one : (d : ℕ) → d < job.channels → not (is_input job (to_of job n) d) || get_or (set run.marked n true) d false ≡ true
        one d ld = go d ld (eqb (to_of job d) (to_of job n)) refl

    pub completing_is : all_marked job (set run.marked n true) (to_of job n) ≡ true → Completes job run n
    unfolding all_marked
    completing_is e d ld to ne =
        sym (get_or-set_other run.marked n d true false ne)
        ∙ go (is_input job (to_of job n) d) (eq-eqb (to_of job d) (to_of job n) to)
        (every_all (λ c. not (is_input job (to_of job n) c) || get_or (set run.marked n true) c false) job.channels e d ld)
      where
        go : (b : Bool) → b ≡ true → {x : Bool} → not b || x ≡ true → x ≡ true
        go true q p = p
        go false q p = absurd (true≢false (sym q))

    pub not_completing : (Completes job run n → ⊥) → all_marked job (set run.marked n true) (to_of job n) ≡ false
    not_completing = fails (all_marked job (set run.marked n true) (to_of job n)) completing_is

  -- ---- sources
  pub is_source_lem : (t : ℕ) → Source job t → is_no_source job t ≡ false
  unfolding is_no_source
  is_source_lem t (l, e) = simp (lt-leb job.tasks t l, e)

  pub no_source : (t : ℕ) → (Source job t → ⊥) → is_no_source job t ≡ true
  no_source t n = go (is_no_source job t) refl
    where
      go : (b : Bool) → is_no_source job t ≡ b → b ≡ true
      go true e = refl
      go false e = absurd (n (source_is job t e))

  -- ---- the head
  module _ (n : ℕ) (o : Open job run n) where
    in_32 : n < 32
    in_32 = omega (arith, Z.few_channels, o.0)

    abbrev ch : Channel
    ch = channel_at run n

    as_many : length (held ch) ≡ ch.count
    as_many = length-take-le ch.count ch.items (omega (arith, S.items n in_32, (F.channels n in_32).room))

    pub head_count : (x : Cargo) → Head run n x → 0 < ch.count
    head_count x (rest, e) = omega (arith, as_many, ap length e)

    pub empty_count : held ch ≡ [] → ch.count ≡ 0
    empty_count e = omega (arith, as_many, ap length e)

    pub taken_rest : 0 < ch.count → held ch ≡ (without_head ch).item ∷ held (without_head ch).channel
    taken_rest p = taken_holds ch (S.items n in_32) p (F.channels n in_32).room

    pub head_is : (x : Cargo) → Head run n x → (without_head ch).item.cargo ≡ x
    head_is x h = ap (λ l. (get_or l 0 barrier).cargo) (sym (taken_rest (head_count x h)) ∙ h.1)

    pub at_head : (x : Cargo) → Head run n x → delivered job run n ≡ with_cargo job run n x (without_head ch).channel
    at_head x h =
        sym (opened job run n (without_head ch) o.0 o.1 refl)
        ∙ sym (given job run n (without_head ch) x (taken_0 ch (head_count x h) (F.channels n in_32).room) (head_is x h))

    pub at_empty : ch.count ≡ 0 → delivered job run n ≡ answered 13 run
    at_empty e =
        let a : (without_head ch).answer ≡ 13 = ap (λ g. g.answer) (taken_13 ch e) in
        sym (opened job run n (without_head ch) o.0 o.1 refl)
        ∙ sym (not_given job run n (without_head ch) (λ z. omega (arith, a, z))) ∙ ap (λ k. answered k run) a

-- ---- a step by its number
module _ (job : Job) (c v : List ℤ) (run : Run) where
  pub at_delivery : (n : ℕ) → n < 32 → stepped job c v run n ≡ delivered job run n
  unfolding stepped
  at_delivery n l = simp (lt-ltb n 32 l)

  pub at_read : (t : ℕ) → t < 16 → stepped job c v run (32 + t) ≡ source_read job c v run t
  unfolding stepped
  at_read t l =
      let e : 32 + t - 32 ≡ t = omega arith in
      let p : stepped job c v run (32 + t) ≡ source_read job c v run (32 + t - 32) =
      simp (le-ltb (32 + t) 32 (omega arith), lt-ltb (32 + t) 48 (omega arith)) in
      p ∙ ap (source_read job c v run) e

  pub at_send : (t : ℕ) → t < 16 → stepped job c v run (48 + t) ≡ barrier_sent job run t
  unfolding stepped
  at_send t l =
      let e : 48 + t - 48 ≡ t = omega arith in
      let p : stepped job c v run (48 + t) ≡ barrier_sent job run (48 + t - 48) =
      simp (le-ltb (48 + t) 32 (omega arith), le-ltb (48 + t) 48 (omega arith), lt-ltb (48 + t) 64 (omega arith)) in
      p ∙ ap (barrier_sent job run) e

  pub at_begin : stepped job c v run 64 ≡ begun job run
  unfolding stepped
  at_begin = refl

  pub at_cut : stepped job c v run 65 ≡ answered 0 (cut_off run)
  unfolding stepped
  at_cut = refl

  pub at_none : (n : ℕ) → 66 ≤ n → stepped job c v run n ≡ answered 11 run
  unfolding stepped
  at_none n h =
      simp (
        le-ltb n 32 (omega arith),
        le-ltb n 48 (omega arith),
        le-ltb n 64 (omega arith),
        ne_eqb n 64 (λ e. omega arith),
        ne_eqb n 65 (λ e. omega arith),
      )

-- ---- 1 to 9, then 16: a call is admitted exactly on an accepted job and a run that fits
module _ (J : Columns) where
  module _ (run : Run) (z : job_answer J ≡ 0) where
    exactly : (run_fits (job_of J) run ≡ true) ↔ Fits (job_of J) run
    exactly = fits_exact (job_of J) (accepted_fits J z).sends.sized run

    pub entry_fits : Fits (job_of J) run → entry J run ≡ 0
    entry_fits F = entry_by J run true z (exactly.1 F)

    pub entry_misfits : (Fits (job_of J) run → ⊥) → entry J run ≡ 16
    entry_misfits n = entry_by J run false z (fails (run_fits (job_of J) run) exactly.0 n)
