-- A STEP OF 0 TO 63 IS POSSIBLE EXACTLY WHEN ITS PARTS SAY SO (`delivery_ready_lem`, `source_ready_lem`), and what a test that passed says
-- (`delivers_says`, `acts_says`).
use mathlib.Core.Path.{◌≡◌, refl, sym, ap, ◌∙◌}
use mathlib.Core.Bool.{Bool, true, false, cond, not, ◌&&◌, ◌||◌, false≢true}
use mathlib.Core.List.{List}
use Prim.Native.Nat.{ℕ, ◌-◌, ◌%◌, ◌≤◌, ◌<◌}
use native.Mathlib.Omega.{arith}
use lib.Dec.{eqb, ltb, leb}
use lib.IntN.{ℤ, nat_abs}
use lib.ListN.{set}
use borrow.Author.Tests.{lt-ltb, le-ltb, leb-true, leb-false, ltb-true, ltb-false, ne_eqb, eq-eqb}
use Rattle.channel.specs.declared.Cargo.{Cargo}
use Rattle.channel.specs.declared.Cargo.TheVariants.{Barrier, Record as Recorded}
use Rattle.channel.specs.declared.Channel.{Channel}
use Rattle.channel.specs.Channels.{without_head}
use Rattle.job.specs.declared.Job.{Job}
use Rattle.job.specs.Jobs.{kind_of, b_of, to_of, is_source}
use Rattle.run.specs.declared.Run.{Run}
use Rattle.run.specs.Fit.{channel_at, totals_at, flag_at, count_at}
use Rattle.outputs.specs.Outputs.{some_full, all_marked, all_stored}
use Rattle.outputs.specs.Parts.{all_marked_by}
use Rattle.step.specs.declared.Stepped.{Stepped}
use Rattle.step.specs.Algorithm.{answered, completed, barrier_received, record_received}
use Rattle.step.specs.Step.{with_cargo, with_taken, delivered, is_no_source, offset_of, source_read, barrier_sent, stepped}
use Rattle.step.proofs.Fitting.{cond_has}
use Rattle.lists.specs.Lists.{is_done}
use Rattle.drain.specs.Drains.{possible}
use Rattle.flat.specs.Columns.{head_of, is_barrier}
use Rattle.drain.specs.Ready.{head_moves, delivers_by, source_of, acts_by}

-- ---- tests turned round
pub ltb_not : (a b : ℕ) → ltb a b ≡ not (leb b a)
ltb_not a b = go (leb b a) refl
  where
    go : (t : Bool) → leb b a ≡ t → ltb a b ≡ not t
    go true e = le-ltb a b (leb-true b a e)
    go false e = lt-ltb a b (leb-false b a e)

-- ---- the answers, over plain tests
barrier_plain : (marks full : Bool) (run next : Run) (s : Stepped) → is_done s.answer ≡ true
    → is_done (cond marks (cond full (answered 14 run) s) (answered 0 next)).answer ≡ cond full (not marks) true
barrier_plain true true run next s e = refl
barrier_plain true false run next s e = e
barrier_plain false true run next s e = refl
barrier_plain false false run next s e = refl

record_plain : (full many : Bool) (run next : Run)
    → is_done (cond full (answered 14 run) (cond many (answered 17 run) (answered 0 next))).answer ≡ not full && not many
record_plain true many run next = refl
record_plain false true run next = refl
record_plain false false run next = refl

read_plain : (past source out full : Bool) (run next : Run)
    → is_done (cond (past || not source) (answered 11 run)
    (cond out (answered 13 run) (cond full (answered 14 run) (answered 0 next)))).answer
    ≡ cond (not past) (cond source (cond full false (not out)) false) false
read_plain true source out full run next = refl
read_plain false false out full run next = refl
read_plain false true true true run next = refl
read_plain false true true false run next = refl
read_plain false true false true run next = refl
read_plain false true false false run next = refl

sent_plain : (past source waits full : Bool) (run : Run) (s : Stepped) → is_done s.answer ≡ true
    → is_done (cond (past || not source) (answered 11 run) (cond (not waits) (answered 13 run) (cond full (answered 14 run) s))).answer
    ≡ cond (not past) (cond source (cond full false waits) false) false
sent_plain true source waits full run s e = refl
sent_plain false false waits full run s e = refl
sent_plain false true true true run s e = refl
sent_plain false true true false run s e = e
sent_plain false true false true run s e = refl
sent_plain false true false false run s e = refl

-- ---- the parts of a delivery, and those of a step of source t
abbrev pub delivery_ready : Job → Run → ℕ → Bool
delivery_ready job run n =
    delivers_by job.to run.marked job.channels n (channel_at run n).count (is_barrier (head_of (channel_at run n)))
    (some_full job run.channels (to_of job n)) (totals_at run.live (to_of job n)).count

abbrev pub source_ready : Job → Run → ℕ → ℕ → Bool
source_ready job run n t =
    acts_by n (ltb t job.tasks) (kind_of job t) (b_of job t) (offset_of run t) (ltb 0 (count_at run.waiting t))
    (some_full job run.channels t)

-- ---- the step by its number
pub by_delivery : (job : Job) (cs vs : List ℤ) (run : Run) (n : ℕ) → n < 32 → stepped job cs vs run n ≡ delivered job run n
unfolding stepped
by_delivery job cs vs run n l = simp (lt-ltb n 32 l)

pub by_read : (job : Job) (cs vs : List ℤ) (run : Run) (n : ℕ) → 32 ≤ n → n < 48
    → stepped job cs vs run n ≡ source_read job cs vs run (n - 32)
unfolding stepped
by_read job cs vs run n low high = simp (le-ltb n 32 low, lt-ltb n 48 high)

-- a barrier waits, or none does
pub none_waits : (n : ℕ) → eqb n 0 ≡ not (ltb 0 n)
none_waits n = go (ltb 0 n) refl
  where
    go : (b : Bool) → ltb 0 n ≡ b → eqb n 0 ≡ not b
    go true e = ne_eqb n 0 (let l = ltb-true 0 n e in omega arith)
    go false e = eq-eqb n 0 (let l = ltb-false 0 n e in omega arith)

by_sending : (job : Job) (cs vs : List ℤ) (run : Run) (n : ℕ) → 48 ≤ n → n < 64 → stepped job cs vs run n ≡ barrier_sent job run (n - 48)
unfolding stepped
by_sending job cs vs run n low high = simp (le-ltb n 32 (omega arith), le-ltb n 48 low, lt-ltb n 64 high)

module _ (job : Job) (run : Run) where
  completed_done : (next : Run) → is_done (completed job next).answer ≡ true
  unfolding completed
  completed_done next =
      cond_has (λ (s : Stepped). is_done s.answer ≡ true) (ltb 0 next.under_way && all_stored job next.stored) (λ _. refl)
      (λ _. refl)

  moves_ready : (c : ℕ) (cargo : Cargo) (rest : Channel) → is_done (with_cargo job run c cargo rest).answer
      ≡ head_moves job.to run.marked job.channels c (is_barrier cargo) (some_full job run.channels (to_of job c))
      (totals_at run.live (to_of job c)).count
  unfolding barrier_received record_received all_marked all_marked_by
  moves_ready c Barrier rest =
      barrier_plain (all_marked job (set run.marked c true) (to_of job c)) (some_full job run.channels (to_of job c)) run _ _
      (completed_done _)
  moves_ready c (Recorded r) rest =
      record_plain (some_full job run.channels (to_of job c)) (leb 1048576 (totals_at run.live (to_of job c)).count) run _
      ∙ ap (λ b. not (some_full job run.channels (to_of job c)) && b) (sym (ltb_not (totals_at run.live (to_of job c)).count 1048576))

  delivered_ready : (n : ℕ) → (channel_at run n).count ≤ 8 → is_done (delivered job run n).answer ≡ delivery_ready job run n
  unfolding delivered with_taken without_head delivers_by
  delivered_ready n room = go (leb job.channels n) refl (flag_at run.marked n) refl (eqb (channel_at run n).count 0) refl
    where
      go : (p : Bool) → leb job.channels n ≡ p → (m : Bool) → flag_at run.marked n ≡ m → (z : Bool)
          → eqb (channel_at run n).count 0 ≡ z → is_done (delivered job run n).answer ≡ delivery_ready job run n
      go true p m q z r = simp p
      go false p true q true r = simp (p, q, r)
      go false p true q false r = simp (p, q, r)
      go false p false q true r = simp (p, q, r, le-ltb 8 (channel_at run n).count room)
      go false p false q false r = simp (p, q, r, le-ltb 8 (channel_at run n).count room) (moves_ready n (head_of (channel_at run n)) _)

  read_ready : (cs vs : List ℤ) (n t : ℕ) → n < 48 → is_done (source_read job cs vs run t).answer ≡ source_ready job run n t
  unfolding source_read is_no_source acts_by
  read_ready cs vs n t high =
      simp (lt-ltb n 48 high, ltb_not t job.tasks, ltb_not (offset_of run t) (nat_abs (b_of job t)))
      (read_plain (leb job.tasks t) (is_source job t) (leb (nat_abs (b_of job t)) (offset_of run t)) (some_full job run.channels t) run
      _)

  sent_ready : (n t : ℕ) → 48 ≤ n → is_done (barrier_sent job run t).answer ≡ source_ready job run n t
  unfolding barrier_sent is_no_source acts_by
  sent_ready n t low =
      simp (le-ltb n 48 low, ltb_not t job.tasks, none_waits (count_at run.waiting t))
      (sent_plain (leb job.tasks t) (is_source job t) (ltb 0 (count_at run.waiting t)) (some_full job run.channels t) run _
      (completed_done _))

  module _ (cs vs : List ℤ) (n : ℕ) where
    pub delivery_ready_lem : n < 32 → (channel_at run n).count ≤ 8 → possible job cs vs run n ≡ delivery_ready job run n
    unfolding possible
    delivery_ready_lem l room = ap (λ (s : Stepped). is_done s.answer) (by_delivery job cs vs run n l) ∙ delivered_ready n room

    pub source_ready_lem : 32 ≤ n → n < 64 → possible job cs vs run n ≡ source_ready job run n (source_of n)
    unfolding possible
    source_ready_lem low high = go (ltb n 48) refl
      where
        go : (b : Bool) → ltb n 48 ≡ b → possible job cs vs run n ≡ source_ready job run n (n % 16)
        go true e =
            let l = ltb-true n 48 e in
            let t : n - 32 ≡ n % 16 = omega arith in
            ap (λ (s : Stepped). is_done s.answer) (by_read job cs vs run n low l) ∙ read_ready cs vs n (n - 32) l
            ∙ ap (source_ready job run n) t
        go false e =
            let h = ltb-false n 48 e in
            let t : n - 48 ≡ n % 16 = omega arith in
            ap (λ (s : Stepped). is_done s.answer) (by_sending job cs vs run n h high) ∙ sent_ready n (n - 48) h
            ∙ ap (source_ready job run n) t

-- ---- what a possible step says
pub record Delivers (channels c count : ℕ) (marked moves : Bool) : Type 0 where
  pub there : leb channels c ≡ false
  pub held : eqb count 0 ≡ false
  pub unmarked : marked ≡ false
  pub goes : moves ≡ true

pub delivers_says : (channels c count : ℕ) (marked moves : Bool)
    → cond (leb channels c) false (cond (eqb count 0) false (cond marked false moves)) ≡ true → Delivers channels c count marked moves
delivers_says channels c count marked moves = go (leb channels c) refl (eqb count 0) refl marked refl
  where
    go : (p : Bool) → leb channels c ≡ p → (z : Bool) → eqb count 0 ≡ z → (m : Bool) → marked ≡ m
        → cond p false (cond z false (cond m false moves)) ≡ true → Delivers channels c count marked moves
    go true p z q m r e = absurd (false≢true e)
    go false p true q m r e = absurd (false≢true e)
    go false p false q true r e = absurd (false≢true e)
    go false p false q false r e = record { there = p; held = q; unmarked = r; goes = e }

pub record Acts (there source full rest : Bool) : Type 0 where
  pub is_there : there ≡ true
  pub is_source_lem : source ≡ true
  pub room : full ≡ false
  pub acts : rest ≡ true

pub acts_says : (there source full rest : Bool) → cond there (cond source (cond full false rest) false) false ≡ true
    → Acts there source full rest
acts_says false source full rest e = absurd (false≢true e)
acts_says true false full rest e = absurd (false≢true e)
acts_says true true true rest e = absurd (false≢true e)
acts_says true true false rest e = record { is_there = refl; is_source_lem = refl; room = refl; acts = e }
