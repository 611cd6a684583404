-- One step as relations between the run that it finds and the run that it leaves, in the words of document 01 and of Algorithm 1 (source
-- document 001, section 4.2): the refusals of the step rules (`Refused`), and what the two handlers do on a task's own channels
-- (`Received`, `Marked`, `Passed`, `Sealed`). They are written without the definitions of `Step` and `Algorithm`; that the step keeps to
-- them is proved in `promises`.
use Rattle.std.specs.Prelude.{◌≡◌, true, false, List, [], ◌∷◌, ◌++◌, map, ℕ, ◌+◌, ◌<◌, ◌≤◌, nat_abs, length}
use Rattle.tally.specs.declared.Record.{Record}
use Rattle.tally.specs.Totals.{with_value}
use Rattle.channel.specs.declared.Cargo.{Cargo}
use Rattle.channel.specs.declared.Cargo.TheVariants.{Barrier, Record as Recorded}
use Rattle.channel.specs.declared.Item.{Item}
use Rattle.channel.specs.Channels.{held, barrier}
use Rattle.job.specs.declared.Job.{Job}
use Rattle.job.specs.Jobs.{b_of, from_of, to_of, is_source}
use Rattle.job.specs.Graph.{over_channel}
use Rattle.run.specs.declared.Run.{Run}
use Rattle.run.specs.Runs.{with_channels, with_marked, with_live, with_half, without_half, with_last, with_under_way}
use Rattle.run.specs.Fit.{channel_at, totals_at, flag_at, count_at}
use Rattle.step.specs.declared.Stepped.{Stepped}

-- arrays of the sizes that the run's type gives them
pub record Sized (run : Run) : Type 0 where
  pub channels : length run.channels ≡ 32
  pub items : (c : ℕ) → c < 32 → length (channel_at run c).items ≡ 8
  pub marked : length run.marked ≡ 32
  pub waiting : length run.waiting ≡ 16
  pub live : length run.live ≡ 16
  pub half : length run.half ≡ 16
  pub stored : length run.stored ≡ 16
  pub last : length run.last ≡ 16

-- the head of channel n; a task of the job that is a source; "every task has stored"
abbrev pub Head : Run → ℕ → Cargo → Type 0
Head run n x = (rest : List Item) × (held (channel_at run n) ≡ record { cargo = x } ∷ rest)

abbrev pub Source : Job → ℕ → Type 0
Source job t = (t < job.tasks) × (is_source job t ≡ true)

abbrev pub AllStored : Job → Run → Type 0
AllStored job run = (0 < run.under_way) × ((t : ℕ) → t < job.tasks → 0 < count_at run.stored t)

module _ (job : Job) (run : Run) where
  -- channel n is one of the job's, and not blocked
  abbrev pub Open : ℕ → Type 0
  Open n = (n < job.channels) × (flag_at run.marked n ≡ false)

  -- "some output channel of the task holds 8 items"
  abbrev pub Full : ℕ → Type 0
  Full t = (d : ℕ) × (d < job.channels) × (from_of job d ≡ t) × ((channel_at run d).count ≡ 8)

  -- "a barrier that completes the task's marks": every other input of the to_task of channel n is marked
  abbrev pub Completes : ℕ → Type 0
  Completes n = (d : ℕ) → d < job.channels → to_of job d ≡ to_of job n → (d ≡ n → ⊥) → flag_at run.marked d ≡ true

  -- THE STEP RULES' REFUSALS, in their order: step n is refused with the number k. 0 to 31 deliver, 32 + t reads, 48 + t sends, 64 begins
  pub data Refused : ℕ → ℕ → Type 0 where
    no_channel : {n : ℕ} → n < 32 → job.channels ≤ n → Refused n 11
    blocked : {n : ℕ} → n < job.channels → flag_at run.marked n ≡ true → Refused n 12
    empty : {n : ℕ} → Open n → held (channel_at run n) ≡ [] → Refused n 13
    no_room : {n : ℕ} {r : Record} → Open n → Head run n (Recorded r) → Full (to_of job n) → Refused n 14
    no_room_to_pass : {n : ℕ} → Open n → Head run n Barrier → Completes n → Full (to_of job n) → Refused n 14
    counted_out : {n : ℕ} {r : Record} → Open n → Head run n (Recorded r) → (Full (to_of job n) → ⊥)
        → (totals_at run.live (to_of job n)).count ≡ 1048576 → Refused n 17
    cannot_read : {t : ℕ} → t < 16 → (Source job t → ⊥) → Refused (32 + t) 11
    read_out : {t : ℕ} → Source job t → (totals_at run.live t).count ≡ nat_abs (b_of job t) → Refused (32 + t) 13
    no_room_to_read : {t : ℕ} → Source job t → (totals_at run.live t).count < nat_abs (b_of job t) → Full t → Refused (32 + t) 14
    cannot_send : {t : ℕ} → t < 16 → (Source job t → ⊥) → Refused (48 + t) 11
    none_waits : {t : ℕ} → Source job t → count_at run.waiting t ≡ 0 → Refused (48 + t) 13
    no_room_to_send : {t : ℕ} → Source job t → 0 < count_at run.waiting t → Full t → Refused (48 + t) 14
    under_way : 1 ≤ run.under_way → Refused 64 15
    no_such_step : {n : ℕ} → 66 ≤ n → Refused n 11

-- ---- what a step does from a run `x` to a run `y`: what changes, and in the last field that nothing else does
module _ (job : Job) (x y : Run) where
  pub record HeadTaken (n : ℕ) (cargo : Cargo) : Type 0 where
    pub head : held (channel_at x n) ≡ record { cargo = cargo } ∷ held (channel_at y n)
    pub others : (d : ℕ) → (d ≡ n → ⊥) → channel_at y d ≡ channel_at x d
    pub rest : y ≡ with_channels y.channels x

  -- each output of task t holds so much more, at its end
  pub record Sent (t : ℕ) (more : ℕ → List Item) : Type 0 where
    pub outputs : (d : ℕ) → d < job.channels → from_of job d ≡ t → held (channel_at y d) ≡ held (channel_at x d) ++ more d
    pub others : (d : ℕ) → (d < job.channels → from_of job d ≡ t → ⊥) → channel_at y d ≡ channel_at x d

  -- Algorithm 1, 18 to 21: the record updates the state of task t, "then is sent by the kind's rule"
  pub record Received (t : ℕ) (r : Record) : Type 0 where
    pub state : totals_at y.live t ≡ with_value (totals_at x.live t) r.value
    pub states : (u : ℕ) → (u ≡ t → ⊥) → totals_at y.live u ≡ totals_at x.live u
    pub sent : Sent t (λ d. map (λ z. record { cargo = Recorded z }) (over_channel job d r))
    pub rest : y ≡ with_channels y.channels (with_live y.live x)

  -- 8, 9: a barrier marks its channel
  pub record Marked (n : ℕ) : Type 0 where
    pub mark : flag_at y.marked n ≡ true
    pub marks : (d : ℕ) → (d ≡ n → ⊥) → flag_at y.marked d ≡ flag_at x.marked d
    pub rest : y ≡ with_marked y.marked x

  -- 10 to 15: task t clears the marks of its inputs, stores its state and puts a barrier on every output
  pub record Passed (t : ℕ) : Type 0 where
    pub cleared : (d : ℕ) → d < job.channels → to_of job d ≡ t → flag_at y.marked d ≡ false
    pub marks : (d : ℕ) → (d < job.channels → to_of job d ≡ t → ⊥) → flag_at y.marked d ≡ flag_at x.marked d
    pub state : (totals_at y.half t ≡ totals_at x.live t) × (count_at y.stored t ≡ 1)
    pub states : (u : ℕ) → (u ≡ t → ⊥) → (totals_at y.half u ≡ totals_at x.half u) × (count_at y.stored u ≡ count_at x.stored u)
    pub sent : Sent t (λ d. barrier ∷ [])
    pub rest : y ≡ with_channels y.channels (with_half y.half y.stored (with_marked y.marked x))

-- "After a step that stored a task's totals, and only then: if a snapshot is under way and every task has stored, it becomes the last
-- complete one, the half-taken totals are emptied and none is under way."
pub record Sealed (job : Job) (x : Run) (s : Stepped) : Type 0 where
  pub all : AllStored job x → s ≡ record { run = with_under_way 0 (without_half (with_last x.half true x)); answer = 20 }
  pub not_all : (AllStored job x → ⊥) → s ≡ record { run = x; answer = 0 }
