-- The fit of a run (document 01, answer 16), clause by clause (`Fits`): first those of the document's sentence, in its order,
--   "It fits when every channel holds at most 8 items with cylinders 1 to 20; things are held only for tasks and channels that the job
--    has; a barrier waits only at sources; and in the live, half-taken and last complete totals each count is at most 1,048,576, a
--    source's count at most its b, the sum between -2^31 and 2^31 - 1 times the count, and least and greatest 0 where the count is 0."
-- then what the run's type leaves open: "Not covered: .. more than one snapshot under way".
-- Below it stands the test that the code computes (`run_fits`), place by place; that the two agree, both ways and for any run whatever, is
-- `fits_exact` in proofs/Clauses.antt. The rules on totals are asked of all three sets, whatever else the run says.
use Rattle.std.specs.Prelude.{◌≡◌, Bool, true, false, cond, not, ◌&&◌, ◌||◌, List, ℕ, ◌*◌, ◌<◌, ◌≤◌, eqb, ltb, leb, ℤ, pos, neg_ℤ, nat_abs, get_or}
use Rattle.std.specs.Int.Signed.{le_z}
use Rattle.tally.specs.declared.Totals.{Totals}
use Rattle.tally.specs.Totals.{no_totals}
use Rattle.kinds.specs.Kinds.{within, is_value}
use Rattle.channel.specs.declared.Cargo.{Cargo}
use Rattle.channel.specs.declared.Cargo.TheVariants.{Barrier, Record}
use Rattle.channel.specs.declared.Channel.{Channel}
use Rattle.channel.specs.Channels.{barrier}
use Rattle.job.specs.declared.Job.{Job}
use Rattle.job.specs.Tests.{every}
use Rattle.job.specs.Jobs.{kind_of, b_of, is_source}
use Rattle.run.specs.declared.Run.{Run}
use Rattle.run.specs.Runs.{no_channel}

-- ---- reading a run
abbrev pub channel_at : Run → ℕ → Channel
channel_at run c = get_or run.channels c no_channel

abbrev pub totals_at : List Totals → ℕ → Totals
totals_at l t = get_or l t no_totals

abbrev pub flag_at : List Bool → ℕ → Bool
flag_at l i = get_or l i false

abbrev pub count_at : List ℕ → ℕ → ℕ
count_at l i = get_or l i 0

-- ---- the clauses
-- "cylinders 1 to 20"; a value is always one of 32 bits: so says its type
abbrev pub cargo_fits : Cargo → Bool
cargo_fits Barrier = true
cargo_fits (Record r) = leb 1 r.cylinder && leb r.cylinder 20 && is_value r.value

-- "the sum between -2^31 and 2^31 - 1 times the count"
abbrev pub sum_fits : ℤ → ℕ → Bool
sum_fits sum count = le_z (neg_ℤ (pos (count * 2147483648))) sum && le_z sum (pos (count * 2147483647))

abbrev pub is_zero : ℤ → Bool
is_zero z = within (pos 0) z (pos 0)

-- "every channel holds at most 8 items with cylinders 1 to 20"
pub record ChannelFits (ch : Channel) : Type 0 where
  pub room : ch.count ≤ 8
  pub cylinders : (j : ℕ) → j < ch.count → cargo_fits (get_or ch.items j barrier).cargo ≡ true

-- "each count is at most 1,048,576, a source's count at most its b, the sum between .., and least and greatest 0 where the count is 0"
pub record TotalsFit (job : Job) (t : ℕ) (x : Totals) : Type 0 where
  pub counts : x.count ≤ 1048576
  pub source : is_source job t ≡ true → x.count ≤ nat_abs (b_of job t)
  pub sums : sum_fits x.sum x.count ≡ true
  pub empty : x.count ≡ 0 → (x.least ≡ pos 0) × (x.greatest ≡ pos 0)

-- "in the live, half-taken and last complete totals"
pub record TaskFits (job : Job) (run : Run) (t : ℕ) : Type 0 where
  pub live : TotalsFit job t (totals_at run.live t)
  pub half : TotalsFit job t (totals_at run.half t)
  pub last : TotalsFit job t (totals_at run.last t)

-- nothing is held for a task
pub record NothingHeld (run : Run) (t : ℕ) : Type 0 where
  pub live : totals_at run.live t ≡ no_totals
  pub half : totals_at run.half t ≡ no_totals
  pub last : totals_at run.last t ≡ no_totals
  pub stored : count_at run.stored t ≡ 0
  pub waiting : count_at run.waiting t ≡ 0

pub record Fits (job : Job) (run : Run) : Type 0 where
  pub channels : (c : ℕ) → c < 32 → ChannelFits (channel_at run c)
  -- "things are held only for tasks and channels that the job has"
  pub no_channel : (c : ℕ) → job.channels ≤ c → c < 32 → ((channel_at run c).count ≡ 0) × (flag_at run.marked c ≡ false)
  pub no_task : (t : ℕ) → job.tasks ≤ t → t < 16 → NothingHeld run t
  -- "a barrier waits only at sources"
  pub waits : (t : ℕ) → t < job.tasks → 0 < count_at run.waiting t → is_source job t ≡ true
  pub totals : (t : ℕ) → t < job.tasks → TaskFits job run t
  -- "Not covered: .. more than one snapshot under way": so a task has stored one at most, and one barrier at most waits at it
  pub few : run.under_way ≤ 1
  pub counts : (t : ℕ) → t < 16 → (count_at run.stored t ≤ 1) × (count_at run.waiting t ≤ 1)

-- ---- the test
unfoldable pub channel_fits : Channel → Bool
channel_fits ch = leb ch.count 8 && every (λ j. cargo_fits (get_or ch.items j barrier).cargo) ch.count

unfoldable pub place_fits : Channel → Bool → ℕ → ℕ → Bool
place_fits ch mark c channels = channel_fits ch && (ltb c channels || eqb ch.count 0 && not mark)

unfoldable pub channels_fit : Run → ℕ → Bool
channels_fit run channels = every (λ c. place_fits (channel_at run c) (flag_at run.marked c) c channels) 32

-- with the limit 0 the totals are all zero
unfoldable pub totals_fit : Totals → ℕ → Bool
totals_fit x limit =
    leb x.count limit && (sum_fits x.sum x.count && (not (eqb x.count 0) || is_zero x.least && is_zero x.greatest))

-- of a task that is there or not, by its kind and b
abbrev pub limit_by : Bool → ℕ → ℤ → ℕ
limit_by there kind b = cond there (cond (eqb kind 0) (nat_abs b) 1048576) 0

unfoldable pub limit_of : Job → ℕ → ℕ
limit_of job t = limit_by (ltb t job.tasks) (kind_of job t) (b_of job t)

-- "held only for tasks .. that the job has", and "a barrier waits only at sources"
abbrev pub counts_fit : Bool → Bool → ℕ → ℕ → Bool
counts_fit task source stored waiting =
    leb stored 1 && leb waiting 1 && (task || eqb stored 0) && (eqb waiting 0 || task && source)

unfoldable pub task_fits : Job → Run → ℕ → Bool
task_fits job run t =
    counts_fit (ltb t job.tasks) (is_source job t) (count_at run.stored t) (count_at run.waiting t)
    && totals_fit (totals_at run.live t) (limit_of job t)
    && totals_fit (totals_at run.half t) (limit_of job t)
    && totals_fit (totals_at run.last t) (limit_of job t)

unfoldable pub tasks_fit : Job → Run → Bool
tasks_fit job run = every (task_fits job run) 16

unfoldable pub run_fits : Job → Run → Bool
run_fits job run = channels_fit run job.channels && tasks_fit job run && leb run.under_way 1
