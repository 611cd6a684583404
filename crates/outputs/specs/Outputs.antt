-- A task's outputs and inputs, as the step rules speak of them: "some output channel of the task holds 8 items", "all inputs of the task
-- are marked", "every task has stored", and what a barrier or a received record puts on every output.
use Rattle.std.specs.Prelude.{◌≡◌, refl, Bool, true, false, cond, not, ◌&&◌, ◌||◌, List, ℕ, zero, suc, ◌+◌, ltb, leb, get_or, set, Option, None, Some}
use Rattle.tally.specs.declared.Record.{Record}
use Rattle.channel.specs.declared.Cargo.{Cargo}
use Rattle.channel.specs.declared.Cargo.TheVariants.{Barrier, Record as Recorded}
use Rattle.channel.specs.declared.Channel.{Channel}
use Rattle.channel.specs.Channels.{with_item}
use Rattle.job.specs.declared.Job.{Job}
use Rattle.job.specs.Tests.{some, every}
use Rattle.job.specs.Jobs.{is_source, is_input, is_output, place_of}
use Rattle.job.specs.Graph.{sent_by}
use Rattle.run.specs.Runs.{no_channel}

-- "some output channel of the task holds 8 items"
abbrev pub is_full : Channel → Bool
is_full ch = leb 8 ch.count

unfoldable pub some_full : Job → List Channel → ℕ → Bool
some_full job held t = some (λ c. is_output job t c && is_full (get_or held c no_channel)) job.channels

-- "all inputs of the task are marked"
unfoldable pub all_marked : Job → List Bool → ℕ → Bool
all_marked job marked t = every (λ c. not (is_input job t c) || get_or marked c false) job.channels

-- "every task has stored"
unfoldable pub all_stored : Job → List ℕ → Bool
all_stored job stored = every (λ t. ltb 0 (get_or stored t 0)) job.tasks

-- ---- each place below n anew, from what it held
module _ {A : Type 0} where
  unfoldable pub each_place : A → (ℕ → A → A) → List A → ℕ → List A
  each_place d f l zero = l
  each_place d f l (suc i) = set (each_place d f l i) i (f i (get_or (each_place d f l i) i d))

-- "clears these marks": those of the task's inputs
unfoldable pub unmarked : Job → List Bool → ℕ → List Bool
unmarked job marked t = each_place false (λ c mark. mark && not (is_input job t c)) marked job.channels

-- "every source gets a waiting barrier". Of those that waited no more stay than the n under way: with none under way, one waits then
abbrev pub at_most_of : ℕ → ℕ → ℕ
at_most_of n x = cond (ltb n x) n x

abbrev pub one_more_waits : ℕ → Bool → ℕ → ℕ
one_more_waits n source waits = cond source (at_most_of n waits + 1) waits

pub one_waits : (one_more_waits 0 true 0 ≡ 1) × (one_more_waits 0 true 1 ≡ 1) × (one_more_waits 0 false 1 ≡ 1) × (one_more_waits 2 true 2 ≡ 3)
one_waits = (refl, refl, refl, refl)

unfoldable pub sources_wait : Job → ℕ → List ℕ → List ℕ
sources_wait job n waiting = each_place 0 (λ t waits. one_more_waits n (is_source job t) waits) waiting job.tasks

-- ---- on every output
abbrev pub put : Channel → Cargo → Channel
put ch cargo = (with_item ch (record { cargo = cargo })).channel

abbrev pub put_sent : Channel → Option Record → Channel
put_sent ch None = ch
put_sent ch (Some r) = put ch (Recorded r)

-- a barrier goes on every output; a record is "sent by the kind's rule"
abbrev pub carried : Job → ℕ → ℕ → ℕ → Cargo → Channel → Channel
carried job t place outputs Barrier ch = put ch Barrier
carried job t place outputs (Recorded r) ch = put_sent ch (sent_by job t place outputs r)

unfoldable pub put_on : Job → ℕ → Cargo → ℕ → Channel → Channel
put_on job t cargo c ch = cond (is_output job t c) (carried job t (place_of job t c) (place_of job t job.channels) cargo ch) ch

unfoldable pub put_all : Job → ℕ → Cargo → List Channel → List Channel
put_all job t cargo held = each_place no_channel (put_on job t cargo) held job.channels
