-- The parts of a step that a loop over the channels asks for, told by numbers, columns, one cargo and one channel. That they are those of
-- the step rules, which are told of a job, is `marked_by` and `put_by_lem` in proofs/Sending.antt.
use Rattle.std.specs.Prelude.{Bool, false, not, ◌||◌, List, ℕ, eqb, ℤ, get_or}
use Rattle.tally.specs.declared.Record.{Record}
use Rattle.kinds.specs.Kinds.{sent_on}
use Rattle.channel.specs.declared.Cargo.{Cargo}
use Rattle.channel.specs.declared.Cargo.TheVariants.{Barrier, Record as Recorded}
use Rattle.channel.specs.declared.Channel.{Channel}
use Rattle.job.specs.Tests.{every}
use Rattle.outputs.specs.Outputs.{put, put_sent}

-- "all inputs of the task are marked"
unfoldable pub all_marked_by : List ℕ → List Bool → ℕ → ℕ → Bool
all_marked_by to marked channels t = every (λ c. not (eqb (get_or to c 0) t) || get_or marked c false) channels

-- what a received record puts on the output at a place of so many outputs
unfoldable pub carried_by : ℕ → ℤ → ℤ → ℕ → ℕ → Record → Channel → Channel
carried_by kind a b place outputs r ch = put_sent ch (sent_on kind a b place outputs r)

-- what a barrier or a received record puts there
abbrev pub put_by : ℕ → ℤ → ℤ → ℕ → ℕ → Cargo → Channel → Channel
put_by kind a b place outputs Barrier ch = put ch Barrier
put_by kind a b place outputs (Recorded r) ch = carried_by kind a b place outputs r ch
