-- What a step that takes a record in brings to its task and leaves behind. That they are the step's own is `brings` of proofs/Brings.
use Rattle.std.specs.Prelude.{cond, List, ℕ, ◌+◌, ltb, ℤ, nat_abs}
use Rattle.channel.specs.declared.Cargo.{Cargo}
use Rattle.channel.specs.declared.Cargo.TheVariants.{Barrier, Record as Recorded}
use Rattle.channel.specs.declared.Channel.{Channel}
use Rattle.channel.specs.Channels.{without_head}
use Rattle.job.specs.Columns.{record_at}

-- what the step brings: the head of its channel, the source's next record, or a barrier
unfoldable pub brought_by : List ℤ → List ℤ → ℕ → Cargo → ℤ → ℕ → Cargo
brought_by c v n head a offset = cond (ltb n 32) head (cond (ltb n 48) (Recorded (record_at c v (nat_abs a + offset))) Barrier)

-- a delivery takes the head, a read leaves the channel as it is
unfoldable pub left_on : ℕ → Channel → Channel
left_on n ch = cond (ltb n 32) (without_head ch).channel ch
