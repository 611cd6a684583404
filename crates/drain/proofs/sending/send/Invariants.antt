use mathlib.Core.Path.{◌≡◌}
use Prim.Native.Nat.{◌≤◌}
use Rattle.channel.specs.declared.Cargo.TheVariants.{Record as Recorded}
use Rattle.job.specs.Jobs.{place_of}
use Rattle.run.specs.Runs.{with_channels}
use Rattle.outputs.proofs.Sending.{put_to}
use Rattle.drain.proofs.sending.send.Given as goal

abbrev pub invariant-loop-c : goal.invariant-loop-c
invariant-loop-c l = record {
  sent : l.flat ≡ with_channels (put_to l.job l.t (Recorded l.got) l.initial.flat.channels l.c) l.initial.flat;
  placed : l.place ≡ place_of l.job l.t l.c;
  few : l.place ≤ l.c;
}
