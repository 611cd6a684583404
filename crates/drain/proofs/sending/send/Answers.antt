-- One channel more: on an output the record is put at its place, any other channel stays.
use Rattle.std.proofs.Common.{arith, true, false, ◌≡◌, sym, ap, ap₂, ◌∙◌}
use Rattle.channel.specs.declared.Cargo.TheVariants.{Record as Recorded}
use Rattle.job.specs.Graph.{sent_by}
use Rattle.job.specs.Jobs.{is_output}
use Rattle.run.specs.declared.Run.{Run}
use Rattle.run.specs.Runs.{with_channels}
use Rattle.run.specs.Fit.{channel_at}
use Rattle.outputs.specs.Outputs.{put_sent}
use Rattle.outputs.proofs.Sending.{carried_here, not_here, place_here, place_not}
use Rattle.drain.proofs.sending.send.Goals as goal
use Rattle.drain.proofs.sending.send.Goals.{then-names, else-names}

pub loop-c-preserved : goal.loop-c-preserved
loop-c-preserved c =
    let a = c.args in
    let job = a.job.now in
    let l = c.loop-c in
    let so_far = ap (λ (r : Run). r.channels) l.invariant.sent in
    let named = sym c.names.ensures in
    elim c.if-names.branch [
      | then-names w ↦
          let o : is_output job a.t l.c ≡ true = named ∙ w.if-names.true in
          let ch = channel_at l.flat l.c in
          record {
            sent = w.flat-is ∙ w.carry.ensures
                ∙ ap₂ (λ chans (r : Run). with_channels chans r)
                (carried_here job a.t (Recorded a.got) a.flat.now.channels l.flat.channels l.c so_far _ o
                (ap₂ (λ p n. put_sent ch (sent_by job a.t p n a.got)) l.invariant.placed c.requires.3))
                l.invariant.sent;
            placed = w.place-is ∙ place_here job a.t l.c l.place o l.invariant.placed;
            few = omega (arith, w.place-is, l.invariant.few);
          }
      | else-names w ↦
          let o : is_output job a.t l.c ≡ false = named ∙ w.if-names.false in
          record {
            sent = w.flat-is
                ∙ ap₂ (λ chans (r : Run). with_channels chans r)
                (not_here job a.t (Recorded a.got) a.flat.now.channels l.flat.channels l.c so_far o) l.invariant.sent;
            placed = w.place-is ∙ place_not job a.t l.c l.place o l.invariant.placed;
            few = omega (arith, w.place-is, l.invariant.few);
          }
    ]
