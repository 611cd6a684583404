-- What the head of the channel brings: the task that it comes to has room, and what it carries fits.
use Rattle.std.proofs.Common.{arith, ◌∙◌, ap}
use Rattle.job.specs.Jobs.{to_of}
use Rattle.step.specs.Algorithm.{barrier_received, record_received}
use Rattle.step.proofs.Sources.{opened, given, head_fits}
use Rattle.step.proofs.rules.deliver.Goals as goal

pub returns-in-Barrier : goal.returns-in-Barrier
returns-in-Barrier c =
    let a = c.args in
    let got = c.taken-got in
    c.receive_barrier.ensures
    ∙ ap (λ t. barrier_received a.job a.run t a.c got.result.channel) c.from-t.ensures
    ∙ given a.job a.run a.c got.result _ c.if-got-ne-TAKEN.false c.in-Barrier.is
    ∙ opened a.job a.run a.c got.result c.if-job-c.false c.if-run-c.false got.ensures

pub receive_record-requires : goal.receive_record-requires
receive_record-requires c =
    let a = c.args in
    let z = c.requires.1.sized in
    let got = c.taken-got in
    let l = z.to_task a.c c.if-job-c.false in (
      omega (arith, l, z.few_tasks),
      c.requires.0,
      c.requires.1,
      head_fits a.job a.run a.c got.result _ c.requires.0 c.requires.2 got.ensures c.if-got-ne-TAKEN.false c.in-Record.is,
      rw c.from-t.ensures (c.requires.2.totals (to_of a.job a.c) l).live,
    )

pub returns-in-Record : goal.returns-in-Record
returns-in-Record c =
    let a = c.args in
    let got = c.taken-got in
    c.receive_record.ensures
    ∙ ap (λ t. record_received a.job a.run t a.c c.in-Record.r got.result.channel) c.from-t.ensures
    ∙ given a.job a.run a.c got.result _ c.if-got-ne-TAKEN.false c.in-Record.is
    ∙ opened a.job a.run a.c got.result c.if-job-c.false c.if-run-c.false got.ensures
