-- What a source reads next lies in its part, and its totals have room for it.
use Rattle.std.proofs.Common.{rules, arith, ◌≡◌, ◌+◌, ◌<◌, ◌∙◌, sym, ap, w32, FitsSigned}
use Rattle.std.specs.Prelude.{nat_abs}
use mir.Facts.{to_z-of_z}
use Rattle.job.specs.Jobs.{a_of, b_of}
use Rattle.job.specs.Columns.{record_at}
use Rattle.channel.specs.declared.Cargo.TheVariants.{Record as Recorded}
use Rattle.run.specs.Fit.{cargo_fits}
use Rattle.step.specs.Step.{offset_of}
use Rattle.step.proofs.Sources.{source_is}
use Rattle.step.proofs.Lent.{record_fits, inside_part, part_short}
use Rattle.step.proofs.Rooms.{has_room}
use Rattle.step.proofs.rules.read.Goals as goal

pub at-got-requires : goal.at-got-requires
at-got-requires c =
    let j = c.args.job in
    let t = c.args.t in
    let s = source_is j t (sym c.is_no_source.ensures ∙ c.if-is_no_source.false) in
    let y : FitsSigned w32 (b_of j t) = search rules in
    let x : FitsSigned w32 (a_of j t) = search rules in
    let n : c.unsigned_abs.result ≡ nat_abs (b_of j t) = c.unsigned_abs.ensures.value ∙ ap nat_abs (to_z-of_z y) in
    let m : c.unsigned_abs-start.result ≡ nat_abs (a_of j t) = c.unsigned_abs-start.ensures.value ∙ ap nat_abs (to_z-of_z x) in
    let low : offset_of c.args.run t < nat_abs (b_of j t) = omega (arith, c.if-unsigned_abs-offset.false, n) in
    let in_part = inside_part j _ t (offset_of c.args.run t) c.requires.1 s.0 s.1 low in
    (omega (arith, in_part, m), c.requires.3)

pub take_in-requires : goal.take_in-requires
take_in-requires c =
    let j = c.args.job in
    let t = c.args.t in
    let s = source_is j t (sym c.is_no_source.ensures ∙ c.if-is_no_source.false) in
    let y : FitsSigned w32 (b_of j t) = search rules in
    let x : FitsSigned w32 (a_of j t) = search rules in
    let n : c.unsigned_abs.result ≡ nat_abs (b_of j t) = c.unsigned_abs.ensures.value ∙ ap nat_abs (to_z-of_z y) in
    let m : c.unsigned_abs-start.result ≡ nat_abs (a_of j t) = c.unsigned_abs-start.ensures.value ∙ ap nat_abs (to_z-of_z x) in
    let low : offset_of c.args.run t < nat_abs (b_of j t) = omega (arith, c.if-unsigned_abs-offset.false, n) in
    let in_part = inside_part j _ t (offset_of c.args.run t) c.requires.1 s.0 s.1 low in
    let fits = record_fits _ _ (nat_abs (a_of j t) + offset_of c.args.run t) c.requires.3 in_part in
    let got = c.at-got.ensures ∙ ap (λ i. record_at c.args.records.now.cylinders.now c.args.records.now.values.now (i + offset_of c.args.run t)) m in
    let live = (c.requires.2.totals t s.0).live in (
      c.requires.0,
      c.requires.1.sends,
      ap (λ r. cargo_fits (Recorded r)) got ∙ fits,
      has_room j t _ live (omega (arith, low, part_short j _ t c.requires.1 s.0 s.1)),
    )
