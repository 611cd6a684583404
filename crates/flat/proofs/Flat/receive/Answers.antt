-- The count of the totals that the value went into is told.
use Rattle.std.proofs.Common.{sym, ap, ◌∙◌, subst, List, ℕ}
use Rattle.std.proofs.Math.ListN.{set}
use Rattle.tally.specs.declared.Totals.{Totals}
use Rattle.flat.specs.Columns.{Tells}
use Rattle.flat.proofs.Rings.{told}
use Rattle.flat.proofs.Flat.receive.Goals as goal

pub invariant_of-self : goal.invariant_of-self
invariant_of-self c =
    let f = c.self.inside in
    let t = c.args.t in
    let x = c.count-totals.result in
    let e = c.count-totals.ensures in
    record {
      laid = c.self.invariant.laid;
      tells =
          subst (λ (r : List ℕ). Tells (set f.run.live t x) r)
          (sym (e.told ∙ ap (λ (y : Totals). set f.received t y.count) (sym e.counted)))
          (told f.run.live f.received t x c.requires.0 c.self.invariant.tells);
    }
