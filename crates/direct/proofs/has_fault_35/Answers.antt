use Rattle.std.proofs.Common.{rules, ℕ, refl, sym, ap, ◌∙◌}
use mathlib.Core.Bool.{not, ◌||◌}
use borrow.Author.Tests.{eq-eqb}
use Rattle.job.specs.Tests.{some}
use Rattle.job.proofs.Ranges.{any_over}
use Rattle.direct.specs.Direct.{bad_count, count_of, fault35}
use Rattle.direct.proofs.has_fault_35.Goals as goal

pub returns-then-counts-job : goal.returns-then-counts-job
unfolding fault35
returns-then-counts-job c = search rules

pub returns-else-counts-job : goal.returns-else-counts-job
unfolding fault35
returns-else-counts-job c =
    let job = c.args.job in
    let bad = λ (k : ℕ). bad_count job k (count_of c.args.counts.now k) in
    any_over bad job.tasks _ _ _ c.any.ensures.ran refl (λ x b q k. search rules)
    ∙ ap (λ b. not b || some bad job.tasks) (sym (eq-eqb _ _ c.if-counts-job.false))
