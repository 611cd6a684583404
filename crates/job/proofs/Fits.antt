-- An accepted job has all that the later layers use (`accepted_fits`).
use mathlib.Core.Path.{◌≡◌, refl, sym, ap, ◌∙◌, subst}
use mathlib.Core.Bool.{Bool, true, false, true≢false, false≢true}
use Prim.Native.Nat.{ℕ, ◌+◌, ◌<◌, ◌≤◌}
use native.Mathlib.Omega.{arith}
use borrow.Author.Tests.{not-false, ltb-true, ltb-false, le-leb}
use lib.Dec.{ltb}
use lib.IntN.{ℤ, pos, negsuc, nat_abs, ◌+ℤ◌}
use lib.ListN.{length}
use lib.Signed.{le_z, lt_z}
use Rattle.kinds.specs.Kinds.{within, Scales}
use Rattle.job.specs.Columns.{Columns, number_of, outside, off_table, bad_task}
use Rattle.job.specs.Jobs.{job_of, kind_of, a_of, is_source}
use Rattle.job.specs.Rules.{fault7, job_answer}
use Rattle.job.specs.Fits.{PartFits, JobFits}
use Rattle.job.proofs.Bools.{both_true, neither}
use Rattle.job.proofs.Ints.{within_nat_abs}
use Rattle.job.proofs.Tests.{filled_past}
use Rattle.job.proofs.Fine.{Fine, sized, tasks_fine, tasks_small, kind_within, kind_is, a_is, b_is, part_of, tasks_are}
use Rattle.job.proofs.Walks.{rank_of}
use Rattle.job.proofs.Inputs.{other_input, no_source_input}
use Rattle.job.proofs.Worst.{worst_low}
use Rattle.job.proofs.Exact.{all_off, fine_of}

-- ---- signed numbers
start_low : (a : ℤ) → lt_z a (pos 0) ≡ false → le_z (pos 0) a ≡ true
start_low (pos n) e = le-leb 0 n (omega arith)
start_low (negsuc n) e = absurd (true≢false e)

within_low : (b : ℤ) (h : ℤ) → within (pos 0) b h ≡ true → le_z (pos 0) b ≡ true
within_low b h e = (both_true (le_z (pos 0) b) (le_z b h) e).0

sum_inside : (a b : ℤ) (n : ℕ) → le_z (pos 0) a ≡ true → le_z (pos 0) b ≡ true → lt_z (pos n) (a +ℤ b) ≡ false → nat_abs a + nat_abs b ≤ n
sum_inside (pos x) (pos y) n p q e = ltb-false n (x + y) e
sum_inside (pos x) (negsuc y) n p q e = absurd (false≢true q)
sum_inside (negsuc x) b n p q e = absurd (false≢true p)

-- ---- Scale's a, by line 3
scale_fine : (k a b : ℤ) → nat_abs k ≡ 3 → bad_task k a b ≡ false → Scales a
unfolding bad_task off_table
scale_fine k a b e f =
    let off : off_table (nat_abs k) a b ≡ false = (neither (outside (pos 0) k (pos 5)) (off_table (nat_abs k) a b) f).1 in
    let three : off_table 3 a b ≡ false = ap (λ n. off_table n a b) (sym e) ∙ off in
    let inside : within (pos 0) a (pos 30) ≡ true =
    not-false (within (pos 0) a (pos 30)) (neither (outside (pos 0) a (pos 30)) (outside (pos 0) b (pos 0)) three).0 in
    record { low = within_low a (pos 30) inside; high = within_nat_abs a 30 inside }

module _ (J : Columns) (F : Fine J) where
  past_kind : (t : ℕ) → length J.kinds ≤ t → kind_of (job_of J) t ≡ 0
  unfolding job_of
  past_kind t h = filled_past 16 0 _ (length J.kinds) t h

  kind_low : (t : ℕ) → kind_of (job_of J) t ≤ 5
  kind_low t = go (ltb t (length J.kinds)) refl
    where
      go : (b : Bool) → ltb t (length J.kinds) ≡ b → kind_of (job_of J) t ≤ 5
      go true e =
          let l = ltb-true t (length J.kinds) e in
          omega (arith, kind_is J F t l, within_nat_abs (number_of J.kinds t) 5 (kind_within J F.line3 t l))
      go false e = omega (arith, past_kind t (ltb-false t (length J.kinds) e))

  scales_fine : (t : ℕ) → kind_of (job_of J) t ≡ 3 → Scales (a_of (job_of J) t)
  scales_fine t three = go (ltb t (length J.kinds)) refl
    where
      go : (b : Bool) → ltb t (length J.kinds) ≡ b → Scales (a_of (job_of J) t)
      go true e =
          let l = ltb-true t (length J.kinds) e in
          subst Scales (sym (a_is J F t l))
          (scale_fine (number_of J.kinds t) (number_of J.a t) (number_of J.b t) (sym (kind_is J F t l) ∙ three)
          (tasks_small J F.line3 t l))
      go false e = absurd (omega (arith, past_kind t (ltb-false t (length J.kinds) e)))

  part_fits : (t : ℕ) → t < (job_of J).tasks → is_source (job_of J) t ≡ true → PartFits (job_of J) (length J.cylinders) t
  part_fits t lt e =
      let l : t < length J.kinds = omega (arith, tasks_are J F) in
      let p = part_of J F t l e in
      let a = start_low (number_of J.a t) p.start in
      let b = within_low (number_of J.b t) (pos 4096) p.long in
      record {
        start = ap (le_z (pos 0)) (a_is J F t l) ∙ a;
        length = omega (arith, ap nat_abs (b_is J F t l), within_nat_abs (number_of J.b t) 4096 p.long);
        length_low = ap (le_z (pos 0)) (b_is J F t l) ∙ b;
        inside = omega (
          arith,
          ap nat_abs (a_is J F t l),
          ap nat_abs (b_is J F t l),
          sum_inside (number_of J.a t) (number_of J.b t) (length J.cylinders) a b p.inside,
        );
      }

pub accepted_fits : (J : Columns) → job_answer J ≡ 0 → JobFits (job_of J) (length J.cylinders)
accepted_fits J e =
    let o = all_off J e in
    let F = fine_of J (λ j l. o j (omega arith)) in
    let Z = sized J F in
    let line7 : fault7 (job_of J) ≡ false = o 6 (omega arith) in
    let G = rank_of (job_of J) Z (o 7 (omega arith)) in
    record {
      sends = record { sized = Z; scales = scales_fine J F };
      some_task = omega (arith, tasks_are J F, (tasks_fine J F).some_task);
      kinds = kind_low J F;
      parts = part_fits J F;
      no_input = no_source_input (job_of J) line7 Z;
      some_input = other_input (job_of J) line7;
      ranked = G;
      worst_count = worst_low (job_of J) Z G line7 (o 8 (omega arith));
    }
