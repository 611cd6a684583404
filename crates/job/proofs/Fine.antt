-- What it says of the columns that lines 1 to 6 do not hold: lengths and bounds, and that every number fits its place in the job by value.
use mathlib.Core.Path.{◌≡◌, refl, sym, ap, ◌∙◌}
use mathlib.Core.Bool.{true, false, not, ◌||◌, ◌&&◌}
use mathlib.Core.List.{List}
use Prim.Native.Nat.{ℕ, ◌<◌, ◌≤◌}
use native.Mathlib.Omega.{arith}
use borrow.Author.Tests.{not-false, ltb-false, eqb-true, eqb-false}
use lib.Dec.{eqb, ltb}
use lib.IntN.{ℤ, pos, nat_abs, ◌+ℤ◌}
use lib.ListN.{length}
use lib.Signed.{lt_z}
use Rattle.kinds.specs.Kinds.{within, is_value}
use Rattle.job.specs.Columns.{Columns, number_of, outside, unequal, no_task, bad_task, bad_part, bad_record, bad_records, RecordsFit}
use Rattle.job.specs.Columns.{fault1, fault2, fault3, fault4, fault5, fault6}
use Rattle.job.specs.Jobs.{job_of, Small, JobSized, kind_of, is_source, a_of, b_of, from_of, to_of}
use Rattle.job.specs.Rules.{column_faults, first_fault}
use Rattle.job.proofs.Bools.{neither}
use Rattle.job.proofs.Ints.{within_wider, zero_within, named, named_within}
use Rattle.job.proofs.Tests.{some_none, filled_at}
use Rattle.job.proofs.First.{first_none}

-- ---- line by line
pub record Fine1 (k a b : List ℤ) : Type 0 where
  pub some_task : 0 < length k
  pub few_tasks : length k ≤ 16
  pub a_long : length a ≡ length k
  pub b_long : length b ≡ length k

equal : (column : List ℤ) (n : ℕ) → unequal column n ≡ false → length column ≡ n
equal column n e = eqb-true (length column) n (not-false (eqb (length column) n) e)

pub fine1 : (k a b : List ℤ) → fault1 k a b ≡ false → Fine1 k a b
unfolding fault1
fine1 k a b e =
    let x = neither (eqb (length k) 0 || ltb 16 (length k) || unequal a (length k)) (unequal b (length k)) e in
    let y = neither (eqb (length k) 0 || ltb 16 (length k)) (unequal a (length k)) x.0 in
    let z = neither (eqb (length k) 0) (ltb 16 (length k)) y.0 in
    let ne : length k ≡ 0 → ⊥ = eqb-false (length k) 0 z.0 in
    record {
      some_task = omega arith;
      few_tasks = ltb-false 16 (length k) z.1;
      a_long = equal a (length k) y.1;
      b_long = equal b (length k) x.1;
    }

pub record Fine2 (f t : List ℤ) : Type 0 where
  pub few_channels : length f ≤ 32
  pub to_long : length t ≡ length f

pub fine2 : (f t : List ℤ) → fault2 f t ≡ false → Fine2 f t
unfolding fault2
fine2 f t e =
    let x = neither (ltb 32 (length f)) (unequal t (length f)) e in
    record { few_channels = ltb-false 32 (length f) x.0; to_long = equal t (length f) x.1 }

pub fine4 : (c v : List ℤ) → fault4 c v ≡ false → RecordsFit c v
unfolding fault4 bad_records bad_record
fine4 c v e =
    let x = neither (ltb 16384 (length c) || unequal v (length c)) (bad_records c v) e in
    let y = neither (ltb 16384 (length c)) (unequal v (length c)) x.0 in
    let z : (i : ℕ) → i < length c → (outside (pos 1) (number_of c i) (pos 20) ≡ false) × (not (is_value (number_of v i)) ≡ false) =
    λ i l. neither _ _ (some_none (λ i. bad_record (number_of c i) (number_of v i)) (length c) x.1 i l) in
    record {
      few_records = ltb-false 16384 (length c) y.0;
      values_long = equal v (length c) y.1;
      cylinders = λ i l. not-false (within (pos 1) (number_of c i) (pos 20)) (z i l).0;
      values = λ i l. not-false (is_value (number_of v i)) (z i l).1;
    }

-- ---- the job by value
pub tasks_small : (J : Columns) → fault3 J.kinds J.a J.b ≡ false → (t : ℕ) → t < length J.kinds
    → bad_task (number_of J.kinds t) (number_of J.a t) (number_of J.b t) ≡ false
unfolding fault3
tasks_small J e = some_none (λ t. bad_task (number_of J.kinds t) (number_of J.a t) (number_of J.b t)) (length J.kinds) e

pub kind_within : (J : Columns) → fault3 J.kinds J.a J.b ≡ false → (t : ℕ) → t < length J.kinds
    → within (pos 0) (number_of J.kinds t) (pos 5) ≡ true
unfolding bad_task
kind_within J e t l = not-false (within (pos 0) (number_of J.kinds t) (pos 5)) (neither _ _ (tasks_small J e t l)).0

pub ends_named : (f t : List ℤ) (n : ℕ) → fault6 f t n ≡ false → (c : ℕ) → c < length f
    → (no_task (number_of f c) n ≡ false) × (no_task (number_of t c) n ≡ false)
unfolding fault6
ends_named f t n e c l = neither (no_task (number_of f c) n) (no_task (number_of t c) n) (some_none _ (length f) e c l)

pub part_fine : (J : Columns) (n : ℕ) → fault5 J.kinds J.a J.b n ≡ false → (t : ℕ) → t < length J.kinds
    → bad_part (number_of J.kinds t) (number_of J.a t) (number_of J.b t) n ≡ false
unfolding fault5
part_fine J n e t l = some_none (λ t. bad_part (number_of J.kinds t) (number_of J.a t) (number_of J.b t) n) (length J.kinds) e t l

-- lines 1 to 6 together
pub record Fine (J : Columns) : Type 0 where
  pub line1 : fault1 J.kinds J.a J.b ≡ false
  pub line2 : fault2 J.from J.to ≡ false
  pub line3 : fault3 J.kinds J.a J.b ≡ false
  pub line4 : fault4 J.cylinders J.values ≡ false
  pub line5 : fault5 J.kinds J.a J.b (length J.cylinders) ≡ false
  pub line6 : fault6 J.from J.to (length J.kinds) ≡ false

pub fine : (J : Columns) → first_fault (column_faults J) 1 ≡ 0 → Fine J
fine J e =
    let h = first_none (column_faults J) 1 (omega arith) e in
    record { line1 = h 0; line2 = h 1; line3 = h 2; line4 = h 3; line5 = h 4; line6 = h 5 }

module _ (J : Columns) (F : Fine J) where
  pub tasks_fine : Fine1 J.kinds J.a J.b
  tasks_fine = fine1 J.kinds J.a J.b F.line1

  pub channels_fine : Fine2 J.from J.to
  channels_fine = fine2 J.from J.to F.line2

  end_byte : (x : ℤ) → no_task x (length J.kinds) ≡ false → within (pos 0) x (pos 255) ≡ true
  end_byte x e = named_within x (length J.kinds) 255 (omega (arith, tasks_fine.few_tasks)) e

  pub small : Small J
  small = record {
    few_kinds = tasks_fine.few_tasks;
    few_a = omega (arith, tasks_fine.few_tasks, tasks_fine.a_long);
    few_b = omega (arith, tasks_fine.few_tasks, tasks_fine.b_long);
    few_from = channels_fine.few_channels;
    few_to = omega (arith, channels_fine.few_channels, channels_fine.to_long);
    kind_bytes = record { byte = λ t l. within_wider (number_of J.kinds t) 5 255 (omega arith) (kind_within J F.line3 t l) };
    from_bytes = record { byte = λ c l. end_byte (number_of J.from c) (ends_named J.from J.to (length J.kinds) F.line6 c l).0 };
    to_bytes = record {
      byte = λ c l.
          let l₂ : c < length J.from = omega (arith, channels_fine.to_long) in
          end_byte (number_of J.to c) (ends_named J.from J.to (length J.kinds) F.line6 c l₂).1;
    };
  }

  -- ---- the job by value, read at its tasks and channels
  pub kind_is : (t : ℕ) → t < length J.kinds → kind_of (job_of J) t ≡ nat_abs (number_of J.kinds t)
  unfolding job_of
  kind_is t l = filled_at 16 0 _ (length J.kinds) tasks_fine.few_tasks t l

  pub a_is : (t : ℕ) → t < length J.kinds → a_of (job_of J) t ≡ number_of J.a t
  unfolding job_of
  a_is t l = filled_at 16 (pos 0) _ (length J.a) small.few_a t (omega (arith, tasks_fine.a_long))

  pub b_is : (t : ℕ) → t < length J.kinds → b_of (job_of J) t ≡ number_of J.b t
  unfolding job_of
  b_is t l = filled_at 16 (pos 0) _ (length J.b) small.few_b t (omega (arith, tasks_fine.b_long))

  pub from_is : (c : ℕ) → c < length J.from → from_of (job_of J) c ≡ nat_abs (number_of J.from c)
  unfolding job_of
  from_is c l = filled_at 32 0 _ (length J.from) small.few_from c l

  pub to_is : (c : ℕ) → c < length J.from → to_of (job_of J) c ≡ nat_abs (number_of J.to c)
  unfolding job_of
  to_is c l = filled_at 32 0 _ (length J.to) small.few_to c (omega (arith, channels_fine.to_long))

  -- a source of the job by value is one of the columns
  pub source_is : (t : ℕ) → t < length J.kinds → is_source (job_of J) t ≡ true → within (pos 0) (number_of J.kinds t) (pos 0) ≡ true
  source_is t l e =
      zero_within (number_of J.kinds t) (sym (eqb-true (kind_of (job_of J) t) 0 e) ∙ kind_is t l)

  -- its part, as line 5 leaves it
  pub record Part (t : ℕ) : Type 0 where
    pub start : lt_z (number_of J.a t) (pos 0) ≡ false
    pub long : within (pos 0) (number_of J.b t) (pos 4096) ≡ true
    pub inside : lt_z (pos (length J.cylinders)) (number_of J.a t +ℤ number_of J.b t) ≡ false

  pub part_of : (t : ℕ) → t < length J.kinds → is_source (job_of J) t ≡ true → Part t
  unfolding bad_part
  part_of t l e =
      let a = number_of J.a t in
      let b = number_of J.b t in
      let n = length J.cylinders in
      let all : lt_z a (pos 0) || outside (pos 0) b (pos 4096) || lt_z (pos n) (a +ℤ b) ≡ false =
      ap (λ s. s && (lt_z a (pos 0) || outside (pos 0) b (pos 4096) || lt_z (pos n) (a +ℤ b))) (sym (source_is t l e))
      ∙ part_fine J n F.line5 t l in
      let x = neither (lt_z a (pos 0) || outside (pos 0) b (pos 4096)) (lt_z (pos n) (a +ℤ b)) all in
      let y = neither (lt_z a (pos 0)) (outside (pos 0) b (pos 4096)) x.0 in
      record { start = y.0; long = not-false (within (pos 0) b (pos 4096)) y.1; inside = x.1 }

  pub tasks_are : (job_of J).tasks ≡ length J.kinds
  unfolding job_of
  tasks_are = refl

  pub channels_are : (job_of J).channels ≡ length J.from
  unfolding job_of
  channels_are = refl

  pub sized : JobSized (job_of J)
  sized = record {
    few_tasks = omega (arith, tasks_are, tasks_fine.few_tasks);
    few_channels = omega (arith, channels_are, channels_fine.few_channels);
    from_task = λ c l.
        let l₂ : c < length J.from = omega (arith, channels_are) in
        let e = named (number_of J.from c) (length J.kinds) (ends_named J.from J.to (length J.kinds) F.line6 c l₂).0 in
        omega (arith, from_is c l₂, tasks_are, e);
    to_task = λ c l.
        let l₂ : c < length J.from = omega (arith, channels_are) in
        let e = named (number_of J.to c) (length J.kinds) (ends_named J.from J.to (length J.kinds) F.line6 c l₂).1 in
        omega (arith, to_is c l₂, tasks_are, e);
    part_length = λ t l e.
        let l₂ : t < length J.kinds = omega (arith, tasks_are) in
        ap (λ b. within (pos 0) b (pos 4096)) (b_is t l₂) ∙ (part_of t l₂ e).long;
  }
