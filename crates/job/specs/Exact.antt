-- The table of job answers as a statement: each number is "given exactly when" its line holds and no line before it, and 0 exactly when
-- none does. Proved for every seven columns by `exact` in proofs/Exact.antt. Lines 8 and 9 stand here in the document's words: a walk that
-- returns to its start, and a worst count by the document's recursion.
use Rattle.std.specs.Prelude.{◌≡◌, true, ◌↔◌, length}
use Rattle.job.specs.Columns.{Columns, fault1, fault2, fault3, fault4, fault5, fault6}
use Rattle.job.specs.Jobs.{job_of}
use Rattle.job.specs.Rules.{fault7, Returning, TooMany, job_answer}

module _ (J : Columns) where
  abbrev pub Line1 : Type 0
  Line1 = fault1 J.kinds J.a J.b ≡ true

  abbrev pub Line2 : Type 0
  Line2 = fault2 J.from J.to ≡ true

  abbrev pub Line3 : Type 0
  Line3 = fault3 J.kinds J.a J.b ≡ true

  abbrev pub Line4 : Type 0
  Line4 = fault4 J.cylinders J.values ≡ true

  abbrev pub Line5 : Type 0
  Line5 = fault5 J.kinds J.a J.b (length J.cylinders) ≡ true

  abbrev pub Line6 : Type 0
  Line6 = fault6 J.from J.to (length J.kinds) ≡ true

  abbrev pub Line7 : Type 0
  Line7 = fault7 (job_of J) ≡ true

  -- "some walk along one or more channels returns to its start"
  abbrev pub Line8 : Type 0
  Line8 = Returning (job_of J)

  -- "a worst count above 1,048,576"
  abbrev pub Line9 : Type 0
  Line9 = TooMany (job_of J)

  -- no line up to this one holds
  abbrev pub None1 : Type 0
  None1 = Line1 → ⊥

  abbrev pub None2 : Type 0
  None2 = None1 × (Line2 → ⊥)

  abbrev pub None3 : Type 0
  None3 = None2 × (Line3 → ⊥)

  abbrev pub None4 : Type 0
  None4 = None3 × (Line4 → ⊥)

  abbrev pub None5 : Type 0
  None5 = None4 × (Line5 → ⊥)

  abbrev pub None6 : Type 0
  None6 = None5 × (Line6 → ⊥)

  abbrev pub None7 : Type 0
  None7 = None6 × (Line7 → ⊥)

  abbrev pub None8 : Type 0
  None8 = None7 × (Line8 → ⊥)

  abbrev pub None9 : Type 0
  None9 = None8 × (Line9 → ⊥)

  -- THE TABLE
  pub record Exact : Type 0 where
    pub given1 : (job_answer J ≡ 1) ↔ Line1
    pub given2 : (job_answer J ≡ 2) ↔ None1 × Line2
    pub given3 : (job_answer J ≡ 3) ↔ None2 × Line3
    pub given4 : (job_answer J ≡ 4) ↔ None3 × Line4
    pub given5 : (job_answer J ≡ 5) ↔ None4 × Line5
    pub given6 : (job_answer J ≡ 6) ↔ None5 × Line6
    pub given7 : (job_answer J ≡ 7) ↔ None6 × Line7
    pub given8 : (job_answer J ≡ 8) ↔ None7 × Line8
    pub given9 : (job_answer J ≡ 9) ↔ None8 × Line9
    pub accepted : (job_answer J ≡ 0) ↔ None9
