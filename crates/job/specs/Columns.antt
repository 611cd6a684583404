-- A job as it comes: seven lent columns of signed 32-bit numbers (document 01, "The job"). Rules 1 to 6 of the table of job answers,
-- each in the table's words. A column is read by `get_or`; what stands past its end is 0, and no rule that reads there is asked before the
-- lengths were found right.
use Rattle.std.specs.Prelude.{◌≡◌, Bool, true, false, cond, ◌&&◌, ◌||◌, not, List, ℕ, ◌<◌, ◌≤◌, eqb, ltb, ℤ, pos, nat_abs, ◌+ℤ◌, length, get_or}
use Rattle.std.specs.Int.Signed.{le_z, lt_z}
use Rattle.tally.specs.declared.Record.{Record}
use Rattle.kinds.specs.Kinds.{within, is_value}
use Rattle.job.specs.Tests.{some}
use Rattle.job.specs.declared.lent.Lent.{Lent}

-- tasks: kind, a, b; channels: from, to; records: cylinder, value
pub record Columns : Type 0 where
  pub kinds : List ℤ
  pub a : List ℤ
  pub b : List ℤ
  pub from : List ℤ
  pub to : List ℤ
  pub cylinders : List ℤ
  pub values : List ℤ

abbrev pub columns : List ℤ → List ℤ → List ℤ → List ℤ → List ℤ → List ℤ → List ℤ → Columns
columns k a b f t c v = record { kinds = k; a = a; b = b; from = f; to = t; cylinders = c; values = v }

-- the columns that stand behind what a host lends
abbrev pub columns_of : Lent → Columns
columns_of L = columns L.kinds.now L.a.now L.b.now L.from.now L.to.now L.records.cylinders.now L.records.values.now

abbrev pub number_of : List ℤ → ℕ → ℤ
number_of column i = get_or column i (pos 0)

abbrev pub outside : ℤ → ℤ → ℤ → Bool
outside low x high = not (within low x high)

-- a column that has not n places
abbrev pub unequal : List ℤ → ℕ → Bool
unequal column n = not (eqb (length column) n)

-- 1: "no task, more than 16, or task columns of unequal length"
unfoldable pub fault1 : List ℤ → List ℤ → List ℤ → Bool
fault1 k a b = eqb (length k) 0 || ltb 16 (length k) || unequal a (length k) || unequal b (length k)

-- 2: "more than 32 channels, or unequal channel columns"
unfoldable pub fault2 : List ℤ → List ℤ → Bool
fault2 f t = ltb 32 (length f) || unequal t (length f)

-- the table's parameters: Pass and Spread 0, 0; Scale a 0 to 30, b 0; Range and Cylinder any; a source's are rule 5
unfoldable pub off_table : ℕ → ℤ → ℤ → Bool
off_table kind a b =
    cond (eqb kind 1 || eqb kind 5) (outside (pos 0) a (pos 0) || outside (pos 0) b (pos 0))
    (cond (eqb kind 3) (outside (pos 0) a (pos 30) || outside (pos 0) b (pos 0)) false)

-- 3: "a kind outside 0 to 5, or a parameter of kinds 1 to 5 outside the table"
unfoldable pub bad_task : ℤ → ℤ → ℤ → Bool
bad_task kind a b = outside (pos 0) kind (pos 5) || off_table (nat_abs kind) a b

unfoldable pub fault3 : List ℤ → List ℤ → List ℤ → Bool
fault3 k a b = some (λ t. bad_task (number_of k t) (number_of a t) (number_of b t)) (length k)

-- 4: "more than 16,384 records, unequal columns, or a cylinder outside 1 to 20"
-- (a lent value is always one of 32 bits: so says its type)
unfoldable pub bad_record : ℤ → ℤ → Bool
bad_record cylinder value = outside (pos 1) cylinder (pos 20) || not (is_value value)

unfoldable pub bad_records : List ℤ → List ℤ → Bool
bad_records c v = some (λ i. bad_record (number_of c i) (number_of v i)) (length c)

unfoldable pub fault4 : List ℤ → List ℤ → Bool
fault4 c v = ltb 16384 (length c) || unequal v (length c) || bad_records c v

-- record i of the lent columns
abbrev pub record_at : List ℤ → List ℤ → ℕ → Record
record_at c v i = record { cylinder = nat_abs (number_of c i); value = number_of v i }

-- what it says of the lent records that line 4 does not hold
pub record RecordsFit (c v : List ℤ) : Type 0 where
  pub few_records : length c ≤ 16384
  pub values_long : length v ≡ length c
  pub cylinders : (i : ℕ) → i < length c → within (pos 1) (number_of c i) (pos 20) ≡ true
  pub values : (i : ℕ) → i < length c → is_value (number_of v i) ≡ true

-- 5: "a source with a < 0, b outside 0 to 4,096, or a+b above the number of records"
unfoldable pub bad_part : ℤ → ℤ → ℤ → ℕ → Bool
bad_part kind a b records =
    within (pos 0) kind (pos 0) && (lt_z a (pos 0) || outside (pos 0) b (pos 4096) || lt_z (pos records) (a +ℤ b))

unfoldable pub fault5 : List ℤ → List ℤ → List ℤ → ℕ → Bool
fault5 k a b records = some (λ t. bad_part (number_of k t) (number_of a t) (number_of b t) records) (length k)

-- 6: "a channel end that names no task"
abbrev pub no_task : ℤ → ℕ → Bool
no_task x tasks = lt_z x (pos 0) || le_z (pos tasks) x

unfoldable pub fault6 : List ℤ → List ℤ → ℕ → Bool
fault6 f t tasks = some (λ c. no_task (number_of f c) tasks || no_task (number_of t c) tasks) (length f)

-- every number of a column is one of 0 to 255
pub record Bytes (column : List ℤ) : Type 0 where
  pub byte : (i : ℕ) → i < length column → within (pos 0) (number_of column i) (pos 255) ≡ true
