-- A run laid out in columns and read back: places filled one after the other (`fill_in`, `each_in`), and a channel that was laid out reads
-- as the channel (`laid_channel`).
use mathlib.Core.Path.{◌≡◌, refl, sym, ap, ap₂, ◌∙◌}
use mathlib.Core.Logic.{◌≢◌}
use mathlib.Core.Bool.{Bool, true, false}
use mathlib.Core.List.{List}
use Prim.Native.Nat.{ℕ, zero, suc, ◌+◌, ◌*◌, ◌<◌, ◌≤◌}
use native.Mathlib.Numerals.{add-one}
use native.Mathlib.Omega.{arith}
use lib.Dec.{eqb}
use lib.IntN.{ℤ, pos}
use lib.ListN.{get_or, set, length, length-set}
use lib.Seq.{get_or-set_same, get_or-set_other}
use borrow.Author.Tests.{eqb-true, eqb-false}
use Rattle.channel.specs.declared.Item.{Item}
use Rattle.channel.specs.declared.Cargo.{Cargo}
use Rattle.channel.specs.declared.Channel.{Channel}
use Rattle.channel.specs.Channels.{barrier}
use Rattle.run.specs.Runs.{no_channel}
use Rattle.outputs.specs.Outputs.{each_place}
use Rattle.flat.specs.Columns.{table, item_of, spot, item_in, channel_in, channels_in, Laid, ReadAs}
use Rattle.flat.specs.Lays.{code_of, value_of, cargo_at, fill_to}
use Rattle.flat.proofs.Tables.{as_table, stored, table_same}
use Rattle.flat.proofs.Rings.{apart, chan}

module _ {A : Type 0} (d : A) (l : List A) (base : ℕ) (f : ℕ → A) where
  pub length_fill : (k : ℕ) → length (fill_to l base f k) ≡ length l
  unfolding fill_to
  length_fill zero = refl
  length_fill (suc k) = length-set (fill_to l base f k) (base + k) (f k) ∙ length_fill k

  pub fill_in : (k i : ℕ) → i < k → base + k ≤ length l → get_or (fill_to l base f k) (base + i) d ≡ f i
  unfolding fill_to
  fill_in zero i h fits = absurd (omega arith)
  fill_in (suc k) i h fits = go (λ m. fill_in k i m (omega arith)) (eqb i k) refl
    where
      go : (i < k → get_or (fill_to l base f k) (base + i) d ≡ f i) → (b : Bool) → eqb i k ≡ b → get_or (set (fill_to l base f k) (base + k)
          (f k)) (base + i) d ≡ f i
      go ih true q =
          let e : i ≡ k = eqb-true i k q in
          ap (λ j. get_or (set (fill_to l base f k) (base + k) (f k)) (base + j) d) e
          ∙ get_or-set_same (fill_to l base f k) (base + k) (f k) d (omega (arith, length_fill k, fits)) ∙ ap f (sym e)
      go ih false q =
          let ne : i ≢ k = eqb-false i k q in
          get_or-set_other (fill_to l base f k) (base + k) (base + i) (f k) d (λ e. ne (omega arith)) ∙ ih (omega arith)

  pub fill_out : (k p : ℕ) → ((j : ℕ) → j < k → p ≢ base + j) → get_or (fill_to l base f k) p d ≡ get_or l p d
  unfolding fill_to
  fill_out zero p out = refl
  fill_out (suc k) p out =
      get_or-set_other (fill_to l base f k) (base + k) p (f k) d (out k (omega arith)) ∙ fill_out k p (λ j h. out j (omega arith))

  pub fill_more : (k : ℕ) → fill_to l base f (k + 1) ≡ set (fill_to l base f k) (base + k) (f k)
  unfolding fill_to
  fill_more k = rw add-one

module _ {A : Type 0} (d : A) (l : List A) (f : ℕ → A) where
  abbrev each : ℕ → List A
  each n = each_place d (λ k x. f k) l n

  pub each_more : (k : ℕ) → each (k + 1) ≡ set (each k) k (f k)
  unfolding each_place
  each_more k = rw add-one

  length_each : (n : ℕ) → length (each n) ≡ length l
  unfolding each_place
  length_each zero = refl
  length_each (suc n) = length-set (each n) n (f n) ∙ length_each n

  each_in : (n i : ℕ) → i < n → n ≤ length l → get_or (each n) i d ≡ f i
  unfolding each_place
  each_in zero i h fits = absurd (omega arith)
  each_in (suc n) i h fits = go (λ m. each_in n i m (omega arith)) (eqb i n) refl
    where
      go : (i < n → get_or (each n) i d ≡ f i) → (b : Bool) → eqb i n ≡ b → get_or (set (each n) n (f n)) i d ≡ f i
      go ih true q =
          let e : i ≡ n = eqb-true i n q in
          ap (λ j. get_or (set (each n) n (f n)) j d) e ∙ get_or-set_same (each n) n (f n) d (omega (arith, length_each n, fits)) ∙ ap f
          (sym e)
      go ih false q =
          let ne : i ≢ n = eqb-false i n q in
          get_or-set_other (each n) n i (f n) d ne ∙ ih (omega arith)

  pub each_table : (n : ℕ) → length l ≡ n → each n ≡ table f n
  each_table n e = sym (as_table d f n (each n) (length_each n ∙ e) (λ k h. sym (each_in n k h (omega arith))))

pub each_list : {A : Type 0} (d : A) (l m : List A) (n : ℕ) → length l ≡ n → length m ≡ n → each_place d (λ k x. get_or m k d) l n ≡ m
each_list d l m n e q = each_table d l (λ k. get_or m k d) n e ∙ as_table d (λ k. get_or m k d) n m q (λ k h. refl)

-- ---- a channel that was laid out
module _ (codes : List ℕ) (held : List ℤ) (heads counts : List ℕ) (c : ℕ) (small : c < 32) (laid : Laid codes held heads counts) (ch :
    Channel)
    (same : (k : ℕ) → k < 8 → item_of (code_of (cargo_at ch k)) (value_of (cargo_at ch k)) ≡ get_or ch.items k barrier)
    (wide : length ch.items ≡ 8) where
  abbrev w' : List ℕ
  w' = fill_to codes (c * 8) (λ k. code_of (cargo_at ch k)) 8

  abbrev v' : List ℤ
  v' = fill_to held (c * 8) (λ k. value_of (cargo_at ch k)) 8

  item_here : (k : ℕ) → k < 8 → item_in w' v' c 0 k ≡ get_or ch.items k barrier
  unfolding item_in
  item_here k h =
      let e : spot c 0 k ≡ c * 8 + k = omega arith in
      ap₂ item_of
      (ap (λ q. get_or w' q 0) e ∙ fill_in 0 codes (c * 8) (λ j. code_of (cargo_at ch j)) 8 k h (omega arith))
      (ap (λ q. get_or v' q (pos 0)) e ∙ fill_in (pos 0) held (c * 8) (λ j. value_of (cargo_at ch j)) 8 k h (omega arith))
      ∙ same k h

  lay_here : channel_in w' v' (set heads c 0) (set counts c ch.count) c ≡ ch
  unfolding channel_in
  lay_here =
      ap₂ (λ g m. chan (table (item_in w' v' c g) 8) m) (get_or-set_same heads c 0 0 (omega arith)) (get_or-set_same counts c ch.count 0
      (omega arith))
      ∙ ap (λ l. chan l ch.count) (as_table barrier (item_in w' v' c 0) 8 ch.items wide item_here)

  lay_there : (k : ℕ) → k ≢ c → channel_in w' v' (set heads c 0) (set counts c ch.count) k ≡ channel_in codes held heads counts k
  unfolding channel_in item_in
  lay_there k ne =
      let g = get_or heads k 0 in
      ap₂ (λ h m. chan (table (item_in w' v' k h) 8) m) (get_or-set_other heads c k 0 0 ne) (get_or-set_other counts c k ch.count 0 ne)
      ∙ ap (λ l. chan l (get_or counts k 0))
      (table_same barrier (item_in w' v' k g) (item_in codes held k g) 8
      (λ j h. ap₂ item_of
      (fill_out 0 codes (c * 8) (λ i. code_of (cargo_at ch i)) 8 (spot k g j) (λ i m. apart c k i g j m ne))
      (fill_out (pos 0) held (c * 8) (λ i. value_of (cargo_at ch i)) 8 (spot k g j) (λ i m. apart c k i g j m ne))))

  lay_reads : channels_in w' v' (set heads c 0) (set counts c ch.count) ≡ set (channels_in codes held heads counts) c ch
  unfolding channels_in
  lay_reads =
      stored no_channel (channel_in codes held heads counts) (channel_in w' v' (set heads c 0) (set counts c ch.count)) 32 c ch small
      lay_here
      (λ k l ne. lay_there k ne)

  pub laid_channel : ReadAs (set (channels_in codes held heads counts) c ch) w' v' (set heads c 0) (set counts c ch.count)
  laid_channel = record {
    laid = record {
      of_codes = length_fill 0 codes (c * 8) (λ k. code_of (cargo_at ch k)) 8 ∙ laid.of_codes;
      of_held = length_fill (pos 0) held (c * 8) (λ k. value_of (cargo_at ch k)) 8 ∙ laid.of_held;
      of_heads = simp length-set laid.of_heads;
      of_counts = simp length-set laid.of_counts;
    };
    reads = lay_reads;
  }

abbrev pub boxed : Cargo → Item
boxed x = record { cargo = x }
