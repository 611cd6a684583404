-- What a store into the columns does to what they read as.
use mathlib.Core.Path.{◌≡◌, refl, sym, ap, ap₂, ◌∙◌}
use mathlib.Core.Logic.{◌≢◌}
use mathlib.Core.Bool.{Bool, true, false, cond}
use mathlib.Core.List.{List, [], ◌∷◌, ◌++◌}
use Prim.Native.Nat.{ℕ, ◌+◌, ◌*◌, ◌-◌, ◌%◌, ◌<◌, ◌≤◌}
use native.Mathlib.Omega.{arith}
use lib.Dec.{eqb, ltb}
use lib.IntN.{ℤ, pos}
use lib.ListN.{get_or, set, length, drop, length-set, length-append, length-drop, get_or-append}
use lib.Seq.{get_or-set_same, get_or-set_other, get_or-drop, get_or_at}
use borrow.Author.Tests.{eqb-true, eqb-false, ltb-false, le-ltb, lt-ltb, eq-eqb, ne_eqb}
use Rattle.tally.specs.declared.Record.{Record}
use Rattle.tally.specs.declared.Totals.{Totals}
use Rattle.channel.specs.declared.Item.{Item}
use Rattle.channel.specs.declared.Cargo.TheVariants.{Record as Recorded}
use Rattle.channel.specs.declared.Channel.{Channel}
use Rattle.channel.specs.Channels.{barrier, with_item, without_head}
use Rattle.tally.specs.Totals.{no_totals}
use Rattle.run.specs.Runs.{no_channel}
use Rattle.run.specs.Fit.{totals_at}
use Rattle.flat.specs.Columns.{table, head_of, is_barrier, head_in, barrier_in, item_of}
use Rattle.flat.specs.Columns.{spot, item_in, channel_in, channels_in, Laid, ReadAs, Tells}
use Rattle.flat.proofs.Tables.{length_table, get_or-table, as_table, stored, table_same}

-- ---- places of the rings
pub apart : (c d x g j : ℕ) → x < 8 → d ≢ c → spot d g j ≢ c * 8 + x
apart c d x g j l ne e = ne (omega arith)

turned : (c h k : ℕ) → spot c ((h % 8 + 1) % 8) k ≡ spot c h (1 + k)
turned c h k = omega arith

behind : (c h k : ℕ) → k < 7 → spot c h (1 + k) ≢ c * 8 + h % 8
behind c h k l e = omega arith

last : (c h : ℕ) → spot c h 8 ≡ c * 8 + h % 8
last c h = omega arith

distinct : (c h k n : ℕ) → k < 8 → n < 8 → k ≢ n → spot c h k ≢ spot c h n
distinct c h k n l m ne e = ne (omega arith)

-- a cylinder's number stands in `codes` as one more
pub again : (r : Record) → r.cylinder < 256 → item_of (r.cylinder + 1) r.value ≡ record { cargo = Recorded r }
again r small =
    let same : (r.cylinder + 1 - 1) % 256 ≡ r.cylinder = omega arith in
    simp (ne_eqb (r.cylinder + 1) 0 (λ e. omega arith), same)

-- an item is told by where it stands
at_spot : (codes : List ℕ) (held : List ℤ) (c h k d g j : ℕ) → spot c h k ≡ spot d g j → item_in codes held c h k ≡ item_in codes held d g j
unfolding item_in
at_spot codes held c h k d g j e = ap (λ p. item_of (get_or codes p 0) (get_or held p (pos 0))) e

-- a store elsewhere leaves it
kept_codes : (codes : List ℕ) (held : List ℤ) (p w c h k : ℕ) → spot c h k ≢ p → item_in (set codes p w) held c h k ≡ item_in codes held c
    h k
unfolding item_in
kept_codes codes held p w c h k ne = ap (λ x. item_of x (get_or held (spot c h k) (pos 0))) (get_or-set_other codes p (spot c h k) w 0 ne)

kept_both : (codes : List ℕ) (held : List ℤ) (p w : ℕ) (v : ℤ) (c h k : ℕ) → spot c h k ≢ p
    → item_in (set codes p w) (set held p v) c h k ≡ item_in codes held c h k
unfolding item_in
kept_both codes held p w v c h k ne =
    ap₂ item_of (get_or-set_other codes p (spot c h k) w 0 ne) (get_or-set_other held p (spot c h k) v (pos 0) ne)

barrier_at : (codes : List ℕ) (held : List ℤ) (p c h k : ℕ) → p < length codes → spot c h k ≡ p → item_in (set codes p 0) held c h k ≡
    barrier
unfolding item_in
barrier_at codes held p c h k inside e =
    ap (λ x. item_of x (get_or held (spot c h k) (pos 0)))
    (ap (λ q. get_or (set codes p 0) q 0) e ∙ get_or-set_same codes p 0 0 inside)

record_at_lem : (codes : List ℕ) (held : List ℤ) (p c h k : ℕ) (r : Record) → p < length codes → p < length held → r.cylinder < 256 → spot
    c h k ≡ p
    → item_in (set codes p (r.cylinder + 1)) (set held p r.value) c h k ≡ record { cargo = Recorded r }
unfolding item_in
record_at_lem codes held p c h k r inside within small e =
    ap₂ item_of (ap (λ q. get_or (set codes p (r.cylinder + 1)) q 0) e ∙ get_or-set_same codes p (r.cylinder + 1) 0 inside)
    (ap (λ q. get_or (set held p r.value) q (pos 0)) e ∙ get_or-set_same held p r.value (pos 0) within)
    ∙ again r small

-- ---- a channel
module _ (codes : List ℕ) (held : List ℤ) (c h : ℕ) where
  abbrev ring : List Item
  ring = table (item_in codes held c h) 8

  wide : length ring ≡ 8
  wide = length_table (item_in codes held c h) 8

  -- the head is taken: the ring turns by one, and a barrier stands in its last place
  pub turns : c * 8 + h % 8 < length codes
      → table (item_in (set codes (c * 8 + h % 8) 0) held c ((h % 8 + 1) % 8)) 8 ≡ drop 1 ring ++ (barrier ∷ [])
  turns inside =
      let short : length (drop 1 ring) ≡ 7 = simp length-drop (omega (arith, wide)) in
      as_table barrier (item_in (set codes (c * 8 + h % 8) 0) held c ((h % 8 + 1) % 8)) 8 (drop 1 ring ++ (barrier ∷ []))
      (simp length-append (omega (arith, short)))
      (λ k l. go short k l (eqb k 7) refl)
    where
      go : length (drop 1 ring) ≡ 7 → (k : ℕ) → k < 8 → (b : Bool) → eqb k 7 ≡ b
          → item_in (set codes (c * 8 + h % 8) 0) held c ((h % 8 + 1) % 8) k ≡ get_or (drop 1 ring ++ (barrier ∷ [])) k barrier
      go short k l true q =
          let e : k ≡ 7 = eqb-true k 7 q in
          barrier_at codes held (c * 8 + h % 8) c ((h % 8 + 1) % 8) k inside
          (turned c h k ∙ ap (λ j. spot c h (1 + j)) e ∙ last c h)
          ∙ sym (get_or_at (drop 1 ring) barrier [] barrier k (short ∙ sym e))
      go short k l false q =
          let ne : k ≢ 7 = eqb-false k 7 q in
          let few : k < 7 = omega arith in
          kept_codes codes held (c * 8 + h % 8) 0 c ((h % 8 + 1) % 8) k (λ e. behind c h k few (sym (turned c h k) ∙ e))
          ∙ at_spot codes held c ((h % 8 + 1) % 8) k c h (1 + k) (turned c h k)
          ∙ sym (get_or-table (item_in codes held c h) 8 (1 + k) barrier (omega arith))
          ∙ sym (get_or-drop 1 ring k barrier)
          ∙ sym (get_or-append (drop 1 ring) (barrier ∷ []) barrier k (omega arith))

  -- a record is put at the end
  pub grows : (n : ℕ) (r : Record) → n < 8 → spot c h n < length codes → spot c h n < length held → r.cylinder < 256
      → table (item_in (set codes (spot c h n) (r.cylinder + 1)) (set held (spot c h n) r.value) c h) 8 ≡ set ring n (record {
        cargo
            = Recorded r;
      })
  grows n r m inside within small =
      stored barrier (item_in codes held c h) (item_in (set codes (spot c h n) (r.cylinder + 1)) (set held (spot c h n) r.value) c h)
      8 n
      (record { cargo = Recorded r }) m (record_at_lem codes held (spot c h n) c h n r inside within small refl)
      (λ k l ne. kept_both codes held (spot c h n) (r.cylinder + 1) r.value c h k (distinct c h k n l m ne))

-- ---- a channel from which nothing is taken, and one that takes nothing
pub too_many : (ch : Channel) → 8 < ch.count → (without_head ch).channel ≡ ch
unfolding without_head
too_many ch h = simp (lt-ltb 8 ch.count h)

pub empty : (ch : Channel) → ch.count ≡ 0 → (without_head ch).channel ≡ ch
unfolding without_head
empty ch e = simp (le-ltb 8 ch.count (omega arith), eq-eqb ch.count 0 e)

pub full : (ch : Channel) → 8 ≤ ch.count → (item : Item) → (with_item ch item).channel ≡ ch
unfolding with_item
full ch h item = go (ltb 8 ch.count) refl (eqb ch.count 8) refl
  where
    go : (b : Bool) → ltb 8 ch.count ≡ b → (d : Bool) → eqb ch.count 8 ≡ d → (with_item ch item).channel ≡ ch
    go true p d q = simp p
    go false p true q = simp (p, q)
    go false p false q = absurd (omega (arith, ltb-false 8 ch.count p, eqb-false ch.count 8 q))

abbrev pub chan : List Item → ℕ → Channel
chan items count = record { items = items; count = count }

module _ (codes : List ℕ) (held : List ℤ) (heads counts : List ℕ) (c : ℕ) (small : c < 32)
    (laid : Laid codes held heads counts) where
  abbrev hd : ℕ
  hd = get_or heads c 0

  abbrev n : ℕ
  n = get_or counts c 0

  -- ---- nothing is stored
  pub unmoved : (x : Channel) → x ≡ channel_in codes held heads counts c → ReadAs (set (channels_in codes held heads counts) c x) codes
      held heads counts
  unfolding channels_in
  unmoved x e = record {
    laid = laid;
    reads =
        stored no_channel (channel_in codes held heads counts) (channel_in codes held heads counts) 32 c x small (sym e) (λ k l ne. refl);
  }

  pub takes_none_of_many : 8 < n
      → ReadAs (set (channels_in codes held heads counts) c (without_head (channel_in codes held heads counts c)).channel)
      codes held heads counts
  unfolding channel_in
  takes_none_of_many h = unmoved _ (too_many (channel_in codes held heads counts c) h)

  pub takes_none : n ≡ 0
      → ReadAs (set (channels_in codes held heads counts) c (without_head (channel_in codes held heads counts c)).channel)
      codes held heads counts
  unfolding channel_in
  takes_none e = unmoved _ (empty (channel_in codes held heads counts c) e)

  pub puts_none : 8 ≤ n → (item : Item)
      → ReadAs (set (channels_in codes held heads counts) c (with_item (channel_in codes held heads counts c) item).channel)
      codes held heads counts
  unfolding channel_in
  puts_none h item = unmoved _ (full (channel_in codes held heads counts c) h item)

  -- ---- the head of channel c is taken
  module _ (some : 1 ≤ n) (fits : n ≤ 8) where
    abbrev codes' : List ℕ
    codes' = set codes (c * 8 + hd % 8) 0

    abbrev heads' : List ℕ
    heads' = set heads c ((hd % 8 + 1) % 8)

    abbrev counts' : List ℕ
    counts' = set counts c (n - 1)

    take_here : channel_in codes' held heads' counts' c ≡ (without_head (channel_in codes held heads counts c)).channel
    unfolding channel_in without_head
    take_here =
        ap₂ (λ g m. chan (table (item_in codes' held c g) 8) m)
        (get_or-set_same heads c ((hd % 8 + 1) % 8) 0 (omega arith)) (get_or-set_same counts c (n - 1) 0 (omega arith))
        ∙ ap (λ l. chan l (n - 1)) (turns codes held c hd (omega arith))
        ∙ sym (simp (le-ltb 8 n fits, ne_eqb n 0 (λ e. omega arith)))

    take_there : (k : ℕ) → k ≢ c → channel_in codes' held heads' counts' k ≡ channel_in codes held heads counts k
    unfolding channel_in
    take_there k ne =
        ap₂ (λ g m. chan (table (item_in codes' held k g) 8) m)
        (get_or-set_other heads c k ((hd % 8 + 1) % 8) 0 ne) (get_or-set_other counts c k (n - 1) 0 ne)
        ∙ ap (λ l. chan l (get_or counts k 0))
        (table_same barrier (item_in codes' held k (get_or heads k 0)) (item_in codes held k (get_or heads k 0)) 8
        (λ j l. kept_codes codes held (c * 8 + hd % 8) 0 k (get_or heads k 0) j (apart c k (hd % 8) (get_or heads k 0) j (omega arith) ne)))

    take_reads : channels_in codes' held heads' counts'
        ≡ set (channels_in codes held heads counts) c (without_head (channel_in codes held heads counts c)).channel
    unfolding channels_in
    take_reads =
        stored no_channel (channel_in codes held heads counts) (channel_in codes' held heads' counts') 32 c _ small take_here
        (λ k l ne. take_there k ne)

    pub takes : ReadAs (set (channels_in codes held heads counts) c (without_head (channel_in codes held heads counts c)).channel)
        codes' held heads' counts'
    takes = record {
      laid = record {
        of_codes = simp length-set laid.of_codes;
        of_held = laid.of_held;
        of_heads = simp length-set
            laid.of_heads;
        of_counts = simp length-set laid.of_counts;
      };
      reads = take_reads;
    }

  -- ---- a record is put at the end of channel c
  module _ (room : n < 8) (r : Record) (byte : r.cylinder < 256) where
    abbrev p : ℕ
    p = spot c hd n

    abbrev codes'' : List ℕ
    codes'' = set codes p (r.cylinder + 1)

    abbrev held'' : List ℤ
    held'' = set held p r.value

    abbrev counts'' : List ℕ
    counts'' = set counts c (n + 1)

    put_here : channel_in codes'' held'' heads counts'' c ≡ (with_item (channel_in codes held heads counts c) (record {
      cargo = Recorded r;
    })).channel
    unfolding channel_in with_item
    put_here =
        ap₂ chan (grows codes held c hd n r room (omega arith) (omega arith) byte) (get_or-set_same counts c (n + 1) 0 (omega arith))
        ∙ sym (simp (le-ltb 8 n (omega arith), ne_eqb n 8 (λ e. omega arith)))

    put_there : (k : ℕ) → k ≢ c → channel_in codes'' held'' heads counts'' k ≡ channel_in codes held heads counts k
    unfolding channel_in
    put_there k ne =
        ap₂ chan
        (table_same barrier (item_in codes'' held'' k (get_or heads k 0)) (item_in codes held k (get_or heads k 0)) 8
        (λ j l. kept_both codes held p (r.cylinder + 1) r.value k (get_or heads k 0) j
        (apart c k ((hd % 8 + n) % 8) (get_or heads k 0) j (omega arith) ne)))
        (get_or-set_other counts c k (n + 1) 0 ne)

    put_reads : channels_in codes'' held'' heads counts''
        ≡ set (channels_in codes held heads counts) c (with_item (channel_in codes held heads counts c) (record { cargo = Recorded r })
        ).channel
    unfolding channels_in
    put_reads =
        stored no_channel (channel_in codes held heads counts) (channel_in codes'' held'' heads counts'') 32 c _ small put_here
        (λ k l ne. put_there k ne)

    pub puts : ReadAs (set (channels_in codes held heads counts) c (with_item (channel_in codes held heads counts c) (record {
      cargo =
          Recorded r;
    })).channel)
        codes'' held'' heads counts''
    puts = record {
      laid = record {
        of_codes = simp length-set laid.of_codes;
        of_held = simp length-set laid.of_held;
        of_heads =
            laid.of_heads;
        of_counts = simp length-set laid.of_counts;
      };
      reads = put_reads;
    }

-- ---- the head of a channel
plain : (code : ℕ) (v : ℤ) → eqb code 0 ≡ is_barrier (item_of code v).cargo
plain code v = go (eqb code 0)
  where
    go : (b : Bool)
        → b ≡ is_barrier (cond b barrier (record { cargo = Recorded (record { cylinder = (code - 1) % 256; value = v }) })).cargo
    go true = refl
    go false = refl

module _ (codes : List ℕ) (held : List ℤ) (heads counts : List ℕ) (c : ℕ) where
  abbrev at : ℕ
  at = c * 8 + get_or heads c 0 % 8

  first : spot c (get_or heads c 0) 0 ≡ at
  first = omega arith

  pub head_at : head_of (channel_in codes held heads counts c) ≡ head_in codes held heads c
  unfolding channel_in head_in
  head_at = ap (λ (x : Item). x.cargo) (get_or-table (item_in codes held c (get_or heads c 0)) 8 0 barrier (omega arith))

  pub barrier_there : eqb (get_or codes at 0) 0 ≡ barrier_in codes heads c
  unfolding barrier_in
  barrier_there = ap (λ q. eqb (get_or codes q 0) 0) (sym first)

  pub barrier_is : barrier_in codes heads c ≡ is_barrier (head_of (channel_in codes held heads counts c))
  unfolding barrier_in head_in item_in
  barrier_is =
      plain (get_or codes (spot c (get_or heads c 0) 0) 0) (get_or held (spot c (get_or heads c 0) 0) (pos 0)) ∙ ap is_barrier (sym head_at)

-- ---- how many records a task has received
pub told : (live : List Totals) (received : List ℕ) (t : ℕ) (x : Totals) → t < 16 → Tells live received → Tells (set live t x) (set
    received t x.count)
told live received t x small T = record {
  of_live = simp length-set T.of_live;
  of_received = simp length-set T.of_received;
  tells = λ u h. go u h (eqb u t) refl;
}
  where
    go : (u : ℕ) → u < 16 → (b : Bool) → eqb u t ≡ b → get_or (set received t x.count) u 0 ≡ (totals_at (set live t x) u).count
    go u h true q =
        let e : u ≡ t = eqb-true u t q in
        ap (λ k. get_or (set received t x.count) k 0) e
        ∙ get_or-set_same received t x.count 0 (omega (arith, T.of_received, small))
        ∙ ap (λ (y : Totals). y.count) (sym (get_or-set_same live t x no_totals (omega (arith, T.of_live, small))))
        ∙ ap (λ k. (totals_at (set live t x) k).count) (sym e)
    go u h false q =
        let ne : u ≢ t = eqb-false u t q in
        get_or-set_other received t u x.count 0 ne ∙ T.tells u h
        ∙ ap (λ (y : Totals). y.count) (sym (get_or-set_other live t u x no_totals ne))
