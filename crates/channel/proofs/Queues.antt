-- A channel is first in, first out: adding appends to what is held, taking gives its head and leaves the rest; and a refusal hands
-- the channel back as it came.
use mathlib.Core.Path.{◌≡◌, ap}
use mathlib.Core.List.{List, [], ◌∷◌, ◌++◌}
use Prim.Native.Nat.{ℕ, zero, suc, ◌-◌, ◌≤◌, ◌<◌}
use native.Mathlib.Numerals.{add-one}
use native.Mathlib.Omega.{arith}
use borrow.Author.Tests.{le-ltb, lt-ltb, eq-eqb, ne_eqb}
use lib.ListN.{length, take, drop, get_or, length-drop}
use lib.Seq.{take-suc-set, take-append-le}
use Rattle.channel.specs.Channels.{held, barrier, with_item, without_head}
use Rattle.channel.specs.declared.Channel.{Channel}
use Rattle.channel.specs.declared.Item.{Item}

-- the head of a list that is cut after n > 0 places, and the rest of it
cut_head : {A : Type 0} (l : List A) (n : ℕ) (d : A) → 0 < n → n ≤ length l → take n l ≡ get_or l 0 d ∷ take (n - 1) (drop 1 l)
cut_head l zero d p h = absurd (omega arith)
cut_head [] (suc n) d p h = absurd (omega arith)
cut_head (x ∷ l) (suc n) d p h = let e : n ≡ suc n - 1 = omega arith in ap (λ (k : ℕ). x ∷ take k l) e

module _ (ch : Channel) where
  pub added_16 : (item : Item) → 8 < ch.count → with_item ch item ≡ record { channel = ch; answer = 16 }
  unfolding with_item
  added_16 item h = simp (lt-ltb 8 ch.count h)

  pub added_14 : (item : Item) → ch.count ≡ 8 → with_item ch item ≡ record { channel = ch; answer = 14 }
  unfolding with_item
  added_14 item h = simp (le-ltb 8 ch.count (omega arith), eq-eqb ch.count 8 h)

  pub taken_16 : 8 < ch.count → without_head ch ≡ record { channel = ch; item = barrier; answer = 16 }
  unfolding without_head
  taken_16 h = simp (lt-ltb 8 ch.count h)

  pub taken_13 : ch.count ≡ 0 → without_head ch ≡ record { channel = ch; item = barrier; answer = 13 }
  unfolding without_head
  taken_13 h = simp (le-ltb 8 ch.count (omega arith), eq-eqb ch.count 0 h)

  pub added_0 : (item : Item) → ch.count < 8 → (with_item ch item).answer ≡ 0
  unfolding with_item
  added_0 item h = simp (le-ltb 8 ch.count (omega arith), ne_eqb ch.count 8 (λ e. omega arith))

  pub taken_0 : 0 < ch.count → ch.count ≤ 8 → (without_head ch).answer ≡ 0
  unfolding without_head
  taken_0 p h = simp (le-ltb 8 ch.count h, ne_eqb ch.count 0 (λ e. omega arith))

  -- ---- a channel's array has 8 places
  module _ (wide : length ch.items ≡ 8) where
    -- FIRST IN: what is added stands at the end
    pub added_holds : (item : Item) → ch.count < 8 → held (with_item ch item).channel ≡ held ch ++ (item ∷ [])
    unfolding with_item
    added_holds item h =
        simp (le-ltb 8 ch.count (omega arith), ne_eqb ch.count 8 (λ e. omega arith), add-one)
        (take-suc-set ch.items ch.count item (omega arith))

    -- FIRST OUT: what is taken was the head, and the rest stays
    pub taken_holds : 0 < ch.count → ch.count ≤ 8 → held ch ≡ (without_head ch).item ∷ held (without_head ch).channel
    unfolding without_head
    taken_holds p h =
        let short : ch.count - 1 ≤ length (drop 1 ch.items) = simp length-drop (omega arith) in
        simp (
          le-ltb 8 ch.count h,
          ne_eqb ch.count 0 (λ e. omega arith),
          take-append-le (ch.count - 1) (drop 1 ch.items) (barrier ∷ []) short,
        )
        (cut_head ch.items ch.count barrier p (omega arith))
