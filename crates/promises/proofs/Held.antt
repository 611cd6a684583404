-- What channels hold, read as items: what is put on every output stands behind what a channel held, and a head that is taken is gone.
use mathlib.Core.Path.{◌≡◌, refl, sym, ap, ◌∙◌}
use mathlib.Core.Bool.{Bool, true, false, cond}
use mathlib.Core.List.{List, [], ◌∷◌, ◌++◌, map, append-nil}
use Prim.Native.Nat.{ℕ, ◌<◌, ◌≤◌}
use native.Mathlib.Omega.{arith}
use borrow.Author.Tests.{eqb-true, eqb-false, ltb-true, ltb-false, eq-eqb}
use lib.Dec.{eqb, ltb}
use lib.ListN.{length, get_or, set}
use lib.Seq.{length-take-le, get_or-set_same, get_or-set_other}
use Rattle.laws.specs.Received.{keep}
use Rattle.laws.specs.Items.{Item, barrier, as_items, tl}
use Rattle.laws.proofs.Below.{eqb_sym}
use Rattle.tally.specs.declared.Record.{Record}
use Rattle.channel.specs.declared.Cargo.{Cargo}
use Rattle.channel.specs.declared.Cargo.TheVariants.{Barrier, Record as Recorded}
use Rattle.channel.specs.declared.Channel.{Channel}
use Rattle.channel.specs.declared.Item.{Item as ChannelItem}
use Rattle.channel.specs.Channels.{held, without_head}
use Rattle.channel.proofs.Queues.{taken_holds}
use Rattle.job.specs.declared.Job.{Job}
use Rattle.job.specs.Jobs.{from_of, is_output}
use Rattle.job.specs.Graph.{over_channel}
use Rattle.run.specs.Runs.{no_channel}
use Rattle.outputs.specs.Outputs.{put_all}
use Rattle.promises.proofs.Queued.{as_item, Wide, popped, outputs_hold, others_same}
use Rattle.promises.proofs.Queued.{items_for as held_for}
use Rattle.promises.proofs.Reading.{item_of, items_of, end_of, end_is, end_out}

-- each place of a list after a store
pub set_at : {A : Type 0} (l : List A) (k : ℕ) (x d : A) → k < length l → (j : ℕ) → get_or (set l k x) j d ≡ cond (eqb j k) x (get_or l j d)
set_at l k x d h j = go (eqb j k) refl
  where
    go : (b : Bool) → eqb j k ≡ b → get_or (set l k x) j d ≡ cond b x (get_or l j d)
    go true e = ap (λ i. get_or (set l k x) i d) (eqb-true j k e) ∙ get_or-set_same l k x d h
    go false e = get_or-set_other l k j x d (eqb-false j k e)

-- the same with the test the other way round
pub at_set : {A : Type 0} (l : List A) (k : ℕ) (x d : A) → k < length l → (j : ℕ) → get_or (set l k x) j d ≡ cond (eqb k j) x (get_or l j d)
at_set l k x d h j = set_at l k x d h j ∙ ap (λ b. cond b x (get_or l j d)) (eqb_sym j k)

-- ---- one channel
items-append : (xs ys : List ChannelItem) → items_of (xs ++ ys) ≡ items_of xs ++ items_of ys
items-append [] ys = refl
items-append (x ∷ xs) ys = ap (λ l. item_of x.cargo ∷ l) (items-append xs ys)

items-length : (xs : List ChannelItem) → length (items_of xs) ≡ length xs
items-length [] = refl
items-length (x ∷ xs) = omega (arith, items-length xs)

module _ (ch : Channel) (wide : length ch.items ≡ 8) where
  pub held-length : ch.count ≤ 8 → length (items_of (held ch)) ≡ ch.count
  held-length h = items-length (held ch) ∙ length-take-le ch.count ch.items (omega arith)

  pub head_items : 0 < ch.count → ch.count ≤ 8
      → items_of (held ch) ≡ item_of (without_head ch).item.cargo ∷ items_of (held (without_head ch).channel)
  head_items p h = ap items_of (taken_holds ch wide p h)

-- ---- a list of channels
abbrev pub chans_of : List Channel → ℕ → List (Item Record)
chans_of l c = items_of (held (get_or l c no_channel))

-- 32 channels of 8 places, none of which claims more
pub record Queues (l : List Channel) : Type 0 where
  pub long : length l ≡ 32
  pub places : (c : ℕ) → c < 32 → length (get_or l c no_channel).items ≡ 8
  pub few : (c : ℕ) → c < 32 → (get_or l c no_channel).count ≤ 8

-- what a barrier, or a record by the kind's rule, puts on channel c
abbrev pub items_for : Job → Cargo → ℕ → List (Item Record)
items_for job Barrier c = barrier ∷ []
items_for job (Recorded r) c = as_items (over_channel job c r)

module _ (job : Job) (t : ℕ) where
  sent_items : (rs : List Record) → items_of (map as_item rs) ≡ as_items rs
  sent_items [] = refl
  sent_items (r ∷ rs) = ap (λ l. item_of (Recorded r) ∷ l) (sent_items rs)

  items_for_lem : (cargo : Cargo) (c : ℕ) → items_of (held_for job cargo c) ≡ items_for job cargo c
  items_for_lem Barrier c = refl
  items_for_lem (Recorded r) c = sent_items (over_channel job c r)

  inside : (c : ℕ) → t < job.tasks → end_of job (from_of job) c ≡ t → c < job.channels
  inside c lt e = go (ltb c job.channels) refl
    where
      go : (b : Bool) → ltb c job.channels ≡ b → c < job.channels
      go true q = ltb-true c job.channels q
      go false q = absurd (omega (arith, end_out job (from_of job) c (ltb-false c job.channels q)))

  -- "puts a barrier on every output", "is sent by the kind's rule": behind what each output held
  pub put_all_items : (cargo : Cargo) (l : List Channel) → Queues l → job.channels ≤ 32 → t < job.tasks
      → ((c : ℕ) → c < job.channels → is_output job t c ≡ true → (get_or l c no_channel).count < 8) → (c : ℕ)
      → chans_of (put_all job t cargo l) c ≡ chans_of l c ++ keep (eqb (end_of job (from_of job) c) t) (items_for job cargo c)
  put_all_items cargo l Q few lt room c = go (eqb (end_of job (from_of job) c) t) refl
    where
      wide : Wide l
      wide = record { long = Q.long; places = Q.places }

      go : (b : Bool) → eqb (end_of job (from_of job) c) t ≡ b
          → chans_of (put_all job t cargo l) c ≡ chans_of l c ++ keep b (items_for job cargo c)
      go true e =
          let at = eqb-true (end_of job (from_of job) c) t e in
          let lc : c < job.channels = inside c lt at in
          let f : from_of job c ≡ t = sym (end_is job (from_of job) c lc) ∙ at in
          ap items_of (outputs_hold job few t l wide cargo c lc f (room c lc (eq-eqb (from_of job c) t f)))
          ∙ items-append (held (get_or l c no_channel)) (held_for job cargo c) ∙ ap (λ x. chans_of l c ++ x) (items_for_lem cargo c)
      go false e =
          ap (λ ch. items_of (held ch))
          (others_same job few t l wide cargo c (λ lc f. eqb-false (end_of job (from_of job) c) t e (end_is job (from_of job) c lc ∙ f)))
          ∙ sym (append-nil (chans_of l c))

pub pop_items : (l : List Channel) → Queues l → (d : ℕ) → d < 32 → 0 < (get_or l d no_channel).count → (c : ℕ)
    → chans_of (popped l d) c ≡ cond (eqb d c) (tl (chans_of l c)) (chans_of l c)
pop_items l Q d ld p c =
    ap (λ x. items_of (held x)) (at_set l d (without_head (get_or l d no_channel)).channel no_channel (omega (arith, Q.long)) c)
    ∙ go (eqb d c) refl
  where
    go : (b : Bool) → eqb d c ≡ b
        → items_of (held (cond b (without_head (get_or l d no_channel)).channel (get_or l c no_channel)))
        ≡ cond b (tl (chans_of l c)) (chans_of l c)
    go true e =
        ap tl (sym (head_items (get_or l d no_channel) (Q.places d ld) p (Q.few d ld))) ∙ ap (λ i. tl (chans_of l i)) (eqb-true d c e)
    go false e = refl
