-- The fresh run, and a run with one part changed (a record has no update, so each part that a step changes has its own).
use Rattle.std.specs.Prelude.{Bool, false, ℕ, List, [], replicate}
use Rattle.tally.specs.declared.Totals.{Totals}
use Rattle.tally.specs.Totals.{no_totals}
use Rattle.channel.specs.declared.Channel.{Channel}
use Rattle.channel.specs.Channels.{empty_channel}
use Rattle.run.specs.declared.Run.{Run}

-- "A fresh run needs no job: all zero, nothing held, no snapshot."
abbrev pub fresh_run : Run
fresh_run = record {
  channels = replicate 32 empty_channel;
  marked = replicate 32 false;
  waiting = replicate 16 0;
  live = replicate 16 no_totals;
  half = replicate 16 no_totals;
  stored = replicate 16 0;
  last = replicate 16 no_totals;
  under_way = 0;
  complete = false;
}

-- what stands past the end of a list of channels, as the logic has it
abbrev pub no_channel : Channel
no_channel = record { items = []; count = 0 }

abbrev pub with_channels : List Channel → Run → Run
with_channels x run = record {
  channels = x;
  marked = run.marked;
  waiting = run.waiting;
  live = run.live;
  half = run.half;
  stored = run.stored;
  last = run.last;
  under_way = run.under_way;
  complete = run.complete;
}

abbrev pub with_marked : List Bool → Run → Run
with_marked x run = record {
  channels = run.channels;
  marked = x;
  waiting = run.waiting;
  live = run.live;
  half = run.half;
  stored = run.stored;
  last = run.last;
  under_way = run.under_way;
  complete = run.complete;
}

abbrev pub with_waiting : List ℕ → Run → Run
with_waiting x run = record {
  channels = run.channels;
  marked = run.marked;
  waiting = x;
  live = run.live;
  half = run.half;
  stored = run.stored;
  last = run.last;
  under_way = run.under_way;
  complete = run.complete;
}

abbrev pub with_live : List Totals → Run → Run
with_live x run = record {
  channels = run.channels;
  marked = run.marked;
  waiting = run.waiting;
  live = x;
  half = run.half;
  stored = run.stored;
  last = run.last;
  under_way = run.under_way;
  complete = run.complete;
}

-- the half-taken snapshot: the totals stored so far, and whose they are
abbrev pub with_half : List Totals → List ℕ → Run → Run
with_half x y run = record {
  channels = run.channels;
  marked = run.marked;
  waiting = run.waiting;
  live = run.live;
  half = x;
  stored = y;
  last = run.last;
  under_way = run.under_way;
  complete = run.complete;
}

abbrev pub with_under_way : ℕ → Run → Run
with_under_way x run = record {
  channels = run.channels;
  marked = run.marked;
  waiting = run.waiting;
  live = run.live;
  half = run.half;
  stored = run.stored;
  last = run.last;
  under_way = x;
  complete = run.complete;
}

-- the last complete snapshot
abbrev pub with_last : List Totals → Bool → Run → Run
with_last x y run = record {
  channels = run.channels;
  marked = run.marked;
  waiting = run.waiting;
  live = run.live;
  half = run.half;
  stored = run.stored;
  last = x;
  under_way = run.under_way;
  complete = y;
}

-- the half-taken totals are emptied
abbrev pub without_half : Run → Run
without_half run = with_half (replicate 16 no_totals) (replicate 16 0) run
