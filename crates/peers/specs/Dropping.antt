-- What was dropped, counted by cause.
use Rattle.std.specs.Prelude.{ℕ, ◌+◌, ◌-◌, ◌^◌, min}
use Rattle.peers.specs.declared.dropped.Dropped.{Dropped}
use Rattle.peers.specs.declared.dropped.Dropped.TheVariants.{Short, AnotherRun, Digest}
use Rattle.peers.specs.declared.dropped.Drops.{Drops}

abbrev pub nothing_dropped : Drops
nothing_dropped = record { short = 0; another_run = 0; digest = 0 }

-- one more, as far as 64 bits count
abbrev pub one_more : ℕ → ℕ
one_more n = min (n + 1) (2 ^ 64 - 1)

abbrev pub with_dropped : Drops → Dropped → Drops
with_dropped drops Short = record drops { short = one_more drops.short }
with_dropped drops AnotherRun = record drops { another_run = one_more drops.another_run }
with_dropped drops Digest = record drops { digest = one_more drops.digest }
