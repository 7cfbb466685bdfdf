-- What a state that absorbs whole blocks and holds the bytes behind them stands for. Assumes nothing.
use Rattle.std.specs.Prelude.{◌≡◌, ◌≤◌, ◌⊎◌, [], ◌++◌, length}
use Rattle.digests.specs.Strings.{Bytes}

-- the bytes absorbed and those held are all bytes taken, and some are held unless there are none
pub record Took {S : Type 0} (absorbed : S → Bytes → Type 0) (inner : S) (held all : Bytes) : Type 0 where
  pub front : Bytes
  pub gone : absorbed inner front
  pub joined : front ++ held ≡ all
  pub lazy : (1 ≤ length held) ⊎ (front ≡ [])
