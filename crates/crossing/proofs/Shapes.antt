-- A shape past 7 is refused, and one of 0..7 goes on to the call. Assumes nothing.
use mathlib.Core.Path.{◌≡◌}
use Prim.Native.Nat.{ℕ, ◌≤◌, ◌<◌}
use borrow.Author.Tests.{le-leb, lt-leb}
use Rattle.answer.specs.Refusal.{SETTING}
use Rattle.answer.specs.Reply.{Reply, refused}
use Rattle.crossing.specs.Settings.{with_shape}

pub with-unknown : (n : ℕ) (reply : Reply) → 7 < n → with_shape n reply ≡ refused SETTING 0
with-unknown n reply h = rw (lt-leb n 7 h)

pub with-known : (n : ℕ) (reply : Reply) → n ≤ 7 → with_shape n reply ≡ reply
with-known n reply h = rw (le-leb n 7 h)
