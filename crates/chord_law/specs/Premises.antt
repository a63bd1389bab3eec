-- The premises of the chord law on two whole stereo calls, A and B. Assumes nothing.
use Rattle.chord_law.specs.Calls.{WholeCall, Accepted}
use Rattle.chord_law.specs.Voices.{MatchedIn}
use Rattle.chord_law.specs.Settings.{SameSettings, SameEntries}
use Rattle.chord_law.specs.Curves.{NowhereAbove}

-- both are accepted, on the same settings and table
pub record Comparable (a b : WholeCall) : Type 0 where
  pub a-accepted : Accepted a
  pub b-accepted : Accepted b
  pub settings : SameSettings a.config b.config
  pub table : SameEntries a.table b.table

-- each voice of A is matched by one of B, and A's curve is nowhere above B's
pub record Beneath (a b : WholeCall) : Type 0 where
  pub matched : MatchedIn a.voices b.voices
  pub curve : NowhereAbove a.curve b.curve
