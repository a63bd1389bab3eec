-- One whole stereo call, from what it is given to what it answers and the masks that it writes. The
-- chord law is about two of them, in either of the two forms that the call has: on an array of
-- voices with a count, and on a lent slice of voice records. Assumes nothing.
use Rattle.std.specs.Prelude.{◌≡◌, List, [], ℕ, take, Float}
use Rattle.answer.specs.Reply.{Reply, done}
use Rattle.scene.specs.declared.MaskVoice.{MaskVoice}
use Rattle.scene.specs.declared.MaskConfig.{MaskConfig}
use Rattle.lobes.specs.Pan.{Side, left, right}
use Rattle.lobes.specs.Distance.{lent}
use Rattle.mask_builder.specs.Mask.{mask_of}
use Rattle.refusals.specs.Masks.{stereo_reply}
use Rattle.scene.specs.F32.{F32Settings, F32Voices, F32List}
use Rattle.mask_calls.specs.LentStereo.{lent_reply, lent_mask}

-- the voices are those that count; the masks have all their size/2 + 1 bins where the call is done
pub record WholeCall : Type 0 where
  pub curve : List Float
  pub voices : List MaskVoice
  pub config : MaskConfig
  pub table : List Float
  pub reply : Reply
  pub left : List Float
  pub right : List Float

-- "a list is accepted where this call, given it, answers 0"
abbrev pub Accepted : WholeCall → Type 0
Accepted call = call.reply ≡ done []

-- ---- the call on an array of voices with a count
-- "What a slice that the call writes held before does not count": only the two lengths do
pub record Call : Type 0 where
  pub left-length : ℕ
  pub right-length : ℕ
  pub curve : List Float
  pub voices : List MaskVoice
  pub count : ℕ
  pub config : MaskConfig
  pub table : List Float

abbrev pub call_of : ℕ → ℕ → List Float → List MaskVoice → ℕ → MaskConfig → List Float → Call
call_of m n curve voices count config table =
    record {
      left-length = m;
      right-length = n;
      curve = curve;
      voices = voices;
      count = count;
      config = config;
      table = table;
    }

-- what it answers
abbrev pub reply_to : Call → Reply
reply_to call =
    stereo_reply call.left-length call.right-length call.curve call.voices call.count
    call.config call.table

-- the voices that count
abbrev pub given : Call → List MaskVoice
given call = take call.count call.voices

-- the mask of one side
abbrev pub mask_on : Side → Call → List Float
mask_on side call = mask_of call.curve call.config (lent call.table) side (given call)

-- the whole call, where its two slices then hold these masks
abbrev pub whole_with : Call → List Float → List Float → WholeCall
whole_with call l r =
    record {
      curve = call.curve;
      voices = given call;
      config = call.config;
      table = call.table;
      reply = reply_to call;
      left = l;
      right = r;
    }

abbrev pub whole : Call → WholeCall
whole call = whole_with call (mask_on left call) (mask_on right call)

-- ---- the call of `lent_voices`, on a lent slice of voice records: all of them count
pub record LentCall : Type 0 where
  pub left-length : ℕ
  pub right-length : ℕ
  pub curve : List Float
  pub records : List MaskVoice
  pub config : MaskConfig
  pub table : List Float

abbrev pub lent_reply_to : LentCall → Reply
lent_reply_to call =
    lent_reply call.left-length call.right-length call.curve call.records call.config
    call.table

abbrev pub lent_mask_on : Side → LentCall → List Float
lent_mask_on side call = lent_mask side call.curve call.records call.config call.table

abbrev pub whole_lent : LentCall → WholeCall
whole_lent call =
    record {
      curve = call.curve;
      voices = call.records;
      config = call.config;
      table = call.table;
      reply = lent_reply_to call;
      left = lent_mask_on left call;
      right = lent_mask_on right call;
    }

-- ---- every number that a call is given is an f32, which is what the types of its parameters say
pub record F32Given
    (curve : List Float) (voices : List MaskVoice) (config : MaskConfig) (table : List Float)
    : Type 0 where
  pub curve-f32 : F32List curve
  pub voices-f32 : F32Voices voices
  pub settings-f32 : F32Settings config
  pub table-f32 : F32List table

abbrev pub F32Call : Call → Type 0
F32Call call = F32Given call.curve call.voices call.config call.table

abbrev pub F32LentCall : LentCall → Type 0
F32LentCall call = F32Given call.curve call.records call.config call.table
