-- Accepted voices are ready for the walk by blocks: their gains are finite and not negative, their
-- lobes sound, and a side that held opennesses holds opennesses once a voice is joined. Assumes
-- nothing.
use mathlib.Core.Path.{◌≡◌, refl, sym, subst}
use mathlib.Core.List.{List, [], ◌∷◌}
use Prim.Native.Nat as nat
use Prim.Native.Nat.{ℕ, suc, ◌≤◌, ◌<◌}
use native.Mathlib.Nat.{le_of_suc-le-suc, not-suc-le-zero}
use native.Mathlib.Omega.{arith}
use lib.ListN.{length, get_or, take}
use lib.Seq.{get_or-take, length-take-le}
use lib.Ieee.{Float, nan, binary32}
use Rattle.lists.specs.Maps.{map_at, tabulate, get_or-map_at, length-map_from, get_d_tabulate, length-tab}
use Rattle.lists.specs.Totals.{All, all-at}
use Rattle.float_laws.specs.Units.{real-number}
use Rattle.float_laws.specs.Order.{le-refl-f}
use Rattle.float_laws.specs.Rise.{Upto}
use Rattle.float32.specs.Remainder.{zero}
use Rattle.scene.specs.declared.MaskVoice.{MaskVoice}
use Rattle.scene.specs.Accepted.{no_voice}
use Rattle.scene.specs.Voices.{RealVoice}
use Rattle.lobes.specs.declared.Grid.{Grid}
use Rattle.lobes.specs.declared.Tone.{Tone}
use Rattle.lobes.specs.Pan.{Side, channel_gain}
use Rattle.lobes.specs.Tone.{tone_of}
use Rattle.lobes.specs.Distance.{lent}
use Rattle.lobes.proofs.Channels.{channel-gain-rises}
use Rattle.lobe_joins.proofs.Maxima.{nothing-open}
use Rattle.lobe_rows.specs.declared.Gains.{Gains}
use Rattle.block_rows.specs.Most.{Opennesses}
use Rattle.openness.specs.Openness.{voice_joined}
use Rattle.openness.specs.Scene.{RealGrid, SoundTone, ToneReady}
use Rattle.openness.proofs.RaisedVoices.{Fair, voice-join}
use Rattle.openness.proofs.ToneLobes.{sound-lobes}

voice-gain : (side : Side) (voice : MaskVoice) → RealVoice voice → Upto binary32 3 (channel_gain side voice)
voice-gain side voice u =
    (channel-gain-rises side voice voice u u refl (le-refl-f binary32 voice.expression_gain (real-number binary32 voice.expression_gain u.expression-real))).from

pub tone-ready : (grid : Grid) (table : List Float) (voice : MaskVoice) (one two : Side) {tone : Tone} {gains : Gains} → RealGrid grid → RealVoice voice → tone ≡ tone_of grid voice → gains.first ≡ channel_gain one voice
    → gains.second ≡ channel_gain two voice → ToneReady grid tone gains table
tone-ready grid table voice one two g u t a b =
    record {
      sound = subst (SoundTone grid table) (sym t) (λ lobes n e w. sound-lobes grid (lent table) voice g.width-real g.width_above g.rolloff-real g.few u lobes n e w);
      gains = record { first-gain = subst (Upto binary32 3) (sym a) (voice-gain one voice u); second-gain = subst (Upto binary32 3) (sym b) (voice-gain two voice u) };
    }

fair : (grid : Grid) → RealGrid grid → Fair grid
fair grid g = record { rolloff = g.rolloff-real; few = g.few }

pub voice-open : (grid : Grid) → RealGrid grid → (table : List Float) (side : Side) (voice : MaskVoice) → RealVoice voice → (xs : List Float) {ys : List Float} → Opennesses xs
    → ys ≡ map_at (λ bin held. voice_joined grid (lent table) (channel_gain side) bin held voice) xs → Opennesses ys
voice-open grid g table side voice u xs o e = subst Opennesses (sym e) at
  where
    joined : ℕ → Float → Float
    joined bin held = voice_joined grid (lent table) (channel_gain side) bin held voice

    at : Opennesses (map_at joined xs)
    at k h =
        let l : k < length xs = omega (arith, length-map_from joined 0 xs) in
        subst (Upto binary32 3) (sym (get_or-map_at joined xs k nan nan l)) ((voice-join grid (fair grid g) table side k).keeps (get_or xs k nan) voice u (o k l))

pub voice-real : (voices : List MaskVoice) (count i : ℕ) → count ≤ length voices → All RealVoice (take count voices) → i < count → RealVoice (get_or voices i no_voice)
voice-real voices count i l all h = subst RealVoice (get_or-take count voices i no_voice h) (all-at RealVoice (take count voices) i no_voice all (subst (λ n. i < n) (sym (length-take-le count voices l)) h))

-- ---- sides before the first voice
pub zeros-open : (n : ℕ) {xs : List Float} → xs ≡ tabulate n (λ k. zero) → Opennesses xs
zeros-open n {xs} e = subst Opennesses (sym e) at
  where
    at : Opennesses (tabulate n (λ k. zero))
    at k h = subst (Upto binary32 3) (sym (get_d_tabulate (λ k. zero) n k nan (omega (arith, length-tab (λ k. zero) 0 n)))) nothing-open

pub one-zero-open : Opennesses (zero ∷ [])
one-zero-open nat.zero h = nothing-open
one-zero-open (suc k) h = absurd (not-suc-le-zero (le_of_suc-le-suc h))
