-- What the three motion calls answer. Refusal 2: "a setting or lone number outside its limits, or
-- NaN". Assumes nothing.
use Rattle.std.specs.Prelude.{cond, not, [], ◌∷◌, Float}
use Rattle.answer.specs.Refusal.{SETTING}
use Rattle.answer.specs.Reply.{Reply, done, refused}
use Rattle.limits.specs.Limits as limits
use Rattle.scene.specs.declared.MotionConfig.{MotionConfig}
use Rattle.scene.specs.Accepted.{motion_accepted}
use Rattle.motion.specs.Field.{openness, attenuation}
use Rattle.motion_compensation.specs.Compensation.{compensation}

-- what a call at a frequency answers that is asked for this value
abbrev pub at_frequency : Float → MotionConfig → Float → Reply
at_frequency frequency config value =
    cond (not (limits.frequency frequency)) (refused SETTING 0)
    (cond (not (motion_accepted config)) (refused SETTING 0)
    (done (value ∷ [])))

abbrev pub openness_reply : Float → MotionConfig → Reply
openness_reply frequency config = at_frequency frequency config (openness frequency config)

abbrev pub attenuation_reply : Float → MotionConfig → Reply
attenuation_reply frequency config = at_frequency frequency config (attenuation frequency config)

abbrev pub compensation_reply : MotionConfig → Reply
compensation_reply config =
    cond (not (motion_accepted config)) (refused SETTING 0) (done (compensation config ∷ []))
