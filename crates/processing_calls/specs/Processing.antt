-- What the open calls on windows and gain lists answer: document 01's tests, in the order of the
-- refusals' numbers. Assumes nothing.
use Rattle.std.specs.Prelude.{Bool, cond, not, ◌&&◌, List, [], ◌∷◌, ℕ, ltb, eqb, length, get_or, Float}
use Rattle.std.specs.Float.{nan}
use Rattle.lists.specs.Folds.{first_bad}
use Rattle.answer.specs.Refusal.{SIZE_OR_RATE, SETTING, LENGTH, LIST_VALUE, OVERLAP}
use Rattle.answer.specs.Reply.{Reply, done, refused}
use Rattle.limits.specs.Limits as limits
use Rattle.limits.specs.Lengths.{window_length, gains_length, block_length}
use Rattle.windows.specs.Windows.{coherent_gain}

-- the lowest index of a value outside its limits, in one list or in either of two of equal length
abbrev pub first_outside : (Float → Bool) → List Float → ℕ
first_outside limit xs = first_bad (λ k x. limit x) xs

abbrev pub first_pair_outside : (Float → Bool) → List Float → List Float → ℕ
first_pair_outside limit xs ys = first_bad (λ k x. limit x && limit (get_or ys k nan)) xs

-- Refusal 4: the lengths, the synthesis window having n entries. Refusal 7: an analysis value, at
-- its index. Refusal 8: the overlap.
unfoldable pub dual_reply : List Float → ℕ → ℕ → Reply
dual_reply analysis n overlap =
    let index = first_outside limits.window_value analysis in
    cond (not (window_length (length analysis))) (refused LENGTH 0)
    (cond (not (eqb (length analysis) n)) (refused LENGTH 0)
    (cond (ltb index (length analysis)) (refused LIST_VALUE index)
    (cond (not (limits.overlap overlap (length analysis))) (refused OVERLAP 0)
    (done []))))

-- Refusal 4: the lengths, the output having n entries. Refusal 7: a gain, at its index.
unfoldable pub soften_reply : List Float → ℕ → Reply
soften_reply source n =
    let index = first_outside limits.gain source in
    cond (not (gains_length (length source))) (refused LENGTH 0)
    (cond (not (eqb (length source) n)) (refused LENGTH 0)
    (cond (ltb index (length source)) (refused LIST_VALUE index)
    (done [])))

-- Refusal 2: the time. Refusal 4: the lengths. Refusal 7: a gain of either list, at the lowest
-- index.
unfoldable pub smooth_reply : List Float → List Float → Float → Reply
smooth_reply current target elapsed =
    let index = first_pair_outside limits.gain current target in
    cond (not (limits.elapsed elapsed)) (refused SETTING 0)
    (cond (not (gains_length (length current))) (refused LENGTH 0)
    (cond (not (eqb (length current) (length target))) (refused LENGTH 0)
    (cond (ltb index (length current)) (refused LIST_VALUE index)
    (done []))))

-- Refusal 1: the size, which is the window's length, and the rate. Refusal 4: the lengths, the
-- block having n entries. Refusal 7: a value of either window, at the lowest index. Refusal 8: the
-- overlap. Else both coherent gains.
unfoldable pub prepared_reply : Float → List Float → List Float → ℕ → ℕ → Reply
prepared_reply rate window smooth overlap n =
    let index = first_pair_outside limits.window_value window smooth in
    cond (not (limits.size (length window))) (refused SIZE_OR_RATE 0)
    (cond (not (limits.rate rate)) (refused SIZE_OR_RATE 0)
    (cond (not (eqb (length window) (length smooth))) (refused LENGTH 0)
    (cond (not (eqb n (block_length (length window)))) (refused LENGTH 0)
    (cond (ltb index (length window)) (refused LIST_VALUE index)
    (cond (not (limits.overlap overlap (length window))) (refused OVERLAP 0)
    (done (coherent_gain window ∷ coherent_gain smooth ∷ [])))))))
