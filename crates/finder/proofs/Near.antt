-- Looking through a stretch part by part: the rest of it, from a place on, has the same frames, further back.
use Rattle.std.proofs.Common.{◌≡◌, ℕ, ◌+◌, ◌-◌, ◌<◌, false, ◌&&◌, List, length, get_or, take, drop, arith, sym, ap, ◌∙◌, length-drop, get_or-drop}
use native.Mathlib.Decide.{dec_lt}
use lib.Seq.{drop-drop}
use lib.Dec.{leb}
use Rattle.fletcher.specs.Fletcher.{is_good}
use Rattle.ground.proofs.Runs.{rest_is}
use Rattle.frame.specs.Frame.{takes_subnet}
use Rattle.finder.specs.Finder.{length_at, subnet_at, holds_frame}

module _ (ours : ℕ) (s : List ℕ) (a : ℕ) where
  -- a frame of the rest, as code cuts it, is a frame of the stretch
  pub later : (i : ℕ) → holds_frame ours (take (length s - a) (drop a s)) i ≡ holds_frame ours s (a + i)
  unfolding holds_frame
  later i = ap (λ r. holds_frame ours r i) (rest_is s a) ∙ λ j. takes_subnet ours (u j) && (leb (n j) 240 && (leb (12 + n j) (m j) && is_good (take (12 + n j) (d j))))
    where
      n : length_at (drop a s) i ≡ length_at s (a + i)
      n = get_or-drop a s (i + 9) 0 ∙ ap (λ (k : ℕ). get_or s k 0) (let e : a + (i + 9) ≡ a + i + 9 = omega arith in e)

      u : subnet_at (drop a s) i ≡ subnet_at s (a + i)
      u = get_or-drop a s (i + 2) 0 ∙ ap (λ (k : ℕ). get_or s k 0) (let e : a + (i + 2) ≡ a + i + 2 = omega arith in e)

      m : length (drop a s) - i ≡ length s - (a + i)
      m = simp length-drop (omega arith)

      d : drop i (drop a s) ≡ drop (a + i) s
      d = drop-drop i a s

  -- none up to there, and none of the first n of the rest
  pub further : (n : ℕ) → ((j : ℕ) → j < a → holds_frame ours s j ≡ false) → ((j : ℕ) → j < n → holds_frame ours (take (length s - a) (drop a s)) j ≡ false) → (j : ℕ) → j < a + n → holds_frame ours s j ≡ false
  further n before none j u = go (dec_lt j a)
    where
      go : Dec (j < a) → holds_frame ours s j ≡ false
      go (yes b) = before j b
      go (no b) = ap (holds_frame ours s) (let e : j ≡ a + (j - a) = omega (arith, b) in e) ∙ sym (later (j - a)) ∙ none (j - a) (omega (arith, b))
