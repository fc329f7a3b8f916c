-- Each kind of step of a script is right: it goes by its rule, keeps what holds of its end, and is the same of what the nodes of the ends keep.
use Rattle.dna_play.proofs.Prelude.{length, ◌<◌, ℕ, ◌≤◌, stored_plays, Close, Abort, Retry, Accept, Reject, ScriptStep, Start, Halt, Boot}
use Rattle.dna_play.proofs.Prelude.{StepValue, Timer, Send, Deliver, Refuse, Drop, Lose, Damage, IsStep, step_bytes, slice_index}
use Rattle.dna_play.proofs.Stored.Made.{start_right, halt_right, boot_right}
use Rattle.dna_play.proofs.{Stored.Now.StoredNow, Stored.Right.IsRight, Stored.Timers.timer_right, Stored.Timers.lose_right}
use Rattle.dna_play.proofs.{Stored.Noise.noise_right, Stored.Sends.send_right}
use Rattle.dna_play.specs.Script.{In, Open}
use Rattle.dna_play.specs.Script.{Noise}
use Rattle.dna_play.specs.ScriptText.{NumbersFit, most_bytes}
use Rattle.dna_play.proofs.Stored.Opened.{open_right, accept_right, reject_right}
use Rattle.dna_play.proofs.Stored.Receipts.{deliver_right, refuse_right, drop_right, damage_right}
use Rattle.dna_play.proofs.Stored.Handed.{in_right, close_right, abort_right, retry_right}
use Rattle.dna_play.proofs.Ends.TrueEnd.{stored, End, coming}

module _ (own other : End) (now : StoredNow own other) where
  value_right : (value : StepValue) → NumbersFit value → ((i : ℕ) → slice_index (step_bytes value) i < 256) →
      length (step_bytes value) ≤ most_bytes value →
      IsRight own other value (stored_plays (stored own) (coming own other.half) value)
  unfolding stored_plays
  value_right Start numbers bytes short = start_right own other now
  value_right Halt numbers bytes short = halt_right own other now
  value_right Boot numbers bytes short = boot_right own other now
  value_right Timer numbers bytes short = timer_right own other now
  value_right Send numbers bytes short = send_right own other now
  value_right Deliver numbers bytes short = deliver_right own other now
  value_right Refuse numbers bytes short = refuse_right own other now
  value_right Drop numbers bytes short = drop_right own other now
  value_right Lose numbers bytes short = lose_right own other now
  value_right (Damage place value) numbers bytes short = damage_right own other now place value
  value_right (Noise noise) numbers bytes short =
      noise_right own other now noise (record { spelling = record { numbers = numbers; bytes = bytes }; short = short })
  value_right Open numbers bytes short = open_right own other now
  value_right (Accept partner) numbers bytes short = accept_right own other now partner numbers
  value_right (Reject partner) numbers bytes short = reject_right own other now partner numbers
  value_right (In link message) numbers bytes short =
      in_right own other now link message (record { spelling = record { numbers = numbers; bytes = bytes }; short = short })
  value_right (Close link) numbers bytes short = close_right own other now link numbers
  value_right (Abort link) numbers bytes short = abort_right own other now link numbers
  value_right (Retry link) numbers bytes short = retry_right own other now link

  pub step_right : (step : ScriptStep) → IsStep step →
      IsRight own other step.step (stored_plays (stored own) (coming own other.half) step.step)
  step_right step fits = value_right step.step fits.spelling.numbers fits.spelling.bytes fits.short
