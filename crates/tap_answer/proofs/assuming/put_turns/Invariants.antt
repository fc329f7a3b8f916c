use Rattle.std.proofs.Common.{◌≡◌, ◌++◌, string_bytes, take}
use Rattle.std.specs.List.{flat_map}
use Rattle.tap_answer.specs.Words.{turn_words}
use Rattle.tap_answer.proofs.assuming.put_turns.Given as goal

abbrev pub invariant-loop-turn : goal.invariant-loop-turn
invariant-loop-turn l = string_bytes l.text ≡ string_bytes l.initial.text ++ flat_map turn_words (take l.turn-index l.turns)
