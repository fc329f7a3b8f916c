-- How far a station may have come that was started, before it sends a numbered message.
use Rattle.std.specs.Prelude.{Bool, true, false, ◌&&◌, ◌||◌, ◌==◌}
use Rattle.ddcmp_msg.specs.Message.{MessageValue, Data, Ack, Strt, Stack}
use Rattle.accusing.specs.declared.heard.Heard.{Heard}
use Rattle.accusing.specs.declared.beginning.Beginning.{Beginning}
use Rattle.accusing.specs.Heard.{nothing_heard, hears}

abbrev pub nothing_passed : Beginning
nothing_passed = record { strt = false; run = false; heard = nothing_heard }

-- the message leads to RUNNING: a STACK from ISTRT or ASTRT, or RESP 0 from ASTRT
abbrev pub starts : Beginning → MessageValue → Bool
starts b (Stack flags) = true
starts b (Ack flags resp) = b.strt && (resp == 0)
starts b (Data flags resp num body) = b.strt && (resp == 0)
starts b m = false

abbrev pub is_strt : MessageValue → Bool
is_strt (Strt flags) = true
is_strt m = false

abbrev pub heard_if : Bool → Heard → MessageValue → Heard
heard_if true h m = hears h m
heard_if false h m = h

abbrev pub runs : Beginning → MessageValue → Bool
runs b m = b.run || starts b m

-- a message that passed may be heard
abbrev pub begins : Beginning → MessageValue → Beginning
begins b m = record { strt = b.strt || is_strt m; run = runs b m; heard = heard_if (runs b m) b.heard m }
