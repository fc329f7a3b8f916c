-- What a station in RUNNING may have heard of the messages that passed, if it heard all of them in order, or none, or any of them.
use Rattle.std.specs.Prelude.{ℕ, ◌+◌, ◌-◌, Bool, true, false, not, ◌||◌, ◌==◌, nat_le, min, if◌then◌else◌, List, replicate, slice_index_or, slice_set}
use Rattle.wire_base.specs.Seq.{wire_distance}
use Rattle.ddcmp_msg.specs.Message.{MessageValue, Data, Ack, Nak}
use Rattle.dna_station.specs.Station.{wire}
use Rattle.accusing.specs.declared.heard.Heard.{Heard}

-- before any message
abbrev pub nothing_heard : Heard
nothing_heard = record { received = 0; reach = 0; answered = false; nak = false; resps = replicate 256 false }

-- R can be this number
abbrev pub reaches : Heard → ℕ → Bool
reaches h resp = nat_le (wire_distance 256 h.received resp) h.reach

-- one number more can have come in order
abbrev pub rises : Bool → ℕ → ℕ
rises true reach = min 255 (reach + 1)
rises false reach = reach

-- the number after the last that can have come
abbrev pub next_of : Heard → ℕ
next_of h = wire (h.received + h.reach + 1)

-- RESP may acknowledge something
abbrev pub answers : Heard → ℕ → Bool
answers h resp = h.answered || not (resp == 0)

-- that number passed as a RESP
abbrev pub has_resp : Heard → ℕ → Bool
has_resp h resp = slice_index_or h.resps resp false

abbrev pub with_resp : Heard → ℕ → List Bool
with_resp h resp = slice_set h.resps resp true

-- a message that passed may be heard
abbrev pub hears : Heard → MessageValue → Heard
hears h (Data flags resp num body) = record h { reach = rises (num == next_of h) h.reach; answered = answers h resp; resps = with_resp h resp }
hears h (Ack flags resp) = record h { answered = answers h resp; resps = with_resp h resp }
hears h (Nak flags reason resp) = record h { answered = answers h resp; nak = true; resps = with_resp h resp }
hears h m = h

-- R is this number
abbrev pub left_of : ℕ → ℕ → ℕ
left_of reach distance = if nat_le 255 reach then 255 else reach - distance

abbrev pub advanced : Heard → ℕ → Heard
advanced h resp = record h { received = resp; reach = left_of h.reach (wire_distance 256 h.received resp) }
