-- What a unit says, as far as a station goes by it: all but its flags and its packet.
use Rattle.std.specs.Prelude.{ℕ, Option, Some, None, []}
use Rattle.ddcmp_msg.specs.Message as message
use Rattle.ddcmp_msg.specs.Message.{MessageValue, flags_of}
use Rattle.ddcmp_msg.specs.Reading.{ReadingValue, Sound}
use Rattle.placing.specs.Counted.{bare}
use Rattle.placing.specs.declared.said.Said.{Said}
use Rattle.placing.specs.declared.said.Said.TheVariants.{Strt, Stack, Ack, Nak, Rep, Data, Nothing}

-- the message without flags and packet that says this, if it is one
abbrev pub message_of : Said → Option MessageValue
message_of Strt = Some (message.Strt (flags_of 0))
message_of Stack = Some (message.Stack (flags_of 0))
message_of (Ack resp) = Some (message.Ack (flags_of 0) resp)
message_of (Nak reason resp) = Some (message.Nak (flags_of 0) reason resp)
message_of (Rep num) = Some (message.Rep (flags_of 0) num)
message_of (Data resp num) = Some (message.Data (flags_of 0) resp num [])
message_of Nothing = None

-- the message of a unit, without them; none of one that is no message, or is damaged
abbrev pub bare_in : ReadingValue → Option MessageValue
bare_in (Sound m) = Some (bare m)
bare_in reading = None

-- the response that this has, if it has one
abbrev pub resp_in : Said → Option ℕ
resp_in (Ack resp) = Some resp
resp_in (Nak reason resp) = Some resp
resp_in (Data resp num) = Some resp
resp_in said = None

-- the same with this response in the place of its own, if it has one
abbrev pub with_resp : Said → ℕ → Said
with_resp (Ack own) resp = Ack resp
with_resp (Nak reason own) resp = Nak reason resp
with_resp (Data own num) resp = Data resp num
with_resp said resp = said
